use Rattle.std.proofs.Common.{ap, arith}
use Rattle.bhs_world.specs.Tables.{Table}
use Rattle.bhs_world.proofs.SoundLemmas.{sound_played}
use Rattle.bhs_world.proofs.worlds.World.hear.Goals as goal

pub invariant_of-self : goal.invariant_of-self
invariant_of-self c =
    let inside = c.self.inside in
    let table : Table = record {
      net = inside.net;
      setup = inside.setup;
      agents = inside.agents.items;
      boards = inside.boards.items;
      closed = inside.closed;
    } in
    let same_agents = ap (λ (table : Table). table.setup.agents) c.self.view_is in (
      sound_played table c.args.log.now c.from.result c.args.command.now _ _ _ _ _ _ c.self.invariant.0
          (omega (arith, same_agents))
          c.index_mut-agent.ensures.value c.standing.ensures c.advance.ensures c.deref_mut.ensures.value (omega arith)
          c.answer-mark.ensures.boards,
      c.self.invariant.1,
    )
