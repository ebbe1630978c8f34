use Rattle.std.proofs.Common.{◌∙◌}
use Rattle.bhs_world.proofs.ShowLemmas.{shows_same}
use Rattle.bhs_world.proofs.worlds.World.shows.Goals as goal

pub returns : goal.returns
returns c = λ log stands. c.shows_board.ensures.shows ∙ shows_same c.args.self.now log c.args.agent c.args.command.now
    c.shows_board.ensures.sound stands
