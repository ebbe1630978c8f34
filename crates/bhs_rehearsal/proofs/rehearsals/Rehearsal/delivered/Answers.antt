use Rattle.std.proofs.Common.{subst, slice_set}
use Rattle.bhs_rehearsal.specs.Choices.{chosen}
use Rattle.bhs_rehearsal.specs.Stages.{game_at}
use Rattle.bhs_rehearsal.specs.Rehearsing.{Rehearsing}
use Rattle.bhs_rehearsal.specs.Takings.{IsDrawn, after_draw}
use Rattle.bhs_rehearsal.proofs.StageLemmas.{rehearsing, game_within, draws_lemma}
use Rattle.bhs_rehearsal.proofs.rehearsals.Rehearsal.delivered.Goals as goal

pub returns : goal.returns
returns c =
    let inside = c.self.inside in
    let game = c.args.game in
    subst (λ (old : Rehearsing). IsDrawn old game
    (after_draw (game_at old.stage game) (chosen (game_at old.stage game) c.args.choice)) c.args.text.now.items
    c.deliver_chosen.result c.deliver_chosen.new.text.items
    (rehearsing (slice_set inside.ready.items game c.deliver_chosen.new.ready) inside.keys inside.connections.items
    inside.has_failed)) c.self.view_is
    (draws_lemma inside.ready.items inside.keys inside.connections.items inside.has_failed game c.args.choice
    c.index_mut-ready.result.now c.deliver_chosen.new.ready c.args.text.now.items c.deliver_chosen.new.text.items
    c.deliver_chosen.result
    (game_within inside.ready.items inside.keys inside.connections.items inside.has_failed c.args.self.now game
    c.self.view_is c.requires) c.index_mut-ready.ensures.value c.deliver_chosen.ensures.drawn
    c.deliver_chosen.ensures.team)
