use Rattle.std.proofs.Common.{◌≡◌, sym, ap, ◌∙◌, subst, slice_set}
use Rattle.bhs_model.specs.declared.events.Event.TheVariants.{Close}
use Rattle.bhs_rehearsal.specs.Games.{Game, played}
use Rattle.bhs_rehearsal.specs.Stages.{game_at, with_game}
use Rattle.bhs_rehearsal.specs.Rehearsing.{Rehearsing, on_stage}
use Rattle.bhs_rehearsal.proofs.StageLemmas.{rehearsing, game_within, game_read, with_ready}
use Rattle.bhs_rehearsal.proofs.rehearsals.Rehearsal.plays_close.Goals as goal

pub returns : goal.returns
returns c =
    let inside = c.self.inside in
    let game = c.args.game in
    let ready = c.index_mut-ready.result.now in
    let read = c.index_mut-ready.ensures.value in
    subst (λ (old : Rehearsing). rehearsing (slice_set inside.ready.items game c.play_event.new.ready) inside.keys
    inside.connections.items inside.has_failed
    ≡ on_stage old (with_game old.stage game (played (game_at old.stage game) Close))) c.self.view_is
    (with_ready inside.ready.items inside.keys inside.connections.items inside.has_failed game ready
    c.play_event.new.ready _ read
    (c.play_event.ensures.game ∙ ap (λ (one : Game). played one Close)
    (sym (game_read inside.ready.items inside.keys inside.connections.items game ready
    (game_within inside.ready.items inside.keys inside.connections.items inside.has_failed c.args.self.now game
    c.self.view_is c.requires) read)))
    c.play_event.ensures.team)
