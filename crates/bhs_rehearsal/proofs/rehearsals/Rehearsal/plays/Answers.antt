use Rattle.std.proofs.Common.{subst, slice_set}
use Rattle.bhs_rehearsal.specs.Stages.{plays}
use Rattle.bhs_rehearsal.specs.Rehearsing.{Rehearsing}
use Rattle.bhs_rehearsal.specs.Takings.{IsMoved}
use Rattle.bhs_rehearsal.proofs.StageLemmas.{rehearsing, game_within, connection_within, plays_lemma}
use Rattle.bhs_rehearsal.proofs.rehearsals.Rehearsal.plays.Goals as goal

pub returns : goal.returns
returns c =
    let inside = c.self.inside in
    let seat = c.args.seat in
    subst (λ (old : Rehearsing). IsMoved old (plays old.stage c.args.conn seat) c.args.text.now.items
    c.take_queued.result c.take_queued.new.text.items
    (rehearsing (slice_set inside.ready.items seat.0 c.take_queued.new.ready) inside.keys
    (slice_set inside.connections.items c.args.conn c.take_queued.new.self) inside.has_failed)) c.self.view_is
    (plays_lemma inside.ready.items inside.keys inside.connections.items inside.has_failed c.args.conn seat
    c.index_mut-ready.result.now c.take_queued.new.ready c.index_mut-connection.result.now c.take_queued.new.self
    c.args.text.now.items c.take_queued.new.text.items c.take_queued.result
    (game_within inside.ready.items inside.keys inside.connections.items inside.has_failed c.args.self.now seat.0
    c.self.view_is c.requires.game) c.index_mut-ready.ensures.value
    (connection_within inside.ready.items inside.keys inside.connections.items inside.has_failed c.args.self.now
    c.args.conn c.self.view_is c.requires.conn) c.index_mut-connection.ensures.value c.take_queued.ensures.game
    c.take_queued.ensures.text c.take_queued.ensures.connection c.take_queued.ensures.team)
