use Rattle.std.proofs.Common.{◌≡◌, false, None, length, slice_set, sym, ◌∙◌, subst, arith}
use Rattle.std.specs.List.{list_any}
use Rattle.std.proofs.lemmas.List.{length-set}
use Rattle.bhs_rehearsal.specs.Stages.{has_seat, plays}
use Rattle.bhs_rehearsal.specs.Rehearsing.{Rehearsing}
use Rattle.bhs_rehearsal.specs.Takings.{IsMoved}
use Rattle.bhs_rehearsal.proofs.HolderLemmas.{held-taken}
use Rattle.bhs_rehearsal.proofs.StageLemmas.{rehearsing, game_within, connection_within, plays_lemma}
use Rattle.bhs_rehearsal.proofs.StageLemmas.{seat_read, set_seated}
use Rattle.bhs_rehearsal.proofs.rehearsals.Rehearsal.sits.Goals as goal

pub invariant_of-self-2 : goal.invariant_of-self-2
invariant_of-self-2 c =
    let inside = c.self.inside in
    let connections = inside.connections.items in
    let conn = c.args.conn in
    let seat = c.args.seat in
    let within = connection_within inside.ready.items inside.keys connections inside.has_failed c.args.self.now conn
    c.self.view_is c.requires.conn in
    let game = game_within inside.ready.items inside.keys connections inside.has_failed c.args.self.now seat.0
    c.self.view_is c.requires.game in
    let count : length (slice_set inside.ready.items seat.0 c.take_queued.new.ready) ≡ length inside.ready.items =
    length-set inside.ready.items seat.0 c.take_queued.new.ready in
    let none = seat_read inside.ready.items inside.keys connections inside.has_failed c.args.self.now conn
    c.index_mut-connection.result.now None c.self.view_is within c.index_mut-connection.ensures.value
    c.requires.outside in
    let free : list_any (has_seat seat) connections ≡ false =
    subst (λ (one : Rehearsing). list_any (has_seat seat) one.stage.connections ≡ false) (sym c.self.view_is)
    c.requires.free in (
      omega (arith, length-set connections conn c.take_queued.new.self, c.self.invariant.0),
      set_seated (length inside.ready.items) _ connections conn c.take_queued.new.self seat (sym count) game
          c.take_queued.ensures.seat c.self.invariant.1,
      c.seat.ensures.games ∙ c.self.invariant.2 ∙ sym count,
      held-taken inside.holders c.seat.new.self connections conn c.index_mut-connection.result.now
          c.take_queued.new.self seat within c.index_mut-connection.ensures.value none
          c.take_queued.ensures.seat free c.in_ok-seat.ensures.ok
          c.self.invariant.3,
    )

pub returns : goal.returns
returns c =
    let inside = c.self.inside in
    let seat = c.args.seat in
    subst (λ (old : Rehearsing). IsMoved old (plays old.stage c.args.conn seat) c.args.text.now.items
    c.take_queued.result c.take_queued.new.text.items
    (rehearsing (slice_set inside.ready.items seat.0 c.take_queued.new.ready) inside.keys
    (slice_set inside.connections.items c.args.conn c.take_queued.new.self) inside.has_failed)) c.self.view_is
    (plays_lemma inside.ready.items inside.keys inside.connections.items inside.has_failed c.args.conn seat
    c.index_mut-ready.result.now c.take_queued.new.ready c.index_mut-connection.result.now c.take_queued.new.self
    c.args.text.now.items c.take_queued.new.text.items c.take_queued.result
    (game_within inside.ready.items inside.keys inside.connections.items inside.has_failed c.args.self.now seat.0
    c.self.view_is c.requires.game) c.index_mut-ready.ensures.value
    (connection_within inside.ready.items inside.keys inside.connections.items inside.has_failed c.args.self.now
    c.args.conn c.self.view_is c.requires.conn) c.index_mut-connection.ensures.value c.take_queued.ensures.game
    c.take_queued.ensures.text c.take_queued.ensures.connection c.take_queued.ensures.team)
