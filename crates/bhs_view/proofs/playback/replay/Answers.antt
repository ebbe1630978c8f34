use Rattle.std.proofs.Common.{take, ◌+◌, sym, ap, ◌∙◌, subst}
use Rattle.bhs_model.specs.Cuts.{at_places}
use Rattle.bhs_model.specs.Marks.{events_of}
use Rattle.bhs_model.specs.declared.events.Event.TheVariants.{Close}
use Rattle.bhs_model.specs.declared.marks.Kept.{Kept}
use Rattle.bhs_match.specs.Matches.{Play}
use Rattle.bhs_view.proofs.PlayingLemmas.{HasPlayed, plays_chosen, plays_omitted, plays_all, plays_on, ends}
use Rattle.bhs_view.proofs.PlayingLemmas.{is_open_none, is_sealed}
use Rattle.bhs_view.proofs.playback.replay.Goals.{then-set-place+in_ok-try_clone, else-set-place}
use Rattle.bhs_view.proofs.playback.replay.Goals as goal

pub loop-place-preserved : goal.loop-place-preserved
loop-place-preserved c = elim c.if-set-place.branch [
  | then-set-place+in_ok-try_clone w ↦ subst (λ (game : Play). HasPlayed c.args.game
      (at_places (take (c.loop-place.place + 1) (events_of c.args.log.now)) c.args.set.now) game) (sym w.game-is)
      (plays_chosen c.args.game c.loop-place.game w.apply.new.self c.args.log.now c.args.set.now c.loop-place.place
      w.index-log-place.result w.in_ok-try_clone.field-0 _
      c.loop-place-test.true c.requires.set w.index-log-place.is w.if-set-place.true
      (w.in_ok-try_clone.ensures ∙ ap (λ (kept : Kept). kept.event) (sym w.index-log-place.is))
      c.loop-place.invariant w.apply.ensures.log w.apply.ensures.same)
  | else-set-place w ↦ subst (λ (game : Play). HasPlayed c.args.game
      (at_places (take (c.loop-place.place + 1) (events_of c.args.log.now)) c.args.set.now) game) (sym w.game-is)
      (plays_omitted c.args.game c.loop-place.game c.args.log.now c.args.set.now c.loop-place.place
      c.loop-place-test.true c.requires.set w.if-set-place.false c.loop-place.invariant)
]

pub unreachable-requires : goal.unreachable-requires
unreachable-requires c =
    let done = at_places (events_of c.args.log.now) c.args.set.now in
    let all = plays_all c.args.game c.loop-place.game c.args.log.now c.args.set.now c.loop-place.place
    c.loop-place-test.false c.loop-place.invariant in
    let on = plays_on c.args.game c.loop-place.game c.apply-2.new.self done Close _ all c.apply-2.ensures.log
    c.apply-2.ensures.same in
    is_open_none _ c.apply-2.new.self c.in-Err.field-0 c.sealed.result ⊥ c.sealed.ensures
    (ends c.args.game c.apply-2.new.self done on) c.in-Err.is

pub returns-clause-log : goal.returns-clause-log
returns-clause-log c =
    let done = at_places (events_of c.args.log.now) c.args.set.now in
    let all = plays_all c.args.game c.loop-place.game c.args.log.now c.args.set.now c.loop-place.place
    c.loop-place-test.false c.loop-place.invariant in
    let on = plays_on c.args.game c.loop-place.game c.apply-2.new.self done Close _ all c.apply-2.ensures.log
    c.apply-2.ensures.same in
    let same = is_sealed _ c.apply-2.new.self c.in-Ok.sealed c.sealed.result c.sealed.ensures
    (ends c.args.game c.apply-2.new.self done on) c.in-Ok.is in
    on.log ∙ ap (λ (play : Play). events_of play.log) (sym same)

pub returns-clause-same : goal.returns-clause-same
returns-clause-same c =
    let done = at_places (events_of c.args.log.now) c.args.set.now in
    let all = plays_all c.args.game c.loop-place.game c.args.log.now c.args.set.now c.loop-place.place
    c.loop-place-test.false c.loop-place.invariant in
    let on = plays_on c.args.game c.loop-place.game c.apply-2.new.self done Close _ all c.apply-2.ensures.log
    c.apply-2.ensures.same in
    let same = is_sealed _ c.apply-2.new.self c.in-Ok.sealed c.sealed.result c.sealed.ensures
    (ends c.args.game c.apply-2.new.self done on) c.in-Ok.is in
    (ap (λ (play : Play). play.net) same ∙ on.net, ap (λ (play : Play). play.setup) same ∙ on.setup)

pub returns-clause-replies : goal.returns-clause-replies
returns-clause-replies c =
    let done = at_places (events_of c.args.log.now) c.args.set.now in
    let all = plays_all c.args.game c.loop-place.game c.args.log.now c.args.set.now c.loop-place.place
    c.loop-place-test.false c.loop-place.invariant in
    let on = plays_on c.args.game c.loop-place.game c.apply-2.new.self done Close _ all c.apply-2.ensures.log
    c.apply-2.ensures.same in
    let same = is_sealed _ c.apply-2.new.self c.in-Ok.sealed c.sealed.result c.sealed.ensures
    (ends c.args.game c.apply-2.new.self done on) c.in-Ok.is in
    rw same c.log-legal.ensures.replies
