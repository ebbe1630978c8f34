use Rattle.std.proofs.Common.{◌<◌, ◌≤◌, ◌-◌, ◌≡◌, ◌∙◌, ◌++◌, take, ℕ, suc, [], ◌∷◌, Some, get_or, length}
use Rattle.std.proofs.Common.{sym, ap, arith, subst}
use Rattle.std.proofs.Common.{List}
use Rattle.bhs_model.specs.declared.marks.Kept.{Kept}
use Rattle.bhs_model.specs.Marks.{events_of}
use Rattle.bhs_model.specs.Runs.{State}
use Rattle.bhs_agents.specs.Searchers.{observation_of}
use Rattle.bhs_agents.proofs.WakeUpLemmas.{since_room}
use Rattle.bhs_attest.specs.declared.turns.Turn.{Turn}
use Rattle.bhs_attest.specs.Attested.{Player, observed, is_listening}
use Rattle.bhs_attest.specs.Followers.{IsFollower}
use Rattle.bhs_attest.specs.Turns.{Takes}
use Rattle.bhs_attest.proofs.LogLemmas.{event_at, same_event}
use Rattle.bhs_attest.proofs.FollowerLemmas.{counting}
use Rattle.bhs_attest.proofs.FollowLemmas.{IsAt, at_start, idle_on, event_on, idle_few, event_few, woken_once, state_is}
use Rattle.bhs_attest.proofs.follow.attest.Goals.{in-Idles+in_ok-follower-in-Idles, in-Passes+in_ok-follower-in-Passes}
use Rattle.bhs_attest.proofs.follow.attest.Goals as goal

pub loop-spent-init : goal.loop-spent-init
loop-spent-init g c =
    ([], [], (at_start _ c.args.sealed.now c.in-Ok.game c.in-Ok.ensures, c.in_ok-follower.ensures.is, omega arith))

pub observe-requires-clause-since : goal.observe-requires-clause-since
observe-requires-clause-since g c =
    let (old, history, (at, is, few)) = c.loop-spent.invariant in
    since_room c.args.limits.spurious_wakeups history c.loop-spent.follower.wake_ups
    (counting _ _ _ _ history c.loop-spent.follower is) c.in_ok-follower.ensures.small

pub observe-requires-in-Passes-clause-since : goal.observe-requires-in-Passes-clause-since
observe-requires-in-Passes-clause-since g c =
    let (old, history, (at, is, few)) = c.loop-spent.invariant in
    since_room c.args.limits.spurious_wakeups history c.loop-spent.follower.wake_ups
    (counting _ _ _ _ history c.loop-spent.follower is) c.in_ok-follower.ensures.small

pub loop-spent-preserved : goal.loop-spent-preserved
loop-spent-preserved g c =
    let (old, history, (at, is, few)) = c.loop-spent.invariant in
    let it = g.S.Searcher in
    let play = c.args.sealed.now in
    let own = it.strategy c.args.searcher in
    let limit = c.args.limits.spurious_wakeups in
    let player : Player = record { agent = c.args.agent; strategy = own; wakeups = limit } in
    let place = c.loop-spent.place in
    let before : place < length play.log - 1 =
    let log = ap (λ (log : List Kept). length log) c.log-log.ensures.log in
    omega (arith, log, c.if-log-place-le1.false) in
    let within : place < length play.log = omega (arith, before) in
    let one = c.index-log-place.result in
    let event = (get_or c.log-log.result.now place one).event in
    let there = event_at play.log place one within
    (subst (λ (log : List Kept). one ≡ get_or log place one) c.log-log.ensures.log c.index-log-place.is)
    ∙ ap (λ (kept : Kept). take place (events_of play.log) ++ kept.event ∷ []) c.index-log-place.is in
    let follower = c.loop-spent.follower in
    let turns = λ (turn : Turn). Takes c.args.agent follower.wake_ups c.loop-spent.game event follower.step turn
    c.take_turn.new.game in
    elim c.match-turn.branch [
      | in-Idles+in_ok-follower-in-Idles w ↦
          let waits = subst turns w.in-Idles.is c.in-Ok-take_turn.ensures in
          let next = observation_of w.in-Idles.news ∷ history in (
            old,
            next,
            (
              subst (λ (n : ℕ). IsAt player play n c.take_turn.new.game old next) (sym w.place-is)
                  (idle_on player play c.loop-spent.game place old history at event follower.step follower.wake_ups
                  w.in-Idles.news c.take_turn.new.game before there is.does
                  (counting it.strategy it.has_met own limit history follower is) waits),
              subst (IsFollower it.strategy it.has_met own limit next) (sym w.follower-is)
                  (w.in_ok-follower-in-Idles.ensures own limit history is
                  (λ news same woke. subst (λ (n : ℕ). follower.wake_ups.in_a_row ≤ n) is.same_limit
                  (idle_few c.args.agent follower.wake_ups c.loop-spent.game c.take_turn.new.game event
                  follower.step w.in-Idles.news news waits same woke))),
              woken_once (Some w.in-Idles.news) history c.loop-spent.spent few,
            ),
          )
      | in-Passes+in_ok-follower-in-Passes w ↦
          let goes = subst turns w.in-Passes.is c.in-Ok-take_turn.ensures in
          let next = observed w.in-Passes.news history in
          let further : suc place ≡ c.match-turn.place = let is = w.place-is in omega (arith, is) in (
            next,
            next,
            (
              subst (λ (n : ℕ). IsAt player play n c.take_turn.new.game next next) further
                  (event_on player play c.loop-spent.game place old history at event follower.step w.in-Passes.news
                  c.take_turn.new.game before there is.does goes),
              subst (IsFollower it.strategy it.has_met own limit next) (sym w.follower-is)
                  (w.in_ok-follower-in-Passes.ensures own limit history is
                  (λ news same woke. absurd (event_few c.args.agent c.loop-spent.game c.take_turn.new.game event
                  follower.step w.in-Passes.news news goes same woke))),
              woken_once w.in-Passes.news history c.loop-spent.spent few,
            ),
          )
    ]

pub returns-in-Differs : goal.returns-in-Differs
returns-in-Differs g c =
    let (old, history, (at, is, few)) = c.loop-spent.invariant in
    let play = c.args.sealed.now in
    let place = c.loop-spent.place in
    let within : place < length play.log =
    let log = ap (λ (log : List Kept). length log) c.log-log.ensures.log in
    omega (arith, log, c.if-log-place-le1.false) in
    let one = c.index-log-place.result in
    let event = (get_or c.log-log.result.now place one).event in
    let there = event_at play.log place one within
    (subst (λ (log : List Kept). one ≡ get_or log place one) c.log-log.ensures.log c.index-log-place.is)
    ∙ ap (λ (kept : Kept). take place (events_of play.log) ++ kept.event ∷ []) c.index-log-place.is in
    let turns = λ (turn : Turn). Takes c.args.agent c.loop-spent.follower.wake_ups c.loop-spent.game event
    c.loop-spent.follower.step turn c.take_turn.new.game in
    record {
      old = old;
      history = history;
      follows = at.follows;
      idles = at.idles;
      does = is.does;
      differs = λ command other listens. subst turns c.in-Differs.is c.in-Ok-take_turn.ensures command
          (same_event (events_of play.log) place event _ there other)
          (ap (λ (state : State). is_listening (state.position c.args.agent))
          (state_is _ play c.loop-spent.game place old history at) ∙ listens);
    }
