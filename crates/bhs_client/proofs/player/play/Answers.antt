use Rattle.std.proofs.Common.{◌∙◌, [], ◌∷◌, Some, refl, sym, ap}
use Rattle.std.proofs.lemmas.Result.{IfOk-weaker}
use Rattle.bhs_client.specs.declared.player.PlayEnd.{PlayEnd}
use Rattle.bhs_agents.specs.Searchers.{observation_of}
use Rattle.bhs_agents.specs.declared.searchers.SearcherFault.TheVariants as searcher_fault
use Rattle.bhs_client.specs.Talks.{begins, silent}
use Rattle.bhs_agents.proofs.WakeUpLemmas.{counting_none, counting_on, row_room, since_room}
use Rattle.bhs_client.proofs.TalkLemmas.{follows_on, talks_on, breaks_off, then_off, not_failed, by_fault, on_fault}
use Rattle.bhs_client.proofs.player.play.Goals as goal

pub loop-init : goal.loop-init
loop-init g c = (
  [],
  (
    begins,
    c.in_ok-step.ensures,
    counting_none c.args.limits.spurious_wakeups c.new-wake_ups.result c.new-wake_ups.ensures.limit
        c.new-wake_ups.ensures.none,
  ),
)

pub loop-preserved : goal.loop-preserved
loop-preserved g c =
    let (history, (talks, follows, counting)) = c.loop.invariant in
    let it = g.C.ServerConnection in
    let agent = g.S.Searcher in
    let item = observation_of c.in_ok-news.news in (
      item ∷ history,
      (
        talks_on it.says it.hears c.args.limits.spurious_wakeups c.loop.wake_ups
            (agent.strategy c.args.searcher.now) c.args.key.now c.args.connection.now
            c.loop.connection c.meet.new.connection history item c.loop.step talks follows.is_next
            counting c.in_ok-news.ensures.met,
        follows_on agent.strategy agent.has_met c.args.searcher.now c.loop.searcher c.next.new.self history item
            c.loop.step c.in_ok-step-2.step follows (c.in_ok-step-2.ensures history follows.met),
        counting_on _ history c.loop.wake_ups c.in_ok-wake_ups.wake_ups item counting
            c.in_ok-wake_ups.ensures.limit c.in_ok-wake_ups.ensures.count c.in_ok-news.ensures.woke,
      ),
    )

pub returns-in-Some-clause-ended : goal.returns-in-Some-clause-ended
returns-in-Some-clause-ended g c =
    let (history, (talks, follows, counting)) = c.loop.invariant in
    let it = g.C.ServerConnection in
    let agent = g.S.Searcher in
    let item = observation_of c.in_ok-news.news in
    let after = follows_on agent.strategy agent.has_met c.args.searcher.now c.loop.searcher c.next.new.self history
    item c.loop.step c.in_ok-step-2.step follows (c.in_ok-step-2.ensures history follows.met) in
    IfOk-weaker c.end_of.result _ _ (λ ended is. record {
      history = history;
      item = item;
      talks = talks_on it.says it.hears c.args.limits.spurious_wakeups c.loop.wake_ups
          (agent.strategy c.args.searcher.now) c.args.key.now c.args.connection.now
          c.loop.connection c.meet.new.connection history item c.loop.step talks follows.is_next
          counting c.in_ok-news.ensures.met;
      last = sym c.ended_by.ensures ∙ (c.in-Some.is ∙ ap (λ (end : PlayEnd). Some end) (sym is.0));
      fine = λ fails. is.1 (after.is_next ∙ fails);
    }) c.end_of.ensures.ended

pub returns-in-Some-clause-broken : goal.returns-in-Some-clause-broken
returns-in-Some-clause-broken g c =
    let (history, (talks, follows, counting)) = c.loop.invariant in
    let it = g.C.ServerConnection in
    let agent = g.S.Searcher in
    let item = observation_of c.in_ok-news.news in
    let after = follows_on agent.strategy agent.has_met c.args.searcher.now c.loop.searcher c.next.new.self history
    item c.loop.step c.in_ok-step-2.step follows (c.in_ok-step-2.ensures history follows.met) in
    on_fault _ c.end_of.result (λ why fails.
    breaks_off it.says it.hears it.cuts it.loses c.args.limits.spurious_wakeups (agent.strategy c.args.searcher.now)
    c.args.key.now
    c.args.connection.now c.meet.new.connection c.meet.new.connection (item ∷ history) c.in_ok-step-2.step why
    (talks_on it.says it.hears c.args.limits.spurious_wakeups c.loop.wake_ups
    (agent.strategy c.args.searcher.now) c.args.key.now c.args.connection.now
    c.loop.connection c.meet.new.connection history item c.loop.step talks follows.is_next
    counting c.in_ok-news.ensures.met) after.is_next silent (λ _. fails)) c.end_of.ensures.failed

pub returns-in_err-step-clause-broken : goal.returns-in_err-step-clause-broken
returns-in_err-step-clause-broken g c =
    let it = g.C.ServerConnection in
    let strategy = g.S.Searcher.strategy c.args.searcher.now in
    by_fault _ _ c.from_residual.result (λ why is.
    breaks_off it.says it.hears it.cuts it.loses c.args.limits.spurious_wakeups strategy c.args.key.now
    c.args.connection.now
    c.args.connection.now c.args.connection.now [] (strategy []) why begins refl silent
    (not_failed _ c.in_err-step.field-0.0 why is)) c.from_residual.ensures.1

pub returns-in_err-news-clause-broken : goal.returns-in_err-news-clause-broken
returns-in_err-news-clause-broken g c =
    let (history, (talks, follows, counting)) = c.loop.invariant in
    let it = g.C.ServerConnection in
    by_fault _ _ c.from_residual-in_err-news.result (λ why is.
    breaks_off it.says it.hears it.cuts it.loses c.args.limits.spurious_wakeups
    (g.S.Searcher.strategy c.args.searcher.now) c.args.key.now
    c.args.connection.now c.loop.connection c.meet.new.connection history c.loop.step why talks follows.is_next
    c.in_err-news.ensures.broken (λ failed. c.in_err-news.ensures.failed (sym is ∙ failed)))
    c.from_residual-in_err-news.ensures.1

pub returns-in_err-step-2-clause-broken : goal.returns-in_err-step-2-clause-broken
returns-in_err-step-2-clause-broken g c =
    let (history, (talks, follows, counting)) = c.loop.invariant in
    let it = g.C.ServerConnection in
    let off = then_off it.says it.hears it.cuts it.loses c.args.key.now c.loop.wake_ups.limit
    c.loop.wake_ups.in_a_row c.loop.step c.loop.connection
    c.meet.new.connection (observation_of c.in_ok-news.news) c.in_ok-news.ensures.met in
    by_fault _ _ c.from_residual-in_err-step-2.result (λ why is.
    breaks_off it.says it.hears it.cuts it.loses c.args.limits.spurious_wakeups
    (g.S.Searcher.strategy c.args.searcher.now) c.args.key.now
    c.args.connection.now c.loop.connection c.meet.new.connection history c.loop.step why talks follows.is_next
    off (not_failed _ c.in_err-step-2.field-0.0 why is)) c.from_residual-in_err-step-2.ensures.1

pub returns-clause-broken : goal.returns-clause-broken
returns-clause-broken g c =
    let (history, (talks, follows, counting)) = c.loop.invariant in
    let it = g.C.ServerConnection in
    breaks_off it.says it.hears it.cuts it.loses c.args.limits.spurious_wakeups
    (g.S.Searcher.strategy c.args.searcher.now) c.args.key.now
    c.args.connection.now c.loop.connection c.loop.connection history c.loop.step _ talks follows.is_next silent
    (λ failed. absurd (cc))

pub after-requires-clause-since : goal.after-requires-clause-since
after-requires-clause-since g c =
    let (history, (talks, follows, counting)) = c.loop.invariant in
    since_room c.args.limits.spurious_wakeups history c.loop.wake_ups counting c.new-wake_ups.ensures.small

pub after-requires-clause-row : goal.after-requires-clause-row
after-requires-clause-row g c =
    let (history, (talks, follows, counting)) = c.loop.invariant in
    row_room c.args.limits.spurious_wakeups history c.loop.wake_ups counting c.new-wake_ups.ensures.small

pub returns-in_err-wake_ups-clause-broken : goal.returns-in_err-wake_ups-clause-broken
returns-in_err-wake_ups-clause-broken g c =
    let (history, (talks, follows, counting)) = c.loop.invariant in
    let it = g.C.ServerConnection in
    let off = then_off it.says it.hears it.cuts it.loses c.args.key.now c.loop.wake_ups.limit
    c.loop.wake_ups.in_a_row c.loop.step c.loop.connection c.meet.new.connection (observation_of c.in_ok-news.news)
    c.in_ok-news.ensures.met in
    by_fault _ _ c.from_residual-in_err-wake_ups.result (λ why is.
    breaks_off it.says it.hears it.cuts it.loses c.args.limits.spurious_wakeups
    (g.S.Searcher.strategy c.args.searcher.now) c.args.key.now c.args.connection.now c.loop.connection
    c.meet.new.connection history c.loop.step why talks follows.is_next off
    (not_failed _ searcher_fault.Memory why is)) c.from_residual-in_err-wake_ups.ensures.1
