use Rattle.std.proofs.Common.{◌+◌, ◌≡◌, ap, subst, sym, Some}
use Rattle.bhs_agents.specs.Searchers.{observation_of}
use Rattle.bhs_attest.specs.Attested.{observed}
use Rattle.bhs_attest.specs.Followers.{IsFollower}
use Rattle.bhs_attest.proofs.FollowerLemmas.{observes}
use Rattle.bhs_attest.proofs.followers.Follower.observe.Goals as goal

pub returns : goal.returns
returns g c own limit history is few =
    let agent = g.S.Searcher in
    let item = observation_of c.in-Some.news in
    let there : observed (Some c.in-Some.news) history ≡ observed c.args.news history =
    sym (ap (λ it. observed it history) c.in-Some.is) in
    subst (λ h. IsFollower agent.strategy agent.has_met own limit h (record {
      searcher = c.next.new.self;
      step = c.in_ok-step.step;
      wake_ups = c.in_ok-wake_ups.wake_ups;
      woken = c.args.self.woken + c.wake_ups_of.result;
      longest = c.max-longest.result;
    })) there
    (observes agent.strategy agent.has_met own limit history c.args.self is item _ (c.in_ok-step.ensures history is.met)
    c.in_ok-wake_ups.ensures.limit c.in_ok-wake_ups.ensures.count (few c.in-Some.news c.in-Some.is)
    (ap (λ n. c.args.self.woken + n) c.wake_ups_of.ensures) c.max-longest.ensures)
