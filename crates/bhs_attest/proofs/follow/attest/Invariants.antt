-- The match has been played to a place of the log, to which the agent has followed its strategy, perhaps with turns
-- beyond it that changed nothing. The agent's state has this history.
use Rattle.std.proofs.Common.{◌≤◌}
use Rattle.bhs_schedules.specs.Strategies.{History}
use Rattle.bhs_attest.specs.Attested.{times_woken}
use Rattle.bhs_attest.specs.Followers.{IsFollower}
use Rattle.bhs_attest.proofs.FollowLemmas.{IsAt}
use Rattle.bhs_attest.proofs.follow.attest.Given as goal

abbrev pub invariant-loop-spent : goal.invariant-loop-spent
invariant-loop-spent g l = (old : History) × (history : History)
    × (IsAt (record {
      agent = l.agent;
      strategy = g.S.Searcher.strategy l.fn.searcher;
      wakeups = l.fn.limits.spurious_wakeups;
    }) l.sealed l.place l.game old history
    × IsFollower g.S.Searcher.strategy g.S.Searcher.has_met (g.S.Searcher.strategy l.fn.searcher)
    l.fn.limits.spurious_wakeups history l.follower
    × (times_woken history ≤ l.spent))
