-- The talk so far follows the strategy for some history. The agent's state has this history, its next step is the
-- strategy's, and its count of wake-ups is that of the history.
use Rattle.bhs_schedules.specs.Strategies.{History}
use Rattle.bhs_agents.specs.Searchers.{KeepsTo}
use Rattle.bhs_client.specs.Talks.{Talks}
use Rattle.bhs_agents.proofs.WakeUpLemmas.{IsCounting}
use Rattle.bhs_client.proofs.player.play.Given as goal

abbrev pub invariant-loop : goal.invariant-loop
invariant-loop g l = (history : History)
    × (Talks g.C.ServerConnection.says g.C.ServerConnection.hears l.fn.limits.spurious_wakeups
    (g.S.Searcher.strategy l.fn.searcher) l.fn.key l.initial.connection history l.connection
    × KeepsTo g.S.Searcher.strategy g.S.Searcher.has_met l.fn.searcher history l.step l.searcher
    × IsCounting l.fn.limits.spurious_wakeups history l.wake_ups)
