-- An agent in the code that follows its strategy.
use Rattle.std.specs.Prelude.{ℕ, ◌≡◌, ◌≤◌, ◌+◌}
use Rattle.bhs_schedules.specs.Strategies.{History, Strategy}
use Rattle.bhs_agents.specs.WakeUps.{wake_ups_in, counted}
use Rattle.bhs_attest.specs.declared.followers.Follower.{Follower}
use Rattle.bhs_attest.specs.Attested.{times_woken, longest_row}

-- The agent has this strategy and this history, and takes the step of its strategy next; the counts are those of its
-- history. `strategy` and `has_met` say what its program's strategy and history are in a state.
pub record IsFollower {S : Type 0} (strategy : S → Strategy) (has_met : S → History → Type 0) (own : Strategy)
    (limit : ℕ) (history : History) (follower : Follower S) : Type 0 where
  pub same : strategy follower.searcher ≡ own
  pub met : has_met follower.searcher history
  pub does : follower.step ≡ own history
  pub same_limit : follower.wake_ups.limit ≡ limit
  pub count : counted follower.wake_ups ≡ wake_ups_in history
  pub few : follower.wake_ups.in_a_row ≤ limit + 1
  pub woken : follower.woken ≡ times_woken history
  pub longest : follower.longest ≡ longest_row history
