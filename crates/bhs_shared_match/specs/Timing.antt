-- The turns of a match under its lock, and whom a turn delivers.
use Rattle.std.specs.Prelude.{ℕ, ◌≡◌, ◌≤◌, ◌+◌, ◌-◌, ◌^◌, min, Bool, Option, Some, None, List, [], ◌∷◌, ◌++◌}
use Rattle.std.specs.Prelude.{length, nat_lt}
use Rattle.std.specs.Prelude.{if◌then◌else◌, replicate, slice_set}
use Rattle.rand_chacha.specs.ChaCha.{ChaCha}
use Rattle.bhs_model.specs.declared.events.Event.{Event}
use Rattle.bhs_model.specs.Runs.{State, is_bound}
use Rattle.bhs_model.specs.Draws.{Held, draw}
use Rattle.bhs_time.specs.declared.kinds.ScheduleKind.{ScheduleKind}
use Rattle.bhs_time.specs.declared.kinds.ScheduleKind.TheVariants.{Adaptive, Oblivious}
use Rattle.bhs_time.specs.TimedRuns.{delivery_in}
use Rattle.bhs_match.specs.Matches.{Play, state_of, most_kept}
use Rattle.bhs_deliveries.specs.Dealer.{next_word}
use Rattle.bhs_deliveries.specs.Delaying.{schedule_by, departed_in, drawn_in}
use Rattle.bhs_deliveries.specs.Drawing.{drawn}
use Rattle.bhs_deliveries.specs.declared.draws.Drawn.{Drawn}
use Rattle.bhs_deliveries.specs.declared.draws.Drawn.TheVariants.{Delivered}

-- how many turns have passed, and of each agent, after how many it took its newest step that was not on a link
pub record Timed : Type 0 where
  pub turn : ℕ
  pub departed : List ℕ

-- before anything happens
abbrev pub at_first : (agents : ℕ) → Timed
at_first agents = record { turn = 0; departed = replicate agents 0 }

-- the times after an agent's step at a node
abbrev pub stepped : (agent : ℕ) → Timed → Timed
stepped agent timed = record timed {
  departed = if nat_lt agent (length timed.departed) then slice_set timed.departed agent timed.turn else timed.departed;
}

-- the times after a command that was heard, from an agent on a link or elsewhere
abbrev pub told_at : (was_away : Bool) → (agent : ℕ) → Timed → Timed
told_at was_away agent timed = if was_away then timed else stepped agent timed

abbrev pub stepped_if : Option ℕ → Timed → Timed
stepped_if None timed = timed
stepped_if (Some agent) timed = stepped agent timed

-- The times after a turn, given the optional arriving agent. Turn numbers stop at 2 ^ 32 - 1.
abbrev pub turned : Option ℕ → Timed → Timed
turned arrived timed =
    record (stepped_if arrived timed) { turn = min ((stepped_if arrived timed).turn + 1) (2 ^ 32 - 1) }

-- The turns of the events of a log, when the log has this many events and this many turns have passed. There is one
-- turn more, if there is one event more.
abbrev pub stamped_to : (events turn : ℕ) → List ℕ → List ℕ
stamped_to events turn turns = if nat_lt (length turns) events then turns ++ turn ∷ [] else turns

-- Each event of the log has its turn, and there is room for the turns of all further events.
pub record HaveTurns (play : Play) (turns room : ℕ) : Type 0 where
  pub count : turns ≡ length play.log
  pub room_for : most_kept play.setup.agents play.setup.quota ≤ room

-- the agent that a draw delivers in this state
abbrev pub arrived_by : State → Drawn → Option ℕ
arrived_by state (Delivered agent) = if is_bound (state.position agent) then None else Some agent
arrived_by state drawn = None

-- The optional event of a turn. Adaptive schedule: the dealer's next word draws it from the pool. Oblivious schedule:
-- the dealer's words determine the delivery.
abbrev pub event_of_turn : ScheduleKind → Held → Play → Timed → ChaCha → Option Event
event_of_turn Adaptive held play timed dealer = draw held (state_of play) (next_word dealer)
event_of_turn (Oblivious law) held play timed dealer =
    delivery_in held (schedule_by dealer play.setup.agents law) (state_of play) (departed_in timed.departed) timed.turn

-- what comes of a turn
abbrev pub drawn_in_turn : ScheduleKind → Held → Play → Timed → ChaCha → Drawn
drawn_in_turn Adaptive held play timed dealer = drawn held (state_of play) (next_word dealer)
drawn_in_turn (Oblivious law) held play timed dealer =
    drawn_in held (schedule_by dealer play.setup.agents law) (state_of play) (departed_in timed.departed) timed.turn
