-- The laws of a match, each over every world and every list of events.
use Rattle.std.specs.Prelude.{ℕ, ◌≡◌, ◌≤◌, List, [], ◌∷◌, ◌++◌, Option, map, length}
use Rattle.bhs_model.specs.declared.events.Event.{Event}
use Rattle.bhs_model.specs.declared.marks.Mark.{Mark}
use Rattle.bhs_model.specs.declared.marks.Kept.{Kept}
use Rattle.bhs_model.specs.Worlds.{World}
use Rattle.bhs_model.specs.Runs.{run, reply}
use Rattle.bhs_model.specs.InOrder.{replies}
use Rattle.bhs_model.specs.Kept.{kept, lost}
use Rattle.bhs_model.specs.KeptReplies.{kept_replies}
use Rattle.bhs_model.specs.Draws.{pool}
use Rattle.bhs_model.specs.Marks.{events_of, read_if}
use Rattle.bhs_world.specs.Tables.{log_after}
use Rattle.bhs_match.specs.Matches.{most_kept, arrivals, bounds}

-- The log of a match in which all these events happened: the kept events.
abbrev pub IsLogOf : World → List Event → List Kept → Type 0
IsLogOf world events log = kept world events ≡ events_of log

-- The log tells what all that happened does: the same pasts, positions, last writes and pool, whether the match has
-- ended, who is lost, and what the kept events were answered when they happened.
pub record TellsAll (world : World) (events : List Event) (log : List Kept) : Type 0 where
  pub state : run world events ≡ run world (events_of log)
  pub pool : pool (run world events) ≡ pool (run world (events_of log))
  pub lost : lost world events ≡ lost world (events_of log)
  pub replies : kept_replies world events ≡ replies world (events_of log)

abbrev pub LogsTellAll : Type 0
LogsTellAll = (world : World) (events : List Event) (log : List Kept) → IsLogOf world events log
    → TellsAll world events log

-- Replies after the log equal replies after all events, and the log grows by the kept events.
pub record GrowsWith (world : World) (events : List Event) (log : List Kept) (event : Event)
    (mark : Option Mark) : Type 0 where
  pub answer : reply world (run world (events_of log)) event ≡ reply world (run world events) event
  pub grown : IsLogOf world (events ++ event ∷ []) (log_after world log event mark)

abbrev pub LogsGrow : Type 0
LogsGrow = (world : World) (events : List Event) (log : List Kept) (event : Event) (mark : Option Mark)
    → IsLogOf world events log → GrowsWith world events log event mark

-- Whatever happens, not more is kept than a log holds.
abbrev pub LogsAreBounded : Type 0
LogsAreBounded = (world : World) (events : List Event) → length (kept world events) ≤ most_kept world.agents world.quota

-- An agent has at most as many arrivals as its quota.
abbrev pub ArrivalsAreBounded : Type 0
ArrivalsAreBounded = (world : World) (agent : ℕ) (log : List Kept) →
    map (λ one. read_if log one.mark) log ≡ replies world (events_of log) → length (arrivals agent log) ≤ world.quota

-- The pool of a match agrees with the model's pool and contains at most all agents.
pub record IsPooled (world : World) (events : List Event) : Type 0 where
  pub agents : map (λ bound. bound.agent) (bounds (run world events)) ≡ pool (run world events)
  pub bound : length (bounds (run world events)) ≤ world.agents

abbrev pub PoolsAreOfAgents : Type 0
PoolsAreOfAgents = (world : World) (events : List Event) → IsPooled world events
