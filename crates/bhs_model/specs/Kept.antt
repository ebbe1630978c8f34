-- The events that a match keeps in its log: those that change something, and of each lost agent the first
-- that destroys it.
use Rattle.std.specs.Prelude.{ℕ, Bool, true, false, not, ◌&&◌, ◌||◌, List, [], ◌∷◌, if◌then◌else◌}
use Rattle.bhs_model.specs.declared.events.Event.{Event}
use Rattle.bhs_model.specs.declared.events.Event.TheVariants.{Tell, Deliver, Close}
use Rattle.bhs_model.specs.Worlds.{World}
use Rattle.bhs_model.specs.Runs.{State, is_doomed, initial, changed, heard, arrives, next}

-- whether a Deliver destroys the agent
abbrev pub destroys : World → State → (agent : ℕ) → Bool
destroys world state agent = not state.closed && is_doomed world (state.position agent)

-- the lost agents after an event: those that a Deliver destroyed
abbrev pub lost_after : World → State → (ℕ → Bool) → Event → ℕ → Bool
lost_after world state lost (Deliver agent) =
    if destroys world state agent then changed lost agent true else lost
lost_after world state lost event = lost

-- whether an event is kept: a heard command, an arrival, the first Deliver that destroys the agent, the
-- first Close
abbrev pub keeps : World → State → (ℕ → Bool) → Event → Bool
keeps world state lost (Tell agent command) = heard world state agent command
keeps world state lost (Deliver agent) =
    arrives world state agent || (destroys world state agent && not (lost agent))
keeps world state lost Close = not state.closed

-- prepends the event to the other events if it is kept
abbrev pub kept_first : Bool → Event → List Event → List Event
kept_first is_kept event events = if is_kept then event ∷ events else events

abbrev pub kept_from : World → State → (ℕ → Bool) → List Event → List Event
kept_from world state lost [] = []
kept_from world state lost (event ∷ events) =
    kept_first (keeps world state lost event) event
    (kept_from world (next world state event) (lost_after world state lost event) events)

abbrev pub lost_from : World → State → (ℕ → Bool) → List Event → ℕ → Bool
lost_from world state lost [] = lost
lost_from world state lost (event ∷ events) =
    lost_from world (next world state event) (lost_after world state lost event) events

-- at first no agent is lost
abbrev pub nobody : ℕ → Bool
nobody agent = false

-- the events that are kept
abbrev pub kept : World → List Event → List Event
kept world events = kept_from world initial nobody events

-- which agents are lost
abbrev pub lost : World → List Event → (agent : ℕ) → Bool
lost world events = lost_from world initial nobody events
