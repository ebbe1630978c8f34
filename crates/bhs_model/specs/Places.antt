-- Which place of a list of events a whiteboard names, and which one an answer names: that of the Write whose text they
-- show.
use Rattle.std.specs.Prelude.{ℕ, ◌+◌, Bool, true, false, ◌&&◌, ◌==◌, Option, Some, None, List, [], ◌∷◌, if◌then◌else◌}
use Rattle.bhs_model.specs.declared.events.Event.{Event}
use Rattle.bhs_model.specs.declared.events.Event.TheVariants.{Tell, Deliver, Close}
use Rattle.bhs_model.specs.declared.replies.Reply.{Reply}
use Rattle.bhs_model.specs.declared.replies.Reply.TheVariants.{Here, Written, Changed}
use Rattle.bhs_model.specs.Worlds.{World}
use Rattle.bhs_model.specs.Runs.{Position, Before, At, State, initial, next, reply}

-- whether the reply says that a Write put its text
abbrev pub is_written : Option Reply → Bool
is_written (Some Written) = true
is_written reply = false

-- whether an agent at this position stands at the node
abbrev pub is_at : Position → (node : ℕ) → Bool
is_at (At place came) node = node == place
is_at position node = false

-- whether an event is a Write at the node that is answered Written
abbrev pub writes_at : World → State → Event → (node : ℕ) → Bool
writes_at world state (Tell agent command) node =
    is_written (reply world state (Tell agent command)) && is_at (state.position agent) node
writes_at world state event node = false

-- the places of the last Writes by node, after an event that stands at this place
abbrev pub written_after : World → State → (place : ℕ) → (ℕ → Option ℕ) → Event → ℕ → Option ℕ
written_after world state place written event node =
    if writes_at world state event node then Some place else written node

abbrev pub written_from : World → State → (place : ℕ) → (ℕ → Option ℕ) → List Event → ℕ → Option ℕ
written_from world state place written [] = written
written_from world state place written (event ∷ events) =
    written_from world (next world state event) (place + 1) (written_after world state place written event) events

-- at first nothing is written
abbrev pub unwritten : ℕ → Option ℕ
unwritten node = None

-- The place of the last Write at the node that was answered Written; None if these events contain no such Write.
abbrev pub written : World → List Event → (node : ℕ) → Option ℕ
written world events = written_from world initial 0 unwritten events

-- the position of an event's agent
abbrev pub position_by : State → Event → Position
position_by state (Tell agent command) = state.position agent
position_by state (Deliver agent) = state.position agent
position_by state Close = Before

-- the place that a reply names to an agent that is then at this position: of a reply that shows a whiteboard, the place
-- of the last Write there
abbrev pub place_shown : (ℕ → Option ℕ) → Option Reply → Position → Option ℕ
place_shown written (Some (Here ports came board)) (At node from) = written node
place_shown written (Some (Changed board)) (At node from) = written node
place_shown written reply position = None

-- the place that the reply to an event names
abbrev pub named : World → State → (ℕ → Option ℕ) → Event → Option ℕ
named world state written event =
    place_shown written (reply world state event) (position_by (next world state event) event)

-- the places that the replies to these events name
abbrev pub names_from : World → State → (place : ℕ) → (ℕ → Option ℕ) → List Event → List (Option ℕ)
names_from world state place written [] = []
names_from world state place written (event ∷ events) =
    named world state written event
    ∷ names_from world (next world state event) (place + 1) (written_after world state place written event) events

abbrev pub names : World → List Event → List (Option ℕ)
names world events = names_from world initial 0 unwritten events
