-- Parts of a list of events that can stand alone. A set of places is a list of Bool beside the events:
-- true where the place is chosen; past its end no place is.
use Rattle.std.specs.Prelude.{ℕ, zero, suc, ◌≡◌, Bool, true, false, not, ◌&&◌, ◌||◌, Option, Some, None, List, [], ◌∷◌}
use Rattle.std.specs.Prelude.{if◌then◌else◌, ◌==◌, option_and_then, slice_get}
use Rattle.std.specs.List.{list_any}
use Rattle.bhs_model.specs.declared.commands.Command.{Command}
use Rattle.bhs_model.specs.declared.commands.Command.TheVariants.{Enter, Look, Write}
use Rattle.bhs_model.specs.declared.events.Event.{Event}
use Rattle.bhs_model.specs.declared.events.Event.TheVariants.{Tell, Deliver, Close}
use Rattle.bhs_model.specs.Worlds.{World}
use Rattle.bhs_model.specs.Runs.{Position, At, Bound, State, initial, heard, arrives, next}

-- the elements at the chosen places
abbrev pub at_places : {A : Type 0} → List A → List Bool → List A
at_places [] places = []
at_places (x ∷ xs) [] = []
at_places (x ∷ xs) (chosen ∷ places) = if chosen then x ∷ at_places xs places else at_places xs places

-- The footprint of an event: its agent, the node whose whiteboard it reads, the node whose whiteboard it writes (also
-- by a write that fails), and whether it closes the match.
pub record Footprint : Type 0 where
  pub who : Option ℕ
  pub seen : Option ℕ
  pub written : Option ℕ
  pub closes : Bool

-- the node that a heard command sees
abbrev pub node_seen : World → Position → Command → Option ℕ
node_seen world position Enter = Some world.home
node_seen world (At node came) Look = Some node
node_seen world (At node came) (Write expect put) = Some node
node_seen world position command = None

-- the node that a heard command writes
abbrev pub node_written : Position → Command → Option ℕ
node_written (At node came) (Write expect put) = Some node
node_written position command = None

-- the node at which an agent arrives from this position
abbrev pub node_reached : World → Position → Option ℕ
node_reached world (Bound node port) = Some (world.net.far node port).0
node_reached world position = None

abbrev pub footprint : World → State → Event → Footprint
footprint world state (Tell agent command) = record {
  who = Some agent;
  seen = if heard world state agent command then node_seen world (state.position agent) command else None;
  written = if heard world state agent command then node_written (state.position agent) command else None;
  closes = false;
}
footprint world state (Deliver agent) = record {
  who = Some agent;
  seen = if arrives world state agent then node_reached world (state.position agent) else None;
  written = None;
  closes = false;
}
footprint world state Close = record { who = None; seen = None; written = None; closes = true }

abbrev pub footprints_from : World → State → List Event → List Footprint
footprints_from world state [] = []
footprints_from world state (event ∷ events) =
    footprint world state event ∷ footprints_from world (next world state event) events

abbrev pub footprints : World → List Event → List Footprint
footprints world events = footprints_from world initial events

-- whether both options have a value and these values are equal
abbrev pub meet : Option ℕ → Option ℕ → Bool
meet (Some one) (Some two) = one == two
meet one two = false

-- whether a later place needs an earlier one: the earlier one is a Close, or of the same agent, or it
-- writes the node that the later one sees
abbrev pub needs : (early late : Footprint) → Bool
needs early late = early.closes || (meet late.who early.who || meet late.seen early.written)

-- whether a set of places is closed: with a place it has each earlier one that this place needs
abbrev pub is_closed : List Footprint → List Bool → Bool
is_closed [] places = true
is_closed (early ∷ footprints) [] = true
is_closed (early ∷ footprints) (chosen ∷ places) =
    (chosen || not (list_any (needs early) (at_places footprints places))) && is_closed footprints places

-- whether a place is chosen
abbrev pub has_place : List Bool → (place : ℕ) → Bool
has_place [] place = false
has_place (chosen ∷ places) zero = chosen
has_place (chosen ∷ places) (suc place) = has_place places place

-- The first set of places is a subset of the second.
abbrev pub IsWithin : (places others : List Bool) → Type 0
IsWithin places others = (place : ℕ) → has_place places place ≡ true → has_place others place ≡ true

-- the set has all places of the agent
abbrev pub HasAllOf : (agent : ℕ) → List Footprint → List Bool → Type 0
HasAllOf agent footprints places = (place : ℕ) →
    option_and_then (λ one. one.who) (slice_get footprints place) ≡ Some agent → has_place places place ≡ true

-- the cut of an agent: walking back from the end, its own places, and each place that a chosen later one
-- needs
abbrev pub cut : (agent : ℕ) → List Footprint → List Bool
cut agent [] = []
cut agent (early ∷ footprints) =
    let places = cut agent footprints in
    (meet (Some agent) early.who || list_any (needs early) (at_places footprints places)) ∷ places
