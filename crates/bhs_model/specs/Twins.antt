-- Two matches that no agent can tell apart: their worlds are equal but for what destroys, and nobody
-- arrived in the one where the other destroys.
use Rattle.std.specs.Prelude.{Bool, false, ◌&&◌, ◌||◌, ◌≡◌, List, [], ◌∷◌, if◌then◌else◌}
use Rattle.bhs_model.specs.declared.events.Event.{Event}
use Rattle.bhs_model.specs.declared.events.Event.TheVariants.{Deliver}
use Rattle.bhs_model.specs.Worlds.{World}
use Rattle.bhs_model.specs.Runs.{State, initial, next}
use Rattle.bhs_model.specs.Runs.{is_doomed, arrives}

-- two worlds that are equal but for what destroys
pub record SameButDoom (one two : World) : Type 0 where
  pub net : one.net ≡ two.net
  pub home : one.home ≡ two.home
  pub agents : one.agents ≡ two.agents
  pub quota : one.quota ≡ two.quota
  pub board : one.board ≡ two.board

-- whether an event is struck: a Deliver that finds its agent on a link that destroys in either world
abbrev pub is_struck : (world other : World) → State → Event → Bool
is_struck world other state (Deliver agent) =
    is_doomed world (state.position agent) || is_doomed other (state.position agent)
is_struck world other state event = false

abbrev pub strike_from : (world other : World) → State → List Event → List Event
strike_from world other state [] = []
strike_from world other state (event ∷ events) =
    let rest = strike_from world other (next world state event) events in
    if is_struck world other state event then rest else event ∷ rest

-- removes the struck events
abbrev pub strike : (world other : World) → List Event → List Event
strike world other events = strike_from world other initial events

-- whether an event makes its agent arrive over a link that destroys in the other world
abbrev pub reveals : (world other : World) → State → Event → Bool
reveals world other state (Deliver agent) =
    arrives world state agent && is_doomed other (state.position agent)
reveals world other state event = false

-- no event gives it away which of the two worlds it is
abbrev pub RevealsNothing : (world other : World) → State → List Event → Type 0
RevealsNothing world other state [] = Unit {0}
RevealsNothing world other state (event ∷ events) =
    (reveals world other state event ≡ false)
    × RevealsNothing world other (next world state event) events

-- the twin condition: but for the struck events the lists are equal, and each struck one does nothing in
-- its own world
pub record Twins (world : World) (events : List Event) (other : World) (others : List Event) :
    Type 0 where
  pub worlds : SameButDoom world other
  pub struck : strike world other events ≡ strike other world others
  pub reveals_nothing : RevealsNothing world other initial events
  pub other_reveals_nothing : RevealsNothing other world initial others
