-- Twins of a match: the same match with a black hole elsewhere, at a node where no agent arrived.
use Rattle.std.specs.Prelude.{ℕ, suc, ◌≡◌, Bool, true, false, not, ◌&&◌, ◌||◌, ◌==◌, Option, Some, None, List, [], ◌∷◌}
use Rattle.std.specs.Prelude.{if◌then◌else◌, nat_lt, find, map, option_map}
use Rattle.std.specs.List.{range_with_len}
use Rattle.std.specs.Option.{option_or}
use Rattle.bhs_net.specs.Network.{Network, nodes_of}
use Rattle.bhs_model.specs.declared.commands.Command.TheVariants.{Accuse}
use Rattle.bhs_model.specs.declared.events.Event.{Event}
use Rattle.bhs_model.specs.declared.events.Event.TheVariants.{Tell, Deliver}
use Rattle.bhs_model.specs.declared.replies.Reply.{Reply}
use Rattle.bhs_model.specs.declared.replies.Reply.TheVariants.{Noted}
use Rattle.bhs_model.specs.declared.setups.Setup.{Setup}
use Rattle.bhs_model.specs.Worlds.{World, is_hole, is_dark}
use Rattle.bhs_model.specs.Runs.{Position, At, State, initial, arrives, next, reply}
use Rattle.bhs_model.specs.Cuts.{at_places, meet, node_reached}
use Rattle.bhs_model.specs.InOrder.{replies}
use Rattle.bhs_model.specs.Kept.{kept}
use Rattle.bhs_model.specs.Laws.{LookAlike}
use Rattle.bhs_model.specs.Marks.{events_of, read_if}
use Rattle.bhs_model.specs.Setups.{world_of, normal, nodes_where}
use Rattle.bhs_match.specs.Matches.{Play, world_in}
use Rattle.bhs_view.specs.declared.twins.TwinFault.{TwinFault}
use Rattle.bhs_view.specs.declared.twins.TwinFault.TheVariants.{Node, Home, Same, Reached}
use Rattle.bhs_view.specs.Entries.{entries}

-- the black hole that the link at a port leads to, where the link is not dark
abbrev pub hole_beyond : World → (node port : ℕ) → Option ℕ
hole_beyond world node port =
    let far = (world.net.far node port).0 in
    if is_hole world.holes far && not (is_dark world.net.far world.dark node port) then Some far else None

abbrev pub hole_from : World → Position → (port : ℕ) → Option ℕ
hole_from world (At node came) port = hole_beyond world node port
hole_from world position port = None

abbrev pub is_noted : Option Reply → Bool
is_noted (Some Noted) = true
is_noted reply = false

-- the black hole that an event accuses by a link that is not dark: the event is an accusation that is noted
abbrev pub hole_accused : World → State → Event → Option ℕ
hole_accused world state (Tell agent (Accuse port)) =
    if is_noted (reply world state (Tell agent (Accuse port))) then hole_from world
    (state.position agent) port else None
hole_accused world state event = None

abbrev pub first_accused_from : World → State → List Event → Option ℕ
first_accused_from world state [] = None
first_accused_from world state (event ∷ events) =
    option_or (hole_accused world state event) (first_accused_from world (next world state event) events)

-- The black hole that a twin removes: the first one accused by an intact link; otherwise the least black hole; None
-- without black holes.
abbrev pub replaced : World → List Event → Option ℕ
replaced world events =
    option_or (first_accused_from world initial events) (find (is_hole world.holes) (range_with_len 0 world.net.nodes))

-- whether a node is a black hole once one has given way to another
abbrev pub is_moved : List ℕ → (old : Option ℕ) → (new node : ℕ) → Bool
is_moved holes old new node = node == new || (is_hole holes node && not (meet old (Some node)))

-- the setup in which a black hole has given way to another
abbrev pub moved : Network → Setup → (old : Option ℕ) → (new : ℕ) → Setup
moved net setup old new = record setup { holes = nodes_where net (is_moved setup.holes old new) }

-- whether an event is a Deliver that finds its agent bound for a node
abbrev pub heads_for : World → (old : Option ℕ) → State → Event → Bool
heads_for world old state (Deliver agent) = meet old (node_reached world (state.position agent))
heads_for world old state event = false

abbrev pub left_from : World → (old : Option ℕ) → State → List Event → List Bool
left_from world old state [] = []
left_from world old state (event ∷ events) =
    not (heads_for world old state event) ∷ left_from world old (next world state event) events

-- the set of the places that are left when each Deliver that finds its agent bound for a node is taken out
abbrev pub left : World → (old : Option ℕ) → List Event → List Bool
left world old events = left_from world old initial events

-- whether an event makes its agent arrive at a node
abbrev pub arrives_at : World → (node : ℕ) → State → Event → Bool
arrives_at world node state (Deliver agent) =
    arrives world state agent && meet (Some node) (node_reached world (state.position agent))
arrives_at world node state event = false

abbrev pub first_arrival_from : World → (node : ℕ) → State → (place : ℕ) → List Event → Option ℕ
first_arrival_from world node state place [] = None
first_arrival_from world node state place (event ∷ events) =
    if arrives_at world node state event
    then Some place else first_arrival_from world node (next world state event) (suc place) events

-- the place of the first arrival at a node
abbrev pub first_arrival : World → (node : ℕ) → List Event → Option ℕ
first_arrival world node events = first_arrival_from world node initial 0 events

-- why a match has no twin with a black hole at this node: the node does not exist, or is the home base, or a black hole
-- already, or an agent arrived there
abbrev pub twin_fault : Play → (node : ℕ) → Option TwinFault
twin_fault play node =
    if not (nat_lt node (nodes_of play.net)) then Some Node
    else (if node == play.setup.home then Some Home
    else (if is_hole play.setup.holes node then Some Same
    else option_map Reached (first_arrival (world_in play) node (events_of play.log))))

-- the black hole of a match that gives way
abbrev pub hole_replaced : Play → Option ℕ
hole_replaced play = replaced (world_in play) (events_of play.log)

-- how the twin with a black hole at this node is set up: the hole that gives way is no hole
abbrev pub twin_setup : Play → (node : ℕ) → Setup
twin_setup play node = normal play.net (moved play.net play.setup (hole_replaced play) node)

-- the places of a match that are left in a twin: each Deliver that finds its agent bound for the hole that gives way is
-- taken out
abbrev pub places_left : Play → List Bool
places_left play = left (world_in play) (hole_replaced play) (events_of play.log)

-- the events of a twin
abbrev pub twin_events : Play → List Event
twin_events play = at_places (events_of play.log) (places_left play)

-- the twin of a match with a black hole at this node: what is left of the match happened, with the replies that it had
pub record IsTwin (whole : Play) (node : ℕ) (twin : Play) : Type 0 where
  pub net : twin.net ≡ whole.net
  pub setup : twin.setup ≡ twin_setup whole node
  pub log : entries twin.log ≡ at_places (entries whole.log) (places_left whole)

-- What is left of a match can happen in its twin, set up with a black hole at this node: all of it is kept there and
-- gets the replies that it had, and no agent can tell the two matches apart.
pub record HasTwin (whole : Play) (node : ℕ) : Type 0 where
  pub kept : kept (world_of whole.net (twin_setup whole node)) (twin_events whole) ≡ twin_events whole
  pub answers : replies (world_of whole.net (twin_setup whole node)) (twin_events whole)
      ≡ at_places (map (λ one. read_if whole.log one.mark) whole.log) (places_left whole)
  pub alike : LookAlike (world_in whole) (events_of whole.log) (world_of whole.net (twin_setup whole node))
      (twin_events whole)
