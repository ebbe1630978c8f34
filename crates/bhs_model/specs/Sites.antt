-- The node of an event.
use Rattle.std.specs.Prelude.{ℕ, Option, Some, None, List, [], ◌∷◌, if◌then◌else◌}
use Rattle.bhs_model.specs.declared.commands.Command.{Command}
use Rattle.bhs_model.specs.declared.commands.Command.TheVariants.{Enter}
use Rattle.bhs_model.specs.declared.events.Event.{Event}
use Rattle.bhs_model.specs.declared.events.Event.TheVariants.{Tell, Deliver, Close}
use Rattle.bhs_model.specs.Worlds.{World}
use Rattle.bhs_model.specs.Runs.{Position, At, State, initial, heard, next}
use Rattle.bhs_model.specs.Cuts.{node_reached}

-- the node at which an agent says a command: where it is or, where it enters, the home base
abbrev pub node_said : World → Position → Command → Option ℕ
node_said world position Enter = Some world.home
node_said world (At node came) command = Some node
node_said world position command = None

-- the site of an event: the node at which a heard command is said; for a Deliver the node that its agent is bound for,
-- whether it arrives or not
abbrev pub site : World → State → Event → Option ℕ
site world state (Tell agent command) =
    if heard world state agent command then node_said world (state.position agent) command else None
site world state (Deliver agent) = node_reached world (state.position agent)
site world state Close = None

abbrev pub sites_from : World → State → List Event → List (Option ℕ)
sites_from world state [] = []
sites_from world state (event ∷ events) = site world state event ∷ sites_from world (next world state event) events

-- the sites of the events of a match
abbrev pub sites : World → List Event → List (Option ℕ)
sites world events = sites_from world initial events
