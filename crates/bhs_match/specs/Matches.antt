-- A match, and what follows from its log.
use Rattle.std.specs.Prelude.{ℕ, ◌+◌, ◌*◌, Bool, false, Option, Some, List, [], ◌∷◌, ◌==◌, if◌then◌else◌, map}
use Rattle.std.specs.Prelude.{unwrap_or}
use Rattle.bhs_net.specs.Network.{Network}
use Rattle.bhs_model.specs.declared.setups.Setup.{Setup}
use Rattle.bhs_model.specs.declared.events.Event.{Event}
use Rattle.bhs_model.specs.declared.events.Event.TheVariants.{Deliver}
use Rattle.bhs_model.specs.declared.marks.Mark.{Mark}
use Rattle.bhs_model.specs.declared.marks.Kept.{Kept}
use Rattle.bhs_model.specs.Replying.{text}
use Rattle.bhs_model.specs.Worlds.{World}
use Rattle.bhs_model.specs.Runs.{Position, Before, At, State, run}
use Rattle.bhs_model.specs.Draws.{pool}
use Rattle.bhs_model.specs.Setups.{world_of}
use Rattle.bhs_model.specs.Marks.{events_of}
use Rattle.bhs_state.specs.Agents.{link_of}
use Rattle.bhs_match.specs.declared.pools.Bound.{Bound}

-- A match: its network, its setup and its log.
pub record Play : Type 0 where
  pub net : Network
  pub setup : Setup
  pub log : List Kept

-- the world of the definitions
abbrev pub world_in : Play → World
world_in play = world_of play.net play.setup

-- how the match stands after the events of its log
abbrev pub state_of : Play → State
state_of play = run (world_in play) (events_of play.log)

-- the most events that a log holds: for each agent as many commands and arrivals as its quota, an Enter
-- and a Leave; and a Close
abbrev pub most_kept : (agents quota : ℕ) → ℕ
most_kept agents quota = agents * (2 * quota + 2) + 1

-- whether this event is an arrival of the agent: a Deliver with a reply
abbrev pub is_arrival : (agent : ℕ) → Event → Option Mark → Bool
is_arrival agent (Deliver other) (Some mark) = agent == other
is_arrival agent event mark = false

-- the places of an agent's arrivals in a log whose first place has this number
abbrev pub arrivals_from : (agent place : ℕ) → List Kept → List ℕ
arrivals_from agent place [] = []
arrivals_from agent place (one ∷ others) =
    let rest = arrivals_from agent (place + 1) others in
    if is_arrival agent one.event one.mark then place ∷ rest else rest

abbrev pub arrivals : (agent : ℕ) → List Kept → List ℕ
arrivals agent log = arrivals_from agent 0 log

-- an agent on a link, with its departure node and port
abbrev pub bound_at : (agent : ℕ) → Position → Bound
bound_at agent position =
    let link = unwrap_or (link_of position) (0, 0) in
    record { agent = agent; node = link.0; port = link.1 }

-- the pool: the agents on links, each with its link
abbrev pub bounds : State → List Bound
bounds state = map (λ agent. bound_at agent (state.position agent)) (pool state)

-- The whiteboard that an agent at this position faces: its node's, or the home base's before it enters; none on a link
-- and after its end.
abbrev pub shown_at : World → State → Position → List ℕ
shown_at world state Before = text world.board (state.last_write world.home)
shown_at world state (At node came) = text world.board (state.last_write node)
shown_at world state position = []
