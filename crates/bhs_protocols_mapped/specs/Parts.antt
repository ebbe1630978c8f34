-- Agents with a map simulate strategies for a spanning part of the network, such as a Hamiltonian ring: they use the
-- links of that part only.
use Rattle.std.specs.Prelude.{ℕ, ◌≡◌, ◌<◌, ◌≤◌, Some, List, [], ◌∷◌}
use Rattle.bhs_model.specs.declared.commands.Command.{Command}
use Rattle.bhs_model.specs.declared.commands.Command.TheVariants.{Depart, Accuse}
use Rattle.bhs_model.specs.declared.replies.Reply.{Reply}
use Rattle.bhs_model.specs.declared.replies.Reply.TheVariants.{Here, No, Over}
use Rattle.bhs_model.specs.Worlds.{Network, World}
use Rattle.bhs_model.specs.Runs.{Position, Before, At, Bound, position_after}
use Rattle.bhs_schedules.specs.declared.answers.Step.{Step}
use Rattle.bhs_schedules.specs.declared.answers.Step.TheVariants.{Says}
use Rattle.bhs_schedules.specs.Strategies.{Observation, Heard, Woke, History, Strategies}
use Rattle.bhs_model.specs.Examples.{none_held}
use Rattle.bhs_schedules.specs.Schedules.{Trial}
use Rattle.bhs_protocols.specs.Attained.{IsAttained}
use Rattle.bhs_protocols.specs.Invariants.{CostBounds, IsSolved}
use Rattle.bhs_protocols.specs.Programs.{Program, strategies_by}

-- The part is a spanning subnetwork without dark links. `port` translates ports: a port of the part becomes the port of
-- the network that leads to the same node, and a number that is no port in the part becomes no port of the network.
pub record IsPart (world : World) (part : Network) (port : (node port : ℕ) → ℕ) : Type 0 where
  pub home : world.home < part.nodes
  pub size : part.nodes ≡ world.net.nodes
  pub ports : (node it : ℕ) → node < part.nodes → it < part.degree node → port node it < world.net.degree node
  pub beyond : (node it : ℕ) → node < part.nodes → part.degree node ≤ it → world.net.degree node ≤ port node it
  pub far : (node it : ℕ) → node < part.nodes → it < part.degree node
      → (world.net.far node (port node it)).0 ≡ (part.far node it).0
  pub within : (node it : ℕ) → node < part.nodes → it < part.degree node → (part.far node it).0 < part.nodes
  pub none_dark : world.dark ≡ []

-- The memory of an agent that simulates a strategy on the part: the agent's number, the history that its strategy would
-- have on the part, and its position.
pub record Follower : Type 0 where
  pub agent : ℕ
  pub past : History
  pub place : Position

-- the part with this home base, for what does not depend on anything else of a world
abbrev pub bare : Network → (home : ℕ) → World
bare part home = record { net = part; home = home; holes = []; dark = []; agents = 0; quota = 0; board = 0 }

-- translates a command for the part into a command for the network
abbrev pub command_of : (port : (node port : ℕ) → ℕ) → Position → Command → Command
command_of port (At node came) (Depart it) = Depart (port node it)
command_of port (At node came) (Accuse it) = Accuse (port node it)
command_of port place command = command

-- translates a step on the part into a step on the network
abbrev pub step_of : (port : (node port : ℕ) → ℕ) → Position → Step → Step
step_of port place (Says command) = Says (command_of port place command)
step_of port place step = step

-- translates a reply of the network into the reply that the part would give
abbrev pub reply_at : Network → Position → Reply → Reply
reply_at part (At node came) (Here ports seen board) = Here (part.degree node) came board
reply_at part place reply = reply

-- appends a reply that leaves the agent's position unchanged
abbrev pub noted : Follower → Reply → Follower
noted it reply = record it { past = Heard reply ∷ it.past }

-- Appends the reply to a command. Unless the command was refused, the agent moves to `place`.
abbrev pub answered : Network → Follower → (place : Position) → Reply → Follower
answered part it place (No why) = noted it (No why)
answered part it place Over = noted it Over
answered part it place reply =
    record { agent = it.agent; past = Heard (reply_at part place reply) ∷ it.past; place = place }

-- appends an arrival over a link of the part
abbrev pub come_by : Network → Follower → (far : ℕ × ℕ) → (board : List ℕ) → Follower
come_by part it far board = record {
  agent = it.agent;
  past = Heard (Here (part.degree far.0) (Some far.1) board) ∷ it.past;
  place = At far.0 (Some far.1);
}

-- after a reply to an agent that is at this place, where the strategy takes this step
abbrev pub heard_at : Network → (home : ℕ) → Follower → Position → Step → Reply → Follower
heard_at part home it (Bound node by) step (Here ports seen board) = come_by part it (part.far node by) board
heard_at part home it (Bound node by) step reply = noted it reply
heard_at part home it place (Says command) reply =
    answered part it (position_after (bare part home) place command) reply
heard_at part home it place step reply = noted it reply

-- after something has happened
abbrev pub followed : Network → (home : ℕ) → Strategies → Follower → Observation → Follower
followed part home strategies it (Heard reply) = heard_at part home it it.place (strategies it.agent it.past) reply
followed part home strategies it Woke = record it { past = Woke ∷ it.past }

-- The program of agents that simulate these strategies on the part. It uses the part, the translation of ports and the
-- home base, and no black hole.
abbrev pub followers : (part : Network) (home : ℕ) (port : (node port : ℕ) → ℕ) → Strategies → Program Follower
followers part home port strategies = record {
  start = λ agent. record { agent = agent; past = []; place = Before };
  after = followed part home strategies;
  does = λ it. step_of port it.place (strategies it.agent it.past);
}

-- a match of these strategies on the part alone
abbrev pub on_part : World → (part : Network) → (wakeups : ℕ) → Strategies → Trial
on_part world part wakeups strategies =
    record { world = record world { net = part }; held = none_held; wakeups = wakeups; strategies = strategies }

-- a match on the network whose agents simulate these strategies on the part
abbrev pub through_part : World → (part : Network) → (port : (node port : ℕ) → ℕ) → (wakeups : ℕ) → Strategies → Trial
through_part world part port wakeups strategies = record {
  world = world;
  held = none_held;
  wakeups = wakeups;
  strategies = strategies_by (followers part world.home port strategies);
}

-- If strategies solve the match on a part within bounds, then the others solve it on the network within the same
-- bounds.
abbrev pub PartsSuffice : Type 0
PartsSuffice = (world : World) (part : Network) (port : (node port : ℕ) → ℕ) (wakeups : ℕ) (strategies : Strategies)
    → IsPart world part port → (bounds : CostBounds) → IsSolved (on_part world part wakeups strategies) bounds
    → IsSolved (through_part world part port wakeups strategies) bounds

-- If the strategies spend this number of moves on the part under some schedule, then their simulations spend as many on
-- the network.
abbrev pub PartsAttain : Type 0
PartsAttain = (world : World) (part : Network) (port : (node port : ℕ) → ℕ) (wakeups : ℕ) (strategies : Strategies)
    → IsPart world part port → (most : ℕ) → IsAttained (on_part world part wakeups strategies) most
    → IsAttained (through_part world part port wakeups strategies) most
