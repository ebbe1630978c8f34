-- What follows from the definitions for agents that are on links.
use Rattle.std.specs.Prelude.{ℕ, Bool, true, ◌≡◌, ◌<◌, List, nat_lt}
use Rattle.bhs_model.specs.declared.commands.Command.{Command}
use Rattle.bhs_model.specs.declared.events.Event.{Event}
use Rattle.bhs_model.specs.declared.events.Event.TheVariants.{Tell}
use Rattle.bhs_model.specs.Views.{used}
use Rattle.bhs_net.specs.Network as networks
use Rattle.bhs_model.specs.declared.setups.Setup.{Setup}
use Rattle.bhs_model.specs.Worlds.{World, is_hole, is_dark, doomed}
use Rattle.bhs_model.specs.Setups.{world_of, normal}
use Rattle.bhs_world.specs.Faults.{IsWithinLimits}
use Rattle.bhs_model.specs.Runs.{is_bound, run, past, reply}

-- An agent of the match travels on a link.
pub record IsAway (world : World) (events : List Event) (agent : ℕ) : Type 0 where
  pub of_match : agent < world.agents
  pub bound : is_bound ((run world events).position agent) ≡ true

-- whether the agent has quota left
abbrev pub has_room : World → List Event → (agent : ℕ) → Bool
has_room world events agent = nat_lt (used (past world events agent)) world.quota

-- Two agents on links get the same replies to all commands, if both have quota left or neither has. Whether an agent is
-- lost makes no difference.
abbrev pub AwayAlike : Type 0
AwayAlike = (world : World) (events : List Event) (agent other : ℕ) (command : Command) →
    IsAway world events agent → IsAway world events other →
    has_room world events agent ≡ has_room world events other →
    reply world (run world events) (Tell agent command) ≡ reply world (run world events) (Tell other command)

-- two setups that are equal but for the order in which they list their black holes and dark links, and for the end by
-- which they name a dark link
pub record HaveEqualSets (net : networks.Network) (one two : Setup) : Type 0 where
  pub home : one.home ≡ two.home
  pub nodes : (node : ℕ) → is_hole one.holes node ≡ is_hole two.holes node
  pub links : (node port : ℕ) → is_dark (networks.far_of net) one.dark node port
      ≡ is_dark (networks.far_of net) two.dark node port
  pub agents : one.agents ≡ two.agents
  pub quota : one.quota ≡ two.quota
  pub board : one.board ≡ two.board

abbrev pub EqualSetsAreOneSetup : Type 0
EqualSetsAreOneSetup = (net : networks.Network) (one two : Setup) → HaveEqualSets net one two → normal net one
    ≡ normal net two

abbrev pub NormalFormsDestroyAlike : Type 0
NormalFormsDestroyAlike = (net : networks.Network) (setup : Setup) → networks.IsNetwork net → IsWithinLimits net setup →
    (node port : ℕ) → doomed (world_of net (normal net setup)) node port ≡ doomed (world_of net setup) node port
