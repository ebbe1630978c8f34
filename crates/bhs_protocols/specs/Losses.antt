-- A loss is needed: a team that solves the match whichever node is the black hole loses an agent to each of them under
-- some schedule.
use Rattle.std.specs.Prelude.{ℕ, ◌≢◌, ◌<◌, ◌≤◌, List}
use Rattle.bhs_net.specs.Network.{Network, IsNetwork, nodes_of}
use Rattle.bhs_model.specs.declared.setups.Setup.{Setup}
use Rattle.bhs_model.specs.Setups.{world_of}
use Rattle.bhs_model.specs.Worlds.{World}
use Rattle.bhs_model.specs.Draws.{Held}
use Rattle.bhs_model.specs.Examples.{none_held}
use Rattle.bhs_schedules.specs.Strategies.{Strategies}
use Rattle.bhs_schedules.specs.Schedules.{Trial, under, IsAtRest, verdict}
use Rattle.bhs_schedules.specs.Everywhere.{EveryScheduleSolves}
use Rattle.bhs_protocols.specs.Programs.{strategies_by}
use Rattle.bhs_protocols.specs.AllRings.{IsSetOn}
use Rattle.bhs_protocols.specs.Halving.{most_commands}
use Rattle.bhs_protocols.specs.Halves.{halves}
use Rattle.bhs_protocols.specs.LastWord.{searched, SolvesEverywhere}

-- a schedule after which nothing more can happen, and an agent is lost
pub record LosesOne (trial : Trial) : Type 0 where
  pub schedule : List ℕ
  pub rest : IsAtRest trial (under trial schedule)
  pub lost : 0 < (verdict trial (under trial schedule)).lost

-- Take a network of three nodes or more, held links, and a team that solves the match whichever node other than the
-- home base is the only black hole. Then each of these black holes destroys an agent under some schedule.
abbrev pub EachBlackHoleDestroys : Type 0
EachBlackHoleDestroys = (world : World) (held : Held) (wakeups : ℕ) (strategies : Strategies) → 3 ≤ world.net.nodes
    → SolvesEverywhere world held wakeups strategies → (hole : ℕ) → hole < world.net.nodes → hole ≢ world.home
    → LosesOne (searched world held wakeups strategies hole)

-- Hence the team cannot solve any of these matches without losing an agent.
abbrev pub ALossIsNeeded : Type 0
ALossIsNeeded = (world : World) (held : Held) (wakeups : ℕ) (strategies : Strategies) → 3 ≤ world.net.nodes
    → SolvesEverywhere world held wakeups strategies → (hole moves : ℕ) → hole < world.net.nodes → hole ≢ world.home
    → EveryScheduleSolves (searched world held wakeups strategies hole) moves 0 → ⊥

-- a network of a file has three nodes
abbrev pub ALossIsNeededOnNetworks : Type 0
ALossIsNeededOnNetworks = (net : Network) (setup : Setup) (held : Held) (wakeups : ℕ) (strategies : Strategies)
    → IsNetwork net
    → SolvesEverywhere (world_of net setup) held wakeups strategies → (hole : ℕ) → hole < (world_of net setup).net.nodes
    → hole ≢ setup.home → LosesOne (searched (world_of net setup) held wakeups strategies hole)

-- Two agents that search by halves are such a team, on each ring of a file and from each home base. They lose one at
-- most, so on rings one loss is needed and suffices.
abbrev pub TheHalvesSolveEverywhere : Type 0
TheHalvesSolveEverywhere = (net : Network) (setup : Setup) (hole wakeups : ℕ) → IsSetOn net setup hole → 4 ≤ setup.board
    → most_commands (nodes_of net) ≤ setup.quota
    → SolvesEverywhere (world_of net setup) none_held wakeups (strategies_by (halves (nodes_of net)))
