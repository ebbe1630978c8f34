-- Contests of teams that are known to solve: by halves, by the shuttle, with a map, by divisions, and by a chart.
use Rattle.std.specs.Prelude.{ℕ, ◌+◌, ◌-◌, ◌*◌, ◌<◌, ◌≤◌, ◌≡◌, List, [], ◌∷◌}
use Rattle.bhs_net.specs.Network.{Network, IsNetwork, nodes_of, degree_of}
use Rattle.bhs_model.specs.declared.setups.Setup.{Setup}
use Rattle.bhs_model.specs.Setups.{network_of}
use Rattle.bhs_model.specs.Examples.{none_held}
use Rattle.bhs_match.specs.Decided.{AreAllDone}
use Rattle.bhs_match.specs.Matches.{Play, world_in}
use Rattle.bhs_referee.specs.Verdicts.{verdict_of}
use Rattle.bhs_schedules.specs.Everywhere.{IsSolvedWithin}
use Rattle.bhs_protocols.specs.AllRings.{IsSetOn, ring_bounds}
use Rattle.bhs_protocols.specs.Halves.{halves}
use Rattle.bhs_protocols.specs.Shuttle.{shuttle}
use Rattle.bhs_protocols.specs.Halving.{most_commands, most_moves}
use Rattle.bhs_protocols.specs.Programs.{strategies_by}
use Rattle.bhs_protocols.specs.Sizes.{Limits}
use Rattle.bhs_protocols_charts.specs.Charting.{charters}
use Rattle.bhs_protocols_charts.specs.ChartLaws.{CanSearch, chart_moves}
use Rattle.bhs_protocols_divided.specs.Dividing.{dividers}
use Rattle.bhs_protocols_divided.specs.DividingLaws as divided
use Rattle.bhs_protocols_divided.specs.Plans.{Plan}
use Rattle.bhs_protocols_mapped.specs.Exploring.{explorers}
use Rattle.bhs_protocols_mapped.specs.Guides.{Guide, IsGuide}
use Rattle.bhs_protocols_mapped.specs.MapLaws.{IsSetAt}
use Rattle.bhs_protocols_unmapped.specs.Degrees.{ports_beside}
use Rattle.bhs_wasm.specs.Contents.{Contents}
use Rattle.bhs_wasm_team.specs.Agents.{strategy_of}
use Rattle.bhs_theorems_isolation.specs.ContestMet.{Attended}
use Rattle.bhs_theorems_contests.specs.Contests.{WaitsOnLinks, IsPlayedIn, IsPlainMatch}

-- whoever runs these programs waits once it has departed
pub record ProgramsWait : Type 0 where
  pub halves_wait : (n agent : ℕ) → WaitsOnLinks (strategies_by (halves n) agent)
  pub shuttles_wait : (n agent : ℕ) → WaitsOnLinks (strategies_by (shuttle n) agent)
  pub explorers_wait : (n : ℕ) (guide : Guide) (agent : ℕ) → WaitsOnLinks (strategies_by (explorers n guide) agent)
  pub charters_wait : (n : ℕ) (tells : ℕ → ℕ) (agent : ℕ) → WaitsOnLinks (strategies_by (charters n tells) agent)
  pub dividers_wait : (plan : Plan) (agent : ℕ) → WaitsOnLinks (strategies_by (dividers plan) agent)
  pub modules_wait : (program : Contents) (arguments : List ℕ) (fuel : ℕ)
      → WaitsOnLinks (strategy_of program arguments fuel)

-- Take a ring of a file with n nodes, as in the theorem on the search by halves, in a contest. If it settled, all its
-- agents have ended or are lost, and both were played by clients that search by halves, then it is solved within M
-- moves, one agent lost.
abbrev pub HalvesSolveContests : Type 0
HalvesSolveContests = (play : Play) (hole wakeups : ℕ) (clients : (agent : ℕ) → Attended)
    → IsSetOn play.net play.setup hole → 4 ≤ play.setup.board → most_commands (nodes_of play.net) ≤ play.setup.quota
    → ((agent : ℕ) → agent < play.setup.agents
    → IsPlayedIn play wakeups (strategies_by (halves (nodes_of play.net))) agent (clients agent))
    → IsPlainMatch none_held play → AreAllDone play
    → IsSolvedWithin (most_moves (nodes_of play.net)) 1 (verdict_of play)

-- The same law for the search by the shuttle, within (n - 1)^2 moves.
abbrev pub ShuttleSolvesContests : Type 0
ShuttleSolvesContests = (play : Play) (hole wakeups : ℕ) (clients : (agent : ℕ) → Attended)
    → IsSetOn play.net play.setup hole → 4 ≤ play.setup.board
    → (nodes_of play.net - 2) * (nodes_of play.net - 1) + 2 * nodes_of play.net ≤ play.setup.quota
    → ((agent : ℕ) → agent < play.setup.agents
    → IsPlayedIn play wakeups (strategies_by (shuttle (nodes_of play.net))) agent (clients agent))
    → IsPlainMatch none_held play → AreAllDone play
    → IsSolvedWithin (ring_bounds (nodes_of play.net)).moves 1 (verdict_of play)

-- There is a guide for this network, from this home base, by which two clients solve each contest there that settled
-- and in which both have ended or are lost, whichever other node is the black hole.
pub record IsSearchedInContests (net : Network) (home : ℕ) : Type 0 where
  pub guide : Guide
  pub guides : IsGuide (network_of net) home (nodes_of net) guide
  pub solves : (play : Play) (hole wakeups : ℕ) (clients : (agent : ℕ) → Attended)
      → play.net ≡ net → IsSetAt net home play.setup hole → 4 ≤ play.setup.board
      → (nodes_of net - 2) * (nodes_of net - 1) + 2 * nodes_of net ≤ play.setup.quota
      → ((agent : ℕ) → agent < play.setup.agents
      → IsPlayedIn play wakeups (strategies_by (explorers (nodes_of net) guide)) agent (clients agent))
      → IsPlainMatch none_held play → AreAllDone play
      → IsSolvedWithin (ring_bounds (nodes_of net)).moves 1 (verdict_of play)

-- Each network of a file has such a guide from each home base, which depends on these two alone.
abbrev pub MapsSolveContests : Type 0
MapsSolveContests = (net : Network) (home : ℕ) → IsNetwork net → home < nodes_of net → IsSearchedInContests net home

-- Consider a contest's network with two agents, one black hole and no dark link, and a plan for this network. If the
-- contest settled, both agents have ended or are lost, and clients that follow the plan played them, then the match is
-- solved within 6 (n - 2) R + 2 (n - 1) moves, with one agent lost. Every network of a file has such a plan.
abbrev pub DividersSolveContests : Type 0
DividersSolveContests = (play : Play) (hole wakeups : ℕ) (plan : Plan) (clients : (agent : ℕ) → Attended)
    → divided.IsSearchedBy (world_in play) (nodes_of play.net) hole plan → 5 ≤ play.setup.board
    → divided.most_commands (nodes_of play.net) ≤ play.setup.quota
    → ((agent : ℕ) → agent < play.setup.agents
    → IsPlayedIn play wakeups (strategies_by (dividers plan)) agent (clients agent))
    → IsPlainMatch none_held play → AreAllDone play
    → IsSolvedWithin (divided.most_moves (nodes_of play.net)) 1 (verdict_of play)

-- the limits of a match, where a sleeper may wake so often although nothing has changed
abbrev pub limits_of : Setup → (wakeups : ℕ) → Limits
limits_of setup wakeups =
    record { agents = setup.agents; quota = setup.quota; board = setup.board; wakeups = wakeups }

-- Take a network in a contest, with one black hole and no dark link, and agents that draw a chart, as in the theorem on
-- them. If it settled, all its agents have ended or are lost, and each was played by a client that draws the chart,
-- then it is solved within the moves of that theorem, and at most as many agents are lost as the black hole has links.
abbrev pub ChartersSolveContests : Type 0
ChartersSolveContests = (play : Play) (tells : ℕ → ℕ) (hole wakeups : ℕ) (clients : (agent : ℕ) → Attended)
    → play.setup.holes ≡ hole ∷ [] → play.setup.dark ≡ []
    → CanSearch play.net (limits_of play.setup wakeups) tells play.setup.home hole
    → ((agent : ℕ) → agent < play.setup.agents
    → IsPlayedIn play wakeups (strategies_by (charters (nodes_of play.net) tells)) agent (clients agent))
    → IsPlainMatch none_held play → AreAllDone play
    → IsSolvedWithin (chart_moves (nodes_of play.net) (ports_beside play.net hole) play.setup.agents)
    (degree_of play.net hole) (verdict_of play)
