-- How many agents suffice for a search without a map if they draw a chart, and where no fewer do. Both are said of the
-- classes of networks that bhs_protocols_unmapped defines.
use Rattle.std.specs.Prelude.{ℕ, ◌+◌, ◌-◌, ◌*◌, ◌≡◌, ◌≢◌, ◌<◌, ◌≤◌}
use Rattle.bhs_net.specs.declared.faults.TheConstants.{MAX_NODES}
use Rattle.bhs_net.specs.Network.{Network, IsNetwork, nodes_of, degree_of}
use Rattle.bhs_model.specs.Setups.{network_of}
use Rattle.bhs_schedules.specs.Strategies.{Strategies}
use Rattle.bhs_protocols.specs.LastWord.{SolvesFor}
use Rattle.bhs_protocols.specs.Programs.{strategies_by}
use Rattle.bhs_protocols.specs.Sizes.{Limits, played_on}
use Rattle.bhs_protocols_unmapped.specs.Unmapped.{SolvesNetworks, SolvesWithLinks, FindsOnNetworks, FindsWithLinks}
use Rattle.bhs_protocols_charts.specs.Charting.{charters}
use Rattle.bhs_protocols_charts.specs.ChartLaws.{CanChart, chart_commands}
use Rattle.bhs_protocols_charts.specs.Told.{by_links, by_parity, by_degree}

-- The limits of a match with this number of agents. Its quota and its whiteboards are the least that suffice.
abbrev pub chart_limits : (nodes ports agents wakeups : ℕ) → Limits
chart_limits nodes ports agents wakeups = record {
  agents = agents;
  quota = chart_commands nodes ports wakeups;
  board = 6 * (nodes - 1) + ports;
  wakeups = wakeups;
}

-- ---- how many agents suffice

-- Agents that are told the number of links solve all networks of this size, greatest degree and number of links, if
-- they are more than the greatest degree.
abbrev pub LinksSuffice : Type 0
LinksSuffice = (nodes degree links : ℕ) (terms : Limits) → degree < terms.agents → CanChart nodes (2 * links) terms
    → SolvesWithLinks nodes degree links terms (strategies_by (charters nodes (by_links links)))

-- Four agents, or more, solve all networks of this size and greatest degree 3. They are not told the number of links.
abbrev pub ThreeLinksSuffice : Type 0
ThreeLinksSuffice = (nodes : ℕ) (terms : Limits) → 4 ≤ terms.agents → CanChart nodes (3 * (nodes - 1)) terms
    → SolvesNetworks nodes 3 terms (strategies_by (charters nodes by_parity))

-- a team solves each network of a file with n nodes where every node has this number of links
abbrev pub SolvesRegular : (n degree : ℕ) → Limits → Strategies → Type 0
SolvesRegular n degree terms strategies = (net : Network) (home hole : ℕ) → IsNetwork net → nodes_of net ≡ n
    → ((node : ℕ) → node < n → degree_of net node ≡ degree) → home < n → hole < n → hole ≢ home
    → SolvesFor (played_on (network_of net) terms strategies home hole)

-- Agents that are told this number of links solve all these networks, if they are more than it.
abbrev pub RegularNetworksSuffice : Type 0
RegularNetworksSuffice = (nodes degree : ℕ) (terms : Limits) → degree < terms.agents
    → CanChart nodes (degree * (nodes - 1)) terms
    → SolvesRegular nodes degree terms (strategies_by (charters nodes (by_degree degree)))

-- ---- where no fewer do

-- a team does something that no team of fewer agents does, whatever its quota, whiteboards and strategies
pub record IsLeastTeam (Does : Limits → Strategies → Type 0) (terms : Limits) (strategies : Strategies) : Type 0 where
  pub does : Does terms strategies
  pub least : (others : Limits) (their_strategies : Strategies) → others.agents < terms.agents
      → Does others their_strategies → ⊥

-- Four agents solve all networks of eight nodes and greatest degree 3, and no team of fewer agents does.
abbrev pub ExactlyFour : Type 0
ExactlyFour = (wakeups : ℕ)
    → IsLeastTeam (SolvesNetworks 8 3) (chart_limits 8 21 4 wakeups) (strategies_by (charters 8 by_parity))

-- Finding the black hole asks less than solving the match, and no team of fewer agents does that on all of them.
abbrev pub ExactlyFourFind : Type 0
ExactlyFourFind = (wakeups : ℕ)
    → IsLeastTeam (FindsOnNetworks 8 3) (chart_limits 8 21 4 wakeups) (strategies_by (charters 8 by_parity))

-- Take a degree of 3 or more, 2 * degree + 2 nodes, if a file can have this number, and 4 * degree links. Agents that
-- are told these two numbers, one more than the degree, solve all networks of this size, greatest degree and number of
-- links, and no team of fewer agents does.
abbrev pub ExactlyOneMore : Type 0
ExactlyOneMore = (degree wakeups : ℕ) → 3 ≤ degree → 2 * degree + 2 ≤ MAX_NODES
    → IsLeastTeam (SolvesWithLinks (2 * degree + 2) degree (4 * degree))
    (chart_limits (2 * degree + 2) (2 * (4 * degree)) (degree + 1) wakeups)
    (strategies_by (charters (2 * degree + 2) (by_links (4 * degree))))

-- Nor does a team of fewer agents find the black hole on all of them.
abbrev pub ExactlyOneMoreFinds : Type 0
ExactlyOneMoreFinds = (degree wakeups : ℕ) → 3 ≤ degree → 2 * degree + 2 ≤ MAX_NODES
    → IsLeastTeam (FindsWithLinks (2 * degree + 2) degree (4 * degree))
    (chart_limits (2 * degree + 2) (2 * (4 * degree)) (degree + 1) wakeups)
    (strategies_by (charters (2 * degree + 2) (by_links (4 * degree))))
