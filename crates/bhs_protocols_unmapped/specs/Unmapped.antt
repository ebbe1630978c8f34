-- How many agents a search without a map needs: more than any node has links.
use Rattle.std.specs.Prelude.{ℕ, ◌+◌, ◌*◌, ◌≡◌, ◌≢◌, ◌<◌, ◌≤◌}
use Rattle.bhs_net.specs.declared.faults.TheConstants.{MAX_NODES}
use Rattle.bhs_net.specs.Network.{Network, IsNetwork, nodes_of, degree_of, ports_of}
use Rattle.bhs_model.specs.Setups.{network_of}
use Rattle.bhs_schedules.specs.Strategies.{Strategies}
use Rattle.bhs_protocols.specs.Programs.{strategies_by}
use Rattle.bhs_protocols.specs.LastWord.{SolvesFor, FindsFor}
use Rattle.bhs_protocols.specs.Halving.{most_commands}
use Rattle.bhs_protocols.specs.Halves.{halves}
use Rattle.bhs_protocols.specs.Sizes.{Limits, played_on}

-- no node of the network has more links than this, and some node has as many
pub record HasGreatestDegree (net : Network) (degree : ℕ) : Type 0 where
  pub most : (node : ℕ) → degree_of net node ≤ degree
  pub attained : (node : ℕ) × (degree_of net node ≡ degree)

-- a team solves each network of a file with n nodes and this greatest degree, from each home base and whichever other
-- node is the only black hole: always with the same strategies, so they have no map
abbrev pub SolvesNetworks : (n degree : ℕ) → Limits → Strategies → Type 0
SolvesNetworks n degree terms strategies = (net : Network) (home hole : ℕ) → IsNetwork net → nodes_of net ≡ n
    → HasGreatestDegree net degree → home < n → hole < n → hole ≢ home
    → SolvesFor (played_on (network_of net) terms strategies home hole)

-- a team finds the black hole on each of them, in the sense of the literature
abbrev pub FindsOnNetworks : (n degree : ℕ) → Limits → Strategies → Type 0
FindsOnNetworks n degree terms strategies = (net : Network) (home hole : ℕ) → IsNetwork net → nodes_of net ≡ n
    → HasGreatestDegree net degree → home < n → hole < n → hole ≢ home
    → FindsFor (played_on (network_of net) terms strategies home hole) hole

-- a team solves each of them that has this number of links, so the team may be told the number (each link has two
-- ports)
abbrev pub SolvesWithLinks : (n degree links : ℕ) → Limits → Strategies → Type 0
SolvesWithLinks n degree links terms strategies = (net : Network) (home hole : ℕ) → IsNetwork net → nodes_of net ≡ n
    → HasGreatestDegree net degree → ports_of net ≡ 2 * links → home < n → hole < n → hole ≢ home
    → SolvesFor (played_on (network_of net) terms strategies home hole)

-- a team finds the black hole on each network with this number of links
abbrev pub FindsWithLinks : (n degree links : ℕ) → Limits → Strategies → Type 0
FindsWithLinks n degree links terms strategies = (net : Network) (home hole : ℕ) → IsNetwork net → nodes_of net ≡ n
    → HasGreatestDegree net degree → ports_of net ≡ 2 * links → home < n → hole < n → hole ≢ home
    → FindsFor (played_on (network_of net) terms strategies home hole) hole

-- Take a degree of 3 or more, 2 * degree + 2 nodes, if a file can have this number, and 4 * degree links. No team of at
-- most as many agents as the degree finds the black hole on all networks of this size, greatest degree and number of
-- links.
abbrev pub ManyAgentsAreNeededToFindWithLinks : Type 0
ManyAgentsAreNeededToFindWithLinks = (degree : ℕ) (terms : Limits) (strategies : Strategies) → 3 ≤ degree
    → 2 * degree + 2 ≤ MAX_NODES → terms.agents ≤ degree
    → FindsWithLinks (2 * degree + 2) degree (4 * degree) terms strategies → ⊥

-- Hence no team of so few agents solves all of these networks, even when told the number of links.
abbrev pub ManyAgentsAreNeededWithLinks : Type 0
ManyAgentsAreNeededWithLinks = (degree : ℕ) (terms : Limits) (strategies : Strategies) → 3 ≤ degree
    → 2 * degree + 2 ≤ MAX_NODES → terms.agents ≤ degree
    → SolvesWithLinks (2 * degree + 2) degree (4 * degree) terms strategies → ⊥

-- The same without the number of links: no team of at most as many agents as the degree finds the black hole on all
-- networks of this size and greatest degree.
abbrev pub ManyAgentsAreNeededToFind : Type 0
ManyAgentsAreNeededToFind = (degree : ℕ) (terms : Limits) (strategies : Strategies) → 3 ≤ degree
    → 2 * degree + 2 ≤ MAX_NODES → terms.agents ≤ degree
    → FindsOnNetworks (2 * degree + 2) degree terms strategies → ⊥

-- So none solves them all.
abbrev pub ManyAgentsAreNeeded : Type 0
ManyAgentsAreNeeded = (degree : ℕ) (terms : Limits) (strategies : Strategies) → 3 ≤ degree → 2 * degree + 2 ≤ MAX_NODES
    → terms.agents ≤ degree → SolvesNetworks (2 * degree + 2) degree terms strategies → ⊥

-- two agents, with the quota that a search of n nodes by halves asks for and whiteboards of 4 bytes
abbrev pub halves_limits : (n wakeups : ℕ) → Limits
halves_limits n wakeups = record { agents = 2; quota = most_commands n; board = 4; wakeups = wakeups }

-- Networks of greatest degree 2 are rings, and two agents that search by halves solve them all: the law needs degree 3
-- or more.
abbrev pub HalvesSolveNetworks : Type 0
HalvesSolveNetworks = (n wakeups : ℕ) → SolvesNetworks n 2 (halves_limits n wakeups) (strategies_by (halves n))
