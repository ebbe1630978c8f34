-- A team without a map that is told the number of nodes and the greatest degree, and no more.
use Rattle.std.specs.Prelude.{ℕ, ◌+◌, ◌≤◌}
use Rattle.bhs_net.specs.declared.faults.TheConstants.{MAX_NODES}
use Rattle.bhs_schedules.specs.Strategies.{Strategies}
use Rattle.bhs_protocols.specs.Sizes.{Limits}
use Rattle.bhs_protocols_unmapped.specs.Unmapped.{SolvesNetworks, FindsOnNetworks}

-- Take a degree of 4 or more, and at least 6 nodes more than the degree, but no more than a file can have. No team, of
-- any number of agents, with any quota and whiteboards, finds the black hole on all networks of this size and greatest
-- degree: it can't tell how many links the black hole has.
abbrev pub NobodyFinds : Type 0
NobodyFinds =
    (degree nodes : ℕ) (terms : Limits) (strategies : Strategies) → 4 ≤ degree → degree + 6 ≤ nodes → nodes ≤ MAX_NODES
    → FindsOnNetworks nodes degree terms strategies → ⊥

-- Hence no team solves all of these networks.
abbrev pub NobodySolves : Type 0
NobodySolves =
    (degree nodes : ℕ) (terms : Limits) (strategies : Strategies) → 4 ≤ degree → degree + 6 ≤ nodes → nodes ≤ MAX_NODES
    → SolvesNetworks nodes degree terms strategies → ⊥
