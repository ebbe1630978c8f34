use Rattle.std.proofs.Common.{◌≡◌, ◌≢◌, ◌<◌, ℕ}
use Rattle.bhs_net.specs.Trees.{parent, LeadsPast}
use Rattle.bhs_net.proofs.depth_first_search.DepthFirst.all_lead_past.Given as goal

abbrev pub invariant-loop-child : goal.invariant-loop-child
invariant-loop-child l = (child : ℕ) → child < l.child → child ≢ 0 → parent l.self child ≡ l.node
    → LeadsPast l.self l.node child
