use Rattle.std.proofs.Common.{ℕ, ◌<◌}
use Rattle.bhs_net.specs.Network.{network_of, row_of}
use Rattle.bhs_net.specs.Filling.{LeadsApart}
use Rattle.bhs_net.proofs.fast_rows.all_lead_apart.Given as goal

abbrev pub invariant-loop-row : goal.invariant-loop-row
invariant-loop-row l = (early : ℕ) → early < l.row-index → LeadsApart (row_of (network_of l.rows) early)
