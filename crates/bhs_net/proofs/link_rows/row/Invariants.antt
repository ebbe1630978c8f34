use Rattle.std.proofs.Common.{◌≡◌, ℕ, ◌<◌, length, Some}
use Rattle.std.specs.Prelude.{slice_index_or}
use Rattle.std.specs.BTreeMap.{get}
use Rattle.bhs_net.specs.Listing.{end_cmp}
use Rattle.bhs_net.proofs.link_rows.row.Given as goal

abbrev pub invariant-loop-port : goal.invariant-loop-port
invariant-loop-port l = record {
  len : length l.row.items ≡ l.port;
  ports : (port : ℕ) → port < l.port → get end_cmp l.far_ends (l.node, port) ≡ Some
      (slice_index_or l.row.items port (0, 0));
}
