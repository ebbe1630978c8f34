use Rattle.std.proofs.Common.{◌≡◌, ℕ, ◌<◌, Some, map}
use Rattle.std.specs.Prelude.{slice_get}
use Rattle.bhs_shared_match.specs.Arrivals.{receipt_at}
use Rattle.bhs_shared_match.proofs.pass.Pass.stray.Given as goal

abbrev pub invariant-loop-index : goal.invariant-loop-index
invariant-loop-index l = (k : ℕ) → k < l.index → slice_get (map (receipt_at l.log) l.places) k ≡ slice_get
    (map Some l.self.arrivals) k
