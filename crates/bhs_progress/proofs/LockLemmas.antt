-- Locks that are taken in ascending order of rank admit no cycle of waiting threads, by induction on the ranks left.
use Rattle.std.proofs.Common.{ℕ, zero, suc, ◌+◌, ◌≤◌, ◌≡◌, Option, Some, None, refl, arith}
use Rattle.bhs_progress.specs.Locks.{Locks, AreAscending, AreTaken, WaitsFor, at_last, waits_on, WaitsEnd}

module _ (ranks : ℕ) (locks : Locks) (ascending : AreAscending locks) (taken : AreTaken ranks locks) where
  abbrev Ends : (thread : ℕ) → Type 0
  Ends thread = (last : ℕ) × WaitsFor locks thread last × (locks.wants last ≡ None)

  -- at most `fuel` ranks are at or above the wanted one
  abbrev IsNear : (fuel : ℕ) → Option ℕ → Type 0
  IsNear fuel None = Unit {0}
  IsNear fuel (Some wanted) = ranks ≤ wanted + fuel

  nears : (fuel wanted other : ℕ) (own : Option ℕ) → locks.wants other ≡ own → locks.holder wanted ≡ Some other
      → ranks ≤ wanted + suc fuel → IsNear fuel own
  nears fuel wanted other None is held few = tt
  nears fuel wanted other (Some own) is held few = let above = ascending other wanted own held is in
      omega (arith, above, few)

  ends : (fuel thread : ℕ) (own : Option ℕ) → locks.wants thread ≡ own → IsNear fuel own → Ends thread
  ends fuel thread None is near = (thread, at_last thread, is)
  ends zero thread (Some wanted) is near = let within = taken.within thread wanted is in
      absurd (omega (arith, within, near))
  ends (suc fuel) thread (Some wanted) is near =
      let held = taken.held thread wanted is in
      let other = held.0 in
      let later = ends fuel other (locks.wants other) refl
      (nears fuel wanted other (locks.wants other) refl held.1 near) in
      (later.0, waits_on thread wanted other later.0 is held.1 later.1, later.2)

  starts : (thread : ℕ) (own : Option ℕ) → locks.wants thread ≡ own → IsNear ranks own
  starts thread None is = tt
  starts thread (Some wanted) is = omega arith

pub waits_end : WaitsEnd
waits_end ranks locks ascending taken thread = ends ranks locks ascending taken ranks thread (locks.wants thread) refl
    (starts ranks locks ascending taken thread (locks.wants thread) refl)
