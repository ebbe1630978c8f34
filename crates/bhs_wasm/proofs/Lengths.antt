-- How long memories are.
use Rattle.std.proofs.Common.{ℕ, zero, suc, ◌≡◌, ◌≤◌, List, length, refl, arith, length-append}
use Rattle.bhs_wasm.specs.States.{zeros, reached}

pub length-zeros : (count : ℕ) → length (zeros count) ≡ count
unfolding zeros
length-zeros zero = refl
length-zeros (suc count) = let h = length-zeros count in rw length-append (omega arith)

pub le_reached : (end : ℕ) (memory : List ℕ) → end ≤ length (reached end memory)
le_reached end memory = rw (length-append, length-zeros) (omega arith)
