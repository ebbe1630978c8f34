use Rattle.std.proofs.Common.{◌≡◌, ◌≤◌, ℕ, suc, true, List, [], ◌∷◌, length, Ok, refl, arith}
use Rattle.bhs_wasm_read.specs.Files.{section, are_sections}
use Rattle.bhs_wasm_read.proofs.Orders.{leads-on, leads-end}
use Rattle.bhs_wasm_read.proofs.modules.read.Goals as goal

one-more : (count last own : ℕ) (left rest : List ℕ) → section last left ≡ Ok (own, rest)
    → are_sections count own rest ≡ true → are_sections (suc count) last left ≡ true
unfolding are_sections
one-more count last own left rest read behind = rw read behind

none-left : (last : ℕ) (left : List ℕ) → length left ≤ 0 → are_sections 0 last left ≡ true
unfolding are_sections
none-left last [] none = refl
none-left last (b ∷ left) none = absurd (omega arith)

pub loop-bytes-init : goal.loop-bytes-init
loop-bytes-init c = record { order = λ count behind. (count, behind); parts = λ most enough. (most, enough, refl) }

pub loop-bytes-preserved : goal.loop-bytes-preserved
loop-bytes-preserved c = record {
  order = λ count behind. c.loop-bytes.invariant.order (suc count)
      (one-more count _ _ _ _ (rw c.begin.ensures.left at c.in_ok-last.ensures.read) behind);
  parts = λ most enough. leads-on _ _ _ _ _ _ _ (c.loop-bytes.invariant.parts most enough)
      (rw c.begin.ensures.left at c.in_ok-last.ensures.parts) (rw c.begin.ensures.left at c.in_ok-last.ensures.shorter);
}

pub returns-clause-order : goal.returns-clause-order
returns-clause-order c = c.loop-bytes.invariant.order 0 (none-left _ _ (omega arith))

pub returns-clause-parts : goal.returns-clause-parts
returns-clause-parts c = λ most enough. leads-end _ _ _ _ (c.loop-bytes.invariant.parts most enough) (omega arith)
