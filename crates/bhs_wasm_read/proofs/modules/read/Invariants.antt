use Rattle.std.proofs.Common.{◌≡◌, ◌≤◌, ℕ, true, length}
use Rattle.bhs_wasm_read.specs.Files.{AreInOrder, are_sections}
use Rattle.bhs_wasm_read.specs.Modules.{parts_of, sections}
use Rattle.bhs_wasm_read.proofs.Orders.{Leads}
use Rattle.bhs_wasm_read.proofs.modules.read.Given as goal

-- The remaining sections extend the sections that were read: both together are in order, and their contents are the
-- contents of all sections.
abbrev pub invariant-loop-bytes : goal.invariant-loop-bytes
invariant-loop-bytes l = record {
  order : (count : ℕ) → are_sections count l.last l.bytes.left.now ≡ true → AreInOrder l.fn.bytes.left.now;
  parts : (most : ℕ) → length l.fn.bytes.left.now ≤ most → Leads l.last (parts_of l.sections) l.bytes.left.now
      (sections most 0 (parts_of l.fn.sections) l.fn.bytes.left.now);
}

abbrev pub decreases-loop-bytes : goal.decreases-loop-bytes
decreases-loop-bytes l = length l.bytes.left.now
