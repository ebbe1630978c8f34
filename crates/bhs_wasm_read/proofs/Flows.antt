-- Steps, one after another.
use Rattle.std.proofs.Common.{◌≡◌, ◌+◌, ℕ, suc, Bool, true, false, List, Ok, refl, sym, ◌∙◌, add-one, arith}
use Rattle.std.specs.Prelude.{if◌then◌else◌, ◌==◌, ◌&&◌, nat_le}
use Rattle.std.proofs.lemmas.Bool.Decides.{nat_tests}
use Rattle.bhs_wasm_read.specs.Bodies.{Flow, by_opcode, instruction_of, instructions, plain}
use Rattle.bhs_wasm_read.specs.Values.{Read, byte, over}

once : (fewer : ℕ) (flow after : Flow) (left rest : List ℕ) → instruction_of flow left ≡ Ok (after, rest)
    → instructions (suc fewer) flow left ≡ (if after.is_done then Ok (after, rest) else instructions fewer after rest)
unfolding instructions
once fewer flow after left rest read = rw read

taken-if : {A : Type 0} (b : Bool) (x y : A) → b ≡ true → (if b then x else y) ≡ x
taken-if true x y is = refl
taken-if false x y is = cc

left-if : {A : Type 0} (b : Bool) (x y : A) → b ≡ false → (if b then x else y) ≡ y
left-if true x y isnt = cc
left-if false x y isnt = refl

-- instructions before the last
pub goes-on : (most fewer : ℕ) (flow after : Flow) (left rest : List ℕ) (whole : Read Flow) → most ≡ suc fewer
    → instructions most flow left ≡ whole → instruction_of flow left ≡ Ok (after, rest) → after.is_done ≡ false
    → instructions fewer after rest ≡ whole
goes-on most fewer flow after left rest whole more leads read goes =
    let e : instructions (suc fewer) flow left ≡ instructions fewer after rest
    = once fewer flow after left rest read ∙ left-if after.is_done _ _ goes in
    let l : instructions (suc fewer) flow left ≡ whole = rw more at leads in
    sym e ∙ l

-- the last instruction
pub is-last : (most fewer : ℕ) (flow after : Flow) (left rest : List ℕ) (whole : Read Flow) → most ≡ suc fewer
    → instructions most flow left ≡ whole → instruction_of flow left ≡ Ok (after, rest) → after.is_done ≡ true
    → whole ≡ Ok (after, rest)
is-last most fewer flow after left rest whole more leads read ends =
    let e : instructions (suc fewer) flow left ≡ Ok (after, rest)
    = once fewer flow after left rest read ∙ taken-if after.is_done _ _ ends in
    let l : instructions (suc fewer) flow left ≡ whole = rw more at leads in
    sym l ∙ e

-- one step more
pub over-more : {A : Type 0} (step : A → List ℕ → Read A) (count : ℕ) (x y z : A) (left rest behind : List ℕ)
    → over step count x left ≡ Ok (y, rest) → step y rest ≡ Ok (z, behind)
    → over step (count + 1) x left ≡ Ok (z, behind)
unfolding over
over-more step count x y z left rest behind read more = rw (add-one, read) more

isnt-equal : (a b : ℕ) → (a ≡ b → ⊥) → (a == b) ≡ false
isnt-equal a b isnt = grind (arith, nat_tests)

-- what stands behind an opcode that is none of blocks, branches and calls
pub plain-next : (flow : Flow) (opcode : ℕ) (left rest : List ℕ) → byte left ≡ Ok (opcode, rest)
    → (opcode ≡ 0 → ⊥) → (opcode ≡ 1 → ⊥) → (nat_le 0x02 opcode && nat_le opcode 0x11) ≡ false
    → instruction_of flow left ≡ plain opcode flow rest
unfolding instruction_of
plain-next flow opcode left rest read isnt0 isnt1 isnt =
    let e : instruction_of flow left ≡ by_opcode flow opcode rest = rw read in
    e ∙ (left-if (opcode == 0x00) _ _ (isnt-equal opcode 0 isnt0)
    ∙ (left-if (opcode == 0x01) _ _ (isnt-equal opcode 1 isnt1)
    ∙ left-if (nat_le 0x02 opcode && nat_le opcode 0x11) _ _ isnt))
