-- Sections, one after another.
use Rattle.std.proofs.Common.{◌≡◌, ◌<◌, ◌≤◌, ℕ, zero, suc, List, [], ◌∷◌, length, Ok, refl, sym, ◌∙◌, arith}
use Rattle.bhs_wasm_read.specs.Modules.{Parts, section, sections}
use Rattle.bhs_wasm_read.specs.Values.{Read}

-- The remaining sections, which come after a rank in the order, give this result.
abbrev pub Leads : (last : ℕ) → Parts → List ℕ → Read Parts → Type 0
Leads last parts left whole = (fewer : ℕ) × (length left ≤ fewer) × (sections fewer last parts left ≡ whole)

one-more : (fewer last own b : ℕ) (parts more : Parts) (left rest : List ℕ)
    → section last parts (b ∷ left) ≡ Ok ((own, more), rest)
    → sections (suc fewer) last parts (b ∷ left) ≡ sections fewer own more rest
unfolding sections
one-more fewer last own b parts more left rest read = rw read

leads-from : (fewer last own b : ℕ) (parts more : Parts) (left rest : List ℕ) (whole : Read Parts)
    → length (b ∷ left) ≤ fewer → sections fewer last parts (b ∷ left) ≡ whole
    → section last parts (b ∷ left) ≡ Ok ((own, more), rest) → length rest < length (b ∷ left)
    → Leads own more rest whole
leads-from zero last own b parts more left rest whole enough leads read shorter = absurd (omega arith)
leads-from (suc fewer) last own b parts more left rest whole enough leads read shorter =
    (fewer, omega arith, sym (one-more fewer last own b parts more left rest read) ∙ leads)

-- a section is read
pub leads-on : (last own : ℕ) (parts more : Parts) (left rest : List ℕ) (whole : Read Parts)
    → Leads last parts left whole → section last parts left ≡ Ok ((own, more), rest) → length rest < length left
    → Leads own more rest whole
leads-on last own parts more [] rest whole leads read shorter = absurd (omega arith)
leads-on last own parts more (b ∷ left) rest whole leads read shorter =
    leads-from leads.0 last own b parts more left rest whole leads.1 leads.2 read shorter

none-left : (fewer last : ℕ) (parts : Parts) → sections fewer last parts [] ≡ Ok (parts, [])
unfolding sections
none-left zero last parts = refl
none-left (suc fewer) last parts = refl

-- nothing is left
pub leads-end : (last : ℕ) (parts : Parts) (left : List ℕ) (whole : Read Parts)
    → Leads last parts left whole → length left ≤ 0 → whole ≡ Ok (parts, [])
leads-end last parts [] whole leads none = sym leads.2 ∙ none-left leads.0 last parts
leads-end last parts (b ∷ left) whole leads none = absurd (omega arith)
