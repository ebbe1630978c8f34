use Rattle.std.proofs.Common.{◌≡◌, List, ℕ, true, false, refl}
use Rattle.std.specs.Str.{IsUtf8, is_utf8}
use Rattle.std.proofs.lemmas.Str.{IsUtf8-from_is_utf8, is_utf8-from_IsUtf8}
use Rattle.bhs_wasm_read.proofs.bytes.Bytes.name.Goals as goal

not_utf8 : (text : List ℕ) → (IsUtf8 text → ⊥) → is_utf8 text ≡ false
not_utf8 text isnt = elim (is_utf8 text) as (λ b. is_utf8 text ≡ b → b ≡ false)
    [ true ↦ λ e. absurd (isnt (IsUtf8-from_is_utf8 text e)) | false ↦ λ _. refl ] refl

pub returns-in-Ok-clause-read : goal.returns-in-Ok-clause-read
returns-in-Ok-clause-read c =
    rw (c.in_ok-count.ensures.read, c.in_ok-take.ensures.read, is_utf8-from_IsUtf8 _ c.in-Ok.ensures.cases.1)
    (rw c.in-Ok.ensures.cases.0)

pub returns-in-Err-clause-read : goal.returns-in-Err-clause-read
returns-in-Err-clause-read c =
    rw (c.in_ok-count.ensures.read, c.in_ok-take.ensures.read, not_utf8 _ c.in-Err.ensures.cases.0)
