-- What a line says, by its tokens.
use Rattle.std.proofs.Common.{◌≡◌, ℕ, List, Bool, true, false, cond, Option, None, refl, ap}
use Rattle.std.specs.Str.{IsUtf8, is_utf8}
use Rattle.std.proofs.lemmas.Str.{IsUtf8-from_is_utf8, is_utf8-from_IsUtf8}
use Rattle.json.specs.Lex.{tokens}
use Rattle.serde_json.specs.Data.{Data}
use Rattle.serde_json.specs.Read.{read}
use Rattle.bhs_model.specs.declared.commands.Command.TheVariants.{Bad}
use Rattle.bhs_wire.specs.declared.commands.First.TheVariants.{Tell}
use Rattle.bhs_wire.specs.First.{first_of, first_of_read}
use Rattle.bhs_wire.specs.Said.{said_by_tokens}

-- a text says what its tokens say
pub first_of-text : (line : List ℕ) → IsUtf8 line → first_of line ≡ said_by_tokens (tokens line)
first_of-text line text = ap (λ b. first_of_read (cond b (read line) None)) (is_utf8-from_IsUtf8 line text)

no_text : (b : Bool) (r : Option Data) → (b ≡ true → ⊥) → first_of_read (cond b r None) ≡ Tell Bad
no_text true r never = absurd (never refl)
no_text false r never = refl

-- what is no text is a bad command
pub first_of-no_text : (line : List ℕ) → (IsUtf8 line → ⊥) → first_of line ≡ Tell Bad
first_of-no_text line never = no_text (is_utf8 line) (read line) (λ h. never (IsUtf8-from_is_utf8 line h))
