-- Texts that JSON writes as they are.
use Rattle.std.proofs.Common.{◌≡◌, ℕ, List, [], ◌∷◌, ◌++◌, Bool, true, false, ◌&&◌, refl, ap}
use Rattle.std.proofs.Common.{◌∙◌, arith}
use Rattle.std.proofs.lemmas.Bool.Decides.{nat_tests}
use Rattle.std.specs.List.{list_all}
use Rattle.json.specs.Print.{escape, escape_byte, print}
use Rattle.json.specs.Token.{string}
use Rattle.serde_json.specs.Data as datas
use Rattle.serde_json.proofs.Texts.{print-outline}
use Rattle.serde_json.proofs.OnLiterals.{serde_json_on_literals}
use Rattle.bhs_wire.specs.Plain.{is_plain}
use Rattle.bhs_wire.specs.Reply.{quoted_text}

plain_byte : (byte : ℕ) → is_plain byte ≡ true → escape_byte byte ≡ byte ∷ []
unfolding escape_byte
plain_byte byte plain = grind (arith, nat_tests)

pub escape-plain : (text : List ℕ) → list_all is_plain text ≡ true → escape text ≡ text
escape-plain [] plain = refl
escape-plain (byte ∷ text) plain = by_byte (is_plain byte) refl plain (λ h. escape-plain text h) where
  by_byte : (b : Bool) → is_plain byte ≡ b → (b && list_all is_plain text) ≡ true
      → (list_all is_plain text ≡ true → escape text ≡ text) → escape_byte byte ++ escape text ≡ byte ∷ text
  by_byte true is all others = ap (λ bytes. bytes ++ escape text) (plain_byte byte is)
      ∙ ap (λ bytes. byte ∷ bytes) (others all)
  by_byte false is all others = cc

pub quoted_text-plain : (text : List ℕ) → list_all is_plain text ≡ true → quoted_text text ≡ 34 ∷ (text ++ 34 ∷ [])
unfolding serde_json_on_literals
quoted_text-plain text plain = ap (λ bytes. 34 ∷ (bytes ++ 34 ∷ [])) (escape-plain text plain)

pub print-string : (text : List ℕ) → print (string text ∷ []) ≡ quoted_text text
print-string text = print-outline (datas.string text)
