use Rattle.std.proofs.Common.{◌≡◌, ◌∙◌, ap, sym, refl, ℕ, ◌<◌, true, false, List, [], ◌∷◌, arith}
use Rattle.std.specs.List.{list_all}
use Rattle.std.specs.Str.{IsAscii}
use Rattle.std.proofs.lemmas.Bool.{and_parts}
use Rattle.std.proofs.lemmas.Bool.Decides.{nat_tests}
use Rattle.std.proofs.lemmas.Str.{chars-IsAscii, encode_ascii}
use Rattle.std.proofs.lemmas.Str.Ascii.{IsAscii-nil, IsAscii-cons}
use Rattle.bhs_terminal.specs.Visible.{controls, is_plain, visible, visible_all, visible_character}
use Rattle.bhs_terminal.proofs.visible.Goals as goal

plain_below : (byte : ℕ) → is_plain byte ≡ true → byte < 128
plain_below byte plain = grind (arith, nat_tests, plain)

plain_is_ascii : (text : List ℕ) → list_all is_plain text ≡ true → IsAscii text
plain_is_ascii [] plain = IsAscii-nil
plain_is_ascii (byte ∷ bytes) plain =
    let parts = and_parts (is_plain byte) (list_all is_plain bytes) plain in
    IsAscii-cons byte bytes (plain_below byte parts.0) (plain_is_ascii bytes parts.1)

controls_nothing : (byte : ℕ) → is_plain byte ≡ true → controls byte ≡ false
controls_nothing byte plain = grind (arith, nat_tests, plain)

stays : (byte : ℕ) → is_plain byte ≡ true → visible_character byte ≡ byte ∷ []
stays byte plain = rw (controls_nothing byte plain) (encode_ascii byte (plain_below byte plain))

all_stay : (text : List ℕ) → list_all is_plain text ≡ true → visible_all text ≡ text
all_stay [] plain = refl
all_stay (byte ∷ bytes) plain =
    let parts = and_parts (is_plain byte) (list_all is_plain bytes) plain in
    rw (stays byte parts.0) (ap (λ others. byte ∷ others) (all_stay bytes parts.1))

plain_text : (text : List ℕ) → list_all is_plain text ≡ true → visible text ≡ text
plain_text text plain =
    ap visible_all (chars-IsAscii text (plain_is_ascii text plain)) ∙ all_stay text plain

pub returns-then-is_plain : goal.returns-then-is_plain
returns-then-is_plain c =
    rw (plain_text c.args.text.now (sym c.is_plain.ensures ∙ c.if-is_plain.true)) c.from_str.ensures.ok
