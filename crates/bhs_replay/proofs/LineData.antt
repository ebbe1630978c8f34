-- Data of lines, of heads as of events. What holds of each is proved once, by recursion over its parts: its text is
-- read back as it, is flat, and is UTF-8.
use Rattle.std.proofs.Common.{◌≡◌, ℕ, zero, suc, ◌<◌, ◌≤◌, ◌^◌, Bool, true, false, ◌&&◌, IsUtf8, List, [], ◌∷◌}
use Rattle.std.proofs.Common.{Option, Some, option_and_then, refl, sym, ap, ◌∙◌, arith, append-nil}
use Rattle.std.specs.Prelude.{⊤}
use Rattle.std.proofs.lemmas.Bool.{and_parts}
use Rattle.std.proofs.lemmas.Str.{IsUtf8-append, IsUtf8-from_ascii}
use Rattle.std.proofs.lemmas.Fmt.{IsAscii-decimal}
use Rattle.json.specs.Json as json
use Rattle.json.specs.Token.{Token}
use Rattle.json.specs.Lex.{tokens}
use Rattle.json.specs.Print.{quoted}
use Rattle.json.specs.Tree.{json_tokens, depth, items_depth, members_depth, HasNumbers, ItemsHaveNumbers}
use Rattle.json.specs.Tree.{MembersHaveNumbers}
use Rattle.json.proofs.Printed.Decimals.{IsNumber-decimal}
use Rattle.json.proofs.Printed.Tokens.{tokens-print}
use Rattle.json.proofs.Printed.Trees.{value-json_tokens, ArePrintable-json_tokens}
use Rattle.json.proofs.Printed.Utf8.{are_ascii, IsUtf8-are_ascii, IsUtf8-quoted, IsUtf8-boolean}
use Rattle.serde_json.specs.Data.{unsigned, negative, float, Data, null, boolean, number, string, array, object, Items}
use Rattle.serde_json.specs.Data.{no_items, item, Members, no_members, member, put}
use Rattle.serde_json.specs.Read.{of_json, of_items, of_members, read, max_depth}
use Rattle.serde_json.specs.Written.{outline, items_outline, members_outline, comma_if, compact_text, items_text}
use Rattle.serde_json.specs.Written.{members_text}
use Rattle.serde_json.proofs.Numbers.{number_of-decimal}
use Rattle.serde_json.proofs.Texts.{print-outline}
use Rattle.bhs_replay.proofs.Flat.{IsFlat, IsPlain, ArePlain, HavePlain, text_flat}

-- the members after reading an object, placed after earlier members
abbrev pub placed : Members → Members → Members
placed no_members found = found
placed (member key value others) found = placed others (put key value found)

-- each name is ASCII
abbrev pub are_named : Members → Bool
are_named no_members = true
are_named (member key value others) = are_ascii key && are_named others

-- Data of a line, in which lists and objects nest so deep at most. The numbers are whole and have 64 bits; the members
-- of an object stand in the order of their names, which are ASCII; and if `valid` the texts are UTF-8. Reading back
-- needs nothing of the texts, so it takes ⊥.
module _ (valid : Type 0) where
  abbrev mutual
    pub IsOfLine : Data → ℕ → Type 0
    IsOfLine null deep = ⊤
    IsOfLine (boolean b) deep = ⊤
    IsOfLine (number (unsigned n)) deep = n < 2 ^ 64
    IsOfLine (number (negative z)) deep = ⊥
    IsOfLine (number (float x)) deep = ⊥
    IsOfLine (string text) deep = valid → IsUtf8 text
    IsOfLine (array items) zero = ⊥
    IsOfLine (array items) (suc deep) = AreOfLine items deep
    IsOfLine (object members) zero = ⊥
    IsOfLine (object members) (suc deep) = (placed members no_members ≡ members) × (are_named members ≡ true)
        × HaveOfLine members deep

    pub AreOfLine : Items → ℕ → Type 0
    AreOfLine no_items deep = ⊤
    AreOfLine (item value others) deep = IsOfLine value deep × AreOfLine others deep

    pub HaveOfLine : Members → ℕ → Type 0
    HaveOfLine no_members deep = ⊤
    HaveOfLine (member key value others) deep = IsOfLine value deep × HaveOfLine others deep

  -- ---- the text is flat

  mutual
    plain : (value : Data) (deep : ℕ) → IsOfLine value deep → IsPlain value
    plain null deep fits = tt
    plain (boolean b) deep fits = tt
    plain (number (unsigned n)) deep fits = fits
    plain (number (negative z)) deep fits = fits
    plain (number (float x)) deep fits = fits
    plain (string text) deep fits = tt
    plain (array items) zero fits = absurd fits
    plain (array items) (suc deep) fits = items_plain items deep fits
    plain (object members) zero fits = absurd fits
    plain (object members) (suc deep) fits = members_plain members deep fits.2

    items_plain : (items : Items) (deep : ℕ) → AreOfLine items deep → ArePlain items
    items_plain no_items deep fits = tt
    items_plain (item value others) deep fits = (plain value deep fits.0, items_plain others deep fits.1)

    members_plain : (members : Members) (deep : ℕ) → HaveOfLine members deep → HavePlain members
    members_plain no_members deep fits = tt
    members_plain (member key value others) deep fits = (plain value deep fits.0, members_plain others deep fits.1)

  pub line_flat : (value : Data) (deep : ℕ) → IsOfLine value deep → IsFlat (compact_text value)
  line_flat value deep fits = text_flat value (plain value deep fits)

  -- ---- the text is read back

  mutual
    nests : (value : Data) (deep : ℕ) → IsOfLine value deep → depth (outline value) ≤ deep
    nests null deep fits = omega arith
    nests (boolean b) deep fits = omega arith
    nests (number n) deep fits = omega arith
    nests (string text) deep fits = omega arith
    nests (array items) zero fits = absurd fits
    nests (array items) (suc deep) fits = omega (arith, items_nest items deep fits)
    nests (object members) zero fits = absurd fits
    nests (object members) (suc deep) fits = omega (arith, members_nest members deep fits.2)

    items_nest : (items : Items) (deep : ℕ) → AreOfLine items deep → items_depth (items_outline items) ≤ deep
    items_nest no_items deep fits = omega arith
    items_nest (item value others) deep fits = omega (arith, nests value deep fits.0, items_nest others deep fits.1)

    members_nest : (members : Members) (deep : ℕ) → HaveOfLine members deep
        → members_depth (members_outline members) ≤ deep
    members_nest no_members deep fits = omega arith
    members_nest (member key value others) deep fits =
        omega (arith, nests value deep fits.0, members_nest others deep fits.1)

  mutual
    same : (value : Data) (deep : ℕ) → IsOfLine value deep → of_json (outline value) ≡ Some value
    same null deep fits = refl
    same (boolean b) deep fits = refl
    same (number (unsigned n)) deep fits = rw (number_of-decimal n fits) refl
    same (number (negative z)) deep fits = absurd fits
    same (number (float x)) deep fits = absurd fits
    same (string text) deep fits = refl
    same (array items) zero fits = absurd fits
    same (array items) (suc deep) fits = rw (items_same items deep fits) refl
    same (object members) zero fits = absurd fits
    same (object members) (suc deep) fits = rw (members_same members deep no_members fits.2, fits.0) refl

    items_same : (items : Items) (deep : ℕ) → AreOfLine items deep → of_items (items_outline items) ≡ Some items
    items_same no_items deep fits = refl
    items_same (item value others) deep fits = rw (same value deep fits.0, items_same others deep fits.1) refl

    members_same : (members : Members) (deep : ℕ) (found : Members) → HaveOfLine members deep
        → of_members (members_outline members) found ≡ Some (placed members found)
    members_same no_members deep found fits = refl
    members_same (member key value others) deep found fits =
        rw (same value deep fits.0) (members_same others deep (put key value found) fits.1)

mutual
  numbers : (value : Data) → IsPlain value → HasNumbers (outline value)
  numbers null plain = tt
  numbers (boolean b) plain = tt
  numbers (number (unsigned n)) plain = IsNumber-decimal n plain
  numbers (number (negative z)) plain = absurd plain
  numbers (number (float x)) plain = absurd plain
  numbers (string text) plain = tt
  numbers (array items) plain = items_numbers items plain
  numbers (object members) plain = members_numbers members plain

  items_numbers : (items : Items) → ArePlain items → ItemsHaveNumbers (items_outline items)
  items_numbers no_items plain = tt
  items_numbers (item value others) plain = (numbers value plain.0, items_numbers others plain.1)

  members_numbers : (members : Members) → HavePlain members → MembersHaveNumbers (members_outline members)
  members_numbers no_members plain = tt
  members_numbers (member key value others) plain = (numbers value plain.0, members_numbers others plain.1)

-- a number of 16 bits has 64
pub wide : (n : ℕ) → n < 2 ^ 16 → n < 2 ^ 64
wide n small = omega arith

abbrev whole : Option (json.Json × List Token) → Option Data
whole o = option_and_then of_json (option_and_then (λ p. json.if_last p.0 p.1) o)

-- what was printed of a value with such numbers is read as the value
pub read-compact_text : (value : Data) → HasNumbers (outline value) → depth (outline value) ≤ max_depth
    → of_json (outline value) ≡ Some value → read (compact_text value) ≡ Some value
read-compact_text value numbers shallow same =
    let printed = ap tokens (sym (print-outline value))
    ∙ (tokens-print (json_tokens (outline value)) (ArePrintable-json_tokens (outline value) numbers)
    ∙ sym (append-nil _)) in
    ap whole (ap (json.value max_depth) printed ∙ value-json_tokens (outline value) max_depth [] shallow) ∙ same

pub read-line : (value : Data) (deep : ℕ) → deep ≤ max_depth → IsOfLine ⊥ value deep
    → read (compact_text value) ≡ Some value
read-line value deep shallow fits =
    let here = nests ⊥ value deep fits in
    read-compact_text value (numbers value (plain ⊥ value deep fits)) (omega arith) (same ⊥ value deep fits)

-- ---- the text is UTF-8

then_more : (x : ℕ) (xs : List ℕ) → are_ascii (x ∷ []) ≡ true → IsUtf8 xs → IsUtf8 (x ∷ xs)
then_more x xs is valid = IsUtf8-append (x ∷ []) xs (IsUtf8-are_ascii (x ∷ []) is) valid

comma_utf8 : (later : Bool) → IsUtf8 (comma_if later)
comma_utf8 true = IsUtf8-are_ascii (comma_if true) refl
comma_utf8 false = IsUtf8-are_ascii (comma_if false) refl

mutual
  pub line_utf8 : (value : Data) (deep : ℕ) → IsOfLine ⊤ value deep → IsUtf8 (compact_text value)
  line_utf8 null deep fits = IsUtf8-are_ascii (compact_text null) refl
  line_utf8 (boolean b) deep fits = IsUtf8-boolean b
  line_utf8 (number (unsigned n)) deep fits = IsUtf8-from_ascii (compact_text (number (unsigned n)))
      (IsAscii-decimal n fits)
  line_utf8 (number (negative z)) deep fits = absurd fits
  line_utf8 (number (float x)) deep fits = absurd fits
  line_utf8 (string text) deep fits = IsUtf8-quoted text (fits tt)
  line_utf8 (array items) zero fits = absurd fits
  line_utf8 (array items) (suc deep) fits = then_more 91 _ refl (items_utf8 false items deep fits)
  line_utf8 (object members) zero fits = absurd fits
  line_utf8 (object members) (suc deep) fits = then_more 123 _ refl (members_utf8 false members deep fits.1 fits.2)

  items_utf8 : (later : Bool) (items : Items) (deep : ℕ) → AreOfLine ⊤ items deep → IsUtf8 (items_text later items)
  items_utf8 later no_items deep fits = IsUtf8-are_ascii (items_text later no_items) refl
  items_utf8 later (item value others) deep fits =
      IsUtf8-append (comma_if later) _ (comma_utf8 later) (IsUtf8-append (compact_text value) _
      (line_utf8 value deep fits.0) (items_utf8 true others deep fits.1))

  members_utf8 : (later : Bool) (members : Members) (deep : ℕ) → are_named members ≡ true → HaveOfLine ⊤ members deep
      → IsUtf8 (members_text later members)
  members_utf8 later no_members deep named fits = IsUtf8-are_ascii (members_text later no_members) refl
  members_utf8 later (member key value others) deep named fits =
      let names = and_parts (are_ascii key) (are_named others) named in
      IsUtf8-append (comma_if later) _ (comma_utf8 later) (IsUtf8-append (quoted key) _
      (IsUtf8-quoted key (IsUtf8-are_ascii key names.0)) (then_more 58 _ refl (IsUtf8-append (compact_text value) _
      (line_utf8 value deep fits.0) (members_utf8 true others deep names.1 fits.1))))
