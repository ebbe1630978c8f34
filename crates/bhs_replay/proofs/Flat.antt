-- No line of a replay has a line feed inside.
use Rattle.std.proofs.Common.{◌≡◌, ℕ, ◌+◌, ◌<◌, ◌≤◌, ◌^◌, ◌/◌, ◌%◌, ◌==◌, ◌||◌, Bool, true, false, cond, nat_lt, List}
use Rattle.std.proofs.Common.{[], ◌∷◌, ◌++◌, decimal, inl, inr, refl, sym, subst, arith, ne_eqb}
use Rattle.std.specs.Prelude.{⊤}
use Rattle.std.specs.List.{list_any}
use Rattle.std.proofs.lemmas.Bool.{or_parts, or_cases, eqb-true}
use Rattle.std.proofs.lemmas.Bool.Decides.{nat_tests}
use Rattle.std.proofs.lemmas.Fmt.{decimal_by_steps}
use Rattle.std.specs.Char.{digit_char}
use Rattle.json.specs.Print.{escape_letter, escape_byte, escape, quoted}
use Rattle.serde_json.specs.Data.{unsigned, negative, float, Data, null, boolean, number, string, array, object, Items}
use Rattle.serde_json.specs.Data.{no_items, item, Members, no_members, member}
use Rattle.serde_json.specs.Written.{comma_if, compact_text, items_text, members_text}
use Rattle.bhs_wire.specs.Lines.{is_line_feed}

abbrev pub IsFlat : List ℕ → Type 0
IsFlat bytes = list_any is_line_feed bytes ≡ false

pub flat_append : (xs ys : List ℕ) → IsFlat xs → IsFlat ys → IsFlat (xs ++ ys)
flat_append [] ys first second = second
flat_append (x ∷ xs) ys first second = let parts = or_parts (is_line_feed x) _ first in
    rw parts.0 (flat_append xs ys parts.1 second)

-- ---- texts between quotes

cond_flat : (b : Bool) (m n : ℕ) → is_line_feed m ≡ false → is_line_feed n ≡ false → is_line_feed (cond b m n) ≡ false
cond_flat true m n one other = one
cond_flat false m n one other = other

cond_bytes : (b : Bool) (xs ys : List ℕ) → IsFlat xs → (b ≡ false → IsFlat ys) → IsFlat (cond b xs ys)
cond_bytes true xs ys one other = one
cond_bytes false xs ys one other = other refl

itself_flat : (x : ℕ) → ((x == 34) || (x == 92)) ≡ true → is_line_feed x ≡ false
itself_flat x is = elim (or_cases (x == 34) (x == 92) is) [
  | inl quote ↦ subst (λ (n : ℕ). is_line_feed n ≡ false) (sym (eqb-true x 34 quote)) refl
  | inr back ↦ subst (λ (n : ℕ). is_line_feed n ≡ false) (sym (eqb-true x 92 back)) refl
]

first_flat : (x other : ℕ) (b : Bool) → ((x == 34) || (x == 92)) ≡ b → is_line_feed other ≡ false
    → is_line_feed (cond b x other) ≡ false
first_flat x other true is flat = itself_flat x is
first_flat x other false is flat = flat

letter_flat : (x : ℕ) → is_line_feed (escape_letter x) ≡ false
letter_flat x =
    first_flat x _ _ refl (cond_flat (x == 8) 98 _ refl
    (cond_flat (x == 12) 102 _ refl (cond_flat (x == 10) 110 _ refl
    (cond_flat (x == 13) 114 _ refl (cond_flat (x == 9) 116 0 refl refl)))))

more_than : (base n : ℕ) → 11 ≤ base → is_line_feed (base + n) ≡ false
more_than base n large = ne_eqb (base + n) 10 (λ e. omega arith)

digit_flat : (n : ℕ) → is_line_feed (cond (nat_lt n 10) (48 + n) (87 + n)) ≡ false
digit_flat n = cond_flat (nat_lt n 10) (48 + n) (87 + n) (more_than 48 n (omega arith)) (more_than 87 n (omega arith))

two : (x : ℕ) → is_line_feed x ≡ false → IsFlat (92 ∷ x ∷ [])
two x flat = rw flat refl

six : (x y : ℕ) → is_line_feed x ≡ false → is_line_feed y ≡ false → IsFlat (92 ∷ 117 ∷ 48 ∷ 48 ∷ x ∷ y ∷ [])
six x y one other = rw (one, other) refl

plain_flat : (x : ℕ) → nat_lt x 32 ≡ false → IsFlat (x ∷ [])
plain_flat x large = let flat : is_line_feed x ≡ false = ne_eqb x 10
    (λ e. let small : nat_lt x 32 ≡ true = grind (arith, nat_tests) in absurd (cc)) in rw flat refl

byte_flat : (x : ℕ) → IsFlat (escape_byte x)
unfolding escape_byte
byte_flat x =
    let hexed : List ℕ = 92 ∷ 117 ∷ 48 ∷ 48 ∷ digit_char (x / 16) ∷ digit_char (x % 16) ∷ [] in
    cond_bytes (nat_lt 0 (escape_letter x)) (92 ∷ escape_letter x ∷ []) (cond (nat_lt x 32) hexed (x ∷ []))
    (two (escape_letter x) (letter_flat x))
    (λ none. cond_bytes (nat_lt x 32) hexed (x ∷ [])
    (six (digit_char (x / 16)) (digit_char (x % 16)) (digit_flat (x / 16)) (digit_flat (x % 16))) (plain_flat x))

escape_flat : (text : List ℕ) → IsFlat (escape text)
escape_flat [] = refl
escape_flat (x ∷ text) = flat_append (escape_byte x) (escape text) (byte_flat x) (escape_flat text)

quoted_flat : (text : List ℕ) → IsFlat (quoted text)
quoted_flat text = flat_append (escape text) (34 ∷ []) (escape_flat text) refl

-- ---- numbers

pub decimal_flat : (n : ℕ) → n < 2 ^ 64 → IsFlat (decimal n)
decimal_flat =
    decimal_by_steps (λ m ds. IsFlat ds) (λ m small. rw (more_than 48 m (omega arith)) refl)
    (λ m ds large flat. flat_append ds ((48 + m % 10) ∷ []) flat (rw (more_than 48 (m % 10) (omega arith)) refl))

-- ---- data whose numbers have 64 bits and no sign

abbrev mutual
  pub IsPlain : Data → Type 0
  IsPlain null = ⊤
  IsPlain (boolean b) = ⊤
  IsPlain (number (unsigned n)) = n < 2 ^ 64
  IsPlain (number (negative z)) = ⊥
  IsPlain (number (float x)) = ⊥
  IsPlain (string text) = ⊤
  IsPlain (array items) = ArePlain items
  IsPlain (object members) = HavePlain members

  pub ArePlain : Items → Type 0
  ArePlain no_items = ⊤
  ArePlain (item value others) = IsPlain value × ArePlain others

  pub HavePlain : Members → Type 0
  HavePlain no_members = ⊤
  HavePlain (member key value others) = IsPlain value × HavePlain others

comma_flat : (later : Bool) → IsFlat (comma_if later)
comma_flat true = refl
comma_flat false = refl

bool_flat : (b : Bool) → IsFlat (compact_text (boolean b))
bool_flat true = refl
bool_flat false = refl

mutual
  pub text_flat : (value : Data) → IsPlain value → IsFlat (compact_text value)
  text_flat null plain = refl
  text_flat (boolean b) plain = bool_flat b
  text_flat (number (unsigned n)) plain = decimal_flat n plain
  text_flat (number (negative z)) plain = absurd plain
  text_flat (number (float x)) plain = absurd plain
  text_flat (string text) plain = quoted_flat text
  text_flat (array items) plain = items_flat false items plain
  text_flat (object members) plain = members_flat false members plain

  items_flat : (later : Bool) (items : Items) → ArePlain items → IsFlat (items_text later items)
  items_flat later no_items plain = refl
  items_flat later (item value others) plain =
      flat_append (comma_if later) (compact_text value ++ items_text true others) (comma_flat later)
      (flat_append (compact_text value) (items_text true others) (text_flat value plain.0)
      (items_flat true others plain.1))

  members_flat : (later : Bool) (members : Members) → HavePlain members → IsFlat (members_text later members)
  members_flat later no_members plain = refl
  members_flat later (member key value others) plain =
      flat_append (comma_if later) (quoted key ++ 58 ∷ (compact_text value ++ members_text true others))
      (comma_flat later)
      (flat_append (quoted key) (58 ∷ (compact_text value ++ members_text true others)) (quoted_flat key)
      (flat_append (compact_text value) (members_text true others) (text_flat value plain.0)
      (members_flat true others plain.1)))
