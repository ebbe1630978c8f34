-- The known keys of a table, and its first unknown key.
use Rattle.std.proofs.Common.{◌≡◌, ℕ, Bool, true, false, cond, not, ◌||◌, List, [], ◌∷◌, map, length, Option, Some}
use Rattle.std.proofs.Common.{None, option_map, String, Global, string_bytes, Bor, refl, sym, ap, subst, ◌∙◌, arith}
use Rattle.std.specs.Iterator.{AlwaysYields}
use Rattle.std.specs.List.{find, list_any}
use Rattle.std.specs.Map.{keys_of}
use Rattle.std.specs.Map.Iter.{TakesFirst, deref}
use Rattle.std.proofs.lemmas.Iterator.{YieldsList}
use Rattle.toml.specs.View.{members_view}
use Rattle.toml.specs.declared.value.Value.{Value}
use Rattle.bhs_files.specs.Tournaments.{is_known, table_keys, unknown_key}

-- Tests on items, expressed as tests on their images.
pub any_seen : {A B : Type 0} (see : A → B) (test : B → Bool) (items : List A)
    → list_any (λ x. test (see x)) items ≡ list_any test (map see items)
any_seen see test [] = refl
any_seen see test (x ∷ rest) = ap (λ b. test (see x) || b) (any_seen see test rest)

pub found_seen : {A B : Type 0} (see : A → B) (test : B → Bool) (items : List A)
    → option_map see (find (λ x. test (see x)) items) ≡ find test (map see items)
found_seen see test [] = refl
found_seen see test (x ∷ rest) = by_test (test (see x)) (found_seen see test rest) where
  by_test : (b : Bool) → option_map see (find (λ y. test (see y)) rest) ≡ find test (map see rest)
      → option_map see (cond b (Some x) (find (λ y. test (see y)) rest))
      ≡ cond b (Some (see x)) (find test (map see rest))
  by_test true others = refl
  by_test false others = others

-- the keys of a table as byte strings
pub keys_as_bytes : (entries : List (String Global × Value))
    → map string_bytes (keys_of entries) ≡ table_keys (members_view entries)
keys_as_bytes [] = refl
keys_as_bytes (entry ∷ rest) = ap (λ keys. string_bytes entry.0 ∷ keys) (keys_as_bytes rest)

-- the bytes of texts behind references
pub texts_seen : (keys : List (Bor (String Global)))
    → map (λ key. string_bytes key.now) keys ≡ map string_bytes (map deref keys)
texts_seen [] = refl
texts_seen (key ∷ keys) = ap (λ rest. string_bytes key.now ∷ rest) (texts_seen keys)

-- the test by which the first unknown key is found
abbrev pub is_unknown : (version : ℕ) → (game : Option ℕ) → String Global → Bool
is_unknown version game key = not (is_known version game (string_bytes key))

-- what is found of the keys of a table is its first unknown key
pub unknown_of : (version : ℕ) (game : Option ℕ) (entries : List (String Global × Value))
    (found : Option (Bor (String Global)))
    (answer : Option (List ℕ)) → option_map (λ key. key.now) found ≡ find (is_unknown version game) (keys_of entries)
    → option_map (λ key. string_bytes key.now) found ≡ answer → answer ≡ unknown_key version game (members_view entries)
unknown_of version game entries found answer is same =
    sym same ∙ seen found ∙ ap (option_map string_bytes) is
    ∙ found_seen string_bytes (λ key. not (is_known version game key)) (keys_of entries)
    ∙ ap (find (λ key. not (is_known version game key))) (keys_as_bytes entries) where
      seen : (it : Option (Bor (String Global)))
          → option_map (λ key. string_bytes key.now) it ≡ option_map string_bytes (option_map (λ key. key.now) it)
      seen None = refl
      seen (Some key) = refl

-- an iterator over keys gives them in order
module _ {K : Type 0} where
  first : K → List K → K
  first default [] = default
  first default (key ∷ keys) = key

  others : List K → List K
  others [] = []
  others (key ∷ keys) = keys

  always : (keys : List K) → AlwaysYields (TakesFirst deref) deref keys keys
  unfolding first others
  always [] = λ x rest e. omega (arith, ap length e)
  always (key ∷ keys) = (
    (λ rest e. omega (arith, ap length e.0)),
    λ x rest e. (
      sym (ap (first key) e),
      subst (λ (k : List K). AlwaysYields (TakesFirst deref) deref k keys) (ap others e) (always keys),
    ),
  )

  pub yields_keys : (keys shown : List K) → shown ≡ keys → YieldsList (TakesFirst deref) deref shown keys
  yields_keys keys shown same = record {
    runs = subst (λ (k : List K). AlwaysYields (TakesFirst deref) deref k keys)
        (sym same) (always keys);
  }
