-- The map that holds the keys, beside the list that contracts see.
use Rattle.std.proofs.Common.{◌≡◌, ℕ, Bool, true, false, not, ◌||◌, cond, List, [], ◌∷◌, ◌++◌, Option, Some, None}
use Rattle.std.proofs.Common.{is_some, String, Global, string_bytes, nat_eq, refl, sym, ap, ◌∙◌}
use Rattle.std.specs.Map.{lookup}
use Rattle.std.specs.Cmp.Lexicographic.{pointwise}
use Rattle.std.specs.String.{string_eq}
use Rattle.std.specs.declared.hash.FoldHasher.{FoldHasher}
use Rattle.std.specs.declared.hash.BuildHasherDefault.{BuildHasherDefault}
use Rattle.std.proofs.lemmas.List.{map_push}
use Rattle.indexmap.specs.IndexMap.{IndexMap, get, insert_entry}
use Rattle.indexmap.proofs.CallerLemmas.{insert_entry-new}
use Rattle.bhs_setups.specs.KeyTable.{Seat, seat_at, has_key, with_seat}
use Rattle.bhs_setups.specs.Seats.{by_bytes}

abbrev pub Entry : Type 0
Entry = String Global × (ℕ × ℕ)

-- The map and the list agree on the entry of each key.
pub finds : (key : List ℕ) (es : List Entry) → lookup (λ k. pointwise nat_eq key (string_bytes k)) es ≡ seat_at
    key (by_bytes es)
finds key [] = refl
finds key (e ∷ es) = ap (cond (pointwise nat_eq key (string_bytes e.0)) (Some e.1)) (finds key es)

is_some-cond : (b : Bool) (x : ℕ × ℕ) (o : Option (ℕ × ℕ)) (c : Bool) → is_some o ≡ c
    → is_some (cond b (Some x) o) ≡ (b || c)
is_some-cond true x o c h = refl
is_some-cond false x o c h = h

-- The map contains a key exactly if some seat has it.
pub has : (key : List ℕ) (es : List Entry) → is_some (lookup (λ k. pointwise nat_eq key (string_bytes k)) es) ≡ has_key
    key (by_bytes es)
has key [] = refl
has key (e ∷ es) = is_some-cond (pointwise nat_eq key (string_bytes e.0)) e.1
    (lookup (λ k. pointwise nat_eq key (string_bytes k)) es) _ (has key es)

none_from : {A : Type 0} (o : Option A) → false ≡ is_some o → o ≡ None
none_from None h = refl
none_from (Some x) h = absurd cc

-- a key that the map has changes no seat
pub refuses : (key : List ℕ) (seat : ℕ × ℕ) (es : List Entry) (seats : List Seat) → by_bytes es ≡ seats
    → true ≡ is_some (lookup (λ k. pointwise nat_eq key (string_bytes k)) es)
    → (false ≡ not (has_key key seats)) × (seats ≡ with_seat seats (key, seat))
refuses key seat es seats is found =
    let h : has_key key seats ≡ true = ap (has_key key) (sym is) ∙ sym (has key es) ∙ sym found in
    (rw h refl, rw h refl)

-- and one that it lacks goes last
pub adds : (k : String Global) (seat : ℕ × ℕ) (old : IndexMap (String Global) (ℕ × ℕ) (BuildHasherDefault FoldHasher))
    (new : List Entry) (seats : List Seat) → by_bytes old.entries ≡ seats
    → false ≡ is_some (lookup (λ x. pointwise nat_eq (string_bytes k) (string_bytes x)) old.entries)
    → new ≡ insert_entry string_eq old.entries k seat
    → (true ≡ not (has_key (string_bytes k) seats)) × (by_bytes new ≡ with_seat seats (string_bytes k, seat))
adds k seat old new seats is absent added =
    let none : get string_eq old k ≡ None = none_from
    (lookup (λ x. pointwise nat_eq (string_bytes k) (string_bytes x)) old.entries) absent in
    let h : has_key (string_bytes k) seats ≡ false = ap (has_key (string_bytes k)) (sym is)
    ∙ sym (has (string_bytes k) old.entries) ∙ sym absent in
    let last : new ≡ old.entries ++ (k, seat) ∷ [] = added ∙ insert_entry-new string_eq old k seat none in
    let seen : by_bytes new ≡ seats ++ (string_bytes k, seat) ∷ [] = ap by_bytes last ∙ map_push _ old.entries (k, seat)
    ∙ ap (λ (xs : List Seat). xs ++ (string_bytes k, seat) ∷ []) is in
    (rw h refl, rw h seen)
