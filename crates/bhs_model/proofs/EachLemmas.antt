-- Reading the items of a list in a loop.
use Rattle.std.proofs.Common.{◌≡◌, ℕ, ◌+◌, ◌<◌, ◌≤◌, List, [], ◌∷◌, ◌++◌, length, get_or, drop, Option, Some, None}
use Rattle.std.proofs.Common.{option_map, option_and_then, refl, sym, ap, ◌∙◌, append_assoc, append-nil, length-drop}
use Rattle.std.proofs.Common.{arith}
use Rattle.std.proofs.lemmas.List.{drop_more, nil_from_length}

-- the results of reading all values, if each value can be read
abbrev pub all_read : {A Value : Type 0} → (Value → Option A) → List Value → Option (List A)
all_read read [] = Some []
all_read read (value ∷ values) = option_and_then (λ one. option_map (λ more. one ∷ more) (all_read read values))
    (read value)

-- Reading the items of some data in a loop gives the results of reading each of its values.
pub read_in : {A Value Data Items : Type 0} (view : Value → Data) (items : List Value → Items)
    (each : Items → Option (List A)) (shape : Data → Option A) → each (items []) ≡ Some []
    → ((value : Value) (values : List Value) → each (items (value ∷ values))
    ≡ option_and_then (λ one. option_map (λ more. one ∷ more) (each (items values))) (shape (view value)))
    → (values : List Value) → all_read (λ value. shape (view value)) values ≡ each (items values)
read_in view items each shape none first [] = sym none
read_in {A} view items each shape none first (value ∷ values) =
    ap (λ (found : Option (List A)). option_and_then (λ one. option_map (λ more. one ∷ more) found)
    (shape (view value))) (read_in view items each shape none first values) ∙ sym (first value values)

-- the results so far, extended by those of the remaining values
abbrev pub after : {A Value : Type 0} → (Value → Option A) → List A → List Value → Option (List A)
after read done rest = option_map (λ others. done ++ others) (all_read read rest)

module _ {A Value : Type 0} (read : Value → Option A) where
  behind_none : (found : Option (List A)) → option_map (λ others. [] ++ others) found ≡ found
  behind_none (Some others) = refl
  behind_none None = refl

  behind_one : (done : List A) (one : A) (found : Option (List A))
      → option_map (λ others. done ++ others) (option_map (λ more. one ∷ more) found)
      ≡ option_map (λ others. (done ++ one ∷ []) ++ others) found
  behind_one done one (Some others) = ap Some (sym (append_assoc done (one ∷ []) others))
  behind_one done one None = refl

  pub at_first : (done : List A) (values : List Value) → done ≡ [] → after read done values ≡ all_read read values
  at_first done values none = ap (λ (l : List A). after read l values) none ∙ behind_none (all_read read values)

  -- The results are extended by the result for the value at this place.
  said : List A → List Value → Option A → Option (List A)
  said done rest found = option_map (λ others. done ++ others)
      (option_and_then (λ one. option_map (λ more. one ∷ more) (all_read read rest)) found)

  here : (done : List A) (values : List Value) (i : ℕ) (value : Value) (found : Option A) → i < length values
      → value ≡ get_or values i value → found ≡ read value
      → said done (drop (i + 1) values) found ≡ after read done (drop i values)
  unfolding said
  here done values i value found within is reads =
      ap (said done (drop (i + 1) values)) reads
      ∙ ap (λ (v : Value). after read done (v ∷ drop (i + 1) values)) is
      ∙ sym (ap (λ (l : List Value). after read done l) (drop_more values i value within))

  pub with_one : (done : List A) (values : List Value) (i : ℕ) (value : Value) (found : Option A) (one : A)
      (new : List A) → i < length values → value ≡ get_or values i value → found ≡ read value → found ≡ Some one
      → new ≡ done ++ one ∷ [] → after read new (drop (i + 1) values) ≡ after read done (drop i values)
  unfolding said
  with_one done values i value found one new within is reads some added =
      ap (λ (l : List A). after read l (drop (i + 1) values)) added
      ∙ sym (behind_one done one (all_read read (drop (i + 1) values)))
      ∙ ap (said done (drop (i + 1) values)) (sym some) ∙ here done values i value found within is reads

  pub without : (done : List A) (values : List Value) (i : ℕ) (value : Value) (found : Option A)
      → i < length values → value ≡ get_or values i value → found ≡ read value → found ≡ None
      → None ≡ after read done (drop i values)
  unfolding said
  without done values i value found within is reads none =
      ap (said done (drop (i + 1) values)) (sym none) ∙ here done values i value found within is reads

  pub at_last : (done : List A) (values : List Value) (i : ℕ) → length values ≤ i
      → Some done ≡ after read done (drop i values)
  at_last done values i past =
      ap Some (sym (append-nil done))
      ∙ ap (λ (l : List Value). after read done l)
      (sym (nil_from_length (drop i values) (let left = length-drop i values in omega arith)))
