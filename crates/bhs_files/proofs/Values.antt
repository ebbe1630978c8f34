-- TOML values beside the data that they stand for.
use Rattle.std.proofs.Common.{◌≡◌, ◌<◌, ◌≤◌, List, [], ◌∷◌, length, Some, None, refl, sym, ap, ◌∙◌, subst, arith}
use Rattle.toml.specs.Data.{Data, string, integer, float, boolean, datetime, array, table, Items, as_array}
use Rattle.toml.specs.View.{items_view}
use Rattle.toml.specs.declared.value.Value.{Value}
use Rattle.bhs_files.specs.Shapes.{pair}
use Rattle.bhs_files.specs.NetworkFiles.{link}

-- what `as_array` gives a list of is a list
is_array : (d : Data) (ds : Items) → Some ds ≡ as_array d → d ≡ array ds
is_array (string s) ds e = absurd cc
is_array (integer z) ds e = absurd cc
is_array (float x) ds e = absurd cc
is_array (boolean b) ds e = absurd cc
is_array (datetime dt) ds e = absurd cc
is_array (array es) ds e = cc
is_array (table ms) ds e = absurd cc

pair-few : (vs : List Value) → length vs < 2 → pair (array (items_view vs)) ≡ None
pair-few [] short = refl
pair-few (a ∷ []) short = refl
pair-few (a ∷ b ∷ vs) short = absurd (omega arith)

pair-many : (vs : List Value) → 3 ≤ length vs → pair (array (items_view vs)) ≡ None
pair-many [] long = absurd (omega arith)
pair-many (a ∷ []) long = absurd (omega arith)
pair-many (a ∷ b ∷ []) long = absurd (omega arith)
pair-many (a ∷ b ∷ c ∷ vs) long = refl

link-few : (vs : List Value) → length vs < 4 → link (array (items_view vs)) ≡ None
link-few [] short = refl
link-few (a ∷ []) short = refl
link-few (a ∷ b ∷ []) short = refl
link-few (a ∷ b ∷ c ∷ []) short = refl
link-few (a ∷ b ∷ c ∷ d ∷ vs) short = absurd (omega arith)

link-many : (vs : List Value) → 5 ≤ length vs → link (array (items_view vs)) ≡ None
link-many [] long = absurd (omega arith)
link-many (a ∷ []) long = absurd (omega arith)
link-many (a ∷ b ∷ []) long = absurd (omega arith)
link-many (a ∷ b ∷ c ∷ []) long = absurd (omega arith)
link-many (a ∷ b ∷ c ∷ d ∷ []) long = absurd (omega arith)
link-many (a ∷ b ∷ c ∷ d ∷ e ∷ vs) long = refl

module _ (vs seen : List Value) (d : Data) (is : Some (items_view vs) ≡ as_array d) (same : seen ≡ vs) where
  -- fewer or more than two items are no pair
  pub no_pair-few : length seen < 2 → None ≡ pair d
  no_pair-few short = sym (ap pair (is_array d (items_view vs) is)
      ∙ pair-few vs (subst (λ (xs : List Value). length xs < 2) same short))

  pub no_pair-many : 3 ≤ length seen → None ≡ pair d
  no_pair-many long = sym (ap pair (is_array d (items_view vs) is)
      ∙ pair-many vs (subst (λ (xs : List Value). 3 ≤ length xs) same long))

  -- fewer or more than four items are no link
  pub no_link-few : length seen < 4 → None ≡ link d
  no_link-few short = sym (ap link (is_array d (items_view vs) is)
      ∙ link-few vs (subst (λ (xs : List Value). length xs < 4) same short))

  pub no_link-many : 5 ≤ length seen → None ≡ link d
  no_link-many long = sym (ap link (is_array d (items_view vs) is)
      ∙ link-many vs (subst (λ (xs : List Value). 5 ≤ length xs) same long))
