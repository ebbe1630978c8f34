-- The held links of a match, as loops over its nodes and ports list them.
use Rattle.std.proofs.Common.{◌≡◌, refl, sym, ap, ◌∙◌, ℕ, ◌<◌, ◌==◌, Bool, true, false}
use Rattle.std.proofs.Common.{◌&&◌, ◌||◌}
use Rattle.std.proofs.Common.{List, [], arith}
use Rattle.std.specs.Prelude.{nat_lt}
use Rattle.std.proofs.lemmas.Bool.{ltb-true}
use Rattle.bhs_net.specs.Network.{Network, degree_of}
use Rattle.bhs_deliveries.specs.Links.{held_in}
use Rattle.bhs_explore.specs.Answers.{is_held}

none_below_0 : (p : ℕ) → nat_lt p 0 ≡ false
none_below_0 p = go (nat_lt p 0) refl
  where
    go : (b : Bool) → nat_lt p 0 ≡ b → b ≡ false
    go false is = refl
    go true is = let low : p < 0 = ltb-true p 0 is in absurd (omega (arith, low))

or_none : (b : Bool) → b ≡ (b || false)
or_none true = refl
or_none false = refl

and_none : (b : Bool) → (b && false) ≡ false
and_none true = refl
and_none false = refl

-- the list continues with the links of one node at ports below this one
abbrev pub HasMore : (held : List (ℕ × ℕ)) (node port : ℕ) (old new : List (ℕ × ℕ)) → Type 0
HasMore held node port old new = (v p : ℕ) → is_held new v p ≡ (is_held old v p
    || (node == v && (nat_lt p port && held_in held v p)))

pub no_more : (held : List (ℕ × ℕ)) (node : ℕ) (old : List (ℕ × ℕ)) → HasMore held node 0 old old
no_more held node old v p =
    or_none (is_held old v p)
    ∙ ap (λ (b : Bool). is_held old v p || b)
    (sym (ap (λ (b : Bool). node == v && (b && held_in held v p)) (none_below_0 p) ∙ and_none (node == v)))

-- The list contains the held links of all lower nodes.
abbrev pub HasBelow : (net : Network) (held : List (ℕ × ℕ)) (node : ℕ) (links : List (ℕ × ℕ)) → Type 0
HasBelow net held node links = (v p : ℕ) → p < degree_of net v → is_held links v p ≡ (nat_lt v node && held_in held v p)

pub none_below : (net : Network) (held : List (ℕ × ℕ)) → HasBelow net held 0 []
none_below net held v p within = sym (ap (λ (b : Bool). b && held_in held v p) (none_below_0 v))
