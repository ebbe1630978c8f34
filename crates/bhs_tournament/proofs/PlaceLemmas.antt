-- The place of a name among names.
use Rattle.std.proofs.Common.{◌≡◌, ℕ, zero, suc, ◌+◌, ◌<◌, Bool, true, false, not, cond, ◌||◌, List, [], ◌∷◌, length}
use Rattle.std.proofs.Common.{map, get_or, nat_eq, nat_lt, Bor, Some, None, refl, sym, ap, ◌∙◌, arith}
use Rattle.std.specs.List.{position, position_or_len}
use Rattle.std.specs.Cmp.Lexicographic.{pointwise, bytes_decides}
use Rattle.std.proofs.lemmas.Bool.{false≢true}
use Rattle.bhs_files.specs.declared.fixtures.Fixture.{Fixture}
use Rattle.bhs_files.specs.Names.{same_name, is_among}
use Rattle.bhs_files.proofs.NamesLemmas.{name_of}

-- the index of a name among borrowed names
place_among : (ks : List (Bor (List ℕ))) (name : List ℕ)
    → position_or_len (λ (y : Bor (List ℕ)). pointwise nat_eq name y.now) ks ≡ position_or_len (same_name name)
    (map (λ y. y.now) ks)
place_among [] name = refl
place_among (y ∷ ks) name = ap (λ n. cond (not (pointwise nat_eq name y.now)) (1 + n) 0) (place_among ks name)

pub place_named : (ks : List (Bor (List ℕ))) (name : List ℕ) (place : ℕ)
    → Some place ≡ position (λ (y : Bor (List ℕ)). pointwise nat_eq name y.now) ks
    → place ≡ position_or_len (same_name name) (map (λ y. y.now) ks)
place_named ks name place is = go (nat_lt (position_or_len (λ (y : Bor (List ℕ)). pointwise nat_eq name y.now) ks)
    (length ks)) is ∙ place_among ks name
  where
    go : (b : Bool) → Some place ≡ cond b (Some
        (position_or_len (λ (y : Bor (List ℕ)). pointwise nat_eq name y.now) ks)) None
        → place ≡ position_or_len (λ (y : Bor (List ℕ)). pointwise nat_eq name y.now) ks
    go true e = cc
    go false e = absurd cc

-- The network name of each match is one of the collected names.
pub among_names : (fs : List Fixture) (i : ℕ) (x : Fixture) → i < length fs → x ≡ get_or fs i x
    → is_among (map name_of fs) x.network ≡ true
among_names [] i x lt is = absurd (omega arith)
among_names (f ∷ fs) zero x lt is = by (same_name x.network f.network) refl
  where
    by : (b : Bool) → same_name x.network f.network ≡ b → (b || is_among (map name_of fs) x.network) ≡ true
    by true e = refl
    by false e = absurd (false≢true (sym e ∙ (bytes_decides x.network f.network).1 (ap name_of is)))
among_names (f ∷ fs) (suc i) x lt is = by (same_name x.network f.network) (among_names fs i x (omega arith) is)
  where
    by : (b : Bool) → is_among (map name_of fs) x.network ≡ true → (b || is_among (map name_of fs) x.network) ≡ true
    by true e = refl
    by false e = e
