use Rattle.std.proofs.Common.{◌≡◌, ℕ, ◌⊎◌, inl, inr, Bool, true, false, min, max, refl, ap, arith}
use Rattle.std.specs.Ordering.{nat_cmp, is_eq}
use Rattle.std.specs.declared.cmp.Ordering.{Ordering}
use Rattle.std.specs.declared.cmp.Ordering.TheVariants.{Less, Equal, Greater}
use Rattle.std.proofs.lemmas.Map.Lookups.{exact_unsigned, exact_pairs}
use Rattle.std.proofs.lemmas.Cmp.{tied_itself, nat_cmp_total, then_total, on_total}
use Rattle.std.specs.Cmp.{IsTotalOrder}
use Rattle.bhs_net.specs.declared.links.Link.{Link}
use Rattle.bhs_net.specs.Links.{End, SameNodes}
use Rattle.bhs_net.specs.Listing.{end_cmp}

pub end_cmp_total : IsTotalOrder end_cmp
end_cmp_total = then_total (on_total (λ (e : End). e.0) nat_cmp_total) (on_total (λ (e : End). e.1) nat_cmp_total)

Equal-from_is_eq : (o : Ordering) → is_eq o ≡ true → o ≡ Equal
Equal-from_is_eq Less h = cc
Equal-from_is_eq Equal h = refl
Equal-from_is_eq Greater h = cc

-- ends that compare as equal are equal
pub end_cmp-exact : (a b : End) → is_eq (end_cmp a b) ≡ true → a ≡ b
end_cmp-exact a b h = exact_pairs nat_cmp nat_cmp exact_unsigned exact_unsigned a b (Equal-from_is_eq (end_cmp a b) h)

-- an end compares as equal to itself
pub end_cmp-same : (a : End) → is_eq (end_cmp a a) ≡ true
end_cmp-same a = ap is_eq (tied_itself end_cmp_total a)

-- two ends compare as equal, and are, or they do not
pub end_cmp-cases : (a b : End) → ((is_eq (end_cmp a b) ≡ true) × (a ≡ b)) ⊎ (is_eq (end_cmp a b) ≡ false)
end_cmp-cases a b =
    let split : (o : Bool) → is_eq (end_cmp a b) ≡ o → ((is_eq (end_cmp a b) ≡ true) × (a ≡ b))
    ⊎ (is_eq (end_cmp a b) ≡ false) =
    λ o e. elim o as (λ o. is_eq (end_cmp a b) ≡ o → ((is_eq (end_cmp a b) ≡ true) × (a ≡ b))
    ⊎ (is_eq (end_cmp a b) ≡ false)) [ true ↦ λ h. inl (h, end_cmp-exact a b h) | false ↦ λ h. inr h ] e in
    split (is_eq (end_cmp a b)) refl

-- the nodes of a link, the lesser first
abbrev pub pair_of : Link → End
pair_of link = (min link.v link.w, max link.v link.w)

pub SameNodes-from_pair : (a b : Link) → pair_of a ≡ pair_of b → SameNodes a b
SameNodes-from_pair a b e =
    let least : min a.v a.w ≡ min b.v b.w = ap (λ (p : End). p.0) e in
    let most : max a.v a.w ≡ max b.v b.w = ap (λ (p : End). p.1) e in
    grind arith

min_swap : (v w x y : ℕ) → v ≡ y → w ≡ x → min v w ≡ min x y
min_swap v w x y p q = omega arith

max_swap : (v w x y : ℕ) → v ≡ y → w ≡ x → max v w ≡ max x y
max_swap v w x y p q = omega arith

both : {v w x y : ℕ} → v ≡ x → w ≡ y → ◌≡◌ {A = End} (v, w) (x, y)
both p q = cc

pub pair_from_SameNodes : (a b : Link) → SameNodes a b → pair_of a ≡ pair_of b
pair_from_SameNodes a b (inl h) = cc
pair_from_SameNodes a b (inr h) = both (min_swap a.v a.w b.v b.w h.0 h.1) (max_swap a.v a.w b.v b.w h.0 h.1)
