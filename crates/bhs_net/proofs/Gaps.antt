use Rattle.std.proofs.Common.{◌≡◌, ℕ, ◌+◌, ◌<◌, ◌≤◌, ◌⊎◌, inl, inr, ⊎_elim, min, refl, sym, ap, ◌∙◌, arith, List, subst}
use Rattle.std.proofs.Common.{Option, Some, None, MatchOption}
use Rattle.std.specs.Option.{option_map_or}
use Rattle.bhs_net.specs.declared.links.Link.{Link}
use Rattle.bhs_net.specs.Links.{End, near_end, far_end, link_at, HasEnd}
use Rattle.bhs_net.specs.Network.{Network, HasPort, degree_of}
use Rattle.bhs_net.proofs.Places.{below_or_at, lt_or_ge}

-- No end with P lies beyond its node's row; or this is the least node whose row ends before such an end.
abbrev pub LeastBeyond : (End → Type 0) → Network → Option ℕ → Type 0
LeastBeyond P net least = MatchOption least
    ((end : End) → P end → HasPort net end)
    (λ node. ((port : ℕ) × (port < 65536) × P (node, port) × (degree_of net node ≤ port))
    × ((end : End) → P end → degree_of net end.0 ≤ end.1 → node ≤ end.0))

-- the end is one of the first links'
abbrev pub IsSeen : List Link → ℕ → End → Type 0
IsSeen links seen end = (early : ℕ) × (early < seen) × HasEnd (link_at links early) end

-- P, and one more end
abbrev pub OrEnd : (End → Type 0) → End → End → Type 0
OrEnd P new end = P end ⊎ (new ≡ end)

module _ (P : End → Type 0) (net : Network) (node port : ℕ) where
  kept : (least : Option ℕ) → port < degree_of net node → LeastBeyond P net least
      → LeastBeyond (OrEnd P (node, port)) net least
  kept None within h = λ end has. ⊎_elim (h end) (λ e. subst (λ (q : End). HasPort net q) e within) has
  kept (Some gap) within h = (
    (h.0.0, h.0.1, inl h.0.2, h.0.3),
    λ end has beyond. ⊎_elim (λ old. h.1 end old beyond)
        (λ e. absurd (let b : degree_of net node ≤ port = subst (λ (q : End). degree_of net q.0 ≤ q.1) (sym e) beyond in
        omega arith)) has,
  )

  added : (least : Option ℕ) → port < 65536 → degree_of net node ≤ port → LeastBeyond P net least
      → LeastBeyond (OrEnd P (node, port)) net (Some (option_map_or (λ gap. min gap node) least node))
  added None small beyond h = (
    (port, small, inr refl, beyond),
    λ end has past. ⊎_elim (λ old. absurd (let within : HasPort net end = h end old in omega arith))
        (λ e. let same : node ≡ end.0 = ap (λ (q : End). q.0) e in omega arith) has,
  )
  added (Some gap) small beyond h =
      ⊎_elim
      (λ lower. let e : min gap node ≡ gap = omega arith in
      subst (λ (v : ℕ). LeastBeyond (OrEnd P (node, port)) net (Some v)) (sym e) (
        (h.0.0, h.0.1, inl h.0.2, h.0.3),
        λ end has past. ⊎_elim (λ old. h.1 end old past) (λ e'. let same : node ≡ end.0 = ap (λ (q : End). q.0) e' in
            omega arith) has,
      ))
      (λ upper. let e : min gap node ≡ node = omega arith in
      subst (λ (v : ℕ). LeastBeyond (OrEnd P (node, port)) net (Some v)) (sym e) (
        (port, small, inr refl, beyond),
        λ end has past. ⊎_elim (λ old. let le : gap ≤ end.0 = h.1 end old past in omega arith)
            (λ e'. let same : node ≡ end.0 = ap (λ (q : End). q.0) e' in omega arith) has,
      ))
      (lt_or_ge gap node)

  -- one more end
  pub LeastBeyond-more : (least result : Option ℕ) → port < 65536 → (HasPort net (node, port) → result ≡ least)
      → (degree_of net node ≤ port → result ≡ Some (option_map_or (λ gap. min gap node) least node))
      → LeastBeyond P net least → LeastBeyond (OrEnd P (node, port)) net result
  LeastBeyond-more least result small same new h = ⊎_elim
      (λ within. subst (λ (r : Option ℕ). LeastBeyond (OrEnd P (node, port)) net r) (sym (same within))
      (kept least within h))
      (λ beyond. subst (λ (r : Option ℕ). LeastBeyond (OrEnd P (node, port)) net r) (sym (new beyond))
      (added least small beyond h))
      (lt_or_ge port (degree_of net node))

-- The same holds for any equivalent predicate on ends.
pub LeastBeyond-same : (P Q : End → Type 0) (net : Network) (least : Option ℕ) → ((end : End) → P end → Q end)
    → ((end : End) → Q end → P end) → LeastBeyond P net least → LeastBeyond Q net least
LeastBeyond-same P Q net None to back h = λ end has. h end (back end has)
LeastBeyond-same P Q net (Some node) to back h =
    ((h.0.0, h.0.1, to (node, h.0.0) h.0.2, h.0.3), λ end has. h.1 end (back end has))

pub IsSeen-more : (links : List Link) (seen : ℕ) (end : End)
    → OrEnd (OrEnd (IsSeen links seen) (near_end (link_at links seen))) (far_end (link_at links seen)) end
    → IsSeen links (seen + 1) end
IsSeen-more links seen end (inl (inl old)) = (old.0, (let lt : old.0 < seen = old.1 in omega arith), old.2)
IsSeen-more links seen end (inl (inr near)) = (seen, omega arith, inl near)
IsSeen-more links seen end (inr far) = (seen, omega arith, inr far)

pub IsSeen-less : (links : List Link) (seen : ℕ) (end : End) → IsSeen links (seen + 1) end
    → OrEnd (OrEnd (IsSeen links seen) (near_end (link_at links seen))) (far_end (link_at links seen)) end
IsSeen-less links seen end has = ⊎_elim
    (λ below. inl (inl (has.0, below, has.2)))
    (λ at. ⊎_elim
    (λ near. inl (inr (ap (λ k. near_end (link_at links k)) (sym at) ∙ near)))
    (λ far. inr (ap (λ k. far_end (link_at links k)) (sym at) ∙ far))
    has.2)
    (below_or_at has.0 seen has.1)
