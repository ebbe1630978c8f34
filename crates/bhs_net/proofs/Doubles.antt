use Rattle.std.proofs.Common.{◌≡◌, ℕ, ◌+◌, ◌<◌, ⊎_elim, Bool, true, false, cond, refl, sym, ap, ◌∙◌, arith, List, []}
use Rattle.std.proofs.Common.{length, subst}
use Rattle.std.specs.Ordering.{is_eq}
use Rattle.std.specs.BTreeSet.{BTreeSet, contains}
use Rattle.bhs_net.specs.declared.links.Link.{Link}
use Rattle.bhs_net.specs.Links.{End, link_at}
use Rattle.bhs_net.specs.Faults.{IsDouble}
use Rattle.bhs_net.specs.Listing.{end_cmp, IsLeast}
use Rattle.bhs_net.proofs.Places.{below_or_at}
use Rattle.bhs_net.proofs.Ends.{pair_of, SameNodes-from_pair, pair_from_SameNodes, end_cmp-cases, end_cmp-same}

-- the set has the pairs of the first links, and no others; no two of these links join the same nodes
pub record KnowsPairs (links : List Link) (seen : ℕ) (joined : BTreeSet End) : Type 0 where
  pub sound : (nodes : End) → contains end_cmp joined nodes ≡ true → (early : ℕ) × (early < seen)
      × (pair_of (link_at links early) ≡ nodes)
  pub whole : (early : ℕ) → early < seen → contains end_cmp joined (pair_of (link_at links early)) ≡ true
  pub no_double : (early : ℕ) → early < seen → ¬ IsDouble links early

pub KnowsPairs-none : (links : List Link) (joined : BTreeSet End) → joined.keys ≡ [] → KnowsPairs links 0 joined
KnowsPairs-none links joined e = record {
  sound = λ nodes h. absurd (let h' : contains end_cmp joined nodes ≡ false = rw e refl in cc);
  whole = λ early h. absurd (omega arith);
  no_double = λ early h. absurd (omega arith);
}

-- the link whose pair is there already is the first double one
pub IsDouble-first : (links : List Link) (seen : ℕ) (joined : BTreeSet End) (nodes : End)
    → pair_of (link_at links seen) ≡ nodes → KnowsPairs links seen joined → seen < length links
    → contains end_cmp joined nodes ≡ true → IsLeast (IsDouble links) seen
IsDouble-first links seen joined nodes same known lt h =
    let found = known.sound nodes h in (
      (lt, (found.0, found.1, SameNodes-from_pair (link_at links found.0) (link_at links seen) (found.2 ∙ sym same))),
      known.no_double,
    )

contains_more : (b c : Bool) → b ≡ true → cond c true b ≡ true
contains_more b c h = elim c as (λ v. cond v true b ≡ true) [ true ↦ refl | false ↦ h ]

pub KnowsPairs-more : (links : List Link) (seen : ℕ) (joined more : BTreeSet End) (nodes : End)
    → pair_of (link_at links seen) ≡ nodes → KnowsPairs links seen joined → contains end_cmp joined nodes ≡ false
    → ((q : End) → contains end_cmp more q ≡ cond (is_eq (end_cmp nodes q)) true (contains end_cmp joined q))
    → KnowsPairs links (seen + 1) more
KnowsPairs-more links seen joined more nodes same known fresh step = record {
  sound = λ q h. ⊎_elim
      (λ e. (seen, omega arith, same ∙ e.1))
      (λ ne. let old : contains end_cmp joined q ≡ true = sym (rw ne at (step q)) ∙ h in
      let found = known.sound q old in (found.0, omega arith, found.2))
      (end_cmp-cases nodes q);
  whole = λ early h. ⊎_elim
      (λ below. step (pair_of (link_at links early)) ∙ contains_more _ _ (known.whole early below))
      (λ at. let here : pair_of (link_at links early) ≡ nodes = ap (λ k. pair_of (link_at links k)) at ∙ same in
      let P : End → Type 0 = λ q. contains end_cmp more q ≡ true in
      subst P (sym here) (step nodes ∙ ap (λ t. cond t true (contains end_cmp joined nodes)) (end_cmp-same nodes)))
      (below_or_at early seen h);
  no_double = λ early h double. ⊎_elim
      (λ below. known.no_double early below double)
      (λ at. let there = known.whole double.1.0 (let lt : double.1.0 < early = double.1.1 in omega arith) in
      let pairs : pair_of (link_at links double.1.0) ≡ nodes =
      pair_from_SameNodes (link_at links double.1.0) (link_at links early) double.1.2
      ∙ (ap (λ k. pair_of (link_at links k)) at ∙ same) in
      let there' : contains end_cmp joined nodes ≡ true = rw pairs at there in
      absurd (let no : true ≡ false = sym there' ∙ fresh in cc))
      (below_or_at early seen h);
}
