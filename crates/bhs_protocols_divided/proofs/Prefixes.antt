-- What an agent has explored by the first steps of a list was explored one node after the other: so the next stage's
-- walk around what is safe grows by it.
use Rattle.std.proofs.Common.{ℕ, zero, suc, ◌≡◌, true, not, List, [], ◌∷◌, sym, ap, ◌∙◌, subst}
use Rattle.std.proofs.Common.{if◌then◌else◌, inl, inr}
use Rattle.std.proofs.lemmas.Bool.{true≢false, cond-true, cond-false}
use Rattle.bhs_model.proofs.StepLemmas.{by_cases}
use Rattle.bhs_net.specs.Network.{Network, IsNetwork}
use Rattle.bhs_protocols_mapped.proofs.Members.{is_in, in_head, in_tail, in_split, not_in}
use Rattle.bhs_protocols_divided.proofs.Tours.{Act, IsChain, IsFresh, next}
use Rattle.bhs_protocols_divided.proofs.Grown.{Grows}

abbrev pub explored_by : (steps : ℕ) → List Act → List ℕ
explored_by zero acts = []
explored_by (suc k) [] = []
explored_by (suc k) (a ∷ acts) = if a.is_new then a.target ∷ explored_by k acts else explored_by k acts

module _ (net : Network) (is : IsNetwork net) where
  abbrev Growing : List ℕ → List ℕ → Type 0
  Growing = Grows net (λ u port below. (is.labelled.within u port below, is.labelled.back u port below))

  pub prefix_grows : (steps here end : ℕ) (seen known : List ℕ) (acts : List Act)
      → ((q : ℕ) → is_in q seen ≡ true → is_in q known ≡ true) → ((q : ℕ) → is_in q known ≡ true → is_in q seen ≡ true)
      → is_in here known ≡ true → IsChain net here end acts → IsFresh seen acts → Growing known (explored_by steps acts)
  prefix_grows zero here end seen known acts up down at chain fresh = tt
  prefix_grows (suc k) here end seen known [] up down at chain fresh = tt
  prefix_grows (suc k) here end seen known (a ∷ acts) up down at chain fresh =
      by_cases a.is_new (Growing known (explored_by (suc k) (a ∷ acts)))
      (λ new.
      let same : next here a ≡ here = cond-true _ _ _ new in
      subst (Growing known) (sym (cond-true _ _ _ new)) (
        (
          a.node,
          subst (λ (j : ℕ). is_in j known ≡ true) (sym chain.0.from) at,
          (a.ahead, chain.0.ahead, ap (λ (f : ℕ × ℕ). f.0) chain.0.out),
        ),
        not_in a.target known (λ h. true≢false (sym (down a.target h) ∙ fresh.0 ∙ ap not new)),
        prefix_grows k (next here a) end (a.target ∷ seen) (a.target ∷ known) acts (both seen known up)
            (both known seen down)
            (in_tail (next here a) a.target known (subst (λ (j : ℕ). is_in j known ≡ true) (sym same) at)) chain.1
            fresh.1,
      ))
      (λ old.
      let there : next here a ≡ a.target = cond-false _ _ _ old in
      let known_there : is_in a.target known ≡ true = up a.target (fresh.0 ∙ ap not old) in
      subst (Growing known) (sym (cond-false _ _ _ old)) (prefix_grows k (next here a) end (a.target ∷ seen) known acts
      (λ q any. elim (in_split q a.target seen any) [
        | inl e ↦ subst (λ (j : ℕ). is_in j known ≡ true) (sym e) known_there
        | inr e ↦ up q e
      ])
      (λ q any. in_tail q a.target seen (down q any))
      (subst (λ (j : ℕ). is_in j known ≡ true) (sym there) known_there) chain.1 fresh.1))
    where
      both : (S T : List ℕ) → ((q : ℕ) → is_in q S ≡ true → is_in q T ≡ true) → (q : ℕ)
          → is_in q (a.target ∷ S) ≡ true → is_in q (a.target ∷ T) ≡ true
      both S T more q any = elim (in_split q a.target S any) [
        | inl e ↦ subst (λ (j : ℕ). is_in j (a.target ∷ T) ≡ true) (sym e) (in_head a.target T)
        | inr e ↦ in_tail q a.target T (more q e)
      ]
