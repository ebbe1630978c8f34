-- Which steps of a list of actions explore which nodes.
use Rattle.std.proofs.Common.{ℕ, zero, suc, ◌<◌, ◌≡◌, ◌⊎◌, true, false, not, List, [], ◌∷◌, length, refl, sym, ap}
use Rattle.std.proofs.Common.{◌∙◌, subst, inl, inr, arith}
use Rattle.std.proofs.lemmas.Bool.{true≢false, cond-true, cond-false}
use Rattle.bhs_model.proofs.StepLemmas.{by_cases}
use Rattle.bhs_protocols_mapped.proofs.Members.{is_in, in_head, in_tail, in_split}
use Rattle.bhs_protocols_divided.proofs.Tours.{Act, IsFresh, news_in, in_news, own_news}
use Rattle.bhs_protocols_divided.proofs.ListedItineraries.{act_at}

-- a step that explores this node
pub record IsNewAt (acts : List Act) (step node : ℕ) : Type 0 where
  pub within : step < length acts
  pub is_new : (act_at acts step).is_new ≡ true
  pub is : (act_at acts step).target ≡ node

pub new_at : (acts : List Act) (step node : ℕ) → IsNewAt acts step node → is_in node (news_in acts) ≡ true
new_at [] step node it = absurd (omega (arith, it.within))
new_at (a ∷ acts) zero node it =
    subst (λ (k : ℕ). is_in k (news_in (a ∷ acts)) ≡ true) it.is (own_news a acts it.is_new)
new_at (a ∷ acts) (suc step) node it = in_news node a acts
    (new_at acts step node (record { within = omega (arith, it.within); is_new = it.is_new; is = it.is }))

pub new_where : (acts : List Act) (node : ℕ) → is_in node (news_in acts) ≡ true → (step : ℕ) × IsNewAt acts step node
new_where [] node any = absurd (true≢false (sym any))
new_where (a ∷ acts) node any = by_cases a.is_new ((step : ℕ) × IsNewAt (a ∷ acts) step node)
    (λ new. elim (in_split node a.target (news_in acts) (sym (ap (is_in node) (cond-true _ _ _ new)) ∙ any)) [
      | inl h ↦ (0, record { within = omega arith; is_new = new; is = sym h })
      | inr h ↦ later (new_where acts node h)
    ])
    (λ old. later (new_where acts node (sym (ap (is_in node) (cond-false _ _ _ old)) ∙ any)))
  where
    later : (step : ℕ) × IsNewAt acts step node → (step : ℕ) × IsNewAt (a ∷ acts) step node
    later it = (
      suc it.0,
      record {
        within = let below : it.0 < length acts = it.1.within in omega (arith, below);
        is_new = it.1.is_new;
        is = it.1.is;
      },
    )

-- it was not seen
pub new_unseen : (seen : List ℕ) (acts : List Act) (step node : ℕ) → IsFresh seen acts → IsNewAt acts step node
    → is_in node seen ≡ true → ⊥
new_unseen seen [] step node fresh it any = absurd (omega (arith, it.within))
new_unseen seen (a ∷ acts) zero node fresh it any =
    true≢false (sym (subst (λ (k : ℕ). is_in k seen ≡ true) (sym it.is) any) ∙ fresh.0 ∙ ap not it.is_new)
new_unseen seen (a ∷ acts) (suc step) node fresh it any = new_unseen (a.target ∷ seen) acts step node fresh.1
    (record { within = omega (arith, it.within); is_new = it.is_new; is = it.is }) (in_tail node a.target seen any)

-- so no node is explored twice
pub new_once : (seen : List ℕ) (acts : List Act) (one two node : ℕ) → IsFresh seen acts → IsNewAt acts one node
    → IsNewAt acts two node → one ≡ two
new_once seen [] one two node fresh first second = absurd (omega (arith, first.within))
new_once seen (a ∷ acts) zero zero node fresh first second = refl
new_once seen (a ∷ acts) zero (suc two) node fresh first second =
    absurd (new_unseen (a.target ∷ seen) acts two node fresh.1
    (record { within = omega (arith, second.within); is_new = second.is_new; is = second.is })
    (subst (λ (k : ℕ). is_in k (a.target ∷ seen) ≡ true) first.is (in_head a.target seen)))
new_once seen (a ∷ acts) (suc one) zero node fresh first second =
    absurd (new_unseen (a.target ∷ seen) acts one node fresh.1
    (record { within = omega (arith, first.within); is_new = first.is_new; is = first.is })
    (subst (λ (k : ℕ). is_in k (a.target ∷ seen) ≡ true) second.is (in_head a.target seen)))
new_once seen (a ∷ acts) (suc one) (suc two) node fresh first second =
    ap suc (new_once (a.target ∷ seen) acts one two node fresh.1
    (record { within = omega (arith, first.within); is_new = first.is_new; is = first.is })
    (record { within = omega (arith, second.within); is_new = second.is_new; is = second.is }))

-- and nobody goes for good to a node that is explored later
pub known_before : (seen : List ℕ) (acts : List Act) (step later node : ℕ) → IsFresh seen acts → step < length acts
    → (act_at acts step).is_new ≡ false → (act_at acts step).target ≡ node → IsNewAt acts later node → later < step
known_before seen [] step later node fresh within old same it = absurd (omega (arith, within))
known_before seen (a ∷ acts) zero zero node fresh within old same it = absurd (true≢false (sym it.is_new ∙ old))
known_before seen (a ∷ acts) zero (suc later) node fresh within old same it =
    absurd (new_unseen (a.target ∷ seen) acts later node fresh.1
    (record { within = omega (arith, it.within); is_new = it.is_new; is = it.is })
    (subst (λ (k : ℕ). is_in k (a.target ∷ seen) ≡ true) same (in_head a.target seen)))
known_before seen (a ∷ acts) (suc step) zero node fresh within old same it = omega arith
known_before seen (a ∷ acts) (suc step) (suc later) node fresh within old same it =
    let less : later < step =
    known_before (a.target ∷ seen) acts step later node fresh.1 (omega (arith, within)) old same
    (record { within = omega (arith, it.within); is_new = it.is_new; is = it.is }) in
    omega (arith, less)

-- a walk leads to a seen node or to an explored one
pub goes_known : (seen : List ℕ) (acts : List Act) (step : ℕ) → IsFresh seen acts → step < length acts
    → (act_at acts step).is_new ≡ false
    → (is_in (act_at acts step).target seen ≡ true) ⊎ (is_in (act_at acts step).target (news_in acts) ≡ true)
goes_known seen [] step fresh within old = absurd (omega (arith, within))
goes_known seen (a ∷ acts) zero fresh within old = inl (fresh.0 ∙ ap not old)
goes_known seen (a ∷ acts) (suc step) fresh within old =
    elim (goes_known (a.target ∷ seen) acts step fresh.1 (omega (arith, within)) old) [
      | inl h ↦ elim (in_split (act_at acts step).target a.target seen h) [
        | inl e ↦ by_cases a.is_new ((is_in (act_at acts step).target seen ≡ true)
            ⊎ (is_in (act_at acts step).target (news_in (a ∷ acts)) ≡ true))
            (λ new. inr (subst (λ (k : ℕ). is_in k (news_in (a ∷ acts)) ≡ true) (sym e) (own_news a acts new)))
            (λ walk. inl (subst (λ (k : ℕ). is_in k seen ≡ true) (sym e) (fresh.0 ∙ ap not walk)))
        | inr e ↦ inl e
      ]
      | inr h ↦ inr (in_news (act_at acts step).target a acts h)
    ]
