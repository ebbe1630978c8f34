-- An agent waits for equal numbers of turns by equal timed views.
use Rattle.std.proofs.Common.{arith, ℕ, ◌≡◌, ◌<◌, sym, ◌∙◌, inl, inr, subst}
use Rattle.std.proofs.lemmas.Bool.{true≢false}
use Rattle.std.proofs.lemmas.Bool.Decides.{leb_tells}
use Rattle.bhs_time.specs.TimedViews.{TimedView}
use Rattle.bhs_time.specs.Schedules.{Schedule}
use Rattle.bhs_time.specs.Laws.{IsFirst, IsPunctual, EqualWaits}
use Rattle.bhs_time.proofs.TimelyLemmas.{all_fare}

-- no turn before the first one releases the agent
not_before : (schedule : Schedule) (agent from turn other : ℕ) → IsFirst schedule agent from turn →
    IsFirst schedule agent from other → other < turn → ⊥
not_before schedule agent from turn other first second before =
    true≢false (sym second.released ∙ first.none_before other second.later before)

-- there is one first turn
pub first_once : (schedule : Schedule) (agent from turn other : ℕ) → IsFirst schedule agent from turn →
    IsFirst schedule agent from other → turn ≡ other
first_once schedule agent from turn other first second =
    elim (leb_tells turn other) [
      | inr late ↦ absurd (not_before schedule agent from turn other first second late.1)
      | inl early ↦
          elim (leb_tells other turn) [
            | inr late ↦ absurd (not_before schedule agent from other turn second first late.1)
            | inl same ↦ omega (arith, early.1, same.1)
          ]
    ]

pub equal_waits_lemma : EqualWaits
equal_waits_lemma schedule world held acts other still others agent before turn later sight seen arrived came =
    let one = subst (λ (past : TimedView). IsPunctual schedule agent past) arrived
    (all_fare world held schedule acts agent).arrived in
    let two = subst (λ (past : TimedView). IsPunctual schedule agent past) came
    (all_fare other still schedule others agent).arrived in
    first_once schedule agent _ turn later one.0 two.0
