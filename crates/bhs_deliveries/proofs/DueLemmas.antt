-- Which of some turns is the first that delivers an agent, and what a pass over a log finds next.
use Rattle.std.proofs.Common.{arith, ℕ, zero, suc, ◌≡◌, ◌<◌, ◌≤◌, ◌+◌, ◌-◌, ◌%◌}
use Rattle.std.proofs.Common.{Option, Some, None, List, length, get_or, drop, drop-cons, refl, sym, ap, ◌∙◌}
use Rattle.std.proofs.Math.Nat.{mod-add-mod}
use Rattle.std.specs.Prelude.{if◌then◌else◌}
use Rattle.rand_chacha.specs.ChaCha.{ChaCha}
use Rattle.bhs_model.specs.declared.marks.Kept.{Kept}
use Rattle.bhs_time.specs.TimedLogs.{turn_behind}
use Rattle.bhs_deliveries.specs.Dealer.{moved_on, words_of_a_stream}
use Rattle.bhs_deliveries.specs.Timeliness.{DeliveryTerms, due_of, is_due, picked_by, delivered_by, or_else}
use Rattle.bhs_deliveries.specs.Timeliness.{first_delivery}
use Rattle.bhs_deliveries.specs.Timeliness.{dues_after}
use Rattle.bhs_deliveries.specs.Timeliness.{untimely, at_or_later, untimely_from}
use Rattle.bhs_deliveries.specs.declared.timeliness.Untimely.{Untimely}

-- ---- the first delivery

-- without dues there is none
pub none_due : (terms : DeliveryTerms) (dues : List (Option ℕ)) (from count : ℕ) →
    ((agent : ℕ) → due_of dues agent ≡ None) → first_delivery terms dues from count ≡ None
none_due terms dues from zero none = refl
none_due terms dues from (suc count) none =
    ap (λ (due : Option ℕ). or_else (if is_due due from then Some (picked_by terms from) else None) from
    (first_delivery terms dues (from + 1) count)) (none (picked_by terms from))
    ∙ none_due terms dues (from + 1) count none

step_by : (terms : DeliveryTerms) (dues : List (Option ℕ)) (from end : ℕ) → from < end →
    first_delivery terms dues from (end - from)
    ≡ or_else (delivered_by terms dues from) from (first_delivery terms dues (from + 1) (end - (from + 1)))
step_by terms dues from end before =
    let more : end - from ≡ suc (end - (from + 1)) = omega (arith, before) in
    ap (first_delivery terms dues from) more

pub delivery_here : (terms : DeliveryTerms) (dues : List (Option ℕ)) (from end agent : ℕ) → from < end →
    delivered_by terms dues from ≡ Some agent → first_delivery terms dues from (end - from) ≡ Some (agent, from)
delivery_here terms dues from end agent before is =
    step_by terms dues from end before
    ∙ ap (λ (found : Option ℕ). or_else found from (first_delivery terms dues (from + 1) (end - (from + 1)))) is

pub delivery_later : (terms : DeliveryTerms) (dues : List (Option ℕ)) (from end : ℕ) → from < end →
    delivered_by terms dues from ≡ None →
    first_delivery terms dues from (end - from) ≡ first_delivery terms dues (from + 1) (end - (from + 1))
delivery_later terms dues from end before none =
    step_by terms dues from end before
    ∙ ap (λ (found : Option ℕ). or_else found from (first_delivery terms dues (from + 1) (end - (from + 1)))) none

pub over : (terms : DeliveryTerms) (dues : List (Option ℕ)) (from end : ℕ) → end ≤ from →
    first_delivery terms dues from (end - from) ≡ None
over terms dues from end past =
    let none : end - from ≡ 0 = omega (arith, past) in ap (first_delivery terms dues from) none

pub next_at : (dealer words after : ChaCha) (turn : ℕ) → after ≡ moved_on words →
    words ≡ record dealer { word_pos = turn % words_of_a_stream } →
    after ≡ record dealer { word_pos = (turn + 1) % words_of_a_stream }
next_at dealer words after turn moved at =
    moved ∙ ap moved_on at
    ∙ ap (λ (place : ℕ). record dealer { word_pos = place }) (mod-add-mod turn words_of_a_stream 1)

-- ---- a pass over a log

module _ (terms : DeliveryTerms) (dues : List (Option ℕ)) (now place : ℕ) (log : List Kept) (sites : List (Option ℕ))
    (turns : List ℕ) (one : Kept) (within : place < length log) (long : length sites ≡ length log)
    (count : length turns ≡ length log) (is_one : one ≡ get_or log place one) where
  -- the result of a search from a place on whose event has this site
  abbrev Found : (own : Option ℕ) → (next : ℕ) → Option Untimely → Option (ℕ × Untimely)
  Found own next why = at_or_later place why
      (untimely_from terms (dues_after terms dues one.event own (get_or turns place 0))
      (turn_behind one.event (get_or turns place 0)) (place + 1) (drop next log) (drop next sites) (drop next turns))

  all_of : (d : Option ℕ) →
      untimely_from terms dues now place (drop place log) (drop place sites) (drop place turns)
      ≡ Found (get_or sites place d) (suc place) (untimely terms dues now one.event (get_or turns place 0))
  all_of d =
      rw (
        drop-cons log place one within,
        drop-cons sites place d (omega (arith, within, long)),
        drop-cons turns place 0 (omega (arith, within, count)),
      )
      (ap (λ (some : Kept). at_or_later place (untimely terms dues now some.event (get_or turns place 0))
      (untimely_from terms (dues_after terms dues some.event (get_or sites place d) (get_or turns place 0))
      (turn_behind some.event (get_or turns place 0)) (place + 1) (drop (suc place) log) (drop (suc place) sites)
      (drop (suc place) turns))) (sym is_one))

  pub found_here : (why : Untimely) → untimely terms dues now one.event (get_or turns place 0) ≡ Some why →
      untimely_from terms dues now place (drop place log) (drop place sites) (drop place turns) ≡ Some (place, why)
  found_here why is = all_of None ∙ ap (Found (get_or sites place None) (suc place)) is

  pub found_later : (own : Option ℕ) (after : List (Option ℕ)) (passed : ℕ) → own ≡ get_or sites place own →
      untimely terms dues now one.event (get_or turns place 0) ≡ None →
      after ≡ dues_after terms dues one.event own (get_or turns place 0) →
      passed ≡ turn_behind one.event (get_or turns place 0) →
      untimely_from terms dues now place (drop place log) (drop place sites) (drop place turns)
      ≡ untimely_from terms after passed (place + 1) (drop (place + 1) log) (drop (place + 1) sites)
      (drop (place + 1) turns)
  found_later own after passed is_own is noted behind =
      let next : suc place ≡ place + 1 = omega arith in
      all_of own
      ∙ ap (λ (node : Option ℕ). Found node (suc place) (untimely terms dues now one.event (get_or turns place 0)))
      (sym is_own)
      ∙ ap (Found own (suc place)) is
      ∙ ap (λ (from : ℕ). Found own from None) next
      ∙ rw (noted, behind) refl
