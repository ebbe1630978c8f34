-- What is not kept changes nothing.
use Rattle.std.proofs.Common.{ℕ, ◌≡◌, Bool, true, false, not, ◌&&◌, Option, List, [], ◌∷◌, ◌==◌, if◌then◌else◌, refl}
use Rattle.std.proofs.Common.{sym, ap, ap₂, ◌∙◌, ◌≤◌, length, arith}
use Rattle.std.proofs.lemmas.Bool.{cond-true, cond-false, cond_both, or_parts, not-false, eqb-true}
use Rattle.bhs_model.specs.declared.events.Event.{Event}
use Rattle.bhs_model.specs.declared.events.Event.TheVariants.{Tell, Deliver, Close}
use Rattle.bhs_model.specs.Worlds.{World}
use Rattle.bhs_model.specs.Runs.{State, initial, changed, arrives, next, run_from, reply}
use Rattle.bhs_model.specs.InOrder.{replies_from}
use Rattle.bhs_model.specs.Kept.{destroys, lost_after, keeps, kept_from, lost_from, nobody, lost}
use Rattle.bhs_model.specs.declared.replies.Reply.{Reply}
use Rattle.bhs_model.specs.KeptReplies.{kept_replies_from}
use Rattle.bhs_model.specs.Laws.{KeptSuffice}
use Rattle.bhs_model.proofs.StepLemmas.{by_cases, next_unheard, next_no_arrival, next_closed}

-- an event that is not kept leaves the state itself
pub unkept_state : (world : World) (state : State) (lost : ℕ → Bool) (event : Event)
    → keeps world state lost event ≡ false →
    next world state event ≡ state
unkept_state world state lost (Tell agent command) unkept = next_unheard world state agent command unkept
unkept_state world state lost (Deliver agent) unkept =
    next_no_arrival world state agent (or_parts (arrives world state agent) _ unkept).0
unkept_state world state lost Close unkept = next_closed state (not-false state.closed unkept)

-- marking who is marked changes nothing
pub changed_to_itself : (marks : ℕ → Bool) (place : ℕ) → marks place ≡ true → changed marks place true ≡ marks
changed_to_itself marks place marked i other =
    cond_both (other == place) true (marks other) (λ (value : Bool). value ≡ marks other)
    (λ same. sym (ap marks (eqb-true other place same) ∙ marked)) (λ apart. refl) i

pub still_lost : (is_destroyed : Bool) (marks : ℕ → Bool) (agent : ℕ) → (is_destroyed && not (marks agent)) ≡ false →
    (if is_destroyed then changed marks agent true else marks) ≡ marks
still_lost true marks agent unkept = changed_to_itself marks agent (not-false (marks agent) unkept)
still_lost false marks agent unkept = refl

-- and the lost agents
pub unkept_lost : (world : World) (state : State) (lost : ℕ → Bool) (event : Event)
    → keeps world state lost event ≡ false →
    lost_after world state lost event ≡ lost
unkept_lost world state lost (Tell agent command) unkept = refl
unkept_lost world state lost (Deliver agent) unkept =
    still_lost (destroys world state agent) lost agent (or_parts (arrives world state agent) _ unkept).1
unkept_lost world state lost Close unkept = refl

pub run-kept : (world : World) (state : State) (lost : ℕ → Bool) (events : List Event) →
    run_from world state (kept_from world state lost events) ≡ run_from world state events
run-kept world state lost [] = refl
run-kept world state lost (event ∷ events) =
    let after = next world state event in
    let marks = lost_after world state lost event in
    let rest = kept_from world after marks events in
    let same = run-kept world after marks events in
    cond_both (keeps world state lost event) (event ∷ rest) rest
    (λ (chosen : List Event). run_from world state chosen ≡ run_from world after events)
    (λ is_kept. same)
    (λ unkept. ap (λ (start : State). run_from world start rest) (sym (unkept_state world state lost event unkept))
    ∙ same)

pub lost-kept : (world : World) (state : State) (lost : ℕ → Bool) (events : List Event) →
    lost_from world state lost (kept_from world state lost events) ≡ lost_from world state lost events
lost-kept world state lost [] = refl
lost-kept world state lost (event ∷ events) =
    let after = next world state event in
    let marks = lost_after world state lost event in
    let rest = kept_from world after marks events in
    let same = lost-kept world after marks events in
    cond_both (keeps world state lost event) (event ∷ rest) rest
    (λ (chosen : List Event). lost_from world state lost chosen ≡ lost_from world after marks events)
    (λ is_kept. same)
    (λ unkept. ap₂ (λ (start : State) (known : ℕ → Bool). lost_from world start known rest)
    (sym (unkept_state world state lost event unkept)) (sym (unkept_lost world state lost event unkept)) ∙ same)

pub kept-kept : (world : World) (state : State) (lost : ℕ → Bool) (events : List Event) →
    kept_from world state lost (kept_from world state lost events) ≡ kept_from world state lost events
kept-kept world state lost [] = refl
kept-kept world state lost (event ∷ events) =
    let after = next world state event in
    let marks = lost_after world state lost event in
    let rest = kept_from world after marks events in
    let same = kept-kept world after marks events in
    cond_both (keeps world state lost event) (event ∷ rest) rest
    (λ (chosen : List Event). kept_from world state lost chosen ≡ chosen)
    (λ is_kept. cond-true (keeps world state lost event) _ _ is_kept
    ∙ ap (λ (others : List Event). event ∷ others) same)
    (λ unkept. ap₂ (λ (start : State) (known : ℕ → Bool). kept_from world start known rest)
    (sym (unkept_state world state lost event unkept)) (sym (unkept_lost world state lost event unkept)) ∙ same)

pub replies-kept : (world : World) (state : State) (lost : ℕ → Bool) (events : List Event) →
    kept_replies_from world state lost events ≡ replies_from world state (kept_from world state lost events)
replies-kept world state lost [] = refl
replies-kept world state lost (event ∷ events) =
    let after = next world state event in
    let marks = lost_after world state lost event in
    let rest = kept_from world after marks events in
    let told = kept_replies_from world after marks events in
    let same = replies-kept world after marks events in
    by_cases (keeps world state lost event) _
    (λ is_kept. cond-true (keeps world state lost event) _ told is_kept
    ∙ ap (λ (others : List (Option Reply)). reply world state event ∷ others) same
    ∙ sym (ap (replies_from world state) (cond-true (keeps world state lost event) (event ∷ rest) rest is_kept)))
    (λ unkept. cond-false (keeps world state lost event) (reply world state event ∷ told) told unkept ∙ same
    ∙ ap (λ (start : State). replies_from world start rest) (unkept_state world state lost event unkept)
    ∙ sym (ap (replies_from world state) (cond-false (keeps world state lost event) (event ∷ rest) rest unkept)))

pub kept_suffice_lemma : KeptSuffice
kept_suffice_lemma world events = record {
  state = run-kept world initial nobody events;
  lost = lost-kept world initial nobody events;
  once = kept-kept world initial nobody events;
  answers = replies-kept world initial nobody events;
}

-- The kept events are no more than all events.
kept_shorter : (world : World) (state : State) (lost : ℕ → Bool) (events : List Event)
    → length (kept_from world state lost events) ≤ length events
kept_shorter world state lost [] = omega arith
kept_shorter world state lost (event ∷ events) =
    let rest = kept_from world (next world state event) (lost_after world state lost event) events in
    let fewer : length rest ≤ length events =
    kept_shorter world (next world state event) (lost_after world state lost event) events in
    cond_both (keeps world state lost event) (event ∷ rest) rest
    (λ (chosen : List Event). length chosen ≤ length (event ∷ events)) (λ is. omega arith) (λ is_not. omega arith)

-- If all events are kept, then the first event is kept, and the remaining events are kept.
pub record IsFirstKept (world : World) (state : State) (lost : ℕ → Bool) (event : Event)
    (events : List Event) : Type 0 where
  pub first : keeps world state lost event ≡ true
  pub others : kept_from world (next world state event) (lost_after world state lost event) events ≡ events

pub first_kept : (world : World) (state : State) (lost : ℕ → Bool) (event : Event) (events : List Event)
    → kept_from world state lost (event ∷ events) ≡ event ∷ events → IsFirstKept world state lost event events
first_kept world state lost event events all =
    let rest = kept_from world (next world state event) (lost_after world state lost event) events in
    let fewer : length rest ≤ length events =
    kept_shorter world (next world state event) (lost_after world state lost event) events in
    by_cases (keeps world state lost event) _
    (λ is. record { first = is; others = tails event rest events (sym (cond-true _ _ _ is) ∙ all) })
    (λ is_not. absurd (too_long rest (sym (cond-false _ _ _ is_not) ∙ all) fewer))
  where
    tails : (event : Event) (one two : List Event) → event ∷ one ≡ event ∷ two → one ≡ two
    tails event one two e = cc

    too_long : (rest : List Event) → rest ≡ event ∷ events → length rest ≤ length events → ⊥
    too_long rest e fewer = let same = ap length e in omega arith
