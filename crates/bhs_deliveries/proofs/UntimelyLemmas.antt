-- What a pass over a log with turns finds: the log of a timed execution, or its first event that belongs to none.
use Rattle.std.proofs.Common.{arith, ℕ, zero, suc, ◌≡◌, ◌<◌, ◌≤◌, ◌+◌, ◌-◌, Bool, true, false, ◌&&◌, ◌==◌, ◌++◌, Option}
use Rattle.std.proofs.Common.{Some, None, List, [], ◌∷◌, length, take, refl, sym, ap, ap₂, ◌∙◌, subst, inl, inr}
use Rattle.std.proofs.Common.{nat_lt, slice_get, if◌then◌else◌, not}
use Rattle.std.proofs.lemmas.Bool.{cond-true, cond-false, and_parts, true≢false, false≢true, cases_lt}
use Rattle.std.proofs.lemmas.Bool.Decides.{eqb_tells}
use Rattle.std.proofs.Math.ListN.{length-replicate}
use Rattle.std.proofs.Math.Nat.{mod-lt}
use Rattle.std.specs.Prelude.{MatchOption, replicate}
use Rattle.bhs_model.specs.declared.events.Event.{Event}
use Rattle.bhs_model.specs.declared.events.Event.TheVariants.{Tell, Deliver, Close}
use Rattle.bhs_model.specs.declared.marks.Kept.{Kept}
use Rattle.bhs_model.specs.Marks.{events_of}
use Rattle.bhs_model.specs.Replying.{hears}
use Rattle.bhs_model.specs.Worlds.{World}
use Rattle.bhs_model.specs.Runs.{State, initial, next, run}
use Rattle.bhs_model.specs.Kept.{keeps, lost_after, kept_from, kept, nobody}
use Rattle.bhs_model.specs.Sites.{site, sites_from}
use Rattle.bhs_model.proofs.AddLemmas.{run-append}
use Rattle.bhs_model.proofs.KeptLemmas.{first_kept}
use Rattle.bhs_model.proofs.LegalLemmas.{AllLegal, all_run}
use Rattle.bhs_time.specs.TimedRuns.{TimedState, timed_initial, delivery_now}
use Rattle.bhs_time.specs.Stamps.{Stamped}
use Rattle.bhs_time.specs.TimedLogs.{turn_behind, turns_passed, IsTimedLog}
use Rattle.bhs_time.proofs.StampLemmas.{IsStamped, initial_stamped, happened_state, happened_stamped}
use Rattle.bhs_time.proofs.InTimeLogLemmas.{kept_open}
use Rattle.bhs_time.proofs.TimedLogLemmas.{is_kept, IsNow, IsNext, behind, Follows, timed_by_steps, steps_of_timed}
use Rattle.bhs_match.specs.Matches.{Play, world_in}
use Rattle.bhs_net.specs.Network.{Network, degree_of}
use Rattle.bhs_deliveries.specs.Links.{is_port_of}
use Rattle.bhs_deliveries.specs.Scheduling.{words_by, stamps_in}
use Rattle.bhs_deliveries.specs.Timeliness.{DeliveryTerms, due_of, is_due, picked_by, delivered_by, or_else}
use Rattle.bhs_deliveries.specs.Timeliness.{first_delivery}
use Rattle.bhs_deliveries.specs.Timeliness.{dues_after}
use Rattle.bhs_deliveries.specs.Timeliness.{is_agent, late_in, left_out, untimely, at_or_later, untimely_from}
use Rattle.bhs_deliveries.specs.Timeliness.{untimely_in}
use Rattle.bhs_deliveries.specs.Timeliness.{IsReason, IsUntimelyAt}
use Rattle.bhs_deliveries.specs.declared.timeliness.Untimely.{Untimely}
use Rattle.bhs_deliveries.specs.declared.timeliness.Untimely.TheVariants.{Early, LeftOut, Late}
use Rattle.bhs_deliveries.proofs.WaitingLemmas.{held_by, schedule_by, AreDue, AllGone, kept_if_due, kept_delivery}
use Rattle.bhs_deliveries.proofs.WaitingLemmas.{goes_on}
use Rattle.bhs_deliveries.proofs.WaitingLemmas.{length_dues}

-- ---- the first delivery of some turns

abbrev Due : DeliveryTerms → List (Option ℕ) → (turn : ℕ) → Bool
Due terms dues turn = is_due (due_of dues (picked_by terms turn)) turn

none_found : (terms : DeliveryTerms) (dues : List (Option ℕ)) (from count : ℕ) →
    first_delivery terms dues from count ≡ None →
    (turn : ℕ) → from ≤ turn → turn < from + count → Due terms dues turn ≡ false
none_found terms dues from zero none turn later before = absurd (omega (arith, later, before))
none_found terms dues from (suc count) none turn later before =
    let parts = split (Due terms dues from) refl none in
    elim (eqb_tells turn from) [
      | inl h ↦ ap (Due terms dues) h.1 ∙ parts.0
      | inr h ↦ none_found terms dues (from + 1) count parts.1 turn (omega (arith, later, h.1))
          (omega (arith, before))
    ]
  where
    split : (b : Bool) → Due terms dues from ≡ b →
        or_else (if b then Some (picked_by terms from) else None) from (first_delivery terms dues (from + 1) count)
        ≡ None →
        (Due terms dues from ≡ false) × (first_delivery terms dues (from + 1) count ≡ None)
    split true same e = absurd (no e)
      where
        no : ◌≡◌ {A = Option (ℕ × ℕ)} (Some (picked_by terms from, from)) None → ⊥
        no e = cc
    split false same e = (same, e)

-- The correctness of the first delivery that was found.
pub record IsFirstDue (terms : DeliveryTerms) (dues : List (Option ℕ)) (from count agent turn : ℕ) : Type 0 where
  pub later : from ≤ turn
  pub before : turn < from + count
  pub picked : agent ≡ picked_by terms turn
  pub due : Due terms dues turn ≡ true
  pub none_before : (earlier : ℕ) → from ≤ earlier → earlier < turn → Due terms dues earlier ≡ false

same_pair : (one two : ℕ × ℕ) → ◌≡◌ {A = Option (ℕ × ℕ)} (Some one) (Some two) → one ≡ two
same_pair one two e = cc

one_found : (terms : DeliveryTerms) (dues : List (Option ℕ)) (from count agent turn : ℕ) →
    first_delivery terms dues from count ≡ Some (agent, turn) → IsFirstDue terms dues from count agent turn
one_found terms dues from zero agent turn found = absurd (no found)
  where
    no : ◌≡◌ {A = Option (ℕ × ℕ)} None (Some (agent, turn)) → ⊥
    no e = cc
one_found terms dues from (suc count) agent turn found =
    split (Due terms dues from) refl found (one_found terms dues (from + 1) count agent turn)
  where
    same_agent : ◌≡◌ {A = Option (ℕ × ℕ)} (Some (picked_by terms from, from)) (Some (agent, turn)) →
        picked_by terms from ≡ agent
    same_agent e = ap (λ (pair : ℕ × ℕ). pair.0) (same_pair _ _ e)

    same_turn : ◌≡◌ {A = Option (ℕ × ℕ)} (Some (picked_by terms from, from)) (Some (agent, turn)) → from ≡ turn
    same_turn e = ap (λ (pair : ℕ × ℕ). pair.1) (same_pair _ _ e)

    split : (b : Bool) → Due terms dues from ≡ b →
        or_else (if b then Some (picked_by terms from) else None) from (first_delivery terms dues (from + 1) count)
        ≡ Some (agent, turn) →
        (first_delivery terms dues (from + 1) count ≡ Some (agent, turn)
        → IsFirstDue terms dues (from + 1) count agent turn) →
        IsFirstDue terms dues from (suc count) agent turn
    split true same e again =
        let at = same_turn e in
        record {
          later = omega (arith, at);
          before = omega (arith, at);
          picked = sym (same_agent e) ∙ ap (picked_by terms) at;
          due = subst (λ (t : ℕ). Due terms dues t ≡ true) at same;
          none_before = λ earlier after before. absurd (omega (arith, at, after, before));
        }
    split false same e again =
        let rest = again e in
        record {
          later = omega (arith, rest.later);
          before = omega (arith, rest.before);
          picked = rest.picked;
          due = rest.due;
          none_before = λ earlier after before. elim (eqb_tells earlier from) [
            | inl h ↦ ap (Due terms dues) h.1 ∙ same
            | inr h ↦ rest.none_before earlier (omega (arith, after, h.1)) before
          ];
        }

-- ---- one event

-- what stands against an event at its turn
abbrev pub Hinders : World → DeliveryTerms → (lost : ℕ → Bool) → TimedState → Event → (turn : ℕ) → Untimely → Type 0
Hinders world terms lost timed event turn Early = turn < timed.turn
Hinders world terms lost timed event turn (LeftOut agent at) =
    (at < turn) × IsNext world (held_by terms) (schedule_by terms) lost timed
    (record { event = Deliver agent; turn = at })
Hinders world terms lost timed event turn Late = (agent : ℕ) × (event ≡ Deliver agent)

abbrev pub Judges : World → DeliveryTerms → (lost : ℕ → Bool) → TimedState → Event → (turn : ℕ) → Option Untimely
    → Type 0
Judges world terms lost timed event turn None =
    IsNext world (held_by terms) (schedule_by terms) lost timed (record { event = event; turn = turn })
Judges world terms lost timed event turn (Some why) =
    (IsNext world (held_by terms) (schedule_by terms) lost timed (record { event = event; turn = turn }) → ⊥)
    × Hinders world terms lost timed event turn why

module _ (terms : DeliveryTerms) (world : World) (timed : TimedState) (lost : ℕ → Bool) (dues : List (Option ℕ))
    (are : AreDue terms lost timed dues) (gone : AllGone world lost timed.state)
    (few : (turn : ℕ) → picked_by terms turn < length dues) (unclosed : timed.state.closed ≡ false) where
  abbrev Next : Event → (turn : ℕ) → Type 0
  Next event turn =
      IsNext world (held_by terms) (schedule_by terms) lost timed (record { event = event; turn = turn })

  abbrev KeptIn : (turn : ℕ) → Bool
  KeptIn turn =
      is_kept world timed.state lost (delivery_now (held_by terms) (schedule_by terms) (record timed { turn = turn }))

  kept_as_due : (turn : ℕ) → KeptIn turn ≡ Due terms dues turn
  kept_as_due turn = kept_if_due terms world timed lost unclosed dues turn are gone (few turn)

  -- the turns between the present turn and this turn
  within_count : (turn other : ℕ) → timed.turn ≤ turn → other < turn → other < timed.turn + (turn - timed.turn)
  within_count turn other later before = omega (arith, later, before)

  quiet_by : (turn : ℕ) → timed.turn ≤ turn →
      first_delivery terms dues timed.turn (turn - timed.turn) ≡ None →
      (other : ℕ) → timed.turn ≤ other → other < turn → KeptIn other ≡ false
  quiet_by turn later none other from before =
      kept_as_due other
      ∙ none_found terms dues timed.turn (turn - timed.turn) none other from (within_count turn other later before)

  deliver_now : (turn : ℕ) → Due terms dues turn ≡ true →
      IsNow world (held_by terms) (schedule_by terms) lost (record timed { turn = turn })
      (Deliver (picked_by terms turn))
  deliver_now turn due = kept_delivery terms world timed lost turn (kept_as_due turn ∙ due)

  same_agent : (a b : ℕ) → (a == b) ≡ true → a ≡ b
  same_agent a b e = elim (eqb_tells a b) [ inl h ↦ h.1 | inr h ↦ absurd (false≢true (sym h.0 ∙ e)) ]

  -- a Deliver of the agent that the turn delivers
  own_delivery : (agent turn : ℕ) → late_in terms dues (Deliver agent) turn ≡ None →
      IsNow world (held_by terms) (schedule_by terms) lost (record timed { turn = turn }) (Deliver agent)
  own_delivery agent turn none =
      let who = by (Due terms dues turn) refl (in_time (is_agent (delivered_by terms dues turn) agent) none) in
      subst (λ (some : ℕ). IsNow world (held_by terms) (schedule_by terms) lost (record timed { turn = turn })
      (Deliver some)) (sym who.1) (deliver_now turn who.0)
    where
      in_time : (b : Bool) → (if b then None else Some Late) ≡ None → b ≡ true
      in_time true e = refl
      in_time false e = absurd (no e)
        where
          no : Some Late ≡ None → ⊥
          no e = cc

      by : (b : Bool) → Due terms dues turn ≡ b →
          is_agent (if b then Some (picked_by terms turn) else None) agent ≡ true →
          (Due terms dues turn ≡ true) × (agent ≡ picked_by terms turn)
      by true same e = (same, same_agent agent (picked_by terms turn) e)
      by false same e = absurd (false≢true e)

  is_next : (event : Event) (turn : ℕ) → keeps world timed.state lost event ≡ true → timed.turn ≤ turn →
      first_delivery terms dues timed.turn (turn - timed.turn) ≡ None → late_in terms dues event turn ≡ None →
      Next event turn
  is_next (Tell agent command) turn kept later none own =
      record { later = later; quiet = quiet_by turn later none; now = kept }
  is_next (Deliver agent) turn kept later none own =
      record { later = later; quiet = quiet_by turn later none; now = own_delivery agent turn own }
  is_next Close turn kept later none own =
      record { later = later; quiet = quiet_by turn later none; now = kept }

  -- a delivery that the log leaves out
  is_left_out : (event : Event) (turn agent at : ℕ) → timed.turn ≤ turn →
      first_delivery terms dues timed.turn (turn - timed.turn) ≡ Some (agent, at) →
      Judges world terms lost timed event turn (Some (LeftOut agent at))
  is_left_out event turn agent at later found =
      let first = one_found terms dues timed.turn (turn - timed.turn) agent at found in
      let before : at < turn = omega (arith, later, first.before) in (
        λ is. true≢false (sym (kept_as_due at ∙ first.due) ∙ is.quiet at first.later before),
        (
          before,
          record {
            later = first.later;
            quiet = λ other from earlier. kept_as_due other ∙ first.none_before other from earlier;
            now = subst (λ (some : ℕ). IsNow world (held_by terms) (schedule_by terms) lost
                (record timed { turn = at }) (Deliver some)) (sym first.picked) (deliver_now at first.due);
          },
        ),
      )

  -- a Deliver that its turn does not make
  is_late : (event : Event) (turn : ℕ) (why : Untimely) → late_in terms dues event turn ≡ Some why →
      Judges world terms lost timed event turn (Some why)
  is_late (Deliver agent) turn why found =
      subst (λ (some : Untimely). Judges world terms lost timed (Deliver agent) turn (Some some))
      (known (is_agent (delivered_by terms dues turn) agent) found).1 (
        λ is. not_now (known (is_agent (delivered_by terms dues turn) agent) found).0 is.now.0 is.now.1,
        (agent, refl),
      )
    where
      known : (b : Bool) → (if b then None else Some Late) ≡ Some why → (b ≡ false) × (Late ≡ why)
      known true e = absurd (no e)
        where
          no : None ≡ Some why → ⊥
          no e = cc
      known false e = (refl, same e)
        where
          same : Some Late ≡ Some why → Late ≡ why
          same e = cc

      own : Some (Deliver (picked_by terms turn)) ≡ Some (Deliver agent) → agent ≡ picked_by terms turn
      own e = cc

      by_due : Due terms dues turn ≡ true → agent ≡ picked_by terms turn →
          is_agent (delivered_by terms dues turn) agent ≡ true
      by_due due same =
          ap (λ (found : Option ℕ). is_agent found agent) (cond-true _ _ _ due)
          ∙ elim (eqb_tells agent (picked_by terms turn)) [ inl h ↦ h.0 | inr h ↦ absurd (h.1 same) ]

      not_now : is_agent (delivered_by terms dues turn) agent ≡ false →
          delivery_now (held_by terms) (schedule_by terms) (record timed { turn = turn }) ≡ Some (Deliver agent) →
          keeps world timed.state lost (Deliver agent) ≡ true → ⊥
      not_now none at kept =
          let is = ap (is_kept world timed.state lost) at ∙ kept in
          let one = kept_delivery terms world timed lost turn is in
          true≢false (sym (by_due (sym (kept_as_due turn) ∙ is) (own (sym one.0 ∙ at))) ∙ none)
  is_late (Tell agent command) turn why found = absurd (no found)
    where
      no : None ≡ Some why → ⊥
      no e = cc
  is_late Close turn why found = absurd (no found)
    where
      no : None ≡ Some why → ⊥
      no e = cc

  pub judges : (event : Event) (turn : ℕ) → keeps world timed.state lost event ≡ true → (found : Option Untimely) →
      untimely terms dues timed.turn event turn ≡ found → Judges world terms lost timed event turn found
  judges event turn kept found same =
      elim (cases_lt turn timed.turn) [
        | inl early ↦ subst (λ (some : Option Untimely). Judges world terms lost timed event turn some)
            (sym (cond-true _ _ _ (lt-true turn timed.turn early)) ∙ same)
            (λ is. absurd (omega (arith, early, is.later)), early)
        | inr later ↦ by_first (first_delivery terms dues timed.turn (turn - timed.turn)) refl
            (late_in terms dues event turn) refl later
            (sym (cond-false _ _ _ (lt-false turn timed.turn later)) ∙ same)
      ]
    where
      lt-true : (a b : ℕ) → a < b → nat_lt a b ≡ true
      lt-true a b less = search (arith, less)

      lt-false : (a b : ℕ) → b ≤ a → nat_lt a b ≡ false
      lt-false a b less = search (arith, less)

      by_first : (first : Option (ℕ × ℕ)) → first_delivery terms dues timed.turn (turn - timed.turn) ≡ first →
          (own : Option Untimely) → late_in terms dues event turn ≡ own → timed.turn ≤ turn →
          left_out (first_delivery terms dues timed.turn (turn - timed.turn)) (late_in terms dues event turn)
          ≡ found →
          Judges world terms lost timed event turn found
      by_first None none None own later e =
          subst (λ (some : Option Untimely). Judges world terms lost timed event turn some)
          (sym (ap₂ left_out none own) ∙ e) (is_next event turn kept later none own)
      by_first None none (Some why) own later e =
          subst (λ (some : Option Untimely). Judges world terms lost timed event turn some)
          (sym (ap₂ left_out none own) ∙ e) (is_late event turn why own)
      by_first (Some at) one own is_own later e =
          subst (λ (some : Option Untimely). Judges world terms lost timed event turn some)
          (sym (ap₂ left_out one is_own) ∙ e) (is_left_out event turn at.0 at.1 later one)

-- ---- event by event

-- the reason against an event, where these events stand before it
abbrev pub Reason : World → DeliveryTerms → (lost : ℕ → Bool) → TimedState → (before : List Stamped) → Stamped
    → Untimely →
    Type 0
Reason world terms lost timed before one Early = one.turn < turns_passed timed.turn before
Reason world terms lost timed before one (LeftOut agent turn) =
    (turn < one.turn)
    × Follows world (held_by terms) (schedule_by terms) lost timed
    (before ++ record { event = Deliver agent; turn = turn } ∷ [])
Reason world terms lost timed before one Late = (agent : ℕ) × (one.event ≡ Deliver agent)

-- the first event that is not the next stands at this place, where the match stood like this before
pub record IsUntimelyFrom (world : World) (terms : DeliveryTerms) (lost : ℕ → Bool) (timed : TimedState)
    (stamps : List Stamped) (place : ℕ) (why : Untimely) : Type 0 where
  pub before : Follows world (held_by terms) (schedule_by terms) lost timed (take place stamps)
  pub never : Follows world (held_by terms) (schedule_by terms) lost timed (take (suc place) stamps) → ⊥
  pub one : Stamped
  pub there : slice_get stamps place ≡ Some one
  pub reason : Reason world terms lost timed (take place stamps) one why

-- what a pass from a place on finds
abbrev pub Finds : World → DeliveryTerms → (lost : ℕ → Bool) → TimedState → List Stamped → (from : ℕ)
    → Option (ℕ × Untimely)
    → Type 0
Finds world terms lost timed stamps from None =
    Follows world (held_by terms) (schedule_by terms) lost timed stamps
Finds world terms lost timed stamps from (Some at) =
    (more : ℕ) × ((at.0 ≡ from + more) × IsUntimelyFrom world terms lost timed stamps more at.1)

module _ (world : World) (terms : DeliveryTerms) where
  finds_here : (lost : ℕ → Bool) (timed : TimedState) (one : Stamped) (others : List Stamped) (from : ℕ)
      (why : Untimely) → Judges world terms lost timed one.event one.turn (Some why) →
      Finds world terms lost timed (one ∷ others) from (Some (from, why))
  finds_here lost timed one others from why judged = (
    zero,
    (
      omega arith,
      record {
        before = tt;
        never = λ follows. judged.0 follows.0;
        one = one;
        there = refl;
        reason = reason_of why judged.1;
      },
    ),
  )
    where
      reason_of : (some : Untimely) → Hinders world terms lost timed one.event one.turn some →
          Reason world terms lost timed [] one some
      reason_of Early is = is
      reason_of (LeftOut agent turn) is = (is.0, (is.1, tt))
      reason_of Late is = is

  finds_later : (lost : ℕ → Bool) (timed : TimedState) (one : Stamped) (others : List Stamped) (from : ℕ)
      (found : Option (ℕ × Untimely)) →
      IsNext world (held_by terms) (schedule_by terms) lost timed one →
      Finds world terms (lost_after world timed.state lost one.event) (behind world timed one) others
      (from + 1) found →
      Finds world terms lost timed (one ∷ others) from found
  finds_later lost timed one others from None is finds = (is, finds)
  finds_later lost timed one others from (Some at) is finds = (
    suc finds.0,
    (
      omega (arith, finds.1.0),
      record {
        before = (is, finds.1.1.before);
        never = λ follows. finds.1.1.never follows.1;
        one = finds.1.1.one;
        there = finds.1.1.there;
        reason = reason_of at.1 finds.1.1.reason;
      },
    ),
  )
    where
      reason_of : (some : Untimely) →
          Reason world terms (lost_after world timed.state lost one.event) (behind world timed one)
          (take finds.0 others) finds.1.1.one some →
          Reason world terms lost timed (one ∷ take finds.0 others) finds.1.1.one some
      reason_of Early reason = reason
      reason_of (LeftOut agent turn) reason = (reason.0, (is, reason.1))
      reason_of Late reason = reason

  module _ (same_net : (node port : ℕ) → is_port_of terms.net (node, port) ≡ nat_lt port (world.net.degree node))
      (agents : ℕ) (few : (turn : ℕ) → picked_by terms turn < agents) where
    open_now : (state : State) (lost : ℕ → Bool) (event : Event) → keeps world state lost event ≡ true →
        state.closed ≡ false
    open_now state lost (Tell agent command) kept =
        open_told state.closed (nat_lt agent world.agents) (hears world.quota (state.past agent) command) kept
      where
        open_told : (closed below hears_it : Bool) → (below && (not closed && hears_it)) ≡ true → closed ≡ false
        open_told closed below hears_it e =
            not_true closed (and_parts (not closed) hears_it (and_parts below (not closed && hears_it) e).1).0
          where
            not_true : (b : Bool) → not b ≡ true → b ≡ false
            not_true true e = absurd (false≢true e)
            not_true false e = refl
    open_now state lost (Deliver agent) kept = kept_open world state lost agent kept
    open_now state lost Close kept = not_true state.closed kept
      where
        not_true : (b : Bool) → not b ≡ true → b ≡ false
        not_true true e = absurd (false≢true e)
        not_true false e = refl

    pub finds_from : (timed : TimedState) (before : List Event) (lost : ℕ → Bool) (dues : List (Option ℕ))
        (now place : ℕ)
        (log : List Kept) (turns : List ℕ) → timed.state ≡ run world before → IsStamped timed →
        kept_from world timed.state lost (events_of log) ≡ events_of log → AreDue terms lost timed dues →
        AllGone world lost timed.state → length dues ≡ agents → timed.turn ≡ now → length turns ≡ length log →
        Finds world terms lost timed (stamps_in log turns) place
        (untimely_from terms dues now place log (sites_from world timed.state (events_of log)) turns)
    finds_from timed before lost dues now place [] turns same stamped all are gone count is_now long = tt
    finds_from timed before lost dues now place (one ∷ log) [] same stamped all are gone count is_now long =
        absurd (omega (arith, long))
    finds_from timed before lost dues now place (one ∷ log) (turn ∷ turns) same stamped all are gone count is_now long =
        let legal = subst (λ (state : State). AllLegal world state) (sym same) (all_run world before) in
        let is_kept = first_kept world timed.state lost one.event (events_of log) all in
        let stamp : Stamped = record { event = one.event; turn = turn } in
        let there = behind world timed stamp in
        let after : there.state ≡ next world timed.state one.event =
        happened_state world (record timed { turn = turn }) one.event in
        let here : IsStamped (record timed { turn = turn }) =
        record { pasts = stamped.pasts; writes = stamped.writes } in
        let then_stamped = happened_stamped world (record timed { turn = turn }) one.event here in
        let goes = goes_on terms world same_net timed lost dues stamped legal are gone turn one.event is_kept.first in
        by_found (untimely terms dues now one.event turn)
        (judges terms world timed lost dues are gone
        (λ at. subst (λ (n : ℕ). picked_by terms at < n) (sym count) (few at))
        (open_now timed.state lost one.event is_kept.first) one.event turn is_kept.first
        (untimely terms dues now one.event turn)
        (ap (λ (from : ℕ). untimely terms dues from one.event turn) is_now))
        (subst (λ (state : State). Finds world terms (lost_after world timed.state lost one.event) there
        (stamps_in log turns) (place + 1)
        (untimely_from terms (dues_after terms dues one.event (site world timed.state one.event) turn)
        (turn_behind one.event turn) (place + 1) log (sites_from world state (events_of log)) turns)) after
        (finds_from there (before ++ one.event ∷ []) (lost_after world timed.state lost one.event)
        (dues_after terms dues one.event (site world timed.state one.event) turn) (turn_behind one.event turn)
        (place + 1) log turns
        (after ∙ ap (λ (state : State). next world state one.event) same
        ∙ sym (run-append world initial before (one.event ∷ [])))
        (record { pasts = then_stamped.pasts; writes = then_stamped.writes })
        (subst (λ (state : State). kept_from world state (lost_after world timed.state lost one.event) (events_of log)
        ≡ events_of log) (sym after) is_kept.others)
        goes.are_due goes.all_gone
        (length_dues terms dues one.event (site world timed.state one.event) turn ∙ count) refl (omega (arith, long))))
      where
        by_found : (found : Option Untimely) → Judges world terms lost timed one.event turn found →
            Finds world terms (lost_after world timed.state lost one.event)
            (behind world timed (record { event = one.event; turn = turn })) (stamps_in log turns) (place + 1)
            (untimely_from terms (dues_after terms dues one.event (site world timed.state one.event) turn)
            (turn_behind one.event turn) (place + 1) log
            (sites_from world (next world timed.state one.event) (events_of log)) turns) →
            Finds world terms lost timed (record { event = one.event; turn = turn } ∷ stamps_in log turns) place
            (at_or_later place found
            (untimely_from terms (dues_after terms dues one.event (site world timed.state one.event) turn)
            (turn_behind one.event turn) (place + 1) log
            (sites_from world (next world timed.state one.event) (events_of log)) turns))
        by_found None judged rest =
            finds_later lost timed (record { event = one.event; turn = turn }) (stamps_in log turns) place _ judged rest
        by_found (Some why) judged rest =
            finds_here lost timed (record { event = one.event; turn = turn }) (stamps_in log turns) place why judged

-- ---- a whole log

none_due : (terms : DeliveryTerms) (agents : ℕ) → AreDue terms nobody timed_initial (replicate agents None)
none_due terms zero agent within = absurd (omega (arith, within))
none_due terms (suc agents) zero within = refl
none_due terms (suc agents) (suc agent) within = none_due terms agents agent (omega (arith, within))

pub found_lemma : (terms : DeliveryTerms) (play : Play) (turns : List ℕ) → terms.net ≡ play.net →
    terms.agents ≡ play.setup.agents → kept (world_in play) (events_of play.log) ≡ events_of play.log →
    length turns ≡ length play.log → 0 < play.setup.agents →
    MatchOption (untimely_in terms play turns)
    (IsTimedLog (world_in play) (held_by terms) (schedule_by terms) (stamps_in play.log turns))
    (λ at. IsUntimelyAt (world_in play) (held_by terms) (schedule_by terms) (stamps_in play.log turns) at.0 at.1)
found_lemma terms play turns same_net same_agents all long some =
    go (untimely_in terms play turns)
    (finds_from (world_in play) terms
    (λ node port. ap (λ (net : Network). nat_lt port (degree_of net node)) same_net) play.setup.agents
    (λ turn. subst (λ (n : ℕ). picked_by terms turn < n) same_agents
    (mod-lt ((words_by terms.dealer).picks turn) (subst (λ (n : ℕ). 0 < n) (sym same_agents) some)))
    timed_initial [] nobody (replicate play.setup.agents None) 0 0 play.log turns refl initial_stamped all
    (none_due terms play.setup.agents) (λ agent is_lost. absurd (false≢true is_lost))
    (length-replicate play.setup.agents None) refl long)
  where
    stamps : List Stamped
    stamps = stamps_in play.log turns

    reason_of : (why : Untimely) (before : List Stamped) (one : Stamped) →
        Reason (world_in play) terms nobody timed_initial before one why →
        IsReason why (world_in play) (held_by terms) (schedule_by terms) before one
    reason_of Early before one reason = reason
    reason_of (LeftOut agent turn) before one reason =
        (reason.0, timed_by_steps (world_in play) (held_by terms) (schedule_by terms) _ reason.1)
    reason_of Late before one reason = reason

    go : (found : Option (ℕ × Untimely)) → Finds (world_in play) terms nobody timed_initial stamps 0 found →
        MatchOption found (IsTimedLog (world_in play) (held_by terms) (schedule_by terms) stamps)
        (λ at. IsUntimelyAt (world_in play) (held_by terms) (schedule_by terms) stamps at.0 at.1)
    go None finds = timed_by_steps (world_in play) (held_by terms) (schedule_by terms) stamps finds
    go (Some at) finds =
        let same : finds.0 ≡ at.0 = omega (arith, finds.1.0) in
        subst (λ (place : ℕ). IsUntimelyAt (world_in play) (held_by terms) (schedule_by terms) stamps place at.1) same
        (record {
          before = timed_by_steps (world_in play) (held_by terms) (schedule_by terms) _ finds.1.1.before;
          never = λ is. finds.1.1.never
              (steps_of_timed (world_in play) (held_by terms) (schedule_by terms) _ is);
          one = finds.1.1.one;
          there = finds.1.1.there;
          reason = reason_of at.1 (take finds.0 stamps) finds.1.1.one finds.1.1.reason;
        })
