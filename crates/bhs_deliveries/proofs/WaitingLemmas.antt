-- The due times of a match's agents, and the turns that deliver them.
use Rattle.std.proofs.Common.{ℕ, ◌≡◌, ◌<◌, ◌+◌, Bool, true, false, not, ◌&&◌, ◌||◌, Option, Some, None}
use Rattle.std.proofs.Common.{List, length, nat_lt, nat_le, refl, sym, ap, ap₂, ◌∙◌, subst, inl, inr, if◌then◌else◌}
use Rattle.std.proofs.Common.{slice_set, ◌⊎◌}
use Rattle.std.proofs.lemmas.Bool.{cond-true, cond-false, cond_both, and_parts, true≢false, false≢true}
use Rattle.std.proofs.lemmas.Bool.Decides.{eqb_tells}
use Rattle.std.proofs.lemmas.List.{length-set, get_or-set_same, get_or-set_other}
use Rattle.bhs_model.specs.declared.commands.Command.{Command}
use Rattle.bhs_model.specs.declared.commands.Command.TheVariants.{Enter, Look, Write, Depart, Accuse, Leave, Bad}
use Rattle.bhs_model.specs.declared.events.Event.{Event}
use Rattle.bhs_model.specs.declared.events.Event.TheVariants.{Tell, Deliver, Close}
use Rattle.bhs_model.specs.Views.{Standing, standing, used}
use Rattle.bhs_model.specs.Worlds.{World, doomed}
use Rattle.bhs_model.specs.Replying.{accepts}
use Rattle.bhs_model.specs.Standings.{standing_at}
use Rattle.bhs_model.specs.Runs.{Position, Before, At, Bound, After, State, position_after, heard, is_bound, is_doomed}
use Rattle.bhs_model.specs.Runs.{is_let_through, changed, arrives}
use Rattle.bhs_model.specs.Draws.{Held, is_held}
use Rattle.bhs_model.specs.Kept.{keeps, lost_after}
use Rattle.bhs_model.specs.Sites.{node_said, site}
use Rattle.bhs_model.proofs.LegalLemmas.{AllLegal}
use Rattle.bhs_time.specs.TimedViews.{TimedView, ToldAt, TimedGlance, bare, is_away, departed_at}
use Rattle.bhs_time.specs.Schedules.{Schedule}
use Rattle.bhs_time.specs.TimedRuns.{TimedState, delivery_if, delivery_now, glance_then, told_then, arrived_then}
use Rattle.bhs_time.proofs.StampLemmas.{IsStamped}
use Rattle.bhs_time.proofs.TimelyLemmas.{away_by_past}
use Rattle.bhs_time.proofs.TimedLogLemmas.{is_kept, behind}
use Rattle.bhs_deliveries.specs.Links.{held_in, is_port_of}
use Rattle.bhs_deliveries.specs.Scheduling.{whole_schedule}
use Rattle.bhs_deliveries.specs.Timeliness.{DeliveryTerms, due_after, due_of, is_due, picked_by, due_on, dues_after}

-- the links that a terms holds, and its schedule
abbrev pub held_by : DeliveryTerms → Held
held_by terms = held_in terms.held

abbrev pub schedule_by : DeliveryTerms → Schedule
schedule_by terms = whole_schedule terms.dealer terms.agents terms.law

-- the due of an agent at this position, which departed after this many turns
abbrev pub due_at : DeliveryTerms → (is_lost : Bool) → (agent departed : ℕ) → Position → Option ℕ
due_at terms is_lost agent departed (Bound node port) =
    if is_lost then None else due_on terms node port agent departed
due_at terms is_lost agent departed position = None

-- The due times agree with the match.
abbrev pub AreDue : DeliveryTerms → (lost : ℕ → Bool) → TimedState → List (Option ℕ) → Type 0
AreDue terms lost timed dues = (agent : ℕ) → agent < length dues →
    due_of dues agent ≡ due_at terms (lost agent) agent (departed_at (timed.pasts agent)) (timed.state.position agent)

-- Whether an agent at this position can be lost: on a destroying link, or after ending on such a link.
abbrev pub may_be_lost : World → Position → Bool
may_be_lost world (Bound node port) = doomed world node port
may_be_lost world After = true
may_be_lost world position = false

abbrev pub AllGone : World → (lost : ℕ → Bool) → State → Type 0
AllGone world lost state = (agent : ℕ) → lost agent ≡ true → may_be_lost world (state.position agent) ≡ true

-- ---- whom a turn delivers

module _ (terms : DeliveryTerms) (world : World) (timed : TimedState) (lost : ℕ → Bool)
    (unclosed : timed.state.closed ≡ false)
  where
    -- whether the match keeps a Deliver of an agent on a link, by what destroys
    kept_by : (strikes is_lost : Bool) → (is_lost ≡ true → strikes ≡ true) →
        ((not false && not strikes) || ((not false && strikes) && not is_lost)) ≡ not is_lost
    kept_by true true e = refl
    kept_by true false e = refl
    kept_by false true e = absurd (false≢true (e refl))
    kept_by false false e = refl

    -- the delivery of an agent at this position, by whether it is ready and its link held
    abbrev Delivery : (who : ℕ) → (is_ready : Bool) → Option Event
    Delivery who is_ready = delivery_if (held_by terms) timed.state who is_ready

    abbrev IsKept : Option Event → Bool
    IsKept event = is_kept world timed.state lost event

    unready : (who : ℕ) (is_ready : Bool) (position : Position) → timed.state.position who ≡ position →
        is_bound position ≡ false → IsKept (Delivery who is_ready) ≡ false
    unready who false position at unbound = refl
    unready who true position at unbound =
        cond_both (is_held (held_by terms) (timed.state.position who)) None (Some (Deliver who))
        (λ (event : Option Event). IsKept event ≡ false) (λ still. refl)
        (λ free. none_kept timed.state.closed (lost who) (timed.state.position who)
        (ap is_bound at ∙ unbound))
      where
        none_kept : (closed is_lost : Bool) (place : Position) → is_bound place ≡ false →
            ((not closed && is_let_through world place) || ((not closed && is_doomed world place) && not is_lost))
            ≡ false
        none_kept closed is_lost (Bound node port) e = absurd (true≢false e)
        none_kept true is_lost Before e = refl
        none_kept false is_lost Before e = refl
        none_kept true is_lost (At node came) e = refl
        none_kept false is_lost (At node came) e = refl
        none_kept true is_lost After e = refl
        none_kept false is_lost After e = refl

    on_link : (who node port : ℕ) (turn : ℕ) → timed.state.position who ≡ Bound node port →
        (lost who ≡ true → doomed world node port ≡ true) →
        IsKept (Delivery who (nat_le (due_after terms who (departed_at (timed.pasts who))) turn))
        ≡ is_due (due_at terms (lost who) who (departed_at (timed.pasts who)) (Bound node port)) turn
    on_link who node port turn at gone = go (nat_le (due_after terms who (departed_at (timed.pasts who))) turn) refl
      where
        destroyed : (due : Option ℕ) → is_due (if lost who then None else due) turn
            ≡ (if lost who then false else is_due due turn)
        destroyed due = cond_both (lost who) None due
            (λ (some : Option ℕ). is_due some turn ≡ (if lost who then false else is_due due turn))
            (λ yes. sym (cond-true _ _ _ yes)) (λ no. sym (cond-false _ _ _ no))

        both_false : (b : Bool) → false ≡ (if b then false else false)
        both_false true = refl
        both_false false = refl

        not_lost : (b : Bool) → not b ≡ (if b then false else true)
        not_lost true = refl
        not_lost false = refl

        by_due : (is_ready : Bool) → nat_le (due_after terms who (departed_at (timed.pasts who))) turn ≡ is_ready →
            is_due (due_on terms node port who (departed_at (timed.pasts who))) turn
            ≡ (if held_in terms.held node port then false else is_ready)
        by_due is_ready same = cond_both (held_in terms.held node port) None
            (Some (due_after terms who (departed_at (timed.pasts who))))
            (λ (due : Option ℕ). is_due due turn ≡ (if held_in terms.held node port then false else is_ready))
            (λ still. sym (cond-true _ _ _ still)) (λ free. same ∙ sym (cond-false _ _ _ free))

        keeps_it : keeps world timed.state lost (Deliver who) ≡ not (lost who)
        keeps_it =
            ap₂ (λ (closed : Bool) (place : Position). (not closed && is_let_through world place)
            || ((not closed && is_doomed world place) && not (lost who))) unclosed at
            ∙ kept_by (doomed world node port) (lost who) gone

        ready_kept : IsKept (Delivery who true) ≡ (if held_in terms.held node port then false else not (lost who))
        ready_kept = cond_both (is_held (held_by terms) (timed.state.position who)) None (Some (Deliver who))
            (λ (event : Option Event). IsKept event ≡ (if held_in terms.held node port then false else not (lost who)))
            (λ still. sym (cond-true _ _ _ (sym (ap (is_held (held_by terms)) at) ∙ still)))
            (λ free. keeps_it ∙ sym (cond-false _ _ _ (sym (ap (is_held (held_by terms)) at) ∙ free)))

        swap : (still is_lost : Bool) → (if still then false else not is_lost)
            ≡ (if is_lost then false else (if still then false else true))
        swap true true = refl
        swap true false = refl
        swap false true = refl
        swap false false = refl

        never : (still is_lost : Bool) → false ≡ (if is_lost then false else (if still then false else false))
        never true true = refl
        never true false = refl
        never false true = refl
        never false false = refl

        go : (is_ready : Bool) → nat_le (due_after terms who (departed_at (timed.pasts who))) turn ≡ is_ready →
            IsKept (Delivery who (nat_le (due_after terms who (departed_at (timed.pasts who))) turn))
            ≡ is_due (due_at terms (lost who) who (departed_at (timed.pasts who)) (Bound node port)) turn
        go is_ready same =
            ap (λ (is : Bool). IsKept (Delivery who is)) same ∙ by_ready is_ready
            ∙ ap (λ (own : Bool). if lost who then false else own) (sym (by_due is_ready same))
            ∙ sym (destroyed (due_on terms node port who (departed_at (timed.pasts who))))
          where
            by_ready : (is : Bool) → IsKept (Delivery who is)
                ≡ (if lost who then false else (if held_in terms.held node port then false else is))
            by_ready true = ready_kept ∙ swap (held_in terms.held node port) (lost who)
            by_ready false = never (held_in terms.held node port) (lost who)

    at_position : (who turn : ℕ) (position : Position) → timed.state.position who ≡ position →
        (lost who ≡ true → may_be_lost world position ≡ true) →
        IsKept (Delivery who (nat_le (due_after terms who (departed_at (timed.pasts who))) turn))
        ≡ is_due (due_at terms (lost who) who (departed_at (timed.pasts who)) position) turn
    at_position who turn (Bound node port) at gone = on_link who node port turn at gone
    at_position who turn Before at gone = unready who _ Before at refl
    at_position who turn (At node came) at gone = unready who _ (At node came) at refl
    at_position who turn After at gone = unready who _ After at refl

    -- a turn makes a delivery that is kept exactly if the agent that it picks is due
    pub kept_if_due : (dues : List (Option ℕ)) (turn : ℕ) → AreDue terms lost timed dues →
        AllGone world lost timed.state → picked_by terms turn < length dues →
        is_kept world timed.state lost
        (delivery_now (held_by terms) (schedule_by terms) (record timed { turn = turn }))
        ≡ is_due (due_of dues (picked_by terms turn)) turn
    kept_if_due dues turn are gone within =
        let who = picked_by terms turn in
        ap (λ (event : Option Event). IsKept event) (cond-false _ _ _ unclosed)
        ∙ at_position who turn (timed.state.position who) refl (gone who)
        ∙ ap (λ (due : Option ℕ). is_due due turn) (sym (are who within))

-- The delivery belongs to this agent.
pub kept_delivery : (terms : DeliveryTerms) (world : World) (timed : TimedState) (lost : ℕ → Bool) (turn : ℕ) →
    is_kept world timed.state lost (delivery_now (held_by terms) (schedule_by terms) (record timed { turn = turn }))
    ≡ true →
    (delivery_now (held_by terms) (schedule_by terms) (record timed { turn = turn })
    ≡ Some (Deliver (picked_by terms turn)))
    × (keeps world timed.state lost (Deliver (picked_by terms turn)) ≡ true)
kept_delivery terms world timed lost turn kept =
    elim (either timed.state.closed
    ((schedule_by terms).ready (picked_by terms turn) (departed_at (timed.pasts (picked_by terms turn))) turn)) [
      | inl none ↦ absurd (false≢true (sym (ap (is_kept world timed.state lost) none) ∙ kept))
      | inr one ↦ (one, sym (ap (is_kept world timed.state lost) one) ∙ kept)
    ]
  where
    either : (closed is_ready : Bool) →
        ((if closed then None else delivery_if (held_by terms) timed.state (picked_by terms turn) is_ready) ≡ None)
        ⊎ ((if closed then None else delivery_if (held_by terms) timed.state (picked_by terms turn) is_ready)
        ≡ Some (Deliver (picked_by terms turn)))
    either true is_ready = inl refl
    either false false = inl refl
    either false true =
        cond_both (is_held (held_by terms) (timed.state.position (picked_by terms turn))) None
        (Some (Deliver (picked_by terms turn)))
        (λ (event : Option Event). (event ≡ None) ⊎ (event ≡ Some (Deliver (picked_by terms turn))))
        (λ yes. inl refl) (λ no. inr refl)

-- ---- the dues after an event

pub length_dues : (terms : DeliveryTerms) (dues : List (Option ℕ)) (event : Event) (where_said : Option ℕ) (turn : ℕ) →
    length (dues_after terms dues event where_said turn) ≡ length dues
length_dues terms dues (Tell agent (Depart port)) (Some node) turn =
    cond_both (is_port_of terms.net (node, port)) (slice_set dues agent (due_on terms node port agent turn)) dues
    (λ (after : List (Option ℕ)). length after ≡ length dues) (λ yes. length-set dues agent _) (λ no. refl)
length_dues terms dues (Tell agent (Depart port)) None turn = refl
length_dues terms dues (Tell agent Leave) where_said turn = length-set dues agent None
length_dues terms dues (Tell agent Enter) where_said turn = refl
length_dues terms dues (Tell agent Look) where_said turn = refl
length_dues terms dues (Tell agent (Write expect put)) where_said turn = refl
length_dues terms dues (Tell agent (Accuse port)) where_said turn = refl
length_dues terms dues (Tell agent Bad) where_said turn = refl
length_dues terms dues (Deliver agent) where_said turn = length-set dues agent None
length_dues terms dues Close where_said turn = refl

told_other : (terms : DeliveryTerms) (dues : List (Option ℕ)) (agent other : ℕ) (command : Command)
    (where_said : Option ℕ)
    (turn : ℕ) → (other ≡ agent → ⊥) →
    due_of (dues_after terms dues (Tell agent command) where_said turn) other ≡ due_of dues other
told_other terms dues agent other (Depart port) (Some node) turn apart =
    cond_both (is_port_of terms.net (node, port)) (slice_set dues agent (due_on terms node port agent turn)) dues
    (λ (after : List (Option ℕ)). due_of after other ≡ due_of dues other)
    (λ yes. get_or-set_other dues agent other _ None apart) (λ no. refl)
told_other terms dues agent other (Depart port) None turn apart = refl
told_other terms dues agent other Leave where_said turn apart = get_or-set_other dues agent other None None apart
told_other terms dues agent other Enter where_said turn apart = refl
told_other terms dues agent other Look where_said turn apart = refl
told_other terms dues agent other (Write expect put) where_said turn apart = refl
told_other terms dues agent other (Accuse port) where_said turn apart = refl
told_other terms dues agent other Bad where_said turn apart = refl

module _ (terms : DeliveryTerms) (world : World) (same_net : (node port : ℕ) → is_port_of terms.net (node, port)
    ≡ nat_lt port (world.net.degree node)) (dues : List (Option ℕ)) (agent turn : ℕ) (within : agent < length dues)
    (past : TimedView) (glance : TimedGlance) (is_lost : Bool) (room : Bool) where
  -- the correctness of the due time of an agent at this position
  abbrev IsDue : Position → Type 0
  IsDue position = due_of dues agent ≡ due_at terms is_lost agent (departed_at past) position

  abbrev BecomesDue : Position → Command → Type 0
  BecomesDue position command =
      due_of (dues_after terms dues (Tell agent command) (node_said world position command) turn) agent
      ≡ due_at terms is_lost agent (departed_at (ToldAt past turn command glance))
      (position_after world position command)

  departs : (node port : ℕ) (came : Option ℕ) → is_lost ≡ false → departed_at (ToldAt past turn (Depart port) glance)
      ≡ turn → IsDue (At node came) → BecomesDue (At node came) (Depart port)
  departs node port came unlost now known =
      ap (λ (b : Bool). due_of (if b then slice_set dues agent (due_on terms node port agent turn) else dues) agent)
      (same_net node port)
      ∙ by_port (nat_lt port (world.net.degree node))
    where
      left : due_on terms node port agent turn
          ≡ due_at terms is_lost agent (departed_at (ToldAt past turn (Depart port) glance)) (Bound node port)
      left = ap (due_on terms node port agent) (sym now) ∙ sym (cond-false _ _ _ unlost)

      by_port : (b : Bool) →
          due_of (if b then slice_set dues agent (due_on terms node port agent turn) else dues) agent
          ≡ due_at terms is_lost agent (departed_at (ToldAt past turn (Depart port) glance))
          (if b then Bound node port else At node came)
      by_port true = get_or-set_same dues agent _ None within ∙ left
      by_port false = known

  -- an agent that stays on its link
  stays : (node port : ℕ) (command : Command) → is_away (standing (bare past)) ≡ true → IsDue (Bound node port) →
      due_of dues agent
      ≡ due_at terms is_lost agent (departed_at (ToldAt past turn command glance)) (Bound node port)
  stays node port command away known =
      known ∙ ap (λ (departed : ℕ). due_at terms is_lost agent departed (Bound node port)) (sym (cond-true _ _ _ away))

  accuses : (node port : ℕ) (came : Option ℕ) → IsDue (At node came) → BecomesDue (At node came) (Accuse port)
  accuses node port came known =
      cond_both (nat_lt port (world.net.degree node)) After (At node came)
      (λ (there : Position). due_of dues agent
      ≡ due_at terms is_lost agent (departed_at (ToldAt past turn (Accuse port) glance)) there)
      (λ yes. known) (λ no. known)

  told_own : (position : Position) (command : Command) → is_away (standing (bare past)) ≡ is_bound position →
      accepts (standing_at position) room command ≡ true → (is_lost ≡ true → may_be_lost world position ≡ true) →
      IsDue position → BecomesDue position command
  told_own (At node came) (Depart port) away hears_it gone known =
      departs node port came (unlost is_lost gone) (cond-false _ _ _ away) known
    where
      unlost : (b : Bool) → (b ≡ true → false ≡ true) → b ≡ false
      unlost true e = absurd (false≢true (e refl))
      unlost false e = refl
  told_own (At node came) Leave away hears_it gone known = get_or-set_same dues agent None None within
  told_own (At node came) (Accuse port) away hears_it gone known = accuses node port came known
  told_own (At node came) Enter away hears_it gone known = known
  told_own (At node came) Look away hears_it gone known = known
  told_own (At node came) (Write expect put) away hears_it gone known = known
  told_own (At node came) Bad away hears_it gone known = known
  told_own (Bound node port) Enter away hears_it gone known = absurd (false≢true hears_it)
  told_own (Bound node port) Leave away hears_it gone known = get_or-set_same dues agent None None within
  told_own (Bound node port) Look away hears_it gone known = stays node port Look away known
  told_own (Bound node port) (Write expect put) away hears_it gone known = stays node port (Write expect put) away known
  told_own (Bound node port) (Depart other) away hears_it gone known = stays node port (Depart other) away known
  told_own (Bound node port) (Accuse other) away hears_it gone known = stays node port (Accuse other) away known
  told_own (Bound node port) Bad away hears_it gone known = stays node port Bad away known
  told_own Before Enter away hears_it gone known = known
  told_own Before Leave away hears_it gone known = absurd (false≢true hears_it)
  told_own Before Look away hears_it gone known = absurd (false≢true hears_it)
  told_own Before (Write expect put) away hears_it gone known = absurd (false≢true hears_it)
  told_own Before (Depart port) away hears_it gone known = absurd (false≢true hears_it)
  told_own Before (Accuse port) away hears_it gone known = absurd (false≢true hears_it)
  told_own Before Bad away hears_it gone known = absurd (false≢true hears_it)
  told_own After command away hears_it gone known = absurd (false≢true hears_it)

-- A lost agent stays on its link, or ends there.
gone_own : (world : World) (position : Position) (room : Bool) (command : Command) →
    accepts (standing_at position) room command ≡ true → may_be_lost world position ≡ true →
    may_be_lost world (position_after world position command) ≡ true
gone_own world (Bound node port) room Enter hears_it gone = absurd (false≢true hears_it)
gone_own world (Bound node port) room Leave hears_it gone = refl
gone_own world (Bound node port) room Look hears_it gone = gone
gone_own world (Bound node port) room (Write expect put) hears_it gone = gone
gone_own world (Bound node port) room (Depart other) hears_it gone = gone
gone_own world (Bound node port) room (Accuse other) hears_it gone = gone
gone_own world (Bound node port) room Bad hears_it gone = gone
gone_own world Before room command hears_it gone = absurd (false≢true gone)
gone_own world (At node came) room command hears_it gone = absurd (false≢true gone)
gone_own world After room command hears_it gone = absurd (false≢true hears_it)

module _ (terms : DeliveryTerms) (world : World) (same_net : (node port : ℕ) → is_port_of terms.net (node, port)
    ≡ nat_lt port (world.net.degree node)) (timed : TimedState) (lost : ℕ → Bool) (dues : List (Option ℕ))
    (stamped : IsStamped timed) (legal : AllLegal world timed.state) (are : AreDue terms lost timed dues)
    (gone : AllGone world lost timed.state) (turn : ℕ) where
  abbrev now : TimedState
  now = record timed { turn = turn }

  accepted : (agent : ℕ) (command : Command) → heard world timed.state agent command ≡ true →
      accepts (standing_at (timed.state.position agent)) (nat_lt (used (timed.state.past agent)) world.quota) command
      ≡ true
  accepted agent command is_heard =
      subst (λ (stands : Standing). accepts stands (nat_lt (used (timed.state.past agent)) world.quota) command ≡ true)
      (legal agent).standing (and_parts _ _ (and_parts _ _ is_heard).1).1

  told_due : (agent : ℕ) (command : Command) → heard world timed.state agent command ≡ true →
      AreDue terms lost (told_then world now agent command)
      (dues_after terms dues (Tell agent command) (node_said world (timed.state.position agent) command) turn)
  told_due agent command is_heard other within =
      let inside : other < length dues =
      subst (λ (n : ℕ). other < n) (length_dues terms dues (Tell agent command)
      (node_said world (timed.state.position agent) command) turn) within in
      elim (eqb_tells other agent) [
        | inl h ↦ rw h.0 (subst (λ (who : ℕ). due_of (dues_after terms dues (Tell agent command)
            (node_said world (timed.state.position agent) command) turn) who
            ≡ due_at terms (lost who) who (departed_at (ToldAt (timed.pasts agent) turn command
            (glance_then world now (timed.state.position agent) command)))
            (position_after world (timed.state.position agent) command)) (sym h.1)
            (told_own terms world same_net dues agent turn
            (subst (λ (who : ℕ). who < length dues) h.1 inside) (timed.pasts agent)
            (glance_then world now (timed.state.position agent) command) (lost agent)
            (nat_lt (used (timed.state.past agent)) world.quota) (timed.state.position agent) command
            (away_by_past world timed agent stamped legal) (accepted agent command is_heard) (gone agent)
            (are agent (subst (λ (who : ℕ). who < length dues) h.1 inside))))
        | inr h ↦ rw h.0 (told_other terms dues agent other command
            (node_said world (timed.state.position agent) command) turn h.1 ∙ are other inside)
      ]

  told_gone : (agent : ℕ) (command : Command) → heard world timed.state agent command ≡ true →
      AllGone world lost (told_then world now agent command).state
  told_gone agent command is_heard other is_lost = elim (eqb_tells other agent) [
    | inl h ↦ rw h.0 (gone_own world (timed.state.position agent) (nat_lt (used (timed.state.past agent)) world.quota)
        command (accepted agent command is_heard) (gone agent (subst (λ (who : ℕ). lost who ≡ true) h.1 is_lost)))
    | inr h ↦ rw h.0 (gone other is_lost)
  ]

  -- a Deliver
  abbrev Marks : (agent : ℕ) → Bool → ℕ → Bool
  Marks agent struck = if struck then changed lost agent true else lost

  marks_other : (agent other : ℕ) (struck : Bool) → (other ≡ agent → ⊥) → Marks agent struck other ≡ lost other
  marks_other agent other true apart = elim (eqb_tells other agent) [ inl h ↦ absurd (apart h.1) | inr h ↦ rw h.0 refl ]
  marks_other agent other false apart = refl

  marks_own : (agent : ℕ) → changed lost agent true agent ≡ true
  marks_own agent = elim (eqb_tells agent agent) [ inl h ↦ rw h.0 refl | inr h ↦ absurd (h.1 refl) ]

  -- an agent that was delivered has no due
  no_due : (agent : ℕ) → agent < length dues → due_of (slice_set dues agent None) agent ≡ None
  no_due agent within = get_or-set_same dues agent None None within

  rest_due : (agent other : ℕ) (struck : Bool) → other < length dues → (other ≡ agent → ⊥) →
      due_of (slice_set dues agent None) other
      ≡ due_at terms (Marks agent struck other) other (departed_at (timed.pasts other)) (timed.state.position other)
  rest_due agent other struck inside apart =
      get_or-set_other dues agent other None None apart ∙ are other inside
      ∙ ap (λ (is_lost : Bool). due_at terms is_lost other (departed_at (timed.pasts other))
      (timed.state.position other)) (sym (marks_other agent other struck apart))

  -- nobody has a due at a node, or that is lost
  none_lost : (agent departed : ℕ) (position : Position) → due_at terms true agent departed position ≡ None
  none_lost agent departed (Bound node port) = refl
  none_lost agent departed Before = refl
  none_lost agent departed (At node came) = refl
  none_lost agent departed After = refl

  come_due : (agent : ℕ) (struck : Bool) (position : Position) → is_let_through world position ≡ true →
      AreDue terms (Marks agent struck) (arrived_then world now agent position) (slice_set dues agent None)
  come_due agent struck (Bound node port) through other within =
      let inside : other < length dues = subst (λ (n : ℕ). other < n) (length-set dues agent None) within in
      elim (eqb_tells other agent) [
        | inl h ↦ rw h.0 (subst (λ (who : ℕ). due_of (slice_set dues agent None) who ≡ None) (sym h.1)
            (no_due agent (subst (λ (who : ℕ). who < length dues) h.1 inside)))
        | inr h ↦ rw h.0 (rest_due agent other struck inside h.1)
      ]
  come_due agent struck Before through other within = absurd (false≢true through)
  come_due agent struck (At node came) through other within = absurd (false≢true through)
  come_due agent struck After through other within = absurd (false≢true through)

  lost_due : (agent : ℕ) → AreDue terms (changed lost agent true) now (slice_set dues agent None)
  lost_due agent other within =
      let inside : other < length dues = subst (λ (n : ℕ). other < n) (length-set dues agent None) within in
      elim (eqb_tells other agent) [
        | inl h ↦ subst (λ (who : ℕ). due_of (slice_set dues agent None) who
            ≡ due_at terms (changed lost agent true who) who (departed_at (timed.pasts who))
            (timed.state.position who)) (sym h.1)
            (no_due agent (subst (λ (who : ℕ). who < length dues) h.1 inside)
            ∙ sym (ap (λ (is_lost : Bool). due_at terms is_lost agent (departed_at (timed.pasts agent))
            (timed.state.position agent)) (marks_own agent)
            ∙ none_lost agent (departed_at (timed.pasts agent)) (timed.state.position agent)))
        | inr h ↦ rest_due agent other true inside h.1
      ]

  through_not_struck : (position : Position) → is_let_through world position ≡ true →
      may_be_lost world position ≡ true → ⊥
  through_not_struck (Bound node port) through struck = both (doomed world node port) through struck
    where
      both : (b : Bool) → not b ≡ true → b ≡ true → ⊥
      both true one two = false≢true one
      both false one two = false≢true two
  through_not_struck Before through struck = false≢true through
  through_not_struck (At node came) through struck = false≢true through
  through_not_struck After through struck = false≢true through

  come_gone : (agent : ℕ) (position : Position) → timed.state.position agent ≡ position →
      is_let_through world position ≡ true →
      AllGone world (Marks agent (not timed.state.closed && is_doomed world position))
      (arrived_then world now agent position).state
  come_gone agent (Bound node port) at through other is_lost = elim (eqb_tells other agent) [
    | inl h ↦ absurd (through_not_struck (Bound node port) through
        (subst (λ (place : Position). may_be_lost world place ≡ true) at
        (gone agent (subst (λ (who : ℕ). lost who ≡ true) h.1 (unmarked is_lost)))))
    | inr h ↦ rw h.0 (gone other (sym (marks_other agent other (not timed.state.closed && doomed world node port) h.1)
        ∙ is_lost))
  ]
    where
      spared : doomed world node port ≡ false
      spared = not_true (doomed world node port) through
        where
          not_true : (b : Bool) → not b ≡ true → b ≡ false
          not_true true e = absurd (false≢true e)
          not_true false e = refl

      unstruck : (closed struck : Bool) → struck ≡ false → (not closed && struck) ≡ false
      unstruck true struck e = refl
      unstruck false struck e = e

      unmarked : Marks agent (not timed.state.closed && doomed world node port) other ≡ true → lost other ≡ true
      unmarked marked =
          sym (ap (λ (struck : Bool). Marks agent struck other)
          (unstruck timed.state.closed (doomed world node port) spared)) ∙ marked
  come_gone agent Before at through other is_lost = absurd (false≢true through)
  come_gone agent (At node came) at through other is_lost = absurd (false≢true through)
  come_gone agent After at through other is_lost = absurd (false≢true through)

  struck_gone : (agent : ℕ) → is_doomed world (timed.state.position agent) ≡ true →
      AllGone world (changed lost agent true) timed.state
  struck_gone agent struck other is_lost = elim (eqb_tells other agent) [
    | inl h ↦ subst (λ (who : ℕ). may_be_lost world (timed.state.position who) ≡ true) (sym h.1)
        (doomed_may (timed.state.position agent) struck)
    | inr h ↦ gone other (sym (marks_other agent other true h.1) ∙ is_lost)
  ]
    where
      doomed_may : (position : Position) → is_doomed world position ≡ true → may_be_lost world position ≡ true
      doomed_may (Bound node port) e = e
      doomed_may Before e = absurd (false≢true e)
      doomed_may (At node came) e = absurd (false≢true e)
      doomed_may After e = absurd (false≢true e)

  -- where the delivered agent does not arrive, it is destroyed
  is_destroyed : (arrival struck fresh : Bool) → arrival ≡ false → (arrival || (struck && fresh)) ≡ true → struck ≡ true
  is_destroyed true struck fresh none e = absurd (true≢false none)
  is_destroyed false true fresh none e = refl
  is_destroyed false false fresh none e = absurd (false≢true e)

  -- the invariant after an event that is kept
  pub record Goes (event : Event) : Type 0 where
    pub are_due : AreDue terms (lost_after world timed.state lost event)
        (behind world timed (record { event = event; turn = turn }))
        (dues_after terms dues event (site world timed.state event) turn)
    pub all_gone : AllGone world (lost_after world timed.state lost event)
        (behind world timed (record { event = event; turn = turn })).state

  struck_by : (agent : ℕ) → keeps world timed.state lost (Deliver agent) ≡ true → arrives world timed.state agent
      ≡ false →
      (not timed.state.closed && is_doomed world (timed.state.position agent)) ≡ true
  struck_by agent kept none =
      is_destroyed (arrives world timed.state agent)
      (not timed.state.closed && is_doomed world (timed.state.position agent)) (not (lost agent)) none kept

  delivers : (agent : ℕ) → keeps world timed.state lost (Deliver agent) ≡ true → Goes (Deliver agent)
  delivers agent kept = record {
    are_due = cond_both (arrives world timed.state agent)
        (arrived_then world now agent (timed.state.position agent)) now
        (λ (there : TimedState). AreDue terms (lost_after world timed.state lost (Deliver agent))
        (record there { turn = turn + 1 }) (slice_set dues agent None))
        (λ yes. come_due agent (not timed.state.closed && is_doomed world (timed.state.position agent))
        (timed.state.position agent) (and_parts (not timed.state.closed) _ yes).1)
        (λ none. subst (λ (struck : Bool). AreDue terms (Marks agent struck) now (slice_set dues agent None))
        (sym (struck_by agent kept none)) (lost_due agent));
    all_gone = cond_both (arrives world timed.state agent)
        (arrived_then world now agent (timed.state.position agent)) now
        (λ (there : TimedState). AllGone world (lost_after world timed.state lost (Deliver agent)) there.state)
        (λ yes. come_gone agent (timed.state.position agent) refl (and_parts (not timed.state.closed) _ yes).1)
        (λ none. subst (λ (struck : Bool). AllGone world (Marks agent struck) timed.state)
        (sym (struck_by agent kept none))
        (struck_gone agent (and_parts (not timed.state.closed) _ (struck_by agent kept none)).1));
  }

  pub goes_on : (event : Event) → keeps world timed.state lost event ≡ true → Goes event
  goes_on (Tell agent command) kept = record {
    are_due = rw kept (told_due agent command kept);
    all_gone = rw kept (told_gone agent command kept);
  }
  goes_on (Deliver agent) kept = delivers agent kept
  goes_on Close kept = record { are_due = are; all_gone = gone }
