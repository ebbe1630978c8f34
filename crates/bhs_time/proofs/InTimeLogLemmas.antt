-- The deliveries of a timed execution are made in time.
use Rattle.std.proofs.Common.{arith, ℕ, ◌≡◌, ◌<◌, ◌≤◌, ◌+◌, Bool, true, false, not, ◌&&◌, ◌||◌, ◌==◌, Some, None}
use Rattle.std.proofs.Common.{List, [], ◌∷◌, ◌++◌, nat_lt, refl, sym, ap, ap₂, ◌∙◌, subst, inl, inr, if◌then◌else◌}
use Rattle.std.proofs.lemmas.Bool.{cond-true, cond-false, cond_both, and_parts, true≢false, false≢true, cases_lt}
use Rattle.std.proofs.lemmas.Bool.Decides.{eqb_tells}
use Rattle.bhs_model.specs.declared.commands.Command.{Command}
use Rattle.bhs_model.specs.declared.commands.Command.TheVariants.{Enter, Look, Write, Depart, Accuse, Leave, Bad}
use Rattle.bhs_model.specs.declared.events.Event.{Event}
use Rattle.bhs_model.specs.declared.events.Event.TheVariants.{Tell, Deliver, Close}
use Rattle.bhs_model.specs.Views.{Standing, standing, used}
use Rattle.bhs_model.specs.Worlds.{World}
use Rattle.bhs_model.specs.Replying.{accepts}
use Rattle.bhs_model.specs.Standings.{standing_at}
use Rattle.bhs_model.specs.Runs.{Position, Before, At, Bound, After, State, initial, position_after, heard, is_bound}
use Rattle.bhs_model.specs.Runs.{is_doomed, is_let_through, changed, arrives, next, run}
use Rattle.bhs_model.specs.Draws.{Held, is_held}
use Rattle.bhs_model.specs.Kept.{keeps, lost_after, nobody}
use Rattle.bhs_model.proofs.StepLemmas.{by_cases}
use Rattle.bhs_model.proofs.AddLemmas.{run-append}
use Rattle.bhs_model.proofs.LegalLemmas.{AllLegal, all_run}
use Rattle.bhs_time.specs.TimedViews.{TimedView, ToldAt, TimedGlance, bare, is_away, departed_at}
use Rattle.bhs_time.specs.Schedules.{Schedule, releases}
use Rattle.bhs_time.specs.TimedRuns.{TimedState, timed_initial, delivery_if, delivery_now, told_then, arrived_then}
use Rattle.bhs_time.specs.TimedRuns.{glance_then, happened}
use Rattle.bhs_time.specs.Stamps.{Stamped, happened_at, IsInTime, AreInTimeFrom}
use Rattle.bhs_time.specs.TimedLogs.{turn_behind, Ascend, IsFree, AreFreeFrom, TimedLogsAreInTime, TimedLogsAscend}
use Rattle.bhs_time.specs.TimedLogs.{TimedLogsCrossNoHeldLink}
use Rattle.bhs_time.proofs.StampLemmas.{IsStamped, initial_stamped, happened_state, happened_stamped}
use Rattle.bhs_time.proofs.TimelyLemmas.{away_by_past}
use Rattle.bhs_time.proofs.TimedLogLemmas.{is_kept, IsNow, IsNext, behind, Follows, steps_of_timed}

-- ---- the turns that deliver an agent

-- An agent can be delivered only in an open match.
open_by : (closed through struck fresh : Bool) → ((not closed && through) || ((not closed && struck) && fresh)) ≡ true →
    closed ≡ false
open_by true through struck fresh e = absurd (false≢true e)
open_by false through struck fresh e = refl

pub kept_open : (world : World) (state : State) (lost : ℕ → Bool) (agent : ℕ) →
    keeps world state lost (Deliver agent) ≡ true → state.closed ≡ false
kept_open world state lost agent kept =
    open_by state.closed (is_let_through world (state.position agent)) (is_doomed world (state.position agent))
    (not (lost agent)) kept

-- an agent that a turn releases over a link that is not held is delivered by the turn
pub delivered_now : (held : Held) (schedule : Schedule) (timed : TimedState) (agent : ℕ) →
    timed.state.closed ≡ false → is_held held (timed.state.position agent) ≡ false →
    releases schedule agent (departed_at (timed.pasts agent)) timed.turn ≡ true →
    delivery_now held schedule timed ≡ Some (Deliver agent)
delivered_now held schedule timed agent unclosed free released =
    let parts = and_parts (agent == schedule.picked timed.turn) _ released in
    let same : agent ≡ schedule.picked timed.turn = equal parts.0 in
    cond-false _ _ _ unclosed
    ∙ subst (λ (who : ℕ). delivery_if held timed.state who
    (schedule.ready who (departed_at (timed.pasts who)) timed.turn) ≡ Some (Deliver agent)) same
    (ap (delivery_if held timed.state agent) parts.1 ∙ cond-false _ _ _ free)
  where
    equal : (agent == schedule.picked timed.turn) ≡ true → agent ≡ schedule.picked timed.turn
    equal e = elim (eqb_tells agent (schedule.picked timed.turn)) [
      | inl h ↦ h.1
      | inr h ↦ absurd (false≢true (sym h.0 ∙ e))
    ]

-- An agent that a turn delivers is released by that turn, over a link that is not held.
pub now_released : (held : Held) (schedule : Schedule) (timed : TimedState) (agent : ℕ) →
    delivery_now held schedule timed ≡ Some (Deliver agent) →
    (releases schedule agent (departed_at (timed.pasts agent)) timed.turn ≡ true)
    × (is_held held (timed.state.position agent) ≡ false)
now_released held schedule timed agent at =
    by_cases timed.state.closed _
    (λ (yes : timed.state.closed ≡ true). absurd (no_event (sym (cond-true _ _ _ yes) ∙ at)))
    (λ (no : timed.state.closed ≡ false).
    by_ready (schedule.ready (schedule.picked timed.turn) (departed_at (timed.pasts (schedule.picked timed.turn)))
    timed.turn) refl (sym (cond-false _ _ _ no) ∙ at))
  where
    no_event : None ≡ Some (Deliver agent) → ⊥
    no_event e = cc

    own : (who : ℕ) → Some (Deliver who) ≡ Some (Deliver agent) → who ≡ agent
    own who e = cc

    picks : (who : ℕ) → (who == who) ≡ true
    picks who = elim (eqb_tells who who) [ inl h ↦ h.0 | inr h ↦ absurd (h.1 refl) ]

    by_ready : (is_ready : Bool) →
        schedule.ready (schedule.picked timed.turn) (departed_at (timed.pasts (schedule.picked timed.turn))) timed.turn
        ≡ is_ready →
        delivery_if held timed.state (schedule.picked timed.turn)
        (schedule.ready (schedule.picked timed.turn) (departed_at (timed.pasts (schedule.picked timed.turn)))
        timed.turn) ≡ Some (Deliver agent) →
        (releases schedule agent (departed_at (timed.pasts agent)) timed.turn ≡ true)
        × (is_held held (timed.state.position agent) ≡ false)
    by_ready false unready made =
        absurd (no_event (sym (ap (delivery_if held timed.state (schedule.picked timed.turn)) unready) ∙ made))
    by_ready true ready made =
        by_cases (is_held held (timed.state.position (schedule.picked timed.turn))) _
        (λ (still : is_held held (timed.state.position (schedule.picked timed.turn)) ≡ true).
        absurd (no_event (sym (cond-true _ _ _ still)
        ∙ sym (ap (delivery_if held timed.state (schedule.picked timed.turn)) ready) ∙ made)))
        (λ (free : is_held held (timed.state.position (schedule.picked timed.turn)) ≡ false).
        subst (λ (who : ℕ). (releases schedule who (departed_at (timed.pasts who)) timed.turn ≡ true)
        × (is_held held (timed.state.position who) ≡ false))
        (own (schedule.picked timed.turn) (sym (cond-false _ _ _ free)
        ∙ sym (ap (delivery_if held timed.state (schedule.picked timed.turn)) ready) ∙ made))
        (ap₂ (λ (one two : Bool). one && two) (picks (schedule.picked timed.turn)) ready, free))

-- ---- agents that wait

-- An agent on a link stays on it, or ends, when one of its commands is heard.
stays_bound : (world : World) (position : Position) (room : Bool) (command : Command) → is_bound position ≡ true →
    accepts (standing_at position) room command ≡ true →
    is_bound (position_after world position command) ≡ true → position_after world position command ≡ position
stays_bound world (Bound node port) room Enter bound hears_it still = absurd (false≢true hears_it)
stays_bound world (Bound node port) room Leave bound hears_it still = absurd (false≢true still)
stays_bound world (Bound node port) room Look bound hears_it still = refl
stays_bound world (Bound node port) room (Write expect put) bound hears_it still = refl
stays_bound world (Bound node port) room (Depart other) bound hears_it still = refl
stays_bound world (Bound node port) room (Accuse other) bound hears_it still = refl
stays_bound world (Bound node port) room Bad bound hears_it still = refl
stays_bound world Before room command bound hears_it still = absurd (false≢true bound)
stays_bound world (At node came) room command bound hears_it still = absurd (false≢true bound)
stays_bound world After room command bound hears_it still = absurd (false≢true bound)

-- whether the match keeps a Deliver of an agent at this position
abbrev keeps_at : World → (closed is_lost : Bool) → Position → Bool
keeps_at world closed is_lost position =
    (not closed && is_let_through world position) || ((not closed && is_doomed world position) && not is_lost)

keeps_bound : (world : World) (closed is_lost : Bool) (position : Position) →
    keeps_at world closed is_lost position ≡ true → is_bound position ≡ true
keeps_bound world closed is_lost (Bound node port) e = refl
keeps_bound world true is_lost Before e = absurd (false≢true e)
keeps_bound world false is_lost Before e = absurd (false≢true e)
keeps_bound world true is_lost (At node came) e = absurd (false≢true e)
keeps_bound world false is_lost (At node came) e = absurd (false≢true e)
keeps_bound world true is_lost After e = absurd (false≢true e)
keeps_bound world false is_lost After e = absurd (false≢true e)

module _ (world : World) (held : Held) (schedule : Schedule) where
  -- an agent that may be delivered was released by no turn since its departure
  pub record Waits (lost : Bool) (closed : Bool) (turn agent : ℕ) (past : TimedView) (position : Position)
      : Type 0 where
    pub begun : departed_at past ≤ turn
    pub waiting : keeps_at world closed lost position ≡ true → is_held held position ≡ false →
        (earlier : ℕ) → departed_at past ≤ earlier → earlier < turn →
        releases schedule agent (departed_at past) earlier ≡ false

  abbrev pub AllWait : (lost : ℕ → Bool) → TimedState → Type 0
  AllWait lost timed = (agent : ℕ) →
      Waits (lost agent) timed.state.closed timed.turn agent (timed.pasts agent) (timed.state.position agent)

  -- turns pass that deliver nobody
  wait_on : (lost : ℕ → Bool) (timed : TimedState) (one : Stamped) → AllWait lost timed →
      IsNext world held schedule lost timed one → AllWait lost (record timed { turn = one.turn })
  wait_on lost timed one all is agent = record {
    begun = omega (arith, (all agent).begun, is.later);
    waiting = λ kept free earlier from before. elim (cases_lt earlier timed.turn) [
      | inl h ↦ (all agent).waiting kept free earlier from h
      | inr h ↦ by_cases (releases schedule agent (departed_at (timed.pasts agent)) earlier) _
          (λ (released : releases schedule agent (departed_at (timed.pasts agent)) earlier ≡ true).
          absurd (true≢false (sym (ap (is_kept world timed.state lost)
          (delivered_now held schedule (record timed { turn = earlier }) agent
          (kept_open world timed.state lost agent kept) free released) ∙ kept)
          ∙ is.quiet earlier h before)))
          (λ (none : releases schedule agent (departed_at (timed.pasts agent)) earlier ≡ false). none)
    ];
  }

  -- a command that is heard
  told_waits : (lost closed : Bool) (turn agent : ℕ) (past : TimedView) (position : Position) (room : Bool)
      (command : Command) (seen : TimedGlance) → is_away (standing (bare past)) ≡ is_bound position →
      accepts (standing_at position) room command ≡ true → Waits lost closed turn agent past position →
      Waits lost closed turn agent (ToldAt past turn command seen) (position_after world position command)
  told_waits lost closed turn agent past position room command seen away hears_it waits =
      by_cases (is_bound position) _
      (λ (bound : is_bound position ≡ true).
      let same : departed_at (ToldAt past turn command seen) ≡ departed_at past = cond-true _ _ _ (away ∙ bound) in
      record {
        begun = rw same waits.begun;
        waiting = λ kept free earlier from before.
            let stays = stays_bound world position room command bound hears_it
            (keeps_bound world closed lost (position_after world position command) kept) in
            rw same (waits.waiting
            (subst (λ (place : Position). keeps_at world closed lost place ≡ true) stays kept)
            (subst (λ (place : Position). is_held held place ≡ false) stays free)
            earlier (subst (λ (first : ℕ). first ≤ earlier) same from) before);
      })
      (λ (unbound : is_bound position ≡ false).
      let same : departed_at (ToldAt past turn command seen) ≡ turn = cond-false _ _ _ (away ∙ unbound) in
      record {
        begun = omega (arith, same);
        waiting = λ kept free earlier from before. absurd (omega (arith, same, from, before));
      })

  told_all : (lost : ℕ → Bool) (timed : TimedState) (agent : ℕ) (command : Command) → IsStamped timed →
      AllLegal world timed.state → heard world timed.state agent command ≡ true → AllWait lost timed →
      AllWait lost (told_then world timed agent command)
  told_all lost timed agent command stamped legal is_heard all other = elim (eqb_tells other agent) [
    | inl h ↦ rw h.0 (subst (λ (who : ℕ). Waits (lost who) timed.state.closed timed.turn who
        (ToldAt (timed.pasts agent) timed.turn command (glance_then world timed (timed.state.position agent) command))
        (position_after world (timed.state.position agent) command)) (sym h.1)
        (told_waits (lost agent) timed.state.closed timed.turn agent (timed.pasts agent) (timed.state.position agent)
        (nat_lt (used (timed.state.past agent)) world.quota) command _
        (away_by_past world timed agent stamped legal)
        (subst (λ (now : Standing). accepts now (nat_lt (used (timed.state.past agent)) world.quota) command ≡ true)
        (legal agent).standing (and_parts _ _ (and_parts _ _ is_heard).1).1) (all agent)))
    | inr h ↦ rw h.0 (all other)
  ]

  -- a turn more, which delivers this agent and so releases no other
  pass_waits : (lost : Bool) (closed : Bool) (turn other : ℕ) (past : TimedView) (position : Position) →
      (other ≡ schedule.picked turn → ⊥) → Waits lost closed turn other past position →
      Waits lost closed (turn + 1) other past position
  pass_waits lost closed turn other past position apart waits = record {
    begun = omega (arith, waits.begun);
    waiting = λ kept free earlier from before. elim (eqb_tells earlier turn) [
      | inl h ↦ subst (λ (at : ℕ). releases schedule other (departed_at past) at ≡ false) (sym h.1)
          (elim (eqb_tells other (schedule.picked turn)) [ inl g ↦ absurd (apart g.1) | inr g ↦ rw g.0 refl ])
      | inr h ↦ waits.waiting kept free earlier from (omega (arith, before, h.1))
    ];
  }

  -- an agent that was delivered waits no more
  rest_waits : (lost closed : Bool) (turn agent : ℕ) (past : TimedView) (position : Position) →
      departed_at past ≤ turn → keeps_at world closed lost position ≡ false →
      Waits lost closed turn agent past position
  rest_waits lost closed turn agent past position begun none = record {
    begun = begun;
    waiting = λ kept free earlier from before. absurd (true≢false (sym kept ∙ none));
  }

  destroyed_none : (closed through struck : Bool) → (not closed && through) ≡ false →
      ((not closed && through) || ((not closed && struck) && not true)) ≡ false
  destroyed_none true through struck e = refl
  destroyed_none false true struck e = absurd (true≢false e)
  destroyed_none false false true e = refl
  destroyed_none false false false e = refl

  -- where the delivered agent does not arrive, it is destroyed
  is_destroyed : (arrival struck fresh : Bool) → arrival ≡ false → (arrival || (struck && fresh)) ≡ true → struck ≡ true
  is_destroyed true struck fresh none e = absurd (true≢false none)
  is_destroyed false true fresh none e = refl
  is_destroyed false false fresh none e = absurd (false≢true e)

  module _ (lost : ℕ → Bool) (timed : TimedState) (agent : ℕ) (picked : agent ≡ schedule.picked timed.turn)
      (all : AllWait lost timed) (kept : keeps world timed.state lost (Deliver agent) ≡ true) where
    apart_by : (other : ℕ) → (other ≡ agent → ⊥) → other ≡ schedule.picked timed.turn → ⊥
    apart_by other apart same = apart (same ∙ sym picked)

    others_wait : (other : ℕ) → (other ≡ agent → ⊥) →
        Waits (lost other) timed.state.closed (timed.turn + 1) other (timed.pasts other) (timed.state.position other)
    others_wait other apart =
        pass_waits (lost other) timed.state.closed timed.turn other (timed.pasts other) (timed.state.position other)
        (apart_by other apart) (all other)

    -- the marks of the lost after the delivery
    abbrev Marks : Bool → ℕ → Bool
    Marks struck = if struck then changed lost agent true else lost

    come_waits : (position : Position) → timed.state.position agent ≡ position →
        is_let_through world position ≡ true → (marks : ℕ → Bool) →
        ((other : ℕ) → (other ≡ agent → ⊥) → marks other ≡ lost other) →
        AllWait marks (record (arrived_then world timed agent position) { turn = timed.turn + 1 })
    come_waits (Bound node port) at through marks same other = elim (eqb_tells other agent) [
      | inl h ↦ rw h.0 (rest_waits (marks other) timed.state.closed (timed.turn + 1) other _ _ (omega arith)
          (no_more timed.state.closed (marks other)))
      | inr h ↦ rw (h.0, same other h.1) (others_wait other h.1)
    ]
      where
        no_more : (closed is_lost : Bool) → keeps_at world closed is_lost
            (At (world.net.far node port).0 (Some (world.net.far node port).1)) ≡ false
        no_more true is_lost = refl
        no_more false is_lost = refl
    come_waits Before at through marks same other = absurd (false≢true through)
    come_waits (At node came) at through marks same other = absurd (false≢true through)
    come_waits After at through marks same other = absurd (false≢true through)

    lost_waits : arrives world timed.state agent ≡ false → AllWait (changed lost agent true)
        (record timed { turn = timed.turn + 1 })
    lost_waits none other = elim (eqb_tells other agent) [
      | inl h ↦ rw h.0 (rest_waits true timed.state.closed (timed.turn + 1) other (timed.pasts other)
          (timed.state.position other) (omega (arith, (all other).begun))
          (subst (λ (who : ℕ). keeps_at world timed.state.closed true (timed.state.position who) ≡ false) (sym h.1)
          (destroyed_none timed.state.closed (is_let_through world (timed.state.position agent))
          (is_doomed world (timed.state.position agent)) none)))
      | inr h ↦ rw h.0 (others_wait other h.1)
    ]

    other_marks : (struck : Bool) (other : ℕ) → (other ≡ agent → ⊥) → Marks struck other ≡ lost other
    other_marks true other apart = elim (eqb_tells other agent) [ inl h ↦ absurd (apart h.1) | inr h ↦ rw h.0 refl ]
    other_marks false other apart = refl

    deliver_waits : AllWait (lost_after world timed.state lost (Deliver agent))
        (record (happened world timed (Deliver agent)) { turn = timed.turn + 1 })
    deliver_waits =
        cond_both (arrives world timed.state agent) (arrived_then world timed agent (timed.state.position agent)) timed
        (λ (there : TimedState). AllWait (lost_after world timed.state lost (Deliver agent))
        (record there { turn = timed.turn + 1 }))
        (λ yes. come_waits (timed.state.position agent) refl (and_parts (not timed.state.closed) _ yes).1
        (Marks (not timed.state.closed && is_doomed world (timed.state.position agent)))
        (other_marks (not timed.state.closed && is_doomed world (timed.state.position agent))))
        (λ none. subst (λ (marks : ℕ → Bool). AllWait marks (record timed { turn = timed.turn + 1 }))
        (sym (cond-true _ _ _ (is_destroyed (arrives world timed.state agent)
        (not timed.state.closed && is_doomed world (timed.state.position agent)) (not (lost agent)) none kept)))
        (lost_waits none))

  -- after the close nobody is delivered
  closed_waits : (lost : ℕ → Bool) (timed : TimedState) → AllWait lost timed → AllWait lost (happened world timed Close)
  closed_waits lost timed all agent =
      rest_waits (lost agent) true timed.turn agent (timed.pasts agent) (timed.state.position agent)
      (all agent).begun refl

  -- ---- event by event

  -- an event is in time whatever turn stands in the state
  turn_is_free : (timed : TimedState) (turn : ℕ) (stamps : List Stamped) →
      AreInTimeFrom schedule world (record timed { turn = turn }) stamps → AreInTimeFrom schedule world timed stamps
  turn_is_free timed turn [] are = tt
  turn_is_free timed turn (one ∷ others) are = (free one.event are.0, are.1)
    where
      free : (event : Event) → IsInTime schedule (record timed { turn = turn }) event one.turn →
          IsInTime schedule timed event one.turn
      free (Tell agent command) is = is
      free (Deliver agent) is = is
      free Close is = is

  -- what an event that is the next leaves
  pub record Goes (lost : ℕ → Bool) (timed : TimedState) (one : Stamped) : Type 0 where
    pub in_time : IsInTime schedule timed one.event one.turn
    pub all : AllWait (lost_after world timed.state lost one.event) (behind world timed one)

  goes : (lost : ℕ → Bool) (timed : TimedState) (event : Event) (turn : ℕ) → IsStamped timed →
      AllLegal world timed.state →
      AllWait lost timed → IsNext world held schedule lost timed (record { event = event; turn = turn }) →
      Goes lost timed (record { event = event; turn = turn })
  goes lost timed (Tell agent command) turn stamped legal all is =
      let now : TimedState = record timed { turn = turn } in
      let waits = wait_on lost timed (record { event = Tell agent command; turn = turn }) all is in
      let here : IsStamped now = record { pasts = stamped.pasts; writes = stamped.writes } in
      record {
        in_time = tt;
        all = subst (λ (there : TimedState). AllWait lost (record there { turn = turn })) (sym (cond-true _ _ _ is.now))
            (told_all lost now agent command here legal is.now waits);
      }
  goes lost timed (Deliver agent) turn stamped legal all is =
      let now : TimedState = record timed { turn = turn } in
      let waits = wait_on lost timed (record { event = Deliver agent; turn = turn }) all is in
      let released = now_released held schedule now agent is.now.0 in
      record {
        in_time = record {
          later = (waits agent).begun;
          released = released.0;
          none_before = (waits agent).waiting is.now.1 released.1;
        };
        all = deliver_waits lost now agent (equal (and_parts (agent == schedule.picked turn) _ released.0).0) waits
            is.now.1;
      }
    where
      equal : (agent == schedule.picked turn) ≡ true → agent ≡ schedule.picked turn
      equal e = elim (eqb_tells agent (schedule.picked turn)) [
        | inl h ↦ h.1
        | inr h ↦ absurd (false≢true (sym h.0 ∙ e))
      ]
  goes lost timed Close turn stamped legal all is = record {
    in_time = tt;
    all = closed_waits lost (record timed { turn = turn })
        (wait_on lost timed (record { event = Close; turn = turn }) all is);
  }

  pub in_time_from : (lost : ℕ → Bool) (timed : TimedState) (before : List Event) (stamps : List Stamped) →
      timed.state ≡ run world before → IsStamped timed → AllWait lost timed →
      Follows world held schedule lost timed stamps → AreInTimeFrom schedule world timed stamps
  in_time_from lost timed before [] same stamped all follows = tt
  in_time_from lost timed before (one ∷ others) same stamped all follows =
      let legal = subst (λ (state : State). AllLegal world state) (sym same) (all_run world before) in
      let here : IsStamped (record timed { turn = one.turn }) =
      record { pasts = stamped.pasts; writes = stamped.writes } in
      let after = happened_stamped world (record timed { turn = one.turn }) one.event here in
      let went = goes lost timed one.event one.turn stamped legal all follows.0 in (
        went.in_time,
        turn_is_free (happened_at world timed one) (behind world timed one).turn others
            (in_time_from (lost_after world timed.state lost one.event) (behind world timed one)
            (before ++ one.event ∷ []) others
            (happened_state world (record timed { turn = one.turn }) one.event
            ∙ ap (λ (state : State). next world state one.event) same
            ∙ sym (run-append world initial before (one.event ∷ [])))
            (record { pasts = after.pasts; writes = after.writes }) went.all follows.1),
      )

  initial_waits : AllWait nobody timed_initial
  initial_waits agent = rest_waits false false 0 agent _ _ (omega arith) refl

pub in_time_lemma : TimedLogsAreInTime
in_time_lemma world held schedule stamps is =
    in_time_from world held schedule nobody timed_initial [] stamps refl initial_stamped
    (initial_waits world held schedule) (steps_of_timed world held schedule stamps is)

-- ---- ascending turns, and links that are not held

ascend_from : (world : World) (held : Held) (schedule : Schedule) (lost : ℕ → Bool) (timed : TimedState)
    (stamps : List Stamped) (turn : ℕ) → turn ≤ timed.turn → Follows world held schedule lost timed stamps →
    Ascend turn stamps
ascend_from world held schedule lost timed [] turn less follows = tt
ascend_from world held schedule lost timed (one ∷ others) turn less follows = (
  omega (arith, less, follows.0.later),
  ascend_from world held schedule (lost_after world timed.state lost one.event) (behind world timed one) others one.turn
      (at_least one.event one.turn) follows.1,
)
  where
    at_least : (event : Event) (now : ℕ) → now ≤ turn_behind event now
    at_least (Tell agent command) now = omega arith
    at_least (Deliver agent) now = omega arith
    at_least Close now = omega arith

pub ascend_lemma : TimedLogsAscend
ascend_lemma world held schedule stamps is =
    ascend_from world held schedule nobody timed_initial stamps 0 (omega arith)
    (steps_of_timed world held schedule stamps is)

free_of_turn : (world : World) (held : Held) (timed : TimedState) (turn : ℕ) (stamps : List Stamped) →
    AreFreeFrom held world (record timed { turn = turn }) stamps → AreFreeFrom held world timed stamps
free_of_turn world held timed turn [] are = tt
free_of_turn world held timed turn (one ∷ others) are = (same one.event are.0, are.1)
  where
    same : (event : Event) → IsFree held (record timed { turn = turn }) event → IsFree held timed event
    same (Tell agent command) is = is
    same (Deliver agent) is = is
    same Close is = is

free_from : (world : World) (held : Held) (schedule : Schedule) (lost : ℕ → Bool) (timed : TimedState)
    (stamps : List Stamped) → Follows world held schedule lost timed stamps → AreFreeFrom held world timed stamps
free_from world held schedule lost timed [] follows = tt
free_from world held schedule lost timed (one ∷ others) follows = (
  free one.event follows.0.now,
  free_of_turn world held (happened_at world timed one) (behind world timed one).turn others
      (free_from world held schedule (lost_after world timed.state lost one.event) (behind world timed one) others
      follows.1),
)
  where
    free : (event : Event) → IsNow world held schedule lost (record timed { turn = one.turn }) event →
        IsFree held timed event
    free (Tell agent command) now = tt
    free (Deliver agent) now = (now_released held schedule (record timed { turn = one.turn }) agent now.0).1
    free Close now = tt

pub free_lemma : TimedLogsCrossNoHeldLink
free_lemma world held schedule stamps is =
    free_from world held schedule nobody timed_initial stamps (steps_of_timed world held schedule stamps is)
