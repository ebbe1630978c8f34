-- An agent arrives at the first turn since its departure that releases it.
use Rattle.std.proofs.Common.{arith, ℕ, ◌≡◌, ◌<◌, ◌≤◌, ◌+◌, Bool, true, false, not, ◌&&◌, ◌==◌, Option, Some, None}
use Rattle.std.proofs.Common.{List, []}
use Rattle.std.proofs.Common.{◌∷◌, ◌++◌, option_to_list, nat_lt, refl, sym, ap, ap₂, ◌∙◌, if◌then◌else◌, inl, inr}
use Rattle.std.proofs.Common.{subst}
use Rattle.std.proofs.lemmas.Bool.{cond-true, cond-false, cond_both, and_parts, and_right, true≢false, false≢true}
use Rattle.std.proofs.lemmas.Bool.{eq-eqb}
use Rattle.std.proofs.lemmas.Bool.Decides.{eqb_tells}
use Rattle.bhs_model.specs.declared.commands.Command.{Command}
use Rattle.bhs_model.specs.declared.commands.Command.TheVariants.{Enter, Look, Write, Depart, Accuse, Leave, Bad}
use Rattle.bhs_model.specs.declared.events.Event.{Event}
use Rattle.bhs_model.specs.declared.events.Event.TheVariants.{Deliver, Close}
use Rattle.bhs_model.specs.Views.{View, Standing, standing, used}
use Rattle.bhs_model.specs.Worlds.{World}
use Rattle.bhs_model.specs.Replying.{accepts}
use Rattle.bhs_model.specs.Standings.{standing_at}
use Rattle.bhs_model.specs.Runs.{Position, Before, At, Bound, After, State, position_after, heard, is_bound, arrives}
use Rattle.bhs_model.specs.Runs.{is_let_through, initial, run, run_from}
use Rattle.bhs_model.specs.Draws.{Held, is_held, delivery_to}
use Rattle.bhs_model.proofs.StepLemmas.{by_cases}
use Rattle.bhs_model.proofs.AddLemmas.{run-append}
use Rattle.bhs_model.proofs.LegalLemmas.{AllLegal, all_run}
use Rattle.bhs_time.specs.TimedViews.{TimedView, ToldAt, ArrivedAt, TimedGlance, bare, is_away, departed_at}
use Rattle.bhs_time.specs.Schedules.{Schedule, releases}
use Rattle.bhs_time.specs.TimedRuns.{TimedState, timed_initial, TimedAct, Says, Passes, Ends, event_of, delivery_if}
use Rattle.bhs_time.specs.TimedRuns.{delivery_now}
use Rattle.bhs_time.specs.TimedRuns.{told_then, arrived_then, happened, happened_if, timed_next, timed_run_from}
use Rattle.bhs_time.specs.TimedRuns.{timed_run}
use Rattle.bhs_time.specs.TimedRuns.{glance_then, sight_then}
use Rattle.bhs_time.specs.Laws.{IsPunctual, ArrivalsAreByTheWords}
use Rattle.bhs_time.proofs.StampLemmas.{IsStamped, initial_stamped, next_stamped, happened_state}

-- an agent is away exactly if it is on a link
away_at : (position : Position) → is_away (standing_at position) ≡ is_bound position
away_at Before = refl
away_at (At node came) = refl
away_at (Bound node port) = refl
away_at After = refl

pub away_by_past : (world : World) (timed : TimedState) (agent : ℕ) → IsStamped timed → AllLegal world timed.state →
    is_away (standing (bare (timed.pasts agent))) ≡ is_bound (timed.state.position agent)
away_by_past world timed agent stamped legal =
    ap (λ (view : View). is_away (standing view)) (stamped.pasts agent)
    ∙ ap is_away (legal agent).standing ∙ away_at (timed.state.position agent)

-- who is heard on a link stays on that link, or ends
stays_or_ends : (world : World) (position : Position) (room : Bool) (command : Command) → is_bound position ≡ true →
    accepts (standing_at position) room command ≡ true →
    is_let_through world (position_after world position command) ≡ true → position_after world position command
    ≡ position
stays_or_ends world (Bound node port) room Enter bound hears_it through = absurd (false≢true hears_it)
stays_or_ends world (Bound node port) room Leave bound hears_it through = absurd (false≢true through)
stays_or_ends world (Bound node port) room Look bound hears_it through = refl
stays_or_ends world (Bound node port) room (Write expect put) bound hears_it through = refl
stays_or_ends world (Bound node port) room (Depart other) bound hears_it through = refl
stays_or_ends world (Bound node port) room (Accuse other) bound hears_it through = refl
stays_or_ends world (Bound node port) room Bad bound hears_it through = refl
stays_or_ends world Before room command bound hears_it through = absurd (false≢true bound)
stays_or_ends world (At node came) room command bound hears_it through = absurd (false≢true bound)
stays_or_ends world After room command bound hears_it through = absurd (false≢true bound)

module _ (world : World) (held : Held) (schedule : Schedule) where
  -- what is asked of an agent with this past at this position, when this many turns have passed
  pub record Fares (agent turn : ℕ) (closed : Bool) (past : TimedView) (position : Position) : Type 0 where
    pub arrived : IsPunctual schedule agent past
    pub begun : departed_at past ≤ turn
    pub waiting : closed ≡ false → is_let_through world position ≡ true → is_held held position ≡ false →
        (earlier : ℕ) → departed_at past ≤ earlier → earlier < turn → releases schedule agent
        (departed_at past) earlier ≡ false

  abbrev pub AllFare : TimedState → Type 0
  AllFare timed = (agent : ℕ) →
      Fares agent timed.turn timed.state.closed (timed.pasts agent) (timed.state.position agent)

  -- who says something on a link goes on waiting, and who says something elsewhere may begin to
  told_fares : (agent turn : ℕ) (closed : Bool) (past : TimedView) (position : Position) (room : Bool)
      (command : Command)
      (seen : TimedGlance) → is_away (standing (bare past)) ≡ is_bound position →
      accepts (standing_at position) room command ≡ true → Fares agent turn closed past position →
      Fares agent turn closed (ToldAt past turn command seen) (position_after world position command)
  told_fares agent turn closed past position room command seen away hears_it fares =
      by_cases (is_bound position) _
      (λ (bound : is_bound position ≡ true).
      let same : departed_at (ToldAt past turn command seen) ≡ departed_at past = cond-true _ _ _ (away ∙ bound) in
      record {
        arrived = fares.arrived;
        begun = rw same fares.begun;
        waiting = λ unclosed through free earlier later before.
            let stays = stays_or_ends world position room command bound hears_it through in
            rw same (fares.waiting unclosed
            (subst (λ (place : Position). is_let_through world place ≡ true) stays through)
            (subst (λ (place : Position). is_held held place ≡ false) stays free)
            earlier (subst (λ (from : ℕ). from ≤ earlier) same later) before);
      })
      (λ (unbound : is_bound position ≡ false).
      let same : departed_at (ToldAt past turn command seen) ≡ turn = cond-false _ _ _ (away ∙ unbound) in
      record {
        arrived = fares.arrived;
        begun = omega (arith, same);
        waiting = λ unclosed through free earlier later before.
            absurd (omega (arith, same, later, before));
      })

  told_all : (timed : TimedState) (agent : ℕ) (command : Command) → IsStamped timed → AllLegal world timed.state →
      heard world timed.state agent command ≡ true → AllFare timed → AllFare (told_then world timed agent command)
  told_all timed agent command stamped legal is_heard all other = elim (eqb_tells other agent) [
    | inl h ↦ rw h.0 (subst (λ (who : ℕ). Fares who timed.turn timed.state.closed
        (ToldAt (timed.pasts agent) timed.turn command (glance_then world timed (timed.state.position agent) command))
        (position_after world (timed.state.position agent) command)) (sym h.1)
        (told_fares agent timed.turn timed.state.closed (timed.pasts agent) (timed.state.position agent)
        (nat_lt (used (timed.state.past agent)) world.quota) command _
        (away_by_past world timed agent stamped legal)
        (subst (λ (now : Standing). accepts now (nat_lt (used (timed.state.past agent)) world.quota) command ≡ true)
        (legal agent).standing (and_parts _ _ (and_parts _ _ is_heard).1).1) (all agent)))
    | inr h ↦ rw h.0 (all other)
  ]

  -- The agent arrives in the turn that releases it; no turn since its departure released it before.
  arrived_all : (timed : TimedState) (agent : ℕ) (position : Position) → timed.state.position agent ≡ position →
      timed.state.closed ≡ false → is_let_through world position ≡ true → is_held held position ≡ false →
      releases schedule agent (departed_at (timed.pasts agent)) timed.turn ≡ true →
      AllFare timed → AllFare (arrived_then world timed agent position)
  arrived_all timed agent (Bound node port) placed unclosed through free released all other = elim
      (eqb_tells other agent) [
        | inl h ↦ rw h.0 (subst (λ (who : ℕ). Fares who timed.turn timed.state.closed
            (ArrivedAt (timed.pasts agent) timed.turn
            (sight_then world timed (world.net.far node port).0 (Some (world.net.far node port).1)))
            (At (world.net.far node port).0 (Some (world.net.far node port).1))) (sym h.1)
            (record {
              arrived = (
                record {
                  later = (all agent).begun;
                  released = released;
                  none_before = (all agent).waiting unclosed
                      (subst (λ (place : Position). is_let_through world place ≡ true) (sym placed) through)
                      (subst (λ (place : Position). is_held held place ≡ false) (sym placed) free);
                },
                (all agent).arrived,
              );
              begun = omega arith;
              waiting = λ still passes unheld earlier later before. absurd (false≢true passes);
            }))
        | inr h ↦ rw h.0 (all other)
      ]
  arrived_all timed agent Before placed unclosed through free released all other = absurd (false≢true through)
  arrived_all timed agent (At node came) placed unclosed through free released all other = absurd (false≢true through)
  arrived_all timed agent After placed unclosed through free released all other = absurd (false≢true through)

  -- after the close nobody waits
  closed_all : (timed : TimedState) → AllFare timed → AllFare (happened world timed Close)
  closed_all timed all agent = record {
    arrived = (all agent).arrived;
    begun = (all agent).begun;
    waiting = λ unclosed through free earlier later before. absurd (true≢false unclosed);
  }

  -- one turn more, at which no waiting agent is released
  later_all : (timed : TimedState) → AllFare timed →
      ((agent : ℕ) → timed.state.closed ≡ false → is_let_through world (timed.state.position agent) ≡ true →
      is_held held (timed.state.position agent) ≡ false →
      releases schedule agent (departed_at (timed.pasts agent)) timed.turn ≡ false) →
      AllFare (record timed { turn = timed.turn + 1 })
  later_all timed all none agent = record {
    arrived = (all agent).arrived;
    begun = omega (arith, (all agent).begun);
    waiting = λ unclosed through free earlier later before.
        elim (eqb_tells earlier timed.turn) [
          | inl now ↦ subst (λ (turn : ℕ). releases schedule agent (departed_at (timed.pasts agent)) turn ≡ false)
              (sym now.1)
              (none agent unclosed through free)
          | inr apart ↦ (all agent).waiting unclosed through free earlier later (omega (arith, before, apart.1))
        ];
  }

  -- An agent that is picked, could arrive and does not arrive was not released.
  picked_idle : (timed : TimedState) (none : schedule.ready (schedule.picked timed.turn)
      (departed_at (timed.pasts (schedule.picked timed.turn))) timed.turn ≡ true →
      is_held held (timed.state.position (schedule.picked timed.turn)) ≡ false →
      arrives world timed.state (schedule.picked timed.turn) ≡ false) → timed.state.closed ≡ false →
      is_let_through world (timed.state.position (schedule.picked timed.turn)) ≡ true →
      is_held held (timed.state.position (schedule.picked timed.turn)) ≡ false →
      releases schedule (schedule.picked timed.turn) (departed_at (timed.pasts
      (schedule.picked timed.turn))) timed.turn ≡ false
  picked_idle timed none unclosed through free =
      let arrival : arrives world timed.state (schedule.picked timed.turn) ≡ true =
      ap₂ (λ (closed passes : Bool). not closed && passes) unclosed through in
      by_cases (schedule.ready (schedule.picked timed.turn) (departed_at (timed.pasts
      (schedule.picked timed.turn))) timed.turn) _
      (λ (is_ready : schedule.ready (schedule.picked timed.turn) (departed_at (timed.pasts
      (schedule.picked timed.turn))) timed.turn
      ≡ true). absurd (true≢false (sym arrival ∙ none is_ready free)))
      (λ (unready : schedule.ready (schedule.picked timed.turn) (departed_at (timed.pasts
      (schedule.picked timed.turn))) timed.turn
      ≡ false). and_right (schedule.picked timed.turn == schedule.picked timed.turn) _ unready)

  idle_turn : (timed : TimedState) → (schedule.ready (schedule.picked timed.turn)
      (departed_at (timed.pasts (schedule.picked timed.turn))) timed.turn ≡ true →
      is_held held (timed.state.position (schedule.picked timed.turn)) ≡ false →
      arrives world timed.state (schedule.picked timed.turn) ≡ false) →
      (agent : ℕ) → timed.state.closed ≡ false → is_let_through world (timed.state.position agent) ≡ true →
      is_held held (timed.state.position agent) ≡ false →
      releases schedule agent (departed_at (timed.pasts agent)) timed.turn ≡ false
  idle_turn timed none agent unclosed through free = elim (eqb_tells agent (schedule.picked timed.turn)) [
    | inl own ↦ subst (λ (who : ℕ). releases schedule who (departed_at (timed.pasts who)) timed.turn ≡ false)
        (sym own.1)
        (picked_idle timed none unclosed
        (subst (λ (who : ℕ). is_let_through world (timed.state.position who) ≡ true) own.1 through)
        (subst (λ (who : ℕ). is_held held (timed.state.position who) ≡ false) own.1 free))
    | inr apart ↦ rw apart.0 refl
  ]

  -- the picked agent arrives, and the others were not released
  come_all : (timed : TimedState) (position : Position) → timed.state.position (schedule.picked timed.turn) ≡ position →
      timed.state.closed ≡ false → is_let_through world position ≡ true → is_held held position ≡ false →
      releases schedule (schedule.picked timed.turn) (departed_at (timed.pasts
      (schedule.picked timed.turn))) timed.turn ≡ true →
      AllFare timed →
      AllFare (record (arrived_then world timed (schedule.picked timed.turn) position)
      { turn = (arrived_then world timed (schedule.picked timed.turn) position).turn + 1 })
  come_all timed (Bound node port) placed unclosed through free released all =
      later_all (arrived_then world timed (schedule.picked timed.turn) (Bound node port))
      (arrived_all timed (schedule.picked timed.turn) (Bound node port) placed unclosed through free released all)
      (λ agent still passes unheld. elim (eqb_tells agent (schedule.picked timed.turn)) [
        | inl own ↦ absurd (false≢true (rw own.0 at passes))
        | inr apart ↦ rw apart.0 refl
      ])
  come_all timed Before placed unclosed through free released all = absurd (false≢true through)
  come_all timed (At node came) placed unclosed through free released all = absurd (false≢true through)
  come_all timed After placed unclosed through free released all = absurd (false≢true through)

  -- the timed state a turn later, where the turn makes this event
  abbrev pub turned : TimedState → Option Event → TimedState
  turned timed event = record (happened_if world timed event) { turn = (happened_if world timed event).turn + 1 }

  turn_all : (timed : TimedState) → AllFare timed → AllFare (turned timed (delivery_now held schedule timed))
  turn_all timed all = go (schedule.ready who (departed_at (timed.pasts who)) timed.turn) refl
    where
      who : ℕ
      who = schedule.picked timed.turn

      go : (is_ready : Bool) →
          schedule.ready (schedule.picked timed.turn) (departed_at (timed.pasts
          (schedule.picked timed.turn))) timed.turn ≡ is_ready →
          AllFare (turned timed
          (if timed.state.closed then None else delivery_if held timed.state (schedule.picked timed.turn) is_ready))
      go false unready =
          cond_both timed.state.closed None None (λ (event : Option Event). AllFare (turned timed event))
          (λ yes. later_all timed all
          (idle_turn timed (λ is_ready free. absurd (true≢false (sym is_ready ∙ unready)))))
          (λ no. later_all timed all
          (idle_turn timed (λ is_ready free. absurd (true≢false (sym is_ready ∙ unready)))))
      go true ready =
          cond_both timed.state.closed None (delivery_to held timed.state (Some (schedule.picked timed.turn)))
          (λ (event : Option Event). AllFare (turned timed event))
          (λ closed. later_all timed all (idle_turn timed
          (λ is_ready free. ap (λ (ended : Bool). not ended && is_let_through world
          (timed.state.position (schedule.picked timed.turn))) closed)))
          (λ unclosed. cond_both (is_held held (timed.state.position (schedule.picked timed.turn))) None
          (Some (Deliver (schedule.picked timed.turn))) (λ (event : Option Event). AllFare (turned timed event))
          (λ still. later_all timed all (idle_turn timed (λ is_ready free. absurd (true≢false (sym still ∙ free)))))
          (λ free. cond_both (arrives world timed.state (schedule.picked timed.turn))
          (arrived_then world timed (schedule.picked timed.turn) (timed.state.position
          (schedule.picked timed.turn))) timed
          (λ (there : TimedState). AllFare (record there { turn = there.turn + 1 }))
          (λ yes. come_all timed (timed.state.position (schedule.picked timed.turn)) refl unclosed
          (and_parts (not timed.state.closed) _ yes).1 free
          (ap₂ (λ (own is_ready : Bool). own && is_ready)
          (eq-eqb (schedule.picked timed.turn) (schedule.picked timed.turn) refl) ready) all)
          (λ none. later_all timed all (idle_turn timed (λ is_ready unheld. none)))))

  next_all : (timed : TimedState) (act : TimedAct) → IsStamped timed → AllLegal world timed.state → AllFare timed →
      AllFare (timed_next world held schedule timed act)
  next_all timed (Says agent command) stamped legal all =
      cond_both (heard world timed.state agent command) (told_then world timed agent command) timed
      (λ (there : TimedState). AllFare there)
      (λ is_heard. told_all timed agent command stamped legal is_heard all) (λ unheard. all)
  next_all timed Passes stamped legal all = turn_all timed all
  next_all timed Ends stamped legal all = closed_all timed all

  run_all : (timed : TimedState) (events : List Event) (acts : List TimedAct) → timed.state ≡ run world events →
      IsStamped timed → AllFare timed → AllFare (timed_run_from world held schedule timed acts)
  run_all timed events [] same stamped all = all
  run_all timed events (act ∷ acts) same stamped all =
      run_all (timed_next world held schedule timed act)
      (events ++ option_to_list (event_of held schedule timed act)) acts
      (one_more (event_of held schedule timed act)
      ∙ ap (λ (state : State). run_from world state (option_to_list (event_of held schedule timed act))) same
      ∙ sym (run-append world initial events (option_to_list (event_of held schedule timed act))))
      (next_stamped world held schedule timed act stamped)
      (next_all timed act stamped (subst (λ (state : State). AllLegal world state) (sym same) (all_run world events))
      all)
    where
      one_more : (event : Option Event) →
          (happened_if world timed event).state ≡ run_from world timed.state (option_to_list event)
      one_more None = refl
      one_more (Some event) = happened_state world timed event

  pub initial_all : AllFare timed_initial
  initial_all agent = record {
    arrived = tt;
    begun = omega arith;
    waiting = λ unclosed through free earlier later before. absurd (false≢true through);
  }

  pub all_fare : (acts : List TimedAct) → AllFare (timed_run world held schedule acts)
  all_fare acts = run_all timed_initial [] acts refl initial_stamped initial_all

pub arrivals_lemma : ArrivalsAreByTheWords
arrivals_lemma world held schedule acts agent =
    let fares = all_fare world held schedule acts agent in
    record { arrived = fares.arrived; waiting = fares.waiting }
