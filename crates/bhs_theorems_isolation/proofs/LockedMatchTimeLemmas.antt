-- What stands under the lock of a match is a timed execution.
use Rattle.std.proofs.Common.{arith, ℕ, zero, suc, ◌≡◌, ◌<◌, ◌≤◌, ◌+◌, ◌-◌, ◌^◌, ◌%◌, min, Bool, true, false, ◌==◌, ◌⊎◌}
use Rattle.std.proofs.Common.{Option, Some, None, List, [], ◌∷◌, ◌++◌, length, nat_lt, refl, sym, ap, ap₂, ◌∙◌, subst}
use Rattle.std.proofs.Common.{if◌then◌else◌, inl, inr, slice_set, cond}
use Rattle.std.proofs.Math.ListN.{length-replicate}
use Rattle.rand_chacha.specs.ChaCha.{ChaCha}
use Rattle.std.specs.Prelude.{is_some, replicate}
use Rattle.std.proofs.lemmas.Bool.{cond-true, cond_both, lt-ltb, eq-eqb, ne_eqb}
use Rattle.std.proofs.lemmas.Bool.Decides.{eqb_tells}
use Rattle.std.proofs.lemmas.List.{get_or-set_same, get_or-set_other}
use Rattle.bhs_net.specs.Network.{Network}
use Rattle.bhs_model.specs.declared.setups.Setup.{Setup}
use Rattle.bhs_model.specs.declared.commands.Command.{Command}
use Rattle.bhs_model.specs.declared.events.Event.{Event}
use Rattle.bhs_model.specs.declared.events.Event.TheVariants.{Tell, Deliver, Close}
use Rattle.bhs_model.specs.declared.marks.Mark.{Mark}
use Rattle.bhs_model.specs.declared.marks.Kept.{Kept}
use Rattle.bhs_model.specs.Views.{View, standing}
use Rattle.bhs_model.specs.Worlds.{World}
use Rattle.bhs_model.specs.Setups.{world_of}
use Rattle.bhs_model.specs.Marks.{events_of}
use Rattle.bhs_model.specs.Standings.{standing_at}
use Rattle.bhs_model.specs.Runs.{Position, Before, At, Bound, After, State, initial, heard, is_bound, arrives}
use Rattle.bhs_model.specs.Runs.{next, run}
use Rattle.bhs_model.specs.Draws.{Held, is_held}
use Rattle.bhs_model.specs.Kept.{lost}
use Rattle.bhs_model.proofs.AddLemmas.{run-append}
use Rattle.bhs_model.proofs.KeptLemmas.{unkept_state}
use Rattle.bhs_model.proofs.LegalLemmas.{AllLegal, all_run}
use Rattle.bhs_time.specs.TimedViews.{ToldAt, ArrivedAt, bare, is_away, departed_at}
use Rattle.bhs_time.specs.Schedules.{Schedule}
use Rattle.bhs_time.specs.TimedRuns.{TimedState, TimedAct, Says, Passes, Ends, glance_then, told_then, arrived_then}
use Rattle.bhs_time.specs.TimedRuns.{happened, happened_if, timed_next, timed_initial, timed_run, timed_run_from}
use Rattle.bhs_time.specs.TimedRuns.{delivery_now, delivery_in, delivery_if}
use Rattle.bhs_time.proofs.StampLemmas.{IsStamped, happened_state, next_stamped, initial_stamped}
use Rattle.bhs_time.proofs.StampLemmas.{clocks_only_stamp_lemma}
use Rattle.bhs_time.proofs.WaitLemmas.{equal_waits_lemma}
use Rattle.bhs_world.specs.Tables.{keeps_next, log_after}
use Rattle.bhs_world.proofs.GrowthLemmas.{events_more}
use Rattle.bhs_match.specs.Matches.{Play, world_in, state_of}
use Rattle.bhs_deliveries.specs.declared.draws.Drawn.{Drawn}
use Rattle.bhs_deliveries.specs.declared.draws.Drawn.TheVariants.{Nobody, Stays, Delivered}
use Rattle.bhs_deliveries.specs.Dealer.{dealer_at}
use Rattle.bhs_deliveries.specs.Delaying.{schedule_by, departed_in, drawn_in}
use Rattle.bhs_deliveries.specs.Drawing.{delivered_to, IsPlayedIf}
use Rattle.bhs_shared_match.specs.Timing.{Timed, stepped, stepped_if, told_at, turned, arrived_by}
use Rattle.bhs_shared_match.specs.Passes.{Passed}
use Rattle.bhs_shared_match.specs.declared.model.Answer.{Answer}
use Rattle.bhs_shared_match.specs.LockedMatches.{LockedState, empty_locked_match, agrees, IsHeardBy}
use Rattle.bhs_theorems_isolation.specs.Timely.{TurnTerms, schedule_in, IsToldCall, IsTurnCall, IsCloseCall, IsCall}
use Rattle.bhs_theorems_isolation.specs.Timely.{AreCalls}
use Rattle.bhs_theorems_isolation.specs.Timely.{HallsAreTimedExecutions, EqualWaitsUnderLocks}
use Rattle.bhs_shared_match.proofs.ToldLemmas.{same_play}
use Rattle.bhs_shared_match.proofs.DrawLemmas.{length_told, length_turned}
use Rattle.bhs_shared_match.proofs.TallyLemmas.{has_agreed, is_some_if}
use Rattle.bhs_theorems_isolation.proofs.CuttingLemmas.{cond_alike}
use Rattle.bhs_time.proofs.TimedLogLemmas.{arrived_turn}

-- ---- the state after an event

-- a match with a log that an event may have grown stands as the model says, kept or not
logged_state : (play : Play) (event : Event) (mark : Option Mark) →
    state_of (record play { log = log_after (world_in play) play.log event mark })
    ≡ next (world_in play) (state_of play) event
logged_state play event mark = go (keeps_next (world_in play) play.log event) refl
  where
    go : (kept : Bool) → keeps_next (world_in play) play.log event ≡ kept →
        run (world_in play) (events_of
        (if kept then play.log ++ record { event = event; mark = mark } ∷ [] else play.log))
        ≡ next (world_in play) (state_of play) event
    go true kept =
        ap (λ (events : List Event). run (world_in play) events) (events_more play.log
        (record { event = event; mark = mark }))
        ∙ run-append (world_in play) initial (events_of play.log) (event ∷ [])
    go false unkept =
        sym (unkept_state (world_in play) (state_of play) (lost (world_in play) (events_of play.log)) event unkept)

-- ---- times

stepped_own : (agent : ℕ) (times : Timed) → agent < length times.departed →
    departed_in (stepped agent times).departed agent ≡ times.turn
stepped_own agent times within =
    ap (λ (b : Bool). departed_in (if b then slice_set times.departed agent times.turn else times.departed) agent)
    (lt-ltb agent (length times.departed) within)
    ∙ get_or-set_same times.departed agent times.turn 0 within

stepped_other : (agent other : ℕ) (times : Timed) → (other ≡ agent → ⊥) →
    departed_in (stepped agent times).departed other ≡ departed_in times.departed other
stepped_other agent other times apart =
    cond_both (nat_lt agent (length times.departed)) (slice_set times.departed agent times.turn) times.departed
    (λ (departed : List ℕ). departed_in departed other ≡ departed_in times.departed other)
    (λ within. get_or-set_other times.departed agent other times.turn 0 apart) (λ past. refl)

told_other : (was_away : Bool) (agent other : ℕ) (times : Timed) → (other ≡ agent → ⊥) →
    departed_in (told_at was_away agent times).departed other ≡ departed_in times.departed other
told_other true agent other times apart = refl
told_other false agent other times apart = stepped_other agent other times apart

-- an agent is away exactly if it is on a link
away_at : (position : Position) → is_away (standing_at position) ≡ is_bound position
away_at position = grind arith

-- ---- a match and a timed execution that stand alike

pub record Alike (first : Play) (timed : TimedState) (inner : LockedState) : Type 0 where
  pub net : inner.play.net ≡ first.net
  pub setup : inner.play.setup ≡ first.setup
  pub state : state_of inner.play ≡ timed.state
  pub turn : inner.times.turn ≡ timed.turn
  pub departed : (agent : ℕ) → agent < first.setup.agents →
      departed_in inner.times.departed agent ≡ departed_at (timed.pasts agent)
  pub long : length inner.times.departed ≡ first.setup.agents
  pub stamped : IsStamped timed

module _ (first : Play) (timed : TimedState) (inner : LockedState) (is : Alike first timed inner) where
  same_world : world_in inner.play ≡ world_in first
  same_world = ap₂ (λ (net : Network) (setup : Setup). world_of net setup) is.net is.setup

  all_legal : AllLegal (world_in first) timed.state
  all_legal =
      subst (λ (world : World). AllLegal world timed.state) same_world
      (subst (λ (state : State). AllLegal (world_in inner.play) state) is.state
      (all_run (world_in inner.play) (events_of inner.play.log)))

  away_by : (agent : ℕ) → is_bound ((state_of inner.play).position agent)
      ≡ is_away (standing (bare (timed.pasts agent)))
  away_by agent =
      ap (λ (state : State). is_bound (state.position agent)) is.state
      ∙ sym (ap (λ (view : View). is_away (standing view)) (is.stamped.pasts agent)
      ∙ ap is_away (all_legal agent).standing ∙ away_at (timed.state.position agent))

  -- the state after an event that a call plays
  state_after : (event : Event) (mark : Option Mark) (play' : Play) →
      play' ≡ record inner.play { log = log_after (world_in inner.play) inner.play.log event mark } →
      state_of play' ≡ (happened (world_in first) timed event).state
  state_after event mark play' grown =
      ap (λ (play : Play). state_of play) grown ∙ logged_state inner.play event mark
      ∙ ap₂ (λ (world : World) (state : State). next world state event) same_world is.state
      ∙ sym (happened_state (world_in first) timed event)

-- ---- the end of a match

pub closed_alike : (first : Play) (held : Held) (schedule : Schedule) (timed : TimedState)
    (inner inner' : LockedState) →
    Alike first timed inner → IsCloseCall inner inner' →
    Alike first (timed_next (world_in first) held schedule timed Ends) inner'
closed_alike first held schedule timed inner inner' is call =
    let grown = same_play inner'.play inner.play _ call.played.net call.played.setup call.played.log in
    record {
      net = call.played.net ∙ is.net;
      setup = call.played.setup ∙ is.setup;
      state = state_after first timed inner is Close call.answer.mark inner'.play grown;
      turn = ap (λ (times : Timed). times.turn) call.times ∙ is.turn;
      departed = λ agent within.
          ap (λ (times : Timed). departed_in times.departed agent) call.times ∙ is.departed agent within;
      long = ap (λ (times : Timed). length times.departed) call.times ∙ is.long;
      stamped = next_stamped (world_in first) held schedule timed Ends is.stamped;
    }

-- ---- a command

told_turn : (was_away : Bool) (agent : ℕ) (times : Timed) → (told_at was_away agent times).turn ≡ times.turn
told_turn true agent times = refl
told_turn false agent times = refl

module _ (first : Play) (held : Held) (schedule : Schedule) (timed : TimedState) (inner : LockedState)
    (is : Alike first timed inner) where
  -- the turn of the agent's newest step that was not on a link, after its command
  own_by : (agent : ℕ) → agent < first.setup.agents → (away : Bool) →
      departed_in (told_at away agent inner.times).departed agent
      ≡ (if away then departed_at (timed.pasts agent) else timed.turn)
  own_by agent within true = is.departed agent within
  own_by agent within false =
      let long : agent < length inner.times.departed = omega (arith, within, is.long) in
      stepped_own agent inner.times long ∙ is.turn

  told_departed : (agent : ℕ) (command : Command) → agent < first.setup.agents → (other : ℕ) →
      other < first.setup.agents →
      departed_in (told_at (is_away (standing (bare (timed.pasts agent)))) agent inner.times).departed other
      ≡ departed_at ((told_then (world_in first) timed agent command).pasts other)
  told_departed agent command within other below = elim (eqb_tells other agent) [
    | inl h ↦ rw h.0 (subst (λ (who : ℕ).
        departed_in (told_at (is_away (standing (bare (timed.pasts agent)))) agent inner.times).departed who
        ≡ departed_at (ToldAt (timed.pasts agent) timed.turn command
        (glance_then (world_in first) timed (timed.state.position agent) command))) (sym h.1)
        (own_by agent within (is_away (standing (bare (timed.pasts agent))))))
    | inr h ↦ rw h.0 (told_other (is_away (standing (bare (timed.pasts agent)))) agent other inner.times h.1
        ∙ is.departed other below)
  ]

  -- times that stand as a timed execution does
  abbrev TimesAre : Timed → TimedState → Type 0
  TimesAre times after = (times.turn ≡ after.turn)
      × ((other : ℕ) → other < first.setup.agents → departed_in times.departed other ≡ departed_at (after.pasts other))
      × (length times.departed ≡ first.setup.agents)

  told_by : (inner' : LockedState) (pass pass' : Passed) (command : Command) (answer : Answer) →
      agrees inner pass ≡ true →
      IsHeardBy inner pass command answer inner' pass' →
      Alike first (timed_next (world_in first) held schedule timed (Says pass.agent command)) inner'
  told_by inner' pass pass' command answer agreed by =
      let agent = pass.agent in
      let agents : inner.play.setup.agents ≡ first.setup.agents = ap (λ (setup : Setup). setup.agents) is.setup in
      let within : agent < first.setup.agents = subst (λ (n : ℕ). agent < n) agents
      (has_agreed inner pass agreed).agent in
      let is_heard : is_some answer.place ≡ heard (world_in first) timed.state agent command =
      is_some_if _ _ answer.place by.told.at
      ∙ ap₂ (λ (world : World) (state : State). heard world state agent command)
      (same_world first timed inner is) is.state in
      let times : inner'.times ≡ (if heard (world_in first) timed.state agent command
      then told_at (is_away (standing (bare (timed.pasts agent)))) agent inner.times else inner.times) =
      by.times
      ∙ ap₂ (λ (some away : Bool). if some then told_at away agent inner.times else inner.times) is_heard
      (away_by first timed inner is agent) in
      let told : TimesAre (cond (heard (world_in first) timed.state agent command)
      (told_at (is_away (standing (bare (timed.pasts agent)))) agent inner.times) inner.times)
      (happened (world_in first) timed (Tell agent command)) =
      cond_alike TimesAre (heard (world_in first) timed.state agent command)
      (heard (world_in first) timed.state agent command) _ _ _ _ refl
      (λ yes. (
        told_turn _ agent inner.times ∙ is.turn,
        told_departed agent command within,
        length_told _ agent inner.times ∙ is.long,
      ))
      (λ no. (is.turn, is.departed, is.long)) in
      record {
        net = ap (λ (play : Play). play.net) by.told.grown ∙ is.net;
        setup = ap (λ (play : Play). play.setup) by.told.grown ∙ is.setup;
        state = state_after first timed inner is (Tell agent command) _ inner'.play by.told.grown;
        turn = ap (λ (some : Timed). some.turn) times ∙ told.0;
        departed = λ other below.
            ap (λ (some : Timed). departed_in some.departed other) times ∙ told.1 other below;
        long = ap (λ (some : Timed). length some.departed) times ∙ told.2;
        stamped = next_stamped (world_in first) held schedule timed (Says agent command) is.stamped;
      }

  told_alike : (inner' : LockedState) (agent : ℕ) (command : Command) → IsToldCall inner agent command inner' →
      Alike first (timed_next (world_in first) held schedule timed (Says agent command)) inner'
  told_alike inner' agent command call =
      subst (λ (who : ℕ). Alike first (timed_next (world_in first) held schedule timed
      (Says who command)) inner') call.own
      (told_by inner' call.pass call.pass' command call.answer call.agreed call.heard)

-- ---- a turn

happened_turn : (world : World) (timed : TimedState) (event : Option Event) →
    (happened_if world timed event).turn ≡ timed.turn
happened_turn world timed event = grind (arith, arrived_turn)

-- what a turn makes of the timed views, and the agent that is seen to arrive: nobody, or the one that is picked
abbrev Comes : TimedState → (who : ℕ) → TimedState → Drawn → Type 0
Comes timed who after drawn =
    ((arrived_by after.state drawn ≡ None) × ((other : ℕ) → after.pasts other ≡ timed.pasts other))
    ⊎ ((arrived_by after.state drawn ≡ Some who) × ((departed_at (after.pasts who) ≡ timed.turn)
    × ((other : ℕ) → (other ≡ who → ⊥) → after.pasts other ≡ timed.pasts other)))

module _ (world : World) (held : Held) (timed : TimedState) (who : ℕ) where
  come_by : (position : Position) →
      Comes timed who (arrived_then world timed who position) (if is_bound position then Delivered who else Nobody)
  come_by (Bound node port) =
      let own : (who == who) ≡ true = eq-eqb who who refl in
      inr (rw own refl, (rw own refl, λ other apart. rw (ne_eqb other who apart) refl))
  come_by Before = inl (refl, λ other. refl)
  come_by (At node came) = inl (refl, λ other. refl)
  come_by After = inl (refl, λ other. refl)

  stays_by : (bound : Bool) → is_bound (timed.state.position who) ≡ bound →
      arrived_by timed.state (if bound then Delivered who else Nobody) ≡ None
  stays_by true e = cond-true _ _ _ e
  stays_by false e = refl

  deliver_comes : Comes timed who (happened world timed (Deliver who))
      (if is_bound (timed.state.position who) then Delivered who else Nobody)
  deliver_comes =
      cond_both (arrives world timed.state who) (arrived_then world timed who (timed.state.position who)) timed
      (λ (after : TimedState). Comes timed who after
      (if is_bound (timed.state.position who) then Delivered who else Nobody))
      (λ yes. come_by (timed.state.position who))
      (λ no. inl (stays_by (is_bound (timed.state.position who)) refl, λ other. refl))

  kept_comes : (kept : Bool) → Comes timed who (happened_if world timed (if kept then None else Some (Deliver who)))
      (if kept then Stays else (if is_bound (timed.state.position who) then Delivered who else Nobody))
  kept_comes true = inl (refl, λ other. refl)
  kept_comes false = deliver_comes

  closed_comes : (closed : Bool) → Comes timed who
      (happened_if world timed (if closed then None else delivery_if held timed.state who true))
      (if closed then Nobody else (if is_held held (timed.state.position who) then Stays
      else (if is_bound (timed.state.position who) then Delivered who else Nobody)))
  closed_comes true = inl (refl, λ other. refl)
  closed_comes false = kept_comes (is_held held (timed.state.position who))

  ready_comes : (ready : Bool) → Comes timed who
      (happened_if world timed (if timed.state.closed then None else delivery_if held timed.state who ready))
      (if ready then delivered_to held timed.state who else Nobody)
  ready_comes true = closed_comes timed.state.closed
  ready_comes false =
      cond_both timed.state.closed None None
      (λ (event : Option Event). Comes timed who (happened_if world timed event) Nobody)
      (λ yes. inl (refl, λ other. refl)) (λ no. inl (refl, λ other. refl))

below_all : (word agents : ℕ) → 0 < agents → word % agents < agents
below_all word agents some = omega arith

counted : (turn : ℕ) → turn < 2 ^ 32 - 1 → min (turn + 1) (2 ^ 32 - 1) ≡ turn + 1
counted turn few = omega arith

stepped_turn : (arrived : Option ℕ) (times : Timed) → (stepped_if arrived times).turn ≡ times.turn
stepped_turn None times = refl
stepped_turn (Some agent) times = refl

module _ (terms : TurnTerms) (first : Play) (timed : TimedState) (inner inner' : LockedState)
    (is : Alike first timed inner)
    (call : IsTurnCall terms inner inner') (some : 0 < first.setup.agents) (few : timed.turn < 2 ^ 32 - 1) where
  abbrev who_next : ℕ
  who_next = (schedule_in terms first).picked timed.turn

  within : who_next < first.setup.agents
  within = below_all _ first.setup.agents some

  same_agents : inner.play.setup.agents ≡ first.setup.agents
  same_agents = ap (λ (setup : Setup). setup.agents) is.setup

  abbrev dealt_by : ChaCha
  dealt_by = dealer_at terms.seed terms.stream inner.times.turn

  same_event : delivery_in terms.held (schedule_by dealt_by inner.play.setup.agents terms.law) (state_of inner.play)
      (departed_in inner.times.departed) inner.times.turn
      ≡ delivery_now terms.held (schedule_in terms first) timed
  same_event =
      ap (λ (agents : ℕ). delivery_in terms.held (schedule_by dealt_by agents terms.law) (state_of inner.play)
      (departed_in inner.times.departed) inner.times.turn) same_agents
      ∙ ap₂ (λ (state : State) (turn : ℕ). delivery_in terms.held (schedule_in terms first) state
      (departed_in inner.times.departed) turn) is.state is.turn
      ∙ ap (λ (departed : ℕ). if timed.state.closed then None
      else delivery_if terms.held timed.state who_next ((schedule_in terms first).ready who_next departed timed.turn))
      (is.departed who_next within)

  abbrev drawn_next : Drawn
  drawn_next =
      if (schedule_in terms first).ready who_next (departed_at (timed.pasts who_next)) timed.turn
      then delivered_to terms.held timed.state who_next else Nobody

  same_drawn : call.drawn ≡ drawn_next
  same_drawn =
      call.is_drawn
      ∙ ap (λ (agents : ℕ). drawn_in terms.held (schedule_by dealt_by agents terms.law) (state_of inner.play)
      (departed_in inner.times.departed) inner.times.turn) same_agents
      ∙ ap₂ (λ (state : State) (turn : ℕ). drawn_in terms.held (schedule_in terms first) state
      (departed_in inner.times.departed) turn) is.state is.turn
      ∙ ap (λ (departed : ℕ). if (schedule_in terms first).ready who_next departed timed.turn
      then delivered_to terms.held timed.state who_next else Nobody) (is.departed who_next within)

  abbrev after_next : TimedState
  after_next = happened_if (world_in first) timed (delivery_now terms.held (schedule_in terms first) timed)

  after_event : (event : Option Event) → IsPlayedIf inner.play event inner'.play →
      (inner'.play.net ≡ first.net) × (inner'.play.setup ≡ first.setup)
      × (state_of inner'.play ≡ (happened_if (world_in first) timed event).state)
  after_event None same = (
    ap (λ (play : Play). play.net) same ∙ is.net,
    ap (λ (play : Play). play.setup) same ∙ is.setup,
    ap (λ (play : Play). state_of play) same ∙ is.state,
  )
  after_event (Some event) played = (
    played.1.net ∙ is.net,
    played.1.setup ∙ is.setup,
    state_after first timed inner is event played.0.mark inner'.play
        (same_play inner'.play inner.play _ played.1.net played.1.setup played.1.log),
  )

  played_next : (inner'.play.net ≡ first.net) × (inner'.play.setup ≡ first.setup)
      × (state_of inner'.play ≡ after_next.state)
  played_next =
      after_event (delivery_now terms.held (schedule_in terms first) timed)
      (subst (λ (event : Option Event). IsPlayedIf inner.play event inner'.play) same_event call.played)

  same_times : inner'.times ≡ turned (arrived_by after_next.state drawn_next) inner.times
  same_times =
      call.times
      ∙ ap₂ (λ (state : State) (drawn : Drawn). turned (arrived_by state drawn) inner.times) played_next.2 same_drawn

  departed_next : (other : ℕ) → other < first.setup.agents →
      Comes timed who_next after_next drawn_next →
      departed_in (turned (arrived_by after_next.state drawn_next) inner.times).departed other
      ≡ departed_at (after_next.pasts other)
  departed_next other below (inl none) =
      ap (λ (arrived : Option ℕ). departed_in (turned arrived inner.times).departed other) none.0
      ∙ is.departed other below ∙ sym (ap departed_at (none.1 other))
  departed_next other below (inr come) =
      ap (λ (arrived : Option ℕ). departed_in (turned arrived inner.times).departed other) come.0
      ∙ elim (eqb_tells other who_next) [
        | inl h ↦ subst (λ (agent : ℕ). departed_in (stepped who_next inner.times).departed agent
            ≡ departed_at (after_next.pasts agent)) (sym h.1)
            (stepped_own who_next inner.times long_next ∙ is.turn ∙ sym come.1.0)
        | inr h ↦ stepped_other who_next other inner.times h.1 ∙ is.departed other below
            ∙ sym (ap departed_at (come.1.1 other h.1))
      ]
    where
      long_next : who_next < length inner.times.departed
      long_next = subst (λ (n : ℕ). who_next < n) (sym is.long) within

  turn_alike : Alike first (timed_next (world_in first) terms.held (schedule_in terms first) timed Passes) inner'
  turn_alike = record {
    net = played_next.0;
    setup = played_next.1;
    state = played_next.2;
    turn =
        ap (λ (times : Timed). times.turn) same_times
        ∙ ap (λ (turn : ℕ). min (turn + 1) (2 ^ 32 - 1)) (stepped_turn _ inner.times ∙ is.turn)
        ∙ counted timed.turn few
        ∙ ap (λ (turn : ℕ). turn + 1) (sym (happened_turn (world_in first) timed
        (delivery_now terms.held (schedule_in terms first) timed)));
    departed = λ other below.
        ap (λ (times : Timed). departed_in times.departed other) same_times
        ∙ departed_next other below (ready_comes (world_in first) terms.held timed who_next
        ((schedule_in terms first).ready who_next (departed_at (timed.pasts who_next)) timed.turn));
    long = ap (λ (times : Timed). length times.departed) same_times ∙ length_turned _ inner.times ∙ is.long;
    stamped = next_stamped (world_in first) terms.held (schedule_in terms first) timed Passes is.stamped;
  }

-- ---- calls

-- an act takes at most one turn
turn_grows : (world : World) (held : Held) (schedule : Schedule) (timed : TimedState) (act : TimedAct) →
    (timed_next world held schedule timed act).turn ≤ timed.turn + 1
turn_grows world held schedule timed (Says agent command) =
    let same = happened_turn world timed (Some (Tell agent command)) in omega (arith, same)
turn_grows world held schedule timed Passes =
    let same = happened_turn world timed (delivery_now held schedule timed) in omega (arith, same)
turn_grows world held schedule timed Ends = omega arith

one_alike : (terms : TurnTerms) (first : Play) (timed : TimedState) (inner inner' : LockedState) (act : TimedAct) →
    0 < first.setup.agents → timed.turn < 2 ^ 32 - 1 → Alike first timed inner → IsCall terms act inner inner' →
    Alike first (timed_next (world_in first) terms.held (schedule_in terms first) timed act) inner'
one_alike terms first timed inner inner' (Says agent command) some few is call =
    told_alike first terms.held (schedule_in terms first) timed inner is inner' agent command call
one_alike terms first timed inner inner' Passes some few is call =
    turn_alike terms first timed inner inner' is call some few
one_alike terms first timed inner inner' Ends some few is call =
    closed_alike first terms.held (schedule_in terms first) timed inner inner' is call

all_alike : (terms : TurnTerms) (first : Play) (timed : TimedState) (inner inner' : LockedState)
    (acts : List TimedAct) →
    0 < first.setup.agents → timed.turn + length acts < 2 ^ 32 - 1 → Alike first timed inner →
    AreCalls terms acts inner inner' →
    Alike first (timed_run_from (world_in first) terms.held (schedule_in terms first) timed acts) inner'
all_alike terms first timed inner inner' [] some few is same =
    subst (λ (there : LockedState). Alike first timed there) (sym same) is
all_alike terms first timed inner inner' (act ∷ acts) some few is calls =
    let next = timed_next (world_in first) terms.held (schedule_in terms first) timed act in
    let grows = turn_grows (world_in first) terms.held (schedule_in terms first) timed act in
    let now : timed.turn < 2 ^ 32 - 1 = omega arith in
    let later : next.turn + length acts < 2 ^ 32 - 1 = omega arith in
    all_alike terms first next calls.0 inner' acts some later
    (one_alike terms first timed inner calls.0 act some now is calls.1.0) calls.1.1

pub locked_matches_lemma : HallsAreTimedExecutions
locked_matches_lemma terms game play acts inner fresh some few calls =
    let end = all_alike terms play timed_initial (empty_locked_match game play) inner acts some (omega arith)
    (record {
      net = refl;
      setup = refl;
      state = ap (λ (log : List Kept). run (world_in play) (events_of log)) fresh;
      turn = refl;
      departed = λ agent below. zeros play.setup.agents agent;
      long = length-replicate play.setup.agents 0;
      stamped = initial_stamped;
    }) calls in
    record {
      state = end.state;
      turn = end.turn;
      departed = λ agent below. end.departed agent
          (subst (λ (n : ℕ). agent < n) (ap (λ (setup : Setup). setup.agents) end.setup) below);
    }
  where
    zeros : (agents agent : ℕ) → departed_in (replicate agents 0) agent ≡ 0
    zeros zero agent = refl
    zeros (suc agents) zero = refl
    zeros (suc agents) (suc agent) = zeros agents agent

-- the past of an agent under the lock is its timed view without the turns
past_under : (terms : TurnTerms) (game : ℕ) (play : Play) (acts : List TimedAct) (inner : LockedState) → play.log ≡ [] →
    0 < play.setup.agents → length acts < 2 ^ 32 - 1 → AreCalls terms acts (empty_locked_match game play) inner →
    (agent : ℕ) → (state_of inner.play).past agent
    ≡ bare ((timed_run (world_in play) terms.held (schedule_in terms play) acts).pasts agent)
past_under terms game play acts inner fresh some few calls agent =
    ap (λ (state : State). state.past agent)
    (locked_matches_lemma terms game play acts inner fresh some few calls).state
    ∙ sym ((clocks_only_stamp_lemma (world_in play) terms.held (schedule_in terms play) acts).pasts agent)

pub waits_lemma : EqualWaitsUnderLocks
waits_lemma terms others game number play twin acts sequel inner there fresh some few calls fresh_too some_too few_too
    calls_too same agent before turn later sight seen arrived came = record {
      past = past_under terms game play acts inner fresh some few calls agent ∙ ap bare arrived;
      other_past = past_under others number twin sequel there fresh_too some_too few_too calls_too agent ∙ ap bare came;
      turns = equal_waits_lemma (schedule_in terms play) (world_in play) terms.held acts (world_in twin) others.held
          sequel agent before turn later sight seen arrived
          (subst (λ (schedule : Schedule). (timed_run (world_in twin) others.held schedule sequel).pasts agent
          ≡ ArrivedAt before later seen) (sym same) came);
    }
