-- A log that all agents follow is a schedule: by induction on its length.
use Rattle.std.proofs.Common.{ℕ, zero, suc, ◌-◌, ◌<◌, ◌≤◌, ◌≡◌, ◌∙◌, Bool, true, false, not, ◌&&◌, ◌||◌}
use Rattle.std.proofs.Common.{List, [], ◌∷◌, ◌++◌, ◌==◌, nat_lt, length, take, get_or, refl, sym, ap, inl, inr, subst}
use Rattle.std.proofs.Common.{arith, if◌then◌else◌, append-nil}
use Rattle.std.proofs.lemmas.Bool.{true≢false, false≢true, cond-true, cond-false, lt-ltb, ltb-true}
use Rattle.std.proofs.lemmas.Bool.Decides.{eqb_tells}
use Rattle.std.proofs.lemmas.List.{length-map, take_all}
use Rattle.bhs_model.specs.declared.commands.Command.{Command}
use Rattle.bhs_model.specs.declared.events.Event.{Event}
use Rattle.bhs_model.specs.declared.events.Event.TheVariants.{Tell, Deliver, Close}
use Rattle.bhs_model.specs.declared.marks.Kept.{Kept}
use Rattle.bhs_model.specs.Replying.{hears}
use Rattle.bhs_model.specs.Worlds.{World}
use Rattle.bhs_model.specs.Runs.{State, Position, Before, initial, changed, heard}
use Rattle.bhs_model.specs.Runs.{next, reply, run, is_doomed, is_let_through}
use Rattle.bhs_model.specs.Kept.{keeps, kept, lost}
use Rattle.bhs_model.specs.Draws.{Held}
use Rattle.bhs_model.specs.Marks.{events_of}
use Rattle.bhs_model.proofs.StepLemmas.{by_cases, changed_same, changed_other}
use Rattle.bhs_model.proofs.KeptLemmas.{kept_suffice_lemma}
use Rattle.bhs_model.proofs.AddLemmas.{events_add_lemma}
use Rattle.bhs_match.specs.Matches.{Play, world_in}
use Rattle.bhs_schedules.specs.declared.answers.Step.{Step}
use Rattle.bhs_schedules.specs.declared.answers.Step.TheVariants.{Says, Sleeps}
use Rattle.bhs_schedules.specs.Strategies.{History, Strategies, Woke, hearing}
use Rattle.bhs_schedules.specs.Schedules.{Trial, Scene, opening, Action, Makes, Wakes, Rests, action_at, deed, done}
use Rattle.bhs_schedules.specs.Schedules.{turn, under}
use Rattle.bhs_schedules.proofs.Turns.{run_more, changed_itself, turns_append}
use Rattle.bhs_agents.specs.WakeUps.{wake_ups_in}
use Rattle.bhs_attest.specs.Attested.{Player, is_listening, Idles, starts, wakes, is_refused, GoesOn}
use Rattle.bhs_attest.specs.Attested.{FollowsTo}
use Rattle.bhs_attest.specs.Laws.{AreOverFree, HasEnded, trial_in, player_of, IsSchedule, FollowedLogsAreSchedules}
use Rattle.bhs_attest.proofs.LogLemmas.{same_event, event_there, free_at}
use Rattle.bhs_attest.proofs.Untouched.{all_out}
use Rattle.bhs_attest.proofs.Deeds.{by_agent, IsFor, open_by, says_deed, wakes_deed, delivers_deed}
use Rattle.bhs_attest.proofs.WakeUpBounds.{woken_few}

-- a match keeps no delivery of an agent that has not entered
not_delivered : (world : World) (state : State) (marks : ℕ → Bool) (agent : ℕ) → state.position agent ≡ Before
    → keeps world state marks (Deliver agent) ≡ false
not_delivered world state marks agent before =
    ap (λ (position : Position). (not state.closed && is_let_through world position)
    || ((not state.closed && is_doomed world position) && not (marks agent))) before ∙ never state.closed (marks agent)
  where
    never : (closed is_lost : Bool) → ((not closed && false) || ((not closed && false) && not is_lost)) ≡ false
    never true is_lost = refl
    never false is_lost = refl

-- only a Close closes a match
closes_by : (world : World) (state : State) (event : Event) → state.closed ≡ false
    → (next world state event).closed ≡ true → event ≡ Close
closes_by world state (Tell agent command) open_before closed =
    absurd (false≢true (sym open_before ∙ sym (open_by world state agent (Tell agent command) refl) ∙ closed))
closes_by world state (Deliver agent) open_before closed =
    absurd (false≢true (sym open_before ∙ sym (open_by world state agent (Deliver agent) refl) ∙ closed))
closes_by world state Close open_before closed = refl

module _ (play : Play) (held : Held) (wakeups : ℕ) (strategies : Strategies) where
  abbrev trial : Trial
  trial = trial_in play held wakeups strategies

  abbrev world : World
  world = world_in play

  abbrev events : List Event
  events = events_of play.log

  abbrev player : ℕ → Player
  player = player_of strategies wakeups

  -- how the match stands before the event at a place
  abbrev state_to : ℕ → State
  state_to place = run world (take place events)

  -- a schedule that has come to a place of the log, with these histories
  record Reached (place : ℕ) (histories : ℕ → History) : Type 0 where
    scene : Scene
    schedule : List ℕ
    is : under trial schedule ≡ scene
    kept : kept world scene.events ≡ kept world (take place events)
    open_still : (run world scene.events).closed ≡ false
    same : (agent : ℕ) → agent < play.setup.agents → scene.history agent ≡ histories agent

  state_is : (place : ℕ) (histories : ℕ → History) (r : Reached place histories)
      → run world r.scene.events ≡ state_to place
  state_is place histories r =
      sym (kept_suffice_lemma world r.scene.events).state ∙ ap (run world) r.kept
      ∙ (kept_suffice_lemma world (take place events)).state

  lost_is : (place : ℕ) (histories : ℕ → History) (r : Reached place histories)
      → lost world r.scene.events ≡ lost world (take place events)
  lost_is place histories r =
      sym (kept_suffice_lemma world r.scene.events).lost ∙ ap (lost world) r.kept
      ∙ (kept_suffice_lemma world (take place events)).lost

  deed_by : (place : ℕ) (histories : ℕ → History) (r : Reached place histories) (agent : ℕ) (step : Step)
      (action : Action) → agent < play.setup.agents → strategies agent (histories agent) ≡ step
      → action_at held wakeups ((state_to place).position agent) (r.scene.woken agent) step agent ≡ action
      → deed trial r.scene agent ≡ action
  deed_by place histories r agent step action within takes does =
      cond-true (nat_lt agent play.setup.agents) _ Rests (lt-ltb agent play.setup.agents within)
      ∙ ap (λ (state : State). action_at held wakeups (state.position agent) (r.scene.woken agent)
      (strategies agent (r.scene.history agent)) agent) (state_is place histories r)
      ∙ ap (λ (it : Step). action_at held wakeups ((state_to place).position agent) (r.scene.woken agent) it agent)
      (ap (strategies agent) (r.same agent within) ∙ takes)
      ∙ does

  turned : (scene : Scene) (schedule : List ℕ) (agent : ℕ) (action : Action) → under trial schedule ≡ scene
      → deed trial scene agent ≡ action → under trial (schedule ++ agent ∷ []) ≡ done trial scene agent action
  turned scene schedule agent action is does =
      turns_append trial opening schedule (agent ∷ []) ∙ ap (λ (from : Scene). turn trial from agent) is
      ∙ ap (done trial scene agent) does

  -- an agent takes a turn with an event; the match keeps it or refuses it
  event_turn : (place further : ℕ) (old new : ℕ → History) (r : Reached place old) (agent : ℕ) (event : Event)
      → IsFor agent event → deed trial r.scene agent ≡ Makes event
      → kept world (take place events)
      ++ (if keeps world (state_to place) (lost world (take place events)) event then event ∷ [] else [])
      ≡ kept world (take further events)
      → hearing (reply world (state_to place) event) (old agent) ≡ new agent → agent < play.setup.agents
      → ((other : ℕ) → (other == agent) ≡ false → other < play.setup.agents → old other ≡ new other)
      → Reached further new
  event_turn place further old new r agent event own does chosen hears below others =
      let scene : Scene = r.scene in
      record {
        scene = done trial scene agent (Makes event);
        schedule = r.schedule ++ agent ∷ [];
        is = turned scene r.schedule agent (Makes event) r.is does;
        kept = (events_add_lemma world scene.events event).log
            ∙ (λ i. r.kept i ++ (if keeps world (state_is place old r i) (lost_is place old r i) event
            then event ∷ [] else [])) ∙ chosen;
        open_still = ap (λ (state : State). state.closed) (run_more world scene.events event)
            ∙ open_by world (run world scene.events) agent event own ∙ r.open_still;
        same = λ other within. by_agent (λ (o : ℕ). o < play.setup.agents
            → changed scene.history agent (hearing (reply world (run world scene.events) event) (scene.history agent)) o
            ≡ new o) agent other
            (λ here. changed_same scene.history agent _
            ∙ ap (λ (state : State). hearing (reply world state event) (scene.history agent)) (state_is place old r)
            ∙ ap (hearing (reply world (state_to place) event)) (r.same agent below) ∙ hears)
            (λ apart here. changed_other scene.history agent other _ apart ∙ r.same other here
            ∙ others other apart here) within;
      }

  -- ---- turns that change nothing but a history

  wake_turn : (place : ℕ) (old : ℕ → History) (r : Reached place old) (agent : ℕ) → agent < play.setup.agents
      → is_listening ((state_to place).position agent) ≡ true → strategies agent (old agent) ≡ Sleeps
      → (wake_ups_in (old agent)).in_a_row ≤ wakeups → Reached place (changed old agent (Woke ∷ old agent))
  wake_turn place old r agent within listens sleeps few =
      let scene : Scene = r.scene in
      let count : scene.woken agent ≤ (wake_ups_in (old agent)).in_a_row =
      subst (λ (history : History). scene.woken agent ≤ (wake_ups_in history).in_a_row) (r.same agent within)
      (subst (λ (now : Scene). now.woken agent ≤ (wake_ups_in (now.history agent)).in_a_row) r.is
      (woken_few trial r.schedule agent)) in
      record {
        scene = done trial scene agent Wakes;
        schedule = r.schedule ++ agent ∷ [];
        is = turned scene r.schedule agent Wakes r.is (deed_by place old r agent Sleeps Wakes within sleeps
            (wakes_deed held wakeups ((state_to place).position agent) (scene.woken agent) agent listens
            (omega (arith, count, few))));
        kept = r.kept;
        open_still = r.open_still;
        same = λ other below. by_agent (λ (o : ℕ). o < play.setup.agents
            → changed scene.history agent (Woke ∷ scene.history agent) o ≡ changed old agent (Woke ∷ old agent) o)
            agent other
            (λ here. changed_same scene.history agent _
            ∙ ap (λ (history : History). Woke ∷ history) (r.same agent within)
            ∙ sym (changed_same old agent _))
            (λ apart here. changed_other scene.history agent other _ apart ∙ r.same other here
            ∙ sym (changed_other old agent other _ apart)) below;
      }

  refused_turn : (place : ℕ) (old : ℕ → History) (r : Reached place old) (agent : ℕ) (command : Command)
      → agent < play.setup.agents → is_listening ((state_to place).position agent) ≡ true
      → strategies agent (old agent) ≡ Says command → heard world (state_to place) agent command ≡ false
      → Reached place (changed old agent (hearing (reply world (state_to place) (Tell agent command)) (old agent)))
  refused_turn place old r agent command within listens says unheard =
      event_turn place place old _ r agent (Tell agent command) refl
      (deed_by place old r agent (Says command) (Makes (Tell agent command)) within says
      (says_deed held wakeups ((state_to place).position agent) (r.scene.woken agent) command agent listens))
      (ap (λ (more : List Event). kept world (take place events) ++ more) (cond-false _ _ _ unheard)
      ∙ append-nil (kept world (take place events)))
      (sym (changed_same old agent _)) within (λ other apart here. sym (changed_other old agent other _ apart))

  -- Reached depends on the histories of the match's agents alone
  renamed : (place : ℕ) (old new : ℕ → History) → Reached place old
      → ((agent : ℕ) → agent < play.setup.agents → old agent ≡ new agent) → Reached place new
  renamed place old new r equal = record {
    scene = r.scene;
    schedule = r.schedule;
    is = r.is;
    kept = r.kept;
    open_still = r.open_still;
    same = λ agent within. r.same agent within ∙ equal agent within;
  }

  twice_changed : (old : ℕ → History) (agent : ℕ) (one two : History) (other : ℕ)
      → changed (changed old agent one) agent two other ≡ changed old agent two other
  twice_changed old agent one two other = by_agent (λ (o : ℕ). changed (changed old agent one) agent two o
      ≡ changed old agent two o) agent other
      (changed_same (changed old agent one) agent two ∙ sym (changed_same old agent two))
      (λ apart. changed_other (changed old agent one) agent other two apart
      ∙ changed_other old agent other one apart ∙ sym (changed_other old agent other two apart))

  idle_turns : (place : ℕ) (old : ℕ → History) (r : Reached place old) (agent : ℕ) → agent < play.setup.agents
      → is_listening ((state_to place).position agent) ≡ true → (history : History)
      → Idles (player agent) world (state_to place) (old agent) history → Reached place (changed old agent history)
  idle_turns place old r agent within listens history starts =
      renamed place old (changed old agent (old agent)) r
      (λ other below. sym (changed_itself old agent (old agent) other refl))
  idle_turns place old r agent within listens history (wakes before idles sleeps few) =
      let there = idle_turns place old r agent within listens before idles in
      let own : changed old agent before agent ≡ before = changed_same old agent before in
      renamed place _ (changed old agent (Woke ∷ before))
      (wake_turn place (changed old agent before) there agent within listens
      (ap (strategies agent) own ∙ sleeps)
      (subst (λ (h : History). (wake_ups_in h).in_a_row ≤ wakeups) (sym own) few))
      (λ other below. ap (λ (h : History). changed (changed old agent before) agent (Woke ∷ h) other) own
      ∙ twice_changed old agent before (Woke ∷ before) other)
  idle_turns place old r agent within listens history (is_refused before command idles says unheard) =
      let there = idle_turns place old r agent within listens before idles in
      let own : changed old agent before agent ≡ before = changed_same old agent before in
      renamed place _ (changed old agent (hearing (reply world (state_to place) (Tell agent command)) before))
      (refused_turn place (changed old agent before) there agent command within listens
      (ap (strategies agent) own ∙ says) unheard)
      (λ other below. ap (λ (h : History). changed (changed old agent before) agent
      (hearing (reply world (state_to place) (Tell agent command)) h) other) own
      ∙ twice_changed old agent before _ other)

  -- ---- the events of the log

  unkept : (place : ℕ) (old new : ℕ → History) → Reached place old
      → kept world (take (suc place) events) ≡ kept world (take place events)
      → ((agent : ℕ) → agent < play.setup.agents → old agent ≡ new agent) → Reached (suc place) new
  unkept place old new r same equal = record {
    scene = r.scene;
    schedule = r.schedule;
    is = r.is;
    kept = r.kept ∙ sym same;
    open_still = r.open_still;
    same = λ agent within. r.same agent within ∙ equal agent within;
  }

  -- what a match keeps of one event more
  kept_there : (place : ℕ) (event : Event) → take (suc place) events ≡ take place events ++ event ∷ []
      → kept world (take place events)
      ++ (if keeps world (state_to place) (lost world (take place events)) event then event ∷ [] else [])
      ≡ kept world (take (suc place) events)
  kept_there place event there =
      sym (events_add_lemma world (take place events) event).log ∙ ap (kept world) (sym there)

  none_kept : (place : ℕ) (event : Event) → take (suc place) events ≡ take place events ++ event ∷ []
      → keeps world (state_to place) (lost world (take place events)) event ≡ false
      → kept world (take (suc place) events) ≡ kept world (take place events)
  none_kept place event there is =
      sym (kept_there place event there)
      ∙ ap (λ (more : List Event). kept world (take place events) ++ more) (cond-false _ _ _ is)
      ∙ append-nil (kept world (take place events))

  -- the number of an agent of the match is below the number of agents
  apart_beyond : (agent other : ℕ) → nat_lt agent play.setup.agents ≡ false → other < play.setup.agents
      → (other == agent) ≡ false
  apart_beyond agent other beyond within = elim (eqb_tells other agent) [
    | inl h ↦ absurd (true≢false (sym (lt-ltb other play.setup.agents within)
        ∙ ap (λ (n : ℕ). nat_lt n play.setup.agents) h.1 ∙ beyond))
    | inr h ↦ h.0
  ]

  -- what an event makes of the histories of all agents
  abbrev AllGoOn : (place : ℕ) → Event → (old new : ℕ → History) → Type 0
  AllGoOn place event old new = (agent : ℕ) → agent < play.setup.agents
      → GoesOn (player agent) world (state_to place) event (old agent) (new agent)

  tell_goes : (place : ℕ) (agent : ℕ) (command : Command) (old new : ℕ → History)
      → take (suc place) events ≡ take place events ++ Tell agent command ∷ []
      → AllGoOn place (Tell agent command) old new → Reached place old → Reached (suc place) new
  tell_goes place agent command old new there goes r =
      by_cases (nat_lt agent play.setup.agents) (Reached (suc place) new)
      (λ is_below.
      let below : agent < play.setup.agents = ltb-true agent play.setup.agents is_below in
      let own = (goes agent below).says command refl in
      let idled = idle_turns place old r agent below own.listens own.history own.idles in
      let now : changed old agent own.history agent ≡ own.history = changed_same old agent own.history in
      event_turn place (suc place) (changed old agent own.history) new idled agent (Tell agent command) refl
      (deed_by place (changed old agent own.history) idled agent (Says command) (Makes (Tell agent command)) below
      (ap (strategies agent) now ∙ own.says)
      (says_deed held wakeups ((state_to place).position agent) (idled.scene.woken agent) command agent own.listens))
      (kept_there place (Tell agent command) there)
      (ap (hearing (reply world (state_to place) (Tell agent command))) now ∙ sym own.hears) below
      (λ other apart here. changed_other old agent other _ apart ∙ sym ((goes other here).others apart)))
      (λ beyond. unkept place old new r
      (none_kept place (Tell agent command) there (ap (λ (b : Bool).
      b && (not (state_to place).closed && hears world.quota ((state_to place).past agent) command)) beyond))
      (λ other here. sym ((goes other here).others (apart_beyond agent other beyond here))))

  deliver_goes : AreOverFree held world initial events → (place : ℕ) (agent : ℕ) (old new : ℕ → History)
      → take (suc place) events ≡ take place events ++ Deliver agent ∷ []
      → AllGoOn place (Deliver agent) old new → Reached place old → Reached (suc place) new
  deliver_goes free place agent old new there goes r =
      by_cases (nat_lt agent play.setup.agents) (Reached (suc place) new)
      (λ is_below.
      let below : agent < play.setup.agents = ltb-true agent play.setup.agents is_below in
      let own = (goes agent below).arrives refl in
      event_turn place (suc place) old new r agent (Deliver agent) refl
      (deed_by place old r agent (strategies agent (old agent)) (Makes (Deliver agent)) below refl
      (delivers_deed held wakeups ((state_to place).position agent) (r.scene.woken agent) (strategies agent (old agent))
      agent own.0 (free_at held world initial events place (Deliver agent) free there)))
      (kept_there place (Deliver agent) there) (sym own.1) below
      (λ other apart here. sym ((goes other here).others apart)))
      (λ beyond. unkept place old new r
      (none_kept place (Deliver agent) there
      (not_delivered world (state_to place) (lost world (take place events)) agent
      (all_out world (take place events) agent beyond)))
      (λ other here. sym ((goes other here).others (apart_beyond agent other beyond here))))

  event_goes : AreOverFree held world initial events → 1 ≤ play.setup.agents → (place : ℕ) (event : Event)
      (old new : ℕ → History) → take (suc place) events ≡ take place events ++ event ∷ []
      → AllGoOn place event old new → Reached place old → Reached (suc place) new
  event_goes free some place (Tell agent command) old new there goes r =
      tell_goes place agent command old new there goes r
  event_goes free some place (Deliver agent) old new there goes r =
      deliver_goes free place agent old new there goes r
  event_goes free some place Close old new there goes r =
      let first : 0 < play.setup.agents = omega (arith, some) in absurd ((goes 0 first).goes_on refl)

  -- ---- the whole log

  -- the history of an agent at a place, if the match has an agent of this number
  record Known (place agent : ℕ) : Type 0 where
    history : History
    is : agent < play.setup.agents → FollowsTo (player agent) world events place history

  record Stepped (place agent : ℕ) (new : History) : Type 0 where
    old : History
    is : agent < play.setup.agents → FollowsTo (player agent) world events place old
        × GoesOn (player agent) world (state_to place) (get_or events place Close) old new

  stepped : (place : ℕ) → place < length events → (agent : ℕ) (k : Known (suc place) agent)
      → Stepped place agent k.history
  stepped place within agent k = choose (nat_lt agent play.setup.agents) refl
    where
      choose : (b : Bool) → nat_lt agent play.setup.agents ≡ b → Stepped place agent k.history
      choose true below =
          let f = k.is (ltb-true agent play.setup.agents below) in
          record {
            old = f.0;
            is = λ _. (
              f.3,
              subst (λ (event : Event). GoesOn (player agent) world (state_to place) event f.0 k.history)
                  (same_event events place f.1 (get_or events place Close) f.2 (event_there events place within)) f.4,
            );
          }
      choose false beyond = record {
        old = [];
        is = λ below. absurd (true≢false (sym (lt-ltb agent play.setup.agents below) ∙ beyond));
      }

  reaches : AreOverFree held world initial events → 1 ≤ play.setup.agents → (place : ℕ) → place ≤ length events
      → (all : (agent : ℕ) → Known place agent) → Reached place (λ agent. (all agent).history)
  reaches free some zero within all = record {
    scene = opening;
    schedule = [];
    is = refl;
    kept = refl;
    open_still = refl;
    same = λ agent below. sym ((all agent).is below);
  }
  reaches free some (suc place) within all =
      let below : place < length events = omega (arith, within) in
      let before : place ≤ length events = omega (arith, within) in
      event_goes free some place (get_or events place Close)
      (λ agent. (stepped place below agent (all agent)).old) (λ agent. (all agent).history)
      (event_there events place below) (λ agent here. ((stepped place below agent (all agent)).is here).1)
      (reaches free some place before (λ agent. record {
        history = (stepped place below agent (all agent)).old;
        is = λ here. ((stepped place below agent (all agent)).is here).0;
      }))

  known : (place : ℕ) → ((agent : ℕ) → agent < play.setup.agents
      → (history : History) × FollowsTo (player agent) world events place history) → (agent : ℕ) → Known place agent
  known place all agent = choose (nat_lt agent play.setup.agents) refl
    where
      choose : (b : Bool) → nat_lt agent play.setup.agents ≡ b → Known place agent
      choose true below =
          let f = all agent (ltb-true agent play.setup.agents below) in record { history = f.0; is = λ _. f.1 }
      choose false beyond = record {
        history = [];
        is = λ below. absurd (true≢false (sym (lt-ltb agent play.setup.agents below) ∙ beyond));
      }

  -- the log ends with a Close, and a schedule leads to the events before this Close
  ends : (histories : ℕ → History) (place : ℕ) (last : Event) → HasEnded play → Reached place histories
      → events ≡ take place events ++ last ∷ [] → IsSchedule trial events
  ends histories place last ended r split =
      let before : List Event = take place events in
      let open_still : (state_to place).closed ≡ false =
      ap (λ (state : State). state.closed) (sym (state_is place histories r)) ∙ r.open_still in
      let closed : (next world (state_to place) last).closed ≡ true =
      ap (λ (state : State). state.closed) (sym (run_more world before last) ∙ ap (run world) (sym split))
      ∙ ended.closed in
      let is_close : last ≡ Close = closes_by world (state_to place) last open_still closed in
      record {
        schedule = r.schedule;
        is = sym ended.kept ∙ ap (kept world) split ∙ (events_add_lemma world before last).log
            ∙ ap (λ (event : Event). kept world before
            ++ (if keeps world (state_to place) (lost world before) event then event ∷ [] else [])) is_close
            ∙ ap (λ (more : List Event). kept world before ++ more)
            (cond-true (not (state_to place).closed) _ _ (ap not open_still))
            ∙ ap (λ (front : List Event). front ++ Close ∷ [])
            (sym r.kept ∙ ap (λ (scene : Scene). kept world scene.events) (sym r.is));
      }

pub followed_logs_are_schedules_lemma : FollowedLogsAreSchedules
followed_logs_are_schedules_lemma play held wakeups strategies ended free all = by_log play.log refl
  where
    last_there : (one : Kept) (log : List Kept) → play.log ≡ one ∷ log
        → events_of play.log
        ≡ take (length play.log - 1) (events_of play.log)
        ++ get_or (events_of play.log) (length play.log - 1) Close ∷ []
    last_there one log is =
        let count : length (events_of play.log) ≡ length play.log =
        length-map play.log (λ (kept : Kept). kept.event) in
        let some : length play.log ≡ suc (length log) = ap length is in
        sym (take_all (suc (length play.log - 1)) (events_of play.log) (omega (arith, count, some)))
        ∙ event_there (events_of play.log) (length play.log - 1) (omega (arith, count, some))

    by_log : (log : List Kept) → play.log ≡ log
        → IsSchedule (trial_in play held wakeups strategies) (events_of play.log)
    by_log [] is = absurd (false≢true (sym (ap (λ (log : List Kept). (run (world_in play) (events_of log)).closed) is)
        ∙ ended.closed))
    by_log (one ∷ log) is =
        let count : length (events_of play.log) ≡ length play.log =
        length-map play.log (λ (kept : Kept). kept.event) in
        ends play held wakeups strategies _ (length play.log - 1) _ ended
        (reaches play held wakeups strategies free ended.some_agents (length play.log - 1) (omega (arith, count))
        (known play held wakeups strategies (length play.log - 1) all)) (last_there one log is)
