-- A settled log is a schedule: turn by turn a schedule comes to where the log does.
use Rattle.std.proofs.Common.{ℕ, ◌<◌, ◌≡◌, ◌∙◌, Bool, true, false, not, ◌&&◌, ◌||◌, Option, Some}
use Rattle.std.proofs.Common.{List, [], ◌∷◌, ◌++◌, nat_lt, refl, sym, ap, inl, inr, subst}
use Rattle.std.proofs.Common.{append_assoc, append-nil}
use Rattle.std.proofs.lemmas.Bool.{false≢true, cond-true, cond-false, ltb-true, and_parts}
use Rattle.std.proofs.lemmas.List.{append_cancel_left}
use Rattle.bhs_model.specs.declared.commands.Command.{Command}
use Rattle.bhs_model.specs.declared.events.Event.{Event}
use Rattle.bhs_model.specs.declared.events.Event.TheVariants.{Tell, Deliver, Close}
use Rattle.bhs_model.specs.declared.replies.Reply.{Reply}
use Rattle.bhs_model.specs.Views.{View, Told, Arrived, Glance, Sight, Standing, Outside, Present, Away, Ended, standing}
use Rattle.bhs_model.specs.Standings.{standing_at}
use Rattle.bhs_model.specs.Replying.{rep}
use Rattle.bhs_model.specs.Worlds.{World}
use Rattle.bhs_model.specs.Runs.{State, Position, Before, At, Bound, After, glance, sight_at, heard, arrives}
use Rattle.bhs_model.specs.Runs.{delivered, next, run, run_from, is_doomed, is_let_through}
use Rattle.bhs_model.specs.Kept.{keeps, kept_from, lost, lost_after}
use Rattle.bhs_model.specs.Draws.{is_held}
use Rattle.bhs_model.proofs.StepLemmas.{by_cases, changed_same, next_heard, next_arrived, next_no_arrival}
use Rattle.bhs_model.proofs.StepLemmas.{answered_by_past, arrival_by_past, no_arrival_no_reply}
use Rattle.bhs_model.proofs.KeptLemmas.{first_kept}
use Rattle.bhs_schedules.specs.declared.answers.Step.{Step}
use Rattle.bhs_schedules.specs.Strategies.{Heard, hearing}
use Rattle.bhs_schedules.specs.Schedules.{Trial, Scene, position_of, Makes, Rests, action_at, deed}
use Rattle.bhs_schedules.specs.Everywhere.{EveryScheduleSolves}
use Rattle.bhs_schedules.specs.Endings.{EveryScheduleCanRest}
use Rattle.bhs_schedules.proofs.Turns.{run_more, lost_more}
use Rattle.bhs_theorems_isolation.specs.Met.{Meeting, Hears, Refuses, Arrives, past_after, answer_to, IsDue}
use Rattle.bhs_attest.specs.Laws.{AreOverFree}
use Rattle.bhs_attest.proofs.Deeds.{says_deed}
use Rattle.bhs_theorems_contests.specs.Contests.{IsOrderly}
use Rattle.bhs_theorems_contests.proofs.Steps.{steps, steps_met, Grows, grow_run}
use Rattle.bhs_attest.proofs.Untouched.{all_out}
use Rattle.bhs_theorems_contests.proofs.Stuck.{never_stuck}
use Rattle.bhs_theorems_contests.proofs.Doings.{Doing, Naps, Meets, met_in, IsBy, IsOdd, Follows}
use Rattle.bhs_theorems_contests.proofs.Scenes.{Keeps, IsPlayedTo, state_is, stands_at, listens_at}
use Rattle.bhs_theorems_contests.proofs.Scenes.{deed_is, event_turn}
use Rattle.bhs_theorems_contests.proofs.Scenes.{nap_turn, refuse_turn, terms_of}

or_left : (one two : Bool) → one ≡ true → (one || two) ≡ true
or_left one two is = rw is refl

never : (closed is_lost : Bool) → ((not closed && false) || ((not closed && false) && not is_lost)) ≡ false
never true is_lost = refl
never false is_lost = refl

never_closed : (closed passes destroyers is_lost : Bool) → closed ≡ true
    → ((not closed && passes) || ((not closed && destroyers) && not is_lost)) ≡ true → ⊥
never_closed true passes destroyers is_lost closed is = false≢true is
never_closed false passes destroyers is_lost closed is = false≢true closed

module _ (trial : Trial) (final : ℕ → View) (orderly : IsOrderly trial) (moves most_lost : ℕ)
    (solves : EveryScheduleSolves trial moves most_lost) (rests : EveryScheduleCanRest trial) where
  -- ---- nobody stands oddly

  odd_at : (front : List Event) (k : Keeps trial final front) (agent : ℕ) (position : Position)
      → agent < trial.world.agents → position_of trial k.scene agent ≡ position
      → IsOdd (standing_at position) (trial.strategies agent (k.scene.history agent)) → ⊥
  odd_at front k agent Before within at (inl away) = not_away away.0
    where
      not_away : Outside ≡ Away → ⊥
      not_away e = cc
  odd_at front k agent Before within at (inr stopped) =
      orderly.begins k.schedule agent within
      (ap (λ (scene : Scene). position_of trial scene agent) k.is ∙ at)
      (ap (λ (scene : Scene). trial.strategies agent (scene.history agent)) k.is ∙ stopped.1)
  odd_at front k agent (At node came) within at (inl away) = not_away away.0
    where
      not_away : Present ≡ Away → ⊥
      not_away e = cc
  odd_at front k agent (At node came) within at (inr stopped) =
      never_stuck trial moves most_lost solves rests k.schedule k.scene k.is agent node came within at stopped.1
  odd_at front k agent (Bound node port) within at (inl away) =
      away.1 (sym (ap (λ (scene : Scene). trial.strategies agent (scene.history agent)) k.is)
      ∙ orderly.silent k.schedule agent node port within
      (ap (λ (scene : Scene). position_of trial scene agent) k.is ∙ at))
  odd_at front k agent (Bound node port) within at (inr stopped) = false≢true stopped.0
  odd_at front k agent After within at (inl away) = not_away away.0
    where
      not_away : Ended ≡ Away → ⊥
      not_away e = cc
  odd_at front k agent After within at (inr stopped) = false≢true stopped.0

  never_odd : (front : List Event) (k : Keeps trial final front) (agent : ℕ) → agent < trial.world.agents
      → IsOdd (standing ((run trial.world front).past agent)) (trial.strategies agent (k.scene.history agent)) → ⊥
  never_odd front k agent within odd =
      odd_at front k agent (position_of trial k.scene agent) within refl
      (subst (λ (stands : Standing). IsOdd stands (trial.strategies agent (k.scene.history agent)))
      (stands_at trial final front agent
      ∙ ap (λ (state : State). standing_at (state.position agent)) (sym (state_is trial final front k))) odd)

  -- ---- induction on the length of the log's prefix

  -- a scene in which the agent's next doing is this meeting, as its strategy says
  record IsReady (front : List Event) (agent : ℕ) (meeting : Meeting) : Type 0 where
    keeps : Keeps trial final front
    rest : List Doing
    now : keeps.doings agent ≡ Meets meeting ∷ rest
    by : IsBy (trial.strategies agent (keeps.scene.history agent)) meeting
    due : IsDue trial.world.quota ((run trial.world front).past agent) meeting
    follows : Follows (trial.strategies agent) (terms_of trial)
        (Heard (answer_to trial.world.board ((run trial.world front).past agent) meeting)
        ∷ keeps.scene.history agent) (past_after ((run trial.world front).past agent) meeting) rest

  until : (front : List Event) (agent : ℕ) → agent < trial.world.agents → (meeting : Meeting) (others : List Meeting)
      → (doings : List Doing) (k : Keeps trial final front) → k.doings agent ≡ doings
      → steps_met (met_in doings) ≡ meeting ∷ others → IsReady front agent meeting
  until front agent within meeting others [] k now is = absurd (cc)
  until front agent within meeting others (Naps ∷ doings) k now is =
      elim (subst (λ (list : List Doing). Follows (trial.strategies agent) (terms_of trial)
      (k.scene.history agent) ((run trial.world front).past agent) list) now (k.follows agent within)) [
        | inl naps ↦ let after = nap_turn trial final front k agent doings within now naps.0 naps.1 naps.2
            naps.3 in
            until front agent within meeting others doings after.keeps after.now is
        | inr odd ↦ absurd (never_odd front k agent within odd)
      ]
  until front agent within meeting others (Meets (Refuses command) ∷ doings) k now is =
      elim (subst (λ (list : List Doing). Follows (trial.strategies agent) (terms_of trial)
      (k.scene.history agent) ((run trial.world front).past agent) list) now (k.follows agent within)) [
        | inl says ↦ let after = refuse_turn trial final front k agent command doings within now says.0 says.1 says.2 in
            until front agent within meeting others doings after.keeps after.now is
        | inr odd ↦ absurd (never_odd front k agent within odd)
      ]
  until front agent within meeting others (Meets (Hears command seen) ∷ doings) k now is =
      let same : Hears command seen ≡ meeting = cc in
      let there : k.doings agent ≡ Meets meeting ∷ doings = now ∙ ap (λ (m : Meeting). Meets m ∷ doings) same in
      elim (subst (λ (list : List Doing). Follows (trial.strategies agent) (terms_of trial)
      (k.scene.history agent) ((run trial.world front).past agent) list) there (k.follows agent within)) [
        | inl does ↦ record {
          keeps = k;
          rest = doings;
          now = there;
          by = does.0;
          due = does.1;
          follows = does.2;
        }
        | inr odd ↦ absurd (never_odd front k agent within odd)
      ]
  until front agent within meeting others (Meets (Arrives seen) ∷ doings) k now is =
      let same : Arrives seen ≡ meeting = cc in
      let there : k.doings agent ≡ Meets meeting ∷ doings = now ∙ ap (λ (m : Meeting). Meets m ∷ doings) same in
      elim (subst (λ (list : List Doing). Follows (trial.strategies agent) (terms_of trial)
      (k.scene.history agent) ((run trial.world front).past agent) list) there (k.follows agent within)) [
        | inl does ↦ record {
          keeps = k;
          rest = doings;
          now = there;
          by = does.0;
          due = does.1;
          follows = does.2;
        }
        | inr odd ↦ absurd (never_odd front k agent within odd)
      ]

  -- the next step of an agent in the log is what its session met next
  ready : (front : List Event) (agent : ℕ) → agent < trial.world.agents → (meeting : Meeting) (seen : View)
      → steps seen ≡ steps ((run trial.world front).past agent) ++ meeting ∷ [] → Grows seen (final agent)
      → Keeps trial final front → IsReady front agent meeting
  ready front agent within meeting seen one grows k =
      let past : View = (run trial.world front).past agent in
      until front agent within meeting grows.more (k.doings agent) k refl
      (append_cancel_left (steps past) (steps_met (met_in (k.doings agent))) (meeting ∷ grows.more)
      (sym (k.left agent within) ∙ grows.is ∙ ap (λ (first : List Meeting). first ++ grows.more) one
      ∙ append_assoc (steps past) (meeting ∷ []) grows.more))

  -- what is left behind it
  leads : (front : List Event) (agent : ℕ) (within : agent < trial.world.agents) (meeting : Meeting)
      → (steps (past_after ((run trial.world front).past agent) meeting)
      ≡ steps ((run trial.world front).past agent) ++ meeting ∷ [])
      → (list : (rest : List Doing) → steps_met (meeting ∷ met_in rest) ≡ meeting ∷ steps_met (met_in rest))
      → (r : IsReady front agent meeting) → steps (final agent)
      ≡ steps (past_after ((run trial.world front).past agent) meeting) ++ steps_met (met_in r.rest)
  leads front agent within meeting one list r =
      let past : View = (run trial.world front).past agent in
      r.keeps.left agent within
      ∙ ap (λ (doings : List Doing). steps past ++ steps_met (met_in doings)) r.now
      ∙ ap (λ (met : List Meeting). steps past ++ met) (list r.rest)
      ∙ sym (append_assoc (steps past) (meeting ∷ []) (steps_met (met_in r.rest)))
      ∙ ap (λ (first : List Meeting). first ++ steps_met (met_in r.rest)) (sym one)

  -- ---- events of the log

  tell_step : (front : List Event) (agent : ℕ) (command : Command)
      → heard trial.world (run trial.world front) agent command ≡ true
      → Grows ((next trial.world (run trial.world front) (Tell agent command)).past agent) (final agent)
      → Keeps trial final front → Keeps trial final (front ++ Tell agent command ∷ [])
  tell_step front agent command is_heard grows k =
      let world : World = trial.world in
      let state : State = run world front in
      let shown : Glance = glance world state (state.position agent) command in
      let past : View = state.past agent in
      let within : agent < world.agents =
      ltb-true agent world.agents (and_parts (nat_lt agent world.agents) _ is_heard).0 in
      let lives : (next world state (Tell agent command)).past agent ≡ Told past command shown =
      ap (λ (s : State). s.past agent) (next_heard world state agent command is_heard)
      ∙ changed_same state.past agent (Told past command shown) in
      let r : IsReady front agent (Hears command shown) =
      ready front agent within (Hears command shown) (Told past command shown) refl
      (subst (λ (seen : View). Grows seen (final agent)) lives grows) k in
      let after = event_turn trial final front (front ++ Tell agent command ∷ []) r.keeps agent (Tell agent command)
      (Heard (answer_to world.board past (Hears command shown)) ∷ r.keeps.scene.history agent)
      (Told past command shown) r.rest refl
      (deed_is trial final front r.keeps agent within
      ∙ ap (λ (step : Step). action_at trial.held trial.wakeups (state.position agent) (r.keeps.scene.woken agent) step
      agent) r.by
      ∙ says_deed trial.held trial.wakeups (state.position agent) (r.keeps.scene.woken agent) command agent
      (listens_at trial final front agent r.due.0))
      (ap (λ (more : List Event). front ++ more) (cond-true _ _ _ is_heard))
      (ap (λ (said : Option Reply). hearing said (r.keeps.scene.history agent))
      (answered_by_past world state agent command is_heard
      ∙ ap (rep world.board) (changed_same state.past agent (Told past command shown))))
      lives r.follows
      (leads front agent within (Hears command shown) refl (λ rest. refl) r) in
      after.keeps

  -- an agent on a link has a number of the match
  bound_within : (front : List Event) (agent node port : ℕ) → (run trial.world front).position agent ≡ Bound node port
      → agent < trial.world.agents
  bound_within front agent node port at =
      by_cases (nat_lt agent trial.world.agents) (agent < trial.world.agents)
      (λ below. ltb-true agent trial.world.agents below)
      (λ beyond. absurd (not_before (sym at ∙ all_out trial.world front agent beyond)))
    where
      not_before : Bound node port ≡ Before → ⊥
      not_before e = cc

  delivers : (front : List Event) (k : Keeps trial final front) (agent node port : ℕ)
      → (run trial.world front).position agent ≡ Bound node port → trial.held node port ≡ false
      → deed trial k.scene agent ≡ Makes (Deliver agent)
  delivers front k agent node port at free =
      deed_is trial final front k agent (bound_within front agent node port at)
      ∙ ap (λ (position : Position). action_at trial.held trial.wakeups position (k.scene.woken agent)
      (trial.strategies agent (k.scene.history agent)) agent) at
      ∙ cond-false (trial.held node port) Rests (Makes (Deliver agent)) free

  arrive_step : (front : List Event) (agent node port : ℕ)
      → (run trial.world front).position agent ≡ Bound node port → trial.held node port ≡ false
      → arrives trial.world (run trial.world front) agent ≡ true
      → Grows ((next trial.world (run trial.world front) (Deliver agent)).past agent) (final agent)
      → Keeps trial final front → Keeps trial final (front ++ Deliver agent ∷ [])
  arrive_step front agent node port at free arrival grows k =
      let world : World = trial.world in
      let state : State = run world front in
      let far = world.net.far node port in
      let shown : Sight = sight_at world state far.0 (Some far.1) in
      let past : View = state.past agent in
      let within : agent < world.agents = bound_within front agent node port at in
      let is : delivered world state agent (state.position agent) ≡ delivered world state agent (Bound node port) =
      ap (delivered world state agent) at in
      let came : (delivered world state agent (state.position agent)).past agent ≡ Arrived past shown =
      ap (λ (s : State). s.past agent) is ∙ changed_same state.past agent (Arrived past shown) in
      let lives : (next world state (Deliver agent)).past agent ≡ Arrived past shown =
      ap (λ (s : State). s.past agent) (next_arrived world state agent arrival) ∙ came in
      let r : IsReady front agent (Arrives shown) =
      ready front agent within (Arrives shown) (Arrived past shown) refl
      (subst (λ (seen : View). Grows seen (final agent)) lives grows) k in
      let after = event_turn trial final front (front ++ Deliver agent ∷ []) r.keeps agent (Deliver agent)
      (Heard (answer_to world.board past (Arrives shown)) ∷ r.keeps.scene.history agent)
      (Arrived past shown) r.rest refl
      (delivers front r.keeps agent node port at free)
      (ap (λ (more : List Event). front ++ more) (cond-true _ _ _ (or_left _ _ arrival)))
      (ap (λ (said : Option Reply). hearing said (r.keeps.scene.history agent))
      (arrival_by_past world state agent arrival ∙ ap (rep world.board) came))
      lives r.follows
      (leads front agent within (Arrives shown) refl (λ rest. refl) r) in
      after.keeps

  -- an agent that is destroyed hears nothing
  destroy_step : (front : List Event) (agent node port : ℕ)
      → (run trial.world front).position agent ≡ Bound node port → trial.held node port ≡ false
      → arrives trial.world (run trial.world front) agent ≡ false
      → keeps trial.world (run trial.world front) (lost trial.world front) (Deliver agent) ≡ true
      → Keeps trial final front → Keeps trial final (front ++ Deliver agent ∷ [])
  destroy_step front agent node port at free no_arrival is_kept k =
      let world : World = trial.world in
      let state : State = run world front in
      let within : agent < world.agents = bound_within front agent node port at in
      let after = event_turn trial final front (front ++ Deliver agent ∷ []) k agent (Deliver agent)
      (k.scene.history agent) (state.past agent) (k.doings agent) refl
      (delivers front k agent node port at free)
      (ap (λ (more : List Event). front ++ more) (cond-true _ _ _ is_kept))
      (ap (λ (said : Option Reply). hearing said (k.scene.history agent))
      (no_arrival_no_reply world state agent no_arrival))
      (ap (λ (s : State). s.past agent) (next_no_arrival world state agent no_arrival))
      (k.follows agent within) (k.left agent within) in
      after.keeps

  -- where it is whom a kept delivery finds
  record IsBoundAt (position : Position) : Type 0 where
    node : ℕ
    port : ℕ
    at : position ≡ Bound node port

  found_bound : (closed is_lost : Bool) (position : Position)
      → ((not closed && is_let_through trial.world position)
      || ((not closed && is_doomed trial.world position) && not is_lost)) ≡ true → IsBoundAt position
  found_bound closed is_lost Before is = absurd (false≢true (sym (never closed is_lost) ∙ is))
  found_bound closed is_lost (At node came) is = absurd (false≢true (sym (never closed is_lost) ∙ is))
  found_bound closed is_lost (Bound node port) is = record { node = node; port = port; at = refl }
  found_bound closed is_lost After is = absurd (false≢true (sym (never closed is_lost) ∙ is))

  deliver_step : (front : List Event) (agent : ℕ)
      → keeps trial.world (run trial.world front) (lost trial.world front) (Deliver agent) ≡ true
      → is_held trial.held ((run trial.world front).position agent) ≡ false
      → Grows ((next trial.world (run trial.world front) (Deliver agent)).past agent) (final agent)
      → Keeps trial final front → Keeps trial final (front ++ Deliver agent ∷ [])
  deliver_step front agent is_kept free grows k =
      let state : State = run trial.world front in
      let b = found_bound state.closed (lost trial.world front agent) (state.position agent) is_kept in
      let open_link : trial.held b.node b.port ≡ false = sym (ap (is_held trial.held) b.at) ∙ free in
      by_cases (arrives trial.world state agent) (Keeps trial final (front ++ Deliver agent ∷ []))
      (λ arrival. arrive_step front agent b.node b.port b.at open_link arrival grows k)
      (λ none. destroy_step front agent b.node b.port b.at open_link none is_kept k)

  -- ---- the whole log

  closed_keeps : (state : State) (marks : ℕ → Bool) (event : Event) → state.closed ≡ true
      → keeps trial.world state marks event ≡ true → ⊥
  closed_keeps state marks (Tell agent command) closed is =
      false≢true (sym (ap not closed) ∙ (and_parts (not state.closed) _
      (and_parts (nat_lt agent trial.world.agents) _ is).1).0)
  closed_keeps state marks (Deliver agent) closed is =
      never_closed state.closed _ _ _ closed is
  closed_keeps state marks Close closed is = false≢true (sym (ap not closed) ∙ is)

  on : (event : Event) (events front : List Event)
      → kept_from trial.world (run trial.world front) (lost trial.world front) (event ∷ events) ≡ event ∷ events
      → AreOverFree trial.held trial.world (run trial.world front) (event ∷ events)
      → ((agent : ℕ) → final agent ≡ (run_from trial.world (run trial.world front) (event ∷ events)).past agent)
      → (kept_from trial.world (run trial.world (front ++ event ∷ [])) (lost trial.world (front ++ event ∷ [])) events
      ≡ events
      → AreOverFree trial.held trial.world (run trial.world (front ++ event ∷ [])) events
      → ((agent : ℕ) → final agent ≡ (run_from trial.world (run trial.world (front ++ event ∷ [])) events).past agent)
      → IsPlayedTo trial final ((front ++ event ∷ []) ++ events)) → IsPlayedTo trial final (front ++ event ∷ events)
  on event events front all free ends rest =
      let world : World = trial.world in
      let state : State = run world front in
      let first = first_kept world state (lost world front) event events all in
      let stands : run world (front ++ event ∷ []) ≡ next world state event = run_more world front event in
      let marks : lost world (front ++ event ∷ []) ≡ lost_after world state (lost world front) event =
      lost_more world front event in
      subst (IsPlayedTo trial final) (append_assoc front (event ∷ []) events)
      (rest ((λ i. kept_from world (stands i) (marks i) events) ∙ first.others)
      (subst (λ (s : State). AreOverFree trial.held world s events) (sym stands) free.1)
      (λ agent. ends agent ∙ ap (λ (s : State). (run_from world s events).past agent) (sym stands)))

  pub heart : (events front : List Event) → Keeps trial final front
      → kept_from trial.world (run trial.world front) (lost trial.world front) events ≡ events
      → AreOverFree trial.held trial.world (run trial.world front) events
      → ((agent : ℕ) → final agent ≡ (run_from trial.world (run trial.world front) events).past agent)
      → IsPlayedTo trial final (front ++ events)
  heart [] front k all free ends = record { front = front; keeps = k; end = inl (append-nil front) }
  heart (Tell agent command ∷ events) front k all free ends =
      let world : World = trial.world in
      let state : State = run world front in
      let first = first_kept world state (lost world front) (Tell agent command) events all in
      let grows : Grows ((next world state (Tell agent command)).past agent) (final agent) =
      subst (Grows ((next world state (Tell agent command)).past agent)) (sym (ends agent))
      (grow_run world (next world state (Tell agent command)) events agent) in
      on (Tell agent command) events front all free ends
      (λ rest_all rest_free rest_ends. heart events (front ++ Tell agent command ∷ [])
      (tell_step front agent command first.first grows k) rest_all rest_free rest_ends)
  heart (Deliver agent ∷ events) front k all free ends =
      let world : World = trial.world in
      let state : State = run world front in
      let first = first_kept world state (lost world front) (Deliver agent) events all in
      let grows : Grows ((next world state (Deliver agent)).past agent) (final agent) =
      subst (Grows ((next world state (Deliver agent)).past agent)) (sym (ends agent))
      (grow_run world (next world state (Deliver agent)) events agent) in
      on (Deliver agent) events front all free ends
      (λ rest_all rest_free rest_ends. heart events (front ++ Deliver agent ∷ [])
      (deliver_step front agent first.first free.0 grows k) rest_all rest_free rest_ends)
  heart (Close ∷ []) front k all free ends = record { front = front; keeps = k; end = inr refl }
  heart (Close ∷ (event ∷ events)) front k all free ends =
      let first = first_kept trial.world (run trial.world front) (lost trial.world front) Close (event ∷ events) all in
      let second = first_kept trial.world (record (run trial.world front) { closed = true }) (lost trial.world front)
      event events first.others in
      absurd
      (closed_keeps (record (run trial.world front) { closed = true }) (lost trial.world front) event refl
      second.first)
