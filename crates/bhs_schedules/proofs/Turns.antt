-- What a turn makes of a match: an event more, and where it is no move nothing that anybody could know.
use Rattle.std.proofs.Common.{ℕ, ◌≡◌, Bool, true, false, not, ◌&&◌, Option, Some, None, List, [], ◌∷◌, ◌++◌}
use Rattle.std.proofs.Common.{nat_lt}
use Rattle.std.proofs.Common.{refl, sym, ap, ◌∙◌, inl, inr, if◌then◌else◌}
use Rattle.std.specs.Prelude.{count_by, bytes_eq}
use Rattle.std.specs.List.{range_with_len}
use Rattle.std.proofs.lemmas.Bool.{eq-eqb, true≢false}
use Rattle.std.proofs.lemmas.Bool.Decides.{eqb_tells}
use Rattle.std.proofs.lemmas.Slice.Eq.{bytes_eq-Decides}
use Rattle.bhs_model.specs.declared.events.Event.{Event}
use Rattle.bhs_model.specs.declared.events.Event.TheVariants.{Tell, Deliver, Close}
use Rattle.bhs_model.specs.declared.replies.Reply.{Reply}
use Rattle.bhs_model.specs.Worlds.{World}
use Rattle.bhs_model.specs.Runs.{Position, Before, At, Bound, After, State, initial, changed, is_doomed, is_bound}
use Rattle.bhs_model.specs.Runs.{arrives}
use Rattle.bhs_model.specs.Runs.{next, run, run_from, reply}
use Rattle.bhs_model.specs.Kept.{nobody, lost, lost_after}
use Rattle.bhs_model.specs.Draws.{Held}
use Rattle.bhs_model.proofs.StepLemmas.{next_no_arrival, no_arrival_no_reply}
use Rattle.bhs_model.proofs.LegalLemmas.{either}
use Rattle.bhs_world.proofs.GrowthLemmas.{run_from_more, lost_from_more}
use Rattle.bhs_referee.specs.declared.verdicts.Verdict.{Verdict}
use Rattle.bhs_referee.specs.Findings.{Findings, nothing_found, reached_by, found_after, found_from, findings}
use Rattle.bhs_referee.specs.Verdicts.{outcome_of}
use Rattle.bhs_schedules.specs.declared.answers.Step.{Step}
use Rattle.bhs_schedules.specs.declared.answers.Step.TheVariants.{Says, Sleeps, Stops, Fails}
use Rattle.bhs_schedules.specs.Strategies.{hearing}
use Rattle.bhs_schedules.specs.Schedules.{Trial, Scene, state_of, position_of, Action, Makes, Wakes, Rests, action_at}
use Rattle.bhs_schedules.specs.Schedules.{deed}
use Rattle.bhs_schedules.specs.Schedules.{faced, is_same_sight, shown_to, faces_same, done, turn, is_move, can_move}
use Rattle.bhs_schedules.specs.Schedules.{turns, verdict}

-- ---- one event more

pub run_more : (world : World) (events : List Event) (event : Event)
    → run world (events ++ event ∷ []) ≡ next world (run world events) event
run_more world events event = run_from_more world initial events event

pub lost_more : (world : World) (events : List Event) (event : Event)
    → lost world (events ++ event ∷ []) ≡ lost_after world (run world events) (lost world events) event
lost_more world events event = lost_from_more world initial nobody events event

found_from_more : (world : World) (state : State) (found : Findings) (events : List Event) (event : Event)
    → found_from world state found (events ++ event ∷ [])
    ≡ found_after world (run_from world state events) (found_from world state found events) event
found_from_more world state found [] event = refl
found_from_more world state found (first ∷ events) event =
    found_from_more world (next world state first) (found_after world state found first) events event

pub found_more : (world : World) (events : List Event) (event : Event)
    → findings world (events ++ event ∷ []) ≡ found_after world (run world events) (findings world events) event
found_more world events event = found_from_more world initial nothing_found events event

-- ---- the close, which adds nothing to the verdict

abbrev pub verdict_by : World → (ℕ → Position) → Findings → (ℕ → Bool) → Verdict
verdict_by world position found marks = record {
  outcome = outcome_of world position found;
  moves = found.moves;
  lost = count_by marks (range_with_len 0 world.agents);
}

same_verdict : (world : World) (one two : State) (found other : Findings) (marks known : ℕ → Bool) → one ≡ two
    → found ≡ other → marks ≡ known
    → verdict_by world one.position found marks ≡ verdict_by world two.position other known
same_verdict world one two found other marks known same same_found same_marks i =
    verdict_by world (same i).position (same_found i) (same_marks i)

pub verdict_is : (trial : Trial) (scene : Scene) → verdict trial scene
    ≡ verdict_by trial.world (state_of trial scene).position (findings trial.world scene.events)
    (lost trial.world scene.events)
verdict_is trial scene =
    let world : World = trial.world in
    let state : State = state_of trial scene in
    same_verdict world (run world (scene.events ++ Close ∷ [])) (record state { closed = true })
    (findings world (scene.events ++ Close ∷ [])) (findings world scene.events)
    (lost world (scene.events ++ Close ∷ [])) (lost world scene.events)
    (run_more world scene.events Close) (found_more world scene.events Close) (lost_more world scene.events Close)

-- ---- whose deed it is

abbrev pub IsOwn : (agent : ℕ) → Action → Type 0
IsOwn agent (Makes (Tell other command)) = other ≡ agent
IsOwn agent (Makes (Deliver other)) = other ≡ agent
IsOwn agent (Makes Close) = ⊥
IsOwn agent Wakes = Unit {0}
IsOwn agent Rests = Unit {0}

pub own_at : (held : Held) (wakeups : ℕ) (position : Position) (woken : ℕ) (step : Step) (agent : ℕ)
    → IsOwn agent (action_at held wakeups position woken step agent)
own_at held wakeups (Bound node port) woken step agent =
    either (IsOwn agent) (held node port) Rests (Makes (Deliver agent)) tt refl
own_at held wakeups After woken step agent = tt
own_at held wakeups Before woken (Says command) agent = refl
own_at held wakeups Before woken Sleeps agent = either (IsOwn agent) (nat_lt wakeups woken) Rests Wakes tt tt
own_at held wakeups Before woken Stops agent = tt
own_at held wakeups Before woken Fails agent = tt
own_at held wakeups (At node came) woken (Says command) agent = refl
own_at held wakeups (At node came) woken Sleeps agent = either (IsOwn agent) (nat_lt wakeups woken) Rests Wakes tt tt
own_at held wakeups (At node came) woken Stops agent = tt
own_at held wakeups (At node came) woken Fails agent = tt

pub own_deed : (trial : Trial) (scene : Scene) (agent : ℕ) → IsOwn agent (deed trial scene agent)
own_deed trial scene agent =
    either (IsOwn agent) (nat_lt agent trial.world.agents)
    (action_at trial.held trial.wakeups (position_of trial scene agent) (scene.woken agent)
    (trial.strategies agent (scene.history agent)) agent) Rests
    (own_at trial.held trial.wakeups (position_of trial scene agent) (scene.woken agent)
    (trial.strategies agent (scene.history agent)) agent) tt

-- ---- turns that change nothing

-- as far as anybody can know the same has happened
pub record IsSame (trial : Trial) (old new : Scene) : Type 0 where
  pub state : state_of trial new ≡ state_of trial old
  pub found : findings trial.world new.events ≡ findings trial.world old.events
  pub history : (agent : ℕ) → new.history agent ≡ old.history agent
  pub woken : (agent : ℕ) → new.woken agent ≡ old.woken agent

bytes_same : (xs : List ℕ) → bytes_eq xs xs ≡ true
bytes_same xs = (bytes_eq-Decides xs xs).1 refl

sight_same : (node : Option ℕ) (shown : List ℕ) → is_same_sight node shown node shown ≡ true
sight_same (Some node) shown = rw (eq-eqb node node refl) (bytes_same shown)
sight_same None shown = refl

pub faces_itself : (world : World) (state : State) (agent : ℕ) → faces_same world state state agent ≡ true
faces_itself world state agent =
    sight_same (faced world (state.position agent)) (shown_to world state (faced world (state.position agent)))

kept_if : (n : ℕ) (same : Bool) → same ≡ true → (if same then n else 0) ≡ n
kept_if n true h = refl
kept_if n false h = cc

no_arrival_by : (closed bound doom : Bool) → doom ≡ true → (not closed && (bound && not doom)) ≡ false
no_arrival_by true bound doom h = refl
no_arrival_by false false doom h = refl
no_arrival_by false true doom h = ap not h

not_off : (b : Bool) → not b ≡ false → b ≡ true
not_off true h = refl
not_off false h = cc

pub changed_itself : {A : Type 0} (f : ℕ → A) (place : ℕ) (value : A) (other : ℕ) → value ≡ f place
    → changed f place value other ≡ f other
changed_itself f place value other same = elim (eqb_tells other place) [
  | inl h ↦ rw h.0 (same ∙ ap f (sym h.1))
  | inr h ↦ rw h.0 refl
]

pub unreached : (world : World) (position : Position) (before : ℕ → Bool)
    → reached_by world None position before ≡ before
unreached world Before before = refl
unreached world (At node came) before = refl
unreached world (Bound node port) before = refl
unreached world After before = refl

still_done : (trial : Trial) (scene : Scene) (agent : ℕ) (deed : Action) → IsOwn agent deed
    → is_move trial.world (position_of trial scene agent) deed ≡ false
    → IsSame trial scene (done trial scene agent deed)
still_done trial scene agent Rests own no_move =
    record { state = refl; found = refl; history = λ k. refl; woken = λ k. refl }
still_done trial scene agent Wakes own no_move = absurd (true≢false no_move)
still_done trial scene agent (Makes (Tell other command)) own no_move = absurd (true≢false no_move)
still_done trial scene agent (Makes Close) own no_move = absurd own
still_done trial scene agent (Makes (Deliver other)) own no_move =
    let world : World = trial.world in
    let state : State = state_of trial scene in
    let event : Event = Deliver other in
    let doom : is_doomed world (state.position other) ≡ true =
    ap (λ (k : ℕ). is_doomed world (state.position k)) own ∙ not_off (is_doomed world (state.position agent)) no_move in
    let no_arrival : arrives world state other ≡ false =
    no_arrival_by state.closed (is_bound (state.position other)) (is_doomed world (state.position other)) doom in
    let silent : reply world state event ≡ None = no_arrival_no_reply world state other no_arrival in
    let same : run world (scene.events ++ event ∷ []) ≡ state =
    run_more world scene.events event ∙ next_no_arrival world state other no_arrival in
    let found : Findings = findings world scene.events in
    record {
      state = same;
      found = found_more world scene.events event
          ∙ ap (λ (answer : Option Reply). record found {
            reached = reached_by world answer (state.position other) found.reached;
          }) silent
          ∙ ap (λ (reached : ℕ → Bool). record found { reached = reached })
          (unreached world (state.position other) found.reached);
      history = λ k. changed_itself scene.history agent (hearing (reply world state event) (scene.history agent)) k
          (ap (λ (answer : Option Reply). hearing answer (scene.history agent)) silent);
      woken = λ k. kept_if (scene.woken k) (faces_same world state (run world (scene.events ++ event ∷ [])) k)
          (ap (λ (after : State). faces_same world state after k) same ∙ faces_itself world state k);
    }

pub still_turn : (trial : Trial) (scene : Scene) (agent : ℕ) → can_move trial scene agent ≡ false
    → IsSame trial scene (turn trial scene agent)
still_turn trial scene agent no_move =
    still_done trial scene agent (deed trial scene agent) (own_deed trial scene agent) no_move

pub turns_append : (trial : Trial) (scene : Scene) (xs ys : List ℕ)
    → turns trial scene (xs ++ ys) ≡ turns trial (turns trial scene xs) ys
turns_append trial scene [] ys = refl
turns_append trial scene (first ∷ xs) ys = turns_append trial (turn trial scene first) xs ys
