-- A scene that a schedule leads to, in which the first events of a log have happened.
use Rattle.std.proofs.Common.{ℕ, ◌<◌, ◌≤◌, ◌≡◌, ◌∙◌, ◌⊎◌, true, false, Option}
use Rattle.std.proofs.Common.{List, [], ◌∷◌, ◌++◌, nat_lt, refl, sym, ap, ap₂}
use Rattle.std.proofs.Common.{subst, arith, if◌then◌else◌, append-nil}
use Rattle.std.proofs.lemmas.Bool.{false≢true, cond-true, cond-false, lt-ltb}
use Rattle.bhs_model.specs.declared.commands.Command.{Command}
use Rattle.bhs_model.specs.declared.events.Event.{Event}
use Rattle.bhs_model.specs.declared.events.Event.TheVariants.{Tell, Close}
use Rattle.bhs_model.specs.declared.replies.Reply.{Reply}
use Rattle.bhs_model.specs.Views.{View, standing}
use Rattle.bhs_model.specs.Standings.{standing_at}
use Rattle.bhs_model.specs.Worlds.{World}
use Rattle.bhs_model.specs.Runs.{State, Position, Before, At, Bound, After, changed, heard}
use Rattle.bhs_model.specs.Runs.{next}
use Rattle.bhs_model.specs.Runs.{run, reply}
use Rattle.bhs_model.specs.Kept.{keeps, kept, lost}
use Rattle.bhs_model.proofs.StepLemmas.{changed_same, changed_other, next_unheard, heard_by_past, refused_by_past}
use Rattle.bhs_model.proofs.KeptLemmas.{kept_suffice_lemma}
use Rattle.bhs_model.proofs.AddLemmas.{events_add_lemma}
use Rattle.bhs_model.proofs.LegalLemmas.{all_run}
use Rattle.bhs_schedules.specs.declared.answers.Step.{Step}
use Rattle.bhs_schedules.specs.declared.answers.Step.TheVariants.{Says, Sleeps}
use Rattle.bhs_schedules.specs.Strategies.{Heard, Woke, History, hearing}
use Rattle.bhs_schedules.specs.Schedules.{Trial, Scene, opening, state_of, Action, Makes, Wakes, Rests}
use Rattle.bhs_schedules.specs.Schedules.{action_at, deed, done, turn, under}
use Rattle.bhs_schedules.proofs.Turns.{run_more, turns_append}
use Rattle.bhs_theorems_isolation.specs.Met.{Refuses, answer_to, takes_commands, IsDue}
use Rattle.bhs_theorems_contests.proofs.Steps.{steps, steps_met}
use Rattle.bhs_attest.specs.Attested.{is_listening}
use Rattle.bhs_attest.proofs.Deeds.{by_agent, IsFor, untouched_by, open_by, says_deed, wakes_deed}
use Rattle.bhs_theorems_contests.proofs.Doings.{Doing, Naps, Meets, met_in, Terms, Follows, follows_same}
use Rattle.bhs_attest.proofs.WakeUpBounds.{woken_few}
use Rattle.bhs_agents.specs.WakeUps.{wake_ups_in}

-- who takes commands listens
listening : (position : Position) → takes_commands (standing_at position) ≡ true → is_listening position ≡ true
listening Before takes = refl
listening (At node came) takes = refl
listening (Bound node port) takes = absurd (false≢true takes)
listening After takes = absurd (false≢true takes)

abbrev pub terms_of : Trial → Terms
terms_of trial = record { wakeups = trial.wakeups; quota = trial.world.quota; board = trial.world.board }

module _ (trial : Trial) (final : ℕ → View) where
  -- The first events of a log have happened, and what is still to be played of each agent leads to its final past.
  pub record Keeps (front : List Event) : Type 0 where
    pub scene : Scene
    pub schedule : List ℕ
    pub is : under trial schedule ≡ scene
    pub kept : kept trial.world scene.events ≡ front
    pub open_still : (run trial.world front).closed ≡ false
    pub doings : (agent : ℕ) → List Doing
    pub follows : (agent : ℕ) → agent < trial.world.agents
        → Follows (trial.strategies agent) (terms_of trial) (scene.history agent) ((run trial.world front).past agent)
        (doings agent)
    pub left : (agent : ℕ) → agent < trial.world.agents
        → steps (final agent) ≡ steps ((run trial.world front).past agent) ++ steps_met (met_in (doings agent))

  -- the scene stands as the log does
  pub state_is : (front : List Event) (k : Keeps front) → state_of trial k.scene ≡ run trial.world front
  state_is front k =
      sym (kept_suffice_lemma trial.world k.scene.events).state ∙ ap (run trial.world) k.kept

  pub lost_is : (front : List Event) (k : Keeps front) → lost trial.world k.scene.events ≡ lost trial.world front
  lost_is front k = sym (kept_suffice_lemma trial.world k.scene.events).lost ∙ ap (lost trial.world) k.kept

  -- the whole log has happened, except perhaps its Close
  pub record IsPlayedTo (whole : List Event) : Type 0 where
    pub front : List Event
    pub keeps : Keeps front
    pub end : (whole ≡ front) ⊎ (whole ≡ front ++ Close ∷ [])

  -- after one turn more
  pub turned_is : (schedule : List ℕ) (scene : Scene) (agent : ℕ) (it : Action) → under trial schedule ≡ scene
      → deed trial scene agent ≡ it → under trial (schedule ++ agent ∷ []) ≡ done trial scene agent it
  turned_is schedule scene agent it is does =
      turns_append trial opening schedule (agent ∷ []) ∙ ap (λ (from : Scene). turn trial from agent) is
      ∙ ap (done trial scene agent) does

  -- it stands where the past of the log says
  pub stands_at : (front : List Event) (agent : ℕ) → standing ((run trial.world front).past agent)
      ≡ standing_at ((run trial.world front).position agent)
  stands_at front agent = (all_run trial.world front agent).standing

  pub listens_at : (front : List Event) (agent : ℕ)
      → takes_commands (standing ((run trial.world front).past agent)) ≡ true
      → is_listening ((run trial.world front).position agent) ≡ true
  listens_at front agent takes =
      listening ((run trial.world front).position agent) (ap takes_commands (sym (stands_at front agent)) ∙ takes)

  pub deed_is : (front : List Event) (k : Keeps front) (agent : ℕ) → agent < trial.world.agents
      → deed trial k.scene agent ≡ action_at trial.held trial.wakeups ((run trial.world front).position agent)
      (k.scene.woken agent) (trial.strategies agent (k.scene.history agent)) agent
  deed_is front k agent within =
      cond-true (nat_lt agent trial.world.agents) _ Rests (lt-ltb agent trial.world.agents within)
      ∙ ap (λ (state : State). action_at trial.held trial.wakeups (state.position agent) (k.scene.woken agent)
      (trial.strategies agent (k.scene.history agent)) agent) (state_is front k)

  -- a scene in which these doings of an agent are left
  pub record Reaches (front : List Event) (agent : ℕ) (doings : List Doing) : Type 0 where
    pub keeps : Keeps front
    pub now : keeps.doings agent ≡ doings

  -- ---- an event more

  pub event_turn : (front whole : List Event) (k : Keeps front) (agent : ℕ) (event : Event) (history : History)
      (past : View) (doings : List Doing) → IsFor agent event → deed trial k.scene agent ≡ Makes event
      → front ++ (if keeps trial.world (run trial.world front) (lost trial.world front) event then event ∷ [] else [])
      ≡ whole
      → hearing (reply trial.world (run trial.world front) event) (k.scene.history agent) ≡ history
      → (next trial.world (run trial.world front) event).past agent ≡ past
      → Follows (trial.strategies agent) (terms_of trial) history past doings
      → steps (final agent) ≡ steps past ++ steps_met (met_in doings) → Reaches whole agent doings
  event_turn front whole k agent event history past doings own does chosen hears lives follows leads =
      let world : World = trial.world in
      let scene : Scene = k.scene in
      let state : State = run world front in
      let after : Scene = done trial scene agent (Makes event) in
      let kept_after : kept world (scene.events ++ event ∷ []) ≡ whole =
      (events_add_lemma world scene.events event).log
      ∙ (λ i. k.kept i ++ (if keeps world (state_is front k i) (lost_is front k i) event then event ∷ [] else []))
      ∙ chosen in
      let stands : run world whole ≡ next world state event =
      sym (ap (run world) kept_after) ∙ (kept_suffice_lemma world (scene.events ++ event ∷ [])).state
      ∙ run_more world scene.events event ∙ ap (λ (s : State). next world s event) (state_is front k) in
      let past_is : (other : ℕ) → (run world whole).past other ≡ (next world state event).past other =
      λ other. ap (λ (s : State). s.past other) stands in
      let reply_is : reply world (state_of trial scene) event ≡ reply world state event =
      ap (λ (s : State). reply world s event) (state_is front k) in
      record {
        keeps = record {
          scene = after;
          schedule = k.schedule ++ agent ∷ [];
          is = turned_is k.schedule scene agent (Makes event) k.is does;
          kept = kept_after;
          open_still = ap (λ (s : State). s.closed) stands ∙ open_by world state agent event own ∙ k.open_still;
          doings = changed k.doings agent doings;
          follows = λ other below. by_agent (λ (o : ℕ). o < world.agents
              → Follows (trial.strategies o) (terms_of trial) (after.history o) ((run world whole).past o)
              (changed k.doings agent doings o)) agent other
              (λ within. follows_same (trial.strategies agent) (terms_of trial) history (after.history agent)
              past ((run world whole).past agent) doings (changed k.doings agent doings agent)
              (changed_same scene.history agent _ ∙ ap (λ (r : Option Reply). hearing r (scene.history agent)) reply_is
              ∙ hears) (past_is agent ∙ lives) (changed_same k.doings agent doings) follows)
              (λ apart within. follows_same (trial.strategies other) (terms_of trial) (scene.history other)
              (after.history other) (state.past other) ((run world whole).past other) (k.doings other)
              (changed k.doings agent doings other) (changed_other scene.history agent other _ apart)
              (past_is other ∙ (untouched_by world state agent other event own apart).past)
              (changed_other k.doings agent other doings apart) (k.follows other within)) below;
          left = λ other below. by_agent (λ (o : ℕ). o < world.agents → steps (final o)
              ≡ steps ((run world whole).past o) ++ steps_met (met_in (changed k.doings agent doings o))) agent other
              (λ within. leads ∙ ap₂ (λ (seen : View) (list : List Doing). steps seen ++ steps_met (met_in list))
              (sym (past_is agent ∙ lives)) (sym (changed_same k.doings agent doings)))
              (λ apart within. k.left other within
              ∙ ap₂ (λ (seen : View) (list : List Doing). steps seen ++ steps_met (met_in list))
              (sym (past_is other ∙ (untouched_by world state agent other event own apart).past))
              (sym (changed_other k.doings agent other doings apart))) below;
        };
        now = changed_same k.doings agent doings;
      }

  -- ---- a nap

  pub nap_turn : (front : List Event) (k : Keeps front) (agent : ℕ) (doings : List Doing) → agent < trial.world.agents
      → k.doings agent ≡ Naps ∷ doings → trial.strategies agent (k.scene.history agent) ≡ Sleeps
      → (wake_ups_in (k.scene.history agent)).in_a_row ≤ trial.wakeups
      → takes_commands (standing ((run trial.world front).past agent)) ≡ true
      → Follows (trial.strategies agent) (terms_of trial) (Woke ∷ k.scene.history agent)
      ((run trial.world front).past agent) doings → Reaches front agent doings
  nap_turn front k agent doings within now sleeps few takes follows =
      let world : World = trial.world in
      let scene : Scene = k.scene in
      let after : Scene = done trial scene agent Wakes in
      let count : scene.woken agent ≤ (wake_ups_in (scene.history agent)).in_a_row =
      subst (λ (now : Scene). now.woken agent ≤ (wake_ups_in (now.history agent)).in_a_row) k.is
      (woken_few trial k.schedule agent) in
      let does : deed trial scene agent ≡ Wakes =
      deed_is front k agent within
      ∙ ap (λ (step : Step). action_at trial.held trial.wakeups ((run world front).position agent)
      (scene.woken agent) step agent) sleeps
      ∙ wakes_deed trial.held trial.wakeups ((run world front).position agent) (scene.woken agent) agent
      (listens_at front agent takes) (omega (arith, count, few)) in
      record {
        keeps = record {
          scene = after;
          schedule = k.schedule ++ agent ∷ [];
          is = turned_is k.schedule scene agent Wakes k.is does;
          kept = k.kept;
          open_still = k.open_still;
          doings = changed k.doings agent doings;
          follows = λ other below. by_agent (λ (o : ℕ). o < world.agents
              → Follows (trial.strategies o) (terms_of trial) (after.history o) ((run world front).past o)
              (changed k.doings agent doings o)) agent other
              (λ own. follows_same (trial.strategies agent) (terms_of trial) (Woke ∷ scene.history agent)
              (after.history agent) _ ((run world front).past agent) doings (changed k.doings agent doings agent)
              (changed_same scene.history agent _) refl (changed_same k.doings agent doings) follows)
              (λ apart own. follows_same (trial.strategies other) (terms_of trial) (scene.history other)
              (after.history other) _ ((run world front).past other) (k.doings other)
              (changed k.doings agent doings other) (changed_other scene.history agent other _ apart) refl
              (changed_other k.doings agent other doings apart) (k.follows other own)) below;
          left = λ other below. by_agent (λ (o : ℕ). o < world.agents → steps (final o)
              ≡ steps ((run world front).past o) ++ steps_met (met_in (changed k.doings agent doings o))) agent other
              (λ own. k.left agent own
              ∙ ap (λ (list : List Doing). steps ((run world front).past agent) ++ steps_met (met_in list)) now
              ∙ ap (λ (list : List Doing). steps ((run world front).past agent) ++ steps_met (met_in list))
              (sym (changed_same k.doings agent doings)))
              (λ apart own. k.left other own
              ∙ ap (λ (list : List Doing). steps ((run world front).past other) ++ steps_met (met_in list))
              (sym (changed_other k.doings agent other doings apart))) below;
        };
        now = changed_same k.doings agent doings;
      }

  -- ---- a command that is refused

  pub refuse_turn : (front : List Event) (k : Keeps front) (agent : ℕ) (command : Command) (doings : List Doing)
      → agent < trial.world.agents → k.doings agent ≡ Meets (Refuses command) ∷ doings
      → trial.strategies agent (k.scene.history agent) ≡ Says command
      → IsDue trial.world.quota ((run trial.world front).past agent) (Refuses command)
      → Follows (trial.strategies agent) (terms_of trial)
      (Heard (answer_to trial.world.board ((run trial.world front).past agent) (Refuses command))
      ∷ k.scene.history agent) ((run trial.world front).past agent) doings → Reaches front agent doings
  refuse_turn front k agent command doings within now says due follows =
      let world : World = trial.world in
      let state : State = run world front in
      let unheard : heard world state agent command ≡ false =
      heard_by_past world state agent command within k.open_still ∙ due.1 in
      event_turn front front k agent (Tell agent command) _ (state.past agent) doings refl
      (deed_is front k agent within
      ∙ ap (λ (step : Step). action_at trial.held trial.wakeups (state.position agent) (k.scene.woken agent) step agent)
      says
      ∙ says_deed trial.held trial.wakeups (state.position agent) (k.scene.woken agent) command agent
      (listens_at front agent due.0))
      (ap (λ (more : List Event). front ++ more) (cond-false _ _ _ unheard) ∙ append-nil front)
      (ap (λ (r : Option Reply). hearing r (k.scene.history agent))
      (refused_by_past world state agent command within k.open_still due.1))
      (ap (λ (s : State). s.past agent) (next_unheard world state agent command unheard)) follows
      (k.left agent within
      ∙ ap (λ (list : List Doing). steps (state.past agent) ++ steps_met (met_in list)) now)
