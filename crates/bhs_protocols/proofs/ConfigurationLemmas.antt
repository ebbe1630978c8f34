-- What a turn makes of a match is what it makes of its configuration.
use Rattle.std.proofs.Common.{ℕ, ◌≡◌, Bool, true, false, not, ◌&&◌, ◌==◌, Option, Some, None, List, [], ◌∷◌, ◌++◌}
use Rattle.std.proofs.Common.{refl, sym, ap, ◌∙◌, subst, if◌then◌else◌, nat_lt}
use Rattle.std.proofs.lemmas.Bool.{cond-true, cond-false, true≢false}
use Rattle.bhs_model.specs.declared.commands.Command.{Command}
use Rattle.bhs_model.specs.declared.commands.Command.TheVariants.{Enter, Look, Write, Depart, Accuse, Leave, Bad}
use Rattle.bhs_model.specs.declared.events.Event.{Event}
use Rattle.bhs_model.specs.declared.events.Event.TheVariants.{Tell, Deliver, Close}
use Rattle.bhs_model.specs.declared.replies.Reply.{Reply}
use Rattle.bhs_model.specs.declared.replies.Reply.TheVariants.{Here, Gone, Noted, No}
use Rattle.bhs_model.specs.Views.{View, Told, Arrived, LastWrite, Standing, used, ports}
use Rattle.bhs_model.specs.Replying.{text, answer, accepts, refusal, hears, rep}
use Rattle.bhs_model.specs.Standings.{standing_at}
use Rattle.bhs_model.specs.Worlds.{World, doomed}
use Rattle.bhs_model.specs.Runs.{Position, Before, At, Bound, After, State, changed, glance, position_after, is_doomed}
use Rattle.bhs_model.specs.Runs.{is_bound, heard, told, arrives, arrived, delivered, next, run, reply}
use Rattle.bhs_model.specs.Runs.{last_writes_after, sight_at}
use Rattle.bhs_model.proofs.StepLemmas.{by_cases, changed_same, next_heard, next_unheard, next_arrived}
use Rattle.bhs_model.proofs.StepLemmas.{arrival_by_past, answered_by_past}
use Rattle.bhs_model.specs.declared.replies.Why.TheVariants.{Port}
use Rattle.bhs_model.proofs.LegalLemmas.{IsLegal, KnowsPorts, all_run, either}
use Rattle.bhs_referee.specs.Findings.{Findings, accused_by, moves_by, reached_by, found_after, findings}
use Rattle.bhs_schedules.specs.Strategies.{Heard, History, hearing}
use Rattle.bhs_schedules.specs.declared.answers.Step.{Step}
use Rattle.bhs_schedules.specs.declared.answers.Step.TheVariants.{Sleeps}
use Rattle.bhs_model.specs.Draws.{Held}
use Rattle.bhs_schedules.specs.Schedules.{Trial, Scene, opening, state_of, position_of, Action, Makes, Wakes, Rests}
use Rattle.bhs_schedules.specs.Schedules.{deed}
use Rattle.bhs_schedules.specs.Schedules.{action_at, is_move, can_move}
use Rattle.bhs_schedules.specs.Schedules.{faced, is_same_sight, shown_to, faces_same, done, turn, turns, under}
use Rattle.bhs_schedules.proofs.Turns.{run_more, found_more, IsOwn, own_deed, faces_itself, still_turn, IsSame}
use Rattle.bhs_protocols.specs.Configurations.{Configuration, configuration_of, blank, deed_in, can_move_in, shown_in}
use Rattle.bhs_protocols.specs.Configurations.{faces_alike}
use Rattle.bhs_protocols.specs.Configurations.{is_heard, answer_at, shown_after, told_in, refused_in, said_in}
use Rattle.bhs_protocols.specs.Configurations.{arrived_in}
use Rattle.bhs_protocols.specs.Configurations.{delivered_in, done_in, turn_in, turns_in}
use Rattle.bhs_schedules.proofs.Turns.{changed_itself}

-- ---- the answer

-- the answer to a command that is heard, by the position alone
answer_is : (world : World) (state : State) (view : View) (position : Position) (command : Command) (room : Bool)
    → KnowsPorts world view position → accepts (standing_at position) room command ≡ true →
    answer world.board (standing_at position) (ports view) command (glance world state position command)
    ≡ answer_at world (λ node. text world.board (state.last_write node)) position command
answer_is world state view Before Enter room knows hears = refl
answer_is world state view (At node came) Look room knows hears = refl
answer_is world state view (At node came) (Write expect put) room knows hears = refl
answer_is world state view (At node came) (Depart port) room knows hears =
    ap (λ (n : ℕ). if nat_lt port n then Gone else No Port) knows
answer_is world state view (At node came) (Accuse port) room knows hears =
    ap (λ (n : ℕ). if nat_lt port n then Noted else No Port) knows
answer_is world state view (At node came) Leave room knows hears = refl
answer_is world state view (At node came) Bad room knows hears = refl
answer_is world state view (Bound node way) Look room knows hears = refl
answer_is world state view (Bound node way) (Write expect put) room knows hears = refl
answer_is world state view (Bound node way) (Depart port) room knows hears = refl
answer_is world state view (Bound node way) (Accuse port) room knows hears = refl
answer_is world state view (Bound node way) Leave room knows hears = refl
answer_is world state view (Bound node way) Bad room knows hears = refl
answer_is world state view position command room knows hears = cc

-- ---- what is kept of it

used_if : (b : Bool) (one other : View) → used (if b then one else other) ≡ (if b then used one else used other)
used_if true one other = refl
used_if false one other = refl

text_if : (limit : ℕ) (b : Bool) (one other : LastWrite)
    → text limit (if b then one else other) ≡ (if b then text limit one else text limit other)
text_if limit true one other = refl
text_if limit false one other = refl

shown_is : (world : World) (state : State) (view : View) (position : Position) (command : Command) (node : ℕ) →
    text world.board (last_writes_after state.last_write position command
    (Told view command (glance world state position command)) node)
    ≡ shown_after world.board (λ k. text world.board (state.last_write k)) position command node
shown_is world state view (At there came) (Write expect put) node = text_if world.board (node == there) _ _
shown_is world state view position command node = refl

shown_to_is : (world : World) (state : State) (faces : Option ℕ)
    → shown_to world state faces ≡ shown_in (λ k. text world.board (state.last_write k)) faces
shown_to_is world state (Some node) = refl
shown_to_is world state None = refl

faces_is : (world : World) (old new : State) (other : ℕ) → faces_same world old new other
    ≡ faces_alike world (old.position other) (λ k. text world.board (old.last_write k)) (new.position other)
    (λ k. text world.board (new.last_write k))
faces_is world old new other i =
    is_same_sight (faced world (old.position other)) (shown_to_is world old (faced world (old.position other)) i)
    (faced world (new.position other)) (shown_to_is world new (faced world (new.position other)) i)

-- the configuration of a state, with findings and histories
abbrev configuration_with : World → State → Findings → (ℕ → History) → (ℕ → ℕ) → Configuration
configuration_with world state found history woken = record {
  position = state.position;
  history = history;
  woken = woken;
  used = λ agent. used (state.past agent);
  shown = λ node. text world.board (state.last_write node);
  accused = found.accused;
  reached = found.reached;
  moves = found.moves;
}

-- ---- a command that is heard

told_configuration : (world : World) (state : State) (found : Findings) (history : ℕ → History) (woken : ℕ
    → ℕ) (agent : ℕ)
    (command : Command) (said : Reply)
    → said ≡ answer_at world (λ k. text world.board (state.last_write k)) (state.position agent) command →
    configuration_with world (told world state agent command) (record {
      accused = changed found.accused agent
          (accused_by (Some said) command (state.position agent) (found.accused agent));
      reached = found.reached;
      moves = moves_by (Some said) found.moves;
    }) (changed history agent (Heard said ∷ history agent))
    (λ other. if faces_same world state (told world state agent command) other then woken other else 0)
    ≡ told_in world (configuration_with world state found history woken) agent command
told_configuration world state found history woken agent command said is i =
    let shown : (λ (k : ℕ). text world.board (last_writes_after state.last_write (state.position agent) command
    (Told (state.past agent) command (glance world state (state.position agent) command)) k))
    ≡ shown_after world.board (λ k. text world.board (state.last_write k)) (state.position agent) command =
    λ j k. shown_is world state (state.past agent) (state.position agent) command k j in
    let sees : (other : ℕ) → faces_same world state (told world state agent command) other
    ≡ faces_alike world (state.position other) (λ k. text world.board (state.last_write k))
    (changed state.position agent (position_after world (state.position agent) command) other)
    (shown_after world.board (λ k. text world.board (state.last_write k)) (state.position agent) command) =
    λ other. faces_is world state (told world state agent command) other
    ∙ ap (λ (it : ℕ → List ℕ). faces_alike world (state.position other) (λ k. text world.board (state.last_write k))
    (changed state.position agent (position_after world (state.position agent) command) other) it) shown in
    record {
      position = changed state.position agent (position_after world (state.position agent) command);
      history = changed history agent (Heard (is i) ∷ history agent);
      woken = λ other. if sees other i then woken other else 0;
      used = λ k. used_if (k == agent)
          (Told (state.past agent) command (glance world state (state.position agent) command)) (state.past k) i;
      shown = shown i;
      accused = changed found.accused agent
          (accused_by (Some (is i)) command (state.position agent) (found.accused agent));
      reached = found.reached;
      moves = moves_by (Some (is i)) found.moves;
    }

-- ---- one that is not

kept_if : (n : ℕ) (same : Bool) → same ≡ true → (if same then n else 0) ≡ n
kept_if n true h = refl
kept_if n false h = cc

refused_configuration : (world : World) (state : State) (found : Findings) (history : ℕ → History) (woken : ℕ → ℕ)
    (agent : ℕ) (command : Command) →
    configuration_with world state (record {
      accused = changed found.accused agent
          (accused_by (Some (No (refusal (standing_at (state.position agent)) command)))
          command (state.position agent) (found.accused agent));
      reached = found.reached;
      moves = moves_by (Some (No (refusal (standing_at (state.position agent)) command))) found.moves;
    }) (changed history agent (Heard (No (refusal (standing_at (state.position agent)) command)) ∷ history agent))
    (λ other. if faces_same world state state other then woken other else 0)
    ≡ refused_in (configuration_with world state found history woken) agent command
refused_configuration world state found history woken agent command i = record {
  position = state.position;
  history = changed history agent (Heard (No (refusal (standing_at (state.position agent)) command)) ∷ history agent);
  woken = λ other. kept_if (woken other) (faces_same world state state other) (faces_itself world state other) i;
  used = λ k. used (state.past k);
  shown = λ node. text world.board (state.last_write node);
  accused = λ k. changed_itself found.accused agent (found.accused agent) k refl i;
  reached = found.reached;
  moves = found.moves;
}

-- ---- an arrival

arrived_configuration : (world : World) (state : State) (found : Findings) (history : ℕ → History) (woken : ℕ → ℕ)
    (agent node label : ℕ) →
    configuration_with world (arrived world state agent node label) (record {
      accused = found.accused;
      reached = changed found.reached node true;
      moves = found.moves;
    }) (changed history agent
    (Heard (Here (world.net.degree node) (Some label) (text world.board (state.last_write node))) ∷ history agent))
    (λ other. if faces_same world state (arrived world state agent node label) other then woken other else 0)
    ≡ arrived_in world (configuration_with world state found history woken) agent node label
arrived_configuration world state found history woken agent node label i = record {
  position = changed state.position agent (At node (Some label));
  history = changed history agent
      (Heard (Here (world.net.degree node) (Some label) (text world.board (state.last_write node))) ∷ history agent);
  woken = λ other. if faces_is world state (arrived world state agent node label) other i then woken other else 0;
  used = λ k. (used_if (k == agent) (Arrived (state.past agent) (sight_at world state node (Some label))) (state.past k)
      ∙ changed_itself (λ (n : ℕ). used (state.past n)) agent (used (state.past agent)) k refl) i;
  shown = λ node. text world.board (state.last_write node);
  accused = found.accused;
  reached = changed found.reached node true;
  moves = found.moves;
}

-- ---- a turn

abbrev IsApt : Position → Action → Type 0
IsApt (Bound node port) (Makes (Deliver other)) = Unit {0}
IsApt position (Makes (Deliver other)) = ⊥
IsApt position it = Unit {0}

apt_at : (held : Held) (wakeups : ℕ) (position : Position) (woken : ℕ) (step : Step) (agent : ℕ)
    → IsApt position (action_at held wakeups position woken step agent)
apt_at held wakeups (Bound node port) woken step agent =
    either (IsApt (Bound node port)) (held node port) Rests (Makes (Deliver agent)) tt tt
apt_at held wakeups Before woken Sleeps agent = either (IsApt Before) (nat_lt wakeups woken) Rests Wakes tt tt
apt_at held wakeups (At node came) woken Sleeps agent =
    either (IsApt (At node came)) (nat_lt wakeups woken) Rests Wakes tt tt
apt_at held wakeups position woken step agent = tt

apt_rests : (position : Position) → IsApt position Rests
apt_rests Before = tt
apt_rests position = tt

apt_deed : (trial : Trial) (scene : Scene) (agent : ℕ)
    → IsApt (position_of trial scene agent) (deed trial scene agent)
apt_deed trial scene agent =
    either (IsApt (position_of trial scene agent)) (nat_lt agent trial.world.agents)
    (action_at trial.held trial.wakeups (position_of trial scene agent) (scene.woken agent)
    (trial.strategies agent (scene.history agent)) agent) Rests
    (apt_at trial.held trial.wakeups (position_of trial scene agent) (scene.woken agent)
    (trial.strategies agent (scene.history agent)) agent) (apt_rests (position_of trial scene agent))

-- The configuration after an event: the next state, with the new findings and the reply.
event_configuration : (trial : Trial) (scene : Scene) (agent : ℕ) (event : Event) (after : State)
    (answer : Option Reply)
    → next trial.world (state_of trial scene) event ≡ after
    → reply trial.world (state_of trial scene) event ≡ answer →
    configuration_of trial (done trial scene agent (Makes event))
    ≡ configuration_with trial.world after
    (found_after trial.world (state_of trial scene) (findings trial.world scene.events) event)
    (changed scene.history agent (hearing answer (scene.history agent)))
    (λ other. if faces_same trial.world (state_of trial scene) after other then scene.woken other else 0)
event_configuration trial scene agent event after answer becomes says =
    let state : State = state_of trial scene in
    let same : run trial.world (scene.events ++ event ∷ []) ≡ after =
    run_more trial.world scene.events event ∙ becomes in
    let found : findings trial.world (scene.events ++ event ∷ [])
    ≡ found_after trial.world state (findings trial.world scene.events) event =
    found_more trial.world scene.events event in
    λ i. configuration_with trial.world (same i) (found i)
    (changed scene.history agent (hearing (says i) (scene.history agent)))
    (λ other. if faces_same trial.world state (same i) other then scene.woken other else 0)

-- the findings after a command with this reply
found_with : (world : World) (state : State) (found : Findings) (agent : ℕ) (command : Command) (answer : Option Reply)
    → reply world state (Tell agent command) ≡ answer →
    found_after world state found (Tell agent command) ≡ record {
      accused = changed found.accused agent (accused_by answer command (state.position agent) (found.accused agent));
      reached = found.reached;
      moves = moves_by answer found.moves;
    }
found_with world state found agent command answer says i = record {
  accused = changed found.accused agent (accused_by (says i) command (state.position agent) (found.accused agent));
  reached = found.reached;
  moves = moves_by (says i) found.moves;
}

module _ (trial : Trial) (scene : Scene) (agent : ℕ) (is_open : (state_of trial scene).closed ≡ false)
    (within : nat_lt agent trial.world.agents ≡ true) where
  heard_is : (command : Command) → heard trial.world (state_of trial scene) agent command
      ≡ is_heard trial.world (configuration_of trial scene) agent command
  heard_is command =
      let legal : IsLegal trial.world ((state_of trial scene).past agent) ((state_of trial scene).position agent) =
      all_run trial.world scene.events agent in
      (λ i. within i && (not (is_open i) && hears trial.world.quota ((state_of trial scene).past agent) command))
      ∙ ap (λ (s : Standing). accepts s (nat_lt (used ((state_of trial scene).past agent)) trial.world.quota) command)
      legal.standing

  said_configuration : (command : Command)
      → configuration_of trial (done trial scene agent (Makes (Tell agent command)))
      ≡ said_in trial.world (configuration_of trial scene) agent command
  said_configuration command =
      let world : World = trial.world in
      let state : State = state_of trial scene in
      let found : Findings = findings world scene.events in
      let legal : IsLegal world (state.past agent) (state.position agent) = all_run world scene.events agent in
      by_cases (is_heard world (configuration_of trial scene) agent command)
      (configuration_of trial (done trial scene agent (Makes (Tell agent command)))
      ≡ said_in trial.world (configuration_of trial scene) agent command)
      (λ yes.
      let hears : heard world state agent command ≡ true = heard_is command ∙ yes in
      let said : Reply = answer_at world (λ k. text world.board (state.last_write k)) (state.position agent) command in
      let says : reply world state (Tell agent command) ≡ Some said =
      answered_by_past world state agent command hears
      ∙ ap (rep world.board) (changed_same state.past agent _)
      ∙ ap (λ (s : Standing). Some (answer world.board s (ports (state.past agent)) command
      (glance world state (state.position agent) command))) legal.standing
      ∙ ap Some (answer_is world state (state.past agent) (state.position agent) command
      (nat_lt (used (state.past agent)) world.quota) legal.ports yes) in
      event_configuration trial scene agent (Tell agent command) (told world state agent command) (Some said)
      (next_heard world state agent command hears) says
      ∙ ap (λ (it : Findings). configuration_with world (told world state agent command) it
      (changed scene.history agent (Heard said ∷ scene.history agent))
      (λ other. if faces_same world state (told world state agent command) other then scene.woken other else 0))
      (found_with world state found agent command (Some said) says)
      ∙ told_configuration world state found scene.history scene.woken agent command said refl
      ∙ sym (cond-true _ _ _ yes))
      (λ none.
      let unheard : heard world state agent command ≡ false = heard_is command ∙ none in
      let refused : Reply = No (refusal (standing_at (state.position agent)) command) in
      let deaf : hears world.quota (state.past agent) command ≡ false =
      ap (λ (s : Standing). accepts s (nat_lt (used (state.past agent)) world.quota) command) legal.standing ∙ none in
      let says : reply world state (Tell agent command) ≡ Some refused =
      cond-true _ _ _ within ∙ cond-false _ _ _ is_open ∙ cond-false _ _ _ deaf
      ∙ ap (λ (s : Standing). Some (No (refusal s command))) legal.standing in
      event_configuration trial scene agent (Tell agent command) state (Some refused)
      (next_unheard world state agent command unheard) says
      ∙ ap (λ (it : Findings). configuration_with world state it
      (changed scene.history agent (Heard refused ∷ scene.history agent))
      (λ other. if faces_same world state state other then scene.woken other else 0))
      (found_with world state found agent command (Some refused) says)
      ∙ refused_configuration world state found scene.history scene.woken agent command
      ∙ sym (cond-false _ _ _ none))

  arrival_configuration : (node port : ℕ) → position_of trial scene agent ≡ Bound node port
      → doomed trial.world node port ≡ false → configuration_of trial (done trial scene agent (Makes (Deliver agent)))
      ≡ arrived_in trial.world (configuration_of trial scene) agent (trial.world.net.far node port).0
      (trial.world.net.far node port).1
  arrival_configuration node port at safe =
      let world : World = trial.world in
      let state : State = state_of trial scene in
      let found : Findings = findings world scene.events in
      let there : ℕ = (world.net.far node port).0 in
      let label : ℕ = (world.net.far node port).1 in
      let arrives_now : arrives world state agent ≡ true =
      (λ i. not (is_open i) && (is_bound (at i) && not (is_doomed world (at i)))) ∙ ap not safe in
      let came : Reply = Here (world.net.degree there) (Some label) (text world.board (state.last_write there)) in
      let says : reply world state (Deliver agent) ≡ Some came =
      arrival_by_past world state agent arrives_now
      ∙ ap (λ (p : Position). rep world.board ((delivered world state agent p).past agent)) at
      ∙ ap (rep world.board) (changed_same state.past agent _) in
      event_configuration trial scene agent (Deliver agent) (arrived world state agent there label) (Some came)
      (next_arrived world state agent arrives_now ∙ ap (delivered world state agent) at) says
      ∙ (λ i. configuration_with world (arrived world state agent there label) (record {
        accused = found.accused;
        reached = reached_by world (says i) (at i) found.reached;
        moves = found.moves;
      }) (changed scene.history agent (Heard came ∷ scene.history agent))
      (λ other. if faces_same world state (arrived world state agent there label) other then scene.woken other else 0))
      ∙ arrived_configuration world state found scene.history scene.woken agent there label

  delivered_configuration : (position : Position) → position_of trial scene agent ≡ position
      → IsApt position (Makes (Deliver agent)) → is_move trial.world position (Makes (Deliver agent)) ≡ true →
      configuration_of trial (done trial scene agent (Makes (Deliver agent)))
      ≡ delivered_in trial.world (configuration_of trial scene) agent position
  delivered_configuration (Bound node port) at apt moves =
      let safe : doomed trial.world node port ≡ false = not_on (doomed trial.world node port) moves in
      arrival_configuration node port at safe ∙ sym (cond-false _ _ _ safe)
    where
      not_on : (b : Bool) → not b ≡ true → b ≡ false
      not_on true h = cc
      not_on false h = refl
  delivered_configuration Before at apt moves = absurd apt
  delivered_configuration (At node came) at apt moves = absurd apt
  delivered_configuration After at apt moves = absurd apt

  done_configuration : (it : Action) → IsOwn agent it → IsApt (position_of trial scene agent) it
      → is_move trial.world (position_of trial scene agent) it ≡ true →
      configuration_of trial (done trial scene agent it) ≡ done_in trial (configuration_of trial scene) agent it
  done_configuration (Makes (Tell other command)) own apt moves =
      subst (λ (k : ℕ). configuration_of trial (done trial scene agent (Makes (Tell k command)))
      ≡ said_in trial.world (configuration_of trial scene) k command) (sym own) (said_configuration command)
  done_configuration (Makes (Deliver other)) own apt moves =
      subst (λ (k : ℕ). configuration_of trial (done trial scene agent (Makes (Deliver k)))
      ≡ delivered_in trial.world (configuration_of trial scene) k (position_of trial scene k)) (sym own)
      (delivered_configuration (position_of trial scene agent) refl
      (apt_own other (position_of trial scene agent) apt) (move_own other (position_of trial scene agent) moves))
    where
      apt_own : (k : ℕ) (position : Position) → IsApt position (Makes (Deliver k))
          → IsApt position (Makes (Deliver agent))
      apt_own k (Bound node port) apt = tt
      apt_own k Before apt = absurd apt
      apt_own k (At node came) apt = absurd apt
      apt_own k After apt = absurd apt

      move_own : (k : ℕ) (position : Position) → is_move trial.world position (Makes (Deliver k)) ≡ true
          → is_move trial.world position (Makes (Deliver agent)) ≡ true
      move_own k position moves = moves
  done_configuration (Makes Close) own apt moves = absurd own
  done_configuration Wakes own apt moves = refl
  done_configuration Rests own apt moves = absurd (true≢false (sym moves))

-- Only an agent of the match can move.
pub mover_within : (world : World) (position : Position) (b : Bool) (it : Action)
    → is_move world position (if b then it else Rests) ≡ true → b ≡ true
mover_within world position true it moves = refl
mover_within world position false it moves = cc

-- a turn that is no move changes nothing of a configuration
still_done_in : (trial : Trial) (configuration : Configuration) (agent : ℕ) (it : Action) → IsOwn agent it
    → is_move trial.world (configuration.position agent) it ≡ false
    → done_in trial configuration agent it ≡ configuration
still_done_in trial configuration agent (Makes (Tell other command)) own still = absurd (true≢false still)
still_done_in trial configuration agent (Makes (Deliver other)) own still =
    let on : delivered_in trial.world configuration other (configuration.position agent) ≡ configuration =
    by_place (configuration.position agent) still in
    subst (λ (k : ℕ). delivered_in trial.world configuration other (configuration.position k)
    ≡ configuration) (sym own) on
  where
    not_off : (b : Bool) → not b ≡ false → b ≡ true
    not_off true h = refl
    not_off false h = cc

    by_place : (position : Position) → not (is_doomed trial.world position) ≡ false
        → delivered_in trial.world configuration other position ≡ configuration
    by_place (Bound node port) still = cond-true _ _ _ (not_off (doomed trial.world node port) still)
    by_place Before still = refl
    by_place (At node came) still = refl
    by_place After still = refl
still_done_in trial configuration agent (Makes Close) own still = absurd own
still_done_in trial configuration agent Wakes own still = absurd (true≢false still)
still_done_in trial configuration agent Rests own still = refl

pub still_in : (trial : Trial) (configuration : Configuration) (agent : ℕ)
    → IsOwn agent (deed_in trial configuration agent)
    → can_move_in trial configuration agent ≡ false → turn_in trial configuration agent ≡ configuration
still_in trial configuration agent own still =
    still_done_in trial configuration agent (deed_in trial configuration agent) own still

pub turn_configuration : (trial : Trial) (scene : Scene) (agent : ℕ) → (state_of trial scene).closed ≡ false →
    configuration_of trial (turn trial scene agent) ≡ turn_in trial (configuration_of trial scene) agent
turn_configuration trial scene agent is_open = by_cases (can_move trial scene agent)
    (configuration_of trial (turn trial scene agent) ≡ turn_in trial (configuration_of trial scene) agent)
    (λ moves. done_configuration trial scene agent is_open
    (mover_within trial.world (position_of trial scene agent) (nat_lt agent trial.world.agents) _ moves)
    (deed trial scene agent) (own_deed trial scene agent) (apt_deed trial scene agent) moves)
    (λ still.
    let same : IsSame trial scene (turn trial scene agent) = still_turn trial scene agent still in
    let configuration : configuration_of trial (turn trial scene agent) ≡ configuration_of trial scene =
    λ i. configuration_with trial.world (same.state i) (same.found i) (λ k. same.history k i) (λ k. same.woken k i) in
    configuration ∙ sym (still_in trial (configuration_of trial scene) agent (own_deed trial scene agent) still))

-- ---- a schedule

open_next : (world : World) (state : State) (event : Event) → (event ≡ Close → ⊥) → state.closed ≡ false
    → (next world state event).closed ≡ false
open_next world state (Tell agent command) no_close is_open =
    either (λ (it : State). it.closed ≡ false) (heard world state agent command) _ _ is_open is_open
open_next world state (Deliver agent) no_close is_open =
    either (λ (it : State). it.closed ≡ false) (arrives world state agent) _ _
    (open_delivered (state.position agent)) is_open
  where
    open_delivered : (position : Position) → (delivered world state agent position).closed ≡ false
    open_delivered (Bound node port) = is_open
    open_delivered position = is_open
open_next world state Close no_close is_open = absurd (no_close refl)

open_done : (trial : Trial) (scene : Scene) (agent : ℕ) (it : Action) → IsOwn agent it
    → (state_of trial scene).closed ≡ false → (state_of trial (done trial scene agent it)).closed ≡ false
open_done trial scene agent (Makes (Tell other command)) own is_open =
    ap (λ (s : State). s.closed) (run_more trial.world scene.events (Tell other command))
    ∙ open_next trial.world (state_of trial scene) (Tell other command) (λ h. cc) is_open
open_done trial scene agent (Makes (Deliver other)) own is_open =
    ap (λ (s : State). s.closed) (run_more trial.world scene.events (Deliver other))
    ∙ open_next trial.world (state_of trial scene) (Deliver other) (λ h. cc) is_open
open_done trial scene agent (Makes Close) own is_open = absurd own
open_done trial scene agent Wakes own is_open = is_open
open_done trial scene agent Rests own is_open = is_open

pub open_turn : (trial : Trial) (scene : Scene) (agent : ℕ) → (state_of trial scene).closed ≡ false
    → (state_of trial (turn trial scene agent)).closed ≡ false
open_turn trial scene agent is_open =
    open_done trial scene agent (deed trial scene agent) (own_deed trial scene agent) is_open

pub turns_configuration : (trial : Trial) (scene : Scene) (schedule : List ℕ) → (state_of trial scene).closed ≡ false →
    configuration_of trial (turns trial scene schedule) ≡ turns_in trial (configuration_of trial scene) schedule
turns_configuration trial scene [] is_open = refl
turns_configuration trial scene (agent ∷ schedule) is_open =
    turns_configuration trial (turn trial scene agent) schedule (open_turn trial scene agent is_open)
    ∙ ap (λ (it : Configuration). turns_in trial it schedule) (turn_configuration trial scene agent is_open)

pub configurations_follow : (trial : Trial) (schedule : List ℕ)
    → configuration_of trial (under trial schedule) ≡ turns_in trial blank schedule
configurations_follow trial schedule = turns_configuration trial opening schedule refl
