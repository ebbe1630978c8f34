-- A match that is played, as far as agents and the referee can tell: where agents are, what they have heard, what
-- whiteboards show, and what is found. A configuration has no events and no pasts. What a turn makes of it is said here
-- by the configuration alone; a law says that the match makes the same of it.
use Rattle.std.specs.Prelude.{ℕ, ◌+◌, ◌≡◌, Bool, true, false, Option, Some, None, List, [], ◌∷◌, if◌then◌else◌, nat_lt}
use Rattle.std.specs.Prelude.{count_by}
use Rattle.std.specs.List.{range_with_len}
use Rattle.bhs_model.specs.declared.commands.Command.{Command}
use Rattle.bhs_model.specs.declared.commands.Command.TheVariants.{Look, Write, Depart, Accuse, Leave, Bad}
use Rattle.bhs_model.specs.declared.events.Event.TheVariants.{Tell, Deliver, Close}
use Rattle.bhs_model.specs.declared.replies.Reply.{Reply}
use Rattle.bhs_model.specs.declared.replies.Reply.TheVariants.{Here, Gone, Noted, Bye, No}
use Rattle.bhs_model.specs.declared.replies.Why.TheVariants as whys
use Rattle.bhs_model.specs.Views.{used, counts}
use Rattle.bhs_model.specs.Replying.{text, swapped, write_answer, accepts, refusal}
use Rattle.bhs_model.specs.Standings.{standing_at}
use Rattle.bhs_model.specs.Worlds.{World, doomed}
use Rattle.bhs_model.specs.Runs.{Position, Before, At, Bound, changed, position_after, is_doomed}
use Rattle.bhs_referee.specs.declared.verdicts.Outcome.{Outcome}
use Rattle.bhs_referee.specs.Findings.{Findings, accused_by, moves_by, findings}
use Rattle.bhs_referee.specs.Verdicts.{outcome_of}
use Rattle.bhs_schedules.specs.Strategies.{Heard, Woke, History}
use Rattle.bhs_schedules.specs.Schedules.{Trial, Scene, state_of, Action, Makes, Wakes, Rests, action_at, faced}
use Rattle.bhs_schedules.specs.Schedules.{is_same_sight, is_move}

pub record Configuration : Type 0 where
  pub position : (agent : ℕ) → Position
  pub history : (agent : ℕ) → History
  pub woken : (agent : ℕ) → ℕ
  pub used : (agent : ℕ) → ℕ
  pub shown : (node : ℕ) → List ℕ
  pub accused : (agent : ℕ) → Option (ℕ × ℕ)
  pub reached : (node : ℕ) → Bool
  pub moves : ℕ

-- the configuration of a match that is played
abbrev pub configuration_of : Trial → Scene → Configuration
configuration_of trial scene = record {
  position = (state_of trial scene).position;
  history = scene.history;
  woken = scene.woken;
  used = λ agent. used ((state_of trial scene).past agent);
  shown = λ node. text trial.world.board ((state_of trial scene).last_write node);
  accused = (findings trial.world scene.events).accused;
  reached = (findings trial.world scene.events).reached;
  moves = (findings trial.world scene.events).moves;
}

-- before anything has happened
abbrev pub blank : Configuration
blank = record {
  position = λ agent. Before;
  history = λ agent. [];
  woken = λ agent. 0;
  used = λ agent. 0;
  shown = λ node. [];
  accused = λ agent. None;
  reached = λ node. false;
  moves = 0;
}

-- ---- what an agent does

abbrev pub deed_in : Trial → Configuration → (agent : ℕ) → Action
deed_in trial configuration agent =
    if nat_lt agent trial.world.agents
    then action_at trial.held trial.wakeups (configuration.position agent) (configuration.woken agent)
    (trial.strategies agent (configuration.history agent)) agent
    else Rests

abbrev pub can_move_in : Trial → Configuration → (agent : ℕ) → Bool
can_move_in trial configuration agent =
    is_move trial.world (configuration.position agent) (deed_in trial configuration agent)

-- nothing more can happen
abbrev pub IsResting : Trial → Configuration → Type 0
IsResting trial configuration = (agent : ℕ) → can_move_in trial configuration agent ≡ false

-- ---- the effect of a turn

-- what the whiteboard shows that is faced
abbrev pub shown_in : (ℕ → List ℕ) → Option ℕ → List ℕ
shown_in shown (Some node) = shown node
shown_in shown None = []

-- whether who goes from one position to another faces what it has faced
abbrev pub faces_alike : World → Position → (ℕ → List ℕ) → Position → (ℕ → List ℕ) → Bool
faces_alike world old shown new showing =
    is_same_sight (faced world old) (shown_in shown (faced world old)) (faced world new)
    (shown_in showing (faced world new))

-- whether an agent is heard
abbrev pub is_heard : World → Configuration → (agent : ℕ) → Command → Bool
is_heard world configuration agent command =
    accepts (standing_at (configuration.position agent)) (nat_lt (configuration.used agent) world.quota) command

-- the reply to a command that is heard
abbrev pub answer_at : World → (shown : ℕ → List ℕ) → Position → Command → Reply
answer_at world shown position Leave = Bye
answer_at world shown (Bound node port) command = No whys.Away
answer_at world shown (At node came) Bad = No whys.Line
answer_at world shown (At node came) Look = Here (world.net.degree node) came (shown node)
answer_at world shown (At node came) (Write expect put) = write_answer world.board (shown node) expect put
answer_at world shown (At node came) (Depart port) =
    if nat_lt port (world.net.degree node) then Gone else No whys.Port
answer_at world shown (At node came) (Accuse port) =
    if nat_lt port (world.net.degree node) then Noted else No whys.Port
answer_at world shown position command = Here (world.net.degree world.home) None (shown world.home)

-- what the whiteboards show after a command that is heard
abbrev pub shown_after : (limit : ℕ) → (ℕ → List ℕ) → Position → Command → ℕ → List ℕ
shown_after limit shown (At node came) (Write expect put) =
    changed shown node (swapped limit (shown node) expect put)
shown_after limit shown position command = shown

-- the configuration after a command that is heard, from an agent at this position
abbrev pub told_at : World → Configuration → (agent : ℕ) → (place : Position) → Command → Configuration
told_at world configuration agent place command =
    let answer = answer_at world configuration.shown place command in
    let position = changed configuration.position agent (position_after world place command) in
    let shown = shown_after world.board configuration.shown place command in
    record {
      position = position;
      history = changed configuration.history agent (Heard answer ∷ configuration.history agent);
      woken = λ other. if faces_alike world (configuration.position other) configuration.shown (position other) shown
          then configuration.woken other else 0;
      used = changed configuration.used agent
          (if counts command then configuration.used agent + 1 else configuration.used agent);
      shown = shown;
      accused = changed configuration.accused agent (accused_by (Some answer) command place
          (configuration.accused agent));
      reached = configuration.reached;
      moves = moves_by (Some answer) configuration.moves;
    }

abbrev pub told_in : World → Configuration → (agent : ℕ) → Command → Configuration
told_in world configuration agent command = told_at world configuration agent (configuration.position agent) command

-- after one that is not
abbrev pub refused_in : Configuration → (agent : ℕ) → Command → Configuration
refused_in configuration agent command = record configuration {
  history = changed configuration.history agent
      (Heard (No (refusal (standing_at (configuration.position agent)) command)) ∷ configuration.history agent);
}

abbrev pub said_in : World → Configuration → (agent : ℕ) → Command → Configuration
said_in world configuration agent command =
    if is_heard world configuration agent command
    then told_in world configuration agent command
    else refused_in configuration agent command

-- after the arrival of an agent at the far end of its link
abbrev pub arrived_in : World → Configuration → (agent node label : ℕ) → Configuration
arrived_in world configuration agent node label =
    let position = changed configuration.position agent (At node (Some label)) in
    record {
      position = position;
      history = changed configuration.history agent
          (Heard (Here (world.net.degree node) (Some label) (configuration.shown node)) ∷ configuration.history agent);
      woken = λ other. if faces_alike world (configuration.position other) configuration.shown
          (position other) configuration.shown
          then configuration.woken other else 0;
      used = configuration.used;
      shown = configuration.shown;
      accused = configuration.accused;
      reached = changed configuration.reached node true;
      moves = configuration.moves;
    }

-- The configuration after a delivery; an agent on a destroying link does not arrive.
abbrev pub delivered_in : World → Configuration → (agent : ℕ) → Position → Configuration
delivered_in world configuration agent (Bound node port) =
    if doomed world node port
    then configuration
    else arrived_in world configuration agent (world.net.far node port).0 (world.net.far node port).1
delivered_in world configuration agent position = configuration

abbrev pub woken_in : Configuration → (agent : ℕ) → Configuration
woken_in configuration agent = record configuration {
  history = changed configuration.history agent (Woke ∷ configuration.history agent);
  woken = changed configuration.woken agent (configuration.woken agent + 1);
}

abbrev pub done_in : Trial → Configuration → (agent : ℕ) → Action → Configuration
done_in trial configuration agent (Makes (Tell other command)) = said_in trial.world configuration other command
done_in trial configuration agent (Makes (Deliver other)) =
    delivered_in trial.world configuration other (configuration.position other)
done_in trial configuration agent (Makes Close) = configuration
done_in trial configuration agent Wakes = woken_in configuration agent
done_in trial configuration agent Rests = configuration

-- the configuration after the turn of an agent
abbrev pub turn_in : Trial → Configuration → (agent : ℕ) → Configuration
turn_in trial configuration agent = done_in trial configuration agent (deed_in trial configuration agent)

-- after these turns
abbrev pub turns_in : Trial → Configuration → (schedule : List ℕ) → Configuration
turns_in trial configuration [] = configuration
turns_in trial configuration (agent ∷ schedule) = turns_in trial (turn_in trial configuration agent) schedule

-- ---- what is judged by it

abbrev pub found_in : Configuration → Findings
found_in configuration = record {
  accused = configuration.accused;
  reached = configuration.reached;
  moves =
      configuration.moves;
}

abbrev pub outcome_in : World → Configuration → Outcome
outcome_in world configuration = outcome_of world configuration.position (found_in configuration)

-- how many agents are on links that destroy
abbrev pub doomed_in : World → Configuration → ℕ
doomed_in world configuration =
    count_by (λ agent. is_doomed world (configuration.position agent)) (range_with_len 0 world.agents)
