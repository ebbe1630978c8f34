-- What a match becomes that is played by strategies under a schedule.
use Rattle.std.specs.Prelude.{ℕ, ◌+◌, Bool, true, false, not, ◌&&◌, Option, Some, None, List, [], ◌∷◌, ◌++◌, ◌≡◌}
use Rattle.std.specs.Prelude.{if◌then◌else◌, ◌==◌, nat_lt, bytes_eq}
use Rattle.bhs_model.specs.declared.events.Event.{Event}
use Rattle.bhs_model.specs.declared.events.Event.TheVariants.{Tell, Deliver, Close}
use Rattle.bhs_model.specs.Replying.{text}
use Rattle.bhs_model.specs.Worlds.{World}
use Rattle.bhs_model.specs.Runs.{Position, Before, At, Bound, After, State, changed, is_doomed, run, reply}
use Rattle.bhs_model.specs.Draws.{Held}
use Rattle.bhs_referee.specs.declared.verdicts.Verdict.{Verdict}
use Rattle.bhs_referee.specs.Rest.{verdict_after}
use Rattle.bhs_schedules.specs.declared.answers.Step.{Step}
use Rattle.bhs_schedules.specs.declared.answers.Step.TheVariants.{Says, Sleeps, Stops, Fails}
use Rattle.bhs_schedules.specs.Strategies.{Woke, History, Strategies, hearing}

-- a match that is played, which links are held, how often an agent may wake again though nothing has changed, and how
-- each strategy plays
pub record Trial : Type 0 where
  pub world : World
  pub held : Held
  pub wakeups : ℕ
  pub strategies : Strategies

-- how a match stands that is played: the events so far, the history of each agent, and how often each has woken since
-- the whiteboard in front of it was another one or showed another text
pub record Scene : Type 0 where
  pub events : List Event
  pub history : (agent : ℕ) → History
  pub woken : (agent : ℕ) → ℕ

-- before anything has happened
abbrev pub opening : Scene
opening = record { events = []; history = λ agent. []; woken = λ agent. 0 }

abbrev pub state_of : Trial → Scene → State
state_of trial scene = run trial.world scene.events

abbrev pub position_of : Trial → Scene → (agent : ℕ) → Position
position_of trial scene agent = (state_of trial scene).position agent

-- the action of an agent in its turn
pub data Action : Type 0 where
  -- an event of the match: it says what its strategy says, or arrives
  Makes : Event → Action
  -- it wakes
  Wakes : Action
  -- nothing: it has ended or stopped, is held on its link, or has woken often enough and sees what it saw
  Rests : Action

-- what an agent at this position does that takes this step next
abbrev pub action_at : Held → (wakeups : ℕ) → Position → (woken : ℕ) → Step → (agent : ℕ) → Action
action_at held wakeups (Bound node port) woken step agent = if held node port then Rests else Makes (Deliver agent)
action_at held wakeups After woken step agent = Rests
action_at held wakeups position woken (Says command) agent = Makes (Tell agent command)
action_at held wakeups position woken Sleeps agent = if nat_lt wakeups woken then Rests else Wakes
action_at held wakeups position woken Stops agent = Rests
action_at held wakeups position woken Fails agent = Rests

-- what an agent does; a number without an agent does nothing
abbrev pub deed : Trial → Scene → (agent : ℕ) → Action
deed trial scene agent =
    if nat_lt agent trial.world.agents
    then action_at trial.held trial.wakeups (position_of trial scene agent) (scene.woken agent)
    (trial.strategies agent (scene.history agent)) agent
    else Rests

-- the node whose whiteboard an agent at this position has in front of it
abbrev pub faced : World → Position → Option ℕ
faced world Before = Some world.home
faced world (At node came) = Some node
faced world position = None

-- whether the two agents face the same whiteboard with the same text, or both face none
abbrev pub is_same_sight : Option ℕ → List ℕ → Option ℕ → List ℕ → Bool
is_same_sight (Some one) shown (Some other) showing = one == other && bytes_eq shown showing
is_same_sight None shown None showing = true
is_same_sight one shown other showing = false

-- what the whiteboard shows that is faced
abbrev pub shown_to : World → State → Option ℕ → List ℕ
shown_to world state (Some node) = text world.board (state.last_write node)
shown_to world state None = []

-- whether an agent faces the same whiteboard and text in both states
abbrev pub faces_same : World → (old new : State) → (agent : ℕ) → Bool
faces_same world old new agent =
    let before = faced world (old.position agent) in
    let after = faced world (new.position agent) in
    is_same_sight before (shown_to world old before) after (shown_to world new after)

-- how the match stands after a deed
abbrev pub done : Trial → Scene → (agent : ℕ) → Action → Scene
done trial scene agent (Makes event) =
    let events = scene.events ++ event ∷ [] in
    record {
      events = events;
      history = changed scene.history agent
          (hearing (reply trial.world (state_of trial scene) event) (scene.history agent));
      woken = λ other. if faces_same trial.world (state_of trial scene) (run trial.world events) other
          then scene.woken other else 0;
    }
done trial scene agent Wakes = record {
  events = scene.events;
  history = changed scene.history agent (Woke ∷ scene.history agent);
  woken = changed scene.woken agent (scene.woken agent + 1);
}
done trial scene agent Rests = scene

-- the scene after one turn of an agent
abbrev pub turn : Trial → Scene → (agent : ℕ) → Scene
turn trial scene agent = done trial scene agent (deed trial scene agent)

-- the scene after the turns of a schedule
abbrev pub turns : Trial → Scene → (schedule : List ℕ) → Scene
turns trial scene [] = scene
turns trial scene (agent ∷ schedule) = turns trial (turn trial scene agent) schedule

-- what a schedule comes to
abbrev pub under : Trial → (schedule : List ℕ) → Scene
under trial schedule = turns trial opening schedule

-- whether a deed of an agent at this position changes anything that an agent could know; a Deliver that destroys does
-- not
abbrev pub is_move : World → Position → Action → Bool
is_move world position (Makes (Deliver agent)) = not (is_doomed world position)
is_move world position (Makes event) = true
is_move world position Wakes = true
is_move world position Rests = false

abbrev pub can_move : Trial → Scene → (agent : ℕ) → Bool
can_move trial scene agent = is_move trial.world (position_of trial scene agent) (deed trial scene agent)

-- nothing more can happen
abbrev pub IsAtRest : Trial → Scene → Type 0
IsAtRest trial scene = (agent : ℕ) → can_move trial scene agent ≡ false

-- the verdict if the match closes in this scene
abbrev pub verdict : Trial → Scene → Verdict
verdict trial scene = verdict_after trial.world (scene.events ++ Close ∷ [])
