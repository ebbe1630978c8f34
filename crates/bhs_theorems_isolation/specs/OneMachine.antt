-- The connections of a rehearsal act as sessions do: their items are taken by the machine of a session, and a
-- connection waits where its phase awaits news, which is exactly if its agent is on a link.
use Rattle.std.specs.Prelude.{ℕ, ◌≡◌, false, if◌then◌else◌, Option, Some, None, List, [], ◌∷◌, ◌++◌}
use Rattle.bhs_model.specs.declared.commands.Command.TheVariants.{Leave}
use Rattle.bhs_model.specs.declared.events.Event.TheVariants.{Tell, Deliver}
use Rattle.bhs_model.specs.declared.replies.Reply.{Reply}
use Rattle.bhs_model.specs.declared.replies.Reply.TheVariants.{Over}
use Rattle.bhs_wire.specs.Lines.{said_by}
use Rattle.bhs_wire.specs.declared.denials.Denial.TheVariants as denials
use Rattle.bhs_session.specs.declared.endings.Ended.TheVariants as endings
use Rattle.bhs_session.specs.declared.port.Entered.TheVariants as entered
use Rattle.bhs_session.specs.Port.{PortAnswer, LetIn, Answers, NoMemory}
use Rattle.bhs_session.specs.Phase.{Phase, Fresh, Ready, Awaits, Finished, denied}
use Rattle.bhs_session.specs.Texts.{command_by}
use Rattle.bhs_session.specs.Machine.{hear, owed_text, behind_text, is_finished}
use Rattle.bhs_rehearsal.specs.Games.{Game, played, reply_to, is_away}
use Rattle.bhs_rehearsal.specs.Connections.{Item, Says, Ends, TakenItems, taken}
use Rattle.bhs_rehearsal.specs.Stages.{news}

-- ---- items, taken by the machine

-- the match and the phase afterwards, the remaining items, and the output
pub record Ran : Type 0 where
  pub game : Game
  pub phase : Phase
  pub left : List Item
  pub text : List ℕ

-- an answer of the match as a port gives it. Each command is answered: the first line never comes
abbrev pub heard_of : Option Reply → PortAnswer
heard_of None = NoMemory
heard_of (Some reply) = Answers reply

abbrev pub rests : Phase → Game → List Item → Ran
rests phase game items = record { game = game; phase = phase; left = items; text = [] }

-- In the phase Ready a line asks its command of the match, and what is answered is heard; at the end of the input the
-- agent leaves, which is not answered. While news are awaited nothing is taken, and a session that has ended takes
-- nothing.
abbrev pub runs : Phase → Game → (agent : ℕ) → List Item → Ran
runs Ready game agent [] = rests Ready game []
runs Ready game agent (Says line ∷ items) =
    let event = Tell agent (command_by (said_by line)) in
    let next = hear Ready (heard_of (reply_to game event)) in
    let others = runs (behind_text next) (played game event) agent items in
    record others { text = owed_text next ++ others.text }
runs Ready game agent (Ends ∷ items) = rests (Finished endings.InputEnded) (played game (Tell agent Leave)) []
runs Awaits game agent items = rests Awaits game items
runs phase game agent items = rests phase game []

-- ---- the laws

-- the phase of a session that has entered and goes on
abbrev pub phase_in : Game → (agent : ℕ) → Phase
phase_in game agent = if is_away game agent then Awaits else Ready

-- what a rehearsal takes is what the machine takes, and the machine is done exactly if the connection is
pub record Agree (agent : ℕ) (taken : TakenItems) (ran : Ran) : Type 0 where
  pub game : ran.game ≡ taken.game
  pub text : ran.text ≡ taken.text
  pub left : ran.left ≡ taken.left
  pub done : is_finished ran.phase ≡ taken.is_done
  -- the phase awaits news exactly if the agent is on a link
  pub phase : taken.is_done ≡ false → ran.phase ≡ phase_in ran.game agent

abbrev pub ItemsAreTakenByTheMachine : Type 0
ItemsAreTakenByTheMachine =
    (game : Game) (agent : ℕ) (items : List Item) → Agree agent (taken game agent items)
    (runs (phase_in game agent) game agent items)

-- an arrival is news to a session that awaits it, and then takes lines
pub record IsNews (game : Game) (agent : ℕ) (reply : Reply) : Type 0 where
  pub awaited : phase_in game agent ≡ Awaits
  pub then_ready : behind_text (news reply) ≡ Ready
  pub arrived : phase_in (played game (Deliver agent)) agent ≡ Ready

abbrev pub ArrivalsAreNews : Type 0
ArrivalsAreNews = (game : Game) (agent : ℕ) (reply : Reply) → reply_to game (Deliver agent) ≡ Some reply →
    IsNews game agent reply

-- the close is news that end it
abbrev pub ClosesEndTheWait : Type 0
ClosesEndTheWait = behind_text (news Over) ≡ Finished endings.Over

-- the answer to the enter of the first line is heard as that to a later line, and a key that lets nobody in as a denial
pub record HeardFirst : Type 0 where
  pub enter : (reply : Reply) → hear Fresh (LetIn (entered.In reply)) ≡ hear Ready (Answers reply)
  pub key : hear Fresh (LetIn entered.Key) ≡ denied denials.Key
  pub taken : hear Fresh (LetIn entered.Taken) ≡ denied denials.Taken
