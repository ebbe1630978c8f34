-- The connections of a rehearsal, and how a connection's items are taken.
use Rattle.std.specs.Prelude.{ℕ, Bool, true, false, Option, Some, None, List, [], ◌∷◌, ◌++◌, if◌then◌else◌}
use Rattle.bhs_model.specs.declared.events.Event.TheVariants.{Tell}
use Rattle.bhs_model.specs.declared.commands.Command.TheVariants.{Leave}
use Rattle.bhs_model.specs.declared.replies.Reply.{Reply}
use Rattle.bhs_wire.specs.Lines.{Line, said_by}
use Rattle.bhs_session.specs.Port.{Answers}
use Rattle.bhs_session.specs.Phase.{Phase, Ready}
use Rattle.bhs_session.specs.Machine.{hear, owed_text, behind_text, is_finished}
use Rattle.bhs_session.specs.Texts.{command_by}
use Rattle.bhs_rehearsal.specs.Games.{Game, played, reply_to, is_away}

-- what a connection's input brings, in order: lines, and then its end
pub data Item : Type 0 where
  Says : Line → Item
  Ends : Item

pub record Connection : Type 0 where
  -- The numbers of its match and agent; None before an agent is admitted.
  pub seat : Option (ℕ × ℕ)
  -- The unfinished line, or None beyond the length limit.
  pub unfinished : Option (List ℕ)
  -- the items that were not taken yet
  pub queue : List Item
  -- whether its input has ended, or is no longer looked at
  pub ended : Bool

-- a connection that was fed nothing
abbrev pub unfed : Connection
unfed = record { seat = None; unfinished = Some []; queue = []; ended = false }

-- nothing more is taken of it
abbrev pub shut : Connection → Connection
shut connection = record connection { unfinished = Some []; queue = []; ended = true }

-- ---- taking items

-- what taking the items of an agent's connection comes to
pub record TakenItems : Type 0 where
  -- the match after it
  pub game : Game
  -- whether the connection is done
  pub is_done : Bool
  -- the items that are left
  pub left : List Item
  -- the text that the connection is sent
  pub text : List ℕ

-- the session's phase after a reply, possibly the last one
abbrev pub answered : Reply → Phase
answered reply = hear Ready (Answers reply)

abbrev pub is_last : Reply → Bool
is_last reply = is_finished (behind_text (answered reply))

-- no item is taken
abbrev pub leaves : Game → List Item → TakenItems
leaves game items = record { game = game; is_done = false; left = items; text = [] }

-- The text of a reply, followed by the effect of the remaining items unless the reply is the last one. Each command
-- gets a reply: the first case does not occur.
abbrev pub answers : Option Reply → Game → TakenItems → TakenItems
answers None game others = others
answers (Some reply) game others =
    if is_last reply
    then record { game = game; is_done = true; left = []; text = owed_text (answered reply) }
    else record others { text = owed_text (answered reply) ++ others.text }

-- Items are taken in order until the agent is away or the connection is done. A line tells its command. The end
-- tells Leave, whose answer is not sent.
abbrev pub taken : Game → (agent : ℕ) → List Item → TakenItems
taken game agent [] = leaves game []
taken game agent (Says line ∷ items) =
    let event = Tell agent (command_by (said_by line)) in
    if is_away game agent
    then leaves game (Says line ∷ items)
    else answers (reply_to game event) (played game event) (taken (played game event) agent items)
taken game agent (Ends ∷ items) =
    if is_away game agent
    then leaves game (Ends ∷ items)
    else record { game = played game (Tell agent Leave); is_done = true; left = []; text = [] }

-- the connection after its items were taken so
abbrev pub after : Connection → TakenItems → Connection
after connection taken =
    if taken.is_done then shut connection else record connection { queue = taken.left }
