-- A match that was played to its end.
use Rattle.std.specs.Prelude.{◌≡◌, ⊤, true, List, Option, Some}
use Rattle.std.specs.List.{All}
use Rattle.std.specs.Str.{IsUtf8}
use Rattle.bhs_net.specs.Network.{Network, IsNetwork}
use Rattle.bhs_model.specs.declared.commands.Command.{Command}
use Rattle.bhs_model.specs.declared.commands.Command.TheVariants.{Write}
use Rattle.bhs_model.specs.declared.events.Event.{Event}
use Rattle.bhs_model.specs.declared.events.Event.TheVariants.{Tell}
use Rattle.bhs_model.specs.declared.replies.Reply.{Reply}
use Rattle.bhs_model.specs.declared.replies.Reply.TheVariants.{Here, Changed}
use Rattle.bhs_model.specs.declared.setups.Setup.{Setup}
use Rattle.bhs_model.specs.Kept.{kept}
use Rattle.bhs_model.specs.Runs.{run}
use Rattle.bhs_model.specs.Setups.{world_of, IsNormal}
use Rattle.bhs_world.specs.Faults.{IsWithinLimits}
use Rattle.bhs_replay.specs.Spelling.{EventFits}

-- the texts of a Write are UTF-8
abbrev pub CommandIsText : Command → Type 0
CommandIsText (Write expect put) = IsUtf8 expect × IsUtf8 put
CommandIsText command = ⊤

abbrev pub EventIsText : Event → Type 0
EventIsText (Tell agent command) = CommandIsText command
EventIsText event = ⊤

-- the text of the whiteboard that a reply shows is UTF-8
abbrev pub ReplyIsText : Option Reply → Type 0
ReplyIsText (Some (Here ports came board)) = IsUtf8 board
ReplyIsText (Some (Changed board)) = IsUtf8 board
ReplyIsText reply = ⊤

-- an event that the code's type Event can hold: its numbers have 16 bits, and its texts are UTF-8
abbrev pub IsTyped : Event → Type 0
IsTyped event = EventFits event × EventIsText event

-- A match that has ended: it was played on a network; its setup satisfies the limits and is normalised; its events are
-- representable in the program; the match keeps each of them; and they close it.
pub record HasEnded (net : Network) (setup : Setup) (events : List Event) : Type 0 where
  pub network : IsNetwork net
  pub within : IsWithinLimits net setup
  pub in_order : IsNormal net setup
  pub typed : All IsTyped events
  pub all_kept : kept (world_of net setup) events ≡ events
  pub closed : (run (world_of net setup) events).closed ≡ true
