-- The line of an event and its reply.
use Rattle.std.specs.Prelude.{ℕ, List, ◌++◌, codes, decimal, Option, Some, None}
use Rattle.bhs_model.specs.declared.commands.Command.{Command}
use Rattle.bhs_model.specs.declared.commands.Command.TheVariants.{Enter, Look, Write, Depart, Accuse, Leave, Bad}
use Rattle.bhs_model.specs.declared.events.Event.{Event}
use Rattle.bhs_model.specs.declared.events.Event.TheVariants.{Tell, Deliver, Close}
use Rattle.bhs_model.specs.declared.replies.Reply.{Reply}
use Rattle.bhs_wire.specs.Reply.{quoted_text, line}

-- a command's members, starting at its word
abbrev pub said : Command → List ℕ
said Enter = codes "\"enter\""
said Look = codes "\"look\""
said (Write expect put) = codes "\"write\",\"expect\":"
    ++ (quoted_text expect ++ (codes ",\"put\":" ++ quoted_text put))
said (Depart port) = codes "\"depart\",\"port\":" ++ decimal port
said (Accuse port) = codes "\"accuse\",\"port\":" ++ decimal port
said Leave = codes "\"leave\""
said Bad = codes "\"bad\""

-- the reply's line, or null
abbrev pub answered : Option Reply → List ℕ
answered None = codes "null"
answered (Some reply) = line reply

-- the end of each line
abbrev pub reply_part : Option Reply → List ℕ
reply_part reply = codes ",\"reply\":" ++ (answered reply ++ codes "}")

-- the line, without its line feed
abbrev pub event_line : Event → Option Reply → List ℕ
event_line (Tell agent command) reply = codes "{\"agent\":"
    ++ (decimal agent ++ (codes ",\"do\":" ++ (said command ++ reply_part reply)))
event_line (Deliver agent) reply = codes "{\"agent\":"
    ++ (decimal agent ++ (codes ",\"do\":\"deliver\"" ++ reply_part reply))
event_line Close reply = codes "{\"do\":\"close\"" ++ reply_part reply
