-- Replies that name places of the log, and how they are read there.
use Rattle.std.specs.Prelude.{ℕ, Option, Some, None, List, [], option_map, option_and_then, unwrap_or, map, slice_get}
use Rattle.bhs_model.specs.declared.commands.Command.TheVariants.{Write}
use Rattle.bhs_model.specs.declared.events.Event.{Event}
use Rattle.bhs_model.specs.declared.events.Event.TheVariants.{Tell}
use Rattle.bhs_model.specs.declared.marks.Mark.{Mark}
use Rattle.bhs_model.specs.declared.marks.Mark.TheVariants.{Here, Written, Changed, Gone, Noted, Bye, Over, No}
use Rattle.bhs_model.specs.declared.marks.Kept.{Kept}
use Rattle.bhs_model.specs.declared.replies.Reply.{Reply}
use Rattle.bhs_model.specs.declared.replies.Reply.TheVariants as replies

-- the events of a log
abbrev pub events_of : List Kept → List Event
events_of log = map (λ kept. kept.event) log

-- the text that an event puts on a whiteboard, if it is a Write
abbrev pub put_of : Event → Option (List ℕ)
put_of (Tell agent (Write expect put)) = Some put
put_of event = None

-- the text that is put at a place of the log, if a Write stands there
abbrev pub put_at : List Kept → (place : ℕ) → Option (List ℕ)
put_at log place = option_and_then (λ kept. put_of kept.event) (slice_get log place)

-- the text of a whiteboard that was last changed at this place; the empty one where nothing changed it
abbrev pub text_at : List Kept → (board : Option ℕ) → List ℕ
text_at log None = []
text_at log (Some place) = unwrap_or (put_at log place) []

-- the reply that a mark stands for, in its log
abbrev pub read : List Kept → Mark → Reply
read log (Here ports came board) = replies.Here ports came (text_at log board)
read log Written = replies.Written
read log (Changed board) = replies.Changed (text_at log board)
read log Gone = replies.Gone
read log Noted = replies.Noted
read log Bye = replies.Bye
read log Over = replies.Over
read log (No why) = replies.No why

-- the reply that an event got, if any
abbrev pub read_if : List Kept → Option Mark → Option Reply
read_if log mark = option_map (read log) mark

-- the place that a mark names, if it names one
abbrev pub board_of : Mark → Option ℕ
board_of (Here ports came board) = board
board_of (Changed board) = board
board_of mark = None
