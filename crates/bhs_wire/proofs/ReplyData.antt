-- A reply as JSON data, whose text is its line.
use Rattle.std.proofs.Common.{ℕ, List, codes, Option, Some, None}
use Rattle.serde_json.specs.Data.{Data, null, number, unsigned, string, object, no_members, member}
use Rattle.bhs_model.specs.declared.replies.Reply.{Reply}
use Rattle.bhs_model.specs.declared.replies.Reply.TheVariants.{Here, Written, Changed, Gone, Noted, Bye, Over, No}
use Rattle.bhs_model.specs.declared.replies.Why.{Why}
use Rattle.bhs_wire.specs.Why.{word}

-- the label, or null
abbrev pub label_data : Option ℕ → Data
label_data None = null
label_data (Some port) = number (unsigned port)

-- the keys stand in the order of their bytes
abbrev pub here : ℕ → Option ℕ → List ℕ → Data
here ports came board =
    object (member (codes "board") (string board) (member (codes "from") (label_data came)
    (member (codes "ok") (string (codes "here")) (member (codes "ports") (number (unsigned ports)) no_members))))

-- with the board's text
abbrev pub changed : List ℕ → Data
changed board = object (member (codes "board") (string board)
    (member (codes "ok") (string (codes "changed")) no_members))

-- a reply without arguments, encoded as a word
abbrev pub plain : List ℕ → Data
plain ok = object (member (codes "ok") (string ok) no_members)

-- a refusal, and why
abbrev pub refused : Why → Data
refused why = object (member (codes "no") (string (word why)) no_members)

-- a reply as JSON data
abbrev pub data_of : Reply → Data
data_of (Here ports came board) = here ports came board
data_of Written = plain (codes "written")
data_of (Changed board) = changed board
data_of Gone = plain (codes "gone")
data_of Noted = plain (codes "noted")
data_of Bye = plain (codes "bye")
data_of Over = plain (codes "over")
data_of (No why) = refused why
