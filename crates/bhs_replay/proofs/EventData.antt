-- The line of an event and its reply, as data.
use Rattle.std.proofs.Common.{◌≡◌, true, IsUtf8, List, ℕ, codes, Option, Some, None, refl}
use Rattle.json.proofs.Printed.Utf8.{are_ascii, IsUtf8-are_ascii}
use Rattle.serde_json.specs.Data.{Data, null, number, unsigned, string, object, Members, no_members, member}
use Rattle.bhs_model.specs.declared.commands.Command.{Command}
use Rattle.bhs_model.specs.declared.commands.Command.TheVariants.{Enter, Look, Write, Depart, Accuse, Leave, Bad}
use Rattle.bhs_model.specs.declared.events.Event.{Event}
use Rattle.bhs_model.specs.declared.events.Event.TheVariants.{Tell, Deliver, Close}
use Rattle.bhs_model.specs.declared.replies.Reply.{Reply}
use Rattle.bhs_model.specs.declared.replies.Reply.TheVariants.{Here, Written, Changed, Gone, Noted, Bye, Over, No}
use Rattle.bhs_model.specs.declared.replies.Why.{Why}
use Rattle.bhs_model.specs.declared.replies.Why.TheVariants.{Agent, Outside, Twice, Ended, Spent, Away, Line, Port}
use Rattle.bhs_model.specs.declared.replies.Why.TheVariants.{Long}
use Rattle.bhs_wire.specs.Why.{word}
use Rattle.bhs_wire.proofs.ReplyData.{data_of}
use Rattle.bhs_replay.specs.Played.{EventIsText, ReplyIsText}
use Rattle.bhs_replay.specs.Spelling.{EventFits, ReplyFits}
use Rattle.bhs_replay.proofs.LineData.{IsOfLine, wide}

abbrev pub answer_data : Option Reply → Data
answer_data None = null
answer_data (Some reply) = data_of reply

abbrev pub reply_member : Option Reply → Members
reply_member reply = member (codes "reply") (answer_data reply) no_members

-- the members of a command, followed by further members
abbrev pub said_members : Command → Members → Members
said_members Enter rest = member (codes "do") (string (codes "enter")) rest
said_members Look rest = member (codes "do") (string (codes "look")) rest
said_members (Write expect put) rest =
    member (codes "do") (string (codes "write"))
    (member (codes "expect") (string expect) (member (codes "put") (string put) rest))
said_members (Depart port) rest = member (codes "do") (string (codes "depart"))
    (member (codes "port") (number (unsigned port)) rest)
said_members (Accuse port) rest = member (codes "do") (string (codes "accuse"))
    (member (codes "port") (number (unsigned port)) rest)
said_members Leave rest = member (codes "do") (string (codes "leave")) rest
said_members Bad rest = member (codes "do") (string (codes "bad")) rest

abbrev pub event_data : Event → Option Reply → Data
event_data (Tell agent command) reply = object
    (member (codes "agent") (number (unsigned agent)) (said_members command (reply_member reply)))
event_data (Deliver agent) reply =
    object (member (codes "agent") (number (unsigned agent))
    (member (codes "do") (string (codes "deliver")) (reply_member reply)))
event_data Close reply = object (member (codes "do") (string (codes "close")) (reply_member reply))

-- ---- the data of an event's line

why_ascii : (why : Why) → are_ascii (word why) ≡ true
why_ascii Agent = refl
why_ascii Outside = refl
why_ascii Twice = refl
why_ascii Ended = refl
why_ascii Spent = refl
why_ascii Away = refl
why_ascii Line = refl
why_ascii Port = refl
why_ascii Long = refl

module _ (valid : Type 0) where
  ascii : {text : List ℕ} → are_ascii text ≡ true → valid → IsUtf8 text
  ascii {text} is v = IsUtf8-are_ascii text is

  pub answer_of_line : (reply : Option Reply) → ReplyFits reply → (valid → ReplyIsText reply)
      → IsOfLine valid (answer_data reply) 1
  answer_of_line None fits text = tt
  answer_of_line (Some (Here ports None board)) fits text =
      (refl, refl, (text, (tt, (ascii refl, (wide ports fits.0, tt)))))
  answer_of_line (Some (Here ports (Some port) board)) fits text =
      (refl, refl, (text, (wide port fits.1, (ascii refl, (wide ports fits.0, tt)))))
  answer_of_line (Some Written) fits text = (refl, refl, (ascii refl, tt))
  answer_of_line (Some (Changed board)) fits text = (refl, refl, (text, (ascii refl, tt)))
  answer_of_line (Some Gone) fits text = (refl, refl, (ascii refl, tt))
  answer_of_line (Some Noted) fits text = (refl, refl, (ascii refl, tt))
  answer_of_line (Some Bye) fits text = (refl, refl, (ascii refl, tt))
  answer_of_line (Some Over) fits text = (refl, refl, (ascii refl, tt))
  answer_of_line (Some (No why)) fits text = (refl, refl, (ascii (why_ascii why), tt))

  with_answer : (event : Event) (reply : Option Reply) → EventFits event → (valid → EventIsText event)
      → IsOfLine valid (answer_data reply) 1 → IsOfLine valid (event_data event reply) 2
  with_answer (Tell agent Enter) reply fits text answer =
      (refl, refl, (wide agent fits.0, (ascii refl, (answer, tt))))
  with_answer (Tell agent Look) reply fits text answer =
      (refl, refl, (wide agent fits.0, (ascii refl, (answer, tt))))
  with_answer (Tell agent (Write expect put)) reply fits text answer =
      (refl, refl, (wide agent fits.0, (ascii refl, (λ v. (text v).0, (λ v. (text v).1, (answer, tt))))))
  with_answer (Tell agent (Depart port)) reply fits text answer =
      (refl, refl, (wide agent fits.0, (ascii refl, (wide port fits.1, (answer, tt)))))
  with_answer (Tell agent (Accuse port)) reply fits text answer =
      (refl, refl, (wide agent fits.0, (ascii refl, (wide port fits.1, (answer, tt)))))
  with_answer (Tell agent Leave) reply fits text answer =
      (refl, refl, (wide agent fits.0, (ascii refl, (answer, tt))))
  with_answer (Tell agent Bad) reply fits text answer =
      (refl, refl, (wide agent fits.0, (ascii refl, (answer, tt))))
  with_answer (Deliver agent) reply fits text answer = (refl, refl, (wide agent fits, (ascii refl, (answer, tt))))
  with_answer Close reply fits text answer = (refl, refl, (ascii refl, (answer, tt)))

  pub event_of_line : (event : Event) (reply : Option Reply) → EventFits event → (valid → EventIsText event)
      → ReplyFits reply → (valid → ReplyIsText reply) → IsOfLine valid (event_data event reply) 2
  event_of_line event reply fits text answer_fits answer_text =
      with_answer event reply fits text (answer_of_line reply answer_fits answer_text)
