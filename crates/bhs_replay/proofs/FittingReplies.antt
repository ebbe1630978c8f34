-- The replies that the definitions give to fitting events fit: their numbers have 16 bits, and the whiteboards that
-- they show are UTF-8.
use Rattle.std.proofs.Common.{ℕ, IsUtf8, nat_lt, nat_le, bytes_eq, List, length, Option}
use Rattle.std.proofs.Common.{Some, None}
use Rattle.std.proofs.lemmas.Str.{IsUtf8-nil}
use Rattle.bhs_model.specs.declared.commands.Command.{Command}
use Rattle.bhs_model.specs.declared.commands.Command.TheVariants.{Write, Depart, Accuse, Leave, Bad}
use Rattle.bhs_model.specs.declared.events.Event.{Event}
use Rattle.bhs_model.specs.declared.events.Event.TheVariants.{Tell, Deliver, Close}
use Rattle.bhs_model.specs.declared.replies.Reply.{Reply}
use Rattle.bhs_model.specs.declared.replies.Reply.TheVariants.{Written, Changed, Gone, Noted, Bye, Over, No}
use Rattle.bhs_model.specs.declared.replies.Why.TheVariants.{Agent, Port, Long}
use Rattle.bhs_model.specs.Views.{View, Start, Told, Arrived, Glance, Nothing, Saw, Sight, Seen, LastWrite, Unwritten}
use Rattle.bhs_model.specs.Views.{WrittenBy, Standing, Away, ports, standing}
use Rattle.bhs_model.specs.Replying.{swapped, text, text_left, here, write_answer, sight_answer, answer, rep, hears}
use Rattle.bhs_model.specs.Replying.{refusal}
use Rattle.bhs_model.specs.Worlds.{World}
use Rattle.bhs_model.specs.Runs.{State, arrives, next, reply_in_play, reply}
use Rattle.bhs_model.proofs.LegalLemmas.{either}
use Rattle.bhs_replay.specs.Played.{CommandIsText, EventIsText}
use Rattle.bhs_replay.specs.Spelling.{ReplyFits}
use Rattle.bhs_replay.proofs.FittingPasts.{ViewFits, GlanceFits, SightFits, WriteFits, WorldFits, StateFits, next_fits}
use Rattle.bhs_replay.specs.Played.{ReplyIsText}

-- ---- what a whiteboard shows

swapped_utf8 : (limit : ℕ) (shown expect put : List ℕ) → IsUtf8 shown → IsUtf8 put
    → IsUtf8 (swapped limit shown expect put)
swapped_utf8 limit shown expect put old new =
    either IsUtf8 (nat_le (length put) limit) _ shown (either IsUtf8 (bytes_eq shown expect) put shown new old) old

mutual
  text_utf8 : (limit : ℕ) (last_write : LastWrite) → WriteFits last_write → IsUtf8 (text limit last_write)
  text_utf8 limit Unwritten fits = IsUtf8-nil
  text_utf8 limit (WrittenBy view) fits = left_utf8 limit view fits

  left_utf8 : (limit : ℕ) (view : View) → ViewFits view → IsUtf8 (text_left limit view)
  left_utf8 limit (Told view (Write expect put) (Saw (Seen ports came last_write))) fits =
      swapped_utf8 limit (text limit last_write) expect put (text_utf8 limit last_write fits.2.2) fits.1.1
  left_utf8 limit view fits = IsUtf8-nil

-- ---- what an agent is answered

pub record AnswerFits (answer : Option Reply) : Type 0 where
  pub numbers : ReplyFits answer
  pub text : ReplyIsText answer

abbrev IsFit : Reply → Type 0
IsFit reply = AnswerFits (Some reply)

plain : (reply : Reply) → ReplyFits (Some reply) → ReplyIsText (Some reply) → IsFit reply
plain reply numbers text = record { numbers = numbers; text = text }

here_fits : (limit : ℕ) (sight : Sight) → SightFits sight → IsFit (here limit sight)
here_fits limit (Seen ports came last_write) fits =
    plain _ (fits.0, fits.1) (text_utf8 limit last_write fits.2)

write_fits : (limit : ℕ) (shown expect put : List ℕ) → IsUtf8 shown → IsFit (write_answer limit shown expect put)
write_fits limit shown expect put valid =
    either IsFit (nat_le (length put) limit) _ (No Long)
    (either IsFit (bytes_eq shown expect) Written (Changed shown)
    (plain Written tt tt) (plain (Changed shown) tt valid))
    (plain (No Long) tt tt)

sight_answer_fits : (limit : ℕ) (command : Command) (glance : Glance) → GlanceFits glance
    → IsFit (sight_answer limit command glance)
sight_answer_fits limit (Write expect put) (Saw (Seen ports came last_write)) fits =
    write_fits limit (text limit last_write) expect put (text_utf8 limit last_write fits.2)
sight_answer_fits limit command (Saw sight) fits = here_fits limit sight fits
sight_answer_fits limit command Nothing fits = plain _ tt tt

answer_fits : (limit : ℕ) (standing : Standing) (ports : ℕ) (command : Command) (glance : Glance) → GlanceFits glance
    → IsFit (answer limit standing ports command glance)
answer_fits limit standing ports Leave glance fits = plain Bye tt tt
answer_fits limit Away ports command glance fits = plain _ tt tt
answer_fits limit standing ports Bad glance fits = plain _ tt tt
answer_fits limit standing ports (Depart port) glance fits =
    either IsFit (nat_lt port ports) Gone (No Port) (plain Gone tt tt) (plain (No Port) tt tt)
answer_fits limit standing ports (Accuse port) glance fits =
    either IsFit (nat_lt port ports) Noted (No Port) (plain Noted tt tt) (plain (No Port) tt tt)
answer_fits limit standing ports command glance fits = sight_answer_fits limit command glance fits

rep_fits : (limit : ℕ) (view : View) → ViewFits view → AnswerFits (rep limit view)
rep_fits limit Start fits = record { numbers = tt; text = tt }
rep_fits limit (Told view command glance) fits =
    answer_fits limit (standing view) (ports view) command glance fits.2
rep_fits limit (Arrived view sight) fits = here_fits limit sight fits.1

module _ (world : World) (numbers : WorldFits world) where
  play_fits : (state : State) (agent : ℕ) (command : Command) → StateFits state → CommandIsText command
      → AnswerFits (reply_in_play world state agent command)
  play_fits state agent command fits text =
      either AnswerFits (hears world.quota (state.past agent) command) _ _
      (rep_fits world.board ((next world state (Tell agent command)).past agent)
      ((next_fits world numbers state (Tell agent command) fits text).pasts agent))
      (plain (No (refusal (standing (state.past agent)) command)) tt tt)

  pub reply_fits : (state : State) (event : Event) → StateFits state → EventIsText event
      → AnswerFits (reply world state event)
  reply_fits state (Tell agent command) fits text =
      either AnswerFits (nat_lt agent world.agents) _ (Some (No Agent))
      (either AnswerFits state.closed (Some Over) (reply_in_play world state agent command) (plain Over tt tt)
      (play_fits state agent command fits text)) (plain (No Agent) tt tt)
  reply_fits state (Deliver agent) fits text =
      either AnswerFits (arrives world state agent) _ None
      (rep_fits world.board ((next world state (Deliver agent)).past agent)
      ((next_fits world numbers state (Deliver agent) fits text).pasts agent))
      (record { numbers = tt; text = tt })
  reply_fits state Close fits text = record { numbers = tt; text = tt }
