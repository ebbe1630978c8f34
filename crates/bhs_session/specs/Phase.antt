-- Where a session stands between two of its steps.
use Rattle.std.specs.Prelude.{ℕ, Bool, true, if◌then◌else◌, List, [], take, Option, Some, None, Ok, Err}
use Rattle.std.specs.declared.result.Result.{Result}
use Rattle.bhs_model.specs.declared.replies.Reply.{Reply}
use Rattle.bhs_model.specs.declared.replies.Reply.TheVariants as replies
use Rattle.bhs_wire.specs.declared.denials.Denial.{Denial}
use Rattle.bhs_wire.specs.declared.denials.Denial.TheVariants as denials
use Rattle.bhs_stream.specs.Streams.{WriteAnswer}
use Rattle.bhs_stream.specs.Sending.{PutsAll, PutsPart}
use Rattle.bhs_session.specs.declared.endings.Ended.{Ended}
use Rattle.bhs_session.specs.declared.endings.Ended.TheVariants as endings
use Rattle.bhs_session.specs.declared.endings.Stop.{Stop}
use Rattle.bhs_session.specs.declared.endings.Stop.TheVariants as stops
use Rattle.bhs_session.specs.declared.port.Entered.TheVariants as entries
use Rattle.bhs_session.specs.Texts.{text_of, denial_text}
use Rattle.bhs_session.specs.Port.{PortAnswer, LetIn, Answers, NoMemory}

pub data Phase : Type 0 where
  -- no line was taken
  Fresh : Phase
  -- its agent has entered, and it takes the next line
  Ready : Phase
  -- it has written that its agent is gone, and asks for news
  Awaits : Phase
  -- it writes this text, and then goes on
  Owes : (text : List ℕ) → (next : Phase) → Phase
  -- it ends so, but its agent leaves first
  Leaves : Ended → Phase
  -- it has ended so
  Finished : Ended → Phase

-- ---- what follows an answer

-- how an answer ends a session
abbrev pub ended_by : Reply → Option Ended
ended_by replies.Bye = Some endings.Bye
ended_by replies.Noted = Some endings.Noted
ended_by replies.Over = Some endings.Over
ended_by (replies.Here ports came board) = None
ended_by replies.Written = None
ended_by (replies.Changed board) = None
ended_by replies.Gone = None
ended_by (replies.No why) = None

-- what an answer that ends nothing leads to: after a Gone news are asked, where the answer is not news itself
abbrev pub waiting : (waits : Bool) → Reply → Phase
waiting waits replies.Gone = if waits then Awaits else Ready
waiting waits replies.Bye = Ready
waiting waits replies.Noted = Ready
waiting waits replies.Over = Ready
waiting waits (replies.Here ports came board) = Ready
waiting waits replies.Written = Ready
waiting waits (replies.Changed board) = Ready
waiting waits (replies.No why) = Ready

-- the phase in which an answer that was written leaves a session
abbrev pub finished_or : Option Ended → Phase → Phase
finished_or None next = next
finished_or (Some ended) next = Finished ended

abbrev pub answered_by : (waits : Bool) → Reply → Phase
answered_by waits reply = finished_or (ended_by reply) (waiting waits reply)

-- The phase after a call of `tell`, or of a non-waiting `news`. Neither call admits an agent, so the last case never
-- occurs.
abbrev pub after_answer : (waits : Bool) → PortAnswer → Phase
after_answer waits (Answers reply) = Owes (text_of reply) (answered_by waits reply)
after_answer waits NoMemory = Leaves endings.Memory
after_answer waits (LetIn answer) = Leaves endings.Memory

abbrev pub denied : Denial → Phase
denied denial = Owes (denial_text denial) (Finished endings.Denied)

-- the phase after a call of `enter`, which gives no plain answer: the last line never comes
abbrev pub after_enter : PortAnswer → Phase
after_enter (LetIn entries.Key) = denied denials.Key
after_enter (LetIn entries.Taken) = denied denials.Taken
after_enter (LetIn (entries.In reply)) = Owes (text_of reply) (answered_by true reply)
after_enter NoMemory = Finished endings.Memory
after_enter (Answers reply) = Finished endings.Memory

-- ---- external reasons that stop a session

-- its agent leaves first exactly if it has entered and no answer has ended the session
abbrev pub stopped : Phase → Ended → Phase
stopped Fresh cause = Finished cause
stopped Ready cause = Leaves cause
stopped Awaits cause = Leaves cause
stopped (Owes text next) cause = stopped next cause
stopped (Leaves ended) cause = Leaves cause
stopped (Finished ended) cause = Finished cause

-- ---- writing

-- In this phase these bytes are written, the output going from one state to the next, and this phase follows: the
-- whole text, less of it if a write failed or took nothing, or none if there is no memory for it.
pub data Sends {O : Type 0} (takes : O → List ℕ → WriteAnswer → O → Type 0) (old : O) : Phase → List ℕ → O → Phase →
    Type 0 where
  all : (text : List ℕ) (next : Phase) (new : O) → PutsAll takes old text new →
      Sends takes old (Owes text next) text new next
  part : (text : List ℕ) (next : Phase) (new : O) (some : PutsPart takes old text new)
      → Sends takes old (Owes text next) (take some.sent text) new (stopped next endings.WriteFault)
  none : (text : List ℕ) (next : Phase) → Sends takes old (Owes text next) [] old (stopped next endings.Memory)

-- ---- what the code knows of a phase

-- between two lines
abbrev pub between : (has_entered : Bool) → Phase
between has_entered = if has_entered then Ready else Fresh

-- where it takes no more lines
abbrev pub phase_of : Stop → Phase
phase_of (stops.Finished ended) = Finished ended
phase_of (stops.Leaves ended) = Leaves ended

-- where a call leaves a session that goes on in this phase unless it stops
abbrev pub reached : {T : Type 0} → Phase → Result T Stop → Phase
reached next (Ok value) = next
reached next (Err stop) = phase_of stop
