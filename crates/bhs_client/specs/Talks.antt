-- How an agent and a server talk, line by line.
use Rattle.std.specs.Prelude.{◌≡◌, ◌≢◌, ◌<◌, ◌≤◌, ℕ, List, [], ◌∷◌, Option, Some, None, false}
use Rattle.std.specs.List.{list_any}
use Rattle.bhs_model.specs.declared.commands.Command.{Command}
use Rattle.bhs_model.specs.declared.replies.Reply.{Reply}
use Rattle.bhs_model.specs.declared.replies.Reply.TheVariants.{Noted, Bye, Over}
use Rattle.bhs_wire.specs.First.{says as says_of}
use Rattle.bhs_wire.specs.Lines.{is_line_feed}
use Rattle.bhs_schedules.specs.declared.answers.Step.{Step}
use Rattle.bhs_schedules.specs.declared.answers.Step.TheVariants as step
use Rattle.bhs_schedules.specs.Strategies.{History, Observation, Heard, Woke, Strategy}
use Rattle.bhs_client.specs.declared.player.PlayEnd.{PlayEnd}
use Rattle.bhs_client.specs.declared.player.PlayEnd.TheVariants.{Accused}
use Rattle.bhs_client.specs.declared.player.PlayEnd.TheVariants as ended
use Rattle.bhs_client.specs.declared.player.PlayFault.{PlayFault}
use Rattle.bhs_client.specs.declared.player.PlayFault.TheVariants as fault
use Rattle.bhs_agents.specs.declared.searchers.SearcherFault.{SearcherFault}
use Rattle.bhs_agents.specs.declared.searchers.SearcherFault.TheVariants as searcher_fault
use Rattle.bhs_client.specs.CommandLines.{meant}
use Rattle.bhs_client.specs.ReplyLines.{reply_on}
use Rattle.bhs_agents.specs.WakeUps.{wake_ups_in}

-- a line that a server takes for this command of an agent that enters with this key: it is neither blank nor too long
pub record IsLineOf (key : List ℕ) (command : Command) (line : List ℕ) : Type 0 where
  pub means : says_of line ≡ Some (meant key command)
  pub flat : list_any is_line_feed line ≡ false

-- What an agent says that does this next, before it hears: the line of its command, or nothing if it has stopped. One
-- that sleeps or fails hears nothing.
abbrev pub Says : {W : Type 0} → (says : W → List ℕ → W → Type 0) → (key : List ℕ) → Step → (old new : W) → Type 0
Says says key (step.Says command) old new = (line : List ℕ) × IsLineOf key command line × says old line new
Says says key step.Stops old new = old ≡ new
Says says key step.Sleeps old new = ⊥
Says says key step.Fails old new = ⊥

-- what a line that is read says
abbrev pub Hears : {W : Type 0} → (hears : W → List ℕ → W → Type 0) → Reply → (old new : W) → Type 0
Hears hears reply old new = (line : List ℕ) × (reply_on line ≡ Some reply) × hears old line new

-- The next observation of an agent that takes the step `doing` and has woken `woken` times in a row. It says its
-- command and hears a reply; or it sleeps and wakes, at most `wakeups` + 1 times in a row; after that it sleeps until
-- it hears that the match is over. Nothing happens to an agent that fails.
pub data Meets {W : Type 0} (says hears : W → List ℕ → W → Type 0) (key : List ℕ) (wakeups woken : ℕ) (doing : Step)
    (here : W) : Observation → W → Type 0 where
  speaks : (reply : Reply) (told new : W) → Says says key doing here told → Hears hears reply told new
      → Meets says hears key wakeups woken doing here (Heard reply) new
  sleeps : doing ≡ step.Sleeps → woken ≤ wakeups → Meets says hears key wakeups woken doing here Woke here
  sleeps_on : (new : W) → doing ≡ step.Sleeps → wakeups < woken → Hears hears Over here new
      → Meets says hears key wakeups woken doing here (Heard Over) new

-- An agent has said what its strategy says, line by line, has never woken more than `wakeups` + 1 times in a row, and
-- has this history, whose newest item comes first. Its connection was in the state `start` and is in the last one:
-- `says` and `hears` relate its states before and after a line that is written or read.
pub data Talks {W : Type 0} (says hears : W → List ℕ → W → Type 0) (wakeups : ℕ) (strategy : Strategy) (key : List ℕ)
    (start : W) : History → W → Type 0 where
  begins : Talks says hears wakeups strategy key start [] start
  goes_on : (history : History) (item : Observation) (here next : W)
      → Talks says hears wakeups strategy key start history here
      → Meets says hears key wakeups (wake_ups_in history).in_a_row (strategy history) here item next
      → Talks says hears wakeups strategy key start (item ∷ history) next

-- why an agent breaks off that cannot go on for this reason
abbrev pub fault_by : SearcherFault → PlayFault
fault_by searcher_fault.Size = fault.Size
fault_by (searcher_fault.Refused why) = fault.Refused why
fault_by searcher_fault.Memory = fault.Memory

-- the end of an agent after an observation, if it ends the agent
abbrev pub end_after : Observation → Option PlayEnd
end_after (Heard Noted) = Some Accused
end_after (Heard Bye) = Some ended.Over
end_after (Heard Over) = Some ended.Over
end_after item = None

-- the last observation ends the agent in this way, and its strategy has not failed
pub record Ends {W : Type 0} (says hears : W → List ℕ → W → Type 0) (wakeups : ℕ) (strategy : Strategy) (key : List ℕ)
    (old : W) (how : PlayEnd) (new : W) : Type 0 where
  pub history : History
  pub item : Observation
  pub talks : Talks says hears wakeups strategy key old (item ∷ history) new
  pub last : end_after item ≡ Some how
  pub fine : strategy (item ∷ history) ≢ step.Fails

-- A read gave no line, or a line by which the agent does not go on. `loses` says what a read makes of the connection
-- that gives no line.
pub data HearsNone {W : Type 0} (hears : W → List ℕ → W → Type 0) (loses : W → W → Type 0) (told : W) : W → Type 0 where
  lost : (new : W) → loses told new → HearsNone hears loses told new
  stuck : (line : List ℕ) (new : W) → hears told line new → HearsNone hears loses told new

-- How an agent breaks off that takes the step `doing` next: before its command, within the line of its command, after
-- it, or while it sleeps until the close. `cuts` relates the states of the connection before and after a line that
-- could not be written whole.
pub data BreaksOff {W : Type 0} (says hears cuts : W → List ℕ → W → Type 0) (loses : W → W → Type 0) (key : List ℕ)
    (doing : Step) (here : W) : W → Type 0 where
  silent : BreaksOff says hears cuts loses key doing here here
  cut : (command : Command) (line : List ℕ) (new : W) → doing ≡ step.Says command → IsLineOf key command line
      → cuts here line new → BreaksOff says hears cuts loses key doing here new
  unheard : (told new : W) → Says says key doing here told → HearsNone hears loses told new
      → BreaksOff says hears cuts loses key doing here new
  asleep : (new : W) → doing ≡ step.Sleeps → HearsNone hears loses here new
      → BreaksOff says hears cuts loses key doing here new

-- An agent breaks off with this fault. Its talk so far follows its strategy, and so does the command that it began to
-- write. Only a failed strategy gives the fault `Failed`.
pub record Breaks {W : Type 0} (says hears cuts : W → List ℕ → W → Type 0) (loses : W → W → Type 0) (wakeups : ℕ)
    (strategy : Strategy) (key : List ℕ) (old : W) (why : PlayFault) (new : W) : Type 0 where
  pub history : History
  pub here : W
  pub talks : Talks says hears wakeups strategy key old history here
  pub off : BreaksOff says hears cuts loses key (strategy history) here new
  pub failed : why ≡ fault.Failed → strategy history ≡ step.Fails
