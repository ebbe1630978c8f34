-- Contests whose agents were played by clients that follow their strategies.
use Rattle.std.specs.Prelude.{ℕ, ◌<◌, ◌≤◌, ◌≡◌, ◌≢◌, ◌⊎◌, List, [], ◌∷◌, ◌++◌, map, length}
use Rattle.std.specs.List.{AllByRecursion}
use Rattle.bhs_net.specs.Network.{IsPortLabelled}
use Rattle.bhs_model.specs.declared.commands.Command.{Command}
use Rattle.bhs_model.specs.declared.commands.Command.TheVariants.{Enter, Write, Depart}
use Rattle.bhs_model.specs.declared.events.Event.{Event}
use Rattle.bhs_model.specs.declared.events.Event.TheVariants.{Tell}
use Rattle.bhs_model.specs.declared.replies.Reply.TheVariants.{Gone}
use Rattle.bhs_model.specs.Views.{Ended as Stopped, standing}
use Rattle.bhs_model.specs.Runs.{Before, Bound, initial}
use Rattle.bhs_model.specs.Draws.{Held}
use Rattle.bhs_model.specs.Kept.{kept}
use Rattle.bhs_model.specs.Marks.{events_of}
use Rattle.bhs_match.specs.Decided.{AreAllDone}
use Rattle.bhs_match.specs.Matches.{Play, world_in, state_of}
use Rattle.bhs_wire.specs.Lines.{lines}
use Rattle.bhs_session.specs.declared.endings.Ended.TheVariants as endings
use Rattle.bhs_session.specs.Texts.{command_of}
use Rattle.bhs_referee.specs.declared.verdicts.Outcome.TheVariants.{Wrong}
use Rattle.bhs_referee.specs.declared.verdicts.Verdict.{Verdict}
use Rattle.bhs_referee.specs.Verdicts.{verdict_of}
use Rattle.bhs_schedules.specs.declared.answers.Step.TheVariants.{Says, Stops}
use Rattle.bhs_schedules.specs.Strategies.{History, Heard, Strategy, Strategies}
use Rattle.bhs_schedules.specs.Schedules.{Trial, under, position_of}
use Rattle.bhs_schedules.specs.Everywhere.{IsSolvedWithin, EveryScheduleSolves, step_after}
use Rattle.bhs_schedules.specs.Endings.{EveryScheduleCanRest}
use Rattle.bhs_client.specs.Talks.{Talks}
use Rattle.bhs_client.specs.Transcripts.{Transcript, unused, Writes, Reads}
use Rattle.bhs_attest.specs.Laws.{AreOverFree, trial_in}
use Rattle.bhs_theorems_isolation.specs.ContestMet.{Attended, fed, TookPart}

-- ---- a session that a client played by a strategy

-- the session ended with Bye, with an accusation, or with Over while its agent had not ended
abbrev pub IsPlayedOut : Attended → Type 0
IsPlayedOut one = ((one.ended ≡ endings.Bye) ⊎ (one.ended ≡ endings.Noted))
    ⊎ ((one.ended ≡ endings.Over) × (standing ((state_of one.play).past one.pass.agent) ≢ Stopped))

-- The client of a session has said what this strategy says, line by line, and has woken at most `wakeups` + 1 times in
-- a row (`Talks`). The session read what the client wrote, but perhaps not its last lines, and the client read all that
-- the session wrote.
pub record IsPlayedBy (wakeups : ℕ) (strategy : Strategy) (one : Attended) : Type 0 where
  pub key : List ℕ
  pub history : History
  pub transcript : Transcript
  pub talks : Talks Writes Reads wakeups strategy key unused history transcript
  pub unread : List Command
  pub read : fed one ++ unread ≡ map command_of (lines transcript.said)
  pub heard : transcript.heard ≡ one.written
  pub out : IsPlayedOut one

-- ---- the match

-- the text of a Write is not longer than a whiteboard holds
abbrev pub IsShort : (board : ℕ) → Event → Type 0
IsShort board (Tell agent (Write expect put)) = length put ≤ board
IsShort board event = Unit {0}

-- The premises on the match and its log. The network is a graph with port labels, as each `Net` is, and the log is what
-- a match keeps, as each `Sealed` shows. No Write was refused as too long, since a pass does not keep the text of such
-- a Write, and no agent arrived over a link that the trial holds.
pub record IsPlainMatch (held : Held) (play : Play) : Type 0 where
  pub labelled : IsPortLabelled play.net
  pub kept : kept (world_in play) (events_of play.log) ≡ events_of play.log
  pub short : AllByRecursion (IsShort play.setup.board) (events_of play.log)
  pub free : AreOverFree held (world_in play) initial (events_of play.log)

-- ---- the team

-- An orderly team: an agent on a link waits, and an agent that has not entered does not stop.
pub record IsOrderly (trial : Trial) : Type 0 where
  pub silent : (schedule : List ℕ) (agent node port : ℕ) → agent < trial.world.agents
      → position_of trial (under trial schedule) agent ≡ Bound node port → step_after trial schedule agent ≡ Stops
  pub begins : (schedule : List ℕ) (agent : ℕ) → agent < trial.world.agents
      → position_of trial (under trial schedule) agent ≡ Before → step_after trial schedule agent ≢ Stops

-- Whoever says Depart and hears Gone waits.
abbrev pub WaitsOnLinks : Strategy → Type 0
WaitsOnLinks strategy = (history : History) (port : ℕ) → strategy history ≡ Says (Depart port)
    → strategy (Heard Gone ∷ history) ≡ Stops

-- Teams whose agents first say Enter, and wait on their links, are orderly in each match.
abbrev pub WaitersAreOrderly : Type 0
WaitersAreOrderly = (trial : Trial) → ((agent : ℕ) → trial.strategies agent [] ≡ Says Enter)
    → ((agent : ℕ) → WaitsOnLinks (trial.strategies agent)) → IsOrderly trial

-- this agent's session took part in the match, and its client played by the agent's strategy
pub record IsPlayedIn (play : Play) (wakeups : ℕ) (strategies : Strategies) (agent : ℕ) (one : Attended) : Type 0 where
  pub took : TookPart one
  pub same : one.play ≡ play
  pub own : one.pass.agent ≡ agent
  pub played : IsPlayedBy wakeups (strategies agent) one

-- If every schedule solves the match within these moves and lost agents, and can be continued until the match is at
-- rest, then so does a contest that gave it back settled, if all agents have ended or are lost and each was played by
-- its strategy.
abbrev pub ContestsAreSolved : Type 0
ContestsAreSolved = (play : Play) (held : Held) (wakeups : ℕ) (strategies : Strategies) (moves lost : ℕ)
    (clients : (agent : ℕ) → Attended)
    → ((agent : ℕ) → agent < play.setup.agents → IsPlayedIn play wakeups strategies agent (clients agent))
    → IsPlainMatch held play → AreAllDone play → IsOrderly (trial_in play held wakeups strategies)
    → EveryScheduleSolves (trial_in play held wakeups strategies) moves lost
    → EveryScheduleCanRest (trial_in play held wakeups strategies) → IsSolvedWithin moves lost (verdict_of play)

-- And whenever such a contest ended, also before all its agents were done, no accusation is wrong.
abbrev pub ContestsAreNeverWrong : Type 0
ContestsAreNeverWrong = (play : Play) (held : Held) (wakeups : ℕ) (strategies : Strategies) (moves lost : ℕ)
    (clients : (agent : ℕ) → Attended)
    → ((agent : ℕ) → agent < play.setup.agents → IsPlayedIn play wakeups strategies agent (clients agent))
    → IsPlainMatch held play → IsOrderly (trial_in play held wakeups strategies)
    → EveryScheduleSolves (trial_in play held wakeups strategies) moves lost
    → EveryScheduleCanRest (trial_in play held wakeups strategies) → (verdict_of play).outcome ≢ Wrong

-- the verdict counts at most these moves and lost agents
pub record IsWithin (most_moves most_lost : ℕ) (verdict : Verdict) : Type 0 where
  pub moves : verdict.moves ≤ most_moves
  pub lost : verdict.lost ≤ most_lost

-- Nor were more moves made, or more agents lost.
abbrev pub ContestsStayWithin : Type 0
ContestsStayWithin = (play : Play) (held : Held) (wakeups : ℕ) (strategies : Strategies) (moves lost : ℕ)
    (clients : (agent : ℕ) → Attended)
    → ((agent : ℕ) → agent < play.setup.agents → IsPlayedIn play wakeups strategies agent (clients agent))
    → IsPlainMatch held play → IsOrderly (trial_in play held wakeups strategies)
    → EveryScheduleSolves (trial_in play held wakeups strategies) moves lost
    → EveryScheduleCanRest (trial_in play held wakeups strategies) → IsWithin moves lost (verdict_of play)
