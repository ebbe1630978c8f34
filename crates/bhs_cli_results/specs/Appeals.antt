-- The verdict on the match of a replay, if it is with its turns a timed execution.
use Rattle.std.specs.Prelude.{◌≡◌, ◌≢◌, ◌==◌, ℕ, Bool, List, Option, Some, None, length, slice_get, if◌then◌else◌}
use Rattle.bhs_net.specs.Network.{Network}
use Rattle.bhs_model.specs.declared.setups.Setup.{Setup}
use Rattle.bhs_stream.specs.Streams.{WriteAnswer}
use Rattle.bhs_time.specs.Schedules.{DelayLaw, Schedule}
use Rattle.bhs_time.specs.TimedLogs.{IsTimedLog}
use Rattle.bhs_time.specs.declared.kinds.ScheduleKind.TheVariants as kinds
use Rattle.bhs_match.specs.Matches.{Play, world_in}
use Rattle.bhs_deliveries.specs.Dealer.{dealer_at}
use Rattle.bhs_deliveries.specs.Links.{held_in}
use Rattle.bhs_deliveries.specs.Scheduling.{stamps_in, whole_schedule}
use Rattle.bhs_deliveries.specs.Timeliness.{IsUntimelyAt}
use Rattle.bhs_deliveries.specs.declared.timeliness.Untimely.{Untimely}
use Rattle.bhs_deliveries.specs.declared.timeliness.Untimely.TheVariants as untimely
use Rattle.bhs_referee.specs.Verdicts.{verdict_of}
use Rattle.bhs_setups.specs.declared.lineups.Lineup.{Lineup}
use Rattle.bhs_setups.specs.declared.lineups.Ready.{Ready}
use Rattle.bhs_replay.specs.Head.{head_line, version_of}
use Rattle.bhs_cli.specs.Fault.{status}
use Rattle.bhs_cli_results.specs.HeldLinks.{first_held}
use Rattle.bhs_cli.specs.Filing.{IsReplayed}
use Rattle.bhs_cli_results.specs.Reports.{verdict_line}
use Rattle.bhs_cli.specs.Showing.{Prints, Reports}
use Rattle.bhs_cli.specs.Summary.{IsAssembled}
use Rattle.bhs_cli.specs.declared.reporting.appeal_faults.AppealFault.{AppealFault}
use Rattle.bhs_cli.specs.declared.reporting.appeal_faults.AppealFault.TheVariants.{Adaptive, Other, Count, Early}
use Rattle.bhs_cli.specs.declared.reporting.appeal_faults.AppealFault.TheVariants.{LeftOut}
use Rattle.bhs_cli.specs.declared.reporting.appeal_faults.AppealFault.TheVariants.{Held}
use Rattle.bhs_cli.specs.declared.reporting.appeal_faults.AppealFault.TheVariants.{Late}
use Rattle.bhs_cli.specs.declared.reporting.faults.Fault.{Fault}
use Rattle.bhs_cli.specs.declared.reporting.faults.Fault.TheVariants.{NoMatch, Appeal, Memory}

-- the head of a match's replay: its network and its setup
abbrev pub own_head : Network → Setup → List ℕ
own_head net setup = head_line (version_of net setup) net setup

-- A replay with turns, and the tournament's match that it claims to be.
pub record Case : Type 0 where
  pub lineup : Lineup
  pub game : ℕ
  pub play : Play
  pub turns : List ℕ

-- the oblivious schedule of the match: by the words of the tournament's seed for the stream of the match's number
abbrev pub schedule_of : Case → DelayLaw → Schedule
schedule_of one law = whole_schedule (dealer_at one.lineup.seed one.game 0) one.play.setup.agents law

-- the replay's match has the head of the tournament's match of that number
pub record IsSameMatch (one : Case) (ready : Ready) : Type 0 where
  pub there : slice_get one.lineup.ready.items one.game ≡ Some ready
  pub same : own_head one.play.net one.play.setup ≡ own_head ready.game.net ready.game.setup

-- The replay is of the tournament's match, which has the oblivious schedule. Each event has a turn, and with these
-- turns the replay's log is that of a timed execution by the words of the seed and with the match's held links.
pub record IsOnTime (one : Case) : Type 0 where
  pub ready : Ready
  pub same : IsSameMatch one ready
  pub law : DelayLaw
  pub oblivious : one.lineup.schedule ≡ kinds.Oblivious law
  pub count : length one.turns ≡ length one.play.log
  pub timely : IsTimedLog (world_in one.play) (held_in ready.held) (schedule_of one law)
      (stamps_in one.play.log one.turns)

-- the event at this place is the first that belongs to no timed execution, for this reason
pub record IsAstrayAt (one : Case) (place : ℕ) (why : Untimely) : Type 0 where
  pub ready : Ready
  pub same : IsSameMatch one ready
  pub law : DelayLaw
  pub oblivious : one.lineup.schedule ≡ kinds.Oblivious law
  pub count : length one.turns ≡ length one.play.log
  pub astray : IsUntimelyAt (world_in one.play) (held_in ready.held) (schedule_of one law)
      (stamps_in one.play.log one.turns) place why

-- the delivery at this place is the first over a link that the tournament's match holds
pub record IsHeldAt (one : Case) (place : ℕ) : Type 0 where
  pub ready : Ready
  pub there : slice_get one.lineup.ready.items one.game ≡ Some ready
  pub found : first_held ready.held one.play ≡ Some place

-- the fault of a delivery that its turn does not make, if this is the first delivery over a held link
abbrev pub fault_of_late : (place : ℕ) → (held : Option ℕ) → AppealFault
fault_of_late place None = Late place
fault_of_late place (Some other) = if other == place then Held place else Late place

-- the fault of an event that belongs to no timed execution
abbrev pub fault_of : (place : ℕ) → Untimely → (held : Option ℕ) → AppealFault
fault_of place untimely.Early held = Early place
fault_of place (untimely.LeftOut agent turn) held = LeftOut place agent turn
fault_of place untimely.Late held = fault_of_late place held

-- the replay's match has another head than the tournament's match of that number
pub record IsOtherMatch (one : Case) (game : ℕ) : Type 0 where
  pub ready : Ready
  pub there : slice_get one.lineup.ready.items one.game ≡ Some ready
  pub number : game ≡ one.game
  pub other : own_head one.play.net one.play.setup ≢ own_head ready.game.net ready.game.setup

-- The number of turns differs from the number of events.
pub record IsMiscounted (one : Case) (turns events : ℕ) : Type 0 where
  pub turns_are : turns ≡ length one.turns
  pub events_are : events ≡ length one.play.log
  pub differ : turns ≢ events

-- what is wrong; of a lack of memory nothing is said
abbrev pub IsWrongWith : Case → Fault → Type 0
IsWrongWith one (NoMatch game) = (game ≡ one.game) × (slice_get one.lineup.ready.items one.game ≡ None)
IsWrongWith one (Appeal Adaptive) = one.lineup.schedule ≡ kinds.Adaptive
IsWrongWith one (Appeal (Other game)) = IsOtherMatch one game
IsWrongWith one (Appeal (Count turns events)) = IsMiscounted one turns events
IsWrongWith one (Appeal (Early place)) = IsAstrayAt one place untimely.Early
IsWrongWith one (Appeal (LeftOut place agent turn)) = IsAstrayAt one place (untimely.LeftOut agent turn)
IsWrongWith one (Appeal (Held place)) = IsAstrayAt one place untimely.Late × IsHeldAt one place
IsWrongWith one (Appeal (Late place)) = IsAstrayAt one place untimely.Late
IsWrongWith one Memory = Unit {0}
IsWrongWith one fault = ⊥

-- Some text is this replay, and some texts make this tournament.
pub record IsCase (game : ℕ) (one : Case) : Type 0 where
  pub number : one.game ≡ game
  pub assembled : IsAssembled one.lineup
  pub replayed : IsReplayed one.play

-- the text is the verdict on this match
abbrev pub IsVerdictOn : Play → (text : List ℕ) → Type 0
IsVerdictOn play text = text ≡ verdict_line (verdict_of play)

-- the calls of the output
module _ {O : Type 0} (takes : O → List ℕ → WriteAnswer → O → Type 0) (flushes : O → Bool → O → Type 0) where
  -- what came of an appeal to the match of this number
  pub data Appeals (game : ℕ) (output output' : O) (code : ℕ) : Type 0 where
    -- The log with its turns is a timed execution; the command's output is the verdict.
    upholds : (one : Case) → IsCase game one → IsOnTime one
        → Reports (Prints takes flushes) (IsVerdictOn one.play) output output' code → Appeals game output output' code
    -- this is wrong, and nothing was written
    rejects : (one : Case) → IsCase game one → (fault : Fault) → IsWrongWith one fault → code ≡ status fault
        → output' ≡ output → Appeals game output output' code
    -- a file is refused or cannot be read, or memory ran out, and nothing was written
    hears_nothing : (fault : Fault) → code ≡ status fault → output' ≡ output → Appeals game output output' code
