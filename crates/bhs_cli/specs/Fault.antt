-- The faults of orders.
use Rattle.std.specs.Prelude.{◌≡◌, ℕ}
use Rattle.std.specs.declared.io.ErrorKind.{ErrorKind}
use Rattle.std.specs.declared.io.ErrorKind.TheVariants.{OutOfMemory}
use Rattle.bhs_stream.specs.declared.reader.ReadFault.{ReadFault}
use Rattle.bhs_stream.specs.declared.reader.ReadFault.TheVariants as reads
use Rattle.bhs_files.specs.declared.faults.FileFault.{FileFault}
use Rattle.bhs_files.specs.declared.faults.FileFault.TheVariants as files
use Rattle.bhs_script.specs.declared.faults.ScriptFault.{ScriptFault}
use Rattle.bhs_script.specs.declared.faults.ScriptFault.TheVariants as scripts
use Rattle.bhs_replay.specs.declared.faults.ReplayFault.{ReplayFault}
use Rattle.bhs_replay.specs.declared.faults.ReplayFault.TheVariants as replays
use Rattle.bhs_replay.specs.declared.faults.WritingFault.{WritingFault}
use Rattle.bhs_replay.specs.declared.faults.WritingFault.TheVariants as writing
use Rattle.bhs_view.specs.declared.twins.TwinFault.{TwinFault}
use Rattle.bhs_view.specs.declared.twins.TwinFault.TheVariants as twins
use Rattle.bhs_schedules.specs.declared.faults.ExploreFault.{ExploreFault}
use Rattle.bhs_schedules.specs.declared.faults.ExploreFault.TheVariants as exploring
use Rattle.bhs_cli.specs.declared.reporting.appeal_faults.AppealFault.{AppealFault}
use Rattle.bhs_cli.specs.declared.reporting.appeal_faults.AppealFault.TheVariants.{Adaptive}
use Rattle.bhs_cli.specs.declared.reporting.faults.Fault.{Fault}
use Rattle.bhs_cli.specs.declared.reporting.faults.Fault.TheVariants.{Read, Text, Turns, Line, File, Replay, Twin}
use Rattle.bhs_cli.specs.declared.reporting.faults.Fault.TheVariants.{Write}
use Rattle.bhs_cli.specs.declared.reporting.faults.Fault.TheVariants.{Memory, Modules, NoMatch, Exploring, Listen}
use Rattle.bhs_cli.specs.declared.reporting.faults.Fault.TheVariants.{Busy, Threads}
use Rattle.bhs_cli.specs.declared.reporting.faults.Fault.TheVariants.{Unsettled, Appeal}
use Rattle.bhs_cli.specs.declared.reporting.statuses.TheConstants as statuses

-- an error of opening or reading
abbrev pub of_kind : ErrorKind → Fault
of_kind OutOfMemory = Memory
of_kind kind = Read

-- a fault of reading
abbrev pub of_read : ReadFault → Fault
of_read reads.Read = Read
of_read reads.Text = Text
of_read reads.Memory = Memory
of_read reads.Turns = Turns

-- a fault of a file
abbrev pub of_file : FileFault → Fault
of_file files.Memory = Memory
of_file fault = File fault

-- a fault of a script
abbrev pub of_script : ScriptFault → Fault
of_script (scripts.Line line) = Line line
of_script scripts.Memory = Memory

-- a fault of a replay
abbrev pub of_replay : ReplayFault → Fault
of_replay replays.Read = Read
of_replay replays.Memory = Memory
of_replay replays.Turns = Turns
of_replay fault = Replay fault

-- why a replay was not written whole
abbrev pub of_writing : WritingFault → Fault
of_writing writing.Write = Write
of_writing writing.Memory = Memory

-- why there is no twin
abbrev pub of_twin : TwinFault → Fault
of_twin twins.Memory = Memory
of_twin fault = Twin fault

-- why not every schedule was tried
abbrev pub of_exploring : ExploreFault → Fault
of_exploring exploring.Memory = Memory
of_exploring fault = Exploring fault

-- the exit status for a text that is no replay: its spelling is wrong, or no match has its events
abbrev pub replay_status : ReplayFault → ℕ
replay_status (replays.Event line) = statuses.REFUSED_MATCH
replay_status (replays.Differs line) = statuses.REFUSED_MATCH
replay_status fault = statuses.REFUSED_TEXT

-- the exit status of an appeal that is not heard: no turns make an adaptive schedule, or what is compared does not fit
abbrev pub appeal_status : AppealFault → ℕ
appeal_status Adaptive = statuses.REFUSED_TEXT
appeal_status fault = statuses.REFUSED_MATCH

-- the exit status of a fault
abbrev pub status : Fault → ℕ
status Read = statuses.FAILED_STREAM
status Text = statuses.REFUSED_TEXT
status Turns = statuses.FAILED_STREAM
status (Line line) = statuses.REFUSED_TEXT
status (File fault) = statuses.REFUSED_TEXT
status (Replay fault) = replay_status fault
status (Twin fault) = statuses.REFUSED_MATCH
status (NoMatch game) = statuses.REFUSED_TEXT
status (Modules modules agents) = statuses.REFUSED_TEXT
status (Exploring fault) = statuses.REFUSED_TEXT
status (Appeal fault) = appeal_status fault
status Listen = statuses.FAILED_STREAM
status Busy = statuses.FAILED_STREAM
status Threads = statuses.NO_THREADS
status (Unsettled game) = statuses.REFUSED_MATCH
status Write = statuses.FAILED_STREAM
status Memory = statuses.NO_MEMORY

-- the exit status of some fault
abbrev pub IsOfFault : ℕ → Type 0
IsOfFault code = (fault : Fault) × (code ≡ status fault)
