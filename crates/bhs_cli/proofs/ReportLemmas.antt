-- Reports that are made, and that are printed line by line.
use Rattle.std.proofs.Common.{◌≡◌, ◌⊎◌, inl, inr, refl, ℕ, List, [], ◌∷◌, ◌++◌, ◌+◌, ◌<◌, Bool, true, false, true≢false}
use Rattle.std.proofs.Common.{sym, subst, ◌∙◌, is_ok, length, drop, take, get_or, OnOk, OnErr, IfOk, Result, Ok}
use Rattle.std.proofs.Common.{Err, Some, ap, arith}
use Rattle.std.specs.Prelude.{if◌then◌else◌}
use Rattle.std.specs.Result.{is_err}
use Rattle.std.proofs.lemmas.List.{drop_more, take_more}
use Rattle.bhs_stream.specs.Streams.{WriteAnswer}
use Rattle.bhs_stream.specs.Sending.{PutsAll}
use Rattle.bhs_replay.specs.declared.faults.ReplayFault.TheVariants as replays
use Rattle.bhs_cli.specs.declared.reporting.faults.Fault.{Fault}
use Rattle.bhs_cli.specs.declared.reporting.faults.Fault.TheVariants.{Read, Text, Turns, Line, File, Replay, Twin}
use Rattle.bhs_cli.specs.declared.reporting.faults.Fault.TheVariants.{Write}
use Rattle.bhs_cli.specs.declared.reporting.faults.Fault.TheVariants.{Memory, Listen, Busy, Threads, Unsettled}
use Rattle.bhs_cli.specs.declared.reporting.faults.Fault.TheVariants.{Modules, NoMatch}
use Rattle.bhs_cli.specs.declared.reporting.faults.Fault.TheVariants.{Exploring, Appeal}
use Rattle.bhs_cli.specs.declared.reporting.appeal_faults.AppealFault.TheVariants as appeals
use Rattle.bhs_cli.specs.declared.reporting.statuses.TheConstants.{DONE, NO_MEMORY}
use Rattle.bhs_cli.specs.Fault.{status}
use Rattle.bhs_cli.specs.Showing.{Prints, Reports, prints, stops}

-- A report is printed, unless memory ran out while making it.
pub reported : {O S E : Type 0} (takes : O → List ℕ → WriteAnswer → O → Type 0) (flushes : O → Bool → O → Type 0)
    (IsReport : List ℕ → Type 0) (bytes : S → List ℕ)
    (output output' : O) (code : ℕ) (made : Result S E) → IfOk made (λ text. IsReport (bytes text))
    → IfOk made (λ text. Prints takes flushes (bytes text) output output' code)
    → OnErr made ((code ≡ NO_MEMORY) × (output' ≡ output))
    → Reports (Prints takes flushes) IsReport output output' code
reported takes flushes IsReport bytes output output' code (Ok text) is printed lacks = prints (bytes text) is printed
reported takes flushes IsReport bytes output output' code (Err e) is printed lacks = stops Memory lacks.0 lacks.1

-- a file that took the whole text
pub filed : {O T E : Type 0} (takes : O → List ℕ → WriteAnswer → O
    → Type 0) (old new : O) (text : List ℕ) (r : Result T E)
    → OnOk r (PutsAll takes old text new)
    → OnOk r ((x : O) × (y : O) × PutsAll takes x text y)
filed takes old new text (Ok x) puts = (old, new, puts)
filed takes old new text (Err e) puts = tt

-- No fault has the status `DONE`.
pub not_done : (fault : Fault) → status fault ≡ DONE → ⊥
not_done Read e = omega arith
not_done Text e = omega arith
not_done Turns e = omega arith
not_done (Line line) e = omega arith
not_done (File fault) e = omega arith
not_done (Replay (replays.Event line)) e = omega arith
not_done (Replay (replays.Differs line)) e = omega arith
not_done (Replay replays.Head) e = omega arith
not_done (Replay (replays.Line line)) e = omega arith
not_done (Replay replays.End) e = omega arith
not_done (Replay replays.Read) e = omega arith
not_done (Replay replays.Memory) e = omega arith
not_done (Replay replays.Turns) e = omega arith
not_done (Twin fault) e = omega arith
not_done (Appeal appeals.Adaptive) e = omega arith
not_done (Appeal (appeals.Other game)) e = omega arith
not_done (Appeal (appeals.Count turns events)) e = omega arith
not_done (Appeal (appeals.Early place)) e = omega arith
not_done (Appeal (appeals.LeftOut place agent turn)) e = omega arith
not_done (Appeal (appeals.Held place)) e = omega arith
not_done (Appeal (appeals.Late place)) e = omega arith
not_done Listen e = omega arith
not_done Busy e = omega arith
not_done Threads e = omega arith
not_done (NoMatch game) e = omega arith
not_done (Modules modules agents) e = omega arith
not_done (Exploring why) e = omega arith
not_done (Unsettled game) e = omega arith
not_done Write e = omega arith
not_done Memory e = omega arith
