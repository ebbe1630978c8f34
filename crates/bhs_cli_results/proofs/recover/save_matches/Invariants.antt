use Rattle.std.proofs.Common.{◌≡◌, ◌⊎◌, ◌<◌, ℕ}
use Rattle.bhs_stream.specs.Streams.{known_takes}
use Rattle.bhs_cli.specs.Fault.{IsOfFault}
use Rattle.bhs_cli_results.specs.Recovery.{IsSaved}
use Rattle.bhs_cli.specs.declared.reporting.statuses.TheConstants.{DONE}
use Rattle.bhs_cli_results.proofs.recover.save_matches.Given as goal

abbrev pub invariant-loop-number : goal.invariant-loop-number
invariant-loop-number g l = record {
  status : (l.status ≡ DONE) ⊎ IsOfFault l.status;
  saved : l.status ≡ DONE → (other : ℕ) → other < l.number
      → IsSaved (known_takes g.F.File.Write.contents) l.lineup other;
}
