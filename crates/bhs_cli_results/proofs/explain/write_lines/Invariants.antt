use Rattle.std.proofs.Common.{drop}
use Rattle.bhs_stream.proofs.PutsLemmas.{IsSentUpTo}
use Rattle.bhs_cli_results.specs.Reports.{lines_at}
use Rattle.bhs_cli_results.proofs.explain.write_lines.Given as goal

abbrev pub invariant-loop-place : goal.invariant-loop-place
invariant-loop-place g l =
    IsSentUpTo g.W.Output.takes l.fn.writer l.writer (lines_at l.kind l.sealed l.places)
    (lines_at l.kind l.sealed (drop l.place-index l.places))
