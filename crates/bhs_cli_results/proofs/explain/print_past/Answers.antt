use Rattle.std.proofs.Common.{refl}
use Rattle.bhs_cli_results.specs.Reports.{past_of}
use Rattle.bhs_cli.specs.Showing.{prints, stops}
use Rattle.bhs_cli_results.proofs.explain.print_past.Goals as goal

pub returns-in-Ok : goal.returns-in-Ok
returns-in-Ok g c =
    prints (past_of c.args.kind c.in-Ok.sealed c.args.agent)
    (record { play = c.in-Ok.sealed; replayed = c.in-Ok.ensures.read; said = refl })
    (c.passed_on.ensures c.args.writer.now (past_of c.args.kind c.in-Ok.sealed c.args.agent)
    c.write_past-written.ensures.ok c.write_past-written.ensures.err)

pub returns-in-Err : goal.returns-in-Err
returns-in-Err g c = let (fault, is) = c.in-Err.ensures.fault in stops fault is refl
