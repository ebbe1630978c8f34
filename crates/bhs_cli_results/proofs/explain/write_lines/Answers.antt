use Rattle.bhs_cli.specs.declared.reporting.faults.Fault.TheVariants.{Memory, Write}
use Rattle.bhs_stream.proofs.PutsLemmas.{sent_more, sent_none, sent_so_far}
use Rattle.bhs_cli.proofs.StopLemmas.{stopped_at}
use Rattle.bhs_cli.proofs.StopLemmas.{fault_is}
use Rattle.bhs_cli_results.proofs.ResultLemmas.{next_line}
use Rattle.bhs_cli_results.proofs.explain.write_lines.Goals as goal

pub loop-place-init : goal.loop-place-init
loop-place-init g c = sent_none g.W.Output.takes _ _

pub returns-in_err-line-clause-err : goal.returns-in_err-line-clause-err
returns-in_err-line-clause-err g c =
    fault_is c.from_residual.result Memory _ c.from_residual.ensures.1
    (sent_so_far g.W.Output.takes _ _ _ _ c.loop-place.invariant)

pub returns-in_err-send-clause-err : goal.returns-in_err-send-clause-err
returns-in_err-send-clause-err g c =
    let here = rw (next_line c.args.kind c.args.sealed.now c.args.places.now c.loop-place.place-index 0
    c.loop-place-test.true) at c.loop-place.invariant in
    let stopped = rw (c.as_bytes.ensures.value, c.in_ok-line.ensures) at c.in_err-send.ensures.err in
    fault_is c.from_residual-in_err-send.result Write _ c.from_residual-in_err-send.ensures.1
    (stopped_at g.W.Output.takes _ _ _ _ _ _ Write here stopped)

pub loop-place-preserved : goal.loop-place-preserved
loop-place-preserved g c =
    let here = rw (next_line c.args.kind c.args.sealed.now c.args.places.now c.loop-place.place-index 0
    c.loop-place-test.true) at c.loop-place.invariant in
    let printed = rw (c.as_bytes.ensures.value, c.in_ok-line.ensures) at c.in_ok-send.ensures.ok in
    sent_more g.W.Output.takes _ _ _ _ _ _ here printed
