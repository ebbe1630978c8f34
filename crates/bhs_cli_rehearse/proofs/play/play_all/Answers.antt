use Rattle.std.proofs.Common.{◌+◌, refl, ap, map, drop, ◌++◌, ◌∙◌}
use Rattle.bhs_rehearsal.specs.Stages.{step}
use Rattle.bhs_script.specs.Instructions.{seen}
use Rattle.bhs_script.specs.Transcript.{all_printed}
use Rattle.bhs_cli.specs.declared.reporting.faults.Fault.TheVariants.{Write, Memory}
use Rattle.bhs_stream.proofs.PutsLemmas.{sent_none, sent_more, sent_so_far}
use Rattle.bhs_cli.proofs.StopLemmas.{stopped_at}
use Rattle.bhs_cli.proofs.StopLemmas.{fault_is}
use Rattle.bhs_cli_rehearse.proofs.PlayLemmas.{one_by_one, transcript-turn}
use Rattle.bhs_cli_rehearse.proofs.play.play_all.Goals as goal

pub returns-in_err-obey-clause-stopped : goal.returns-in_err-obey-clause-stopped
returns-in_err-obey-clause-stopped g c =
    fault_is c.from_residual.result Memory _ c.from_residual.ensures.1
    (sent_so_far g.W.Output.takes _ _ _ _ c.loop-instruction.invariant.1)

pub returns-in_err-send-clause-stopped : goal.returns-in_err-send-clause-stopped
returns-in_err-send-clause-stopped g c =
    let turn = one_by_one c.args.script.now c.loop-instruction.instruction-index c.instruction-item.result
    c.loop-instruction-test.true c.instruction-item.is in
    let here = rw (transcript-turn c.loop-instruction.rehearsal.stage _ (seen c.instruction-item.result)
    (map seen (drop (c.loop-instruction.instruction-index + 1) c.args.script.now)) turn)
    at c.loop-instruction.invariant.1 in
    let text = c.in_ok-obey.ensures.text ∙ ap (λ items. items ++ all_printed
    (step c.loop-instruction.rehearsal.stage (seen c.instruction-item.result)).outs) c.clear.ensures.items in
    let stopped = rw (c.deref.ensures.value, text) at c.in_err-send.ensures.err in
    fault_is c.from_residual-in_err-send.result Write _ c.from_residual-in_err-send.ensures.1
    (stopped_at g.W.Output.takes _ _ _ _ _ _ Write here stopped)

pub loop-instruction-preserved : goal.loop-instruction-preserved
loop-instruction-preserved g c =
    let turn = one_by_one c.args.script.now c.loop-instruction.instruction-index c.instruction-item.result
    c.loop-instruction-test.true c.instruction-item.is in
    let here = rw (transcript-turn c.loop-instruction.rehearsal.stage _ (seen c.instruction-item.result)
    (map seen (drop (c.loop-instruction.instruction-index + 1) c.args.script.now)) turn)
    at c.loop-instruction.invariant.1 in
    let text = c.in_ok-obey.ensures.text ∙ ap (λ items. items ++ all_printed
    (step c.loop-instruction.rehearsal.stage (seen c.instruction-item.result)).outs) c.clear.ensures.items in
    let printed = rw (c.deref.ensures.value, text) at c.in_ok-send.ensures.ok in
    let stands = rw turn at c.loop-instruction.invariant.0 in (
      rw c.in_ok-obey.ensures.stage stands,
      rw c.in_ok-obey.ensures.stage
          (sent_more g.W.Output.takes _ _ _ _ _ _ here printed),
    )

pub loop-instruction-init : goal.loop-instruction-init
loop-instruction-init g c = (refl, sent_none g.W.Output.takes _ _)
