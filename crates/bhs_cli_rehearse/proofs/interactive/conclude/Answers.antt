use Rattle.std.proofs.Common.{◌≡◌, ◌<◌, [], refl, inl, length, rules}
use Rattle.bhs_cli_rehearse.specs.Shells.{progress_of}
use Rattle.bhs_cli_rehearse.specs.Interactive.{none, ended}
use Rattle.bhs_cli.specs.declared.reporting.faults.Fault.TheVariants.{Write}
use Rattle.bhs_cli.proofs.StopLemmas.{fault_is}
use Rattle.bhs_cli_rehearse.proofs.InteractiveLemmas.{breaks_within, ended_line, ended_nothing, nothing_left}
use Rattle.bhs_cli_rehearse.proofs.interactive.conclude.Goals as goal

pub returns-in_err-finish-clause-stopped : goal.returns-in_err-finish-clause-stopped
returns-in_err-finish-clause-stopped g c =
    let start = ended (progress_of c.args.shell.now []) in
    fault_is c.from_residual.result Write _ c.from_residual.ensures.1
    (breaks_within g.W.Output.takes g.W.Output.flushes c.args.shell.now.games start start _ _ _ Write none
    (inl c.in_err-finish.ensures.err))

pub returns-then-is_empty-clause-concluded : goal.returns-then-is_empty-clause-concluded
returns-then-is_empty-clause-concluded g c =
    let empty : length c.args.shell.now.line.items ≡ 0 = search rules in
    record {
      progress = progress_of c.args.shell.now [];
      there = c.args.writer.now;
      answers = rw (ended_nothing c.args.shell.now empty) none;
      all = nothing_left c.args.shell.now.line.items empty;
      left = refl;
      passed = c.in_ok-finish.ensures.ok;
    }

pub returns-in_err-answer-clause-stopped : goal.returns-in_err-answer-clause-stopped
returns-in_err-answer-clause-stopped g c =
    let some : 0 < length c.args.shell.now.line.items = search rules in
    let start = ended (progress_of c.args.shell.now []) in
    let fault = c.in_err-answer.field-0.0 in
    fault_is c.from_residual-in_err-answer.result fault _ c.from_residual-in_err-answer.ensures.1
    (breaks_within g.W.Output.takes g.W.Output.flushes c.args.shell.now.games start start _ _ _ fault none
    (rw (ended_line c.args.shell.now some) (c.in_err-answer.ensures.stopped [])))

pub returns-clause-concluded : goal.returns-clause-concluded
returns-clause-concluded g c =
    let some : 0 < length c.args.shell.now.line.items = search rules in
    record {
      progress = progress_of c.answer.new.shell [];
      there = c.answer.new.writer;
      answers = rw (ended_line c.args.shell.now some) (c.in_ok-answer.ensures.answered []);
      all = rw c.in_ok-answer.ensures.line refl;
      left = refl;
      passed = c.in_ok-finish-2.ensures.ok;
    }
