use Rattle.std.proofs.Common.{◌≡◌, ap, refl, false}
use Rattle.bhs_rehearsal.specs.Rehearsing.{Rehearsing}
use Rattle.bhs_cli_rehearse.specs.Rehearsal.{opening}
use Rattle.bhs_cli_rehearse.specs.Interactive.{begins, at_start}
use Rattle.bhs_cli.specs.declared.reporting.faults.Fault.TheVariants.{Memory}
use Rattle.bhs_cli.proofs.StopLemmas.{fault_is}
use Rattle.bhs_cli_rehearse.proofs.interactive.rehearse_interactively.Goals as goal

pub returns-in_err-new-clause-stopped : goal.returns-in_err-new-clause-stopped
returns-in_err-new-clause-stopped g c =
    fault_is c.from_residual.result Memory _ c.from_residual.ensures.1 (record {
      reads = 0;
      is_over = false;
      progress = at_start (opening c.args.lineup);
      there = c.args.writer.now;
      interacts = begins;
      breaks = refl;
    })

pub returns-in_err-interact-clause-stopped : goal.returns-in_err-interact-clause-stopped
returns-in_err-interact-clause-stopped g c =
    let same : c.in_ok-new.field-0.stage ≡ opening c.args.lineup =
    ap (λ (r : Rehearsing). r.stage) c.in_ok-new.ensures in
    fault_is c.from_residual-in_err-interact.result c.in_err-interact.field-0.0 _
    c.from_residual-in_err-interact.ensures.1
    (rw same at c.in_err-interact.ensures.stopped)

pub returns-clause-played : goal.returns-clause-played
returns-clause-played g c =
    let same : c.in_ok-new.field-0.stage ≡ opening c.args.lineup =
    ap (λ (r : Rehearsing). r.stage) c.in_ok-new.ensures in
    rw c.into_ready.ensures.games (rw same at c.in_ok-interact.ensures.played)
