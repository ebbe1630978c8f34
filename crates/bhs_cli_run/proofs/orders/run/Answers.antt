use Rattle.std.proofs.Common.{inl, inr, refl}
use Rattle.bhs_cli.specs.declared.reporting.faults.Fault.TheVariants.{Memory}
use Rattle.bhs_cli_run.specs.Program.{obeys, helps}
use Rattle.bhs_cli_run.proofs.ExitLemmas.{status_of_run}
use Rattle.bhs_cli_run.proofs.orders.run.Goals as goal

pub returns-in-Ok-Ordered-clause-runs : goal.returns-in-Ok-Ordered-clause-runs
returns-in-Ok-Ordered-clause-runs g c = obeys c.in-Ok-Ordered.order
    (rw c.in-Ok-Ordered.field-0-is at c.in-Ok-Ordered.ensures.answers) c.obey.ensures

pub returns-in-Ok-Ordered-clause-status : goal.returns-in-Ok-Ordered-clause-status
returns-in-Ok-Ordered-clause-status g c = status_of_run _ _ _ _ _ _ _ _ _ _ (returns-in-Ok-Ordered-clause-runs g c)

pub returns-in-Ok-Shown-clause-runs : goal.returns-in-Ok-Shown-clause-runs
returns-in-Ok-Shown-clause-runs g c =
    let asked = rw c.in-Ok-Shown.field-0-is at c.in-Ok-Shown.ensures.answers in
    helps c.as_str.result.now asked refl c.show_text.ensures

pub returns-in-Ok-Shown-clause-status : goal.returns-in-Ok-Shown-clause-status
returns-in-Ok-Shown-clause-status g c = status_of_run _ _ _ _ _ _ _ _ _ _ (returns-in-Ok-Shown-clause-runs g c)

pub returns-in-Ok-Refused-clause-status : goal.returns-in-Ok-Refused-clause-status
returns-in-Ok-Refused-clause-status g c =
    elim c.report_refusal.ensures [ inl is ↦ inr (inl (inl is)) | inr is ↦ inr (inr (Memory, is)) ]

pub returns-in-Err-clause-status : goal.returns-in-Err-clause-status
returns-in-Err-clause-status g c = inr (inr (Memory, c.report.ensures))
