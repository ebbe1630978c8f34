use Rattle.std.proofs.Common.{inl, inr, refl}
use Rattle.bhs_cli.specs.declared.reporting.faults.Fault.TheVariants.{Write}
use Rattle.bhs_cli_rehearse.specs.Rehearsal.{done, ends, unfiled}
use Rattle.bhs_cli_rehearse.proofs.whole_rehearsals.rehearse_whole.Goals as goal

pub returns-in-Some : goal.returns-in-Some
returns-in-Some g c =
    let (out, games) = c.in-Ok.ensures.played in
    rw c.in-Some.is (elim c.write_replays.ensures.status [
      | inl is ↦ done out is (rw games (c.write_replays.ensures.filed is))
      | inr (fault, is) ↦ unfiled fault is refl out
    ])

pub returns-in-Ok : goal.returns-in-Ok
returns-in-Ok g c = rw c.in-None.is (done c.in-Ok.ensures.played.0 refl tt)

pub returns-in-Err-Write : goal.returns-in-Err-Write
returns-in-Err-Write g c = ends Write c.report.ensures (rw c.in-Err-Write.field-0-is at c.in-Err-Write.ensures.ended)

pub returns : goal.returns
returns g c = ends c.in-Err.fault c.report-in-Err.ensures c.in-Err.ensures.ended
