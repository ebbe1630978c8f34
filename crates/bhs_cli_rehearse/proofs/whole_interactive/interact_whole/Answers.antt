use Rattle.std.proofs.Common.{inl, inr, refl, map}
use Rattle.bhs_rehearsal.specs.Rehearsing.{game_of}
use Rattle.bhs_cli.specs.declared.reporting.faults.Fault.TheVariants.{Write}
use Rattle.bhs_cli_rehearse.specs.InteractiveTournaments.{interaction_done, interaction_ends, interaction_unfiled}
use Rattle.bhs_cli_rehearse.proofs.whole_interactive.interact_whole.Goals as goal

pub returns-in-Some : goal.returns-in-Some
returns-in-Some g c =
    let games = map game_of c.in-Ok.ready.items in
    rw c.in-Some.is (elim c.write_replays.ensures.status [
      | inl is ↦ interaction_done games c.in-Ok.ensures.played is (c.write_replays.ensures.filed is)
      | inr (fault, is) ↦ interaction_unfiled fault is refl games c.in-Ok.ensures.played
    ])

pub returns-in-Ok : goal.returns-in-Ok
returns-in-Ok g c = rw c.in-None.is (interaction_done (map game_of c.in-Ok.ready.items) c.in-Ok.ensures.played refl tt)

pub returns-in-Err-Write : goal.returns-in-Err-Write
returns-in-Err-Write g c =
    interaction_ends Write c.report.ensures (rw c.in-Err-Write.field-0-is at c.in-Err-Write.ensures.stopped)

pub returns : goal.returns
returns g c = interaction_ends c.in-Err.fault c.report-in-Err.ensures c.in-Err.ensures.stopped
