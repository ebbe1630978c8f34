use Rattle.std.proofs.Common.{inl, inr, refl}
use Rattle.bhs_cli_run.specs.Program.{does, lacks_memory}
use Rattle.bhs_cli_run.proofs.orders.obey.Goals as goal

pub returns-in-Rehearse : goal.returns-in-Rehearse
returns-in-Rehearse g c = rw c.in-Rehearse.is (elim c.rehearse_named.ensures [
  | inl deed ↦ does deed
  | inr (coded, rests) ↦ lacks_memory coded rests
])

pub returns-in-RehearseInteractively : goal.returns-in-RehearseInteractively
returns-in-RehearseInteractively g c = rw c.in-RehearseInteractively.is (elim c.rehearse_interactively_named.ensures [
  | inl deed ↦ does deed
  | inr (coded, rests) ↦ lacks_memory coded rests
])

pub returns-in-Check : goal.returns-in-Check
returns-in-Check g c = rw c.in-Check.is (does (refl, c.check.ensures))

pub returns-in-Judge : goal.returns-in-Judge
returns-in-Judge g c = rw c.in-Judge.is (does (refl, c.print_verdict.ensures))

pub returns-in-Appeal : goal.returns-in-Appeal
returns-in-Appeal g c = rw c.in-Appeal.is (does (refl, c.print_appealed_verdict.ensures))

pub returns-in-Table : goal.returns-in-Table
returns-in-Table g c = rw c.in-Table.is (does (refl, rw c.all.ensures at c.print_table.ensures))

pub returns-in-ContestTable : goal.returns-in-ContestTable
returns-in-ContestTable g c = rw c.in-ContestTable.is (does (refl, c.print_contest_table.ensures))

pub returns-in-Explain : goal.returns-in-Explain
returns-in-Explain g c =
    rw c.in-Explain.is (does (refl, record { kind = c.output_kind-kind.result; printed = c.print_past.ensures }))

pub returns-in-Twin : goal.returns-in-Twin
returns-in-Twin g c = rw c.in-Twin.is (does (refl, c.print_twin.ensures))

pub returns-in-Recover : goal.returns-in-Recover
returns-in-Recover g c = rw c.in-Recover.is (does (refl, c.print_recovered.ensures))

pub returns-in-RecoverContest : goal.returns-in-RecoverContest
returns-in-RecoverContest g c = rw c.in-RecoverContest.is (does (refl, c.recover_named.ensures))

pub returns-in-Explore : goal.returns-in-Explore
returns-in-Explore g c = rw c.in-Explore.is (does c.explore_named.ensures)

pub returns-in-ExploreModules : goal.returns-in-ExploreModules
returns-in-ExploreModules g c = rw c.in-ExploreModules.is (does (refl, c.explore_modules_named.ensures))

pub returns-in-ExploreAllHoles : goal.returns-in-ExploreAllHoles
returns-in-ExploreAllHoles g c = rw c.in-ExploreAllHoles.is (does (refl, c.explore_holes_named.ensures))

pub returns-in-Attest : goal.returns-in-Attest
returns-in-Attest g c = rw c.in-Attest.is (does (refl, c.attest_named.ensures))

pub returns-in-Serve : goal.returns-in-Serve
returns-in-Serve g c = rw c.in-Serve.is (does (refl, c.serve_named.ensures))
