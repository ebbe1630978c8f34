use Rattle.std.proofs.Common.{◌∙◌, ap}
use Rattle.bhs_cli_results.specs.ContestTables.{nothing_found}
use Rattle.bhs_cli.specs.Filing.{first_status}
use Rattle.bhs_cli_results.proofs.FoundLemmas.{found_is, found_next}
use Rattle.bhs_cli_results.proofs.contests.found_of.Goals as goal

pub loop-number-init : goal.loop-number-init
loop-number-init g c = rw c.new-rows.ensures.items nothing_found

pub loop-number-preserved : goal.loop-number-preserved
loop-number-preserved g c =
    found_next c.args.ready.now c.loop-number.number c.index-ready-number.result c.loop-number.rows.items
    c.added.new.rows.items c.loop-number.status c.first_status-status.result c.row_of_match-found.result
    c.loop-number-test.true c.index-ready-number.is c.loop-number.invariant
    (found_is c.index-ready-number.result c.row_of_match-found.result c.row_of_match-found.ensures.row
    c.row_of_match-found.ensures.fault)
    c.in-Ok.ensures.rows (c.first_status-status.ensures ∙ ap (first_status c.loop-number.status) c.in-Ok.ensures.status)
