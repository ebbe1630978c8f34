use Rattle.std.proofs.Common.{◌+◌, refl, subst, ◌∷◌, [], ℕ}
use Rattle.bhs_cli_explore.specs.declared.holes.HoleResult.{HoleResult}
use Rattle.bhs_cli.specs.declared.reporting.statuses.TheConstants.{DONE}
use Rattle.bhs_cli_explore.specs.HoleResults.{IsReportOf}
use Rattle.bhs_cli_explore.specs.Holes.{TellsHoles, all_told}
use Rattle.bhs_cli_explore.proofs.TellLemmas.{told_next, told_whole}
use Rattle.bhs_cli_explore.proofs.holes.HoleSearches.print_results.Goals as goal

pub loop-found-init : goal.loop-found-init
loop-found-init g c = all_told refl

pub returns-then-status-ne-DONE : goal.returns-then-status-ne-DONE
returns-then-status-ne-DONE g c =
    let hole_of = λ (it : HoleResult). it.hole in
    let next = c.loop-found.found-index + 1 in
    let output = c.print_result-status.new.writer in
    let code = c.print_result-status.result in
    told_whole g.W.Output.takes g.W.Output.flushes (IsReportOf c.args.self.now.search) hole_of c.args.results.now next
    c.args.writer.now output code c.if-status-ne-DONE.true
    (told_next g.W.Output.takes g.W.Output.flushes (IsReportOf c.args.self.now.search) hole_of c.args.results.now
    c.loop-found.found-index c.args.writer.now output code c.found-item.result c.loop-found.writer
    c.loop-found-test.true c.found-item.is c.loop-found.invariant c.print_result-status.ensures)

pub loop-found-preserved : goal.loop-found-preserved
loop-found-preserved g c =
    let hole_of = λ (it : HoleResult). it.hole in
    let output = c.print_result-status.new.writer in
    told_next g.W.Output.takes g.W.Output.flushes (IsReportOf c.args.self.now.search) hole_of c.args.results.now
    c.loop-found.found-index c.args.writer.now output DONE c.found-item.result c.loop-found.writer
    c.loop-found-test.true c.found-item.is c.loop-found.invariant
    (subst (λ (code : ℕ). TellsHoles g.W.Output.takes g.W.Output.flushes (IsReportOf c.args.self.now.search) output code
    (c.found-item.result.hole ∷ []) c.loop-found.writer) c.if-status-ne-DONE.false c.print_result-status.ensures)
