use Rattle.std.proofs.Common.{◌<◌, refl, sym, subst, ℕ, List, []}
use Rattle.std.specs.List.{AllByRecursion}
use Rattle.bhs_net.specs.Network.{nodes_of}
use Rattle.bhs_cli_explore.specs.HoleResults.{IsReportOf}
use Rattle.bhs_cli_explore.specs.Holes.{TellsHoles, all_told}
use Rattle.bhs_cli_explore.proofs.TellLemmas.{Leaves, all_drop, leaves_all, leaves_fewer}
use Rattle.bhs_cli_explore.proofs.holes.HoleSearches.print_all.Goals as goal

pub loop-rest-init : goal.loop-rest-init
loop-rest-init g c =
    (c.processors-most.ensures, c.requires, record { before = []; parted = refl; told = all_told refl })

pub returns-then-status-ne-DONE : goal.returns-then-status-ne-DONE
returns-then-status-ne-DONE g c =
    let is_report = IsReportOf c.args.self.now.search in
    let output = c.print_few-status.new.writer in
    let code = c.print_few-status.result in
    let told = subst (λ (holes : List ℕ). TellsHoles g.W.Output.takes g.W.Output.flushes is_report output code holes
    c.loop-rest.writer) c.split_at.ensures.front c.print_few-status.ensures in
    leaves_all g.W.Output.takes g.W.Output.flushes is_report c.args.holes.now c.loop-rest.rest.now c.min.result
    c.args.writer.now c.loop-rest.writer output code c.loop-rest.invariant.2 told c.if-status-ne-DONE.true

pub loop-rest-preserved : goal.loop-rest-preserved
loop-rest-preserved g c =
    let is_report = IsReportOf c.args.self.now.search in
    let output = c.print_few-status.new.writer in
    let code = c.print_few-status.result in
    let are_nodes = AllByRecursion (λ (hole : ℕ). hole < nodes_of c.args.self.now.search.ready.now.game.net) in
    let told = subst (λ (holes : List ℕ). TellsHoles g.W.Output.takes g.W.Output.flushes is_report output code holes
    c.loop-rest.writer) c.split_at.ensures.front c.print_few-status.ensures in (
      c.loop-rest.invariant.0,
      subst are_nodes (sym c.split_at.ensures.back)
          (all_drop (λ (hole : ℕ). hole < nodes_of c.args.self.now.search.ready.now.game.net) c.min.result
          c.loop-rest.rest.now c.loop-rest.invariant.1),
      subst (λ (left : List ℕ). Leaves g.W.Output.takes g.W.Output.flushes is_report c.args.holes.now left
          c.args.writer.now output) (sym c.split_at.ensures.back)
          (leaves_fewer g.W.Output.takes g.W.Output.flushes is_report c.args.holes.now c.loop-rest.rest.now
          c.min.result c.args.writer.now c.loop-rest.writer output code c.loop-rest.invariant.2 told
          c.if-status-ne-DONE.false),
    )
