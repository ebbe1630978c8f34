use Rattle.std.proofs.Common.{◌≡◌, ◌∙◌, ◌<◌, ◌==◌, ap, refl, not, subst, sym, ℕ, List, map}
use Rattle.std.specs.List.{AllByRecursion}
use Rattle.bhs_net.specs.Network.{nodes_of}
use Rattle.bhs_cli_words.specs.declared.orders.AgentModule.{AgentModule}
use Rattle.bhs_wasm_read.specs.Modules.{module_in}
use Rattle.bhs_cli.specs.declared.reporting.faults.Fault.TheVariants.{Memory}
use Rattle.bhs_cli_explore.specs.declared.modules.ModuleFile.{ModuleFile}
use Rattle.bhs_cli_explore.specs.Holes.{IsHoleReport, TellsHoles, explores_holes, explores_no_holes, other_nodes}
use Rattle.bhs_cli.proofs.ReportLemmas.{not_done}
use Rattle.bhs_cli_explore.proofs.HoleLemmas.{all_nodes}
use Rattle.bhs_cli_explore.proofs.TellLemmas.{all_solved}
use Rattle.bhs_cli_explore.proofs.holes.explore_holes_named.Goals as goal

pub returns-in-Err : goal.returns-in-Err
returns-in-Err g c =
    let (fault, is) = c.in-Err.ensures.fault in
    explores_no_holes fault is (λ done. not_done fault (sym is ∙ done)) refl

pub returns-in-Err-wanted : goal.returns-in-Err-wanted
returns-in-Err-wanted g c =
    let (fault, is) = c.in-Err-wanted.ensures.fault in
    explores_no_holes fault is (λ done. not_done fault (sym is ∙ done)) refl

pub returns-in-Err-team_of : goal.returns-in-Err-team_of
returns-in-Err-team_of g c =
    let (fault, is) = c.in-Err-team_of.ensures.fault in
    explores_no_holes fault is (λ done. not_done fault (sym is ∙ done)) refl

pub returns-in_default : goal.returns-in_default
returns-in_default g c = explores_no_holes Memory c.report.ensures
    (λ done. not_done Memory (sym c.report.ensures ∙ done)) refl

pub print_all-requires-after_bounds : goal.print_all-requires-after_bounds
print_all-requires-after_bounds g c κs within =
    let game = c.in-Ok-wanted.wanted.0.now.game in
    subst (AllByRecursion (λ (hole : ℕ). hole < nodes_of game.net))
    (sym (c.deref-2.ensures.value ∙ c.in-Ok-other_nodes.ensures))
    (all_nodes game.net (λ (node : ℕ). not (node == game.setup.home)))

pub returns : goal.returns
returns g c =
    let ready = c.in-Ok-wanted.wanted.0.now in
    let team = c.in-Ok-team_of.ensures.team in
    let given : List AgentModule → List (List ℕ) = map (λ (it : AgentModule). it.arguments) in
    let are : map (λ (it : ModuleFile). it.arguments.items) c.deref.result.now ≡ given c.args.modules =
    ap (map (λ (it : ModuleFile). it.arguments.items)) c.deref.ensures.value
    ∙ (team.files ∙ ap given c.in-Ok-wanted.ensures.modules) in
    let programs = map (λ (it : ModuleFile). module_in it.bytes.items) c.deref.result.now in
    let told = subst (λ (holes : List ℕ). TellsHoles g.W.Output.takes g.W.Output.flushes
    (IsHoleReport ready c.args.exploration programs (map (λ (it : ModuleFile). it.arguments.items) c.deref.result.now))
    c.print_all.new.writer c.print_all.result holes c.args.writer.now)
    (c.deref-2.ensures.value ∙ c.in-Ok-other_nodes.ensures) c.print_all.ensures in
    let tells = subst (λ (arguments : List (List ℕ)). TellsHoles g.W.Output.takes g.W.Output.flushes
    (IsHoleReport ready c.args.exploration programs arguments) c.print_all.new.writer c.print_all.result
    (other_nodes ready) c.args.writer.now) are told in
    explores_holes c.in-Ok.lineup c.in-Ok.ensures.made ready c.in-Ok-wanted.ensures.wanted.is_match
    c.in-Ok-wanted.ensures.wanted.enough programs tells
    (all_solved g.W.Output.takes g.W.Output.flushes ready c.args.exploration programs (given c.args.modules)
    c.args.writer.now c.print_all.new.writer c.print_all.result tells)
