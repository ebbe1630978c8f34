use Rattle.std.proofs.Common.{◌∙◌, ap, refl, subst, sym, ℕ, List, map}
use Rattle.std.specs.Prelude.{string_bytes}
use Rattle.bhs_cli_words.specs.declared.orders.AgentModule.{AgentModule}
use Rattle.bhs_cli_explore.specs.declared.modules.ModuleFile.{ModuleFile}
use Rattle.bhs_cli_explore.specs.ModuleExploration.{IsModuleReport, explores_modules, explores_no_modules}
use Rattle.bhs_cli_explore.proofs.modules.explore_modules_named.Goals as goal

pub returns-in-Err : goal.returns-in-Err
returns-in-Err g c =
    let (fault, is) = c.in-Err.ensures.fault in
    explores_no_modules fault is refl

pub returns-in-Err-wanted : goal.returns-in-Err-wanted
returns-in-Err-wanted g c =
    let (fault, is) = c.in-Err-wanted.ensures.fault in
    explores_no_modules fault is refl

pub returns-in-Err-team_of : goal.returns-in-Err-team_of
returns-in-Err-team_of g c =
    let (fault, is) = c.in-Err-team_of.ensures.fault in
    explores_no_modules fault is refl

pub returns-in-Ok-report : goal.returns-in-Ok-report
returns-in-Ok-report g c =
    let ready = c.in-Ok-wanted.wanted.0.now in
    let roles = c.in-Ok-team_of.team.roles in
    let team = c.in-Ok-team_of.ensures.team in
    let given : List AgentModule → List (List ℕ) = map (λ (it : AgentModule). it.arguments) in
    let files : List ModuleFile → List (List ℕ) = map (λ (it : ModuleFile). it.arguments.items) in
    let wanted = ap given c.in-Ok-wanted.ensures.modules in
    explores_modules c.in-Ok.lineup c.in-Ok.ensures.made ready c.in-Ok-wanted.ensures.wanted.is_match
    c.in-Ok-wanted.ensures.wanted.enough roles (team.roles ∙ wanted) c.as_str.result.now
    c.in-Ok-report.status
    (subst (λ (text : List ℕ). IsModuleReport ready c.args.exploration roles (given c.args.modules) text
    c.in-Ok-report.status) (sym c.as_str.ensures.value)
    (subst (λ (it : List (List ℕ)). IsModuleReport ready c.args.exploration roles it
    (string_bytes c.in-Ok-report.text) c.in-Ok-report.status)
    (ap files c.deref.ensures.value ∙ (team.files ∙ wanted)) c.in-Ok-report.ensures))
    c.print_report.ensures

pub returns : goal.returns
returns g c = explores_no_modules c.in-Err-report.fault c.report-in-Err-report.ensures refl
