use Rattle.std.proofs.Common.{◌∙◌, ap, refl, subst, sym, ℕ, List, length, map}
use Rattle.std.specs.Prelude.{string_bytes}
use Rattle.std.proofs.lemmas.List.{length-map}
use Rattle.bhs_model.specs.declared.setups.Setup.{Setup}
use Rattle.bhs_cli.specs.declared.reporting.faults.Fault.TheVariants.{Memory}
use Rattle.bhs_cli_words.specs.declared.orders.AgentModule.{AgentModule}
use Rattle.bhs_cli_explore.specs.ModuleExploration.{AreFor}
use Rattle.bhs_cli_explore.specs.declared.modules.ModuleFile.{ModuleFile}
use Rattle.bhs_cli_attest.specs.Attesting.{IsAttestReport, attests, attests_nothing}
use Rattle.bhs_cli_attest.proofs.attest.attest_named.Goals as goal

pub returns-in-Err : goal.returns-in-Err
returns-in-Err g c =
    let (fault, is) = c.in-Err.ensures.fault in
    attests_nothing fault is refl

pub returns-in_default : goal.returns-in_default
returns-in_default g c =
    let (fault, is) = c.report_count.ensures in
    attests_nothing fault is refl

pub returns-in-Err-files_of : goal.returns-in-Err-files_of
returns-in-Err-files_of g c =
    let (fault, is) = c.in-Err-files_of.ensures.fault in
    attests_nothing fault is refl

pub returns-in-Ok-report_on : goal.returns-in-Ok-report_on
returns-in-Ok-report_on g c =
    let play = c.in-Ok.sealed in
    let shows : ModuleFile → List ℕ = λ (file : ModuleFile). file.arguments.items in
    let given : AgentModule → List ℕ = λ (it : AgentModule). it.arguments in
    let modules = c.args.modules.now in
    let arguments =
    ap (map shows) c.deref.ensures.value ∙ c.in-Ok-files_of.ensures.arguments ∙ ap (map given) c.all-2.ensures in
    attests play c.in-Ok.ensures.read
    (subst (λ (setup : Setup). AreFor setup.agents (length (map given modules))) c.setup.ensures.setup
    (subst (AreFor c.setup.result.now.agents) (ap (λ (all : List AgentModule). length all) c.all.ensures
    ∙ sym (length-map modules given)) c.in-Some.ensures.1))
    c.as_str.result.now c.in-Ok-report_on.status
    (subst (λ (text : List ℕ). IsAttestReport play c.args.wakeups (map given modules) text c.in-Ok-report_on.status)
    (sym c.as_str.ensures.value)
    (subst (λ (all : List (List ℕ)). IsAttestReport play c.args.wakeups all (string_bytes c.in-Ok-report_on.text)
    c.in-Ok-report_on.status) arguments c.in-Ok-report_on.ensures))
    c.print_report.ensures

pub returns : goal.returns
returns g c = attests_nothing Memory c.report.ensures refl
