use Rattle.std.proofs.Common.{◌∙◌, ap, sym}
use Rattle.bhs_cli_words.specs.declared.orders.AgentModule.{AgentModule}
use Rattle.bhs_cli_explore.proofs.ModuleLemmas.{has_more, if_done}
use Rattle.bhs_cli_explore.proofs.modules.team_of.Goals as goal

pub loop-agent_module-preserved : goal.loop-agent_module-preserved
loop-agent_module-preserved g c =
    let done = sym c.is_err.ensures.value ∙ c.if-is_err.false in
    let given = ap (λ (it : AgentModule). it.arguments) c.agent_module-item.is in
    has_more c.loop-agent_module.team c.add.new.self c.args.first.now c.args.others.now
    c.loop-agent_module.agent_module-index c.agent_module-item.result _ _ c.loop-agent_module-test.true
    c.add.ensures.first (if_done _ done c.add.ensures.others) (if_done _ done c.add.ensures.files)
    (c.in-Ok-role_of.ensures.role ∙ given) (c.in-Ok-role_of.ensures.file ∙ given)
    c.in-Ok-role_of.ensures.is c.loop-agent_module.invariant
