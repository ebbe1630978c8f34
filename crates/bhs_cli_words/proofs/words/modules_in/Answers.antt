use Rattle.std.proofs.Common.{◌∙◌, ◌+◌, ap, List}
use Rattle.bhs_cli_words.specs.Exploring.{module_in, modules_in}
use Rattle.bhs_cli_words.specs.declared.orders.AgentModule.{AgentModule}
use Rattle.bhs_cli_words.proofs.FoundLemmas.{joined, says_none, says_one, texts_from}
use Rattle.bhs_cli_words.proofs.words.modules_in.Goals as goal

pub returns-in-None : goal.returns-in-None
returns-in-None c =
    says_none module_in c.args.words.now c.loop-word.word-index _ c.loop-word-test.true c.in_ok-agent_module.field-0
    c.in_ok-agent_module.ensures c.loop-word.modules.items c.loop-word.invariant c.in-None.is

pub loop-word-preserved : goal.loop-word-preserved
loop-word-preserved c =
    let rest = texts_from (c.loop-word.word-index + 1) c.args.words.now in
    ap (λ (done : List AgentModule). joined done (modules_in rest)) c.in_ok-push-in-Some.ensures.items
    ∙ says_one module_in c.args.words.now c.loop-word.word-index _ c.loop-word-test.true c.in_ok-agent_module.field-0
    c.in_ok-agent_module.ensures c.loop-word.modules.items c.loop-word.invariant c.in-Some.agent_module c.in-Some.is
