use Rattle.std.proofs.Common.{[]}
use Rattle.bhs_agents.proofs.ModuleLemmas.{begun, by_value, told}
use Rattle.bhs_agents.proofs.module_agent.ModuleAgentSearcher.begin.Goals as goal

pub returns : goal.returns
returns c =
    let answer = c.in_ok-answer.answer in
    by_value _ _ c.take.result (λ step is runs saved.
    told c.args.self.now c.begin.new.self c.take.new.self answer.memory answer.step step []
    (begun _ _ _ _ c.in_ok-answer.ensures) is runs saved) c.take.ensures.step c.take.ensures.same c.take.ensures.memory
