use Rattle.std.proofs.Common.{◌∷◌}
use Rattle.bhs_agents.specs.Searchers.{observation_of}
use Rattle.bhs_agents.proofs.ModuleLemmas.{asked, by_value, told}
use Rattle.bhs_agents.proofs.module_agent.ModuleAgentSearcher.next.Goals as goal

pub returns : goal.returns
returns c =
    let answer = c.in_ok-answer.answer in
    let item = observation_of c.args.news.now in
    by_value _ _ c.take.result (λ step is runs saved history remembers.
    told c.args.self.now c.next.new.self c.take.new.self answer.memory answer.step step (item ∷ history)
    (asked c.args.self.now c.next.new.self answer.memory answer.step history _ item remembers
    c.latest_of-latest.ensures c.in_ok-answer.ensures) is runs saved) c.take.ensures.step c.take.ensures.same
    c.take.ensures.memory
