use Rattle.std.proofs.Common.{◌∷◌, refl}
use Rattle.std.proofs.lemmas.Result.{IfOk-weaker}
use Rattle.bhs_agents.specs.Searchers.{observation_of}
use Rattle.bhs_client.proofs.ProtocolLemmas.{does_by, holds_on}
use Rattle.bhs_client.proofs.protocol_agent.ProtocolAgentSearcher.next.Goals as goal

pub returns : goal.returns
returns c =
    let it = c.args.self.now in
    let item = observation_of c.args.news.now in
    let held = c.in_ok-self.field-0 in
    IfOk-weaker c.step_of.result _ _ (λ step does history holds.
    let met = holds_on it.protocol it.nodes it.number history it.memory held item holds c.in_ok-self.ensures in record {
      same = refl;
      met = met;
      is_next = does_by it.protocol it.nodes it.number (item ∷ history) held step met does;
    }) c.step_of.ensures
