use Rattle.std.proofs.Common.{◌≡◌, ◌∙◌, ap, length, map, Ok, List, ◌∷◌, ◌++◌, Result}
use Rattle.bhs_shared_match.specs.declared.settlement.Settlement.{Settlement}
use Rattle.bhs_server.specs.declared.settlement.Refused.{Refused}
use Rattle.bhs_cli_serve.proofs.results.all_settled.Goals as goal

-- src/finishing.rt:109:13
pub returns-in_default-clause-fault : goal.returns-in_default-clause-fault
returns-in_default-clause-fault c =
    let before = c.loop-one.settlements.items in
    let others = c.next.new.self.rest.items in
    let many : c.len-in_default.result ≡ length c.loop-one.settlements.items = search in
    record {
      before = before;
      refused = c.in_default.field-0;
      others = others;
      settled_are = c.loop-one.invariant.2
          ∙ ap (λ (rest : List (Result Settlement Refused)). map Ok before ++ rest)
          (c.in-Some.ensures.steps.0 ∙ ap (λ (one : Result Settlement Refused). one ∷ others) c.in_default.is);
      place = many;
    }
