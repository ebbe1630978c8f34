use Rattle.std.proofs.Common.{◌≡◌, ◌++◌, map}
use Rattle.bhs_shared_match.specs.declared.settlement.Settlement.{Settlement}
use Rattle.bhs_cli_serve.proofs.results.all_sealed.Given as goal

abbrev pub invariant-loop-one : goal.invariant-loop-one
invariant-loop-one l =
    (goal.iterator-loop-one).can_next l.one-iterator ×
    (goal.iterator-loop-one).is_finite l.one-iterator ×
    (map (λ (one : Settlement). one.sealed) l.fn.settlements.items
    ≡ l.sealed.items ++ map (λ (one : Settlement). one.sealed) l.one-iterator.rest.items)
