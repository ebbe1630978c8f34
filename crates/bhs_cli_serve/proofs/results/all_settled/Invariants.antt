use Rattle.std.proofs.Common.{◌≡◌, ◌++◌, map, Ok}
use Rattle.bhs_cli_serve.proofs.results.all_settled.Given as goal

abbrev pub invariant-loop-one : goal.invariant-loop-one
invariant-loop-one l =
    (goal.iterator-loop-one).can_next l.one-iterator ×
    (goal.iterator-loop-one).is_finite l.one-iterator ×
    (l.fn.settled.items ≡ map Ok l.settlements.items ++ l.one-iterator.rest.items)
