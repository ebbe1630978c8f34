use Rattle.bhs_server.proofs.PartLemmas.{AreDone}
use Rattle.bhs_server.proofs.settlement.settle_all.Given as goal

abbrev pub invariant-loop-shared_match : goal.invariant-loop-shared_match
invariant-loop-shared_match l =
    (goal.iterator-loop-shared_match).can_next l.shared_match-iterator ×
    (goal.iterator-loop-shared_match).is_finite l.shared_match-iterator ×
    AreDone l.fn.shared_matches.items l.shared_match-iterator.rest.items l.fn.dealers l.fn.sessions.items l.left.items
    l.settled.items
