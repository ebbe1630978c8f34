use Rattle.bhs_server.proofs.PartLemmas.{IsParted}
use Rattle.bhs_server.proofs.settlement.parted.Given as goal

abbrev pub invariant-loop-session : goal.invariant-loop-session
invariant-loop-session l =
    (goal.iterator-loop-session).can_next l.session-iterator ×
    (goal.iterator-loop-session).is_finite l.session-iterator ×
    IsParted l.number l.fn.sessions.items l.session-iterator.rest.items l.own.items l.others.items
