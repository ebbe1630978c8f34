use Rattle.std.proofs.Common.{map}
use Rattle.bhs_referee.specs.Verdicts.{verdict_of}
use Rattle.bhs_contest.proofs.NoteLemmas.{Reads}
use Rattle.bhs_contest.proofs.verdicts.judged_at_once.Given as goal

abbrev pub invariant-loop-note : goal.invariant-loop-note
invariant-loop-note g l =
    (goal.iterator-loop-note g).can_next l.note-iterator
    × (goal.iterator-loop-note g).is_finite l.note-iterator
    × Reads l.showcase (map verdict_of l.fn.sealed) l.verdicts.items l.note-iterator.rest.items
