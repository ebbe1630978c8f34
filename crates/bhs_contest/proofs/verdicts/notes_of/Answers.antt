use Rattle.std.proofs.Common.{◌≡◌, map, arith}
use Rattle.bhs_referee.specs.Verdicts.{verdict_of}
use Rattle.bhs_contest.proofs.NoteLemmas.{of_both, seen_from}
use Rattle.bhs_contest.proofs.verdicts.notes_of.Goals as goal

pub returns-clause-seen : goal.returns-clause-seen
returns-clause-seen g c =
    of_both c.map_indices.result _ _ _
    (λ notes many each. seen_from c.args.showcase.now (map verdict_of c.args.sealed.now) 0 notes.items
    (λ i k d is lt. let same : k ≡ i = omega (arith, is) in rw same ((each i d (omega (arith, many, lt))).1.met)))
    c.map_indices.ensures.len c.map_indices.ensures.each
