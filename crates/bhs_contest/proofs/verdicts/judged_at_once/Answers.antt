use Rattle.std.proofs.Common.{map, ◌∙◌, ap, ◌∷◌}
use Rattle.bhs_referee.specs.Verdicts.{verdict_of}
use Rattle.bhs_contest.proofs.NoteLemmas.{reads_on}
use Rattle.bhs_contest.proofs.verdicts.judged_at_once.Goals as goal

pub loop-note-preserved : goal.loop-note-preserved
loop-note-preserved g c =
    let next = c.next.new.self.rest.items in (
      tt,
      tt,
      reads_on c.args.showcase.now (map verdict_of c.args.sealed.now) c.loop-note.verdicts.items c.push.new.self.items
          c.loop-note.note-iterator.rest.items next c.in-Some-note.note c.in-Some-shown.verdict c.loop-note.invariant.2
          (c.in-Some.ensures.steps.0 ∙ ap (λ one. one ∷ next) c.in-Some-note.is) c.in-Some-shown.ensures
          c.in_ok-push.ensures.items,
    )
