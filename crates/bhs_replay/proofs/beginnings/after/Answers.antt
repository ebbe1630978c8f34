use Rattle.std.proofs.Common.{sym, ◌∙◌}
use Rattle.bhs_replay.proofs.BeginningLemmas.{cut}
use Rattle.bhs_replay.proofs.beginnings.after.Goals as goal

pub returns-then-eq : goal.returns-then-eq
returns-then-eq g c = let split = c.in_ok-front.ensures.cases in
    cut c.args.line.now c.args.part.now c.in_ok-front.front.now c.in_ok-front.rest.now _ split.0 split.1
    (sym c.eq.ensures ∙ c.if-eq.true)
