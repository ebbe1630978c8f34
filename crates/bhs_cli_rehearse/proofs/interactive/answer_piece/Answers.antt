use Rattle.std.proofs.Common.{◌∷◌, ap, refl, arith, length, length-append}
use Rattle.bhs_cli_rehearse.specs.Shells.{progress_of}
use Rattle.bhs_cli_rehearse.specs.Interactive.{none}
use Rattle.bhs_cli.proofs.StopLemmas.{fault_is}
use Rattle.bhs_cli_rehearse.proofs.InteractiveLemmas.{Answers-trans, breaks_within, overlong_refused, refused_at}
use Rattle.bhs_cli_rehearse.proofs.interactive.answer_piece.Goals as goal

pub loop-rest-init : goal.loop-rest-init
loop-rest-init g c = (none, c.requires.part, refl, omega arith)

pub returns-in_err-answer-in-Ended-clause-stopped : goal.returns-in_err-answer-in-Ended-clause-stopped
returns-in_err-answer-in-Ended-clause-stopped g c =
    let (now, part, games, bound) = c.loop-rest.invariant in
    let taken = rw c.in-Ended.is at (c.in_ok-rest.ensures.taken part) in
    let so_far = rw taken at now in
    let stopped = rw games at (c.in_err-answer-in-Ended.ensures.stopped c.in-Ended.rest.now) in
    fault_is c.from_residual-in_err-answer-in-Ended.result c.in_err-answer-in-Ended.field-0.0 _
    c.from_residual-in_err-answer-in-Ended.ensures.1
    (breaks_within g.W.Output.takes g.W.Output.flushes c.args.shell.now.games
    (progress_of c.args.shell.now c.args.piece.now) _ _ _ _ c.in_err-answer-in-Ended.field-0.0 so_far stopped)

pub loop-rest-smaller : goal.loop-rest-smaller
loop-rest-smaller g c =
    let (now, part, games, bound) = c.loop-rest.invariant in
    let taken = rw c.in-Ended.is at (c.in_ok-rest.ensures.taken part) in
    let same = ap length taken in
    let old = length-append c.loop-rest.shell.line.items c.loop-rest.after.now in
    let new = length-append c.take_line.new.line.items (10 ∷ c.in-Ended.rest.now) in
    rw c.in_ok-answer-in-Ended.ensures.line (omega (arith, same, old, new))

pub loop-rest-preserved : goal.loop-rest-preserved
loop-rest-preserved g c =
    let (now, part, games, bound) = c.loop-rest.invariant in
    let taken = rw c.in-Ended.is at (c.in_ok-rest.ensures.taken part) in
    let so_far = rw taken at now in
    let answered = rw games at (c.in_ok-answer-in-Ended.ensures.answered c.in-Ended.rest.now) in
    let same = ap length taken in
    let old = length-append c.loop-rest.shell.line.items c.loop-rest.after.now in
    let new = length-append c.take_line.new.line.items (10 ∷ c.in-Ended.rest.now) in
    let count = c.in_ok-answer-in-Ended.ensures.count in (
      Answers-trans g.W.Output.takes c.args.shell.now.games (progress_of c.args.shell.now c.args.piece.now) _ _ _
          so_far _ _ answered,
      rw c.in_ok-answer-in-Ended.ensures.line (record { unended = refl; short = omega arith }),
      rw c.in_ok-answer-in-Ended.ensures.games games,
      rw c.in_ok-answer-in-Ended.ensures.line (omega (arith, same, old, new, count, bound)),
    )

pub returns-in-Overlong-clause-stopped : goal.returns-in-Overlong-clause-stopped
returns-in-Overlong-clause-stopped g c =
    let (now, part, games, bound) = c.loop-rest.invariant in
    let taken = rw c.in-Overlong.is at (c.in_ok-rest.ensures.taken part) in
    breaks_within g.W.Output.takes g.W.Output.flushes c.args.shell.now.games
    (progress_of c.args.shell.now c.args.piece.now) (progress_of c.loop-rest.shell c.loop-rest.after.now) _ _ _
    c.refusal.result now
    (refused_at g.W.Output.takes g.W.Output.flushes c.args.shell.now.games
    (progress_of c.loop-rest.shell c.loop-rest.after.now) _ _ c.refusal.result
    (overlong_refused c.args.shell.now.games (progress_of c.loop-rest.shell c.loop-rest.after.now) taken.0)
    c.refusal.ensures)
