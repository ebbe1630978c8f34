use Rattle.std.proofs.Common.{◌++◌, map, take, subst, List, append-nil, sym}
use Rattle.std.proofs.lemmas.Result.{err_from_is_err_and}
use Rattle.bhs_wire.specs.Lines.{Line, seen}
use Rattle.bhs_session.specs.Phase.{Ready, between, phase_of}
use Rattle.bhs_session.specs.Moves.{Moves}
use Rattle.bhs_session.proofs.Moving.{Moves-none, Moves-trans}
use Rattle.bhs_session.proofs.Taking.{IsNext-at, taken-more, taken-all}
use Rattle.bhs_session.proofs.lines.take_lines.Goals as goal

pub loop-line-init : goal.loop-line-init
loop-line-init g c p whole =
    let start = record p { output = c.args.writer.now; port = c.args.port.now; phase = between c.args.has_entered } in
    subst (λ (taken : List Line). Moves g.W.Output.takes g.P.Port.calls start c.args.writer.now c.args.port.now taken
    (between c.args.has_entered))
    (sym (append-nil p.taken)) (Moves-none g.W.Output.takes g.P.Port.calls start)

pub loop-line-preserved : goal.loop-line-preserved
loop-line-preserved g c p whole =
    let found = c.args.found.now in
    let i = c.loop-line.line-index in
    let start = record p { output = c.args.writer.now; port = c.args.port.now; phase = between c.args.has_entered } in
    let taken = p.taken ++ map seen (take i found) in
    let before = c.loop-line.invariant p whole in
    let next = IsNext-at p.read p.taken found i c.line-item.result c.loop-line-test.true c.line-item.is whole in
    rw (taken-more p.taken found i c.line-item.result c.loop-line-test.true c.line-item.is)
    (Moves-trans g.W.Output.takes g.P.Port.calls start _ _ c.loop-line.port c.take_line.new.port taken _
    (between c.loop-line.entered) Ready before
    (c.in_ok-take_line.ensures (record p { taken = taken; written = p.written ++ before.more }) next))

pub returns-in_err-take_line : goal.returns-in_err-take_line
returns-in_err-take_line g c p whole =
    let found = c.args.found.now in
    let i = c.loop-line.line-index in
    let start = record p { output = c.args.writer.now; port = c.args.port.now; phase = between c.args.has_entered } in
    let taken = p.taken ++ map seen (take i found) in
    let stop = c.in_err-take_line.field-0.0 in
    let before = c.loop-line.invariant p whole in
    let next = IsNext-at p.read p.taken found i c.line-item.result c.loop-line-test.true c.line-item.is whole in
    let after = c.in_err-take_line.ensures (record p { taken = taken; written = p.written ++ before.more }) next in
    let e = err_from_is_err_and c.from_residual.result c.from_residual.ensures.1 in
    rw (e.1, e.2) (
      after.0,
      (
        after.1.0,
        Moves-trans g.W.Output.takes g.P.Port.calls start _ _ c.loop-line.port
            c.take_line.new.port taken after.1.0 (between c.loop-line.entered) (phase_of stop) before after.1.1,
      ),
    )

pub returns : goal.returns
returns g c p whole = rw (sym (taken-all p.read p.taken c.args.found.now c.loop-line.line-index c.loop-line-test.false
    whole)) (c.loop-line.invariant p whole)
