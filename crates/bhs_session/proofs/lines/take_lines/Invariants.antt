-- The lines up to the index were taken.
use Rattle.std.proofs.Common.{◌≡◌, ◌++◌, map, take}
use Rattle.bhs_wire.specs.Lines.{lines, seen}
use Rattle.bhs_session.specs.Phase.{between}
use Rattle.bhs_session.specs.Session.{Point}
use Rattle.bhs_session.specs.Moves.{Moves}
use Rattle.bhs_session.proofs.lines.take_lines.Given as goal

abbrev pub invariant-loop-line : goal.invariant-loop-line
invariant-loop-line g l = (p : Point g.row.W.Denot g.row.P.Denot) → lines p.read ≡ p.taken ++ map seen l.found
    → Moves g.W.Output.takes g.P.Port.calls (record p
    { output = l.initial.writer; port = l.initial.port; phase = between l.fn.has_entered })
    l.writer l.port (p.taken ++ map seen (take l.line-index l.found)) (between l.entered)
