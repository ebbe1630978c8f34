use Rattle.std.proofs.Common.{◌≡◌, ◌∙◌, ◌+◌, ◌-◌, ◌<◌, List, [], ◌++◌, map, ap, arith, sym}
use Rattle.bhs_wire.specs.declared.pieces.Raw.{Raw}
use Rattle.bhs_wire.specs.Lines.{lines, seen}
use Rattle.bhs_session.specs.Phase.{between, phase_of}
use Rattle.bhs_session.specs.Session.{opens}
use Rattle.bhs_session.proofs.Playing.{Serves-brings_none, Serves-turns, Session-moves, waits}
use Rattle.bhs_session.proofs.session.take_all_lines.Goals as goal

pub loop-init : goal.loop-init
loop-init g c =
    let all : c.args.turns - 0 ≡ c.args.turns = omega arith in
    rw all ([], [], opens, c.new-lines.ensures)

pub returns-in-Err : goal.returns-in-Err
returns-in-Err g c =
    let (read, written, session, held) = c.loop.invariant in
    let more : 0 < c.args.turns - c.loop.counter = omega arith in
    rw c.between_lines.ensures
    (Serves-brings_none g.R.Input.gives g.W.Output.takes g.P.Port.calls _ c.loop.reader c.read_lines.new.reader _
    c.loop.writer c.args.port.now c.loop.port c.args.turns _ read written c.loop.has_entered session
    c.in-Err.cause more c.in-Err.ensures.err)

pub returns-in-Err-take_lines : goal.returns-in-Err-take_lines
returns-in-Err-take_lines g c =
    let (read, written, session, held) = c.loop.invariant in
    let more : 0 < c.args.turns - c.loop.counter = omega arith in
    let brings = c.in-Ok.ensures.brings read held in
    let whole = brings.found_lines ∙ ap (λ (found : List Raw). lines read ++ map seen found)
    (sym c.deref.ensures.value) in
    let start = record (waits c.loop.writer c.loop.port (c.args.turns - c.loop.counter - 1) read written
    c.loop.has_entered) { read = read ++ brings.piece } in
    let after = c.in-Err-take_lines.ensures start whole in
    let played = Session-moves g.R.Input.gives g.W.Output.takes g.P.Port.calls _ c.loop.reader c.read_lines.new.reader _
    c.loop.writer c.args.port.now c.loop.port c.args.turns _ read written c.loop.has_entered session
    brings.piece more brings.is_piece brings.given c.take_lines.new.writer c.take_lines.new.port after.1.0
    (phase_of c.in-Err-take_lines.stop) after.1.1 in
    record {
      left = c.args.turns - c.loop.counter - 1;
      read = read ++ brings.piece;
      taken = after.1.0;
      written = played.0;
      session = played.1;
    }

pub loop-preserved : goal.loop-preserved
loop-preserved g c =
    let (read, written, session, held) = c.loop.invariant in
    let more : 0 < c.args.turns - c.loop.counter = omega arith in
    let brings = c.in-Ok.ensures.brings read held in
    let whole = brings.found_lines ∙ ap (λ (found : List Raw). lines read ++ map seen found)
    (sym c.deref.ensures.value) in
    let start = record (waits c.loop.writer c.loop.port (c.args.turns - c.loop.counter - 1) read written
    c.loop.has_entered) { read = read ++ brings.piece } in
    let played = Session-moves g.R.Input.gives g.W.Output.takes g.P.Port.calls _ c.loop.reader c.read_lines.new.reader _
    c.loop.writer c.args.port.now c.loop.port c.args.turns _ read written c.loop.has_entered session
    brings.piece more brings.is_piece brings.given c.take_lines.new.writer c.take_lines.new.port
    (lines (read ++ brings.piece)) (between c.in-Ok-take_lines.entered)
    (c.in-Ok-take_lines.ensures start whole) in
    let left : c.args.turns - (c.loop.counter + 1) ≡ c.args.turns - c.loop.counter - 1 = omega arith in
    rw left (read ++ brings.piece, played.0, played.1, brings.held_rest)

pub returns : goal.returns
returns g c =
    let (read, written, session, held) = c.loop.invariant in
    let none : c.args.turns - c.loop.counter ≡ 0 = omega arith in
    rw c.between_lines-2.ensures
    (Serves-turns g.R.Input.gives g.W.Output.takes g.P.Port.calls _ c.loop.reader c.loop.reader _ c.loop.writer
    c.args.port.now c.loop.port c.args.turns _ read written c.loop.has_entered session none)
