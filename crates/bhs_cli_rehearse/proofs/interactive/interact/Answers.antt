use Rattle.std.proofs.Common.{◌≡◌, ◌+◌, [], true, false, length, take, arith, rules, refl}
use Rattle.std.proofs.Common.{subst}
use Rattle.std.proofs.Common.{length-take-le}
use Rattle.bhs_stream.specs.Streams.{Chunk}
use Rattle.bhs_stream.specs.declared.reader.TheConstants.{BUFFER}
use Rattle.bhs_stream.proofs.ChunkLemmas.{chunk_by-take}
use Rattle.bhs_cli_rehearse.specs.Shells.{progress_of}
use Rattle.bhs_cli_rehearse.specs.Interactive.{ScriptProgress, Interacts, begins, ended}
use Rattle.bhs_cli.proofs.StopLemmas.{fault_is}
use Rattle.bhs_cli_rehearse.proofs.InteractiveLemmas.{piece_read, silent, stops_by, stops_within, interacts_before}
use Rattle.bhs_cli_rehearse.proofs.InteractiveLemmas.{interacts_ended}
use Rattle.bhs_cli_rehearse.proofs.InteractiveLemmas.{interacts_more}
use Rattle.bhs_cli_rehearse.proofs.InteractiveLemmas.{part_of, interacts_out}
use Rattle.bhs_cli_rehearse.proofs.interactive.interact.Goals as goal

pub loop-init : goal.loop-init
loop-init g c =
    let shell = c.args.shell.now in (
      subst (λ (progress : ScriptProgress). Interacts g.R.Input.gives g.W.Output.takes g.W.Output.flushes c.args.turns
          shell.rehearsal.stage c.args.reader.now c.args.writer.now 0 false progress c.args.reader.now
          c.args.writer.now)
          (silent shell c.requires.line c.requires.answered) begins,
      rw c.requires.line (record { unended = refl; short = omega arith }),
      c.requires.games,
      rw (c.requires.line, c.requires.answered) (omega arith),
    )

pub returns-then-count-eq0-clause-played : goal.returns-then-count-eq0-clause-played
returns-then-count-eq0-clause-played g c =
    let (interacts, part, games, bound) = c.loop.invariant in
    let end = rw c.if-count-eq0.true at c.in-Ok.ensures.gives in
    interacts_out g.R.Input.gives g.W.Output.takes g.W.Output.flushes c.args.turns c.args.shell.now.rehearsal.stage
    c.args.reader.now c.args.writer.now c.loop.counter c.loop.shell c.conclude.new.shell c.loop.reader
    c.read_some.new.self c.loop.writer c.finish.new.writer c.conclude.new.writer interacts part
    c.in_ok-finish.ensures.ok c.loop-test.true end games c.conclude.result c.conclude.ensures.concluded

pub returns-then-count-eq0-clause-stopped : goal.returns-then-count-eq0-clause-stopped
returns-then-count-eq0-clause-stopped g c =
    let (interacts, part, games, bound) = c.loop.invariant in
    let end = rw c.if-count-eq0.true at c.in-Ok.ensures.gives in
    stops_by g.R.Input.gives g.W.Output.takes g.W.Output.flushes c.args.turns c.args.shell.now.rehearsal.stage
    c.args.reader.now c.args.writer.now (c.loop.counter + 1) true (ended (progress_of c.loop.shell []))
    c.read_some.new.self c.finish.new.writer c.conclude.new.writer
    (interacts_ended g.R.Input.gives g.W.Output.takes g.W.Output.flushes c.args.turns c.args.shell.now.rehearsal.stage
    c.args.reader.now c.args.writer.now c.loop.counter c.loop.shell c.conclude.new.shell c.loop.reader
    c.read_some.new.self c.loop.writer c.finish.new.writer c.conclude.new.writer interacts part
    c.in_ok-finish.ensures.ok c.loop-test.true end games)
    c.conclude.result (rw games at c.conclude.ensures.stopped)

pub returns-in_err-answer_piece-clause-stopped : goal.returns-in_err-answer_piece-clause-stopped
returns-in_err-answer_piece-clause-stopped g c =
    let (interacts, part, games, bound) = c.loop.invariant in
    let buffer = c.read_some.new.buffer in
    let count = c.in-Ok.count in
    let full : length buffer ≡ BUFFER = search rules in
    let given = subst (λ (chunk : Chunk). g.R.Input.gives c.loop.reader chunk c.read_some.new.self)
    (chunk_by-take count buffer (omega arith) c.in-Ok.ensures.bound) c.in-Ok.ensures.gives in
    let fault = c.in_err-answer_piece.field-0.0 in
    fault_is c.from_residual-in_err-answer_piece.result fault _ c.from_residual-in_err-answer_piece.ensures.1
    (stops_within g.R.Input.gives g.W.Output.takes g.W.Output.flushes c.args.turns c.args.shell.now.rehearsal.stage
    c.args.reader.now c.args.writer.now (c.loop.counter + 1) false (progress_of c.loop.shell (take count buffer))
    c.read_some.new.self c.finish.new.writer c.answer_piece.new.writer
    (interacts_before g.R.Input.gives g.W.Output.takes g.W.Output.flushes c.args.turns c.args.shell.now.rehearsal.stage
    c.args.reader.now c.args.writer.now c.loop.counter c.loop.shell (take count buffer) c.loop.reader
    c.read_some.new.self c.loop.writer c.finish.new.writer interacts part c.in_ok-finish.ensures.ok c.loop-test.true
    (piece_read count buffer (omega arith) c.in-Ok.ensures.bound full) given)
    fault (rw games at c.in_err-answer_piece.ensures.stopped))

pub loop-preserved : goal.loop-preserved
loop-preserved g c =
    let (interacts, part, games, bound) = c.loop.invariant in
    let buffer = c.read_some.new.buffer in
    let count = c.in-Ok.count in
    let full : length buffer ≡ BUFFER = search rules in
    let given = subst (λ (chunk : Chunk). g.R.Input.gives c.loop.reader chunk c.read_some.new.self)
    (chunk_by-take count buffer (omega arith) c.in-Ok.ensures.bound) c.in-Ok.ensures.gives in
    let long : length (take count buffer) ≡ count = length-take-le count buffer c.in-Ok.ensures.bound in
    let grown = c.in_ok-answer_piece.ensures.bound in
    let within = c.in-Ok.ensures.bound in (
      interacts_more g.R.Input.gives g.W.Output.takes g.W.Output.flushes c.args.turns c.args.shell.now.rehearsal.stage
          c.args.reader.now c.args.writer.now c.loop.counter c.loop.shell c.answer_piece.new.shell (take count buffer)
          c.loop.reader c.read_some.new.self c.loop.writer c.finish.new.writer c.answer_piece.new.writer interacts part
          c.in_ok-finish.ensures.ok c.loop-test.true
          (piece_read count buffer (omega arith) c.in-Ok.ensures.bound full) given
          (rw games at c.in_ok-answer_piece.ensures.answered),
      c.in_ok-answer_piece.ensures.part,
      rw c.in_ok-answer_piece.ensures.games games,
      omega (arith, bound, long, grown, within, full),
    )

pub returns-clause-stopped : goal.returns-clause-stopped
returns-clause-stopped g c =
    let (interacts, part, games, bound) = c.loop.invariant in
    let all : c.loop.counter ≡ c.args.turns = search rules in
    record {
      progress = progress_of c.loop.shell [];
      interacts = rw all at interacts;
      is_part = part_of
          c.loop.shell.line.items part;
    }
