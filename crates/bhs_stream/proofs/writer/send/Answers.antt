use Rattle.std.proofs.Common.{ℕ, ◌+◌, ◌<◌, ◌≤◌, List, [], length, drop, arith, rules, sym, subst, length-drop}
use Rattle.std.proofs.Common.{append-nil}
use Rattle.std.proofs.lemmas.List.{take_rest}
use Rattle.bhs_stream.specs.Streams.{Takes}
use Rattle.bhs_stream.specs.Sending.{begins, goes_on, IsOffered}
use Rattle.bhs_stream.proofs.writer.send.Goals as goal

-- The writer is offered all remaining bytes.
is_offered : (bytes : List ℕ) (sent : ℕ) → sent < length bytes → IsOffered bytes sent (drop sent bytes)
is_offered bytes sent short = record {
  rest = [];
  front = sym (append-nil (drop sent bytes));
  some = let left = length-drop sent bytes in omega arith;
}

pub loop-sent-init : goal.loop-sent-init
loop-sent-init g c = (search rules, begins)

pub loop-sent-preserved : goal.loop-sent-preserved
loop-sent-preserved g c =
    let takes = g.W.Output.takes in
    let bytes = c.args.bytes.now in
    let sent = c.loop-sent.sent in
    let count = c.in-Ok.count in
    let within : sent + count ≤ length bytes = search rules in
    let left = length-drop sent bytes in
    let took = subst (λ (rest : List ℕ). takes c.loop-sent.writer rest (Takes c.in-Ok.count) c.write_some.new.self)
    (take_rest bytes sent) c.in-Ok.ensures.takes in (
      within,
      goes_on sent count (drop sent bytes) c.loop-sent.writer c.write_some.new.self c.loop-sent.invariant.1
          (is_offered bytes sent (omega arith)) (omega arith) (omega arith) took,
    )
