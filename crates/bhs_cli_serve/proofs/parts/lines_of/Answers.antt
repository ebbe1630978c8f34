use Rattle.std.proofs.Common.{ℕ, List, ◌++◌, string_bytes, ap, ◌∙◌}
use Rattle.bhs_cli_serve.proofs.RecordingLemmas.{goes_on, ends}
use Rattle.bhs_cli_serve.proofs.parts.lines_of.Goals as goal

pub loop-one-preserved : goal.loop-one-preserved
loop-one-preserved c = goes_on c.args.found.now c.loop-one.one-index (string_bytes c.loop-one.text) _
    c.loop-one.invariant c.one-item.result (string_bytes c.in_ok-line.line) (string_bytes c.push_str.new.self)
    c.loop-one-test.true c.one-item.is c.in_ok-line.ensures
    (c.in_ok-push_str.ensures.bytes ∙ ap (λ (bytes : List ℕ). string_bytes c.loop-one.text ++ bytes)
    c.as_str.ensures.value)

pub returns : goal.returns
returns c = ends c.args.found.now c.loop-one.one-index (string_bytes c.loop-one.text) _ c.loop-one.invariant
    c.loop-one-test.false
