use Rattle.std.proofs.Common.{refl, ◌∙◌, ap, ◌++◌, List, ℕ, string_bytes}
use Rattle.bhs_standings.proofs.TableLemmas.{goes_on}
use Rattle.bhs_standings.proofs.text.table.Goals as goal

pub loop-ahead-preserved : goal.loop-ahead-preserved
loop-ahead-preserved c = goes_on c.args.rows.now c.deref-place-items.result.now c.loop-ahead.ahead
    (string_bytes c.loop-ahead.text) _ c.loop-ahead.invariant _ (string_bytes c.push_str.new.self)
    c.loop-ahead-test.true refl
    (c.in_ok-push_str.ensures.bytes ∙ ap (λ (bytes : List ℕ). string_bytes c.loop-ahead.text ++ bytes)
    (c.as_str.ensures.value ∙ c.in_ok-line.ensures))
