use Rattle.std.proofs.Common.{ℕ, List, Some, None, refl, sym, ap, ◌∙◌, arith}
use Rattle.toml.specs.View.{view, items_view}
use Rattle.bhs_files.specs.Shapes.{each, key}
use Rattle.bhs_model.proofs.EachLemmas.{at_first, read_in, with_one, without}
use Rattle.bhs_files.proofs.Each.{of_value}
use Rattle.bhs_files.proofs.shapes.key_texts.Goals as goal

pub loop-item-init : goal.loop-item-init
loop-item-init c = (
  at_first (of_value key) c.new-keys.result.items c.args.items.now c.new-keys.ensures.items
      ∙ read_in view items_view (each key) key refl (λ value others. refl) c.args.items.now,
  omega (arith, c.new-keys.ensures.len),
)

pub loop-item-preserved : goal.loop-item-preserved
loop-item-preserved c = (
  with_one (of_value key) c.loop-item.keys.items c.args.items.now c.loop-item.item-index c.item-item.result
      (Some c.in-Some.text.now) c.in_ok-copied.field-0 c.push.new.self.items c.loop-item-test.true c.item-item.is
      c.in-Some.ensures (ap (λ (text : List ℕ). Some text) (sym c.in_ok-copied.ensures)) c.in_ok-push.ensures.items
      ∙ c.loop-item.invariant.0,
  omega (arith, c.in_ok-push.ensures.len, c.loop-item.invariant.1),
)

pub returns-in_default-clause-reads : goal.returns-in_default-clause-reads
returns-in_default-clause-reads c =
    without (of_value key) c.loop-item.keys.items c.args.items.now c.loop-item.item-index c.item-item.result None
    c.loop-item-test.true c.item-item.is c.in_default.ensures refl ∙ c.loop-item.invariant.0
