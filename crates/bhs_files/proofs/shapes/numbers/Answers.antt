use Rattle.std.proofs.Common.{refl, ◌∙◌}
use Rattle.toml.specs.View.{view, items_view}
use Rattle.bhs_files.specs.Shapes.{each, number}
use Rattle.bhs_model.proofs.EachLemmas.{at_first, read_in, with_one, without, at_last}
use Rattle.bhs_files.proofs.Each.{of_value}
use Rattle.bhs_files.proofs.shapes.numbers.Goals as goal

pub loop-item-init : goal.loop-item-init
loop-item-init c = at_first (of_value number) c.new-numbers.result.items c.args.items.now c.new-numbers.ensures.items
    ∙ read_in view items_view (each number) number refl (λ value others. refl) c.args.items.now

pub loop-item-preserved : goal.loop-item-preserved
loop-item-preserved c =
    with_one (of_value number) c.loop-item.numbers.items c.args.items.now c.loop-item.item-index c.item-item.result
    c.number.result c.in-Some.number c.push.new.self.items c.loop-item-test.true c.item-item.is
    c.number.ensures c.in-Some.is c.in_ok-push.ensures.items ∙ c.loop-item.invariant

pub returns-in_default : goal.returns-in_default
returns-in_default c =
    without (of_value number) c.loop-item.numbers.items c.args.items.now c.loop-item.item-index c.item-item.result
    c.number.result c.loop-item-test.true c.item-item.is c.number.ensures c.in_default.is ∙ c.loop-item.invariant

pub returns : goal.returns
returns c =
    at_last (of_value number) c.loop-item.numbers.items c.args.items.now c.loop-item.item-index c.loop-item-test.false
    ∙ c.loop-item.invariant
