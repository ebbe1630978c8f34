use Rattle.std.proofs.Common.{refl, ◌∙◌}
use Rattle.serde_json.specs.View.{view, items_view}
use Rattle.bhs_replay.specs.HeadReading.{each, number_in}
use Rattle.bhs_model.proofs.EachLemmas.{at_first, read_in, with_one, without, at_last}
use Rattle.bhs_replay.proofs.Each.{of_value}
use Rattle.bhs_replay.proofs.head_parts.numbers.Goals as goal

pub loop-item-init : goal.loop-item-init
loop-item-init c = at_first (of_value number_in) c.new-numbers.result.items c.args.items.now c.new-numbers.ensures.items
    ∙ read_in view items_view (each number_in) number_in refl (λ value others. refl) c.args.items.now

pub loop-item-preserved : goal.loop-item-preserved
loop-item-preserved c =
    with_one (of_value number_in) c.loop-item.numbers.items c.args.items.now c.loop-item.item-index c.item-item.result
    c.number_in.result c.in-Some.number c.push.new.self.items c.loop-item-test.true c.item-item.is
    c.number_in.ensures c.in-Some.is c.in_ok-push.ensures.items ∙ c.loop-item.invariant

pub returns-in_default : goal.returns-in_default
returns-in_default c =
    without (of_value number_in) c.loop-item.numbers.items c.args.items.now c.loop-item.item-index c.item-item.result
    c.number_in.result c.loop-item-test.true c.item-item.is c.number_in.ensures c.in_default.is ∙ c.loop-item.invariant

pub returns : goal.returns
returns c =
    at_last (of_value number_in) c.loop-item.numbers.items c.args.items.now c.loop-item.item-index
    c.loop-item-test.false ∙ c.loop-item.invariant
