use Rattle.std.proofs.Common.{◌≡◌, drop}
use Rattle.toml.specs.View.{items_view}
use Rattle.bhs_files.specs.Shapes.{each, number}
use Rattle.bhs_model.proofs.EachLemmas.{after}
use Rattle.bhs_files.proofs.Each.{of_value}
use Rattle.bhs_files.proofs.shapes.numbers.Given as goal

abbrev pub invariant-loop-item : goal.invariant-loop-item
invariant-loop-item l = after (of_value number) l.numbers.items (drop l.item-index l.items) ≡ each number
    (items_view l.items)
