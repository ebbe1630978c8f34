use Rattle.std.proofs.Common.{◌≡◌, drop}
use Rattle.toml.specs.View.{items_view}
use Rattle.bhs_files.specs.Shapes.{each, pair}
use Rattle.bhs_model.proofs.EachLemmas.{after}
use Rattle.bhs_files.proofs.Each.{of_value}
use Rattle.bhs_files.proofs.shapes.pairs.Given as goal

abbrev pub invariant-loop-item : goal.invariant-loop-item
invariant-loop-item l = after (of_value pair) l.pairs.items (drop l.item-index l.items) ≡ each pair
    (items_view l.items)
