use Rattle.std.proofs.Common.{◌≡◌, drop, vec_len}
use Rattle.toml.specs.View.{items_view}
use Rattle.bhs_files.specs.Shapes.{each, key}
use Rattle.bhs_model.proofs.EachLemmas.{after}
use Rattle.bhs_files.proofs.Each.{of_value}
use Rattle.bhs_files.proofs.shapes.key_texts.Given as goal

abbrev pub invariant-loop-item : goal.invariant-loop-item
invariant-loop-item l = (after (of_value key) l.keys.items (drop l.item-index l.items) ≡ each key
    (items_view l.items)) × (vec_len l.keys ≡ l.item-index)
