use Rattle.std.proofs.Common.{◌≡◌, drop, map, vec_len}
use Rattle.toml.specs.View.{items_view, table_view}
use Rattle.toml.specs.Data.{as_table}
use Rattle.bhs_files.specs.Shapes.{each}
use Rattle.bhs_model.proofs.EachLemmas.{after}
use Rattle.bhs_files.proofs.Each.{of_value}
use Rattle.bhs_files.proofs.shapes.tables.Given as goal

abbrev pub invariant-loop-item : goal.invariant-loop-item
invariant-loop-item l = (after (of_value as_table) (map (λ table. table_view table.now) l.tables.items)
    (drop l.item-index l.items) ≡ each as_table (items_view l.items)) × (vec_len l.tables ≡ l.item-index)
