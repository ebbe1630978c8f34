use Rattle.std.proofs.Common.{◌≡◌, ◌∷◌, ◌++◌, [], ap, map, List, Some, None, refl, ◌∙◌, arith}
use Rattle.std.proofs.lemmas.List.{map_push}
use Rattle.toml.specs.Data.{Members, as_table}
use Rattle.toml.specs.View.{table_view, view, items_view}
use Rattle.bhs_files.specs.Shapes.{each}
use Rattle.bhs_model.proofs.EachLemmas.{at_first, read_in, with_one, without}
use Rattle.bhs_files.proofs.Each.{of_value}
use Rattle.bhs_files.proofs.shapes.tables.Goals as goal

pub loop-item-init : goal.loop-item-init
loop-item-init c = (
  at_first (of_value as_table) (map (λ table. table_view table.now) c.new-tables.result.items) c.args.items.now
      (ap (map (λ table. table_view table.now)) c.new-tables.ensures.items)
      ∙ read_in view items_view (each as_table) as_table refl (λ value others. refl) c.args.items.now,
  omega (arith, c.new-tables.ensures.len),
)

pub loop-item-preserved : goal.loop-item-preserved
loop-item-preserved c =
    let before : List Members = map (λ table. table_view table.now) c.loop-item.tables.items in
    let grown : map (λ table. table_view table.now) c.push.new.self.items
    ≡ map (λ table. table_view table.now) c.loop-item.tables.items ++ table_view c.in-Some.table.now ∷ [] =
    rw c.in_ok-push.ensures.items (map_push _ c.loop-item.tables.items c.in-Some.table) in (
      with_one (of_value as_table) before c.args.items.now c.loop-item.item-index c.item-item.result
          (Some (table_view c.in-Some.table.now)) (table_view c.in-Some.table.now) _ c.loop-item-test.true
          c.item-item.is c.in-Some.ensures refl grown ∙ c.loop-item.invariant.0,
      omega (arith, c.in_ok-push.ensures.len, c.loop-item.invariant.1),
    )

pub returns-in_default-clause-reads : goal.returns-in_default-clause-reads
returns-in_default-clause-reads c =
    without (of_value as_table) _ c.args.items.now c.loop-item.item-index c.item-item.result None
    c.loop-item-test.true c.item-item.is c.in_default.ensures refl ∙ c.loop-item.invariant.0
