use Rattle.std.proofs.Common.{◌≡◌, drop}
use Rattle.serde_json.specs.View.{items_view}
use Rattle.bhs_replay.specs.HeadReading.{each, number_in}
use Rattle.bhs_model.proofs.EachLemmas.{after}
use Rattle.bhs_replay.proofs.Each.{of_value}
use Rattle.bhs_replay.proofs.head_parts.numbers.Given as goal

abbrev pub invariant-loop-item : goal.invariant-loop-item
invariant-loop-item l = after (of_value number_in) l.numbers.items (drop l.item-index l.items) ≡ each number_in
    (items_view l.items)
