use Rattle.std.proofs.Common.{◌≡◌, drop}
use Rattle.serde_json.specs.View.{items_view}
use Rattle.bhs_replay.specs.HeadReading.{each, link_in}
use Rattle.bhs_model.proofs.EachLemmas.{after}
use Rattle.bhs_replay.proofs.Each.{of_value}
use Rattle.bhs_replay.proofs.head_parts.links.Given as goal

abbrev pub invariant-loop-item : goal.invariant-loop-item
invariant-loop-item l = after (of_value link_in) l.links.items (drop l.item-index l.items) ≡ each link_in
    (items_view l.items)
