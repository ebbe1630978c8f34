use Rattle.std.proofs.lemmas.List.{map-append}
use Rattle.bhs_net.proofs.Degrees.{take-network_of}
use Rattle.bhs_net.proofs.network.Net.try_clone.Goals as goal

pub loop-row-preserved : goal.loop-row-preserved
loop-row-preserved c =
    let rows = c.deref-row-items.result.now in
    let i = c.loop-row.row-index in
    let more = take-network_of rows i c.row-item.result c.loop-row-test.true c.row-item.is in
    rw (
      c.in_ok-push.ensures.items,
      map-append,
      more,
      c.in_ok-from_slice.ensures.items,
      c.loop-row.invariant,
      c.deref.ensures.value,
    )
