use Rattle.std.proofs.Common.{◌<◌, ⊎_elim, length, arith, sym, subst, List}
use Rattle.bhs_net.specs.Links.{End}
use Rattle.bhs_net.specs.Network.{network_of, row_of}
use Rattle.bhs_net.specs.Filling.{LeadsApart}
use Rattle.bhs_net.proofs.Places.{below_or_at}
use Rattle.bhs_net.proofs.Degrees.{row_of-network_of}
use Rattle.bhs_net.proofs.fast_rows.all_lead_apart.Goals as goal

pub loop-row-preserved : goal.loop-row-preserved
loop-row-preserved c =
    let rows = c.args.rows.now in
    let here : c.loop-row.row-index < length rows = let t = c.loop-row-test.true in omega arith in
    let apart : LeadsApart c.row-item.result.items =
    rw c.deref.ensures.value at (c.leads_apart.ensures c.if-not-leads_apart.false) in
    λ early lt. ⊎_elim
    (λ below. c.loop-row.invariant early below)
    (λ at. subst (λ k. LeadsApart (row_of (network_of rows) k)) (sym at)
    (subst (λ (r : List End). LeadsApart r)
    (sym (row_of-network_of rows c.loop-row.row-index c.row-item.result here c.row-item.is)) apart))
    (below_or_at early c.loop-row.row-index lt)
