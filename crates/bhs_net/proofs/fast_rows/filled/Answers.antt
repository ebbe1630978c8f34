use Rattle.std.proofs.Common.{ℕ, arith, Vec, Global}
use Rattle.std.proofs.lemmas.List.{length-map}
use Rattle.bhs_net.specs.Network.{network_of}
use Rattle.bhs_net.specs.Filling.{index_of, AreIndexed, AreFilled, AllLeadApart}
use Rattle.bhs_net.proofs.Fillings.{Lists-from_filled}
use Rattle.bhs_net.proofs.fast_rows.filled.Goals as goal

pub returns-then-all_lead_apart : goal.returns-then-all_lead_apart
returns-then-all_lead_apart c =
    let links = c.args.links.now in
    let index = index_of c.in_ok-index.index.items in
    let net = network_of c.in-Some.rows.items in
    let indexed : AreIndexed links index =
    rw c.deref.ensures.value at (c.are_indexed.ensures c.if-not-are_indexed.false) in
    let filled : AreFilled links index net =
    rw c.deref-2.ensures.value at (rw c.in-Some.is at c.in_ok-rows.ensures) in
    let apart : AllLeadApart net =
    rw c.deref-in-Some.ensures.value at (c.all_lead_apart.ensures c.if-all_lead_apart.true) in
    Lists-from_filled links index net indexed filled c.args.nodes c.requires.few c.requires.many
    (let s = filled.size in let m = length-map c.in_ok-index.index.items (λ (n : Vec ℕ Global). n.items) in
    let k = c.in_ok-index.ensures.size in omega arith) c.in_default.ensures.ok apart
