use Rattle.std.proofs.Common.{sym, subst, ℕ, Vec, Global}
use Rattle.std.proofs.lemmas.List.{length-map}
use Rattle.bhs_net.specs.Links.{End}
use Rattle.bhs_net.specs.Network.{network_of}
use Rattle.bhs_net.specs.Trees.{AllLeadPast}
use Rattle.bhs_net.proofs.TreeLemmas.{joined_past}
use Rattle.bhs_net.proofs.search.stay_joined.Goals as goal

pub returns-then-all_lead_past : goal.returns-then-all_lead_past
returns-then-all_lead_past c =
    let net = network_of c.args.rows.now in
    let size = length-map c.args.rows.now (λ (r : Vec End Global). r.items) in
    joined_past net c.requires.labelled c.args.search.now (c.requires.tree c.if-is_tree.true) c.args.node
    (subst (λ (k : ℕ). AllLeadPast c.args.search.now k c.args.node) (sym size)
    (c.all_lead_past.ensures c.if-all_lead_past.true))
