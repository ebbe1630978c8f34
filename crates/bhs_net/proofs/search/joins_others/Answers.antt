use Rattle.std.proofs.Common.{◌≢◌, ◌<◌, ◌≤◌, Bool, true, false, Result, Ok, Err, IfOk, MatchBool, arith, Vec, Global}
use Rattle.std.proofs.lemmas.List.{length-map}
use Rattle.bhs_net.specs.Links.{End}
use Rattle.bhs_net.specs.Network.{network_of, nodes_of}
use Rattle.bhs_net.proofs.Walks.{joined_without, is_cut}
use Rattle.bhs_net.proofs.search.joins_others.Goals as goal
use Rattle.bhs_net.proofs.search.joins_others.Goals.{then-node-eq0, else-node-eq0}

either : {E : Type 0} (r : Result Bool E) (all missed joined cut : Type 0) → (all → joined) → (missed → cut)
    → IfOk r (λ b. MatchBool b all missed) → IfOk r (λ b. MatchBool b joined cut)
either (Ok true) all missed joined cut f g h = f h
either (Ok false) all missed joined cut f g h = g h
either (Err e) all missed joined cut f g h = tt

pub returns : goal.returns
returns c =
    let net = network_of c.args.rows.now in
    let all = length-map c.args.rows.now (λ (r : Vec End Global). r.items) in
    let few : 3 ≤ nodes_of net = c.requires.labelled.few in
    let start = c.if-node-eq0.start in
    let node = c.args.node in
    let at : node < nodes_of net = let t = c.requires.node in omega arith in
    let begins : (start < nodes_of net) × (start ≢ node) = elim c.if-node-eq0.branch [
      | then-node-eq0 w ↦ (
        let s = w.start-is in omega arith,
        λ e. let s = w.start-is in
            let z = w.if-node-eq0.true in omega arith,
      )
      | else-node-eq0 w ↦ (
        let s = w.start-is in omega arith,
        λ e. let s = w.start-is in
            let z = w.if-node-eq0.false in omega arith,
      )
    ] in
    either c.reaches_all.result _ _ _ _ (joined_without net c.requires.labelled start node)
    (is_cut net c.requires.labelled start node at begins.0 begins.1) c.reaches_all.ensures
