use Rattle.std.proofs.Common.{◌≤◌, inl, inr, ⊎_elim, arith, refl, sym, subst, Vec, Global}
use Rattle.std.proofs.lemmas.List.{length-map}
use Rattle.bhs_net.specs.Links.{End}
use Rattle.bhs_net.specs.Network.{nodes_of, AreJoinedWithout}
use Rattle.bhs_net.specs.Network.{network_of}
use Rattle.bhs_net.proofs.Places.{below_or_at}
use Rattle.bhs_net.proofs.Walks.{connected, apart, not_cut}
use Rattle.bhs_net.proofs.search.check_paths.Goals as goal

pub returns-then-not-branch-clause-err : goal.returns-then-not-branch-clause-err
returns-then-not-branch-clause-err c =
    let missed = rw c.if-not-branch.true at c.in_ok-reaches_all.ensures in
    let all = length-map c.args.rows.now (λ (r : Vec End Global). r.items) in
    let few : 3 ≤ nodes_of (network_of c.args.rows.now) = c.requires.few in
    inr (inl (refl, apart (network_of c.args.rows.now) c.requires 0 _ (omega arith) (omega arith) missed))

pub returns-then-not-branch-2-clause-err : goal.returns-then-not-branch-2-clause-err
returns-then-not-branch-2-clause-err c =
    let net = network_of c.args.rows.now in
    let all = length-map c.args.rows.now (λ (r : Vec End Global). r.items) in
    let few : 3 ≤ nodes_of net = c.requires.few in
    let reached = rw c.if-not-branch.false at c.in_ok-reaches_all.ensures in
    inr (inr (
      connected net c.requires 0 _ (omega arith) reached,
      (
        c.loop-node.node,
        refl,
        (
          rw c.if-not-branch-2.true at c.in_ok-stay_joined.ensures,
          λ early lt. not_cut net early (c.loop-node.invariant early lt),
        ),
      ),
    ))

pub loop-node-preserved : goal.loop-node-preserved
loop-node-preserved c =
    let net = network_of c.args.rows.now in
    let here = rw c.if-not-branch-2.false at c.in_ok-stay_joined.ensures in
    λ cut h. ⊎_elim
    (λ below. c.loop-node.invariant cut below)
    (λ at. subst (λ d. AreJoinedWithout net d) (sym at) here)
    (below_or_at cut c.loop-node.node h)

pub returns-clause-ok : goal.returns-clause-ok
returns-clause-ok c =
    let net = network_of c.args.rows.now in
    let all = length-map c.args.rows.now (λ (r : Vec End Global). r.items) in
    let reached = rw c.if-not-branch.false at c.in_ok-reaches_all.ensures in
    record {
      labelled = c.requires;
      connected = connected net c.requires 0 _ (omega arith) reached;
      biconnected = λ cut h. c.loop-node.invariant cut (let t = c.loop-node-test.false in omega arith);
    }
