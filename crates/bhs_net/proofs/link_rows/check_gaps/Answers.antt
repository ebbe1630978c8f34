use Rattle.std.proofs.Common.{ℕ, ◌<◌, ◌≤◌, map, refl, arith, ◌+◌, subst, Option, List, length, inl, inr}
use Rattle.bhs_net.specs.Links.{End, link_at, IsListed}
use Rattle.bhs_net.specs.Network.{Network, degree_of}
use Rattle.bhs_net.specs.declared.links.Link.{Link}
use Rattle.bhs_net.proofs.Gaps.{LeastBeyond, LeastBeyond-more, LeastBeyond-same, OrEnd, IsSeen, IsSeen-more}
use Rattle.bhs_net.proofs.Gaps.{IsSeen-less}
use Rattle.bhs_net.proofs.link_rows.check_gaps.Goals as goal

pub loop-link-preserved : goal.loop-link-preserved
loop-link-preserved c =
    let links = c.args.links.now in
    let seen = c.loop-link.link-index in
    let link = link_at links seen in
    let net = map (λ row. row.items) c.args.rows.now in
    let near = c.with_end-least in
    let far = c.with_end-least-in-loop-link in
    LeastBeyond-same (OrEnd (OrEnd (IsSeen links seen) (link.v, link.p)) (link.w, link.q)) (IsSeen links (seen + 1)) net
    far.result (IsSeen-more links seen) (IsSeen-less links seen)
    (LeastBeyond-more (OrEnd (IsSeen links seen) (link.v, link.p)) net link.w link.q near.result far.result
    far.ensures.small far.ensures.kept far.ensures.beyond
    (LeastBeyond-more (IsSeen links seen) net link.v link.p c.loop-link.least near.result near.ensures.small
    near.ensures.kept near.ensures.beyond c.loop-link.invariant))

listed_from_seen : (links : List Link) (seen : ℕ) (end : End) → seen ≤ length links → IsSeen links seen end
    → IsListed links end
listed_from_seen links seen end all has = (has.0, (let lt : has.0 < seen = has.1 in omega arith), has.2)

seen_from_listed : (links : List Link) (seen : ℕ) (end : End) → length links ≤ seen → IsListed links end
    → IsSeen links seen end
seen_from_listed links seen end all has = (has.0, (let lt : has.0 < length links = has.1 in omega arith), has.2)

pub returns-in-Some-clause-err : goal.returns-in-Some-clause-err
returns-in-Some-clause-err c =
    let links = c.args.links.now in
    let seen = c.loop-link.link-index in
    let net : Network = map (λ row. row.items) c.args.rows.now in
    let known = subst (λ (least : Option ℕ). LeastBeyond (IsSeen links seen) net least) c.in-Some.is
    c.loop-link.invariant in (
      c.in-Some.node,
      refl,
      (
        (known.0.0, listed_from_seen links seen _ (omega arith) known.0.2, known.0.3),
        λ early lt beyond. let le : c.in-Some.node ≤ early =
            known.1 (early, beyond.0) (seen_from_listed links seen _ (omega arith) beyond.1) beyond.2 in omega arith,
      ),
    )

pub returns-in-Some-clause-short : goal.returns-in-Some-clause-short
returns-in-Some-clause-short c =
    let links = c.args.links.now in
    let net : Network = map (λ row. row.items) c.args.rows.now in
    let known = subst (λ (least : Option ℕ). LeastBeyond (IsSeen links c.loop-link.link-index) net least) c.in-Some.is
    c.loop-link.invariant in
    let small : known.0.0 < 65536 = known.0.1 in
    let beyond : degree_of net c.in-Some.node ≤ known.0.0 = known.0.3 in
    omega arith

pub returns-in-None-clause-ok : goal.returns-in-None-clause-ok
returns-in-None-clause-ok c =
    let links = c.args.links.now in
    let seen = c.loop-link.link-index in
    let net : Network = map (λ row. row.items) c.args.rows.now in
    let known = subst (λ (least : Option ℕ). LeastBeyond (IsSeen links seen) net least) c.in-None.is
    c.loop-link.invariant in
    λ place lt. (known _ (place, omega arith, inl refl), known _ (place, omega arith, inr refl))
