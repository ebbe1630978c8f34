use Rattle.std.proofs.Common.{◌≡◌, ◌<◌, true, false, refl, inr, length, arith}
use Rattle.std.specs.BTreeSet.{contains}
use Rattle.bhs_net.specs.Listing.{end_cmp}
use Rattle.bhs_net.proofs.Doubles.{KnowsPairs-none, KnowsPairs-more, IsDouble-first}
use Rattle.bhs_net.proofs.link_rows.check_doubles.Goals as goal

pub loop-place-init : goal.loop-place-init
loop-place-init c = KnowsPairs-none c.args.links.now c.new-joined.result c.new-joined.ensures.empty

pub loop-place-preserved : goal.loop-place-preserved
loop-place-preserved c =
    let fresh : contains end_cmp c.loop-place.joined (c.min.result, c.max.result) ≡ false =
    let a = c.in_ok-insert.ensures.added in grind arith in
    KnowsPairs-more c.args.links.now c.loop-place.place c.loop-place.joined c.insert.new.self
    (c.min.result, c.max.result) (cc) c.loop-place.invariant fresh c.in_ok-insert.ensures.updates.0

pub returns-then-not-branch-clause-err : goal.returns-then-not-branch-clause-err
returns-then-not-branch-clause-err c =
    let there : contains end_cmp c.loop-place.joined (c.min.result, c.max.result) ≡ true =
    let a = c.in_ok-insert.ensures.added in grind arith in
    inr (
      c.loop-place.place,
      refl,
      IsDouble-first c.args.links.now c.loop-place.place c.loop-place.joined
          (c.min.result, c.max.result) (cc) c.loop-place.invariant c.loop-place-test.true there,
    )

pub returns-clause-ok : goal.returns-clause-ok
returns-clause-ok c = λ place double. c.loop-place.invariant.no_double place
    (let at : place < length c.args.links.now = double.0 in omega arith) double
