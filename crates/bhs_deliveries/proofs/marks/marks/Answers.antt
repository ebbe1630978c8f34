use Rattle.std.proofs.Common.{Bool, Vec, Global, arith}
use Rattle.std.proofs.lemmas.List.{length-map}
use Rattle.bhs_deliveries.proofs.MarkLemmas.{none_marked, has_row, one_marked}
use Rattle.bhs_deliveries.proofs.marks.marks.Goals as goal

pub loop-pair-init : goal.loop-pair-init
loop-pair-init c = rw (c.in_ok-marks.ensures, c.nodes.ensures.count) (none_marked c.args.net.now)

pub make_room-requires : goal.make_room-requires
make_room-requires c =
    let at = has_row _ _ _ _ c.requires c.loop-pair-test.true c.loop-pair.invariant in
    let same = length-map c.loop-pair.marks.items (λ (row : Vec Bool Global). row.items) in
    omega arith

pub loop-pair-preserved : goal.loop-pair-preserved
loop-pair-preserved c = rw c.mark_port.ensures (one_marked _ _ _ _ _ c.loop-pair-test.true c.loop-pair.invariant
    c.in_ok-make_room.ensures.more (has_row _ _ _ _ c.requires c.loop-pair-test.true c.loop-pair.invariant)
    c.in_ok-make_room.ensures.room)
