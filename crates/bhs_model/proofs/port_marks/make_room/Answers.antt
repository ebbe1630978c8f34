use Rattle.std.proofs.Common.{◌+◌, ◌<◌, ◌≤◌, arith, length}
use Rattle.std.proofs.Math.Nat.{le-max_left, le-max_right}
use Rattle.bhs_model.proofs.PortMarkLemmas.{grown, has_room, more_room, row_set}
use Rattle.bhs_model.proofs.port_marks.make_room.Goals as goal

pub returns-clause-more : goal.returns-clause-more
returns-clause-more c =
    let row = c.index_mut-row.result.now in
    let size = row.ok.0 in
    let most = le-max_left c.len.result (c.from-2.result + 1) in
    let within : length row.items ≤ c.max-length.result = omega (arith, c.max-length.ensures, c.len.ensures) in
    let is = grown _ row.items c.resize.new.self.items c.max-length.result _ within c.resize.ensures.items in
    rw c.from.ensures (more_room c.args.marks.now.items c.args.node is.0 row c.resize.new.self
    c.requires (rw (← c.from.ensures) c.index_mut-row.ensures.value) is.1)

pub returns-clause-room : goal.returns-clause-room
returns-clause-room c =
    let new = c.resize.new.self in
    let most = le-max_right c.len.result (c.from-2.result + 1) in
    let long : c.args.port < c.max-length.result = omega (arith, c.max-length.ensures, c.from-2.ensures) in
    rw (c.from.ensures, row_set c.args.marks.now.items c.args.node new c.requires)
    (has_room c.resize.result c.args.port new.len c.max-length.result _ new.items long (omega (arith, new.ok.0))
    c.resize.ensures.len)
