use Rattle.bhs_setups.proofs.KeyTableLemmas.{refuses, adds}
use Rattle.bhs_setups.proofs.key_table.Keys.insert.Goals as goal

pub returns-then-contains_key-clause-added : goal.returns-then-contains_key-clause-added
returns-then-contains_key-clause-added c = (refuses _ c.args.seat c.self.inside.seats.entries _ c.self.view_is
    (rw c.as_str.ensures.value at c.if-contains_key.ensures)).0

pub returns-then-contains_key-clause-seats : goal.returns-then-contains_key-clause-seats
returns-then-contains_key-clause-seats c = (refuses _ c.args.seat c.self.inside.seats.entries _ c.self.view_is
    (rw c.as_str.ensures.value at c.if-contains_key.ensures)).1

pub returns-clause-added : goal.returns-clause-added
returns-clause-added c = (adds c.args.key c.args.seat c.self.inside.seats c.insert.new.self.entries _ c.self.view_is
    (rw c.as_str.ensures.value at c.if-contains_key.ensures) c.in_ok-insert.ensures.entries).0

pub returns-clause-seats : goal.returns-clause-seats
returns-clause-seats c = (adds c.args.key c.args.seat c.self.inside.seats c.insert.new.self.entries _ c.self.view_is
    (rw c.as_str.ensures.value at c.if-contains_key.ensures) c.in_ok-insert.ensures.entries).1
