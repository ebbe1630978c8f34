use Rattle.std.proofs.lemmas.Result.{on_ok_weaker, on_err_weaker}
use Rattle.bhs_rehearsal.proofs.HolderLemmas.{held_at-row, same_rows}
use Rattle.bhs_rehearsal.proofs.holders.Holders.seat.Goals as goal

pub returns-clause-ok : goal.returns-clause-ok
returns-clause-ok c = on_ok_weaker c.seat_in.result (λ changed. held_at-row c.self.inside.rows.items
    c.index_mut-row.result.now c.seat_in.new.row c.args.seat c.args.conn c.args.self.now c.self.view_is c.requires
    c.index_mut-row.ensures.value changed) c.seat_in.ensures.ok

pub returns-clause-err : goal.returns-clause-err
returns-clause-err c = on_err_weaker c.seat_in.result (λ same. same_rows c.self.inside.rows.items
    c.index_mut-row.result.now c.seat_in.new.row c.args.seat.0 c.args.self.now c.self.view_is
    c.index_mut-row.ensures.value same) c.seat_in.ensures.err
