use Rattle.std.proofs.Common.{refl}
use Rattle.bhs_model.proofs.PortMarkLemmas.{set_in_row}
use Rattle.bhs_model.proofs.port_marks.mark_port.Goals as goal

pub returns : goal.returns
returns c = rw c.from.ensures (set_in_row c.args.marks.now.items c.args.node c.args.port c.index_mut-row.result.now _
    c.requires.node (rw (← c.from.ensures) c.index_mut-row.ensures.value) (rw c.from-2.ensures refl))
