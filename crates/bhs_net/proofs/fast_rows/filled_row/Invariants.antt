use Rattle.bhs_net.proofs.Fillings.{HasPorts}
use Rattle.bhs_net.proofs.fast_rows.filled_row.Given as goal

abbrev pub invariant-loop-port : goal.invariant-loop-port
invariant-loop-port l = HasPorts l.links l.node l.port l.row.items
