use Rattle.bhs_net.proofs.Fillings.{KnowsHeads}
use Rattle.bhs_net.proofs.fast_rows.marks_apart.Given as goal

abbrev pub invariant-loop-end : goal.invariant-loop-end
invariant-loop-end l = KnowsHeads 4096 l.end-index l.row l.marks
