use Rattle.bhs_net.proofs.FarEnds.{KnowsEnds}
use Rattle.bhs_net.proofs.link_rows.far_ends.Given as goal

abbrev pub invariant-loop-place : goal.invariant-loop-place
invariant-loop-place l = KnowsEnds l.links l.place l.far_ends
