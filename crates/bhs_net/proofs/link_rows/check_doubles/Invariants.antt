use Rattle.bhs_net.proofs.Doubles.{KnowsPairs}
use Rattle.bhs_net.proofs.link_rows.check_doubles.Given as goal

abbrev pub invariant-loop-place : goal.invariant-loop-place
invariant-loop-place l = KnowsPairs l.links l.place l.joined
