use Rattle.bhs_replay.proofs.ReadLemmas.{SoFar}
use Rattle.bhs_replay.proofs.read.read_all.Given as goal

abbrev pub invariant-loop : goal.invariant-loop
invariant-loop g l = SoFar g.R.Input.gives l.initial.reader l.counter l.reader l.replay
