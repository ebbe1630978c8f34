use Rattle.std.proofs.Common.{arith}
use Rattle.bhs_time.proofs.DelayLemmas.{below_twice}
use Rattle.bhs_time.proofs.delays.Delays.by_word.Goals as goal

pub returns-then-scale-from-clause-bound : goal.returns-then-scale-from-clause-bound
returns-then-scale-from-clause-bound c = below_twice _ _ (omega arith)
