use Rattle.bhs_theorems_contests.proofs.Waiters.{programs_wait}
use Rattle.bhs_theorems_contests.proofs.laws.programs_wait.Goals as goal

pub returns : goal.returns
returns c = programs_wait
