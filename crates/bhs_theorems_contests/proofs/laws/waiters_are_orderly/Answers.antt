use Rattle.bhs_theorems_contests.proofs.Orderly.{waiters_are_orderly}
use Rattle.bhs_theorems_contests.proofs.laws.waiters_are_orderly.Goals as goal

pub returns : goal.returns
returns c = waiters_are_orderly
