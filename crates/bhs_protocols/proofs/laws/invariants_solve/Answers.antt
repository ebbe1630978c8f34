use Rattle.std.proofs.Common.{◌≡◌, true}
use Rattle.bhs_protocols.proofs.Principle.{invariants_solve}
use Rattle.bhs_protocols.proofs.laws.invariants_solve.Goals as goal

pub returns : goal.returns
returns c = λ trial bounds test is. invariants_solve trial bounds (λ configuration left. test configuration left
    ≡ true) is
