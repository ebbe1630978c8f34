use Rattle.bhs_protocols.proofs.EndlessLemmas.{repeaters_solve, repeaters_never_rest}
use Rattle.bhs_protocols.proofs.laws.repeaters_solve.Goals as goal

pub returns : goal.returns
returns c = record { said = repeaters_solve; but = repeaters_never_rest }
