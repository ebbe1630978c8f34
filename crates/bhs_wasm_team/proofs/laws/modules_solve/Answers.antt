use Rattle.bhs_wasm_team.proofs.Modules.{modules_solve}
use Rattle.bhs_wasm_team.proofs.laws.modules_solve.Goals as goal

pub returns : goal.returns
returns c = modules_solve
