use Rattle.bhs_wasm_team.proofs.Modules.{modules_answer}
use Rattle.bhs_wasm_team.proofs.laws.modules_answer.Goals as goal

pub returns : goal.returns
returns c = modules_answer
