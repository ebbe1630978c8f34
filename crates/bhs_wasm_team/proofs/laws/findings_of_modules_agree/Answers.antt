use Rattle.bhs_wasm_team.proofs.Agreeing.{findings_of_modules_agree}
use Rattle.bhs_wasm_team.proofs.laws.findings_of_modules_agree.Goals as goal

pub returns : goal.returns
returns c = findings_of_modules_agree
