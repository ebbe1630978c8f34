use Rattle.std.proofs.Common.{refl}
use Rattle.std.specs.Fmt.{digits}
use Rattle.bhs_cli.proofs.laws.worked_turns.Goals as goal

pub returns : goal.returns
unfolding digits
returns c = refl
