use Rattle.bhs_wire.proofs.StreamLaws.{says_given}
use Rattle.bhs_wire.proofs.laws.one_meaning.Goals as goal

pub returns : goal.returns
returns c = says_given
