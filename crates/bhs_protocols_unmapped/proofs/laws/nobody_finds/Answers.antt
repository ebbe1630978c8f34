use Rattle.bhs_protocols_unmapped.proofs.Nobody.{nobody_finds, nobody_solves}
use Rattle.bhs_protocols_unmapped.proofs.laws.nobody_finds.Goals as goal

pub returns-clause-finds : goal.returns-clause-finds
returns-clause-finds c = nobody_finds

pub returns-clause-solves : goal.returns-clause-solves
returns-clause-solves c = nobody_solves
