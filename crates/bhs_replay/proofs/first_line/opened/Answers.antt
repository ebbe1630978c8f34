use Rattle.bhs_replay.proofs.OpeningLemmas.{no_says}
use Rattle.bhs_replay.proofs.first_line.opened.Goals as goal

pub returns-in-None : goal.returns-in-None
returns-in-None c = no_says c.args.line.now (rw c.in-None.is at c.in_ok-says.ensures)
