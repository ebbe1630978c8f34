use Rattle.bhs_theorems_isolation.proofs.ServedSessionsLemmas.{served_sessions_took_part}
use Rattle.bhs_theorems_isolation.proofs.contests.served_sessions_took_part.Goals as goal

pub returns : goal.returns
returns c = served_sessions_took_part
