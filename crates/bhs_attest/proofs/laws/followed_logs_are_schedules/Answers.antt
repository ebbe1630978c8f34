use Rattle.bhs_attest.proofs.Schedules.{followed_logs_are_schedules_lemma}
use Rattle.bhs_attest.proofs.laws.followed_logs_are_schedules.Goals as goal

pub returns : goal.returns
returns c = followed_logs_are_schedules_lemma
