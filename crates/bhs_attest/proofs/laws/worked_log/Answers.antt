use Rattle.bhs_attest.proofs.ExampleLemmas.{it_is_a_schedule, it_is_followed}
use Rattle.bhs_attest.proofs.laws.worked_log.Goals as goal

pub returns-clause-followed : goal.returns-clause-followed
returns-clause-followed c = it_is_followed

pub returns-clause-schedule : goal.returns-clause-schedule
returns-clause-schedule c = it_is_a_schedule
