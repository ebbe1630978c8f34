use Rattle.std.proofs.Common.{[], ◌∷◌, refl}
use Rattle.bhs_theorems_contests.proofs.ExampleLemmas.{law_speaks}
use Rattle.bhs_theorems_contests.proofs.laws.worked_contest.Goals as goal

pub returns-clause-law : goal.returns-clause-law
returns-clause-law c = law_speaks

pub returns-clause-schedule : goal.returns-clause-schedule
returns-clause-schedule c =
    record { schedule = 1 ∷ 1 ∷ 1 ∷ 0 ∷ 0 ∷ 0 ∷ 0 ∷ 0 ∷ 0 ∷ []; is = refl }

pub returns-clause-verdict : goal.returns-clause-verdict
returns-clause-verdict c = refl
