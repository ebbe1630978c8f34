-- A schedule of two agents that makes all the moves of a bound.
use Rattle.std.proofs.Common.{ℕ, zero, suc, ◌≤◌, ◌≡◌, false, List, sym, ap, ◌∙◌, subst, nat_lt, arith, refl}
use Rattle.std.proofs.lemmas.Bool.{le-ltb}
use Rattle.bhs_referee.specs.declared.verdicts.Verdict.{Verdict}
use Rattle.bhs_schedules.specs.Schedules.{Trial, under}
use Rattle.bhs_schedules.proofs.Turns.{verdict_is}
use Rattle.bhs_protocols.specs.Configurations.{Configuration, configuration_of, blank, can_move_in, IsResting, turns_in}
use Rattle.bhs_protocols.specs.Attained.{IsAttained}
use Rattle.bhs_protocols.proofs.ConfigurationLemmas.{configurations_follow}

-- two agents rest if neither of them can move
pub two_rest : (trial : Trial) (configuration : Configuration) → trial.world.agents ≡ 2
    → can_move_in trial configuration 0 ≡ false
    → can_move_in trial configuration 1 ≡ false → IsResting trial configuration
two_rest trial configuration two still still_too zero = still
two_rest trial configuration two still still_too (suc zero) = still_too
two_rest trial configuration two still still_too (suc (suc k)) =
    let beyond : nat_lt (suc (suc k)) trial.world.agents ≡ false =
    le-ltb (suc (suc k)) trial.world.agents (subst (λ (j : ℕ). j ≤ suc (suc k)) (sym two) (omega arith)) in
    rw beyond refl

pub attained_by : (trial : Trial) (schedule : List ℕ) (most : ℕ) (configuration : Configuration)
    → turns_in trial blank schedule ≡ configuration → IsResting trial configuration → configuration.moves ≡ most
    → IsAttained trial most
attained_by trial schedule most configuration same rest moves =
    let is : configuration_of trial (under trial schedule)
    ≡ configuration = configurations_follow trial schedule ∙ same in
    record {
      schedule = schedule;
      rest = subst (λ (p : Configuration). IsResting trial p) (sym is) rest;
      moves = ap (λ (v : Verdict). v.moves) (verdict_is trial (under trial schedule))
          ∙ ap (λ (p : Configuration). p.moves) is ∙ moves;
    }
