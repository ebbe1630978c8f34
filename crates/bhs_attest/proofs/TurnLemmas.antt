-- Turns of an agent along a log.
use Rattle.std.proofs.Common.{ℕ, ◌≡◌, ◌∙◌, false, Some, refl}
use Rattle.std.proofs.lemmas.Bool.{cond-false, eq-eqb}
use Rattle.bhs_model.specs.declared.commands.Command.{Command}
use Rattle.bhs_model.specs.declared.events.Event.TheVariants.{Tell}
use Rattle.bhs_match.specs.Matches.{Play, world_in}
use Rattle.bhs_world.specs.Tables.{keeps_next}
use Rattle.bhs_schedules.specs.declared.answers.Step.{Step}
use Rattle.bhs_schedules.specs.declared.answers.Step.TheVariants.{Says}
use Rattle.bhs_agents.specs.declared.searchers.AgentNews.{AgentNews}
use Rattle.bhs_agents.specs.declared.wake_ups.WakeUps.{WakeUps}
use Rattle.bhs_attest.specs.Turns.{Happens, IsHeard, Waits, is_refused}

-- a command that the match does not keep is refused, and changes nothing
pub waits_refused : (agent : ℕ) (wake_ups : WakeUps) (old new : Play) (command said : Command) (step : Step)
    (news : AgentNews) → step ≡ Says said → Happens old (Tell agent said) new
    → IsHeard old (Tell agent said) (Some news) → keeps_next (world_in old) old.log (Tell agent said) ≡ false
    → Waits agent wake_ups old (Tell agent command) step news new
waits_refused agent wake_ups old new command said step news says happens heard unkept =
    let log : new.log ≡ old.log = happens.log ∙ cond-false _ _ _ unkept in
    record {
      same = λ i. record { net = happens.same.0 i; setup = happens.same.1 i; log = log i };
      own = eq-eqb agent agent refl;
      idle = is_refused said says unkept heard;
    }
