-- What comes of comparing an agent's part of a log with its strategy.
use Rattle.std.specs.Prelude.{ℕ, suc, ◌≡◌, ◌≢◌, true, ◌∷◌, [], ◌++◌, take}
use Rattle.bhs_model.specs.declared.commands.Command.{Command}
use Rattle.bhs_model.specs.declared.events.Event.TheVariants.{Tell}
use Rattle.bhs_model.specs.Runs.{run}
use Rattle.bhs_model.specs.Marks.{events_of}
use Rattle.bhs_match.specs.Matches.{Play, world_in}
use Rattle.bhs_schedules.specs.declared.answers.Step.{Step}
use Rattle.bhs_schedules.specs.declared.answers.Step.TheVariants.{Says}
use Rattle.bhs_schedules.specs.Strategies.{History}
use Rattle.bhs_attest.specs.declared.follow.Attestation.{Attestation}
use Rattle.bhs_attest.specs.declared.follow.Attestation.TheVariants as attestation
use Rattle.bhs_attest.specs.Attested.{Player, Idles, Follows, FollowsTo, is_listening, times_woken, longest_row}

-- the agent has followed its strategy to the end, and has woken so often
pub record IsAttested (player : Player) (play : Play) (wake_ups in_a_row : ℕ) : Type 0 where
  pub history : History
  pub follows : Follows player play history
  pub woken : wake_ups ≡ times_woken history
  pub longest : in_a_row ≡ longest_row history

-- The agent has followed its strategy to this place, and the strategy's next step differs from the log: if the event at
-- the place is a command of the agent, the step is no such command.
pub record IsDifferent (player : Player) (play : Play) (place : ℕ) (step : Step) : Type 0 where
  pub old : History
  pub history : History
  pub follows : FollowsTo player (world_in play) (events_of play.log) place old
  pub idles : Idles player (world_in play) (run (world_in play) (take place (events_of play.log))) old history
  pub does : step ≡ player.strategy history
  pub differs : (command : Command)
      → take (suc place) (events_of play.log) ≡ take place (events_of play.log) ++ Tell player.agent command ∷ []
      → is_listening ((run (world_in play) (take place (events_of play.log))).position player.agent) ≡ true
      → step ≢ Says command

abbrev pub Attests : Player → Play → Attestation → Type 0
Attests player play (attestation.Follows wake_ups in_a_row) = IsAttested player play wake_ups in_a_row
Attests player play (attestation.Differs place step) = IsDifferent player play place step
Attests player play (attestation.Tires place) = Unit {0}
