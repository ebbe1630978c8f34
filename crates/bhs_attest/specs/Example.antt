-- A match of one agent that sleeps once, enters and leaves, worked out by hand: its log is followed.
use Rattle.std.specs.Prelude.{None, Some, [], ◌∷◌}
use Rattle.bhs_model.specs.declared.commands.Command.TheVariants.{Enter, Leave}
use Rattle.bhs_model.specs.declared.events.Event.TheVariants.{Tell, Close}
use Rattle.bhs_model.specs.declared.marks.Mark.TheVariants as marks
use Rattle.bhs_model.specs.declared.replies.Reply.TheVariants.{Here, Bye}
use Rattle.bhs_model.specs.Examples.{none_held}
use Rattle.bhs_model.specs.Runs.{initial}
use Rattle.bhs_model.specs.Marks.{events_of}
use Rattle.bhs_match.specs.Matches.{Play, world_in}
use Rattle.bhs_schedules.specs.declared.answers.Step.TheVariants.{Says, Sleeps, Stops}
use Rattle.bhs_schedules.specs.Strategies.{Heard, Woke, History, Strategies, Strategy}
use Rattle.bhs_attest.specs.Attested.{Follows}
use Rattle.bhs_attest.specs.Laws.{AreOverFree, HasEnded, IsSchedule, player_of, trial_in}

abbrev pub sleepy : Strategy
sleepy [] = Sleeps
sleepy (Woke ∷ []) = Says Enter
sleepy (Heard (Here ports came board) ∷ history) = Says Leave
sleepy history = Stops

abbrev pub alone : Strategies
alone agent = sleepy

-- on the triangle, with node 2 as the black hole
abbrev pub short_match : Play
short_match = record {
  net = ((1, 1) ∷ (2, 0) ∷ []) ∷ ((2, 1) ∷ (0, 0) ∷ []) ∷ ((0, 1) ∷ (1, 0) ∷ []) ∷ [];
  setup = record { home = 0; holes = 2 ∷ []; dark = []; agents = 1; quota = 10; board = 8 };
  log = record { event = Tell 0 Enter; mark = Some (marks.Here 2 None None) }
      ∷ record { event = Tell 0 Leave; mark = Some marks.Bye } ∷ record { event = Close; mark = None } ∷ [];
}

abbrev pub whole_history : History
whole_history = Heard Bye ∷ Heard (Here 2 None []) ∷ Woke ∷ []

-- the premises of the law on followed logs
pub record ItIsFollowed : Type 0 where
  pub ended : HasEnded short_match
  pub free : AreOverFree none_held (world_in short_match) initial (events_of short_match.log)
  pub follows : Follows (player_of alone 0 0) short_match whole_history

-- the conclusion of the law
abbrev pub ItIsASchedule : Type 0
ItIsASchedule = IsSchedule (trial_in short_match none_held 0 alone) (events_of short_match.log)
