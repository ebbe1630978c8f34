-- Matches side by side.
use Rattle.std.specs.Prelude.{ℕ, ◌<◌, ◌≡◌, Option, Some, None, List, [], ◌∷◌, ◌++◌, length, if◌then◌else◌}
use Rattle.std.specs.Prelude.{slice_index_or, slice_set, option_and_then}
use Rattle.bhs_model.specs.declared.events.Event.{Event}
use Rattle.bhs_model.specs.declared.marks.Mark.{Mark}
use Rattle.bhs_model.specs.Runs.{run, reply}
use Rattle.bhs_model.specs.Arenas.{Happening, events_of}
use Rattle.bhs_model.specs.Marks.{read_if, board_of, events_of as model_events}
use Rattle.bhs_model.specs.Places.{written, named}
use Rattle.bhs_world.specs.Tables.{keeps_next, log_after}
use Rattle.bhs_match.specs.declared.answers.Answer.{Answer}
use Rattle.bhs_match.specs.Matches.{Play, world_in, state_of}
use Rattle.bhs_match.specs.Laws.{IsLogOf}

-- no match
abbrev nothing : Play
nothing = record {
  net = [];
  setup = record {
    home = 0;
    holes = [];
    dark = [];
    agents = 0;
    quota = 0;
    board = 0;
  };
  log = [];
}

-- the match of a number
abbrev pub play_at : List Play → (game : ℕ) → Play
play_at plays game = slice_index_or plays game nothing

-- what an event makes of a match, with this answer
pub record IsPlayed (old : Play) (event : Event) (answer : Answer) (new : Play) : Type 0 where
  pub reply : read_if new.log answer.mark ≡ reply (world_in old) (state_of old) event
  pub log : new.log ≡ log_after (world_in old) old.log event answer.mark
  pub shown : option_and_then board_of answer.mark
      ≡ named (world_in old) (state_of old) (written (world_in old) (model_events old.log)) event
  pub place : answer.place ≡ (if keeps_next (world_in old) old.log event then Some (length old.log) else None)
  pub net : new.net ≡ old.net
  pub setup : new.setup ≡ old.setup

-- An event in one match changes this match alone.
pub record IsPlayedIn (old : List Play) (game : ℕ) (event : Event) (answer : Answer) (new : List Play) : Type 0 where
  pub within : game < length old
  pub played : IsPlayed (play_at old game) event answer (play_at new game)
  pub others : new ≡ slice_set old game (play_at new game)

-- The log of each match consists of the kept events of this match.
abbrev pub AreLogsOf : List Play → List Happening → Type 0
AreLogsOf plays happenings = (game : ℕ) → game < length plays
    → IsLogOf (world_in (play_at plays game)) (events_of game happenings) (play_at plays game).log

-- What is answered in one match is what this match alone gives, after those of all happenings that are its own; and
-- the logs go on to be what is kept of each match's own events.
pub record GoesOn (old new : List Play) (happenings : List Happening) (game : ℕ) (event : Event)
    (mark : Option Mark) : Type 0 where
  pub reply : read_if (play_at new game).log mark
      ≡ reply (world_in (play_at old game)) (run (world_in (play_at old game)) (events_of game happenings)) event
  pub logs : AreLogsOf new (happenings ++ record { game = game; event = event } ∷ [])
