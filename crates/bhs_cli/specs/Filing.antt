-- The exit status of a sequence of tasks.
use Rattle.std.specs.Prelude.{◌==◌, if◌then◌else◌, ℕ}
use Rattle.bhs_cli.specs.declared.reporting.statuses.TheConstants.{DONE}
use Rattle.std.specs.Prelude.{◌≡◌, List, true}
use Rattle.bhs_model.specs.Marks.{events_of}
use Rattle.bhs_match.specs.Matches.{Play}
use Rattle.bhs_rehearsal.specs.Games.{Game, state_of}
use Rattle.bhs_replay.specs.Head.{version_of}
use Rattle.bhs_replay.specs.Replay.{replay}
use Rattle.bhs_replay.specs.Stages.{Comes, Ends}
use Rattle.bhs_stream.specs.Streams.{WriteAnswer}
use Rattle.bhs_cli.specs.Showing.{Took}

-- the exit status of two things that were both tried: that of the first that failed
abbrev pub first_status : (one two : ℕ) → ℕ
first_status one two = if one == DONE then two else one

-- some text is the replay of this match
abbrev pub IsReplayed : Play → Type 0
IsReplayed play = (text : List ℕ) × Comes text (Ends play.net play.setup (events_of play.log))

-- some file took the whole replay of a match that has ended
abbrev pub IsFiled : {P : Type 0} → (P → List ℕ → WriteAnswer → P → Type 0) → Game → Type 0
IsFiled {P} files game =
    (state_of game).closed ≡ true → Took files (replay (version_of game.net game.setup) game.net game.setup game.log)
