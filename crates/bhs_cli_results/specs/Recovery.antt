-- What comes of a contest whose server was killed: the replays of its matches by their parts, the turns of their
-- events, and the table.
use Rattle.std.specs.Prelude.{◌≡◌, ◌==◌, ◌<◌, ◌+◌, ◌-◌, ◌^◌, min, ℕ, Bool, Option, Some, List, [], ◌∷◌, ◌++◌}
use Rattle.std.specs.Prelude.{length, take, slice_get, if◌then◌else◌}
use Rattle.bhs_stream.specs.Streams.{WriteAnswer}
use Rattle.bhs_model.specs.declared.marks.Kept.{Kept}
use Rattle.bhs_time.specs.TimedLogs.{turn_behind}
use Rattle.bhs_match.specs.Matches.{Play}
use Rattle.bhs_replay.specs.Parts.{IsOfPart}
use Rattle.bhs_replay.specs.Replay.{replay_of}
use Rattle.bhs_setups.specs.declared.lineups.Lineup.{Lineup}
use Rattle.bhs_setups.specs.declared.lineups.Ready.{Ready}
use Rattle.bhs_cli_results.specs.Appeals.{Case, IsOnTime}
use Rattle.bhs_cli_results.specs.ContestTables.{IsOf, TablesMatches}
use Rattle.bhs_cli.specs.Fault.{status}
use Rattle.bhs_cli.specs.Filing.{first_status}
use Rattle.bhs_cli.specs.Filing.{IsReplayed}
use Rattle.bhs_cli.specs.Showing.{Took}
use Rattle.bhs_cli.specs.Summary.{IsAssembled}
use Rattle.bhs_cli.specs.Turns.{turns_text}
use Rattle.bhs_cli.specs.declared.reporting.faults.Fault.{Fault}
use Rattle.bhs_cli.specs.declared.reporting.statuses.TheConstants.{DONE}

-- a match that is that of the whole lines of some text, closed where they stop, and of the kind of a tournament's match
pub record IsLeft (ready : Ready) (play : Play) : Type 0 where
  pub part : IsOfPart play
  pub same : IsOf ready play

-- The first turn that can follow an event with this turn, if there is one; turns do not exceed 2 ^ 32 - 1.
abbrev pub first_behind : Option Kept → (turn : Option ℕ) → ℕ
first_behind (Some one) (Some turn) = min (turn_behind one.event turn) (2 ^ 32 - 1)
first_behind one turn = 0

-- the turn of an event after events with these turns: the earliest that is possible
abbrev pub next_turn : List Kept → (turns : List ℕ) → ℕ
next_turn log turns = first_behind (slice_get log (length turns - 1)) (slice_get turns (length turns - 1))

-- The turns of a recovered match's events, completed from the turns that were left. If only the close lacks a turn,
-- because recovery added the close, then it gets the earliest possible turn.
abbrev pub all_turns : List Kept → (left : List ℕ) → List ℕ
all_turns log left =
    if length left + 1 == length log then left ++ next_turn log left ∷ [] else take (length log) left

-- The turns of a tournament's match, completed from those that were left; with these turns an appeal on the match is
-- upheld.
pub record AreTurnsBy (one : Case) : Type 0 where
  pub left : List ℕ
  pub all : one.turns ≡ all_turns one.play.log left
  pub timely : IsOnTime one

-- the match with this number and these turns, as a case for an appeal
abbrev pub case_of : Lineup → (number : ℕ) → Play → (turns : List ℕ) → Case
case_of lineup number play turns = record { lineup = lineup; game = number; play = play; turns = turns }

-- The effect of saving a match's turns, by calls of the written files.
pub data AreSavedTurns {P : Type 0} (files : P → List ℕ → WriteAnswer → P → Type 0) (lineup : Lineup) (number : ℕ)
    (play : Play) : Type 0 where
  -- nothing: the tournament has no turns, or a match that has a replay has turns, or none were left
  untimed : AreSavedTurns files lineup number play
  -- they were written, and with them the match stands its appeal
  timed_anew : (turns : List ℕ) → AreTurnsBy (case_of lineup number play turns) → Took files (turns_text turns)
      → AreSavedTurns files lineup number play

-- The effect of saving a tournament's match with this number, by calls of the written files.
pub data IsSaved {P : Type 0} (files : P → List ℕ → WriteAnswer → P
    → Type 0) (lineup : Lineup) (number : ℕ) : Type 0 where
  -- nothing: it has a replay and turns, or nothing is left of it
  left_alone : IsSaved files lineup number
  -- the replay of what its part says was written, with its turns
  filed_anew : (ready : Ready) → slice_get lineup.ready.items number ≡ Some ready
      → (play : Play) → IsLeft ready play → Took files (replay_of play)
      → AreSavedTurns files lineup number play → IsSaved files lineup number
  -- its turns alone: it has a replay
  has_replay : (play : Play) → IsReplayed play → AreSavedTurns files lineup number play → IsSaved files lineup number

-- The exit status for saving the matches of a tournament in order.
pub data AreSaved {P : Type 0} (files : P → List ℕ → WriteAnswer → P
    → Type 0) (lineup : Lineup) (code : ℕ) : Type 0 where
  -- each was
  all_saved : code ≡ DONE → ((number : ℕ) → number < length lineup.ready.items → IsSaved files lineup number)
      → AreSaved files lineup code
  -- one was not
  unsaved_one : (fault : Fault) → code ≡ status fault → AreSaved files lineup code

-- the transition relations of written files and output
module _ {P O : Type 0} (files : P → List ℕ → WriteAnswer → P → Type 0) (takes : O → List ℕ → WriteAnswer → O → Type 0)
    (flushes : O → Bool → O → Type 0) where
  -- The command saves the matches of a tournament, then prints their table.
  pub record RecoversMatches (lineup : Lineup) (output output' : O) (code : ℕ) : Type 0 where
    pub saved : ℕ
    pub printed : ℕ
    pub saves : AreSaved files lineup saved
    pub tables : TablesMatches takes flushes lineup.ready.items output output' printed
    pub coded : code ≡ first_status saved printed

  -- what came of the order to recover a contest
  pub data RecoversContest (output output' : O) (code : ℕ) : Type 0 where
    -- the tournament was put together
    recovers_contest : (lineup : Lineup) → IsAssembled lineup
        → RecoversMatches lineup output output' code → RecoversContest output output' code
    -- its file is refused or cannot be read, a server still writes its parts, or memory ran out; nothing was written
    recovers_nothing : (fault : Fault) → code ≡ status fault → output' ≡ output → RecoversContest output output' code
