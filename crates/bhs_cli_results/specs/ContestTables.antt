-- The table of a contest's teams, from the replays of its matches that exist.
use Rattle.std.specs.Prelude.{◌≡◌, ℕ, Bool, List, [], ◌∷◌, ◌++◌, Result, Ok, Err, string_bytes}
use Rattle.bhs_stream.specs.Streams.{WriteAnswer}
use Rattle.bhs_match.specs.Matches.{Play}
use Rattle.bhs_referee.specs.Verdicts.{verdict_of}
use Rattle.bhs_standings.specs.Ranks.{IsRanking}
use Rattle.bhs_standings.specs.Tables.{table_of}
use Rattle.bhs_standings.specs.declared.rows.Row.{Row}
use Rattle.bhs_setups.specs.declared.lineups.Lineup.{Lineup}
use Rattle.bhs_setups.specs.declared.lineups.Ready.{Ready}
use Rattle.bhs_cli_results.specs.Appeals.{own_head}
use Rattle.bhs_cli.specs.Fault.{IsOfFault, status}
use Rattle.bhs_cli.specs.Filing.{first_status}
use Rattle.bhs_cli.specs.Filing.{IsReplayed}
use Rattle.bhs_cli.specs.Showing.{Prints, Reports}
use Rattle.bhs_cli.specs.Summary.{IsAssembled}
use Rattle.bhs_cli.specs.declared.reporting.faults.Fault.{Fault}
use Rattle.bhs_cli.specs.declared.reporting.statuses.TheConstants.{DONE}

-- a match that has ended has the network and the setup of a match of a tournament
abbrev pub IsOf : Ready → Play → Type 0
IsOf ready play = own_head play.net play.setup ≡ own_head ready.game.net ready.game.setup

-- The row of a tournament's match: its team, and the verdict on a match with the same head, of which some text is the
-- replay.
pub record IsContestRow (ready : Ready) (row : Row) : Type 0 where
  pub play : Play
  pub replayed : IsReplayed play
  pub same : IsOf ready play
  pub team : string_bytes row.team ≡ ready.team
  pub judged : row.verdict ≡ verdict_of play

-- what was found of a match: its row, or the exit status of a fault
abbrev pub IsFound : Ready → Result Row ℕ → Type 0
IsFound ready (Ok row) = IsContestRow ready row
IsFound ready (Err code) = IsOfFault code

-- the optional row as a list
abbrev pub row_in : Result Row ℕ → List Row
row_in (Ok row) = row ∷ []
row_in (Err code) = []

-- the exit status of what was found
abbrev pub status_in : Result Row ℕ → ℕ
status_in (Ok row) = DONE
status_in (Err code) = code

-- The results of matches in order: the rows of those that have one, and the exit status of the first match without a
-- row.
pub data AreFound : List Ready → List Row → (code : ℕ) → Type 0 where
  nothing_found : AreFound [] [] DONE
  found_more : (matches : List Ready) (rows : List Row) (code : ℕ) (ready : Ready) (found : Result Row ℕ)
      → AreFound matches rows code → IsFound ready found
      → AreFound (matches ++ ready ∷ []) (rows ++ row_in found) (first_status code (status_in found))

-- the text is the table of these rows
pub record IsTableOf (rows : List Row) (text : List ℕ) : Type 0 where
  pub places : List ℕ
  pub ranked : IsRanking rows places
  pub said : text ≡ table_of rows places

-- the calls of the output
module _ {O : Type 0} (takes : O → List ℕ → WriteAnswer → O → Type 0) (flushes : O → Bool → O → Type 0) where
  -- what came of the order to print the table of these matches
  pub data TablesMatches (matches : List Ready) (output output' : O) (code : ℕ) : Type 0 where
    -- Leaves out matches without a row; the output is the table of the other matches.
    tables_found : (rows : List Row) (found printed : ℕ) → AreFound matches rows found
        → Reports (Prints takes flushes) (IsTableOf rows) output output' printed
        → code ≡ first_status found printed → TablesMatches matches output output' code
    -- memory ran out, and nothing was written
    tables_none : (fault : Fault) → code ≡ status fault → output' ≡ output → TablesMatches matches output output' code

  -- what came of the order to print the table of a contest
  pub data TablesContest (output output' : O) (code : ℕ) : Type 0 where
    -- the tournament was put together
    tables_contest : (lineup : Lineup) → IsAssembled lineup → TablesMatches lineup.ready.items output output' code
        → TablesContest output output' code
    -- its file is refused or cannot be read, or memory ran out, and nothing was written
    tables_nothing : (fault : Fault) → code ≡ status fault → output' ≡ output → TablesContest output output' code
