-- What is printed of matches that have ended, by their replays.
use Rattle.std.specs.Prelude.{◌≡◌, ℕ, List, [], ◌∷◌, ◌++◌, codes, decimal, Option, Some, None, slice_get, string_bytes}
use Rattle.bhs_model.specs.Cuts.{cut, footprints}
use Rattle.bhs_model.specs.Marks.{events_of, read_if}
use Rattle.bhs_model.specs.declared.marks.Kept.{Kept}
use Rattle.bhs_match.specs.Matches.{Play, world_in}
use Rattle.bhs_referee.specs.Verdicts.{verdict_of}
use Rattle.bhs_referee.specs.declared.verdicts.Verdict.{Verdict}
use Rattle.bhs_standings.specs.Ranks.{IsRanking}
use Rattle.bhs_standings.specs.Tables.{outcome_text, table_of}
use Rattle.bhs_standings.specs.declared.rows.Row.{Row}
use Rattle.bhs_replay.specs.EventLine.{event_line}
use Rattle.bhs_replay.specs.Head.{version_of}
use Rattle.bhs_replay.specs.Replay.{replay, replay_of}
use Rattle.bhs_terminal.specs.Visible.{visible}
use Rattle.bhs_view.specs.Places.{places_of}
use Rattle.bhs_view.specs.Twins.{HasTwin, IsTwin, twin_events, twin_fault, twin_setup}
use Rattle.bhs_view.specs.declared.twins.TwinFault.{TwinFault}
use Rattle.bhs_cli_words.specs.declared.orders.TableEntry.{TableEntry}
use Rattle.bhs_cli.specs.Fault.{status}
use Rattle.bhs_cli.specs.declared.reporting.faults.Fault.TheVariants.{Twin}
use Rattle.bhs_cli_results.specs.declared.explain.OutputKind.{OutputKind}
use Rattle.bhs_cli_results.specs.declared.explain.OutputKind.TheVariants.{Plain, Terminal}
use Rattle.bhs_cli.specs.Filing.{IsReplayed}

-- ---- the verdict

-- the line of a verdict
abbrev pub verdict_line : Verdict → List ℕ
verdict_line verdict =
    outcome_text verdict.outcome ++ (codes " moves " ++ (decimal verdict.moves
    ++ (codes " lost " ++ (decimal verdict.lost ++ codes "\n"))))

-- The text is the verdict of a match, whose replay is some text.
pub record IsJudgement (text : List ℕ) : Type 0 where
  pub play : Play
  pub replayed : IsReplayed play
  pub said : text ≡ verdict_line (verdict_of play)

-- ---- the table

-- The row of an entry: its team, and the verdict of a match whose replay is some text.
pub record IsRow (entry : TableEntry) (row : Row) : Type 0 where
  pub play : Play
  pub replayed : IsReplayed play
  pub team : string_bytes row.team ≡ entry.team
  pub judged : row.verdict ≡ verdict_of play

-- the rows of entries, one each, in order
pub data AreRows : List TableEntry → List Row → Type 0 where
  no_rows : AreRows [] []
  one_more : (entries : List TableEntry) (rows : List Row) (entry : TableEntry) (row : Row) → AreRows entries rows
      → IsRow entry row → AreRows (entries ++ entry ∷ []) (rows ++ row ∷ [])

-- the text is the table of these entries
pub record IsTable (entries : List TableEntry) (text : List ℕ) : Type 0 where
  pub rows : List Row
  pub places : List ℕ
  pub judged : AreRows entries rows
  pub ranked : IsRanking rows places
  pub said : text ≡ table_of rows places

-- ---- the causal past of an agent

-- A line as printed to this kind of output: control characters are escaped for a terminal, and unchanged otherwise.
abbrev pub displayed : OutputKind → (line : List ℕ) → List ℕ
displayed Terminal line = visible line
displayed Plain line = line

-- the line of a place: its number and its line of the replay; nothing past the end of the log
abbrev pub line_of : OutputKind → (log : List Kept) → (place : ℕ) → Option Kept → List ℕ
line_of kind log place None = []
line_of kind log place (Some one) =
    decimal place ++ (codes " " ++ (displayed kind (event_line one.event (read_if log one.mark)) ++ codes "\n"))

abbrev pub line_at : OutputKind → Play → (place : ℕ) → List ℕ
line_at kind play place = line_of kind play.log place (slice_get play.log place)

abbrev pub lines_at : OutputKind → Play → (places : List ℕ) → List ℕ
lines_at kind play [] = []
lines_at kind play (place ∷ places) = line_at kind play place ++ lines_at kind play places

-- the lines of the places of the agent's causal past, in their order
abbrev pub past_of : OutputKind → Play → (agent : ℕ) → List ℕ
past_of kind play agent =
    lines_at kind play (places_of (cut agent (footprints (world_in play) (events_of play.log))))

-- The text is this agent's past, formatted for this kind of output, in a match of which some text is the replay.
pub record IsPast (kind : OutputKind) (agent : ℕ) (text : List ℕ) : Type 0 where
  pub play : Play
  pub replayed : IsReplayed play
  pub said : text ≡ past_of kind play agent

-- ---- the twin

-- The text is the replay of the twin, with its black hole at this node, of a match of which some text is the replay.
-- Each match that is this twin has the same replay.
pub record IsTwinReplay (node : ℕ) (text : List ℕ) : Type 0 where
  pub play : Play
  pub replayed : IsReplayed play
  pub twinned : HasTwin play node
  pub said : text
      ≡ replay (version_of play.net (twin_setup play node)) play.net (twin_setup play node) (twin_events play)
  pub same : (twin : Play) → IsTwin play node twin → text ≡ replay_of twin

-- a match that some text is the replay of has no twin with its black hole at this node, and nothing was written
pub record HasNoTwin {O : Type 0} (node : ℕ) (output output' : O) (code : ℕ) : Type 0 where
  pub play : Play
  pub fault : TwinFault
  pub replayed : IsReplayed play
  pub told : twin_fault play node ≡ Some fault
  pub coded : code ≡ status (Twin fault)
  pub unwritten : output' ≡ output
