-- The contest that comes of the matches of a tournament, and the table that comes of matches that have ended.
use Rattle.std.specs.Prelude.{ℕ, ◌≡◌, ◌+◌, ◌-◌, ◌^◌, min, List, [], ◌∷◌, map, string_bytes}
use Rattle.rand_chacha.specs.ChaCha.{ChaCha}
use Rattle.bhs_match.specs.Matches.{Play}
use Rattle.bhs_time.specs.declared.kinds.ScheduleKind.{ScheduleKind}
use Rattle.bhs_setups.specs.declared.lineups.Ready.{Ready}
use Rattle.bhs_shared_match.specs.SharedMatches.{Given}
use Rattle.bhs_deliveries.specs.Dealer.{dealer_at}
use Rattle.bhs_referee.specs.Verdicts.{verdict_of}
use Rattle.bhs_referee.specs.declared.verdicts.Verdict.{Verdict}
use Rattle.bhs_standings.specs.declared.rows.Row.{Row}
use Rattle.bhs_standings.specs.Ranks.{IsRanking}
use Rattle.bhs_standings.specs.Tables.{table_of}

-- the number of the match at this place: numbers have 32 bits, and what stands further behind has the greatest
abbrev pub number_at : (place : ℕ) → ℕ
number_at place = min place (2 ^ 32 - 1)

-- the parameters of the shared match at this place: its number, its network, its setup, its held links, and the
-- schedule of the tournament
abbrev pub given_of : ScheduleKind → (place : ℕ) → Ready → Given
given_of schedule place ready = record {
  game = number_at place;
  net = ready.game.net;
  setup = ready.game.setup;
  held = ready.held;
  schedule = schedule;
}

-- the parameters of the shared matches from this place on
abbrev pub givens_of : ScheduleKind → (place : ℕ) → List Ready → List Given
givens_of schedule place [] = []
givens_of schedule place (ready ∷ others) = given_of schedule place ready ∷ givens_of schedule (place + 1) others

-- the dealers of matches of which the first has this number: each at the start of the stream of its match's number
abbrev pub dealers_of : (seed : List ℕ) (game : ℕ) → List Ready → List ChaCha
dealers_of seed game [] = []
dealers_of seed game (ready ∷ others) = dealer_at seed game 0 ∷ dealers_of seed (game + 1) others

-- the row of a team: its name, and the verdict on its match
pub record IsRowOf (team : List ℕ) (play : Play) (row : Row) : Type 0 where
  pub team_is : string_bytes row.team ≡ team
  pub judged : row.verdict ≡ verdict_of play

-- one row for each team with its match, in order
abbrev pub AreRowsOf : List (List ℕ) → List Play → List Row → Type 0
AreRowsOf [] [] [] = Unit {0}
AreRowsOf (team ∷ teams) (play ∷ plays) (row ∷ rows) = IsRowOf team play row × AreRowsOf teams plays rows
AreRowsOf teams plays rows = ⊥

-- the text is the table of these teams by the verdicts on their matches
pub record IsStandings (teams : List (List ℕ)) (plays : List Play) (text : List ℕ) : Type 0 where
  pub rows : List Row
  pub places : List ℕ
  pub rows_are : AreRowsOf teams plays rows
  pub ranked : IsRanking rows places
  pub said : text ≡ table_of rows places

-- the text is the table of these teams by these verdicts
pub record IsTableBy (teams : List (List ℕ)) (verdicts : List Verdict) (text : List ℕ) : Type 0 where
  pub rows : List Row
  pub places : List ℕ
  pub teams_are : map (λ row. string_bytes row.team) rows ≡ teams
  pub verdicts_are : map (λ row. row.verdict) rows ≡ verdicts
  pub ranked : IsRanking rows places
  pub said : text ≡ table_of rows places
