-- The rows of teams with the verdicts on their matches.
use Rattle.std.proofs.Common.{◌≡◌, refl, subst, ℕ, List, [], ◌∷◌, map, string_bytes}
use Rattle.bhs_match.specs.Matches.{Play}
use Rattle.bhs_referee.specs.Verdicts.{verdict_of}
use Rattle.bhs_standings.specs.declared.rows.Row.{Row}
use Rattle.bhs_contest.specs.Hosting.{AreRowsOf}

-- rows with the verdicts on these matches are the rows of their own teams
of_own_teams : (plays : List Play) (rows : List Row)
    → map (λ (row : Row). row.verdict) rows ≡ map verdict_of plays
    → AreRowsOf (map (λ (row : Row). string_bytes row.team) rows) plays rows
of_own_teams [] [] judged = tt
of_own_teams (play ∷ plays) (row ∷ rows) judged =
    let first : row.verdict ≡ verdict_of play = cc in
    (record { team_is = refl; judged = first }, of_own_teams plays rows cc)
of_own_teams [] (row ∷ rows) judged = absurd cc
of_own_teams (play ∷ plays) [] judged = absurd cc

-- rows with these teams and the verdicts on these matches
pub rows_are : (teams : List (List ℕ)) (plays : List Play) (rows : List Row)
    → map (λ (row : Row). string_bytes row.team) rows ≡ teams
    → map (λ (row : Row). row.verdict) rows ≡ map verdict_of plays → AreRowsOf teams plays rows
rows_are teams plays rows named judged =
    subst (λ names. AreRowsOf names plays rows) named (of_own_teams plays rows judged)
