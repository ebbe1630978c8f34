-- The text of a table of verdicts.
use Rattle.std.specs.Prelude.{ℕ, ◌+◌, ◌-◌, ◌^◌, false, Option, Some, None, List, [], ◌∷◌, ◌++◌, codes, decimal}
use Rattle.std.specs.Prelude.{slice_get, string_bytes}
use Rattle.std.specs.Fmt.{format_spec, padded, padded_integral}
use Rattle.bhs_referee.specs.declared.verdicts.Outcome.{Outcome}
use Rattle.bhs_referee.specs.declared.verdicts.Outcome.TheVariants.{Solved, Guess, Unfinished, Silent, Wrong}
use Rattle.bhs_standings.specs.declared.rows.Row.{Row}

-- how an outcome is printed
abbrev pub outcome_text : Outcome → List ℕ
outcome_text Solved = codes "solved"
outcome_text (Guess node) = codes "guess " ++ decimal node
outcome_text Unfinished = codes "unfinished"
outcome_text Silent = codes "silent"
outcome_text Wrong = codes "wrong"

-- a text at the left of a column with this many characters; a longer text is written whole
abbrev pub left : (width : ℕ) → List ℕ → List ℕ
left width text = padded (format_spec 32 1 0 width (2 ^ 64 - 1)) text

-- a number at the right of a column
abbrev pub right : (width : ℕ) → ℕ → List ℕ
right width n = padded_integral (format_spec 32 3 0 width (2 ^ 64 - 1)) false [] (decimal n)

-- the line of a row: its place from 1, the team, the outcome, the moves and how many agents were lost
abbrev pub line : (place : ℕ) → Row → List ℕ
line place row =
    right 3 place ++ (codes " " ++ (left 16 (string_bytes row.team)
    ++ (codes " " ++ (left 10 (outcome_text row.verdict.outcome)
    ++ (codes " " ++ (right 6 row.verdict.moves ++ (codes " " ++ (right 4 row.verdict.lost ++ codes "\n"))))))))

-- the head line
abbrev pub head : List ℕ
head = codes "  # team             outcome     moves lost\n"

-- the line of the row at a place of the list; nothing past its end
abbrev pub line_of : (place : ℕ) → Option Row → List ℕ
line_of place None = []
line_of place (Some row) = line place row

-- The lines of the rows at these places of the list, in this order; the first line has this rank.
abbrev pub lines_from : (place : ℕ) → List Row → List ℕ → List ℕ
lines_from place rows [] = []
lines_from place rows (at ∷ others) = line_of place (slice_get rows at) ++ lines_from (place + 1) rows others

-- the table: the head line, and then the rows in this order
abbrev pub table_of : List Row → (places : List ℕ) → List ℕ
table_of rows places = head ++ lines_from 1 rows places
