-- What threads that judge matches give back.
use Rattle.std.specs.Prelude.{ℕ, ◌≡◌, ◌+◌, Option, Some, IfSome, List, [], ◌∷◌, slice_get}
use Rattle.bhs_referee.specs.declared.verdicts.Verdict.{Verdict}
use Rattle.bhs_standings.specs.Shown.{Seen}

-- the note belongs to the match of this number and has seen its verdict
pub record HasSeen (places : List ℕ) (verdicts : List Verdict) (game : ℕ) (note : Seen) : Type 0 where
  pub place : slice_get places game ≡ Some note.place
  pub seen : note.verdict ≡ slice_get verdicts game

-- notes in the order of their matches, from this number on; each present note has seen the verdict of its match
abbrev pub HaveSeen : (places : List ℕ) (verdicts : List Verdict) (game : ℕ) → List (Option Seen) → Type 0
HaveSeen places verdicts game [] = Unit {0}
HaveSeen places verdicts game (note ∷ notes) =
    IfSome note (HasSeen places verdicts game) × HaveSeen places verdicts (game + 1) notes
