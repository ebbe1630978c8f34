-- What the twins of a match say of its verdict.
use Rattle.std.specs.Prelude.{ℕ, ◌≡◌, ◌≢◌, None}
use Rattle.bhs_match.specs.Matches.{Play}
use Rattle.bhs_referee.specs.Verdicts.{verdict_of}
use Rattle.bhs_referee.specs.declared.verdicts.Outcome.TheVariants.{Solved, Guess, Wrong}
use Rattle.bhs_view.specs.Laws.{IsEnded}
use Rattle.bhs_view.specs.Twins.{twin_fault, IsTwin}

-- Where the verdict is a guess at a node, the match has a twin with a black hole there, and the verdict on that twin is
-- Wrong: nobody saw which of the two it was.
pub record IsRefuted (play : Play) (node : ℕ) : Type 0 where
  pub fits : twin_fault play node ≡ None
  pub wrong : (twin : Play) → IsTwin play node twin → (verdict_of twin).outcome ≡ Wrong

abbrev pub GuessesAreRefuted : Type 0
GuessesAreRefuted = (play : Play) (node : ℕ) → IsEnded play → (verdict_of play).outcome ≡ Guess node
    → IsRefuted play node

-- Where the match is solved no twin is Wrong.
abbrev pub SolvedIsNotRefuted : Type 0
SolvedIsNotRefuted = (play twin : Play) (node : ℕ) → IsEnded play → (verdict_of play).outcome ≡ Solved →
    twin_fault play node ≡ None → IsTwin play node twin → (verdict_of twin).outcome ≢ Wrong
