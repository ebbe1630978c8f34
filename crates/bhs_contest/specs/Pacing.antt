-- How a match's turns are spread.
use Rattle.std.specs.Prelude.{ℕ, ◌≡◌, ◌⊎◌, nat_lt, if◌then◌else◌}
use Rattle.bhs_server.specs.declared.pace.PaceStep.{PaceStep}
use Rattle.bhs_server.specs.declared.pace.PaceStep.TheVariants.{Turn, Close}

-- how many turns are taken, and how many milliseconds pass before each
pub record Beat : Type 0 where
  pub turns : ℕ
  pub pause : ℕ

-- what comes after a turn, if a match has this number of turns: a turn, or the close
abbrev pub step_after : (turns turn : ℕ) → PaceStep
step_after turns turn = if nat_lt turn turns then Turn else Close

-- What a match may do after a turn: what its pace says for this number of turns, or close, if the match was called off.
-- Contracts do not say which matches are called off, since that stands under a lock.
abbrev pub MayStep : (turns turn : ℕ) → PaceStep → Type 0
MayStep turns turn step = (step ≡ step_after turns turn) ⊎ (step ≡ Close)
