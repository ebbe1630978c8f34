-- The passes that nobody claimed.
use Rattle.std.specs.Prelude.{ℕ, ◌≡◌, Option, Some, List, [], slice_get}
use Rattle.bhs_shared_match.specs.Passes.{Passed}

-- a pass of this agent, without receipts and arrivals
pub record IsFresh (agent : ℕ) (pass : Passed) : Type 0 where
  pub its_agent : pass.agent ≡ agent
  pub receipts : pass.receipts ≡ []
  pub arrivals : pass.arrivals ≡ []

-- each pass that is left is its agent's
abbrev pub AreFresh : List (Option Passed) → Type 0
AreFresh left = (agent : ℕ) (pass : Passed) → slice_get left agent ≡ Some (Some pass) → IsFresh agent pass
