-- By match and agent the number of the connection that plays the agent. Only contracts of private functions cite it.
use Rattle.std.specs.Prelude.{ℕ, ◌≡◌, Bool, ◌&&◌, ◌==◌, Option, None, List, [], slice_index_or}
use Rattle.std.specs.List.{position}
use Rattle.bhs_rehearsal.specs.Connections.{Connection}
use Rattle.bhs_rehearsal.specs.Stages.{has_seat}

-- whether two seats are one
abbrev pub same_seat : (seat other : ℕ × ℕ) → Bool
same_seat seat other = (seat.0 == other.0) && (seat.1 == other.1)

-- who plays this agent of this match
abbrev pub held_at : List (List (Option ℕ)) → (seat : ℕ × ℕ) → Option ℕ
held_at rows seat = slice_index_or (slice_index_or rows seat.0 []) seat.1 None

-- for each seat stands in the rows the first connection that has it
pub record AreHeld (rows : List (List (Option ℕ))) (connections : List Connection) : Type 0 where
  pub each : (seat : ℕ × ℕ) → held_at rows seat ≡ position (has_seat seat) connections
