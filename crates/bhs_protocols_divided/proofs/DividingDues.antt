-- The potential of the search: how many nodes an agent has explored, and the moves and writes that it may still make.
use Rattle.std.proofs.Common.{ℕ, zero, suc, ◌+◌, ◌*◌, ◌==◌, Bool, true, false, Option, if◌then◌else◌}
use Rattle.bhs_model.specs.Runs.{Position}
use Rattle.bhs_protocols_divided.specs.Plans.{Plan, news, explored}
use Rattle.bhs_protocols_divided.specs.Dividing.{Memory, Phase, Begins, GoesOut, Leaves, Tries, Turns, Returns, Writes}
use Rattle.bhs_protocols_divided.specs.Dividing.{Follows}
use Rattle.bhs_protocols_divided.specs.Dividing.{Passes, Tells, Ends, own_of}

-- the memory of an agent, its position, and its accusation
pub record Seat : Type 0 where
  pub memory : Memory
  pub position : Position
  pub accused : Option (ℕ × ℕ)

-- whether an agent explores its part
abbrev pub is_out : Phase → Bool
is_out Begins = true
is_out GoesOut = true
is_out Leaves = true
is_out Tries = true
is_out Turns = true
is_out Returns = true
is_out Writes = true
is_out Follows = false
is_out Passes = false
is_out Tells = false
is_out Ends = false

-- how many steps of its own itinerary it has taken
abbrev pub taken_by : Plan → Memory → Phase → ℕ
taken_by plan m phase = if is_out phase then m.step else (own_of plan m).steps

-- how many nodes it has explored
abbrev pub done_by : Plan → Memory → Phase → ℕ
done_by plan m phase = explored plan m.divisions m.side + news (own_of plan m) (taken_by plan m phase)

abbrev pub done : Plan → Memory → ℕ
done plan m = done_by plan m m.phase

-- moves made since it was last at a node of an itinerary, to cross to a new node and back, and to go on
abbrev pub spent : Phase → ℕ
spent Tries = 1
spent Turns = 1
spent Returns = 2
spent Writes = 2
spent phase = 0

-- turns before its next move, and its accusation
abbrev pub paces : Phase → ℕ
paces Begins = 2
paces Leaves = 2
paces Tries = 2
paces Returns = 2
paces Passes = 2
paces Ends = 0
paces phase = 1

abbrev pub tasks : Phase → ℕ
tasks Ends = 0
tasks phase = 1

-- a write that will fail
abbrev pub miss : Bool → ℕ
miss true = 0
miss false = 1

-- One agent's share of the potential: its walks, its moves to new nodes and back, and its marks. `count` unread
-- divisions were written at step `at` of its itinerary; without unread divisions `at` is its own step.
pub record Purse : Type 0 where
  pub ways : ℕ
  pub trips : ℕ
  pub marks : ℕ
  pub count : ℕ
  pub at : ℕ

-- How many walks an agent makes in one stage: once around its part, and once along its partner's itinerary unless the
-- black hole is in its own part.
abbrev pub share : (around side lost : ℕ) → ℕ
share around side lost = if lost == side then around else 2 * around

-- the step at which an agent of the stage that it knows reads an unread division
abbrev pub reach : (count at : ℕ) → ℕ
reach zero at = 0
reach (suc count) at = at
