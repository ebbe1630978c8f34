-- What a search of a ring costs that divides what is left into halves, in numbers alone.
use Rattle.std.specs.Prelude.{ℕ, zero, suc, ◌+◌, ◌-◌, ◌*◌, ◌/◌, ◌≡◌, ◌≤◌, if◌then◌else◌, nat_lt}

-- two to this power
abbrev pub doubled : (times : ℕ) → ℕ
doubled zero = 1
doubled (suc times) = 2 * doubled times

-- how often `left` nodes are divided into halves until one is left: the least number of times that one is doubled to
-- come to `left` or more, if it is at most `most`
abbrev pub rounds_to : (most left : ℕ) → ℕ
rounds_to zero left = 0
rounds_to (suc k) left = if nat_lt (doubled k) left then suc k else rounds_to k left

abbrev pub rounds : (left : ℕ) → ℕ
rounds left = rounds_to left left

-- How many moves are made at most on ways from one side to the other and back, on a ring of n nodes, if this
-- number of divisions is to come. Before the last division at least two nodes are left, before the one before it three,
-- then five.
abbrev pub walks : (n rounds : ℕ) → ℕ
walks n zero = 0
walks n (suc k) = walks n k + 2 * (n - 2 - doubled k)

-- once an agent has explored its part, and knows of this many nodes that are left
abbrev pub walks_at : (n left : ℕ) → ℕ
walks_at n left = walks n (rounds left)

-- what a search costs: three moves for each node that is safe, one into the black hole, and ways
abbrev pub most_moves : (n : ℕ) → ℕ
most_moves n = 3 * (n - 2) + 1 + walks_at n (n / 2)

-- The most turns that move: for each move a departure and an arrival, for each node and each division a write and at
-- most one that fails, and each agent enters and accuses.
abbrev pub most_turns : (n : ℕ) → ℕ
most_turns n = 2 * most_moves n + 2 * (n - 2) + 2 * rounds (n / 2) + 4

-- The most commands that an agent uses, and so do both together: for each move a departure, for each node and each
-- division a write and at most one that fails, and each agent accuses. To enter costs none.
abbrev pub most_commands : (n : ℕ) → ℕ
most_commands n = most_moves n + 2 * (n - 2) + 2 * rounds (n / 2) + 2

-- A way to the other's last safe node, with `left` nodes left then, the way back, and what comes after that, are paid
-- for by what was left when the way began.
abbrev pub WaysArePaid : Type 0
WaysArePaid = (n known left : ℕ) → 2 ≤ left → left ≤ known
    → 2 * (n - 1 - left) + walks_at n (left - left / 2) ≤ walks_at n known

-- A walk to the black hole is paid as well, when it is the only unexplored node.
abbrev pub LastWaysArePaid : Type 0
LastWaysArePaid = (n known : ℕ) → 2 ≤ known → 2 * known ≤ n → n - 2 ≤ walks_at n known

-- The bound in closed form, with R the least number such that 2^R is n - 1 or more: 2 (n - 2) R + n + 1 - 2^R.
abbrev pub MovesAre : Type 0
MovesAre = (n : ℕ) → 3 ≤ n
    → most_moves n + doubled (rounds (n - 1)) ≡ 2 * (n - 2) * rounds (n - 1) + n + 1

abbrev pub MovesAreFew : Type 0
MovesAreFew = (n : ℕ) → 3 ≤ n → most_moves n ≤ 2 * (n - 2) * rounds (n - 1) + 2

-- that R is that
abbrev pub RoundsAreLeast : Type 0
RoundsAreLeast = (left times : ℕ) → left ≤ doubled times → rounds left ≤ times

abbrev pub RoundsReach : Type 0
RoundsReach = (left : ℕ) → left ≤ doubled (rounds left)
