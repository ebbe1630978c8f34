-- Up to which size a file can set the quota that the theorems ask for.
use Rattle.std.specs.Prelude.{ℕ, ◌+◌, ◌-◌, ◌*◌, ◌≤◌, ◌<◌}
use Rattle.bhs_protocols.specs.Halving.{most_commands}

-- the largest quota of a file
abbrev pub largest_quota : ℕ
largest_quota = 65535

-- The quota that the search by halves needs on n nodes, on a ring or along a tour: a file can give it up to 2,579
-- nodes, and from 2,580 nodes on no file can.
abbrev pub HalvesHaveTheirQuota : Type 0
HalvesHaveTheirQuota = (n : ℕ)
    → (n ≤ 2579 → most_commands n ≤ largest_quota) × (2580 ≤ n → largest_quota < most_commands n)

-- The quota that the shuttle, and each search by a guide, needs: a file can give it up to 256 nodes.
abbrev pub ShuttlesHaveTheirQuota : Type 0
ShuttlesHaveTheirQuota = (n : ℕ)
    → (n ≤ 256 → (n - 2) * (n - 1) + 2 * n ≤ largest_quota)
    × (257 ≤ n → largest_quota < (n - 2) * (n - 1) + 2 * n)
