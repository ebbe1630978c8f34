-- Bounds on delays.
use Rattle.std.proofs.Common.{arith, ℕ, ◌≡◌, ◌<◌, ◌≤◌, ◌+◌, ◌*◌, ◌%◌, ◌^◌}
use Rattle.std.proofs.Math.Pow.{pow_mono}
use Rattle.std.proofs.lemmas.Nat.{pow_pos}

-- at least this many turns, and less than twice as many
below_by : (least word : ℕ) → 0 < least → least ≤ 8388608 →
    1 * least % 4294967296 + word % (1 * least % 4294967296) < 16777216
below_by least word some few =
    let same : 1 * least % 4294967296 ≡ least = omega arith in
    let below : word % least < least = omega arith in
    rw same (omega arith)

pub below_twice : (scale word : ℕ) → scale < 24 →
    1 * 2 ^ scale % 4294967296 + word % (1 * 2 ^ scale % 4294967296) < 16777216
below_twice scale word small =
    below_by (2 ^ scale) word (pow_pos scale) (let few : scale ≤ 23 = omega arith in pow_mono few)
