-- Numbers below a power of two.
use Rattle.std.proofs.Common.{◌≡◌, ℕ, ◌+◌, ◌-◌, ◌*◌, ◌^◌, ◌<◌, ◌≤◌, arith, ap, ◌∙◌}
use Rattle.std.proofs.Math.Pow.{pow_mono}
use Rattle.std.proofs.lemmas.Nat.{pow-add}

-- seven bits in front of a number
pub below-more : (bits n b : ℕ) → 7 < bits → n < 2 ^ (bits - 7) → b < 128 → n * 128 + b < 2 ^ bits
below-more bits n b some below few =
    let whole : bits ≡ (bits - 7) + 7 = omega arith in
    let same : 2 ^ bits ≡ 2 ^ (bits - 7) * 128 = ap (λ k. 2 ^ k) whole ∙ pow-add 2 (bits - 7) 7 in
    omega arith

-- The extended number fits as well.
pub fits-more : (bits n b : ℕ) → bits ≤ 32 → 7 < bits → n < 2 ^ (bits - 7) → b < 128 → n * 128 + b < 2 ^ 32
fits-more bits n b most some below few =
    let wide : 2 ^ bits ≤ 2 ^ 32 = pow_mono most in
    let more : n * 128 + b < 2 ^ bits = below-more bits n b some below few in
    omega arith
