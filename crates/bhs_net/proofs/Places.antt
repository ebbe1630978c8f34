use Rattle.std.proofs.Common.{◌≡◌, ℕ, ◌+◌, ◌<◌, ◌≤◌, ◌⊎◌, arith}

-- Case analysis: a place below the successor is smaller or equal.
pub below_or_at : (early seen : ℕ) → early < seen + 1 → (early < seen) ⊎ (early ≡ seen)
below_or_at early seen h = grind arith

pub lt_or_ge : (a b : ℕ) → (a < b) ⊎ (b ≤ a)
lt_or_ge a b = grind arith

pub lt_eq_gt : (a b : ℕ) → (a < b) ⊎ ((a ≡ b) ⊎ (b < a))
lt_eq_gt a b = grind arith
