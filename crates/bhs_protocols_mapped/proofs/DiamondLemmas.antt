-- The square with one link across has a tour.
use Rattle.std.proofs.Common.{ℕ, zero, suc, ◌<◌, ◌≡◌, ◌+◌, refl, arith}
use Rattle.bhs_protocols_mapped.specs.Diamond.{diamond, diamond_tour, TheDiamondHasATour}

within : (step : ℕ) → step < 4 → diamond_tour.node step < 4
within zero below = omega arith
within (suc zero) below = omega arith
within (suc (suc zero)) below = omega arith
within (suc (suc (suc zero))) below = omega arith
within (suc (suc (suc (suc step)))) below = absurd (omega (arith, below))

ahead : (step : ℕ) → step < 4
    → diamond_tour.ahead (diamond_tour.node step) < diamond.net.degree (diamond_tour.node step)
ahead zero below = omega arith
ahead (suc zero) below = omega arith
ahead (suc (suc zero)) below = omega arith
ahead (suc (suc (suc zero))) below = omega arith
ahead (suc (suc (suc (suc step)))) below = absurd (omega (arith, below))

behind : (step : ℕ) → step < 4
    → diamond_tour.behind (diamond_tour.node (step + 1)) < diamond.net.degree (diamond_tour.node (step + 1))
behind zero below = omega arith
behind (suc zero) below = omega arith
behind (suc (suc zero)) below = omega arith
behind (suc (suc (suc zero))) below = omega arith
behind (suc (suc (suc (suc step)))) below = absurd (omega (arith, below))

on : (step : ℕ) → step < 4 → (diamond.net.far (diamond_tour.node step) (diamond_tour.ahead (diamond_tour.node step))).0
    ≡ diamond_tour.node (step + 1)
on zero below = refl
on (suc zero) below = refl
on (suc (suc zero)) below = refl
on (suc (suc (suc zero))) below = refl
on (suc (suc (suc (suc step)))) below = absurd (omega (arith, below))

back : (step : ℕ) → step < 4
    → (diamond.net.far (diamond_tour.node (step + 1)) (diamond_tour.behind (diamond_tour.node (step + 1)))).0
    ≡ diamond_tour.node step
back zero below = refl
back (suc zero) below = refl
back (suc (suc zero)) below = refl
back (suc (suc (suc zero))) below = refl
back (suc (suc (suc (suc step)))) below = absurd (omega (arith, below))

apart : (one other : ℕ) → one < 4 → other < 4 → diamond_tour.node one ≡ diamond_tour.node other → one ≡ other
apart zero zero below below_too same = refl
apart zero (suc zero) below below_too same = absurd (omega (arith, same))
apart zero (suc (suc zero)) below below_too same = absurd (omega (arith, same))
apart zero (suc (suc (suc zero))) below below_too same = absurd (omega (arith, same))
apart zero (suc (suc (suc (suc other)))) below below_too same = absurd (omega (arith, below_too))
apart (suc zero) zero below below_too same = absurd (omega (arith, same))
apart (suc zero) (suc zero) below below_too same = refl
apart (suc zero) (suc (suc zero)) below below_too same = absurd (omega (arith, same))
apart (suc zero) (suc (suc (suc zero))) below below_too same = absurd (omega (arith, same))
apart (suc zero) (suc (suc (suc (suc other)))) below below_too same = absurd (omega (arith, below_too))
apart (suc (suc zero)) zero below below_too same = absurd (omega (arith, same))
apart (suc (suc zero)) (suc zero) below below_too same = absurd (omega (arith, same))
apart (suc (suc zero)) (suc (suc zero)) below below_too same = refl
apart (suc (suc zero)) (suc (suc (suc zero))) below below_too same = absurd (omega (arith, same))
apart (suc (suc zero)) (suc (suc (suc (suc other)))) below below_too same = absurd (omega (arith, below_too))
apart (suc (suc (suc zero))) zero below below_too same = absurd (omega (arith, same))
apart (suc (suc (suc zero))) (suc zero) below below_too same = absurd (omega (arith, same))
apart (suc (suc (suc zero))) (suc (suc zero)) below below_too same = absurd (omega (arith, same))
apart (suc (suc (suc zero))) (suc (suc (suc zero))) below below_too same = refl
apart (suc (suc (suc zero))) (suc (suc (suc (suc other)))) below below_too same = absurd (omega (arith, below_too))
apart (suc (suc (suc (suc one)))) other below below_too same = absurd (omega (arith, below))

all : (node : ℕ) → node < 4 → (step : ℕ) × (step < 4) × (diamond_tour.node step ≡ node)
all zero below = (0, omega arith, refl)
all (suc zero) below = (1, omega arith, refl)
all (suc (suc zero)) below = (3, omega arith, refl)
all (suc (suc (suc zero))) below = (2, omega arith, refl)
all (suc (suc (suc (suc node)))) below = absurd (omega (arith, below))

pub the_diamond_has_a_tour : TheDiamondHasATour
the_diamond_has_a_tour = record {
  three = omega arith;
  size = refl;
  start = refl;
  round = refl;
  within = within;
  apart = apart;
  all = all;
  ahead = ahead;
  behind = behind;
  on = on;
  back = back;
}
