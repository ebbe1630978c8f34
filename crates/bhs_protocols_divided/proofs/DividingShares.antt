-- Arithmetic of a division: the agents' shares of a stage, and the rounds that remain.
use Rattle.std.proofs.Common.{ℕ, ◌+◌, ◌-◌, ◌*◌, ◌<◌, ◌≤◌, ◌≡◌}
use Rattle.std.proofs.Common.{ap, inl, inr, arith}
use Rattle.std.proofs.lemmas.Bool.Decides.{eqb_tells}
use Rattle.bhs_protocols.specs.Halving.{rounds}
use Rattle.bhs_protocols_divided.specs.Dividing.{Phase, Begins, GoesOut, Leaves, Tries, Turns, Returns, Writes}
use Rattle.bhs_protocols_divided.specs.Dividing.{Follows}
use Rattle.bhs_protocols_divided.specs.Dividing.{Passes, Tells, Ends}
use Rattle.bhs_protocols_divided.proofs.DividingDues.{spent, share}
use Rattle.bhs_protocols_divided.proofs.DividingState.{around}
use Rattle.bhs_protocols_divided.proofs.DividingFacts.{share_other, share_own}

pub spent_few : (phase : Phase) → spent phase ≤ 2
spent_few Begins = omega arith
spent_few GoesOut = omega arith
spent_few Leaves = omega arith
spent_few Tries = omega arith
spent_few Turns = omega arith
spent_few Returns = omega arith
spent_few Writes = omega arith
spent_few Follows = omega arith
spent_few Passes = omega arith
spent_few Tells = omega arith
spent_few Ends = omega arith

times_more : (a b c : ℕ) → a * (b + c) ≡ a * b + a * c
times_more a b c = grind arith

times_one : (a : ℕ) → a * 1 ≡ a
times_one a = grind arith

-- one round more is paid
pub round_paid : (a r most coming : ℕ) → r + 1 ≤ most → a * most ≤ coming → a * r + a ≤ coming
round_paid a r most coming less paid =
    let rest : ℕ = most - (r + 1) in
    let is : a * (r + 1 + rest) ≡ a * (r + 1) + a * rest = times_more a (r + 1) rest in
    let one : a * (r + 1) ≡ a * r + a * 1 = times_more a r 1 in
    let unit : a * 1 ≡ a = times_one a in
    let same : a * (r + 1 + rest) ≡ a * most = ap (λ (k : ℕ). a * k) (omega (arith, less)) in
    omega (arith, is, one, unit, same, paid)

-- both agents together owe three ways around
pub both_shares : (all side lost : ℕ) → side < 2 → lost < 2 → share all side lost + share all (1 - side) lost ≡ 3 * all
both_shares all side lost below below_too = elim (eqb_tells lost side) [
  | inl h ↦
      let mine : share all side lost ≡ all = share_own all side lost h.1 in
      let theirs : share all (1 - side) lost ≡ 2 * all =
      share_other all (1 - side) lost (λ e. omega (arith, e, h.1, below)) in
      omega (arith, mine, theirs)
  | inr h ↦
      let mine : share all side lost ≡ 2 * all = share_other all side lost h.1 in
      let theirs : share all (1 - side) lost ≡ all =
      share_own all (1 - side) lost (omega (arith, h.1, below, below_too)) in
      omega (arith, mine, theirs)
]
