-- The search by halves solves each ring of a file, and what it costs.
use Rattle.std.proofs.Common.{ℕ, ◌+◌, ◌-◌, ◌*◌, ◌/◌, ◌≤◌, ◌≡◌, arith}
use Rattle.bhs_net.specs.Network.{nodes_of}
use Rattle.bhs_model.specs.Setups.{world_of}
use Rattle.bhs_protocols.specs.AllRings.{IsAway, ways_of}
use Rattle.bhs_protocols.specs.Halving.{rounds, most_moves}
use Rattle.bhs_protocols.specs.HalvesLaws.{HalvesSolveAllRings, TurnsAreFew}
use Rattle.bhs_protocols.proofs.HalvingLemmas.{moves_are_few, rounds_within}
use Rattle.bhs_protocols.proofs.HalvesLemmas.{halves_solve}
use Rattle.bhs_protocols.proofs.RingLemmas.{is_away}

pub halves_solve_all_rings : HalvesSolveAllRings
halves_solve_all_rings net setup hole wakeups is room enough =
    let away : IsAway net setup hole = is_away net setup hole is in
    halves_solve (world_of net setup) (nodes_of net) away.one away.other wakeups
    (ways_of net setup.home) away.search room
    enough

pub turns_are_few : TurnsAreFew
turns_are_few n three =
    let few : most_moves n ≤ 2 * (n - 2) * rounds (n - 1) + 2 = moves_are_few n three in
    let within : rounds (n / 2) ≤ rounds (n - 1) = rounds_within (n / 2) (n - 1) (omega (arith, three)) in
    let twice : 4 * (n - 2) * rounds (n - 1) ≡ 2 * (2 * (n - 2) * rounds (n - 1)) = doubles (n - 2) (rounds (n - 1)) in
    omega (arith, few, within, twice)
  where
    doubles : (a b : ℕ) → 4 * a * b ≡ 2 * (2 * a * b)
    doubles a b = grind arith
