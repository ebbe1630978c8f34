-- The shuttle makes all the moves that its bound allows.
use Rattle.std.proofs.Common.{ℕ, ◌+◌, ◌-◌, ◌*◌, ◌≤◌, ◌≡◌, refl, subst, arith}
use Rattle.bhs_protocols.specs.Shuttle.{moves_on}
use Rattle.bhs_protocols.specs.Laws.{shuttle_trial}
use Rattle.bhs_protocols.specs.Attained.{IsAttained, ShuttleAttains, ShuttleAttainsSquares}
use Rattle.bhs_protocols.proofs.ExplorerWorst.{attains}
use Rattle.bhs_protocols.proofs.ShuttleLemmas.{shuttle_game}
use Rattle.bhs_protocols.proofs.StandardLemmas.{moves_are_squares}
use Rattle.bhs_protocols.proofs.RingLemmas.{square}

pub shuttle_attains : ShuttleAttains
shuttle_attains world n right left wakeups ways search room enough enough_too =
    attains (shuttle_game world n right left wakeups ways search room enough enough_too)

pub shuttle_attains_squares : ShuttleAttainsSquares
shuttle_attains_squares world n wakeups ways search room enough =
    let three : 3 ≤ n = search.ring.three in
    let first : moves_on 1 ≡ 1 = refl in
    let squares : moves_on (n - 1) ≡ (n - 1) * (n - 1) = moves_are_squares (n - 1) (omega (arith, three)) in
    let last : (n - 2) * (n - 1) + (n - 1) ≡ (n - 1) * (n - 1) = square n (omega (arith, three)) in
    let all : moves_on 1 + moves_on (n - 1) - 1 ≡ (n - 1) * (n - 1) = omega (arith, first, squares) in
    subst (λ (k : ℕ). IsAttained (shuttle_trial world wakeups n) k) all
    (shuttle_attains world n 1 (n - 1) wakeups ways search room (omega (arith, first, enough))
    (omega (arith, squares, last, enough, three)))
