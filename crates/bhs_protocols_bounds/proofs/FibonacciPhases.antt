-- What phases with two places cost, if the new nodes are one more than one of the numbers 1, 2, 3, 5, 8, .. each time.
use Rattle.std.proofs.Common.{ℕ, zero, suc, ◌+◌, ◌-◌, ◌*◌, ◌<◌, ◌≤◌, ◌≡◌, ◌⊎◌, subst, inl, inr, arith}
use Rattle.std.proofs.Math.Nat.{suc-mul}
use Rattle.bhs_model.specs.Worlds.{World}
use Rattle.bhs_model.specs.Draws.{Held}
use Rattle.bhs_schedules.specs.Strategies.{Strategies}
use Rattle.bhs_protocols_bounds.specs.Bound.{fibonacci}
use Rattle.bhs_protocols_bounds.proofs.Stages.{IsStage, PhasesCost}

fibonacci_some : (k : ℕ) → 1 ≤ fibonacci k
fibonacci_some zero = omega arith
fibonacci_some (suc zero) = omega arith
fibonacci_some (suc (suc k)) = let it : 1 ≤ fibonacci (suc k) = fibonacci_some (suc k) in omega (arith, it)

fibonacci_grows : (k : ℕ) → fibonacci k < fibonacci (suc k)
fibonacci_grows zero = omega arith
fibonacci_grows (suc k) = let it : 1 ≤ fibonacci k = fibonacci_some k in omega (arith, it)

pub two_or_more : (k : ℕ) → 2 ≤ fibonacci k + 1
two_or_more k = let it : 1 ≤ fibonacci k = fibonacci_some k in omega (arith, it)

module _ (world : World) (held : Held) (wakeups : ℕ) (strategies : Strategies) where
  -- of x + y - 1 new nodes either y or x are left
  abbrev pub TwoPlacesCost : ℕ → Type 0
  TwoPlacesCost n = (x y moves : ℕ) → 2 ≤ x → x < y
      → IsStage world held wakeups strategies n (x + y - 1) moves →
      IsStage world held wakeups strategies n y (moves + n + 1 - y)
      ⊎ IsStage world held wakeups strategies n x (moves + 2 * n + 1 - y)

  weaker : (n new least less : ℕ) → less ≤ least → IsStage world held wakeups strategies n new least
      → IsStage world held wakeups strategies n new less
  weaker n new least less fewer stage =
      let had : least ≤ stage.configuration.moves = stage.moves in
      record {
        configuration = stage.configuration;
        line = stage.line;
        front = stage.front;
        agent = stage.agent;
        line_is = stage.line_is;
        spread = stage.spread;
        left = stage.left;
        moves = omega (arith, had, fewer);
      }

  pub fibonacci_phases : (n k moves : ℕ) → PhasesCost world held wakeups strategies n → TwoPlacesCost n
      → IsStage world held wakeups strategies n (fibonacci k + 1) moves
      → IsStage world held wakeups strategies n 2 (moves + k * n + 2 - fibonacci (suc k))
  fibonacci_phases n zero moves halves places stage =
      weaker n 2 moves (moves + zero * n + 2 - fibonacci (suc zero)) (omega arith) stage
  fibonacci_phases n (suc zero) moves halves places stage =
      let product : suc zero * n ≡ zero * n + n = suc-mul zero n in
      weaker n 2 (moves + n + 2 - 3) (moves + suc zero * n + 2 - fibonacci (suc (suc zero))) (omega (arith, product))
      (halves 2 moves (omega arith) stage)
  fibonacci_phases n (suc (suc k)) moves halves places stage =
      let x : ℕ = fibonacci k + 1 in
      let y : ℕ = fibonacci (suc k) + 1 in
      let some : 1 ≤ fibonacci k = fibonacci_some k in
      let grows : fibonacci k < fibonacci (suc k) = fibonacci_grows k in
      let sum : fibonacci (suc (suc k)) + 1 ≡ x + y - 1 = omega arith in
      let left : stage.front + (fibonacci (suc (suc k)) + 1) ≡ n = stage.left in
      let one : suc k * n ≡ k * n + n = suc-mul k n in
      let two : suc (suc k) * n ≡ suc k * n + n = suc-mul (suc k) n in
      let goal : ℕ = moves + suc (suc k) * n + 2 - fibonacci (suc (suc (suc k))) in
      elim (places x y moves (omega (arith, some)) (omega (arith, grows))
      (subst (λ (u : ℕ). IsStage world held wakeups strategies n u moves) sum stage)) [
        | inl h ↦ weaker n 2 (moves + n + 1 - y + suc k * n + 2 - fibonacci (suc (suc k))) goal
            (omega (arith, left, one, two)) (fibonacci_phases n (suc k) (moves + n + 1 - y) halves places h)
        | inr h ↦ weaker n 2 (moves + 2 * n + 1 - y + k * n + 2 - fibonacci (suc k)) goal
            (omega (arith, left, one, two)) (fibonacci_phases n k (moves + 2 * n + 1 - y) halves places h)
      ]
