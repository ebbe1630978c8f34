-- Loop invariant: counting the waiting clients in order.
use Rattle.std.proofs.Common.{arith, ℕ, zero, suc, ◌≡◌, ◌≤◌, Some, List, [], ◌∷◌, length}
use Rattle.std.proofs.Common.{refl, ap}
use Rattle.bhs_server.specs.declared.queue.Known.{Known}
use Rattle.bhs_server.specs.Waiting.{cut_at}

-- nobody stands at a place behind all
pub cut_behind : (clients : List Known) (place : ℕ) → length clients ≤ place → clients ≡ cut_at clients (Some place)
cut_behind [] place past = refl
cut_behind (client ∷ clients) zero past = absurd (omega (arith, past))
cut_behind (client ∷ clients) (suc place) past =
    ap (λ (others : List Known). client ∷ others) (cut_behind clients place (omega (arith, past)))
