-- What a heard command does to an agent.
use Rattle.std.proofs.Common.{◌≡◌, ℕ, ◌+◌, ◌*◌, ◌<◌, ◌≤◌, Bool, true, false, refl, arith, nat_lt, if◌then◌else◌}
use Rattle.std.proofs.lemmas.Bool.{ltb-true}
use Rattle.bhs_model.specs.declared.commands.Command.{Command}
use Rattle.bhs_model.specs.Views.{Standing, counts}
use Rattle.bhs_model.specs.Replying.{accepts}
use Rattle.bhs_model.specs.Worlds.{World, doomed}
use Rattle.bhs_model.specs.Runs.{Position, Before, At, Bound, After, position_after}
use Rattle.bhs_model.specs.Standings.{standing_at}

-- a lost agent is on the link that destroyed it, or has ended
abbrev pub IsGone : World → Position → Type 0
IsGone world (Bound node port) = doomed world node port ≡ true
IsGone world After = Unit {0}
IsGone world position = ⊥

-- The potential of an agent: the log places that its position has used, beside two places per command of its quota. On
-- a link, an agent that is not destroyed awaits one more arrival.
abbrev pub weight : Position → (is_lost : Bool) → ℕ
weight Before is_lost = 0
weight (At node came) is_lost = 1
weight (Bound node port) is_lost = if is_lost then 1 else 0
weight After is_lost = 2

-- 1 while the agent travels on a link, else 0
abbrev pub flight : Position → ℕ
flight (Bound node port) = 1
flight position = 0

-- An agent comes to a link only from a node, and an agent on a link stays on the same link.
abbrev pub IsLinked : (old new : Position) → Type 0
IsLinked (At node came) new = Unit {0}
IsLinked old (Bound node port) = old ≡ Bound node port
IsLinked old new = Unit {0}

-- what a heard command does to an agent
pub record Moves (world : World) (is_lost : Bool) (old new : Position) (before after : ℕ) : Type 0 where
  pub weight : weight old is_lost + 2 * before + 1 ≤ weight new is_lost + 2 * after
  pub flight : flight new + before ≤ after + flight old
  pub gone : IsGone world old → IsGone world new
  pub linked : IsLinked old new

pub moves : (world : World) (is_lost room : Bool) (position : Position) (command : Command) (before : ℕ)
    → accepts (standing_at position) room command ≡ true →
    Moves world is_lost position (position_after world position command) before
    (if counts command then before + 1 else before)
moves world is_lost room position command before h0 = grind arith

-- A command that costs quota is heard only while quota is left.
room_left : (standing : Standing) (room : Bool) (command : Command) → accepts standing room command ≡ true
    → counts command ≡ true → room ≡ true
room_left standing room command h0 h1 = grind arith

pub within_quota : (quota before : ℕ) (standing : Standing) (command : Command) → accepts standing (nat_lt before quota)
    command ≡ true → before ≤ quota →
    (if counts command then before + 1 else before) ≤ quota
within_quota quota before standing command heard few =
    by_count (counts command) (λ counted. ltb-true before quota
    (room_left standing (nat_lt before quota) command heard counted))
  where
    by_count : (b : Bool) → (b ≡ true → before < quota) → (if b then before + 1 else before) ≤ quota
    by_count true less = let lt : before < quota = less refl in omega arith
    by_count false less = few
