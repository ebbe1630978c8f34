-- An agent's own steps in a log: its heard commands and its arrivals, oldest first. This carries proofs; a reader of
-- contracts needs none of it.
use Rattle.std.specs.Prelude.{ℕ, ◌+◌, ◌≤◌, ◌≡◌, true, Some, List, [], ◌∷◌}
use Rattle.bhs_model.specs.declared.commands.Command.{Command}
use Rattle.bhs_model.specs.declared.commands.Command.TheVariants.{Leave}
use Rattle.bhs_model.specs.declared.replies.Reply.{Reply}
use Rattle.bhs_model.specs.Views.{View, Told, Arrived, Glance, Nothing, Sight, Away, standing, ports}
use Rattle.bhs_model.specs.Replying.{answer, here, hears}
use Rattle.bhs_shared_match.specs.declared.model.Receipt.{Receipt}
use Rattle.bhs_shared_match.specs.Passes.{kept_command}
use Rattle.bhs_shared_match.specs.Comparing.{HeardEntry}

pub data ContestStep : Type 0 where
  Spoke : (place : ℕ) → Command → Glance → Reply → ContestStep
  Arrives : (place : ℕ) → Sight → Reply → ContestStep

-- the heard commands, as they are compared with receipts
abbrev pub heard_of : List ContestStep → List HeardEntry
heard_of [] = []
heard_of (Spoke place command glance reply ∷ steps) =
    record { place = place; command = kept_command command reply; reply = Some reply } ∷ heard_of steps
heard_of (Arrives place sight reply ∷ steps) = heard_of steps

abbrev pub arrivals_of : List ContestStep → List Receipt
arrivals_of [] = []
arrivals_of (Spoke place command glance reply ∷ steps) = arrivals_of steps
arrivals_of (Arrives place sight reply ∷ steps) = record { place = place; reply = reply } ∷ arrivals_of steps

-- the past that they make
abbrev pub view_along : View → List ContestStep → View
view_along view [] = view
view_along view (Spoke place command glance reply ∷ steps) = view_along (Told view command glance) steps
view_along view (Arrives place sight reply ∷ steps) = view_along (Arrived view sight) steps

-- The places of these steps ascend, starting from this one.
abbrev pub StandInOrder : (least : ℕ) → List ContestStep → Type 0
StandInOrder least [] = Unit {0}
StandInOrder least (Spoke place command glance reply ∷ steps) = (least ≤ place) × StandInOrder (place + 1) steps
StandInOrder least (Arrives place sight reply ∷ steps) = (least ≤ place) × StandInOrder (place + 1) steps

-- Each step belongs to an agent with this past, and has the reply that the definitions give.
abbrev pub AreSteps : (quota limit : ℕ) → View → List ContestStep → Type 0
AreSteps quota limit view [] = Unit {0}
AreSteps quota limit view (Spoke place command glance reply ∷ steps) =
    (hears quota view command ≡ true) × (reply ≡ answer limit (standing view) (ports view) command glance)
    × (command ≡ Leave → glance ≡ Nothing) × AreSteps quota limit (Told view command glance) steps
AreSteps quota limit view (Arrives place sight reply ∷ steps) =
    (standing view ≡ Away) × (reply ≡ here limit sight) × AreSteps quota limit (Arrived view sight) steps
