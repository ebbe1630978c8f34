-- An agent's arrivals in order.
use Rattle.std.specs.Prelude.{ℕ, ◌≡◌, Bool, true, false, Option, Some, None, List, [], ◌∷◌, ◌++◌, length, slice_get}
use Rattle.std.specs.Prelude.{option_and_then, option_map}
use Rattle.bhs_model.specs.declared.events.Event.{Event}
use Rattle.bhs_model.specs.declared.events.Event.TheVariants.{Deliver}
use Rattle.bhs_model.specs.declared.marks.Mark.{Mark}
use Rattle.bhs_model.specs.declared.marks.Kept.{Kept}
use Rattle.bhs_model.specs.declared.replies.Reply.{Reply}
use Rattle.bhs_model.specs.declared.replies.Reply.TheVariants.{Here}
use Rattle.bhs_model.specs.Marks.{read}
use Rattle.bhs_match.specs.Matches.{Play, arrivals}
use Rattle.bhs_shared_match.specs.declared.model.Receipt.{Receipt}
use Rattle.bhs_shared_match.specs.Passes.{Passed}

-- the mark of an arrival
abbrev pub arrival_mark : Event → Option Mark → Option Mark
arrival_mark (Deliver agent) mark = mark
arrival_mark event mark = None

-- the mark of the arrival at a place of a log
abbrev pub arrival_at : List Kept → (place : ℕ) → Option Mark
arrival_at log place = option_and_then (λ one. arrival_mark one.event one.mark) (slice_get log place)

-- an arrival: its place in the log, and what the agent was answered
abbrev pub receipt_at : List Kept → (place : ℕ) → Option Receipt
receipt_at log place = option_map (λ mark. record { place = place; reply = read log mark }) (arrival_at log place)

-- the arrival of this index of an agent
abbrev pub arrival_of : Play → (agent index : ℕ) → Option Receipt
arrival_of play agent index = option_and_then (receipt_at play.log) (slice_get (arrivals agent play.log) index)

-- whether a reply says where the agent is
abbrev pub is_here : Reply → Bool
is_here (Here ports came board) = true
is_here reply = false

-- what is made of a pass whose agent has this next arrival, or none
abbrev pub IsGivenIf : Option Receipt → Passed → Option Reply → Passed → Type 0
IsGivenIf None pass said pass' = (said ≡ None) × (pass' ≡ pass)
IsGivenIf (Some receipt) pass said pass' = (said ≡ Some receipt.reply)
    × (pass' ≡ record pass { arrivals = pass.arrivals ++ receipt ∷ [] })

-- the pass gains the next arrival that it has not, with its reply; if there is none, nothing changes
abbrev pub IsGiven : Play → Passed → Option Reply → Passed → Type 0
IsGiven play pass said pass' = IsGivenIf (arrival_of play pass.agent (length pass.arrivals)) pass said pass'
