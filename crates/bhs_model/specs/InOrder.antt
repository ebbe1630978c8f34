-- What the events of a list are answered, in order.
use Rattle.std.specs.Prelude.{ℕ, Bool, false, Option, List, [], ◌∷◌, ◌++◌, if◌then◌else◌, ◌==◌, option_to_list}
use Rattle.bhs_model.specs.declared.events.Event.{Event}
use Rattle.bhs_model.specs.declared.events.Event.TheVariants.{Tell, Deliver, Close}
use Rattle.bhs_model.specs.declared.replies.Reply.{Reply}
use Rattle.bhs_model.specs.Worlds.{World}
use Rattle.bhs_model.specs.Runs.{State, initial, next, reply}

-- the replies to these events
abbrev pub replies_from : World → State → List Event → List (Option Reply)
replies_from world state [] = []
replies_from world state (event ∷ events) =
    reply world state event ∷ replies_from world (next world state event) events

abbrev pub replies : World → List Event → List (Option Reply)
replies world events = replies_from world initial events

-- whether the event belongs to this agent
abbrev pub is_of : (agent : ℕ) → Event → Bool
is_of agent (Tell other command) = agent == other
is_of agent (Deliver other) = agent == other
is_of agent Close = false

-- what an agent was answered
abbrev pub replies_to_from : World → State → (agent : ℕ) → List Event → List Reply
replies_to_from world state agent [] = []
replies_to_from world state agent (event ∷ events) =
    (if is_of agent event then option_to_list (reply world state event) else [])
    ++ replies_to_from world (next world state event) agent events

abbrev pub replies_to : World → (agent : ℕ) → List Event → List Reply
replies_to world agent events = replies_to_from world initial agent events
