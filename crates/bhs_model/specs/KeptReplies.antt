-- The replies to all events that are kept.
use Rattle.std.specs.Prelude.{ℕ, Bool, Option, List, [], ◌∷◌, if◌then◌else◌}
use Rattle.bhs_model.specs.declared.events.Event.{Event}
use Rattle.bhs_model.specs.declared.replies.Reply.{Reply}
use Rattle.bhs_model.specs.Worlds.{World}
use Rattle.bhs_model.specs.Runs.{State, initial, next, reply}
use Rattle.bhs_model.specs.Kept.{keeps, lost_after, nobody}

-- prepends the reply to the other replies if its event is kept
abbrev pub reply_first : Bool → Option Reply → List (Option Reply) → List (Option Reply)
reply_first is_kept reply replies = if is_kept then reply ∷ replies else replies

abbrev pub kept_replies_from : World → State → (ℕ → Bool) → List Event → List (Option Reply)
kept_replies_from world state lost [] = []
kept_replies_from world state lost (event ∷ events) =
    reply_first (keeps world state lost event) (reply world state event)
    (kept_replies_from world (next world state event) (lost_after world state lost event) events)

-- the replies to the kept events, each computed when the event happened
abbrev pub kept_replies : World → List Event → List (Option Reply)
kept_replies world events = kept_replies_from world initial nobody events
