-- What it takes for the lines of events to be read back.
use Rattle.std.specs.Prelude.{◌≡◌, ⊤, List, ◌∷◌, Option, Some}
use Rattle.bhs_model.specs.declared.events.Event.{Event}
use Rattle.bhs_model.specs.declared.replies.Reply.{Reply}
use Rattle.bhs_replay.specs.EventLine.{event_line}
use Rattle.bhs_replay.specs.Spelling.{spelled}

-- each of these lines spells its event and its reply
abbrev pub AreSpelled : List Event → List (Option Reply) → Type 0
AreSpelled (event ∷ events) (reply ∷ others) = (spelled (event_line event reply) ≡ Some (event, reply))
    × AreSpelled events others
AreSpelled events others = ⊤
