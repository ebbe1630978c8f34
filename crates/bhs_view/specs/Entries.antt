-- What a log says, apart from the places that its marks name.
use Rattle.std.specs.Prelude.{Bool, true, false, not, Option, None, List, [], ◌∷◌, ◌++◌, map, filter}
use Rattle.bhs_model.specs.declared.events.Event.{Event}
use Rattle.bhs_model.specs.declared.events.Event.TheVariants.{Close}
use Rattle.bhs_model.specs.declared.replies.Reply.{Reply}
use Rattle.bhs_model.specs.declared.marks.Kept.{Kept}
use Rattle.bhs_model.specs.Marks.{read_if}

-- an event with its optional reply
abbrev pub LogEntry : Type 0
LogEntry = Event × Option Reply

-- the entries of a log
abbrev pub entries : List Kept → List LogEntry
entries log = map (λ one. (one.event, read_if log one.mark)) log

abbrev pub closes : Event → Bool
closes Close = true
closes event = false

-- moves the Close to the end
abbrev pub closed_once : List LogEntry → List LogEntry
closed_once chosen = filter (λ entry. not (closes entry.0)) chosen ++ (Close, None) ∷ []
