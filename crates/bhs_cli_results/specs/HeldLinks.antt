-- Which delivery of a log went over a held link.
use Rattle.std.specs.Prelude.{ℕ, ◌+◌, Bool, false, Option, Some, None, List, ◌∷◌, if◌then◌else◌, replicate}
use Rattle.std.specs.Prelude.{slice_get, slice_set}
use Rattle.bhs_model.specs.declared.commands.Command.TheVariants.{Depart}
use Rattle.bhs_model.specs.declared.events.Event.{Event}
use Rattle.bhs_model.specs.declared.events.Event.TheVariants.{Tell, Deliver}
use Rattle.bhs_model.specs.declared.marks.Kept.{Kept}
use Rattle.bhs_model.specs.Marks.{events_of}
use Rattle.bhs_model.specs.Sites.{sites}
use Rattle.bhs_match.specs.Matches.{Play, world_in}
use Rattle.bhs_deliveries.specs.Links.{held_in}

-- The links by which agents last departed, by agent, after an event that was said at this site. A link is a node and
-- the port by which the agent left it.
abbrev pub links_after : List (Option (ℕ × ℕ)) → Event → (site : Option ℕ) → List (Option (ℕ × ℕ))
links_after links (Tell agent (Depart port)) (Some node) = slice_set links agent (Some (node, port))
links_after links event site = links

-- whether an optional link is held
abbrev pub is_held : (held : List (ℕ × ℕ)) → Option (Option (ℕ × ℕ)) → Bool
is_held held (Some (Some link)) = held_in held link.0 link.1
is_held held link = false

-- whether an event is a Deliver over a held link, by these links of departures
abbrev pub goes_over_held : (held : List (ℕ × ℕ)) → List (Option (ℕ × ℕ)) → Event → Bool
goes_over_held held links (Deliver agent) = is_held held (slice_get links agent)
goes_over_held held links event = false

-- the first place of a Deliver over a held link, where the first event has this place
abbrev pub held_from : (held : List (ℕ × ℕ)) → List (Option (ℕ × ℕ)) → (place : ℕ) → List Kept → List (Option ℕ)
    → Option ℕ
held_from held links place (one ∷ log) (site ∷ sites) =
    if goes_over_held held links one.event then Some place
    else held_from held (links_after links one.event site) (place + 1) log sites
held_from held links place log sites = None

abbrev pub first_held : (held : List (ℕ × ℕ)) → Play → Option ℕ
first_held held play =
    held_from held (replicate play.setup.agents None) 0 play.log (sites (world_in play) (events_of play.log))
