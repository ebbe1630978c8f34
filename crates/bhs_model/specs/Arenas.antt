-- Matches side by side: each event happens in one of them.
use Rattle.std.specs.Prelude.{ℕ, Option, List, [], ◌∷◌, ◌==◌, if◌then◌else◌}
use Rattle.bhs_model.specs.declared.events.Event.{Event}
use Rattle.bhs_model.specs.declared.replies.Reply.{Reply}
use Rattle.bhs_model.specs.Worlds.{World}
use Rattle.bhs_model.specs.Runs.{State, initial, changed, next, reply}

-- An event together with the number of its match.
pub record Happening : Type 0 where
  pub game : ℕ
  pub event : Event

-- the events of one match
abbrev pub events_of : (game : ℕ) → List Happening → List Event
events_of game [] = []
events_of game (one ∷ others) =
    if game == one.game then one.event ∷ events_of game others else events_of game others

-- how all matches stand after one happening
abbrev pub arena_next : (ℕ → World) → (ℕ → State) → Happening → ℕ → State
arena_next worlds states one =
    changed states one.game (next (worlds one.game) (states one.game) one.event)

-- how all matches stand after these happenings
abbrev pub arena_from : (ℕ → World) → (ℕ → State) → List Happening → ℕ → State
arena_from worlds states [] = states
arena_from worlds states (one ∷ others) = arena_from worlds (arena_next worlds states one) others

-- the replies within one match
abbrev pub arena_replies_from :
    (ℕ → World) → (ℕ → State) → (game : ℕ) → List Happening → List (Option Reply)
arena_replies_from worlds states game [] = []
arena_replies_from worlds states game (one ∷ others) =
    let rest = arena_replies_from worlds (arena_next worlds states one) game others in
    if game == one.game then reply (worlds one.game) (states one.game) one.event ∷ rest else rest

-- at first no match has begun
abbrev pub none_begun : ℕ → State
none_begun game = initial

abbrev pub arena : (ℕ → World) → List Happening → ℕ → State
arena worlds happenings = arena_from worlds none_begun happenings

abbrev pub arena_replies : (ℕ → World) → (game : ℕ) → List Happening → List (Option Reply)
arena_replies worlds game happenings = arena_replies_from worlds none_begun game happenings
