-- Matches side by side, each with its own schedule and its own turns.
use Rattle.std.specs.Prelude.{ℕ, ◌≡◌, List, [], ◌∷◌, ◌==◌, if◌then◌else◌}
use Rattle.bhs_model.specs.Worlds.{World}
use Rattle.bhs_model.specs.Runs.{changed}
use Rattle.bhs_model.specs.Draws.{Held}
use Rattle.bhs_time.specs.Schedules.{Schedule}
use Rattle.bhs_time.specs.TimedRuns.{TimedState, timed_initial, TimedAct, timed_next, timed_run}

-- the parameters of a match that are fixed before it begins
pub record TimedSetup : Type 0 where
  pub world : World
  pub held : Held
  pub schedule : Schedule

-- an act together with the number of its match
pub record TimedHappening : Type 0 where
  pub game : ℕ
  pub act : TimedAct

-- the acts of one match, in order
abbrev pub acts_of : (game : ℕ) → List TimedHappening → List TimedAct
acts_of game [] = []
acts_of game (one ∷ others) = if game == one.game then one.act ∷ acts_of game others else acts_of game others

-- the timed state of a match after an act
abbrev pub next_one : TimedSetup → TimedState → TimedAct → TimedState
next_one terms timed act = timed_next terms.world terms.held terms.schedule timed act

-- the timed state of each match after these acts
abbrev pub contest_from : (ℕ → TimedSetup) → (ℕ → TimedState) → List TimedHappening → ℕ → TimedState
contest_from terms states [] = states
contest_from terms states (one ∷ others) =
    contest_from terms (changed states one.game (next_one (terms one.game) (states one.game) one.act)) others

-- the timed state of each match of a contest, by its number
abbrev pub contest : (ℕ → TimedSetup) → List TimedHappening → ℕ → TimedState
contest terms happenings = contest_from terms (λ game. timed_initial) happenings

-- A match among others stands, with all its turns, as its own acts alone leave it.
abbrev pub MatchesAreApartInTime : Type 0
MatchesAreApartInTime = (terms : ℕ → TimedSetup) (happenings : List TimedHappening) (game : ℕ) →
    contest terms happenings game
    ≡ timed_run (terms game).world (terms game).held (terms game).schedule (acts_of game happenings)
