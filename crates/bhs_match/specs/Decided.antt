-- When all agents of a match have entered, and when no agent can have another event that counts.
use Rattle.std.specs.Prelude.{ℕ, ◌<◌, ◌≡◌, Bool, true, false}
use Rattle.bhs_model.specs.Runs.{Position, Before, After}
use Rattle.bhs_model.specs.Kept.{lost}
use Rattle.bhs_model.specs.Marks.{events_of}
use Rattle.bhs_match.specs.Matches.{Play, world_in, state_of}

-- whether an agent at this position has ended or is lost
abbrev pub is_done_at : Position → (is_lost : Bool) → Bool
is_done_at After is_lost = true
is_done_at position is_lost = is_lost

-- whether an agent of a match has ended or is lost
abbrev pub is_done : Play → (agent : ℕ) → Bool
is_done play agent = is_done_at ((state_of play).position agent) (lost (world_in play) (events_of play.log) agent)

-- each agent of a match has ended or is lost
abbrev pub AreAllDone : Play → Type 0
AreAllDone play = (agent : ℕ) → agent < play.setup.agents → is_done play agent ≡ true

-- whether an agent at this position has entered
abbrev pub has_entered_at : Position → Bool
has_entered_at Before = false
has_entered_at position = true

-- whether an agent of a match has entered
abbrev pub has_entered : Play → (agent : ℕ) → Bool
has_entered play agent = has_entered_at ((state_of play).position agent)

-- each agent of a match has entered
abbrev pub HaveAllEntered : Play → Type 0
HaveAllEntered play = (agent : ℕ) → agent < play.setup.agents → has_entered play agent ≡ true
