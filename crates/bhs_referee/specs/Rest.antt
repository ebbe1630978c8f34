-- When nothing that may still happen in a match changes its verdict.
use Rattle.std.specs.Prelude.{ℕ, ◌≡◌, ◌<◌, ◌⊎◌, true, List, ◌++◌, count_by}
use Rattle.std.specs.List.{range_with_len}
use Rattle.bhs_model.specs.declared.events.Event.{Event}
use Rattle.bhs_model.specs.Worlds.{World}
use Rattle.bhs_model.specs.Views.{Ended, standing}
use Rattle.bhs_model.specs.Runs.{run, past}
use Rattle.bhs_model.specs.Kept.{lost}
use Rattle.bhs_model.specs.Marks.{events_of}
use Rattle.bhs_match.specs.Decided.{AreAllDone}
use Rattle.bhs_match.specs.Matches.{Play, world_in}
use Rattle.bhs_referee.specs.declared.verdicts.Verdict.{Verdict}
use Rattle.bhs_referee.specs.Findings.{findings}
use Rattle.bhs_referee.specs.Verdicts.{outcome_of, verdict_of}

-- the verdict on a match that ends after these events
abbrev pub verdict_after : World → List Event → Verdict
verdict_after world events =
    let found = findings world events in
    record {
      outcome = outcome_of world (run world events).position found;
      moves = found.moves;
      lost = count_by (lost world events) (range_with_len 0 world.agents);
    }

-- the agent has ended or is lost
abbrev pub IsDone : World → List Event → (agent : ℕ) → Type 0
IsDone world events agent = (standing (past world events agent) ≡ Ended) ⊎ (lost world events agent ≡ true)

-- each agent of the match has ended or is lost
abbrev pub AreDone : World → List Event → Type 0
AreDone world events = (agent : ℕ) → agent < world.agents → IsDone world events agent

-- Once each agent has ended or is lost, the verdict stands: whatever else happens, a close among it or not, the match
-- is judged as if it had ended there.
abbrev pub VerdictsStand : Type 0
VerdictsStand = (world : World) (events more : List Event) → AreDone world events →
    verdict_after world (events ++ more) ≡ verdict_after world events

-- This includes every match whose agents have all ended or are lost.
abbrev pub DecidedMatchesAreDone : Type 0
DecidedMatchesAreDone = (play : Play) → AreAllDone play → AreDone (world_in play) (events_of play.log)

-- This is the verdict that the referee returns.
abbrev pub VerdictsAreAfterEvents : Type 0
VerdictsAreAfterEvents = (play : Play) → verdict_of play ≡ verdict_after (world_in play) (events_of play.log)
