-- The verdict on a match that has ended.
use Rattle.std.specs.Prelude.{ℕ, Bool, true, false, not, ◌&&◌, ◌||◌, Option, Some, None, ◌==◌, if◌then◌else◌, count_by}
use Rattle.std.specs.Prelude.{find}
use Rattle.std.specs.List.{list_any, range_with_len}
use Rattle.bhs_model.specs.Worlds.{World, is_hole, names, is_dark, doomed}
use Rattle.bhs_model.specs.Runs.{Position, At, run}
use Rattle.bhs_model.specs.Kept.{lost}
use Rattle.bhs_model.specs.Marks.{events_of}
use Rattle.bhs_match.specs.Matches.{Play, world_in}
use Rattle.bhs_referee.specs.declared.verdicts.Outcome.{Outcome}
use Rattle.bhs_referee.specs.declared.verdicts.Outcome.TheVariants.{Solved, Guess, Unfinished, Silent, Wrong}
use Rattle.bhs_referee.specs.declared.verdicts.Verdict.{Verdict}
use Rattle.bhs_referee.specs.Findings.{Findings, findings}

-- whether a link that was accused passes a test
abbrev pub passes : (test : ℕ × ℕ → Bool) → Option (ℕ × ℕ) → Bool
passes test None = false
passes test (Some link) = test link

-- whether some agent's accusation passes a test of its link
abbrev pub accuses : World → Findings → (test : ℕ × ℕ → Bool) → Bool
accuses world found test = list_any (λ agent. passes test (found.accused agent)) (range_with_len 0 world.agents)

-- whether the link at a port is dark
abbrev pub is_over_dark : World → ℕ × ℕ → Bool
is_over_dark world link = is_dark world.net.far world.dark link.0 link.1

-- whether a link leads to a black hole or is dark
abbrev pub is_right : World → ℕ × ℕ → Bool
is_right world link = doomed world link.0 link.1

-- whether some accusation's link leads to this black hole
abbrev pub is_hole_accused : World → Findings → (hole : ℕ) → Bool
is_hole_accused world found hole = accuses world found (λ link. hole == (world.net.far link.0 link.1).0)

-- whether two ends are of one link
abbrev pub is_same_link : World → (link end : ℕ × ℕ) → Bool
is_same_link world link end = names link.0 link.1 end || names link.0 link.1 (world.net.far end.0 end.1)

-- whether some accusation goes over this dark link
abbrev pub is_dark_accused : World → Findings → (end : ℕ × ℕ) → Bool
is_dark_accused world found end = accuses world found (λ link. is_same_link world link end)

-- whether no agent accused, or a black hole or a dark link was not accused
abbrev pub is_silent : World → Findings → Bool
is_silent world found =
    not (accuses world found (λ link. true))
    || list_any (λ hole. not (is_hole_accused world found hole)) world.holes
    || list_any (λ end. not (is_dark_accused world found end)) world.dark

-- whether the agent stands at a node
abbrev pub is_present : Position → Bool
is_present (At node came) = true
is_present position = false

-- whether some agent is at a node, by the agents' positions
abbrev pub is_unfinished : World → (position : ℕ → Position) → Bool
is_unfinished world position = list_any (λ agent. is_present (position agent)) (range_with_len 0 world.agents)

-- whether no agent arrived at a node that is neither the home base nor a black hole
abbrev pub is_unreached : World → Findings → (node : ℕ) → Bool
is_unreached world found node = not (node == world.home) && (not (is_hole world.holes node) && not (found.reached node))

-- the least node where no agent arrived, not counting the home base and the black holes
abbrev pub first_unreached : World → Findings → Option ℕ
first_unreached world found = find (is_unreached world found) (range_with_len 0 world.net.nodes)

-- A guess: the accusations hold only if some black hole exists, while an unreached node could be that black hole.
abbrev pub guess_or_solved : Option ℕ → Outcome
guess_or_solved (Some node) = Guess node
guess_or_solved None = Solved

-- The first that holds: an accusation is wrong; none is made, or a black hole or a dark link is left out; an agent is
-- still at a node; an accusation of a link that is not dark was made while a node was not reached; or all is well.
abbrev pub outcome_of : World → (position : ℕ → Position) → Findings → Outcome
outcome_of world position found =
    if accuses world found (λ link. not (is_right world link)) then Wrong
    else (if is_silent world found then Silent
    else (if is_unfinished world position then Unfinished
    else (if accuses world found (λ link. not (is_over_dark world link))
    then guess_or_solved (first_unreached world found)
    else Solved)))

-- the verdict on a match that has ended: the outcome, the number of moves, and how many agents are lost
abbrev pub verdict_of : Play → Verdict
verdict_of play =
    let world = world_in play in
    let events = events_of play.log in
    let found = findings world events in
    record {
      outcome = outcome_of world (run world events).position found;
      moves = found.moves;
      lost = count_by (lost world events) (range_with_len 0 world.agents);
    }
