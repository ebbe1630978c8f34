-- The search by halves on the rings of 3, 4, 5 and 6 nodes, worked out: schedules with the most moves.
use Rattle.std.specs.Prelude.{ℕ, ◌≡◌, List, [], ◌∷◌, replicate}
use Rattle.bhs_model.specs.Setups.{network_of}
use Rattle.bhs_model.specs.Worlds.{World}
use Rattle.bhs_referee.specs.declared.verdicts.Outcome.TheVariants.{Solved}
use Rattle.bhs_protocols.specs.Configurations.{blank, turns_in, outcome_in}
use Rattle.bhs_protocols.specs.StandardRings.{standard_ring}
use Rattle.bhs_protocols.specs.Halving.{most_moves}
use Rattle.bhs_protocols.specs.Halves.{halves_trial}

-- two agents at node 0 of the standard ring of n nodes, with the black hole at this node
abbrev pub example : (n hole : ℕ) → World
example n hole = record {
  net = network_of (standard_ring n);
  home = 0;
  holes = hole ∷ [];
  dark = [];
  agents = 2;
  quota = 100;
  board = 4;
}

-- Under this schedule the match is solved with the largest possible number of moves.
abbrev pub IsWorst : (n hole : ℕ) → List ℕ → Type 0
IsWorst n hole schedule =
    (outcome_in (example n hole) (turns_in (halves_trial (example n hole) 0 n) blank schedule) ≡ Solved)
    × ((turns_in (halves_trial (example n hole) 0 n) blank schedule).moves ≡ most_moves n)

abbrev pub OnThree : Type 0
OnThree = IsWorst 3 2
    (0 ∷ 0 ∷ 0 ∷ 0 ∷ 0 ∷ 0 ∷ 0 ∷ 0 ∷ 0 ∷ 1 ∷ 1 ∷ [])

abbrev pub OnFour : Type 0
OnFour = IsWorst 4 2
    (0 ∷ 0 ∷ 0 ∷ 0 ∷ 0 ∷ 0 ∷ 0 ∷ 0 ∷ 0 ∷ 1 ∷ 1 ∷ 1 ∷ 1 ∷ 1 ∷ 1 ∷ 1 ∷ 1 ∷ 1 ∷ 1 ∷ 1 ∷ 1 ∷ 1 ∷ [])

abbrev pub OnFive : Type 0
OnFive = IsWorst 5 2
    (0 ∷ 0 ∷ 0 ∷ 0 ∷ 0 ∷ 1 ∷ 1 ∷ 1 ∷ 1 ∷ 1 ∷ 1 ∷ 0 ∷ 1 ∷ 1 ∷ 1 ∷ 1 ∷ 1 ∷ 1 ∷ 1 ∷ 1 ∷ 1 ∷ 1 ∷ 1 ∷ 1 ∷
    1 ∷ 1 ∷ 0 ∷ 0 ∷ 0 ∷ 0 ∷ 0 ∷ 1 ∷ 1 ∷ 1 ∷ 1 ∷ 1 ∷ [])

-- agent 0 takes two turns, and then agent 1 all others
abbrev pub OnSix : Type 0
OnSix = IsWorst 6 1 (0 ∷ 0 ∷ replicate 52 1)
