-- Searches with a map, worked out: a square with one link across, 0-1, 0-2, 1-2, 1-3 and 2-3.
use Rattle.std.specs.Prelude.{ℕ, zero, suc, ◌+◌, ◌-◌, ◌*◌, ◌≡◌, List, [], ◌∷◌, ◌++◌, replicate, slice_index_or}
use Rattle.bhs_model.specs.Setups.{network_of}
use Rattle.bhs_model.specs.Worlds.{World}
use Rattle.bhs_referee.specs.declared.verdicts.Outcome.TheVariants.{Solved}
use Rattle.bhs_schedules.specs.Schedules.{Trial, under, verdict}
use Rattle.bhs_protocols_mapped.specs.Guides.{Route, Guide}
use Rattle.bhs_protocols.specs.Configurations.{blank, turns_in, outcome_in}
use Rattle.bhs_protocols.specs.Halving.{most_moves}
use Rattle.bhs_protocols_mapped.specs.MapLaws.{guided_trial}
use Rattle.bhs_protocols_mapped.specs.Tours.{Tour, IsTour, toured_trial}

-- Two agents start at node 0, and node 3 is the black hole.
abbrev pub diamond : World
diamond = record {
  net = network_of (((1, 0) ∷ (2, 0) ∷ []) ∷ ((0, 0) ∷ (2, 1) ∷ (3, 0) ∷ []) ∷ ((0, 1) ∷ (1, 1) ∷ (3, 1) ∷ [])
      ∷ ((1, 2) ∷ (2, 2) ∷ []) ∷ []);
  home = 0;
  holes = 3 ∷ [];
  dark = [];
  agents = 2;
  quota = 14;
  board = 4;
}

-- the order 0, 1, 3, 2
abbrev pub nodes_on : (side : ℕ) → List ℕ
nodes_on zero = 0 ∷ 1 ∷ 3 ∷ 2 ∷ []
nodes_on (suc side) = 0 ∷ 2 ∷ 3 ∷ 1 ∷ []

-- A side's first node (1 or 2) and last node (2 or 1) are adjacent to the home base: its port to the first has the
-- number of that node, its port to the last has the other number. From the first node, port 2 leads to node 3.
abbrev pub route_on : (side place : ℕ) → Route
route_on zero (suc (suc zero)) =
    record { steps = 2; place = λ step. step; ahead = λ step. 2 * step; behind = λ step. 0 }
route_on zero (suc (suc (suc zero))) =
    record { steps = 1; place = λ step. 3 * step; ahead = λ step. 1; behind = λ step. 0 }
route_on zero place = record { steps = place; place = λ step. step; ahead = λ step. 0; behind = λ step. 0 }
route_on (suc side) (suc (suc zero)) =
    record { steps = 2; place = λ step. step; ahead = λ step. 1 + step; behind = λ step. step - 1 }
route_on (suc side) (suc (suc (suc zero))) =
    record { steps = 1; place = λ step. 3 * step; ahead = λ step. 0; behind = λ step. 0 }
route_on (suc side) place = record { steps = place; place = λ step. step; ahead = λ step. 1; behind = λ step. 0 }

abbrev pub diamond_guide : Guide
diamond_guide = record { node = λ side place. slice_index_or (nodes_on side) place 0; route = route_on }

abbrev pub diamond_trial : Trial
diamond_trial = guided_trial diamond 0 4 diamond_guide

-- Agent 0 goes to node 1, comes back, writes that it is safe, goes there again, departs for node 3, and is lost. Then
-- agent 1 goes to node 2, comes back, and writes that it is safe. One node is left, so it goes there again, and accuses
-- the link ahead.
abbrev pub TheDiamondIsSolved : Type 0
TheDiamondIsSolved = verdict diamond_trial (under diamond_trial (replicate 10 0 ++ replicate 9 1))
    ≡ record { outcome = Solved; moves = 7; lost = 1 }

-- ---- by a tour

-- 0, 1, 3, 2, and back to 0
abbrev pub diamond_tour : Tour
diamond_tour = record {
  node = λ step. slice_index_or (0 ∷ 1 ∷ 3 ∷ 2 ∷ []) step 0;
  ahead = λ node. slice_index_or (0 ∷ 2 ∷ 0 ∷ 1 ∷ []) node 0;
  behind = λ node. slice_index_or (1 ∷ 0 ∷ 2 ∷ 0 ∷ []) node 0;
}

abbrev pub TheDiamondHasATour : Type 0
TheDiamondHasATour = IsTour diamond.net 0 4 diamond_tour

-- with a greater quota
abbrev pub wide_diamond : World
wide_diamond = record diamond { quota = 100 }

-- Two agents that search the ring of the tour by halves make as many moves as they can on a ring of 4 nodes, under the
-- schedule of `OnFour`.
abbrev pub TheDiamondIsToured : Type 0
TheDiamondIsToured =
    (outcome_in wide_diamond
    (turns_in (toured_trial wide_diamond 0 4 diamond_tour) blank (replicate 9 0 ++ replicate 13 1)) ≡ Solved)
    × ((turns_in (toured_trial wide_diamond 0 4 diamond_tour) blank (replicate 9 0 ++ replicate 13 1)).moves
    ≡ most_moves 4)
