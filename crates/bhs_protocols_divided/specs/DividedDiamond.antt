-- A search by a plan, worked out: a square with one link across, 0-1, 0-2, 1-2, 1-3 and 2-3. Two agents start at node
-- 0.
use Rattle.std.specs.Prelude.{ℕ, zero, suc, ◌≡◌, ◌≢◌, ◌<◌, true, false, [], ◌∷◌, ◌++◌, replicate, slice_index_or}
use Rattle.bhs_model.specs.Setups.{network_of}
use Rattle.bhs_model.specs.Worlds.{World}
use Rattle.bhs_referee.specs.declared.verdicts.Outcome.TheVariants.{Solved}
use Rattle.bhs_schedules.specs.Schedules.{Trial, under, verdict}
use Rattle.bhs_protocols_divided.specs.Plans.{Itinerary, Divisions, Plan, IsPlan, count_at, left_at}
use Rattle.bhs_protocols_divided.specs.Dividing.{board_text, divided_trial}
use Rattle.bhs_protocols.specs.Invariants.{IsSolved}
use Rattle.bhs_protocols_divided.specs.DividingLaws.{most_moves, most_commands, divided_bounds}

-- the square whose black hole is the node `hole`
abbrev pub diamond_with : (hole : ℕ) → World
diamond_with hole = record {
  net = network_of (((1, 0) ∷ (2, 0) ∷ []) ∷ ((0, 0) ∷ (2, 1) ∷ (3, 0) ∷ []) ∷ ((0, 1) ∷ (1, 1) ∷ (3, 1) ∷ [])
      ∷ ((1, 2) ∷ (2, 2) ∷ []) ∷ []);
  home = 0;
  holes = hole ∷ [];
  dark = [];
  agents = 2;
  quota = most_commands 4;
  board = 5;
}

-- the order 0, 1, 3, 2: one agent explores 1 and 3, the other 2
abbrev pub first_of_two : Itinerary
first_of_two = record {
  steps = 4;
  node = λ step. slice_index_or (0 ∷ 0 ∷ 1 ∷ 1 ∷ []) step 0;
  ahead = λ step. slice_index_or (0 ∷ 0 ∷ 2 ∷ 0 ∷ []) step 0;
  target = λ step. slice_index_or (1 ∷ 1 ∷ 3 ∷ 0 ∷ []) step 0;
  behind = λ step. 0;
  is_new = λ step. slice_index_or (true ∷ false ∷ true ∷ false ∷ []) step false;
}

abbrev pub second_of_two : Itinerary
second_of_two = record {
  steps = 1;
  node = λ step. 0;
  ahead = λ step. 1;
  target = λ step. 2;
  behind = λ step. 0;
  is_new = λ step. true;
}

-- The stage after agent 1 has explored node 2 and found node 1 unmarked: agent 0 keeps node 1, agent 1 takes node 3 by
-- way of node 2.
abbrev pub left_of_two : Itinerary
left_of_two = record {
  steps = 1;
  node = λ step. 0;
  ahead = λ step. 0;
  target = λ step. 1;
  behind = λ step. 0;
  is_new = λ step. true;
}

abbrev pub taken_of_two : Itinerary
taken_of_two = record {
  steps = 3;
  node = λ step. slice_index_or (0 ∷ 2 ∷ 2 ∷ []) step 0;
  ahead = λ step. slice_index_or (1 ∷ 2 ∷ 0 ∷ []) step 0;
  target = λ step. slice_index_or (2 ∷ 3 ∷ 0 ∷ []) step 0;
  behind = λ step. slice_index_or (0 ∷ 1 ∷ 1 ∷ []) step 0;
  is_new = λ step. slice_index_or (false ∷ true ∷ false ∷ []) step false;
}

abbrev pub itinerary_on : Divisions → (side : ℕ) → Itinerary
itinerary_on [] zero = first_of_two
itinerary_on [] (suc side) = second_of_two
itinerary_on (last ∷ before) zero = left_of_two
itinerary_on (last ∷ before) (suc side) = taken_of_two

abbrev pub diamond_plan : Plan
diamond_plan = record { itinerary = itinerary_on }

abbrev pub diamond_trial : (hole : ℕ) → Trial
diamond_trial hole = divided_trial (diamond_with hole) 0 diamond_plan

-- Node 3 is the black hole. Agent 0 marks node 1, goes there, and is lost. Agent 1 marks node 2, reads that node 1 is
-- marked, goes there, sees that node 3 is not, and accuses the link.
abbrev pub OneGoesAhead : Type 0
OneGoesAhead = verdict (diamond_trial 3) (under (diamond_trial 3) (replicate 10 0 ++ replicate 9 1))
    ≡ record { outcome = Solved; moves = 7; lost = 1 }

-- Node 1 is the black hole, and agent 0 is lost at once. Agent 1 marks node 2 and divides what is left: it goes to node
-- 2, marks node 3, comes back, and accuses the link to node 1.
abbrev pub OneDivides : Type 0
OneDivides = verdict (diamond_trial 1) (under (diamond_trial 1) (replicate 3 0 ++ replicate 17 1))
    ≡ record { outcome = Solved; moves = 7; lost = 1 }

-- Node 3 is the black hole, and agent 0 is slow: agent 1 marks node 2, divides what is left, goes to node 2, and is
-- lost. Agent 0 comes back from node 1, reads that what is left was divided, marks node 1, goes to node 2, and accuses
-- the link to node 3.
abbrev pub OneIsTold : Type 0
OneIsTold =
    verdict (diamond_trial 3) (under (diamond_trial 3) (replicate 2 0 ++ replicate 11 1 ++ replicate 7 0))
    ≡ record { outcome = Solved; moves = 7; lost = 1 }

-- small values: the text of a whiteboard, how many nodes are left, and the bounds
abbrev pub SmallRows : Type 0
SmallRows = (board_text 65 2 1 ≡ 33 ∷ 33 ∷ 32 ∷ 34 ∷ 33 ∷ []) × (left_at diamond_plan [] 0 0 ≡ 2)
    × (left_at diamond_plan [] 0 2 ≡ 1) × (count_at diamond_plan [] 0 2 ≡ 2)
    × (left_at diamond_plan ((0, 0) ∷ []) 1 0 ≡ 1) × (count_at diamond_plan ((0, 0) ∷ []) 1 1 ≡ 2)
    × (most_moves 3 ≡ 10) × (most_moves 4 ≡ 30) × (most_moves 5 ≡ 44) × (most_moves 64 ≡ 2358)

-- The itineraries above form a plan.
abbrev pub TheDiamondHasAPlan : Type 0
TheDiamondHasAPlan = IsPlan (diamond_with 0).net 0 4 diamond_plan

-- Every schedule solves the square within 30 moves, whichever node is the black hole.
abbrev pub TheDiamondIsSolvedAlways : Type 0
TheDiamondIsSolvedAlways = (hole : ℕ) → hole < 4 → hole ≢ 0 → IsSolved (diamond_trial hole) (divided_bounds 4)
