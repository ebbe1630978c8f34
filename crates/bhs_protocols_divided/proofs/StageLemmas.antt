-- Stages of a search by a plan: which nodes are left, where the black hole is among them, and what an agent holds that
-- has not read yet what was told.
use Rattle.std.proofs.Common.{ℕ, zero, suc, ◌+◌, ◌-◌, ◌/◌, ◌<◌, ◌≤◌, ◌≡◌, ◌==◌, true}
use Rattle.std.proofs.Common.{◌∷◌, length, refl, ap, ◌∙◌, inl, inr, arith}
use Rattle.std.specs.Prelude.{◌≢◌}
use Rattle.std.proofs.lemmas.Bool.{eq-eqb, ne_eqb, cond-true, cond-false}
use Rattle.std.proofs.lemmas.Bool.Decides.{eqb_tells}
use Rattle.bhs_model.specs.Worlds.{Network}
use Rattle.bhs_protocols_divided.specs.Plans.{Itinerary, Divisions, Plan, Explores, IsStage, IsDivided}
use Rattle.bhs_protocols_divided.specs.Plans.{IsPlan, news, explored, left_at}
use Rattle.bhs_protocols_divided.proofs.NewsLemmas.{news_below}

-- ---- `stacked`: several divisions told to one agent at one step, the later ones at step 0 of its new itinerary

abbrev pub stacked : (side count step : ℕ) → Divisions → Divisions
stacked side zero step before = before
stacked side (suc count) step before = stacked side count 0 ((side, step) ∷ before)

pub stacked_more : (side count : ℕ) (before : Divisions) → (side, 0) ∷ stacked side count 0 before
    ≡ stacked side (suc count) 0 before
stacked_more side zero before = refl
stacked_more side (suc count) before = stacked_more side count ((side, 0) ∷ before)

-- one more is told
pub stacked_on : (side count step : ℕ) (before : Divisions)
    → (side, 0) ∷ stacked side (suc count) step before ≡ stacked side (suc (suc count)) step before
stacked_on side count step before = stacked_more side count ((side, step) ∷ before)

pub stacked_long : (side count step : ℕ) (before : Divisions)
    → length (stacked side count step before) ≡ count + length before
stacked_long side zero step before = omega arith
stacked_long side (suc count) step before =
    let rest : length (stacked side count 0 ((side, step) ∷ before)) ≡ count + length ((side, step) ∷ before) =
    stacked_long side count 0 ((side, step) ∷ before) in
    omega (arith, rest)

module _ (plan : Plan) where
  abbrev pub total : Divisions → (side : ℕ) → ℕ
  total divisions side = left_at plan divisions side 0

  pub total_is : (divisions : Divisions) (side : ℕ)
      → total divisions side ≡ news (plan.itinerary divisions side) (plan.itinerary divisions side).steps
  total_is divisions side = omega arith

  -- how many nodes each agent has explored at the time of a division
  pub explored_own : (divisions : Divisions) (side step : ℕ) → explored plan ((side, step) ∷ divisions) side
      ≡ explored plan divisions side + news (plan.itinerary divisions side) step
  explored_own divisions side step =
      ap (λ (k : ℕ). explored plan divisions side + news (plan.itinerary divisions side) k)
      (cond-true (side == side) _ _ (eq-eqb side side refl))

  pub explored_other : (divisions : Divisions) (side other step : ℕ) → other ≢ side
      → explored plan ((side, step) ∷ divisions) other ≡ explored plan divisions other + total divisions other
  explored_other divisions side other step apart =
      ap (λ (k : ℕ). explored plan divisions other + news (plan.itinerary divisions other) k)
      (cond-false (other == side) _ _ (ne_eqb other side apart)) ∙ (omega arith)

  pub explored_first : (side count : ℕ) (before : Divisions)
      → explored plan (stacked side count 0 before) side ≡ explored plan before side
  explored_first side zero before = refl
  explored_first side (suc count) before =
      let rest : explored plan (stacked side count 0 ((side, 0) ∷ before)) side ≡ explored plan ((side, 0) ∷ before)
      side =
      explored_first side count ((side, 0) ∷ before) in
      let one : explored plan ((side, 0) ∷ before) side
      ≡ explored plan before side + news (plan.itinerary before side) 0 = explored_own before side 0 in
      omega (arith, rest, one)

  pub explored_stacked : (side count step : ℕ) (before : Divisions)
      → explored plan (stacked side (suc count) step before) side
      ≡ explored plan before side + news (plan.itinerary before side) step
  explored_stacked side count step before =
      explored_first side count ((side, step) ∷ before) ∙ explored_own before side step

  pub stage_before : (side count step : ℕ) (before : Divisions) → IsStage plan (stacked side count step before)
      → IsStage plan before
  stage_before side zero step before is = is
  stage_before side (suc count) step before is = (stage_before side count 0 ((side, step) ∷ before) is).0

  pub stage_at : (side count step : ℕ) (before : Divisions) → IsStage plan (stacked side (suc count) step before)
      → IsStage plan ((side, step) ∷ before)
  stage_at side count step before is = stage_before side count 0 ((side, step) ∷ before) is

-- the first node of an itinerary is this one of another
pub record IsAsAt (new old : Itinerary) (step : ℕ) : Type 0 where
  pub node : new.node 0 ≡ old.node step
  pub ahead : new.ahead 0 ≡ old.ahead step
  pub target : new.target 0 ≡ old.target step
  pub behind : new.behind 0 ≡ old.behind step
  pub is_new : new.is_new 0 ≡ true
  pub some : 0 < new.steps

module _ {net : Network} {home n : ℕ} {plan : Plan} (is : IsPlan net home n plan) where
  pub divided_at : (divisions : Divisions) (side step : ℕ) → IsStage plan ((side, step) ∷ divisions)
      → IsAsAt (plan.itinerary ((side, step) ∷ divisions) side) (plan.itinerary divisions side) step
  divided_at divisions side step stage =
      let it : IsDivided plan divisions side step = is.divided divisions side step stage in
      record {
        node = it.node;
        ahead = it.ahead;
        target = it.target;
        behind = it.behind;
        is_new = it.is_new;
        some = it.some;
      }

  as_first : (a b c : Itinerary) (step : ℕ) → IsAsAt a b 0 → IsAsAt b c step → IsAsAt a c step
  as_first a b c step one two = record {
    node = one.node ∙ two.node;
    ahead = one.ahead ∙ two.ahead;
    target = one.target ∙ two.target;
    behind = one.behind ∙ two.behind;
    is_new = one.is_new;
    some = one.some;
  }

  first_at : (side count : ℕ) (old : Itinerary) (at : ℕ) (before : Divisions)
      → IsAsAt (plan.itinerary before side) old at → IsStage plan (stacked side count 0 before)
      → IsAsAt (plan.itinerary (stacked side count 0 before) side) old at
  first_at side zero old at before like stage = like
  first_at side (suc count) old at before like stage =
      first_at side count old at ((side, 0) ∷ before)
      (as_first (plan.itinerary ((side, 0) ∷ before) side) (plan.itinerary before side) old at
      (divided_at before side 0 (stage_at plan side count 0 before stage)) like) stage

  -- the itinerary of the new stage begins where the agent stands
  pub stacked_at : (side count step : ℕ) (before : Divisions) → IsStage plan (stacked side (suc count) step before)
      → IsAsAt (plan.itinerary (stacked side (suc count) step before) side) (plan.itinerary before side) step
  stacked_at side count step before stage =
      first_at side count (plan.itinerary before side) step ((side, step) ∷ before)
      (divided_at before side step (stage_at plan side count step before stage)) stage

  -- ---- the nodes of both parts

  -- each new node is counted
  pub counted : (divisions : Divisions) (side step node : ℕ) → Explores plan divisions side step node
      → news (plan.itinerary divisions side) step + 1 ≤ total plan divisions side
  counted divisions side step node it =
      let below : news (plan.itinerary divisions side) step + 1
      ≤ news (plan.itinerary divisions side) (plan.itinerary divisions side).steps =
      news_below (plan.itinerary divisions side) step (plan.itinerary divisions side).steps it.within it.is_new in
      omega (arith, below)

  pub stage_counts : (divisions : Divisions) (side step : ℕ) → IsStage plan ((side, step) ∷ divisions)
      → left_at plan divisions side step
      ≡ total plan ((side, step) ∷ divisions) side + total plan ((side, step) ∷ divisions) (1 - side)
  stage_counts divisions side step stage =
      let it : IsDivided plan divisions side step = is.divided divisions side step stage in
      let one : total plan ((side, step) ∷ divisions) side
      ≡ left_at plan divisions side step - left_at plan divisions side step / 2 = it.greater in
      let two : total plan ((side, step) ∷ divisions) (1 - side) ≡ left_at plan divisions side step / 2 = it.lesser in
      omega (arith, one, two)

  -- each part of the new stage has a node, and the most nodes that a part has
  pub stage_some : (divisions : Divisions) (side step other : ℕ) → IsStage plan ((side, step) ∷ divisions) → other < 2
      → (0 < total plan ((side, step) ∷ divisions) other)
      × (total plan ((side, step) ∷ divisions) other
      ≤ left_at plan divisions side step - left_at plan divisions side step / 2)
  stage_some divisions side step other stage below =
      let it : IsDivided plan divisions side step = is.divided divisions side step stage in
      let two : 2 ≤ left_at plan divisions side step = stage.4 in
      let side_below : side < 2 = stage.1 in
      let one : total plan ((side, step) ∷ divisions) side
      ≡ left_at plan divisions side step - left_at plan divisions side step / 2 = it.greater in
      let lesser : total plan ((side, step) ∷ divisions) (1 - side) ≡ left_at plan divisions side step / 2 =
      it.lesser in
      elim (eqb_tells other side) [
        | inl h ↦
            let at : total plan ((side, step) ∷ divisions) other ≡ total plan ((side, step) ∷ divisions) side =
            ap (total plan ((side, step) ∷ divisions)) h.1 in
            (omega (arith, at, one, two), omega (arith, at, one))
        | inr h ↦
            let at : total plan ((side, step) ∷ divisions) other ≡ total plan ((side, step) ∷ divisions) (1 - side) =
            ap (total plan ((side, step) ∷ divisions)) (omega (arith, h.1, below, side_below)) in
            (omega (arith, at, lesser, two), omega (arith, at, lesser))
      ]

  -- a node unexplored in the new stage was unexplored before, at that step or later
  back_first : (side count : ℕ) (before : Divisions) (at : ℕ) → IsStage plan (stacked side (suc count) at before)
      → (other later node : ℕ) → Explores plan (stacked side (suc count) at before) other later node
      → (was : ℕ) × (at ≤ was) × Explores plan before side was node
  back_first side zero before at stage other later node it =
      (is.divided before side at stage).left other later node it
  back_first side (suc count) before at stage other later node it =
      let later_it = back_first side count ((side, at) ∷ before) 0 stage other later node it in
      (is.divided before side at (stage_at plan side (suc count) at before stage)).left side later_it.0 node later_it.2

  pub back_in : (side count at : ℕ) (before : Divisions) → IsStage plan (stacked side (suc count) at before)
      → (other later node : ℕ) → Explores plan (stacked side (suc count) at before) other later node
      → (was : ℕ) × (at ≤ was) × Explores plan before side was node
  back_in side count at before stage = back_first side count before at stage
