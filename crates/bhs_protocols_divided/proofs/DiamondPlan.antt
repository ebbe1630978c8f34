-- The square with one link across has a plan: two agents solve it under every schedule.
use Rattle.std.proofs.Common.{ℕ, zero, suc, ◌+◌, ◌<◌, ◌≤◌, ◌≡◌, true, false, [], ◌∷◌, refl, sym}
use Rattle.std.proofs.Common.{ap, ◌∙◌, subst, arith}
use Rattle.std.specs.Prelude.{◌≢◌}
use Rattle.std.proofs.lemmas.Bool.{true≢false}
use Rattle.bhs_model.specs.Worlds.{Network}
use Rattle.bhs_protocols_divided.specs.Plans.{Divisions, Explores, IsLeft, IsStage, IsPlanned, IsDivided}
use Rattle.bhs_protocols_divided.specs.Plans.{IsItinerary, left_at}
use Rattle.bhs_protocols_divided.specs.DividedDiamond.{diamond_with, diamond_plan, first_of_two, second_of_two}
use Rattle.bhs_protocols_divided.specs.DividedDiamond.{left_of_two}
use Rattle.bhs_protocols_divided.specs.DividedDiamond.{taken_of_two, TheDiamondHasAPlan, TheDiamondIsSolvedAlways}
use Rattle.bhs_protocols_divided.proofs.DividingTheorem.{dividers_solve}

abbrev net : Network
net = (diamond_with 0).net

first_ahead : (step : ℕ) → step < 4 → first_of_two.ahead step < net.degree (first_of_two.node step)
first_ahead zero below = omega arith
first_ahead (suc zero) below = omega arith
first_ahead (suc (suc zero)) below = omega arith
first_ahead (suc (suc (suc zero))) below = omega arith
first_ahead (suc (suc (suc (suc step)))) below = absurd (omega (arith, below))

first_behind : (step : ℕ) → step < 4 → first_of_two.behind step < net.degree (first_of_two.target step)
first_behind zero below = omega arith
first_behind (suc zero) below = omega arith
first_behind (suc (suc zero)) below = omega arith
first_behind (suc (suc (suc zero))) below = omega arith
first_behind (suc (suc (suc (suc step)))) below = absurd (omega (arith, below))

first_out : (step : ℕ) → step < 4
    → net.far (first_of_two.node step) (first_of_two.ahead step) ≡ (first_of_two.target step, first_of_two.behind step)
first_out zero below = refl
first_out (suc zero) below = refl
first_out (suc (suc zero)) below = refl
first_out (suc (suc (suc zero))) below = refl
first_out (suc (suc (suc (suc step)))) below = absurd (omega (arith, below))

first_back : (step : ℕ) → step < 4
    → net.far (first_of_two.target step) (first_of_two.behind step) ≡ (first_of_two.node step, first_of_two.ahead step)
first_back zero below = refl
first_back (suc zero) below = refl
first_back (suc (suc zero)) below = refl
first_back (suc (suc (suc zero))) below = refl
first_back (suc (suc (suc (suc step)))) below = absurd (omega (arith, below))

first_stays : (step : ℕ) → step < 4 → first_of_two.is_new step ≡ true
    → first_of_two.node (step + 1) ≡ first_of_two.node step
first_stays zero below new = refl
first_stays (suc zero) below new = absurd (true≢false (sym new))
first_stays (suc (suc zero)) below new = refl
first_stays (suc (suc (suc zero))) below new = absurd (true≢false (sym new))
first_stays (suc (suc (suc (suc step)))) below new = absurd (omega (arith, below))

first_goes : (step : ℕ) → step < 4 → first_of_two.is_new step ≡ false
    → first_of_two.node (step + 1) ≡ first_of_two.target step
first_goes zero below old = absurd (true≢false old)
first_goes (suc zero) below old = refl
first_goes (suc (suc zero)) below old = absurd (true≢false old)
first_goes (suc (suc (suc zero))) below old = refl
first_goes (suc (suc (suc (suc step)))) below old = absurd (omega (arith, below))

first_is : IsItinerary net 4 first_of_two
first_is = record {
  ahead = first_ahead;
  behind = first_behind;
  out = first_out;
  back = first_back;
  stays =
      first_stays;
  goes = first_goes;
  round = refl;
  few = omega arith;
}

second_ahead : (step : ℕ) → step < 1 → second_of_two.ahead step < net.degree (second_of_two.node step)
second_ahead zero below = omega arith
second_ahead (suc step) below = absurd (omega (arith, below))

second_behind : (step : ℕ) → step < 1 → second_of_two.behind step < net.degree (second_of_two.target step)
second_behind zero below = omega arith
second_behind (suc step) below = absurd (omega (arith, below))

second_out : (step : ℕ) → step < 1
    → net.far (second_of_two.node step) (second_of_two.ahead step)
    ≡ (second_of_two.target step, second_of_two.behind step)
second_out zero below = refl
second_out (suc step) below = absurd (omega (arith, below))

second_back : (step : ℕ) → step < 1
    → net.far (second_of_two.target step) (second_of_two.behind step)
    ≡ (second_of_two.node step, second_of_two.ahead step)
second_back zero below = refl
second_back (suc step) below = absurd (omega (arith, below))

second_stays : (step : ℕ) → step < 1 → second_of_two.is_new step ≡ true
    → second_of_two.node (step + 1) ≡ second_of_two.node step
second_stays zero below new = refl
second_stays (suc step) below new = absurd (omega (arith, below))

second_goes : (step : ℕ) → step < 1 → second_of_two.is_new step ≡ false
    → second_of_two.node (step + 1) ≡ second_of_two.target step
second_goes zero below old = absurd (true≢false old)
second_goes (suc step) below old = absurd (omega (arith, below))

second_is : IsItinerary net 4 second_of_two
second_is = record {
  ahead = second_ahead;
  behind = second_behind;
  out = second_out;
  back = second_back;
  stays =
      second_stays;
  goes = second_goes;
  round = refl;
  few = omega arith;
}

left_ahead : (step : ℕ) → step < 1 → left_of_two.ahead step < net.degree (left_of_two.node step)
left_ahead zero below = omega arith
left_ahead (suc step) below = absurd (omega (arith, below))

left_behind : (step : ℕ) → step < 1 → left_of_two.behind step < net.degree (left_of_two.target step)
left_behind zero below = omega arith
left_behind (suc step) below = absurd (omega (arith, below))

left_out : (step : ℕ) → step < 1
    → net.far (left_of_two.node step) (left_of_two.ahead step) ≡ (left_of_two.target step, left_of_two.behind step)
left_out zero below = refl
left_out (suc step) below = absurd (omega (arith, below))

left_back : (step : ℕ) → step < 1
    → net.far (left_of_two.target step) (left_of_two.behind step) ≡ (left_of_two.node step, left_of_two.ahead step)
left_back zero below = refl
left_back (suc step) below = absurd (omega (arith, below))

left_stays : (step : ℕ) → step < 1 → left_of_two.is_new step ≡ true
    → left_of_two.node (step + 1) ≡ left_of_two.node step
left_stays zero below new = refl
left_stays (suc step) below new = absurd (omega (arith, below))

left_goes : (step : ℕ) → step < 1 → left_of_two.is_new step ≡ false
    → left_of_two.node (step + 1) ≡ left_of_two.target step
left_goes zero below old = absurd (true≢false old)
left_goes (suc step) below old = absurd (omega (arith, below))

left_is : IsItinerary net 4 left_of_two
left_is = record {
  ahead = left_ahead;
  behind = left_behind;
  out = left_out;
  back = left_back;
  stays =
      left_stays;
  goes = left_goes;
  round = refl;
  few = omega arith;
}

taken_ahead : (step : ℕ) → step < 3 → taken_of_two.ahead step < net.degree (taken_of_two.node step)
taken_ahead zero below = omega arith
taken_ahead (suc zero) below = omega arith
taken_ahead (suc (suc zero)) below = omega arith
taken_ahead (suc (suc (suc step))) below = absurd (omega (arith, below))

taken_behind : (step : ℕ) → step < 3 → taken_of_two.behind step < net.degree (taken_of_two.target step)
taken_behind zero below = omega arith
taken_behind (suc zero) below = omega arith
taken_behind (suc (suc zero)) below = omega arith
taken_behind (suc (suc (suc step))) below = absurd (omega (arith, below))

taken_out : (step : ℕ) → step < 3
    → net.far (taken_of_two.node step) (taken_of_two.ahead step) ≡ (taken_of_two.target step, taken_of_two.behind step)
taken_out zero below = refl
taken_out (suc zero) below = refl
taken_out (suc (suc zero)) below = refl
taken_out (suc (suc (suc step))) below = absurd (omega (arith, below))

taken_back : (step : ℕ) → step < 3
    → net.far (taken_of_two.target step) (taken_of_two.behind step) ≡ (taken_of_two.node step, taken_of_two.ahead step)
taken_back zero below = refl
taken_back (suc zero) below = refl
taken_back (suc (suc zero)) below = refl
taken_back (suc (suc (suc step))) below = absurd (omega (arith, below))

taken_stays : (step : ℕ) → step < 3 → taken_of_two.is_new step ≡ true
    → taken_of_two.node (step + 1) ≡ taken_of_two.node step
taken_stays zero below new = absurd (true≢false (sym new))
taken_stays (suc zero) below new = refl
taken_stays (suc (suc zero)) below new = absurd (true≢false (sym new))
taken_stays (suc (suc (suc step))) below new = absurd (omega (arith, below))

taken_goes : (step : ℕ) → step < 3 → taken_of_two.is_new step ≡ false
    → taken_of_two.node (step + 1) ≡ taken_of_two.target step
taken_goes zero below old = refl
taken_goes (suc zero) below old = absurd (true≢false old)
taken_goes (suc (suc zero)) below old = refl
taken_goes (suc (suc (suc step))) below old = absurd (omega (arith, below))

taken_is : IsItinerary net 4 taken_of_two
taken_is = record {
  ahead = taken_ahead;
  behind = taken_behind;
  out = taken_out;
  back = taken_back;
  stays =
      taken_stays;
  goes = taken_goes;
  round = refl;
  few = omega arith;
}

-- ---- where nodes are explored, at first and after the division

first_at : (node : ℕ) → ℕ × ℕ
first_at (suc zero) = (0, 0)
first_at (suc (suc zero)) = (1, 0)
first_at (suc (suc (suc zero))) = (0, 2)
first_at node = (2, 0)

then_at : (node : ℕ) → ℕ × ℕ
then_at (suc zero) = (0, 0)
then_at (suc (suc (suc zero))) = (1, 1)
then_at node = (2, 0)

first_found : (side step node : ℕ) → Explores diamond_plan [] side step node
    → (side ≡ (first_at node).0) × (step ≡ (first_at node).1)
unfolding first_at
first_found zero zero node it =
    subst (λ (k : ℕ). (0 ≡ (first_at k).0) × (0 ≡ (first_at k).1)) it.is (refl, refl)
first_found zero (suc zero) node it = absurd (true≢false (sym it.is_new))
first_found zero (suc (suc zero)) node it =
    subst (λ (k : ℕ). (0 ≡ (first_at k).0) × (2 ≡ (first_at k).1)) it.is (refl, refl)
first_found zero (suc (suc (suc zero))) node it = absurd (true≢false (sym it.is_new))
first_found zero (suc (suc (suc (suc step)))) node it = absurd (omega (arith, it.within))
first_found (suc zero) zero node it =
    subst (λ (k : ℕ). (1 ≡ (first_at k).0) × (0 ≡ (first_at k).1)) it.is (refl, refl)
first_found (suc zero) (suc step) node it = absurd (omega (arith, it.within))
first_found (suc (suc side)) step node it = absurd (omega (arith, it.below))

module _ (last : ℕ × ℕ) (before : Divisions) where
  abbrev now : Divisions
  now = last ∷ before

  then_found : (side step node : ℕ) → Explores diamond_plan now side step node
      → (side ≡ (then_at node).0) × (step ≡ (then_at node).1)
  unfolding then_at
  then_found zero zero node it =
      subst (λ (k : ℕ). (0 ≡ (then_at k).0) × (0 ≡ (then_at k).1)) it.is (refl, refl)
  then_found zero (suc step) node it = absurd (omega (arith, it.within))
  then_found (suc zero) zero node it = absurd (true≢false (sym it.is_new))
  then_found (suc zero) (suc zero) node it =
      subst (λ (k : ℕ). (1 ≡ (then_at k).0) × (1 ≡ (then_at k).1)) it.is (refl, refl)
  then_found (suc zero) (suc (suc zero)) node it = absurd (true≢false (sym it.is_new))
  then_found (suc zero) (suc (suc (suc step))) node it = absurd (omega (arith, it.within))
  then_found (suc (suc side)) step node it = absurd (omega (arith, it.below))

  then_itineraries : (side : ℕ) → side < 2 → IsItinerary net 4 (diamond_plan.itinerary now side)
  then_itineraries zero below = left_is
  then_itineraries (suc zero) below = taken_is
  then_itineraries (suc (suc side)) below = absurd (omega (arith, below))

  then_known : (side step other later node : ℕ) → side < 2 → step < (diamond_plan.itinerary now side).steps
      → (diamond_plan.itinerary now side).is_new step ≡ false → (diamond_plan.itinerary now side).target step ≡ node
      → Explores diamond_plan now other later node → (side ≡ other) × (later < step)
  unfolding then_at
  then_known zero zero other later node below within old same it = absurd (true≢false old)
  then_known zero (suc step) other later node below within old same it = absurd (omega (arith, within))
  then_known (suc zero) zero other later node below within old same it =
      let there : other ≡ 2 = (then_found other later node it).0 ∙ ap (λ (k : ℕ). (then_at k).0) (sym same) in
      absurd (omega (arith, there, it.below))
  then_known (suc zero) (suc zero) other later node below within old same it = absurd (true≢false old)
  then_known (suc zero) (suc (suc zero)) other later node below within old same it =
      let there : other ≡ 2 = (then_found other later node it).0 ∙ ap (λ (k : ℕ). (then_at k).0) (sym same) in
      absurd (omega (arith, there, it.below))
  then_known (suc zero) (suc (suc (suc step))) other later node below within old same it =
      absurd (omega (arith, within))
  then_known (suc (suc side)) step other later node below within old same it = absurd (omega (arith, below))

  then_planned : IsPlanned net 4 diamond_plan now
  then_planned = record {
    itineraries = then_itineraries;
    root = refl;
    once = λ side step other later node one two. (
      (then_found side step node one).0 ∙ sym (then_found other later node two).0,
      (then_found side step node one).1 ∙ sym (then_found other later node two).1,
    );
    known = then_known;
  }

  few_left : (side step : ℕ) → side < 2 → left_at diamond_plan now side step ≤ 1
  few_left zero step below = omega arith
  few_left (suc zero) step below = omega arith
  few_left (suc (suc side)) step below = absurd (omega (arith, below))

first_itineraries : (side : ℕ) → side < 2 → IsItinerary net 4 (diamond_plan.itinerary [] side)
first_itineraries zero below = first_is
first_itineraries (suc zero) below = second_is
first_itineraries (suc (suc side)) below = absurd (omega (arith, below))

first_known : (side step other later node : ℕ) → side < 2 → step < (diamond_plan.itinerary [] side).steps
    → (diamond_plan.itinerary [] side).is_new step ≡ false → (diamond_plan.itinerary [] side).target step ≡ node
    → Explores diamond_plan [] other later node → (side ≡ other) × (later < step)
unfolding first_at
first_known zero zero other later node below within old same it = absurd (true≢false old)
first_known zero (suc zero) other later node below within old same it =
    let there : other ≡ 0 = (first_found other later node it).0 ∙ ap (λ (k : ℕ). (first_at k).0) (sym same) in
    let when : later ≡ 0 = (first_found other later node it).1 ∙ ap (λ (k : ℕ). (first_at k).1) (sym same) in
    (sym there, omega (arith, when))
first_known zero (suc (suc zero)) other later node below within old same it = absurd (true≢false old)
first_known zero (suc (suc (suc zero))) other later node below within old same it =
    let there : other ≡ 2 = (first_found other later node it).0 ∙ ap (λ (k : ℕ). (first_at k).0) (sym same) in
    absurd (omega (arith, there, it.below))
first_known zero (suc (suc (suc (suc step)))) other later node below within old same it = absurd (omega (arith, within))
first_known (suc zero) zero other later node below within old same it = absurd (true≢false old)
first_known (suc zero) (suc step) other later node below within old same it = absurd (omega (arith, within))
first_known (suc (suc side)) step other later node below within old same it = absurd (omega (arith, below))

planned : (divisions : Divisions) → IsStage diamond_plan divisions → IsPlanned net 4 diamond_plan divisions
planned [] stage = record {
  itineraries = first_itineraries;
  root = refl;
  once = λ side step other later node one two. (
    (first_found side step node one).0 ∙ sym (first_found other later node two).0,
    (first_found side step node one).1 ∙ sym (first_found other later node two).1,
  );
  known = first_known;
}
planned (last ∷ before) stage = then_planned last before

-- ---- the only division

abbrev once_divided : Divisions
once_divided = (0, 0) ∷ []

divided_left : (other later node : ℕ) → Explores diamond_plan once_divided other later node
    → (was : ℕ) × (0 ≤ was) × Explores diamond_plan [] 0 was node
divided_left zero zero node it =
    (0, omega arith, record { below = omega arith; within = omega arith; is_new = refl; is = it.is })
divided_left zero (suc later) node it = absurd (omega (arith, it.within))
divided_left (suc zero) zero node it = absurd (true≢false (sym it.is_new))
divided_left (suc zero) (suc zero) node it =
    (2, omega arith, record { below = omega arith; within = omega arith; is_new = refl; is = it.is })
divided_left (suc zero) (suc (suc zero)) node it = absurd (true≢false (sym it.is_new))
divided_left (suc zero) (suc (suc (suc later))) node it = absurd (omega (arith, it.within))
divided_left (suc (suc other)) later node it = absurd (omega (arith, it.below))

divided_all : (later node : ℕ) → 0 ≤ later → Explores diamond_plan [] 0 later node
    → IsLeft diamond_plan once_divided node
divided_all zero node far it = record {
  side = 0;
  step = 0;
  explores = record { below = omega arith; within = omega arith; is_new = refl; is = it.is };
}
divided_all (suc zero) node far it = absurd (true≢false (sym it.is_new))
divided_all (suc (suc zero)) node far it = record {
  side = 1;
  step = 1;
  explores = record { below = omega arith; within = omega arith; is_new = refl; is = it.is };
}
divided_all (suc (suc (suc zero))) node far it = absurd (true≢false (sym it.is_new))
divided_all (suc (suc (suc (suc later)))) node far it = absurd (omega (arith, it.within))

divided : (divisions : Divisions) (side step : ℕ) → IsStage diamond_plan ((side, step) ∷ divisions)
    → IsDivided diamond_plan divisions side step
divided [] zero zero stage = record {
  some = omega arith;
  is_new = refl;
  node = refl;
  ahead = refl;
  target = refl;
  behind = refl;
  left = divided_left;
  all = divided_all;
  greater = refl;
  lesser = refl;
}
divided [] zero (suc zero) stage = absurd (true≢false (sym stage.3))
divided [] zero (suc (suc zero)) stage = let two : 2 ≤ left_at diamond_plan [] 0 2 =
    stage.4 in absurd (omega (arith, two))
divided [] zero (suc (suc (suc zero))) stage = absurd (true≢false (sym stage.3))
divided [] zero (suc (suc (suc (suc step)))) stage = absurd (omega (arith, stage.2))
divided [] (suc zero) step stage =
    let two : 2 ≤ left_at diamond_plan [] 1 step = stage.4 in absurd (omega (arith, two))
divided [] (suc (suc side)) step stage = absurd (omega (arith, stage.1))
divided (last ∷ before) side step stage =
    let two : 2 ≤ left_at diamond_plan (last ∷ before) side step = stage.4 in
    let few : left_at diamond_plan (last ∷ before) side step ≤ 1 = few_left last before side step stage.1 in
    absurd (omega (arith, two, few))

all : (node : ℕ) → node < 4 → node ≢ 0 → IsLeft diamond_plan [] node
all zero below away = absurd (away refl)
all (suc zero) below away = record {
  side = 0;
  step = 0;
  explores = record { below = omega arith; within = omega arith; is_new = refl; is = refl };
}
all (suc (suc zero)) below away = record {
  side = 1;
  step = 0;
  explores = record { below = omega arith; within = omega arith; is_new = refl; is = refl };
}
all (suc (suc (suc zero))) below away = record {
  side = 0;
  step = 2;
  explores = record { below = omega arith; within = omega arith; is_new = refl; is = refl };
}
all (suc (suc (suc (suc node)))) below away = absurd (omega (arith, below))

within : (side step node : ℕ) → Explores diamond_plan [] side step node → (node < 4) × (node ≢ 0)
unfolding first_at
within side step zero it =
    let there : side ≡ 2 = (first_found side step 0 it).0 in absurd (omega (arith, there, it.below))
within side step (suc zero) it = (omega arith, λ h. omega (arith, h))
within side step (suc (suc zero)) it = (omega arith, λ h. omega (arith, h))
within side step (suc (suc (suc zero))) it = (omega arith, λ h. omega (arith, h))
within side step (suc (suc (suc (suc node)))) it =
    let there : side ≡ 2 = (first_found side step (suc (suc (suc (suc node)))) it).0 in
    absurd (omega (arith, there, it.below))

pub the_diamond_has_a_plan : TheDiamondHasAPlan
the_diamond_has_a_plan = record {
  three = omega arith;
  size = refl;
  at_home = omega arith;
  start = refl;
  all = all;
  within = within;
  greater = refl;
  lesser = refl;
  planned = planned;
  divided = divided;
}

pub the_diamond_is_solved_always : TheDiamondIsSolvedAlways
the_diamond_is_solved_always hole below away = dividers_solve (diamond_with hole) 4 hole 0 diamond_plan (record {
  is = the_diamond_has_a_plan;
  within = below;
  not_home = away;
  holes = refl;
  dark = refl;
  agents = refl;
}) (omega arith) (omega arith)
