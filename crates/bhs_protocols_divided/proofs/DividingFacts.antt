-- Consequences of the invariant at a turn of an agent.
use Rattle.std.proofs.Common.{ℕ, zero, suc, ◌+◌, ◌*◌, ◌<◌, ◌≤◌, ◌≡◌, true, false, ◌==◌}
use Rattle.std.proofs.Common.{sym, ap, ◌∙◌, subst, inl, inr, arith}
use Rattle.std.specs.Prelude.{◌≢◌}
use Rattle.std.proofs.lemmas.Bool.{true≢false, cond-true, cond-false, eq-eqb, ne_eqb}
use Rattle.std.proofs.lemmas.Bool.Decides.{eqb_tells}
use Rattle.bhs_protocols_divided.specs.Plans.{Itinerary, Divisions, Explores, IsStage, IsItinerary, IsPlan}
use Rattle.bhs_protocols_divided.specs.Plans.{news, explored, count_at}
use Rattle.bhs_protocols_divided.specs.Dividing.{Memory, own_of}
use Rattle.bhs_protocols_divided.proofs.NewsLemmas.{news_below, walked, walked_below, walked_few, walked_old}
use Rattle.bhs_protocols_divided.proofs.StageLemmas.{stacked, total, IsAsAt, stacked_at, stage_before, stage_at}
use Rattle.bhs_protocols_divided.proofs.StageLemmas.{back_in}
use Rattle.bhs_protocols_divided.proofs.StageLemmas.{explored_stacked}
use Rattle.bhs_protocols_divided.proofs.DividingDues.{share, reach}
use Rattle.bhs_protocols_divided.proofs.DividingState.{Game}
use Rattle.bhs_protocols_divided.proofs.DividingState.{around}

pub share_least : (all side lost : ℕ) → all ≤ share all side lost
share_least all side lost = elim (eqb_tells lost side) [
  | inl h ↦ let is : share all side lost ≡ all = cond-true (lost == side) _ _ h.0 in omega (arith, is)
  | inr h ↦ let is : share all side lost ≡ 2 * all = cond-false (lost == side) _ _ h.0 in omega (arith, is)
]

pub share_other : (all side lost : ℕ) → lost ≢ side → share all side lost ≡ 2 * all
share_other all side lost apart = cond-false (lost == side) _ _ (ne_eqb lost side apart)

pub share_own : (all side lost : ℕ) → lost ≡ side → share all side lost ≡ all
share_own all side lost same = cond-true (lost == side) _ _ (eq-eqb lost side same)

-- at which step an agent reads what was told, if nothing was: at its own
abbrev pub at_of : (count at step : ℕ) → ℕ
at_of zero at step = step
at_of (suc count) at step = at

module _ (game : Game) where
  open game use {world, n, hole, plan}

  pub plan_is : IsPlan world.net world.home n plan
  plan_is = game.search.is

  pub itinerary_is : (now : Divisions) (side : ℕ) → IsStage plan now → side < 2
      → IsItinerary world.net n (plan.itinerary now side)
  itinerary_is now side stage below = (plan_is.planned now stage).itineraries side below

  -- ---- an agent that has not read `count` divisions

  module _ (now : Divisions) (m : Memory) (stage : IsStage plan now) (below : m.side < 2) where
    abbrev own : Itinerary
    own = own_of plan m

    pub stage_known : (count at : ℕ) → now ≡ stacked m.side count at m.divisions → IsStage plan m.divisions
    stage_known count at behind = stage_before plan m.side count at m.divisions (subst (IsStage plan) behind stage)

    -- what was told was told at a new node
    pub new_at : (count at : ℕ) → now ≡ stacked m.side (suc count) at m.divisions
        → (at < own.steps) × (own.is_new at ≡ true)
    new_at count at behind =
        let it = stage_at plan m.side count at m.divisions (subst (IsStage plan) behind stage) in
        (it.2, it.3)

    pub first_is : (count at : ℕ) → now ≡ stacked m.side (suc count) at m.divisions
        → IsAsAt (plan.itinerary now m.side) own at
    first_is count at behind = subst (λ (d : Divisions). IsAsAt (plan.itinerary d m.side) own at) (sym behind)
        (stacked_at plan_is m.side count at m.divisions (subst (IsStage plan) behind stage))

    pub explored_known : (count at : ℕ) → now ≡ stacked m.side count at m.divisions
        → news own at ≡ news own m.step
        → explored plan now m.side ≤ explored plan m.divisions m.side + news own m.step
    explored_known zero at behind same =
        let is : explored plan now m.side ≡ explored plan m.divisions m.side =
        ap (λ (d : Divisions). explored plan d m.side) behind in
        omega (arith, is)
    explored_known (suc count) at behind same =
        let is : explored plan now m.side ≡ explored plan m.divisions m.side + news own at =
        ap (λ (d : Divisions). explored plan d m.side) behind ∙ explored_stacked plan m.side count at m.divisions in
        omega (arith, is, same)

    -- a new node is counted
    pub more_to_come : (count at : ℕ) → now ≡ stacked m.side count at m.divisions
        → news own at ≡ news own m.step → m.step < own.steps → own.is_new m.step ≡ true
        → explored plan m.divisions m.side + news own m.step + 1 ≤ explored plan now m.side + total plan now m.side
    more_to_come zero at behind same within is_new =
        let is : explored plan now m.side + total plan now m.side
        ≡ explored plan m.divisions m.side + total plan m.divisions m.side =
        ap (λ (d : Divisions). explored plan d m.side + total plan d m.side) behind in
        let one : news own m.step + 1 ≤ news own own.steps = news_below own m.step own.steps within is_new in
        omega (arith, is, one)
    more_to_come (suc count) at behind same within is_new =
        let is : explored plan now m.side ≡ explored plan m.divisions m.side + news own at =
        ap (λ (d : Divisions). explored plan d m.side) behind ∙ explored_stacked plan m.side count at m.divisions in
        let first : IsAsAt (plan.itinerary now m.side) own at = first_is count at behind in
        let one : news (plan.itinerary now m.side) 0 + 1
        ≤ news (plan.itinerary now m.side) (plan.itinerary now m.side).steps =
        news_below (plan.itinerary now m.side) 0 (plan.itinerary now m.side).steps first.some first.is_new in
        omega (arith, is, same, one)

    -- whoever goes on for good has this move left
    pub ways_some : (count at ways lost : ℕ) → now ≡ stacked m.side count at m.divisions → m.step ≤ at
        → m.step < own.steps → own.is_new m.step ≡ false
        → walked own (reach count at) + share (around game) m.side lost ≤ ways + walked own m.step → 0 < ways
    ways_some zero at ways lost behind far within old due =
        let least : around game ≤ share (around game) m.side lost = share_least (around game) m.side lost in
        let one : walked own (m.step + 1) ≡ walked own m.step + 1 = walked_old own m.step old in
        let few : walked own (m.step + 1) ≤ around game = walked_few own world.net n (m.step + 1)
        (itinerary_is m.divisions m.side (stage_known zero at behind) below) (omega (arith, within)) in
        omega (arith, least, one, few, due)
    ways_some (suc count) at ways lost behind far within old due =
        let new = new_at count at behind in
        let apart : m.step ≢ at = λ h. true≢false (sym new.1 ∙ sym (ap own.is_new h) ∙ old) in
        let one : walked own m.step + 1 ≤ walked own at = walked_below own m.step at (omega (arith, far, apart)) old in
        omega (arith, one, due)

    -- nobody who has read nothing new stands at the end
    pub still_within : (count at : ℕ) → now ≡ stacked m.side (suc count) at m.divisions → m.step ≤ at
        → own.is_new m.step ≡ false → m.step + 1 ≤ at
    still_within count at behind far old =
        let new = new_at count at behind in
        let apart : m.step ≢ at = λ h. true≢false (sym new.1 ∙ sym (ap own.is_new h) ∙ old) in
        omega (arith, far, apart)

    -- ---- the black hole is none of the nodes to which an agent goes for good

    module _ (side step : ℕ) (spot : Explores plan now side step hole)
        (hidden : side ≡ m.side → explored plan m.divisions m.side + news own m.step < count_at plan now side step)
      where
        pub goes_safely : (count at : ℕ) → now ≡ stacked m.side count at m.divisions → m.step ≤ at
            → m.step < own.steps → own.is_new m.step ≡ false → own.target m.step ≢ hole
        goes_safely zero at behind far within old same =
            let there : Explores plan m.divisions side step hole =
            subst (λ (d : Divisions). Explores plan d side step hole) behind spot in
            let early = (plan_is.planned m.divisions (stage_known zero at behind)).known m.side m.step side step hole
            below
            within old same there in
            let mine : side ≡ m.side = sym early.0 in
            let before : step < m.step = early.1 in
            let is_new : own.is_new step ≡ true =
            subst (λ (k : ℕ). (plan.itinerary m.divisions k).is_new step ≡ true) mine there.is_new in
            let less : explored plan m.divisions m.side + news own m.step < count_at plan now side step = hidden mine in
            let count_is : count_at plan now side step ≡ count_at plan m.divisions m.side step =
            λ i. count_at plan (behind i) (mine i) step in
            let more : news own step + 1 ≤ news own m.step = news_below own step m.step before is_new in
            omega (arith, less, count_is, more)
        goes_safely (suc count) at behind far within old same =
            let was = back_in plan_is m.side count at m.divisions (subst (IsStage plan) behind stage) side step hole
            (subst (λ (d : Divisions). Explores plan d side step hole) behind spot) in
            let early = (plan_is.planned m.divisions (stage_known (suc count) at behind)).known m.side m.step m.side
            was.0
            hole below within old same was.2 in
            let before : was.0 < m.step = early.1 in
            let late : at ≤ was.0 = was.1 in
            omega (arith, before, late, far)
