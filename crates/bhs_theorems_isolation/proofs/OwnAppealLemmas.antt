-- The files of a contest stand its own appeal.
use Rattle.std.proofs.Common.{arith, ℕ, zero, suc, ◌≡◌, ◌+◌, Some, Ok, Result, List, [], ◌∷◌, refl}
use Rattle.std.proofs.Common.{ap₂, subst, slice_get}
use Rattle.bhs_net.specs.Network.{Network}
use Rattle.bhs_model.specs.declared.setups.Setup.{Setup}
use Rattle.bhs_time.specs.declared.kinds.ScheduleKind.{ScheduleKind}
use Rattle.bhs_time.specs.declared.kinds.ScheduleKind.TheVariants.{Oblivious}
use Rattle.bhs_deliveries.specs.Dealer.{dealer_at}
use Rattle.bhs_setups.specs.declared.lineups.Ready.{Ready}
use Rattle.bhs_shared_match.specs.declared.settlement.Settlement.{Settlement}
use Rattle.bhs_server.specs.declared.settlement.Refused.{Refused}
use Rattle.bhs_server.specs.Settling.{HasFared, HaveFared, IsTimely}
use Rattle.bhs_contest.specs.Hosting.{dealers_of, given_of, givens_of}
use Rattle.bhs_cli_results.specs.Appeals.{own_head}
use Rattle.bhs_theorems_isolation.specs.OwnAppeals.{OwnMatchesStandTheirAppeal}

-- the match at this index, where the first stands at this place
pub record IsOwn (schedule : ScheduleKind) (seed : List ℕ) (place : ℕ) (matches : List Ready) (index : ℕ)
    (one : Settlement) : Type 0 where
  pub ready : Ready
  pub there : slice_get matches index ≡ Some ready
  pub fared : HasFared (given_of schedule (place + index) ready) (Some (dealer_at seed (place + index) 0)) (Ok one)

own_at : (schedule : ScheduleKind) (seed : List ℕ) (place : ℕ) (matches : List Ready)
    (settled : List (Result Settlement Refused)) (index : ℕ) (one : Settlement) →
    HaveFared (givens_of schedule place matches) (dealers_of seed place matches) settled →
    slice_get settled index ≡ Some (Ok one) → IsOwn schedule seed place matches index one
own_at schedule seed place [] [] index one fared there = absurd (none index there)
  where
    none : (index : ℕ) → slice_get {X = Result Settlement Refused} [] index ≡ Some (Ok one) → ⊥
    none index e = grind (arith, e)
own_at schedule seed place (ready ∷ matches) (first ∷ settled) zero one fared there =
    let same : first ≡ Ok one = first_of there in
    let here : place ≡ place + 0 = omega arith in
    record {
      ready = ready;
      there = refl;
      fared = subst (λ (at : ℕ). HasFared (given_of schedule at ready) (Some (dealer_at seed at 0)) (Ok one)) here
          (subst (λ (some : Result Settlement Refused).
          HasFared (given_of schedule place ready) (Some (dealer_at seed place 0)) some) same fared.0);
    }
  where
    first_of : Some first ≡ Some (Ok one) → first ≡ Ok one
    first_of e = cc
own_at schedule seed place (ready ∷ matches) (first ∷ settled) (suc index) one fared there =
    let rest = own_at schedule seed (place + 1) matches settled index one fared.1 there in
    let next : place + 1 + index ≡ place + suc index = omega arith in
    record {
      ready = rest.ready;
      there = rest.there;
      fared = subst (λ (at : ℕ). HasFared (given_of schedule at rest.ready) (Some (dealer_at seed at 0)) (Ok one)) next
          rest.fared;
    }
own_at schedule seed place [] (first ∷ settled) index one fared there = absurd fared
own_at schedule seed place (ready ∷ matches) [] index one fared there = absurd fared

pub own_appeals_lemma : OwnMatchesStandTheirAppeal
own_appeals_lemma lineup law settled game one oblivious fared there =
    let own = own_at lineup.schedule lineup.seed 0 lineup.ready.items settled game one fared there in
    let here : 0 + game ≡ game = omega arith in
    let world = own.fared.0.accord.world in
    record {
      ready = own.ready;
      same = record {
        there = own.there;
        same = ap₂ (λ (net : Network) (setup : Setup). own_head net setup) world.same_net world.same_setup;
      };
      law = law;
      oblivious = oblivious;
      count = own.fared.0.count;
      timely = subst (λ (at : ℕ). IsTimely (Oblivious law) (Some (dealer_at lineup.seed at 0)) own.ready.held one.sealed
          one.turns.items) here
          (subst (λ (kind : ScheduleKind). IsTimely kind (Some (dealer_at lineup.seed (0 + game) 0)) own.ready.held
          one.sealed one.turns.items) oblivious own.fared.1);
    }
