-- Each network of a file has a plan from each home base, so two agents that have a map solve it.
use Rattle.std.proofs.Common.{ℕ, ◌+◌, ◌-◌, ◌*◌, ◌/◌, ◌<◌, ◌≤◌, ◌≡◌, ◌==◌, true, List, [], ◌∷◌}
use Rattle.std.proofs.Common.{length, refl, sym, ap, ◌∙◌, subst, inl, inr, arith}
use Rattle.std.specs.Prelude.{◌≢◌}
use Rattle.std.proofs.lemmas.Bool.{true≢false, eqb-true, eqb-false}
use Rattle.bhs_model.proofs.StepLemmas.{by_cases}
use Rattle.bhs_net.specs.Network as networks
use Rattle.bhs_model.specs.Setups.{network_of, world_of}
use Rattle.bhs_protocols_mapped.proofs.Members.{is_in, in_split, not_in}
use Rattle.bhs_protocols_mapped.proofs.Ears.{HasAll, has_all}
use Rattle.bhs_protocols_divided.specs.Plans.{Divisions, Plan, Explores, IsLeft, IsStage, IsPlanned, IsDivided}
use Rattle.bhs_protocols_divided.specs.Plans.{IsPlan, HasPlan, NetworksHavePlans, news, left_at}
use Rattle.bhs_protocols_divided.specs.DividingLaws.{TwoAgentsDivide}
use Rattle.bhs_protocols_divided.proofs.DividingTheorem.{dividers_solve}
use Rattle.bhs_protocols_divided.proofs.Tours.{Act, news_in}
use Rattle.bhs_protocols_divided.proofs.Grown.{walks_in}
use Rattle.bhs_protocols_divided.proofs.ListedItineraries.{itinerary_of, is_itinerary, node_at, root_first}
use Rattle.bhs_protocols_divided.proofs.ListedNews.{IsNewAt, new_at, new_where, new_once, known_before, goes_known}
use Rattle.bhs_protocols_divided.proofs.Prefixes.{explored_by}
use Rattle.bhs_protocols_divided.proofs.PlanSteps.{explored_long, explored_all, explored_at, explored_where, WasNew}
use Rattle.bhs_protocols_divided.proofs.PlanSteps.{news_unseen}
use Rattle.bhs_protocols_divided.proofs.PlanStages.{Stage, Start, start}
use Rattle.bhs_protocols_divided.proofs.PlanNext.{rest_at, Right, IsNext, next_stage}

module _ (net : networks.Network) (is : networks.IsNetwork net) (home : ℕ) (here : home < networks.nodes_of net) where
  abbrev n : ℕ
  n = networks.nodes_of net

  order : HasAll net is home
  order = has_all net is home here

  abbrev At : Type 0
  At = Stage net is home here order

  first : Start net is home here order
  first = start net is home here order is.labelled.few

  abbrev stage : Divisions → At
  stage [] = first.stage
  stage (last ∷ before) = (next_stage net is home here order (stage before) last.0 last.1).0

  abbrev plan : Plan
  plan = record { itinerary = λ divisions side. itinerary_of (stage divisions).root ((stage divisions).list side) }

  few_walks : (st : At) (side : ℕ) → side < 2 → walks_in (st.list side) ≤ 2 * (n - 2)
  few_walks st side below =
      let walks : walks_in (st.list side) + 2 ≤ 2 * (length st.safe + length (news_in (st.list side))) =
      st.walks side in
      let sum : length st.safe + (length (news_in (st.list side)) + length (news_in (st.list (1 - side)))) ≡ n =
      st.sum side below in
      let some : 0 < length (news_in (st.list (1 - side))) = st.some (1 - side) in
      omega (arith, walks, sum, some)

  at_root : (st : At) (side : ℕ) → side < 2 → (itinerary_of st.root (st.list side)).node 0 ≡ st.root
  at_root st side below =
      root_first net n st.root (st.list side) (st.tour side).chain (few_walks st side below)

  -- the same node, so the same side
  other_side : (side other : ℕ) → side < 2 → other < 2 → side ≢ other → other ≡ 1 - side
  other_side side other below below_too differ = omega (arith, below, below_too, differ)

  new_by : (divisions : Divisions) (side step node : ℕ) → Explores plan divisions side step node
      → IsNewAt ((stage divisions).list side) step node
  new_by divisions side step node it = record { within = it.within; is_new = it.is_new; is = it.is }

  left_by : (divisions : Divisions) (side node : ℕ) → side < 2
      → is_in node (news_in ((stage divisions).list side)) ≡ true → IsLeft plan divisions node
  left_by divisions side node below any =
      let it : (step : ℕ) × IsNewAt ((stage divisions).list side) step node =
      new_where ((stage divisions).list side) node any in
      record {
        side = side;
        step = it.0;
        explores = record { below = below; within = it.1.within; is_new = it.1.is_new; is = it.1.is };
      }

  left_is : (divisions : Divisions) (side step : ℕ)
      → left_at plan divisions side step ≡ rest_at net is home here order (stage divisions) side step
  left_is divisions side step =
      let acts : List Act = (stage divisions).list side in
      let root : ℕ = (stage divisions).root in
      let all : news (itinerary_of root acts) (length acts) ≡ length (news_in acts) =
      explored_long root (length acts) acts ∙ ap length (explored_all acts) in
      let some : news (itinerary_of root acts) step ≡ length (explored_by step acts) = explored_long root step acts in
      omega (arith, all, some)

  total_is : (divisions : Divisions) (side : ℕ)
      → left_at plan divisions side 0 ≡ length (news_in ((stage divisions).list side))
  total_is divisions side =
      let it : left_at plan divisions side 0 ≡ rest_at net is home here order (stage divisions) side 0 =
      left_is divisions side 0 in
      omega (arith, it)

  planned : (divisions : Divisions) → IsPlanned (network_of net) n plan divisions
  planned divisions = record {
    itineraries = λ side below. is_itinerary net n st.root (st.list side)
        (st.tour side).chain (few_walks st side below);
    root = at_root st 0 (omega arith) ∙ sym (at_root st 1 (omega arith));
    once = λ side step other later node one two. by_cases (side == other) ((side ≡ other) × (step ≡ later))
        (λ same.
        let equal : side ≡ other = eqb-true side other same in (
          equal,
          new_once st.safe (st.list side) step later node (st.tour side).fresh (new_by divisions side step node one)
              (subst (λ (k : ℕ). IsNewAt (st.list k) later node) (sym equal) (new_by divisions other later node two)),
        ))
        (λ apart. absurd (not_twice side other step later node one two (eqb-false side other apart)));
    known = λ side step other later node below within old same it.
        by_cases (side == other) ((side ≡ other) × (later < step))
        (λ is_same.
        let equal : side ≡ other = eqb-true side other is_same in (
          equal,
          known_before st.safe (st.list side) step later node (st.tour side).fresh within old same
              (subst (λ (k : ℕ). IsNewAt (st.list k) later node) (sym equal) (new_by divisions other later node it)),
        ))
        (λ apart. absurd (
        let differ : side ≢ other = eqb-false side other apart in
        let new : is_in node (news_in (st.list other)) ≡ true =
        new_at (st.list other) later node (new_by divisions other later node it) in
        elim (goes_known st.safe (st.list side) step (st.tour side).fresh within old) [
          | inl h ↦ news_unseen st.safe (st.list other) node (st.tour other).fresh new
              (subst (λ (k : ℕ). is_in k st.safe ≡ true) same h)
          | inr h ↦ never_both side other node below it.below differ
              (subst (λ (k : ℕ). is_in k (news_in (st.list side)) ≡ true) same h) new
        ]));
  }
    where
      st : At
      st = stage divisions

      never_both : (side other node : ℕ) → side < 2 → other < 2 → side ≢ other
          → is_in node (news_in (st.list side)) ≡ true → is_in node (news_in (st.list other)) ≡ true → ⊥
      never_both side other node below below_too differ one two = st.never side node below one
          (subst (λ (k : ℕ). is_in node (news_in (st.list k)) ≡ true)
          (other_side side other below below_too differ) two)

      not_twice : (side other step later node : ℕ) → Explores plan divisions side step node
          → Explores plan divisions other later node → side ≢ other → ⊥
      not_twice side other step later node one two differ = never_both side other node one.below two.below differ
          (new_at (st.list side) step node (new_by divisions side step node one))
          (new_at (st.list other) later node (new_by divisions other later node two))

  divided : (divisions : Divisions) (side step : ℕ) → IsStage plan ((side, step) ∷ divisions)
      → IsDivided plan divisions side step
  divided divisions side step can =
      let st : At = stage divisions in
      let new : At = stage ((side, step) ∷ divisions) in
      let acts : List Act = st.list side in
      let rest : left_at plan divisions side step ≡ rest_at net is home here order st side step =
      left_is divisions side step in
      let many : 2 ≤ left_at plan divisions side step = can.4 in
      let right : Right net is home here order st side step = record {
        below = can.1;
        within = can.2;
        is_new = can.3;
        many = omega (arith, rest, many);
      } in
      let it : IsNext net is home here order st side step new =
      (next_stage net is home here order st side step).1 right in
      let one : left_at plan ((side, step) ∷ divisions) side 0 ≡ length (news_in (new.list side)) =
      total_is ((side, step) ∷ divisions) side in
      let two : left_at plan ((side, step) ∷ divisions) (1 - side) 0 ≡ length (news_in (new.list (1 - side))) =
      total_is ((side, step) ∷ divisions) (1 - side) in
      let greater : length (news_in (new.list side))
      ≡ rest_at net is home here order st side step - rest_at net is home here order st side step / 2 = it.greater in
      let lesser : length (news_in (new.list (1 - side))) ≡ rest_at net is home here order st side step / 2 =
      it.lesser in
      record {
        some = it.some;
        is_new = ap (λ (a : Act). a.is_new) it.first;
        node = at_root new side can.1 ∙ it.root
            ∙ sym (node_at net n st.root acts (st.tour side).chain (few_walks st side can.1) step can.2);
        ahead = ap (λ (a : Act). a.ahead) it.first;
        target = ap (λ (a : Act). a.target) it.first;
        behind = ap (λ (a : Act). a.behind) it.first;
        left = λ other later node explores.
            let back = it.left other node explores.below
            (new_at (new.list other) later node (new_by ((side, step) ∷ divisions) other later node explores)) in
            let found : (was : ℕ) × IsNewAt acts was node = new_where acts node back.0 in
            let never : (found.0 < step) → ⊥ =
            λ h. true≢false (sym (explored_at step acts found.0 node found.1 h) ∙ back.1) in (
              found.0,
              omega (arith, never),
              record { below = can.1; within = found.1.within; is_new = found.1.is_new; is = found.1.is },
            );
        all = λ later node from explores.
            let own : IsNewAt acts later node = new_by divisions side later node explores in
            let kept = it.all node (new_at acts later node own)
            (not_in node (explored_by step acts) (λ h.
            let before : WasNew step acts node = explored_where step acts node h in
            let below : before.was < step = before.below in
            let same : before.was ≡ later =
            new_once st.safe acts before.was later node (st.tour side).fresh before.new own in
            omega (arith, below, same, from))) in
            left_by ((side, step) ∷ divisions) kept.0 node kept.1 kept.2;
        greater = omega (arith, one, greater, rest);
        lesser = omega (arith, two, lesser, rest);
      }

  is_plan : IsPlan (network_of net) home n plan
  is_plan =
      let one : left_at plan [] 0 0 ≡ length (news_in ((stage []).list 0)) = total_is [] 0 in
      let two : left_at plan [] 1 0 ≡ length (news_in ((stage []).list 1)) = total_is [] 1 in
      let greater : length (news_in ((stage []).list 0)) ≡ n / 2 = first.greater in
      let lesser : length (news_in ((stage []).list 1)) ≡ (n - 1) / 2 = first.lesser in
      record {
        three = is.labelled.few;
        size = refl;
        at_home = here;
        start = at_root (stage []) 0 (omega arith) ∙ first.root_is;
        all = λ node below differ. elim ((stage []).all node below) [
          | inl h ↦ absurd (elim (in_split node home [] (subst (λ (l : List ℕ). is_in node l ≡ true) first.safe_is h)) [
            | inl e ↦ differ e
            | inr e ↦ true≢false (sym e)
          ])
          | inr h ↦ left_by [] h.0 node h.1 h.2
        ];
        within = λ side step node it.
            let new : is_in node (news_in ((stage []).list side)) ≡ true =
            new_at ((stage []).list side) step node (new_by [] side step node it) in (
              (stage []).below side node new,
              λ same. news_unseen (stage []).safe ((stage []).list side) node ((stage []).tour side).fresh new
                  (subst (λ (k : ℕ). is_in k (stage []).safe ≡ true) (sym same) (stage []).base.home_in),
            );
        greater = omega (arith, one, greater);
        lesser = omega (arith, two, lesser);
        planned = λ divisions can. planned divisions;
        divided = divided;
      }

  has_plan : HasPlan net home
  has_plan = record { plan = plan; is = is_plan }

pub networks_have_plans : NetworksHavePlans
networks_have_plans net home is here = has_plan net is home here

pub two_agents_divide : TwoAgentsDivide
two_agents_divide net home is here =
    let it : HasPlan net home = networks_have_plans net home is here in
    record {
      plan = it.plan;
      is = it.is;
      solves = λ setup hole wakeups set board quota.
          dividers_solve (world_of net setup) (networks.nodes_of net) hole wakeups it.plan (record {
            is = subst (λ (k : ℕ). IsPlan (network_of net) k (networks.nodes_of net) it.plan) (sym set.from) it.is;
            within = set.within;
            not_home = λ same. set.not_home (same ∙ set.from);
            holes = set.holes;
            dark = set.dark;
            agents = set.agents;
          }) board quota;
    }
