-- The stage that comes after a division, worked out from the stage before and the place of the division.
use Rattle.std.proofs.Common.{ℕ, ◌+◌, ◌-◌, ◌*◌, ◌/◌, ◌<◌, ◌≤◌, ◌≡◌, ◌==◌, true, false, List, ◌++◌}
use Rattle.std.proofs.Common.{length, refl, sym, ap, ◌∙◌, subst, nat_lt, inl, inr, arith}
use Rattle.std.specs.Prelude.{◌≢◌}
use Rattle.std.proofs.lemmas.List.{length-append}
use Rattle.std.proofs.lemmas.Bool.{true≢false, lt-ltb, ltb-true, eqb-true, eqb-false}
use Rattle.bhs_model.proofs.StepLemmas.{by_cases}
use Rattle.bhs_net.specs.Network.{Network, IsNetwork, nodes_of}
use Rattle.bhs_protocols_mapped.proofs.Members.{is_in, in_either, in_left, in_right, not_in}
use Rattle.bhs_protocols_mapped.proofs.Ears.{HasAll}
use Rattle.bhs_protocols_divided.proofs.Tours.{Act, IsAct, IsFresh, news_in, fresh_change}
use Rattle.bhs_protocols_divided.proofs.Grown.{walks_in, IsTour, HasGrown, Grows, grown}
use Rattle.bhs_protocols_divided.proofs.ListedItineraries.{act_at, links_at}
use Rattle.bhs_protocols_divided.proofs.ListedNews.{IsNewAt, new_at, new_once}
use Rattle.bhs_protocols_divided.proofs.Prefixes.{explored_by, prefix_grows}
use Rattle.bhs_protocols_divided.proofs.Rotated.{safe_news}
use Rattle.bhs_protocols_divided.proofs.PlanParts.{left_out, apart_append}
use Rattle.bhs_protocols_divided.proofs.PlanSteps.{explored_where, WasNew, explored_news, news_unseen, explored_apart}
use Rattle.bhs_protocols_divided.proofs.PlanSteps.{news_apart, node_known, Walks, stripped_tour, rotated_tour, crossing}
use Rattle.bhs_protocols_divided.proofs.PlanStages.{pick_own, pick_other, Half, plain_half, ToldHalf, told_half}
use Rattle.bhs_protocols_divided.proofs.PlanStages.{Base, left, left_below, known_or_left, size, Split, split}
use Rattle.bhs_protocols_divided.proofs.PlanStages.{Stage, Made, made}

module _ (net : Network) (is : IsNetwork net) (home : ℕ) (here : home < nodes_of net) (order : HasAll net is home) where
  abbrev n : ℕ
  n = nodes_of net

  abbrev At : Type 0
  At = Stage net is home here order

  abbrev Around : ℕ → List ℕ → List Act → Type 0
  Around = IsTour net (λ u port below. (is.labelled.within u port below, is.labelled.back u port below))

  abbrev Growing : List ℕ → List ℕ → Type 0
  Growing = Grows net (λ u port below. (is.labelled.within u port below, is.labelled.back u port below))

  abbrev Walking : ℕ → List ℕ → ℕ → Type 0
  Walking = Walks net (λ u port below. (is.labelled.within u port below, is.labelled.back u port below))

  -- how many nodes are left if the other agent has explored its part, and this one its new nodes before the step
  abbrev pub rest_at : At → (side step : ℕ) → ℕ
  rest_at st side step = length (news_in (st.list side)) - length (explored_by step (st.list side))

  -- a division can be told at this step of this side
  pub record Right (st : At) (side step : ℕ) : Type 0 where
    pub below : side < 2
    pub within : step < length (st.list side)
    pub is_new : (act_at (st.list side) step).is_new ≡ true
    pub many : 2 ≤ rest_at st side step

  pub record IsNext (st : At) (side step : ℕ) (new : At) : Type 0 where
    pub root : new.root ≡ (act_at (st.list side) step).node
    pub first : act_at (new.list side) 0 ≡ crossing (act_at (st.list side) step)
    pub some : 0 < length (new.list side)
    pub left : (other q : ℕ) → other < 2 → is_in q (news_in (new.list other)) ≡ true
        → (is_in q (news_in (st.list side)) ≡ true) × (is_in q (explored_by step (st.list side)) ≡ false)
    pub all : (q : ℕ) → is_in q (news_in (st.list side)) ≡ true → is_in q (explored_by step (st.list side)) ≡ false
        → (other : ℕ) × (other < 2) × (is_in q (news_in (new.list other)) ≡ true)
    pub greater : length (news_in (new.list side)) ≡ rest_at st side step - rest_at st side step / 2
    pub lesser : length (news_in (new.list (1 - side))) ≡ rest_at st side step / 2

  module _ (st : At) (side step : ℕ) (right : Right st side step) where
    abbrev acts : List Act
    acts = st.list side

    abbrev others : List Act
    others = st.list (1 - side)

    abbrev a : Act
    a = act_at acts step

    abbrev prefix : List ℕ
    prefix = explored_by step acts

    -- what is safe once the other agent has explored its part, and what is then explored
    abbrev fewer : List ℕ
    fewer = news_in others ++ st.safe

    abbrev known : List ℕ
    known = prefix ++ fewer

    first_walk : Walking st.root fewer (walks_in others)
    first_walk = stripped_tour net (λ u port below. (is.labelled.within u port below, is.labelled.back u port below))
        st.root st.safe fewer others (st.tour (1 - side)) (λ q any. in_right q (news_in others) st.safe any)
        (λ q any. in_left q (news_in others) st.safe any)
        (λ q any. elim (in_either q (news_in others) st.safe any) [
          | inl h ↦ inr h
          | inr h ↦ inl h
        ])

    fresh_too : IsFresh fewer acts
    fresh_too = fresh_change st.safe fewer acts (λ q any. in_right q (news_in others) st.safe any)
        (λ q any. elim (in_either q (news_in others) st.safe any) [
          | inl h ↦ inr (λ own. st.never side q right.below own h)
          | inr h ↦ inl h
        ]) (st.tour side).fresh

    root_in : is_in st.root fewer ≡ true
    root_in = in_right st.root (news_in others) st.safe (st.tour side).root_in

    second : HasGrown net (λ u port below. (is.labelled.within u port below, is.labelled.back u port below)) st.root
        fewer first_walk.list prefix
    second = grown net (λ u port below. (is.labelled.within u port below, is.labelled.back u port below)) st.root fewer
        fewer first_walk.list prefix first_walk.tour
        (λ q any. inl any)
        (λ q any. elim any [
          | inl h ↦ h
          | inr h ↦ absurd (true≢false (sym h ∙ ap (is_in q) (safe_news fewer first_walk.list first_walk.is)))
        ])
        (prefix_grows net is step st.root st.root fewer fewer acts (λ q any. any) (λ q any. any) root_in
        (st.tour side).chain fresh_too)

    second_walk : Walking st.root known (walks_in second.list)
    second_walk = stripped_tour net (λ u port below. (is.labelled.within u port below, is.labelled.back u port below))
        st.root fewer known second.list second.tour (λ q any. in_right q prefix fewer any)
        (λ q any. elim (second.from q any) [
          | inl h ↦ absurd (true≢false (sym h ∙ ap (is_in q) (safe_news fewer first_walk.list first_walk.is)))
          | inr h ↦ in_left q prefix fewer h
        ])
        (λ q any. elim (in_either q prefix fewer any) [
          | inl h ↦ inr (second.gains q h)
          | inr h ↦ inl h
        ])

    node_in : is_in a.node known ≡ true
    node_in = node_known net step st.root st.root st.safe known acts (st.tour side).chain (st.tour side).fresh
        right.within
        (in_right st.root prefix fewer root_in)
        (λ q any. in_right q prefix fewer (in_right q (news_in others) st.safe any))
        (λ q any. in_left q prefix fewer any)

    third_walk : Walking a.node known (walks_in second.list)
    third_walk = rotated_tour net (λ u port below. (is.labelled.within u port below, is.labelled.back u port below))
        a.node st.root (walks_in second.list) known second_walk node_in

    base : Base net is home here order known
    base = record {
      home_in = in_right home prefix fewer (in_right home (news_in others) st.safe st.base.home_in);
      apart = apart_append prefix fewer (explored_apart step st.safe acts (st.tour side).fresh)
          (apart_append (news_in others) st.safe (news_apart st.safe others (st.tour (1 - side)).fresh) st.base.apart
          (λ q one two. news_unseen st.safe others q (st.tour (1 - side)).fresh one two))
          (λ q one two. news_unseen fewer acts q fresh_too (explored_news step acts q one) two);
      within = λ q any. elim (in_either q prefix fewer any) [
        | inl h ↦ st.below side q (explored_news step acts q h)
        | inr h ↦ elim (in_either q (news_in others) st.safe h) [
          | inl e ↦ st.below (1 - side) q e
          | inr e ↦ st.base.within q e
        ]
      ];
    }

    -- the unexplored nodes are the new nodes of this side that it has not explored
    left_is : (q : ℕ) → is_in q (left net is home here order known) ≡ true
        → (is_in q (news_in acts) ≡ true) × (is_in q prefix ≡ false)
    left_is q any =
        let out : is_in q known ≡ false = left_out known order.nodes q any in (
          elim (st.all q (left_below net is home here order known q any)) [
            | inl h ↦ absurd (true≢false (sym (in_right q prefix fewer (in_right q (news_in others) st.safe h)) ∙ out))
            | inr h ↦ by_cases (h.0 == side) (is_in q (news_in acts) ≡ true)
                (λ same. subst (λ (k : ℕ). is_in q (news_in (st.list k)) ≡ true) (eqb-true h.0 side same) h.2)
                (λ differ.
                let h_below : h.0 < 2 = h.1 in
                let side_below : side < 2 = right.below in
                let apart : h.0 ≢ side = eqb-false h.0 side differ in
                let other : h.0 ≡ 1 - side = omega (arith, h_below, side_below, apart) in
                absurd (true≢false (sym (in_right q prefix fewer (in_left q (news_in others) st.safe
                (subst (λ (k : ℕ). is_in q (news_in (st.list k)) ≡ true) other h.2))) ∙ out)))
          ],
          not_in q prefix (λ h. true≢false (sym (in_left q prefix fewer h) ∙ out)),
        )

    is_left : (q : ℕ) → is_in q (news_in acts) ≡ true → is_in q prefix ≡ false
        → is_in q (left net is home here order known) ≡ true
    is_left q any out = elim (known_or_left net is home here order known base q (st.below side q any)) [
      | inl h ↦ absurd (elim (in_either q prefix fewer h) [
        | inl e ↦ true≢false (sym e ∙ out)
        | inr e ↦ news_unseen fewer acts q fresh_too any e
      ])
      | inr h ↦ h
    ]

    own : IsNewAt acts step a.target
    own = record { within = right.within; is_new = right.is_new; is = refl }

    target_out : is_in a.target prefix ≡ false
    target_out = not_in a.target prefix (λ h.
        let it : WasNew step acts a.target = explored_where step acts a.target h in
        let below : it.was < step = it.below in
        let same : it.was ≡ step = new_once st.safe acts it.was step a.target (st.tour side).fresh it.new own in
        omega (arith, below, same))

    target_left : is_in a.target (left net is home here order known) ≡ true
    target_left = is_left a.target (new_at acts step a.target own) target_out

    pub next_of : (new : At) × IsNext st side step new
    next_of =
        let halves : Split net is home here order known a.target =
        split net is home here order known a.target base target_left in
        let act : IsAct net a.node a = (links_at net st.root st.root acts step (st.tour side).chain right.within).act in
        let grown_walks : walks_in second.list ≡ walks_in first_walk.list + 2 * length prefix = second.walks in
        let other_walks : walks_in first_walk.list ≡ walks_in others = first_walk.walks in
        let few : walks_in others + 2 ≤ 2 * (length st.safe + length (news_in others)) = st.walks (1 - side) in
        let long : length known ≡ length prefix + length fewer = length-append prefix fewer in
        let long_fewer : length fewer ≡ length (news_in others) + length st.safe =
        length-append (news_in others) st.safe in
        let few_too : walks_in second.list + 2 ≤ 2 * length known =
        omega (arith, grown_walks, other_walks, few, long, long_fewer) in
        let total : length known + length (left net is home here order known) ≡ n =
        size net is home here order known base in
        let sum : length st.safe + (length (news_in acts) + length (news_in others)) ≡ n = st.sum side right.below in
        let many : 2 ≤ rest_at st side step = right.many in
        let rest : length (left net is home here order known) ≡ rest_at st side step =
        omega (arith, total, sum, long, long_fewer) in
        let told : ToldHalf net is a known halves.one =
        told_half net is a (walks_in second.list) known halves.one third_walk act few_too
        (left_out known order.nodes a.target target_left) halves.there halves.parts.grows_one in
        let teller : (acts : List Act) × Half net is a.node known halves.two acts =
        plain_half net is a.node (walks_in second.list) known halves.two third_walk few_too halves.parts.grows_two in
        let one_long : length halves.one ≡ length (left net is home here order known) - length
        (left net is home here order known) / 2 = halves.one_long in
        let two_long : length halves.two ≡ length (left net is home here order known) / 2 = halves.two_long in
        let it : Made net is home here order a.node side known told.list teller.0 =
        made net is home here order a.node side known halves.one halves.two told.list teller.0 right.below base
        halves.parts
        (omega (arith, one_long, two_long)) (omega (arith, one_long, rest, many)) (omega (arith, two_long, rest, many))
        told.half teller.1 in
        let told_is : it.stage.list side ≡ told.list = it.list_is side ∙ pick_own side told.list teller.0 in
        let side_below : side < 2 = right.below in
        let apart : 1 - side ≢ side = λ same. omega (arith, same, side_below) in
        let teller_is : it.stage.list (1 - side) ≡ teller.0 =
        it.list_is (1 - side) ∙ pick_other side (1 - side) told.list teller.0 apart in
        let told_long : length (news_in told.list) ≡ length halves.one = told.half.long in
        let teller_long : length (news_in teller.0) ≡ length halves.two = teller.1.long in
        let told_same : length (news_in (it.stage.list side)) ≡ length (news_in told.list) =
        ap (λ (l : List Act). length (news_in l)) told_is in
        let teller_same : length (news_in (it.stage.list (1 - side))) ≡ length (news_in teller.0) =
        ap (λ (l : List Act). length (news_in l)) teller_is in (
          it.stage,
          record {
            root = it.root_is;
            first = ap (λ (l : List Act). act_at l 0) told_is ∙ told.first;
            some = subst (λ (l : List Act). 0 < length l) (sym told_is) told.some;
            left = λ other q below any. by_cases (other == side)
                ((is_in q (news_in acts) ≡ true) × (is_in q prefix ≡ false))
                (λ same. left_is q (halves.parts.one_in q (told.half.from q
                (subst (λ (l : List Act). is_in q (news_in l) ≡ true) told_is
                (subst (λ (k : ℕ). is_in q (news_in (it.stage.list k)) ≡ true) (eqb-true other side same) any)))))
                (λ differ.
                let not_same : other ≢ side = eqb-false other side differ in
                left_is q (halves.parts.two_in q (teller.1.from q
                (subst (λ (l : List Act). is_in q (news_in l) ≡ true)
                (it.list_is other ∙ pick_other side other told.list teller.0 not_same) any))));
            all = λ q any out. elim (halves.parts.all q (is_left q any out)) [
              | inl h ↦ (
                side,
                right.below,
                subst (λ (l : List Act). is_in q (news_in l) ≡ true) (sym told_is) (told.half.gains q h),
              )
              | inr h ↦ (
                1 - side,
                omega arith,
                subst (λ (l : List Act). is_in q (news_in l) ≡ true) (sym teller_is) (teller.1.gains q h),
              )
            ];
            greater = omega (arith, told_same, told_long, one_long, rest);
            lesser = omega (arith, teller_same, teller_long, two_long, rest);
          },
        )

  -- The function is total: where no division can be told, the stage stays as it is.
  pub next_stage : (st : At) (side step : ℕ) → (new : At) × (Right st side step → IsNext st side step new)
  next_stage st side step =
      by_cases (nat_lt side 2) Next
      (λ low. by_cases (nat_lt step (length (st.list side))) Next
      (λ within. by_cases (act_at (st.list side) step).is_new Next
      (λ new. by_cases (nat_lt 1 (rest_at st side step)) Next
      (λ many.
      let two : 1 < rest_at st side step = ltb-true 1 (rest_at st side step) many in
      let it : (new : At) × IsNext st side step new = next_of st side step (record {
        below = ltb-true side 2 low;
        within = ltb-true step (length (st.list side)) within;
        is_new = new;
        many = omega (arith, two);
      }) in
      (it.0, λ right. it.1))
      (λ few. (
        st,
        λ right.
            let two : 2 ≤ rest_at st side step = right.many in
            absurd (true≢false (sym (lt-ltb 1 (rest_at st side step) (omega (arith, two))) ∙ few)),
      )))
      (λ old. (st, λ right. absurd (true≢false (sym right.is_new ∙ old)))))
      (λ beyond. (st, λ right. absurd (true≢false (sym (lt-ltb step (length (st.list side)) right.within) ∙ beyond)))))
      (λ high. (st, λ right. absurd (true≢false (sym (lt-ltb side 2 right.below) ∙ high))))
    where
      Next : Type 0
      Next = (new : At) × (Right st side step → IsNext st side step new)
