-- A stage of a search that is planned: what is explored, and for each side a list that explores its part of what is
-- left.
use Rattle.std.proofs.Common.{ℕ, ◌+◌, ◌-◌, ◌*◌, ◌/◌, ◌<◌, ◌≤◌, ◌≡◌, ◌⊎◌, ◌==◌, true, false, List, [], ◌∷◌, ◌++◌}
use Rattle.std.proofs.Common.{length, refl, sym, ap, ◌∙◌, subst, if◌then◌else◌, inl, inr, arith, Bool, ◌||◌}
use Rattle.bhs_model.proofs.StepLemmas.{by_cases}
use Rattle.std.specs.Prelude.{◌≢◌}
use Rattle.std.proofs.lemmas.List.{length-append}
use Rattle.std.proofs.lemmas.Bool.{true≢false, cond-true, cond-false, eq-eqb, ne_eqb}
use Rattle.std.proofs.lemmas.Bool.Decides.{eqb_tells}
use Rattle.bhs_net.specs.Network.{Network, IsNetwork, nodes_of}
use Rattle.bhs_protocols_mapped.proofs.Members.{is_in, in_head, in_tail, in_split, in_either, in_left, in_right}
use Rattle.bhs_protocols_mapped.proofs.Members.{AreApart, few_apart, many_in, or_true}
use Rattle.bhs_protocols_mapped.proofs.Ears.{HasAll}
use Rattle.bhs_protocols_divided.proofs.Tours.{Act, IsAct, news_in, has}
use Rattle.bhs_protocols_divided.proofs.Grown.{walks_in, head_of, IsTour, HasGrown, Grows, grown}
use Rattle.bhs_protocols_divided.proofs.ListedItineraries.{act_at}
use Rattle.bhs_protocols_divided.proofs.Rotated.{safe_news}
use Rattle.bhs_protocols_divided.proofs.Fronts.{left_of, left_in, front, rear, rear_in, fronts_grow, rears_grow}
use Rattle.bhs_protocols_divided.proofs.PlanParts.{left_out, left_or, left_apart, apart_append, front_in, front_long}
use Rattle.bhs_protocols_divided.proofs.PlanParts.{rear_long, rear_down, front_or_rear, not_both, drop_one, dropped_in}
use Rattle.bhs_protocols_divided.proofs.PlanParts.{dropped_or, dropped_long, grows_dropped}
use Rattle.bhs_protocols_divided.proofs.PlanSteps.{lengths_in, Walks, crossing, crossed, begun}

-- ---- a list for each side

abbrev pub pick : (s : ℕ) (told teller : List Act) (side : ℕ) → List Act
pick s told teller side = if side == s then told else teller

pub pick_own : (s : ℕ) (told teller : List Act) → pick s told teller s ≡ told
pick_own s told teller = cond-true _ _ _ (eq-eqb s s refl)

pub pick_other : (s side : ℕ) (told teller : List Act) → side ≢ s → pick s told teller side ≡ teller
pick_other s side told teller other = cond-false _ _ _ (ne_eqb side s other)

by_side : (P : List Act → Type 0) (s side : ℕ) (told teller : List Act) → P told → P teller
    → P (pick s told teller side)
by_side P s side told teller one two = elim (eqb_tells side s) [
  | inl h ↦ subst P (sym (cond-true _ _ _ h.0)) one
  | inr h ↦ subst P (sym (cond-false _ _ _ h.0)) two
]

by_pair : (P : List Act → List Act → Type 0) (s side : ℕ) (told teller : List Act) → s < 2 → side < 2
    → P told teller → P teller told → P (pick s told teller side) (pick s told teller (1 - side))
by_pair P s side told teller below below_too one two = elim (eqb_tells side s) [
  | inl h ↦
      let differ : 1 - side ≢ s = λ same. omega (arith, below_too, h.1, same) in
      subst (λ (l : List Act). P l (pick s told teller (1 - side))) (sym (cond-true _ _ _ h.0))
      (subst (P told) (sym (pick_other s (1 - side) told teller differ)) one)
  | inr h ↦
      let same : 1 - side ≡ s = omega (arith, below, below_too, h.1) in
      subst (λ (l : List Act). P l (pick s told teller (1 - side))) (sym (cond-false _ _ _ h.0))
      (subst (P teller) (sym (subst (λ (k : ℕ). pick s told teller k ≡ told) (sym same) (pick_own s told teller))) two)
]

pub first_is : (d : Act) (acts : List Act) → 0 < length acts → act_at acts 0 ≡ head_of d acts
first_is d [] some = absurd (omega (arith, some))
first_is d (a ∷ acts) some = refl

module _ (net : Network) (is : IsNetwork net) where
  abbrev n : ℕ
  n = nodes_of net

  abbrev Around : ℕ → List ℕ → List Act → Type 0
  Around = IsTour net (λ u port below. (is.labelled.within u port below, is.labelled.back u port below))

  abbrev Growing : List ℕ → List ℕ → Type 0
  Growing = Grows net (λ u port below. (is.labelled.within u port below, is.labelled.back u port below))

  abbrev pub Walking : ℕ → List ℕ → ℕ → Type 0
  Walking = Walks net (λ u port below. (is.labelled.within u port below, is.labelled.back u port below))

  -- ---- one part

  -- a list that explores these nodes
  pub record Half (root : ℕ) (safe nodes : List ℕ) (acts : List Act) : Type 0 where
    pub tour : Around root safe acts
    pub from : (q : ℕ) → is_in q (news_in acts) ≡ true → is_in q nodes ≡ true
    pub gains : (q : ℕ) → is_in q nodes ≡ true → is_in q (news_in acts) ≡ true
    pub long : length (news_in acts) ≡ length nodes
    pub walks : walks_in acts + 2 ≤ 2 * (length safe + length (news_in acts))

  pub plain_half : (root count : ℕ) (safe nodes : List ℕ) → Walking root safe count → count + 2 ≤ 2 * length safe
      → Growing safe nodes → (acts : List Act) × Half root safe nodes acts
  plain_half root count safe nodes around few grows =
      let none : news_in around.list ≡ [] = safe_news safe around.list around.is in
      let never : (q : ℕ) → is_in q (news_in around.list) ≡ true → ⊥ =
      λ q any. true≢false (sym any ∙ ap (is_in q) none) in
      let it : HasGrown net (λ u port below. (is.labelled.within u port below, is.labelled.back u port below)) root safe
      around.list nodes =
      grown net (λ u port below. (is.labelled.within u port below, is.labelled.back u port below)) root safe safe
      around.list nodes around.tour (λ q any. inl any)
      (λ q any. elim any [
        | inl h ↦ h
        | inr h ↦ absurd (never q h)
      ]) grows in
      let total : length it.list ≡ length (news_in it.list) + walks_in it.list = lengths_in it.list in
      let old : length around.list ≡ length (news_in around.list) + walks_in around.list = lengths_in around.list in
      let zero_news : length (news_in around.list) ≡ 0 = ap length none in
      let long : length it.list ≡ length around.list + 3 * length nodes = it.long in
      let walks : walks_in it.list ≡ walks_in around.list + 2 * length nodes = it.walks in
      let counted : walks_in around.list ≡ count = around.walks in (
        it.list,
        record {
          tour = it.tour;
          from = λ q any. elim (it.from q any) [
            | inl h ↦ absurd (never q h)
            | inr h ↦ h
          ];
          gains = it.gains;
          long = omega (arith, total, old, zero_news, long, walks);
          walks = omega (arith, total, old, zero_news, long, walks, counted, few);
        },
      )

  -- a list that begins with this crossing
  pub record ToldHalf (a : Act) (safe nodes : List ℕ) : Type 0 where
    pub list : List Act
    pub half : Half a.node safe nodes list
    pub first : act_at list 0 ≡ crossing a
    pub some : 0 < length list

  pub told_half : (a : Act) (count : ℕ) (safe nodes : List ℕ) → Walking a.node safe count → IsAct net a.node a
      → count + 2 ≤ 2 * length safe → is_in a.target safe ≡ false → is_in a.target nodes ≡ true → Growing safe nodes
      → ToldHalf a safe nodes
  told_half a count safe nodes around act few new known grows =
      let none : news_in around.list ≡ [] = safe_news safe around.list around.is in
      let never : (q : ℕ) → is_in q (news_in around.list) ≡ true → ⊥ =
      λ q any. true≢false (sym any ∙ ap (is_in q) none) in
      let start : List Act = crossed a ++ around.list in
      let first_tour : Around a.node safe start =
      begun net (λ u port below. (is.labelled.within u port below, is.labelled.back u port below)) a safe around.list
      around.tour act new (never a.target) in
      let others : List ℕ = drop_one a.target nodes in
      let it : HasGrown net (λ u port below. (is.labelled.within u port below, is.labelled.back u port below)) a.node
      safe start others =
      grown net (λ u port below. (is.labelled.within u port below, is.labelled.back u port below)) a.node safe
      (a.target ∷ safe) start others first_tour
      (λ q any. elim (in_split q a.target safe any) [
        | inl e ↦ inr (subst (λ (k : ℕ). is_in k (a.target ∷ news_in around.list) ≡ true) (sym e)
            (in_head a.target (news_in around.list)))
        | inr e ↦ inl e
      ])
      (λ q any. elim any [
        | inl h ↦ in_tail q a.target safe h
        | inr h ↦ elim (in_split q a.target (news_in around.list) h) [
          | inl e ↦ subst (λ (k : ℕ). is_in k (a.target ∷ safe) ≡ true) (sym e) (in_head a.target safe)
          | inr e ↦ absurd (never q e)
        ]
      ])
      (grows_dropped net is a.target safe nodes new grows known) in
      let total : length it.list ≡ length (news_in it.list) + walks_in it.list = lengths_in it.list in
      let old : length around.list ≡ length (news_in around.list) + walks_in around.list = lengths_in around.list in
      let zero_news : length (news_in around.list) ≡ 0 = ap length none in
      let long : length it.list ≡ length start + 3 * length others = it.long in
      let long_start : length start ≡ 3 + length around.list = omega arith in
      let walks : walks_in it.list ≡ walks_in start + 2 * length others = it.walks in
      let walks_start : walks_in start ≡ 2 + walks_in around.list = omega arith in
      let counted : walks_in around.list ≡ count = around.walks in
      let dropped : length others + 1 ≡ length nodes = dropped_long a.target nodes known in
      let some : 0 < length it.list = omega (arith, long, long_start) in
      let rooted : (((a.target == a.node) || ((a.node == a.node) || has a.node around.list))) ≡ true =
      ap (λ (b : Bool). (a.target == a.node) || (b || has a.node around.list)) (eq-eqb a.node a.node refl)
      ∙ or_true (a.target == a.node) in
      record {
        list = it.list;
        half = record {
          tour = it.tour;
          from = λ q any. elim (it.from q any) [
            | inl h ↦ elim (in_split q a.target (news_in around.list) h) [
              | inl e ↦ subst (λ (k : ℕ). is_in k nodes ≡ true) (sym e) known
              | inr e ↦ absurd (never q e)
            ]
            | inr h ↦ dropped_in a.target nodes q h
          ];
          gains = λ q any. elim (dropped_or a.target nodes q any) [
            | inl e ↦ it.keeps q (subst (λ (k : ℕ). is_in k (a.target ∷ news_in around.list) ≡ true) (sym e)
                (in_head a.target (news_in around.list)))
            | inr e ↦ it.gains q e
          ];
          long = omega (arith, total, old, zero_news, long, long_start, walks, walks_start, dropped);
          walks = omega (arith, total, old, zero_news, long, long_start, walks, walks_start, dropped, counted, few);
        };
        first = first_is (crossing a) it.list some ∙ it.head (crossing a) rooted;
        some = some;
      }

  -- ---- both parts

  module _ (home : ℕ) (here : home < n) (order : HasAll net is home) where
    pub record Base (safe : List ℕ) : Type 0 where
      pub home_in : is_in home safe ≡ true
      pub apart : AreApart safe
      pub within : (q : ℕ) → is_in q safe ≡ true → q < n

    abbrev pub left : List ℕ → List ℕ
    left safe = left_of safe order.nodes

    pub known_or_left : (safe : List ℕ) → Base safe → (q : ℕ) → q < n
        → (is_in q safe ≡ true) ⊎ (is_in q (left safe) ≡ true)
    known_or_left safe base q below = by_cases (is_in q safe) ((is_in q safe ≡ true) ⊎ (is_in q (left safe) ≡ true))
        (λ yes. inl yes)
        (λ new. elim (in_split q home order.nodes (order.all q below)) [
          | inl e ↦ absurd (true≢false (sym (subst (λ (k : ℕ). is_in k safe ≡ true) (sym e) base.home_in) ∙ new))
          | inr e ↦ inr (left_or safe order.nodes q e new)
        ])

    pub left_below : (safe : List ℕ) (q : ℕ) → is_in q (left safe) ≡ true → q < n
    left_below safe q any = order.order.within q (left_in safe order.nodes q any)

    pub size : (safe : List ℕ) → Base safe → length safe + length (left safe) ≡ n
    size safe base =
        let both : length (safe ++ left safe) ≡ length safe + length (left safe) = length-append safe (left safe) in
        let few : length (safe ++ left safe) ≤ n = few_apart (safe ++ left safe) n
        (apart_append safe (left safe) base.apart (left_apart safe order.nodes order.order.apart)
        (λ q one two. true≢false (sym one ∙ left_out safe order.nodes q two)))
        (λ q any. elim (in_either q safe (left safe) any) [
          | inl h ↦ base.within q h
          | inr h ↦ left_below safe q h
        ]) in
        let many : n ≤ length (safe ++ left safe) = many_in (safe ++ left safe) n
        (λ q below. elim (known_or_left safe base q below) [
          | inl h ↦ in_left q safe (left safe) h
          | inr h ↦ in_right q safe (left safe) h
        ]) in
        omega (arith, both, few, many)

    pub record Parts (safe one two : List ℕ) : Type 0 where
      pub one_in : (q : ℕ) → is_in q one ≡ true → is_in q (left safe) ≡ true
      pub two_in : (q : ℕ) → is_in q two ≡ true → is_in q (left safe) ≡ true
      pub all : (q : ℕ) → is_in q (left safe) ≡ true → (is_in q one ≡ true) ⊎ (is_in q two ≡ true)
      pub never : (q : ℕ) → is_in q one ≡ true → is_in q two ≡ true → ⊥
      pub grows_one : Growing safe one
      pub grows_two : Growing safe two

    pub front_first : (k : ℕ) (safe : List ℕ) → Base safe → Parts safe (front k (left safe)) (rear k (left safe))
    front_first k safe base = record {
      one_in = λ q any. front_in k (left safe) q any;
      two_in = λ q any. rear_in net is k (left safe) q any;
      all = λ q any. front_or_rear net is k (left safe) q any;
      never = λ q one two. not_both net is k (left safe) q (left_apart safe order.nodes order.order.apart) one two;
      grows_one = fronts_grow net is k home safe order.nodes base.home_in order.order.away order.order.apart
          order.order.earlier;
      grows_two = rears_grow net is k home safe order.nodes base.home_in order.order.apart order.order.later;
    }

    turned : (safe one two : List ℕ) → Parts safe one two → Parts safe two one
    turned safe one two it = record {
      one_in = it.two_in;
      two_in = it.one_in;
      all = λ q any. elim (it.all q any) [
        | inl h ↦ inr h
        | inr h ↦ inl h
      ];
      never = λ q a b. it.never q b a;
      grows_one = it.grows_two;
      grows_two = it.grows_one;
    }

    -- what is left in two halves, and this node in the greater one
    pub record Split (safe : List ℕ) (w : ℕ) : Type 0 where
      pub one : List ℕ
      pub two : List ℕ
      pub parts : Parts safe one two
      pub there : is_in w one ≡ true
      pub one_long : length one ≡ length (left safe) - length (left safe) / 2
      pub two_long : length two ≡ length (left safe) / 2

    pub split : (safe : List ℕ) (w : ℕ) → Base safe → is_in w (left safe) ≡ true → Split safe w
    split safe w base known =
        let few : length (left safe) - length (left safe) / 2 ≤ length (left safe) = omega arith in
        let few_too : length (left safe) / 2 ≤ length (left safe) = omega arith in
        elim (front_or_rear net is (length (left safe) - length (left safe) / 2) (left safe) w known) [
          | inl h ↦
              let long : length (front (length (left safe) - length (left safe) / 2) (left safe))
              ≡ length (left safe) - length (left safe) / 2 =
              front_long (length (left safe) - length (left safe) / 2) (left safe) few in
              let long_too : length (rear (length (left safe) - length (left safe) / 2) (left safe))
              ≡ length (left safe) - (length (left safe) - length (left safe) / 2) =
              rear_long (length (left safe) - length (left safe) / 2) (left safe) few in
              record {
                one = front (length (left safe) - length (left safe) / 2) (left safe);
                two = rear (length (left safe) - length (left safe) / 2) (left safe);
                parts = front_first (length (left safe) - length (left safe) / 2) safe base;
                there = h;
                one_long = long;
                two_long = omega (arith, long_too);
              }
          | inr h ↦ record {
            one = rear (length (left safe) / 2) (left safe);
            two = front (length (left safe) / 2) (left safe);
            parts = turned safe (front (length (left safe) / 2) (left safe)) (rear (length (left safe) / 2) (left safe))
                (front_first (length (left safe) / 2) safe base);
            there = rear_down net is (length (left safe) - length (left safe) / 2) (length (left safe) / 2) (left safe)
                w
                (omega arith) h;
            one_long = rear_long (length (left safe) / 2) (left safe) few_too;
            two_long = front_long (length (left safe) / 2) (left safe) few_too;
          }
        ]

    -- ---- a stage

    pub record Stage : Type 0 where
      pub root : ℕ
      pub safe : List ℕ
      pub list : (side : ℕ) → List Act
      pub base : Base safe
      pub tour : (side : ℕ) → Around root safe (list side)
      pub below : (side q : ℕ) → is_in q (news_in (list side)) ≡ true → q < n
      pub never : (side q : ℕ) → side < 2 → is_in q (news_in (list side)) ≡ true
          → is_in q (news_in (list (1 - side))) ≡ true → ⊥
      pub all : (q : ℕ) → q < n → (is_in q safe ≡ true)
          ⊎ ((side : ℕ) × (side < 2) × (is_in q (news_in (list side)) ≡ true))
      pub sum : (side : ℕ) → side < 2
          → length safe + (length (news_in (list side)) + length (news_in (list (1 - side)))) ≡ n
      pub walks : (side : ℕ) → walks_in (list side) + 2 ≤ 2 * (length safe + length (news_in (list side)))
      pub some : (side : ℕ) → 0 < length (news_in (list side))

    pub record Made (root s : ℕ) (safe : List ℕ) (told teller : List Act) : Type 0 where
      pub stage : Stage
      pub root_is : stage.root ≡ root
      pub safe_is : stage.safe ≡ safe
      pub list_is : (side : ℕ) → stage.list side ≡ pick s told teller side

    pub made : (root s : ℕ) (safe one two : List ℕ) (told teller : List Act) → s < 2 → Base safe → Parts safe one two
        → length one + length two ≡ length (left safe) → 0 < length one → 0 < length two
        → Half root safe one told → Half root safe two teller → Made root s safe told teller
    made root s safe one two told teller below base parts sum some some_too half half_too =
        let total : length safe + length (left safe) ≡ n = size safe base in
        let long : length (news_in told) ≡ length one = half.long in
        let long_too : length (news_in teller) ≡ length two = half_too.long in
        record {
          stage = record {
            root = root;
            safe = safe;
            list = pick s told teller;
            base = base;
            tour = λ side. by_side (Around root safe) s side told teller half.tour half_too.tour;
            below = λ side q. by_side (λ (l : List Act). is_in q (news_in l) ≡ true → q < n) s side told teller
                (λ any. left_below safe q (parts.one_in q (half.from q any)))
                (λ any. left_below safe q (parts.two_in q (half_too.from q any)));
            never = λ side q below_too. by_pair
                (λ (l m : List Act). is_in q (news_in l) ≡ true → is_in q (news_in m) ≡ true → ⊥) s side told teller
                below below_too (λ a b. parts.never q (half.from q a) (half_too.from q b))
                (λ a b. parts.never q (half.from q b) (half_too.from q a));
            all = λ q small. elim (known_or_left safe base q small) [
              | inl h ↦ inl h
              | inr h ↦ elim (parts.all q h) [
                | inl e ↦ inr (
                  s,
                  below,
                  subst (λ (l : List Act). is_in q (news_in l) ≡ true) (sym (pick_own s told teller)) (half.gains q e),
                )
                | inr e ↦ inr (
                  1 - s,
                  omega arith,
                  subst (λ (l : List Act). is_in q (news_in l) ≡ true)
                      (sym (pick_other s (1 - s) told teller (λ same. omega (arith, same, below))))
                      (half_too.gains q e),
                )
              ]
            ];
            sum = λ side below_too. by_pair
                (λ (l m : List Act). length safe + (length (news_in l) + length (news_in m)) ≡ n) s side told teller
                below below_too (omega (arith, total, sum, long, long_too)) (omega (arith, total, sum, long, long_too));
            walks = λ side. by_side
                (λ (l : List Act). walks_in l + 2 ≤ 2 * (length safe + length (news_in l))) s side told teller
                half.walks half_too.walks;
            some = λ side. by_side (λ (l : List Act). 0 < length (news_in l)) s side told teller
                (omega (arith, long, some)) (omega (arith, long_too, some_too));
          };
          root_is = refl;
          safe_is = refl;
          list_is = λ side. refl;
        }

    -- ---- the first stage

    first_base : Base (home ∷ [])
    first_base = record {
      home_in = in_head home [];
      apart = (refl, tt);
      within = λ q any. elim (in_split q home [] any) [
        | inl e ↦ subst (λ (k : ℕ). k < n) (sym e) here
        | inr e ↦ absurd (true≢false (sym e))
      ];
    }

    stays : Walking home (home ∷ []) 0
    stays = record {
      list = [];
      tour = record {
        chain = refl;
        fresh = tt;
        root_in = in_head home [];
        visits = λ q any. elim any [
          | inl h ↦ elim (in_split q home [] h) [
            | inl e ↦ inr e
            | inr e ↦ absurd (true≢false (sym e))
          ]
          | inr h ↦ absurd (true≢false (sym h))
        ];
      };
      is = tt;
      walks = refl;
    }

    pub record Start : Type 0 where
      pub stage : Stage
      pub root_is : stage.root ≡ home
      pub safe_is : stage.safe ≡ home ∷ []
      pub greater : length (news_in (stage.list 0)) ≡ n / 2
      pub lesser : length (news_in (stage.list 1)) ≡ (n - 1) / 2

    pub start : 3 ≤ n → Start
    start three =
        let rest : List ℕ = left (home ∷ []) in
        let total : length (home ∷ []) + length rest ≡ n = size (home ∷ []) first_base in
        let one : List ℕ = front (n / 2) rest in
        let two : List ℕ = rear (n / 2) rest in
        let long : length one ≡ n / 2 = front_long (n / 2) rest (omega (arith, total, three)) in
        let long_too : length two ≡ length rest - n / 2 = rear_long (n / 2) rest (omega (arith, total, three)) in
        let parts : Parts (home ∷ []) one two = front_first (n / 2) (home ∷ []) first_base in
        let told : (acts : List Act) × Half home (home ∷ []) one acts =
        plain_half home 0 (home ∷ []) one stays (omega arith) parts.grows_one in
        let teller : (acts : List Act) × Half home (home ∷ []) two acts =
        plain_half home 0 (home ∷ []) two stays (omega arith) parts.grows_two in
        let it : Made home 0 (home ∷ []) told.0 teller.0 =
        made home 0 (home ∷ []) one two told.0 teller.0 (omega arith) first_base parts
        (omega (arith, total, long, long_too)) (omega (arith, long, three)) (omega (arith, total, long_too, three))
        told.1
        teller.1 in
        let told_long : length (news_in told.0) ≡ length one = told.1.long in
        let teller_long : length (news_in teller.0) ≡ length two = teller.1.long in
        let at_0 : length (news_in (it.stage.list 0)) ≡ length (news_in told.0) =
        ap (λ (l : List Act). length (news_in l)) (it.list_is 0) in
        let at_1 : length (news_in (it.stage.list 1)) ≡ length (news_in teller.0) =
        ap (λ (l : List Act). length (news_in l)) (it.list_is 1) in
        record {
          stage = it.stage;
          root_is = it.root_is;
          safe_is = it.safe_is;
          greater = omega (arith, told_long, at_0, long);
          lesser = omega (arith, teller_long, at_1, long_too, total);
        }
