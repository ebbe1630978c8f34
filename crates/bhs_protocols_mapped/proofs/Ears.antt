-- An order of the nodes of a network of a file, from each home base, such that each other node has a neighbour that
-- comes earlier, and one that comes later or is the home base. It grows by ears: paths of new nodes between two nodes
-- that are in order. An ear comes right after the first node that has a new neighbour, so its other end comes later.
use Rattle.std.proofs.Common.{ℕ, zero, suc, ◌+◌, ◌<◌, ◌≤◌, ◌≡◌, ◌⊎◌, true, false, List, [], ◌∷◌, ◌++◌, length}
use Rattle.std.proofs.Common.{refl, sym, ap, ◌∙◌, subst, inl, inr, arith}
use Rattle.std.proofs.lemmas.List.{length-append}
use Rattle.std.specs.Prelude.{◌≢◌}
use Rattle.std.proofs.lemmas.Bool.{true≢false}
use Rattle.std.proofs.lemmas.Bool.Decides.{eqb_tells}
use Rattle.bhs_net.specs.Paths.{Path, IsPath, Without}
use Rattle.bhs_net.specs.Network.{Network, IsNetwork, Leads, nodes_of, degree_of, far_of}
use Rattle.bhs_net.proofs.Walks as walks
use Rattle.bhs_model.proofs.StepLemmas.{by_cases}
use Rattle.bhs_protocols_mapped.proofs.Members.{is_in, in_head, in_tail, in_split, in_left, in_right, in_either, not_in}
use Rattle.bhs_protocols_mapped.proofs.Members.{AreApart, few_apart}

module _ (net : Network) (is : IsNetwork net) where
  abbrev n : ℕ
  n = nodes_of net

  back : (a b : ℕ) → Leads net a b → Leads net b a
  back = walks.Leads-back net is.labelled

  -- This node is adjacent to a node of the list.
  abbrev pub IsNear : List ℕ → ℕ → Type 0
  IsNear nodes v = (u : ℕ) × (is_in u nodes ≡ true) × Leads net u v

  -- Each node of the second list has a link to an earlier node of this list or to a node of the first.
  abbrev pub HasEarlier : (seen : List ℕ) → List ℕ → Type 0
  HasEarlier seen [] = Unit
  HasEarlier seen (v ∷ vs) = IsNear seen v × HasEarlier (v ∷ seen) vs

  -- Each node has a link to a later node of this list or to a node of the end list.
  abbrev pub HasLater : (ends : List ℕ) → List ℕ → Type 0
  HasLater ends [] = Unit
  HasLater ends (v ∷ vs) = IsNear (vs ++ ends) v × HasLater ends vs

  near_more : (S T : List ℕ) (v : ℕ) → ((q : ℕ) → is_in q S ≡ true → is_in q T ≡ true) → IsNear S v → IsNear T v
  near_more S T v more near = (near.0, more near.0 near.1, near.2)

  cons_more : (S T : List ℕ) (v : ℕ) → ((q : ℕ) → is_in q S ≡ true → is_in q T ≡ true) → (q : ℕ)
      → is_in q (v ∷ S) ≡ true → is_in q (v ∷ T) ≡ true
  cons_more S T v more q any = elim (in_split q v S any) [
    | inl h ↦ subst (λ (k : ℕ). is_in k (v ∷ T) ≡ true) (sym h) (in_head v T)
    | inr h ↦ in_tail q v T (more q h)
  ]

  earlier_more : (S T L : List ℕ) → ((q : ℕ) → is_in q S ≡ true → is_in q T ≡ true) → HasEarlier S L → HasEarlier T L
  earlier_more S T [] more has = tt
  earlier_more S T (v ∷ vs) more has =
      (near_more S T v more has.0, earlier_more (v ∷ S) (v ∷ T) vs (cons_more S T v more) has.1)

  -- ---- Ears: an open ear decomposition orders the nodes.

  module _ (old : List ℕ) where
    -- the first node of a list, or `w` if the list is empty
    abbrev next : (w : ℕ) → List ℕ → ℕ
    next w [] = w
    next w (y ∷ ys) = y

    -- An ear is a path of distinct new nodes; its last node has a link to `w`.
    abbrev IsEar : (w : ℕ) → List ℕ → Type 0
    IsEar w [] = Unit
    IsEar w (y ∷ ys) = (is_in y old ≡ false) × (is_in y ys ≡ false) × (y < n) × Leads net y (next w ys) × IsEar w ys

    -- an ear that begins with x and ends at a node that is in order, but not at u
    record EarFrom (u x : ℕ) : Type 0 where
      rest : List ℕ
      w : ℕ
      w_in : is_in w old ≡ true
      w_not : w ≢ u
      ear : IsEar w (x ∷ rest)

    cut_short : (x w : ℕ) (ys : List ℕ) → IsEar w ys → is_in x ys ≡ true → (rest : List ℕ) × IsEar w (x ∷ rest)
    cut_short x w [] ear any = absurd (true≢false (sym any))
    cut_short x w (y ∷ ys) ear any = elim (in_split x y ys any) [
      | inl h ↦ (ys, subst (λ (k : ℕ). IsEar w (k ∷ ys)) (sym h) ear)
      | inr h ↦ cut_short x w ys ear.4 h
    ]

    ear_from : (u start steps x : ℕ) → is_in start old ≡ true → is_in x old ≡ false
        → Path (Without u (Leads net)) start x steps → EarFrom u x
    ear_from u start zero x known new path =
        absurd (true≢false (sym known ∙ ap (λ (k : ℕ). is_in k old) path ∙ new))
    ear_from u start (suc steps) x known new path =
        let before : ℕ = path.0 in
        let leads : Leads net x before = back before x path.2.0 in
        let here : x < n = walks.Leads-from net is.labelled x before leads in
        by_cases (is_in before old) (EarFrom u x)
        (λ yes. record { rest = []; w = before; w_in = yes; w_not = path.2.1; ear = (new, refl, here, leads, tt) })
        (λ none.
        let it : EarFrom u before = ear_from u start steps before known none path.1 in
        by_cases (is_in x (before ∷ it.rest)) (EarFrom u x)
        (λ again.
        let short = cut_short x it.w (before ∷ it.rest) it.ear again in
        record { rest = short.0; w = it.w; w_in = it.w_in; w_not = it.w_not; ear = short.1 })
        (λ once. record {
          rest = before ∷ it.rest;
          w = it.w;
          w_in = it.w_in;
          w_not = it.w_not;
          ear = (new, once, here, leads, it.ear);
        }))

    -- ---- an ear is put in order

    ear_earlier : (v w : ℕ) (S ys B : List ℕ) → is_in v S ≡ true → Leads net v (next w ys) → IsEar w ys
        → HasEarlier S B → HasEarlier S (ys ++ B)
    ear_earlier v w S [] B known leads ear has = has
    ear_earlier v w S (y ∷ ys) B known leads ear has = (
      (v, known, leads),
      ear_earlier y w (y ∷ S) ys B (in_head y S) ear.3 ear.4
          (earlier_more S (y ∷ S) B (λ q. in_tail q y S) has),
    )

    next_in : (w : ℕ) (ys B ends : List ℕ) → is_in w B ≡ true → is_in (next w ys) ((ys ++ B) ++ ends) ≡ true
    next_in w [] B ends known = in_left w B ends known
    next_in w (y ∷ ys) B ends known = in_head y ((ys ++ B) ++ ends)

    ear_later : (w : ℕ) (ys B ends : List ℕ) → is_in w B ≡ true → IsEar w ys → HasLater ends B
        → HasLater ends (ys ++ B)
    ear_later w [] B ends known ear has = has
    ear_later w (y ∷ ys) B ends known ear has =
        ((next w ys, next_in w ys B ends known, back y (next w ys) ear.3), ear_later w ys B ends known ear.4 has)

    ear_new : (w : ℕ) (ys : List ℕ) → IsEar w ys → (q : ℕ) → is_in q ys ≡ true → (is_in q old ≡ false) × (q < n)
    ear_new w [] ear q any = absurd (true≢false (sym any))
    ear_new w (y ∷ ys) ear q any = elim (in_split q y ys any) [
      | inl h ↦ (ap (λ (k : ℕ). is_in k old) h ∙ ear.0, subst (λ (k : ℕ). k < n) (sym h) ear.2)
      | inr h ↦ ear_new w ys ear.4 q h
    ]

    ear_apart : (w : ℕ) (ys B : List ℕ) → IsEar w ys → ((q : ℕ) → is_in q B ≡ true → is_in q old ≡ true)
        → AreApart B → AreApart (ys ++ B)
    ear_apart w [] B ear within apart = apart
    ear_apart w (y ∷ ys) B ear within apart = (
      not_in y (ys ++ B) (λ any. elim (in_either y ys B any) [
        | inl h ↦ true≢false (sym h ∙ ear.1)
        | inr h ↦ true≢false (sym (within y h) ∙ ear.0)
      ]),
      ear_apart w ys B ear.4 within apart,
    )

    -- every link of the node leads to a node that is in order
    abbrev IsClosed : ℕ → Type 0
    IsClosed v = (port : ℕ) → port < degree_of net v → is_in (far_of net v port).0 old ≡ true

    ear_open : (w y : ℕ) (ys : List ℕ) → IsEar w (y ∷ ys) → IsClosed w → ⊥
    ear_open w y [] ear closed =
        let leads : Leads net w y = back y w ear.3 in
        true≢false (sym (closed leads.0 leads.1) ∙ ap (λ (k : ℕ). is_in k old) leads.2 ∙ ear.0)
    ear_open w y (z ∷ ys) ear closed = ear_open w z ys ear.4 closed

    abbrev IsOpen : ℕ → Type 0
    IsOpen v = (x : ℕ) × (is_in x old ≡ false) × Leads net v x

    look : (v count : ℕ) → count ≤ degree_of net v
        → IsOpen v ⊎ ((port : ℕ) → port < count → is_in (far_of net v port).0 old ≡ true)
    look v zero few = inr (λ port below. absurd (omega (arith, below)))
    look v (suc count) few = elim (look v count (omega (arith, few))) [
      | inl h ↦ inl h
      | inr h ↦ by_cases (is_in (far_of net v count).0 old)
          (IsOpen v ⊎ ((port : ℕ) → port < suc count → is_in (far_of net v port).0 old ≡ true))
          (λ yes. inr (λ port below. elim (eqb_tells port count) [
            | inl e ↦ subst (λ (k : ℕ). is_in (far_of net v k).0 old ≡ true) (sym e.1) yes
            | inr e ↦ h port (omega (arith, below, e.1))
          ]))
          (λ none. inl ((far_of net v count).0, none, (count, omega (arith, few), refl)))
    ]

    -- an order of more nodes
    record IsLonger (ends S B : List ℕ) : Type 0 where
      list : List ℕ
      earlier : HasEarlier S list
      later : HasLater ends list
      apart : AreApart list
      keeps : (q : ℕ) → is_in q B ≡ true → is_in q list ≡ true
      from : (q : ℕ) → is_in q list ≡ true → (is_in q B ≡ true) ⊎ ((is_in q old ≡ false) × (q < n))
      longer : length B < length list

    put_in : (v : ℕ) (ends S B : List ℕ) (open_at : IsOpen v) (it : EarFrom v open_at.0) → is_in v S ≡ true
        → is_in it.w B ≡ true → ((q : ℕ) → is_in q B ≡ true → is_in q old ≡ true) → HasEarlier S B → HasLater ends B
        → AreApart B → IsLonger ends S B
    put_in v ends S B open_at it known after within earlier later apart =
        let ys : List ℕ = open_at.0 ∷ it.rest in
        record {
          list = ys ++ B;
          earlier = ear_earlier v it.w S ys B known open_at.2 it.ear earlier;
          later = ear_later it.w ys B ends after it.ear later;
          apart = ear_apart it.w ys B it.ear within apart;
          keeps = λ q any. in_right q ys B any;
          from = λ q any. elim (in_either q ys B any) [
            | inl h ↦ inr (ear_new it.w ys it.ear q h)
            | inr h ↦ inl h
          ];
          longer = let long : length (ys ++ B) ≡ length ys + length B = length-append ys B in omega (arith, long);
        }

    -- two nodes that are in order
    record HasTwo : Type 0 where
      one : ℕ
      other : ℕ
      one_in : is_in one old ≡ true
      other_in : is_in other old ≡ true
      differ : one ≢ other
      within : (q : ℕ) → is_in q old ≡ true → q < n

    abbrev AreClosed : Type 0
    AreClosed = (q : ℕ) → is_in q old ≡ true → IsClosed q

    ear_at : HasTwo → (v : ℕ) → is_in v old ≡ true → (open_at : IsOpen v) → EarFrom v open_at.0
    ear_at two v known open_at = elim (eqb_tells two.one v) [
      | inl h ↦ from two.other two.other_in (λ same. two.differ (h.1 ∙ sym same))
      | inr h ↦ from two.one two.one_in h.1
    ]
      where
        from : (start : ℕ) → is_in start old ≡ true → start ≢ v → EarFrom v open_at.0
        from start start_in apart =
            let x : ℕ = open_at.0 in
            let new : x ≢ v = λ same. true≢false (sym known ∙ ap (λ (k : ℕ). is_in k old) (sym same) ∙ open_at.1) in
            let path : IsPath (Without v (Leads net)) start x =
            is.biconnected v (two.within v known) start x (two.within start start_in)
            (walks.Leads-to net is.labelled v x open_at.2) apart new in
            ear_from v start path.0 x start_in open_at.1 path.1

    opened : (two : HasTwo) (v : ℕ) (ends S B : List ℕ) → is_in v S ≡ true → is_in v old ≡ true
        → ((q : ℕ) → is_in q S ≡ true → (q ≡ v) ⊎ IsClosed q)
        → ((q : ℕ) → is_in q old ≡ true → (is_in q S ≡ true) ⊎ (is_in q B ≡ true))
        → ((q : ℕ) → is_in q B ≡ true → is_in q old ≡ true) → HasEarlier S B → HasLater ends B → AreApart B
        → IsOpen v → IsLonger ends S B
    opened two v ends S B known here closed cover within earlier later apart open_at =
        let it : EarFrom v open_at.0 = ear_at two v here open_at in
        elim (cover it.w it.w_in) [
          | inl h ↦ absurd (elim (closed it.w h) [
            | inl same ↦ it.w_not same
            | inr shut ↦ ear_open it.w open_at.0 it.rest it.ear shut
          ])
          | inr h ↦ put_in v ends S B open_at it known h within earlier later apart
        ]

    all_closed : (v : ℕ) (S : List ℕ) → ((q : ℕ) → is_in q S ≡ true → (q ≡ v) ⊎ IsClosed q) → IsClosed v → (q : ℕ)
        → is_in q S ≡ true → IsClosed q
    all_closed v S closed shut q any = elim (closed q any) [
      | inl h ↦ subst (λ (k : ℕ). IsClosed k) (sym h) shut
      | inr h ↦ h
    ]

    with_first : (ends S : List ℕ) (b : ℕ) (C : List ℕ) → ((q : ℕ) → is_in q (b ∷ C) ≡ true → is_in q old ≡ true)
        → HasEarlier S (b ∷ C) → HasLater ends (b ∷ C) → AreApart (b ∷ C) → IsLonger ends (b ∷ S) C
        → IsLonger ends S (b ∷ C)
    with_first ends S b C within earlier later apart it =
        let longer : length C < length it.list = it.longer in
        record {
          list = b ∷ it.list;
          earlier = (earlier.0, it.earlier);
          later = (
            near_more (C ++ ends) (it.list ++ ends) b (λ q any. elim (in_either q C ends any) [
              | inl h ↦ in_left q it.list ends (it.keeps q h)
              | inr h ↦ in_right q it.list ends h
            ]) later.0,
            it.later,
          );
          apart = (
            not_in b it.list (λ any. elim (it.from b any) [
              | inl h ↦ true≢false (sym h ∙ apart.0)
              | inr h ↦ true≢false (sym (within b (in_head b C)) ∙ h.0)
            ]),
            it.apart,
          );
          keeps = cons_more C it.list b it.keeps;
          from = λ q any. elim (in_split q b it.list any) [
            | inl h ↦ inl (subst (λ (k : ℕ). is_in k (b ∷ C) ≡ true) (sym h) (in_head b C))
            | inr h ↦ elim (it.from q h) [
              | inl e ↦ inl (in_tail q b C e)
              | inr e ↦ inr e
            ]
          ];
          longer = omega (arith, longer);
        }

    scan : (two : HasTwo) (v : ℕ) (ends S B : List ℕ) → is_in v S ≡ true → is_in v old ≡ true
        → ((q : ℕ) → is_in q S ≡ true → (q ≡ v) ⊎ IsClosed q)
        → ((q : ℕ) → is_in q old ≡ true → (is_in q S ≡ true) ⊎ (is_in q B ≡ true))
        → ((q : ℕ) → is_in q B ≡ true → is_in q old ≡ true) → HasEarlier S B → HasLater ends B → AreApart B
        → IsLonger ends S B ⊎ AreClosed
    scan two v ends S [] known here closed cover within earlier later apart =
        elim (look v (degree_of net v) (omega arith)) [
          | inl open_at ↦ inl (opened two v ends S [] known here closed cover within earlier later apart open_at)
          | inr shut ↦ inr (λ q any. elim (cover q any) [
            | inl h ↦ all_closed v S closed shut q h
            | inr h ↦ absurd (true≢false (sym h))
          ])
        ]
    scan two v ends S (b ∷ C) known here closed cover within earlier later apart =
        elim (look v (degree_of net v) (omega arith)) [
          | inl open_at ↦ inl (opened two v ends S (b ∷ C) known here closed cover within earlier later apart open_at)
          | inr shut ↦ elim (scan two b ends (b ∷ S) C (in_head b S) (within b (in_head b C))
              (λ q any. elim (in_split q b S any) [
                | inl h ↦ inl h
                | inr h ↦ inr (all_closed v S closed shut q h)
              ])
              (λ q any. elim (cover q any) [
                | inl h ↦ inl (in_tail q b S h)
                | inr h ↦ elim (in_split q b C h) [
                  | inl e ↦ inl (subst (λ (k : ℕ). is_in k (b ∷ S) ≡ true) (sym e) (in_head b S))
                  | inr e ↦ inr e
                ]
              ])
              (λ q any. within q (in_tail q b C any)) earlier.1 later.1 apart.1) [
                | inl it ↦ inl (with_first ends S b C within earlier later apart it)
                | inr all ↦ inr all
              ]
        ]

  -- ---- the order grows

  -- the nodes of the list can be explored in order from either end
  pub record IsOrder (home : ℕ) (nodes : List ℕ) : Type 0 where
    pub earlier : HasEarlier (home ∷ []) nodes
    pub later : HasLater (home ∷ []) nodes
    pub away : is_in home nodes ≡ false
    pub apart : AreApart nodes
    pub within : (q : ℕ) → is_in q nodes ≡ true → q < n

  pub record HasAll (home : ℕ) : Type 0 where
    pub nodes : List ℕ
    pub order : IsOrder home nodes
    pub all : (q : ℕ) → q < n → is_in q (home ∷ nodes) ≡ true

  module _ (home t : ℕ) (here : home < n) (differ : home ≢ t) where
    grow : (fuel : ℕ) (nodes : List ℕ) → IsOrder home nodes → is_in t nodes ≡ true → n ≤ length nodes + fuel
        → HasAll home
    grow zero nodes order known many =
        let few : length (home ∷ nodes) ≤ n = few_apart (home ∷ nodes) n (order.away, order.apart)
        (λ q any. elim (in_split q home nodes any) [
          | inl h ↦ subst (λ (k : ℕ). k < n) (sym h) here
          | inr h ↦ order.within q h
        ]) in
        absurd (omega (arith, few, many))
    grow (suc fuel) nodes order known many =
        let old : List ℕ = home ∷ nodes in
        let two : HasTwo old = record {
          one = home;
          other = t;
          one_in = in_head home nodes;
          other_in = in_tail t home nodes known;
          differ = differ;
          within = λ q any. elim (in_split q home nodes any) [
            | inl h ↦ subst (λ (k : ℕ). k < n) (sym h) here
            | inr h ↦ order.within q h
          ];
        } in
        elim (scan old two home (home ∷ []) (home ∷ []) nodes (in_head home []) (in_head home nodes)
        (λ q any. elim (in_split q home [] any) [
          | inl h ↦ inl h
          | inr h ↦ absurd (true≢false (sym h))
        ])
        (λ q any. elim (in_split q home nodes any) [
          | inl h ↦ inl (subst (λ (k : ℕ). is_in k (home ∷ []) ≡ true) (sym h) (in_head home []))
          | inr h ↦ inr h
        ])
        (λ q any. in_tail q home nodes any) order.earlier order.later order.apart) [
          | inl it ↦
              let longer : length nodes < length it.list = it.longer in
              grow fuel it.list (record {
                earlier = it.earlier;
                later = it.later;
                away = not_in home it.list (λ any. elim (it.from home any) [
                  | inl h ↦ true≢false (sym h ∙ order.away)
                  | inr h ↦ true≢false (sym (in_head home nodes) ∙ h.0)
                ]);
                apart = it.apart;
                within = λ q any. elim (it.from q any) [
                  | inl h ↦ order.within q h
                  | inr h ↦ h.1
                ];
              }) (it.keeps t known) (omega (arith, many, longer))
          | inr closed ↦ record {
            nodes = nodes;
            order = order;
            all = λ q below.
                let path : IsPath (Leads net) home q = is.connected home q here below in
                along nodes closed path.0 q path.1;
          }
        ]
      where
        along : (nodes : List ℕ) → AreClosed (home ∷ nodes) → (steps q : ℕ) → Path (Leads net) home q steps
            → is_in q (home ∷ nodes) ≡ true
        along nodes closed zero q path = subst (λ (k : ℕ). is_in k (home ∷ nodes) ≡ true) path (in_head home nodes)
        along nodes closed (suc steps) q path =
            let leads : Leads net path.0 q = path.2 in
            subst (λ (k : ℕ). is_in k (home ∷ nodes) ≡ true) leads.2
            (closed path.0 (along nodes closed steps path.0 path.1) leads.0 leads.1)

  -- the home base has a neighbour
  neighbour : (home : ℕ) → home < n → (t : ℕ) × Leads net home t
  neighbour home here = elim (eqb_tells home 0) [
    | inl h ↦ from 1 (omega (arith, is.labelled.few)) (λ same. omega (arith, h.1, same))
    | inr h ↦ from 0 (omega (arith, is.labelled.few)) (λ same. h.1 (sym same))
  ]
    where
      from : (q : ℕ) → q < n → q ≢ home → (t : ℕ) × Leads net home t
      from q below apart =
          let path : IsPath (Leads net) q home = is.connected q home below here in
          by_steps path.0 path.1
        where
          by_steps : (steps : ℕ) → Path (Leads net) q home steps → (t : ℕ) × Leads net home t
          by_steps zero path = absurd (apart path)
          by_steps (suc steps) path = (path.0, back path.0 home path.2)

  pub has_all : (home : ℕ) → home < n → HasAll home
  has_all home here =
      let it : (t : ℕ) × Leads net home t = neighbour home here in
      let t : ℕ = it.0 in
      let there : t < n = walks.Leads-to net is.labelled home t it.1 in
      let differ : home ≢ t = λ same. is.labelled.no_loop home it.1.0 it.1.1 (it.1.2 ∙ sym same) in
      grow home t here differ n (t ∷ []) (record {
        earlier = ((home, in_head home [], it.1), tt);
        later = ((home, in_head home [], it.1), tt);
        away = not_in home (t ∷ []) (λ any. elim (in_split home t [] any) [
          | inl h ↦ differ h
          | inr h ↦ true≢false (sym h)
        ]);
        apart = (refl, tt);
        within = λ q any. elim (in_split q t [] any) [
          | inl h ↦ subst (λ (k : ℕ). k < n) (sym h) there
          | inr h ↦ absurd (true≢false (sym h))
        ];
      }) (in_head t []) (omega arith)
