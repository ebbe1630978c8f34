-- A closed walk over safe nodes is extended by new nodes, one at a time, each a neighbour of a known node.
use Rattle.std.proofs.Common.{ℕ, suc, ◌+◌, ◌*◌, ◌<◌, ◌≡◌, ◌⊎◌, Bool, true, false, ◌||◌, ◌==◌}
use Rattle.std.proofs.Common.{List, [], ◌∷◌, ◌++◌, length, refl, sym, ap, ◌∙◌, subst, if◌then◌else◌, inl, inr, arith}
use Rattle.std.proofs.lemmas.Bool.{true≢false, cond-true, cond-false, eq-eqb}
use Rattle.bhs_model.proofs.StepLemmas.{by_cases}
use Rattle.bhs_net.specs.Network.{Network, Leads, degree_of, far_of}
use Rattle.bhs_protocols_mapped.proofs.Members.{is_in, in_head, in_tail, in_split, not_in, or_true}
use Rattle.bhs_protocols_divided.proofs.Tours.{Act, IsChain, IsFresh, news_in, in_news, stops, has, put, detour}
use Rattle.bhs_protocols_divided.proofs.Tours.{or_split, chain_append, chain_put, detour_chain, fresh_detour}
use Rattle.bhs_protocols_divided.proofs.Tours.{fresh_put}

-- how often a list goes on for good
abbrev pub walks_in : List Act → ℕ
walks_in [] = 0
walks_in (a ∷ acts) = if a.is_new then walks_in acts else suc (walks_in acts)

-- its first action
abbrev pub head_of : Act → List Act → Act
head_of none [] = none
head_of none (a ∷ acts) = a

-- ---- what a detour adds to a list

module _ (u port v label : ℕ) where
  abbrev more : List Act
  more = detour u port v label

  news_put : (acts : List Act) (q : ℕ) → has u acts ≡ true
      → (is_in q (news_in (put u more acts)) ≡ true → (q ≡ v) ⊎ (is_in q (news_in acts) ≡ true))
      × (is_in q (news_in acts) ≡ true → is_in q (news_in (put u more acts)) ≡ true)
      × (is_in v (news_in (put u more acts)) ≡ true)
  news_put [] q any = absurd (true≢false (sym any))
  news_put (a ∷ acts) q any = by_cases (stops u a) (All (put u more (a ∷ acts)))
      (λ stop. subst All (sym (cond-true _ _ _ stop)) (with_head a (more ++ acts) acts (
        (λ h. in_split q v (news_in acts) h),
        (λ h. in_tail q v (news_in acts) h),
        in_head v (news_in acts),
      )))
      (λ none. subst All (sym (cond-false _ _ _ none)) (with_head a (put u more acts) acts
      (news_put acts q (later none))))
    where
      All : List Act → Type 0
      All it = (is_in q (news_in it) ≡ true → (q ≡ v) ⊎ (is_in q (news_in (a ∷ acts)) ≡ true))
          × (is_in q (news_in (a ∷ acts)) ≡ true → is_in q (news_in it) ≡ true) × (is_in v (news_in it) ≡ true)

      later : stops u a ≡ false → has u acts ≡ true
      later none = elim (or_split (stops u a) (has u acts) any) [
        | inl h ↦ absurd (true≢false (sym h ∙ none))
        | inr h ↦ h
      ]

      with_head : (b : Act) (new old : List Act)
          → (is_in q (news_in new) ≡ true → (q ≡ v) ⊎ (is_in q (news_in old) ≡ true))
          × (is_in q (news_in old) ≡ true → is_in q (news_in new) ≡ true) × (is_in v (news_in new) ≡ true)
          → (is_in q (news_in (b ∷ new)) ≡ true → (q ≡ v) ⊎ (is_in q (news_in (b ∷ old)) ≡ true))
          × (is_in q (news_in (b ∷ old)) ≡ true → is_in q (news_in (b ∷ new)) ≡ true)
          × (is_in v (news_in (b ∷ new)) ≡ true)
      with_head b new old it = by_cases b.is_new (Both b new old)
          (λ is_new. (
            (λ h. elim (in_split q b.target (news_in new) (sym (ap (is_in q) (cond-true _ _ _ is_new)) ∙ h)) [
              | inl e ↦ inr (ap (is_in q) (cond-true _ _ _ is_new)
                  ∙ subst (λ (k : ℕ). is_in k (b.target ∷ news_in old) ≡ true) (sym e) (in_head b.target (news_in old)))
              | inr e ↦ elim (it.0 e) [
                | inl x ↦ inl x
                | inr x ↦ inr (in_news q b old x)
              ]
            ]),
            (λ h. elim (in_split q b.target (news_in old) (sym (ap (is_in q) (cond-true _ _ _ is_new)) ∙ h)) [
              | inl e ↦ ap (is_in q) (cond-true _ _ _ is_new)
                  ∙ subst (λ (k : ℕ). is_in k (b.target ∷ news_in new) ≡ true) (sym e) (in_head b.target (news_in new))
              | inr e ↦ in_news q b new (it.1 e)
            ]),
            in_news v b new it.2,
          ))
          (λ old_one. (
            (λ h. elim (it.0 (sym (ap (is_in q) (cond-false _ _ _ old_one)) ∙ h)) [
              | inl x ↦ inl x
              | inr x ↦ inr (in_news q b old x)
            ]),
            (λ h. in_news q b new (it.1 (sym (ap (is_in q) (cond-false _ _ _ old_one)) ∙ h))),
            in_news v b new it.2,
          ))
        where
          Both : Act → List Act → List Act → Type 0
          Both b new old = (is_in q (news_in (b ∷ new)) ≡ true → (q ≡ v) ⊎ (is_in q (news_in (b ∷ old)) ≡ true))
              × (is_in q (news_in (b ∷ old)) ≡ true → is_in q (news_in (b ∷ new)) ≡ true)
              × (is_in v (news_in (b ∷ new)) ≡ true)

  -- the extended walk visits the new node and every node that it visited before
  has_put : (acts : List Act) (q : ℕ) → has u acts ≡ true
      → (has q acts ≡ true → has q (put u more acts) ≡ true) × (has v (put u more acts) ≡ true)
  has_put [] q any = absurd (true≢false (sym any))
  has_put (a ∷ acts) q any = by_cases (stops u a)
      ((has q (a ∷ acts) ≡ true → has q (put u more (a ∷ acts)) ≡ true) × (has v (put u more (a ∷ acts)) ≡ true))
      (λ stop. subst (λ (l : List Act). (has q (a ∷ acts) ≡ true → has q l ≡ true) × (has v l ≡ true))
      (sym (cond-true _ _ _ stop)) (
        (λ h. elim (or_split (stops q a) (has q acts) h) [
          | inl e ↦ ap (λ (b : Bool). b || has q (more ++ acts)) e
          | inr e ↦ ap (λ (b : Bool). stops q a || b) (ap (λ (b : Bool). (v == q) || ((u == q) || b)) e
              ∙ ap (λ (b : Bool). (v == q) || b) (or_true (u == q)) ∙ or_true (v == q)) ∙ or_true (stops q a)
        ]),
        ap (λ (b : Bool). stops v a || b) (ap (λ (b : Bool). b || ((u == v) || has v acts)) (eq-eqb v v refl))
            ∙ or_true (stops v a),
      ))
      (λ none.
      let later : has u acts ≡ true = elim (or_split (stops u a) (has u acts) any) [
        | inl h ↦ absurd (true≢false (sym h ∙ none))
        | inr h ↦ h
      ] in
      let rest = has_put acts q later in
      subst (λ (l : List Act). (has q (a ∷ acts) ≡ true → has q l ≡ true) × (has v l ≡ true))
      (sym (cond-false _ _ _ none)) (
        (λ h. elim (or_split (stops q a) (has q acts) h) [
          | inl e ↦ ap (λ (b : Bool). b || has q (put u more acts)) e
          | inr e ↦ ap (λ (b : Bool). stops q a || b) (rest.0 e) ∙ or_true (stops q a)
        ]),
        ap (λ (b : Bool). stops v a || b) rest.1 ∙ or_true (stops v a),
      ))

  walks_put : (acts : List Act) → has u acts ≡ true → walks_in (put u more acts) ≡ walks_in acts + 2
  walks_put [] any = absurd (true≢false (sym any))
  walks_put (a ∷ acts) any = by_cases (stops u a) (walks_in (put u more (a ∷ acts)) ≡ walks_in (a ∷ acts) + 2)
      (λ stop. ap walks_in (cond-true _ _ _ stop) ∙ one_more a (more ++ acts) acts (omega arith))
      (λ none.
      let later : has u acts ≡ true = elim (or_split (stops u a) (has u acts) any) [
        | inl h ↦ absurd (true≢false (sym h ∙ none))
        | inr h ↦ h
      ] in
      ap walks_in (cond-false _ _ _ none) ∙ one_more a (put u more acts) acts (walks_put acts later))
    where
      one_more : (b : Act) (new old : List Act) → walks_in new ≡ walks_in old + 2
          → walks_in (b ∷ new) ≡ walks_in (b ∷ old) + 2
      one_more b new old is = by_cases b.is_new (walks_in (b ∷ new) ≡ walks_in (b ∷ old) + 2)
          (λ yes_new. cond-true _ _ _ yes_new ∙ is ∙ ap (λ (k : ℕ). k + 2) (sym (cond-true _ _ _ yes_new)))
          (λ old_one. cond-false _ _ _ old_one ∙ ap suc is ∙ (omega arith)
          ∙ ap (λ (k : ℕ). k + 2) (sym (cond-false _ _ _ old_one)))

  long_put : (acts : List Act) → has u acts ≡ true → length (put u more acts) ≡ length acts + 3
  long_put [] any = absurd (true≢false (sym any))
  long_put (a ∷ acts) any = by_cases (stops u a) (length (put u more (a ∷ acts)) ≡ length (a ∷ acts) + 3)
      (λ stop.
      let long : length (put u more (a ∷ acts)) ≡ length (a ∷ (more ++ acts)) = ap length (cond-true _ _ _ stop) in
      omega (arith, long))
      (λ none.
      let later : has u acts ≡ true = elim (or_split (stops u a) (has u acts) any) [
        | inl h ↦ absurd (true≢false (sym h ∙ none))
        | inr h ↦ h
      ] in
      let long : length (put u more (a ∷ acts)) ≡ length (a ∷ put u more acts) = ap length (cond-false _ _ _ none) in
      let rest : length (put u more acts) ≡ length acts + 3 = long_put acts later in
      omega (arith, long, rest))

  head_put : (acts : List Act) (d : Act) → head_of d (put u more acts) ≡ head_of d acts
  head_put [] d = refl
  head_put (a ∷ acts) d = by_cases (stops u a) (head_of d (put u more (a ∷ acts)) ≡ a)
      (λ stop. ap (head_of d) (cond-true _ _ _ stop))
      (λ none. ap (head_of d) (cond-false _ _ _ none))

-- ---- lists that lead around

module _ (net : Network) (labelled : (u port : ℕ) → port < degree_of net u
    → ((far_of net u port).1 < degree_of net (far_of net u port).0)
    × (far_of net (far_of net u port).0 (far_of net u port).1 ≡ (u, port))) where
  -- A closed walk from the root over safe nodes and over the list's own new nodes. It visits every such node except the
  -- root.
  pub record IsTour (root : ℕ) (safe : List ℕ) (acts : List Act) : Type 0 where
    pub chain : IsChain net root root acts
    pub fresh : IsFresh safe acts
    pub root_in : is_in root safe ≡ true
    pub visits : (q : ℕ) → (is_in q safe ≡ true) ⊎ (is_in q (news_in acts) ≡ true) → (has q acts ≡ true) ⊎ (q ≡ root)

  -- it has these new nodes more
  pub record HasGrown (root : ℕ) (safe : List ℕ) (acts : List Act) (nodes : List ℕ) : Type 0 where
    pub list : List Act
    pub tour : IsTour root safe list
    pub from : (q : ℕ) → is_in q (news_in list) ≡ true → (is_in q (news_in acts) ≡ true) ⊎ (is_in q nodes ≡ true)
    pub keeps : (q : ℕ) → is_in q (news_in acts) ≡ true → is_in q (news_in list) ≡ true
    pub gains : (q : ℕ) → is_in q nodes ≡ true → is_in q (news_in list) ≡ true
    pub walks : walks_in list ≡ walks_in acts + 2 * length nodes
    pub long : length list ≡ length acts + 3 * length nodes
    pub head : (d : Act) → has root acts ≡ true → head_of d list ≡ head_of d acts
    pub rooted : has root acts ≡ true → has root list ≡ true

  grown_by_one : (root u v : ℕ) (safe : List ℕ) (acts : List Act) → IsTour root safe acts
      → (is_in u safe ≡ true) ⊎ (is_in u (news_in acts) ≡ true) → Leads net u v → is_in v safe ≡ false
      → (is_in v (news_in acts) ≡ true → ⊥) → HasGrown root safe acts (v ∷ [])
  grown_by_one root u v safe acts tour known leads new other =
      let port : ℕ = leads.0 in
      let label : ℕ = (far_of net u port).1 in
      let links = labelled u port leads.1 in
      let fits : label < degree_of net v = subst (λ (k : ℕ). label < degree_of net k) leads.2 links.0 in
      let out : far_of net u port ≡ (v, label) = λ i. (leads.2 i, label) in
      let back : far_of net v label ≡ (u, port) =
      subst (λ (k : ℕ). far_of net k label ≡ (u, port)) leads.2 links.1 in
      let loop : IsChain net u u (detour u port v label) = detour_chain net u port v label leads.1 fits out back in
      by_cases (has u acts) (HasGrown root safe acts (v ∷ []))
      (λ there.
      let puts = λ (q : ℕ). news_put u port v label acts q there in
      let goes = λ (q : ℕ). has_put u port v label acts q there in
      let walks : walks_in (put u (detour u port v label) acts) ≡ walks_in acts + 2 =
      walks_put u port v label acts there in
      record {
        list = put u (detour u port v label) acts;
        tour = record {
          chain = chain_put net u root root (detour u port v label) acts there loop tour.chain;
          fresh = fresh_put u port v label safe acts there new other tour.fresh;
          root_in = tour.root_in;
          visits = λ q any. elim any [
            | inl h ↦ still q (goes q).0 (tour.visits q (inl h))
            | inr h ↦ elim ((puts q).0 h) [
              | inl e ↦ inl (subst (λ (k : ℕ). has k (put u (detour u port v label) acts) ≡ true) (sym e) (goes q).1)
              | inr e ↦ still q (goes q).0 (tour.visits q (inr e))
            ]
          ];
        };
        from = λ q any. elim ((puts q).0 any) [
          | inl e ↦ inr (subst (λ (k : ℕ). is_in k (v ∷ []) ≡ true) (sym e) (in_head v []))
          | inr e ↦ inl e
        ];
        keeps = λ q any. (puts q).1 any;
        gains = λ q any. elim (in_split q v [] any) [
          | inl e ↦ subst (λ (k : ℕ). is_in k (news_in (put u (detour u port v label) acts)) ≡ true) (sym e) (puts q).2
          | inr e ↦ absurd (true≢false (sym e))
        ];
        walks = omega (arith, walks);
        long = let long : length (put u (detour u port v label) acts) ≡ length acts + 3 =
            long_put u port v label acts there in
            omega (arith, long);
        head = λ d any. head_put u port v label acts d;
        rooted = λ any. (goes root).0 any;
      })
      (λ nowhere.
      let at_root : u ≡ root = elim (tour.visits u known) [
        | inl h ↦ absurd (true≢false (sym h ∙ nowhere))
        | inr h ↦ h
      ] in
      let loop_too : IsChain net root root (detour u port v label) =
      subst (λ (k : ℕ). IsChain net k k (detour u port v label)) at_root loop in
      let u_in : is_in u safe ≡ true = subst (λ (k : ℕ). is_in k safe ≡ true) (sym at_root) tour.root_in in
      record {
        list = detour u port v label ++ acts;
        tour = record {
          chain = chain_append net root root root (detour u port v label) acts loop_too tour.chain;
          fresh = fresh_detour u port v label safe acts u_in new other tour.fresh;
          root_in = tour.root_in;
          visits = λ q any. elim any [
            | inl h ↦ past q (tour.visits q (inl h))
            | inr h ↦ elim (in_split q v (news_in acts) h) [
              | inl e ↦ inl (ap (λ (b : Bool). b || ((u == q) || has q acts)) (eq-eqb v q (sym e)))
              | inr e ↦ past q (tour.visits q (inr e))
            ]
          ];
        };
        from = λ q any. elim (in_split q v (news_in acts) any) [
          | inl e ↦ inr (subst (λ (k : ℕ). is_in k (v ∷ []) ≡ true) (sym e) (in_head v []))
          | inr e ↦ inl e
        ];
        keeps = λ q any. in_tail q v (news_in acts) any;
        gains = λ q any. elim (in_split q v [] any) [
          | inl e ↦ subst (λ (k : ℕ). is_in k (v ∷ news_in acts) ≡ true) (sym e) (in_head v (news_in acts))
          | inr e ↦ absurd (true≢false (sym e))
        ];
        walks = omega arith;
        long = omega arith;
        head = λ d any. absurd (true≢false (sym (subst (λ (k : ℕ). has k acts ≡ true) (sym at_root) any) ∙ nowhere));
        rooted = λ any. absurd (true≢false (sym (subst (λ (k : ℕ). has k acts ≡ true) (sym at_root) any) ∙ nowhere));
      })
    where
      still : {A B C : Type 0} (q : ℕ) → (A → B) → A ⊎ C → B ⊎ C
      still q f any = elim any [
        | inl h ↦ inl (f h)
        | inr h ↦ inr h
      ]

      past : (q : ℕ) → (has q acts ≡ true) ⊎ (q ≡ root)
          → ((((v == q) || ((u == q) || has q acts))) ≡ true) ⊎ (q ≡ root)
      past q any = elim any [
        | inl h ↦ inl (ap (λ (b : Bool). (v == q) || ((u == q) || b)) h
            ∙ ap (λ (b : Bool). (v == q) || b) (or_true (u == q)) ∙ or_true (v == q))
        | inr h ↦ inr h
      ]

  -- ---- sequences in which each node has a known neighbour

  abbrev pub Grows : (known : List ℕ) → List ℕ → Type 0
  Grows known [] = Unit
  Grows known (v ∷ vs) =
      ((u : ℕ) × (is_in u known ≡ true) × Leads net u v) × (is_in v known ≡ false) × Grows (v ∷ known) vs

  -- such a sequence has a tour with two links for each node
  pub grown : (root : ℕ) (safe known : List ℕ) (acts : List Act) (nodes : List ℕ) → IsTour root safe acts
      → ((q : ℕ) → is_in q known ≡ true → (is_in q safe ≡ true) ⊎ (is_in q (news_in acts) ≡ true))
      → ((q : ℕ) → (is_in q safe ≡ true) ⊎ (is_in q (news_in acts) ≡ true) → is_in q known ≡ true)
      → Grows known nodes → HasGrown root safe acts nodes
  grown root safe known acts [] tour up down grows = record {
    list = acts;
    tour = tour;
    from = λ q any. inl any;
    keeps = λ q any. any;
    gains = λ q any. absurd (true≢false (sym any));
    walks = omega arith;
    long = omega arith;
    head = λ d any. refl;
    rooted = λ any. any;
  }
  grown root safe known acts (v ∷ vs) tour up down grows =
      let first : (u : ℕ) × (is_in u known ≡ true) × Leads net u v = grows.0 in
      let new : is_in v safe ≡ false =
      not_in v safe (λ h. true≢false (sym (down v (inl h)) ∙ grows.1)) in
      let one : HasGrown root safe acts (v ∷ []) =
      grown_by_one root first.0 v safe acts tour (up first.0 first.1) first.2 new
      (λ h. true≢false (sym (down v (inr h)) ∙ grows.1)) in
      let rest : HasGrown root safe one.list vs = grown root safe (v ∷ known) one.list vs one.tour
      (λ q any. elim (in_split q v known any) [
        | inl e ↦ inr (one.gains q (subst (λ (k : ℕ). is_in k (v ∷ []) ≡ true) (sym e) (in_head v [])))
        | inr e ↦ elim (up q e) [
          | inl h ↦ inl h
          | inr h ↦ inr (one.keeps q h)
        ]
      ])
      (λ q any. elim any [
        | inl h ↦ in_tail q v known (down q (inl h))
        | inr h ↦ elim (one.from q h) [
          | inl e ↦ in_tail q v known (down q (inr e))
          | inr e ↦ elim (in_split q v [] e) [
            | inl x ↦ subst (λ (k : ℕ). is_in k (v ∷ known) ≡ true) (sym x) (in_head v known)
            | inr x ↦ absurd (true≢false (sym x))
          ]
        ]
      ]) grows.2 in
      let walks : walks_in rest.list ≡ walks_in one.list + 2 * length vs = rest.walks in
      let walks_one : walks_in one.list ≡ walks_in acts + 2 * 1 = one.walks in
      record {
        list = rest.list;
        tour = rest.tour;
        from = λ q any. elim (rest.from q any) [
          | inl h ↦ elim (one.from q h) [
            | inl e ↦ inl e
            | inr e ↦ elim (in_split q v [] e) [
              | inl x ↦ inr (subst (λ (k : ℕ). is_in k (v ∷ vs) ≡ true) (sym x) (in_head v vs))
              | inr x ↦ absurd (true≢false (sym x))
            ]
          ]
          | inr h ↦ inr (in_tail q v vs h)
        ];
        keeps = λ q any. rest.keeps q (one.keeps q any);
        gains = λ q any. elim (in_split q v vs any) [
          | inl e ↦ rest.keeps q (one.gains q (subst (λ (k : ℕ). is_in k (v ∷ []) ≡ true) (sym e) (in_head v [])))
          | inr e ↦ rest.gains q e
        ];
        walks = omega (arith, walks, walks_one);
        long = let long : length rest.list ≡ length one.list + 3 * length vs = rest.long in
            let long_one : length one.list ≡ length acts + 3 * 1 = one.long in
            omega (arith, long, long_one);
        head = λ d any. rest.head d (one.rooted any) ∙ one.head d any;
        rooted = λ any. rest.rooted (one.rooted any);
      }
