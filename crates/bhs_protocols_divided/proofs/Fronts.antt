-- Whatever is explored, each front and each rear of the nodes that are left, in one order for all times, can be
-- explored one node after the other: an earlier neighbour is left or explored, and so is a later one.
use Rattle.std.proofs.Common.{ℕ, zero, suc, ◌≡◌, ◌⊎◌, true, false, List, [], ◌∷◌, ◌++◌, sym, ap, ◌∙◌, subst}
use Rattle.std.proofs.Common.{if◌then◌else◌, inl, inr}
use Rattle.std.proofs.lemmas.Bool.{true≢false, cond-true, cond-false}
use Rattle.bhs_model.proofs.StepLemmas.{by_cases}
use Rattle.bhs_net.specs.Network.{Network, IsNetwork, Leads}
use Rattle.bhs_protocols_mapped.proofs.Members.{is_in, in_head, in_tail, in_split, in_either, in_left, in_right, not_in}
use Rattle.bhs_protocols_mapped.proofs.Members.{AreApart}
use Rattle.bhs_protocols_mapped.proofs.Ears.{HasEarlier, HasLater}
use Rattle.bhs_protocols_divided.proofs.Grown.{Grows}

-- the unexplored nodes, in order
abbrev pub left_of : (explored nodes : List ℕ) → List ℕ
left_of explored [] = []
left_of explored (v ∷ vs) = if is_in v explored then left_of explored vs else v ∷ left_of explored vs

-- the first k nodes, and the others from the end
abbrev pub front : ℕ → List ℕ → List ℕ
front zero nodes = []
front (suc k) [] = []
front (suc k) (v ∷ vs) = v ∷ front k vs

abbrev pub rear : ℕ → List ℕ → List ℕ
rear k [] = []
rear zero (v ∷ vs) = rear zero vs ++ (v ∷ [])
rear (suc k) (v ∷ vs) = rear k vs

pub left_in : (explored nodes : List ℕ) (q : ℕ) → is_in q (left_of explored nodes) ≡ true → is_in q nodes ≡ true
left_in explored [] q any = any
left_in explored (v ∷ vs) q any = by_cases (is_in v explored) (is_in q (v ∷ vs) ≡ true)
    (λ known. in_tail q v vs (left_in explored vs q (sym (ap (is_in q) (cond-true _ _ _ known)) ∙ any)))
    (λ new. elim (in_split q v (left_of explored vs) (sym (ap (is_in q) (cond-false _ _ _ new)) ∙ any)) [
      | inl h ↦ subst (λ (k : ℕ). is_in k (v ∷ vs) ≡ true) (sym h) (in_head v vs)
      | inr h ↦ in_tail q v vs (left_in explored vs q h)
    ])

module _ (net : Network) (is : IsNetwork net) where
  abbrev Growing : List ℕ → List ℕ → Type 0
  Growing = Grows net (λ u port below. (is.labelled.within u port below, is.labelled.back u port below))

  -- ---- in order

  grows_left : (explored known seen nodes : List ℕ) → ((q : ℕ) → is_in q explored ≡ true → is_in q known ≡ true)
      → ((q : ℕ) → is_in q seen ≡ true → is_in q known ≡ true)
      → ((q : ℕ) → is_in q known ≡ true → (is_in q explored ≡ true) ⊎ (is_in q seen ≡ true))
      → ((q : ℕ) → is_in q nodes ≡ true → is_in q seen ≡ false) → AreApart nodes → HasEarlier net is seen nodes
      → Growing known (left_of explored nodes)
  grows_left explored known seen [] more sees back new apart earlier = tt
  grows_left explored known seen (v ∷ vs) more sees back new apart earlier =
      let new_too : (q : ℕ) → is_in q vs ≡ true → is_in q (v ∷ seen) ≡ false =
      λ q any. not_in q (v ∷ seen) (λ h. elim (in_split q v seen h) [
        | inl e ↦ true≢false (sym (subst (λ (k : ℕ). is_in k vs ≡ true) e any) ∙ apart.0)
        | inr e ↦ true≢false (sym e ∙ new q (in_tail q v vs any))
      ]) in
      by_cases (is_in v explored) (Growing known (left_of explored (v ∷ vs)))
      (λ old. subst (λ (l : List ℕ). Growing known l) (sym (cond-true _ _ _ old))
      (grows_left explored known (v ∷ seen) vs more
      (λ q any. elim (in_split q v seen any) [
        | inl e ↦ more q (subst (λ (k : ℕ). is_in k explored ≡ true) (sym e) old)
        | inr e ↦ sees q e
      ])
      (λ q any. elim (back q any) [
        | inl e ↦ inl e
        | inr e ↦ inr (in_tail q v seen e)
      ]) new_too apart.1 earlier.1))
      (λ fresh. subst (λ (l : List ℕ). Growing known l) (sym (cond-false _ _ _ fresh)) (
        (earlier.0.0, sees earlier.0.0 earlier.0.1, earlier.0.2),
        not_in v known (λ h. elim (back v h) [
          | inl e ↦ true≢false (sym e ∙ fresh)
          | inr e ↦ true≢false (sym e ∙ new v (in_head v vs))
        ]),
        grows_left explored (v ∷ known) (v ∷ seen) vs (λ q any. in_tail q v known (more q any))
            (λ q any. elim (in_split q v seen any) [
              | inl e ↦ subst (λ (k : ℕ). is_in k (v ∷ known) ≡ true) (sym e) (in_head v known)
              | inr e ↦ in_tail q v known (sees q e)
            ])
            (λ q any. elim (in_split q v known any) [
              | inl e ↦ inr (subst (λ (k : ℕ). is_in k (v ∷ seen) ≡ true) (sym e) (in_head v seen))
              | inr e ↦ elim (back q e) [
                | inl x ↦ inl x
                | inr x ↦ inr (in_tail q v seen x)
              ]
            ]) new_too apart.1 earlier.1,
      ))

  grows_front : (k : ℕ) (known nodes : List ℕ) → Growing known nodes → Growing known (front k nodes)
  grows_front zero known nodes grows = tt
  grows_front (suc k) known [] grows = tt
  grows_front (suc k) known (v ∷ vs) grows = (grows.0, grows.1, grows_front k (v ∷ known) vs grows.2)

  -- each front of what is left, with the home base explored
  pub fronts_grow : (k home : ℕ) (explored nodes : List ℕ) → is_in home explored ≡ true → is_in home nodes ≡ false
      → AreApart nodes → HasEarlier net is (home ∷ []) nodes → Growing explored (front k (left_of explored nodes))
  fronts_grow k home explored nodes home_in away apart earlier =
      grows_front k explored (left_of explored nodes) (grows_left explored explored (home ∷ []) nodes (λ q any. any)
      (λ q any. elim (in_split q home [] any) [
        | inl e ↦ subst (λ (j : ℕ). is_in j explored ≡ true) (sym e) home_in
        | inr e ↦ absurd (true≢false (sym e))
      ])
      (λ q any. inl any)
      (λ q any. not_in q (home ∷ []) (λ h. elim (in_split q home [] h) [
        | inl e ↦ true≢false (sym (subst (λ (j : ℕ). is_in j nodes ≡ true) e any) ∙ away)
        | inr e ↦ true≢false (sym e)
      ])) apart earlier)

  -- ---- from the end

  grows_snoc : (v : ℕ) (known nodes : List ℕ) → Growing known nodes
      → ((u : ℕ) × ((is_in u known ≡ true) ⊎ (is_in u nodes ≡ true)) × Leads net u v) → is_in v known ≡ false
      → is_in v nodes ≡ false → Growing known (nodes ++ (v ∷ []))
  grows_snoc v known [] grows near new apart = (
    elim near.1 [
      | inl h ↦ (near.0, h, near.2)
      | inr h ↦ absurd (true≢false (sym h))
    ],
    new,
    tt,
  )
  grows_snoc v known (w ∷ ws) grows near new apart = (
    grows.0,
    grows.1,
    grows_snoc v (w ∷ known) ws grows.2 (
      near.0,
      elim near.1 [
        | inl h ↦ inl (in_tail near.0 w known h)
        | inr h ↦ elim (in_split near.0 w ws h) [
          | inl e ↦ inl (subst (λ (j : ℕ). is_in j (w ∷ known) ≡ true) (sym e) (in_head w known))
          | inr e ↦ inr e
        ]
      ],
      near.2,
    )
        (not_in v (w ∷ known) (λ h. elim (in_split v w known h) [
          | inl e ↦ true≢false (sym (subst (λ (j : ℕ). is_in j (w ∷ ws) ≡ true) (sym e) (in_head w ws)) ∙ apart)
          | inr e ↦ true≢false (sym e ∙ new)
        ]))
        (not_in v ws (λ h. true≢false (sym (in_tail v w ws h) ∙ apart))),
  )

  pub rear_in : (k : ℕ) (nodes : List ℕ) (q : ℕ) → is_in q (rear k nodes) ≡ true → is_in q nodes ≡ true
  rear_in k [] q any = any
  rear_in zero (v ∷ vs) q any = elim (in_either q (rear zero vs) (v ∷ []) any) [
    | inl h ↦ in_tail q v vs (rear_in zero vs q h)
    | inr h ↦ elim (in_split q v [] h) [
      | inl e ↦ subst (λ (j : ℕ). is_in j (v ∷ vs) ≡ true) (sym e) (in_head v vs)
      | inr e ↦ absurd (true≢false (sym e))
    ]
  ]
  rear_in (suc k) (v ∷ vs) q any = in_tail q v vs (rear_in k vs q any)

  pub rear_all : (nodes : List ℕ) (q : ℕ) → is_in q nodes ≡ true → is_in q (rear zero nodes) ≡ true
  rear_all [] q any = any
  rear_all (v ∷ vs) q any = elim (in_split q v vs any) [
    | inl e ↦ in_right q (rear zero vs) (v ∷ [])
        (subst (λ (j : ℕ). is_in j (v ∷ []) ≡ true) (sym e) (in_head v []))
    | inr e ↦ in_left q (rear zero vs) (v ∷ []) (rear_all vs q e)
  ]

  -- what is left, with a later neighbour each
  abbrev LeftLater : (explored : List ℕ) → List ℕ → Type 0
  LeftLater explored [] = Unit
  LeftLater explored (v ∷ vs) = ((u : ℕ) × ((is_in u explored ≡ true) ⊎ (is_in u vs ≡ true)) × Leads net u v)
      × (is_in v explored ≡ false) × (is_in v vs ≡ false) × LeftLater explored vs

  left_later : (explored nodes : List ℕ) (home : ℕ) → is_in home explored ≡ true → AreApart nodes
      → HasLater net is (home ∷ []) nodes → LeftLater explored (left_of explored nodes)
  left_later explored [] home home_in apart later = tt
  left_later explored (v ∷ vs) home home_in apart later = by_cases (is_in v explored)
      (LeftLater explored (left_of explored (v ∷ vs)))
      (λ old. subst (LeftLater explored) (sym (cond-true _ _ _ old))
      (left_later explored vs home home_in apart.1 later.1))
      (λ fresh. subst (LeftLater explored) (sym (cond-false _ _ _ fresh)) (
        (later.0.0, where_is later.0.0 (in_either later.0.0 vs (home ∷ []) later.0.1), later.0.2),
        fresh,
        not_in v (left_of explored vs) (λ h. true≢false (sym (left_in explored vs v h) ∙ apart.0)),
        left_later explored vs home home_in apart.1 later.1,
      ))
    where
      still_there : (nodes : List ℕ) (u : ℕ) → is_in u nodes ≡ true
          → (is_in u explored ≡ true) ⊎ (is_in u (left_of explored nodes) ≡ true)
      still_there [] u any = absurd (true≢false (sym any))
      still_there (w ∷ ws) u any = by_cases (is_in w explored)
          ((is_in u explored ≡ true) ⊎ (is_in u (left_of explored (w ∷ ws)) ≡ true))
          (λ known. elim (in_split u w ws any) [
            | inl e ↦ inl (subst (λ (j : ℕ). is_in j explored ≡ true) (sym e) known)
            | inr e ↦ elim (still_there ws u e) [
              | inl x ↦ inl x
              | inr x ↦ inr (ap (is_in u) (cond-true _ _ _ known) ∙ x)
            ]
          ])
          (λ new. elim (in_split u w ws any) [
            | inl e ↦ inr (ap (is_in u) (cond-false _ _ _ new)
                ∙ subst (λ (j : ℕ). is_in j (w ∷ left_of explored ws) ≡ true) (sym e) (in_head w (left_of explored ws)))
            | inr e ↦ elim (still_there ws u e) [
              | inl x ↦ inl x
              | inr x ↦ inr (ap (is_in u) (cond-false _ _ _ new) ∙ in_tail u w (left_of explored ws) x)
            ]
          ])

      where_is : (u : ℕ) → (is_in u vs ≡ true) ⊎ (is_in u (home ∷ []) ≡ true)
          → (is_in u explored ≡ true) ⊎ (is_in u (left_of explored vs) ≡ true)
      where_is u any = elim any [
        | inl h ↦ still_there vs u h
        | inr h ↦ elim (in_split u home [] h) [
          | inl e ↦ inl (subst (λ (j : ℕ). is_in j explored ≡ true) (sym e) home_in)
          | inr e ↦ absurd (true≢false (sym e))
        ]
      ]

  grows_rear : (k : ℕ) (explored nodes : List ℕ) → LeftLater explored nodes → Growing explored (rear k nodes)
  grows_rear k explored [] later = tt
  grows_rear zero explored (v ∷ vs) later = grows_snoc v explored (rear zero vs) (grows_rear zero explored vs later.3)
      (later.0.0, all_there (later.0.0) later.0.1, later.0.2) later.1
      (not_in v (rear zero vs) (λ h. true≢false (sym (rear_in zero vs v h) ∙ later.2)))
    where
      all_there : (u : ℕ) → (is_in u explored ≡ true) ⊎ (is_in u vs ≡ true)
          → (is_in u explored ≡ true) ⊎ (is_in u (rear zero vs) ≡ true)
      all_there u any = elim any [
        | inl h ↦ inl h
        | inr h ↦ inr (rear_all vs u h)
      ]
  grows_rear (suc k) explored (v ∷ vs) later = grows_rear k explored vs later.3

  -- each rear of what is left, with the home base explored
  pub rears_grow : (k home : ℕ) (explored nodes : List ℕ) → is_in home explored ≡ true → AreApart nodes
      → HasLater net is (home ∷ []) nodes → Growing explored (rear k (left_of explored nodes))
  rears_grow k home explored nodes home_in apart later =
      grows_rear k explored (left_of explored nodes) (left_later explored nodes home home_in apart later)
