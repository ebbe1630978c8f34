-- Divisions of the unexplored nodes into a front and a rear of their order.
use Rattle.std.proofs.Common.{ℕ, zero, suc, ◌+◌, ◌-◌, ◌≤◌, ◌≡◌, ◌⊎◌, true, false, List, [], ◌∷◌, ◌++◌}
use Rattle.std.proofs.Common.{length, ◌==◌, refl, sym, ap, ◌∙◌, subst, if◌then◌else◌, inl, inr, arith}
use Rattle.std.proofs.lemmas.List.{length-append}
use Rattle.std.proofs.lemmas.Bool.{true≢false, cond-true, cond-false}
use Rattle.std.proofs.lemmas.Bool.Decides.{eqb_tells}
use Rattle.bhs_model.proofs.StepLemmas.{by_cases}
use Rattle.bhs_net.specs.Network.{Network, IsNetwork}
use Rattle.bhs_protocols_mapped.proofs.Members.{is_in, in_head, in_tail, in_split, in_either, not_in, AreApart}
use Rattle.bhs_protocols_divided.proofs.Grown.{Grows}
use Rattle.bhs_protocols_divided.proofs.Fronts.{left_of, left_in, front, rear, rear_in, rear_all}

-- ---- what is left

pub left_out : (explored nodes : List ℕ) (q : ℕ) → is_in q (left_of explored nodes) ≡ true → is_in q explored ≡ false
left_out explored [] q any = absurd (true≢false (sym any))
left_out explored (v ∷ vs) q any = by_cases (is_in v explored) (is_in q explored ≡ false)
    (λ known. left_out explored vs q (sym (ap (is_in q) (cond-true _ _ _ known)) ∙ any))
    (λ new. elim (in_split q v (left_of explored vs) (sym (ap (is_in q) (cond-false _ _ _ new)) ∙ any)) [
      | inl h ↦ ap (λ (k : ℕ). is_in k explored) h ∙ new
      | inr h ↦ left_out explored vs q h
    ])

pub left_or : (explored nodes : List ℕ) (q : ℕ) → is_in q nodes ≡ true → is_in q explored ≡ false
    → is_in q (left_of explored nodes) ≡ true
left_or explored [] q any out = any
left_or explored (v ∷ vs) q any out = by_cases (is_in v explored) (is_in q (left_of explored (v ∷ vs)) ≡ true)
    (λ known. ap (is_in q) (cond-true _ _ _ known) ∙ elim (in_split q v vs any) [
      | inl h ↦ absurd (true≢false (sym (subst (λ (k : ℕ). is_in k explored ≡ true) (sym h) known) ∙ out))
      | inr h ↦ left_or explored vs q h out
    ])
    (λ new. ap (is_in q) (cond-false _ _ _ new) ∙ elim (in_split q v vs any) [
      | inl h ↦ subst (λ (k : ℕ). is_in k (v ∷ left_of explored vs) ≡ true) (sym h) (in_head v (left_of explored vs))
      | inr h ↦ in_tail q v (left_of explored vs) (left_or explored vs q h out)
    ])

pub left_apart : (explored nodes : List ℕ) → AreApart nodes → AreApart (left_of explored nodes)
left_apart explored [] apart = tt
left_apart explored (v ∷ vs) apart = by_cases (is_in v explored) (AreApart (left_of explored (v ∷ vs)))
    (λ known. subst AreApart (sym (cond-true _ _ _ known)) (left_apart explored vs apart.1))
    (λ new. subst AreApart (sym (cond-false _ _ _ new)) (
      not_in v (left_of explored vs) (λ h. true≢false (sym (left_in explored vs v h) ∙ apart.0)),
      left_apart explored vs apart.1,
    ))

pub apart_append : (xs ys : List ℕ) → AreApart xs → AreApart ys
    → ((q : ℕ) → is_in q xs ≡ true → is_in q ys ≡ true → ⊥) → AreApart (xs ++ ys)
apart_append [] ys one two never = two
apart_append (x ∷ xs) ys one two never = (
  not_in x (xs ++ ys) (λ any. elim (in_either x xs ys any) [
    | inl h ↦ true≢false (sym h ∙ one.0)
    | inr h ↦ never x (in_head x xs) h
  ]),
  apart_append xs ys one.1 two (λ q any. never q (in_tail q x xs any)),
)

-- ---- fronts and rears

pub front_in : (k : ℕ) (nodes : List ℕ) (q : ℕ) → is_in q (front k nodes) ≡ true → is_in q nodes ≡ true
front_in zero nodes q any = absurd (true≢false (sym any))
front_in (suc k) [] q any = any
front_in (suc k) (v ∷ vs) q any = elim (in_split q v (front k vs) any) [
  | inl h ↦ subst (λ (j : ℕ). is_in j (v ∷ vs) ≡ true) (sym h) (in_head v vs)
  | inr h ↦ in_tail q v vs (front_in k vs q h)
]

pub front_long : (k : ℕ) (nodes : List ℕ) → k ≤ length nodes → length (front k nodes) ≡ k
front_long zero nodes few = refl
front_long (suc k) [] few = absurd (omega (arith, few))
front_long (suc k) (v ∷ vs) few =
    let rest : length (front k vs) ≡ k = front_long k vs (omega (arith, few)) in
    omega (arith, rest)

pub rear_long : (k : ℕ) (nodes : List ℕ) → k ≤ length nodes → length (rear k nodes) ≡ length nodes - k
rear_long k [] few = omega (arith, few)
rear_long zero (v ∷ vs) few =
    let rest : length (rear zero vs) ≡ length vs - 0 = rear_long zero vs (omega arith) in
    let both : length (rear zero vs ++ (v ∷ [])) ≡ length (rear zero vs) + length (v ∷ []) =
    length-append (rear zero vs) (v ∷ []) in
    omega (arith, rest, both)
rear_long (suc k) (v ∷ vs) few =
    let rest : length (rear k vs) ≡ length vs - k = rear_long k vs (omega (arith, few)) in
    omega (arith, rest)

module _ (net : Network) (is : IsNetwork net) where
  pub rear_down : (k j : ℕ) (nodes : List ℕ) (q : ℕ) → j ≤ k → is_in q (rear k nodes) ≡ true
      → is_in q (rear j nodes) ≡ true
  rear_down k j [] q less any = any
  rear_down zero zero (v ∷ vs) q less any = any
  rear_down zero (suc j) (v ∷ vs) q less any = absurd (omega (arith, less))
  rear_down (suc k) zero (v ∷ vs) q less any =
      rear_all net is (v ∷ vs) q (in_tail q v vs (rear_in net is k vs q any))
  rear_down (suc k) (suc j) (v ∷ vs) q less any = rear_down k j vs q (omega (arith, less)) any

  pub front_or_rear : (k : ℕ) (nodes : List ℕ) (q : ℕ) → is_in q nodes ≡ true
      → (is_in q (front k nodes) ≡ true) ⊎ (is_in q (rear k nodes) ≡ true)
  front_or_rear k [] q any = absurd (true≢false (sym any))
  front_or_rear zero (v ∷ vs) q any = inr (rear_all net is (v ∷ vs) q any)
  front_or_rear (suc k) (v ∷ vs) q any = elim (in_split q v vs any) [
    | inl h ↦ inl (subst (λ (j : ℕ). is_in j (v ∷ front k vs) ≡ true) (sym h) (in_head v (front k vs)))
    | inr h ↦ elim (front_or_rear k vs q h) [
      | inl e ↦ inl (in_tail q v (front k vs) e)
      | inr e ↦ inr e
    ]
  ]

  pub not_both : (k : ℕ) (nodes : List ℕ) (q : ℕ) → AreApart nodes → is_in q (front k nodes) ≡ true
      → is_in q (rear k nodes) ≡ true → ⊥
  not_both zero nodes q apart one two = true≢false (sym one)
  not_both (suc k) [] q apart one two = true≢false (sym one)
  not_both (suc k) (v ∷ vs) q apart one two = elim (in_split q v (front k vs) one) [
    | inl h ↦ true≢false (sym (subst (λ (j : ℕ). is_in j vs ≡ true) h (rear_in net is k vs q two)) ∙ apart.0)
    | inr h ↦ not_both k vs q apart.1 h two
  ]

-- ---- without one of them

abbrev pub drop_one : ℕ → List ℕ → List ℕ
drop_one w [] = []
drop_one w (v ∷ vs) = if v == w then vs else v ∷ drop_one w vs

pub dropped_in : (w : ℕ) (nodes : List ℕ) (q : ℕ) → is_in q (drop_one w nodes) ≡ true → is_in q nodes ≡ true
dropped_in w [] q any = any
dropped_in w (v ∷ vs) q any = by_cases (v == w) (is_in q (v ∷ vs) ≡ true)
    (λ same. in_tail q v vs (sym (ap (is_in q) (cond-true _ _ _ same)) ∙ any))
    (λ other. elim (in_split q v (drop_one w vs) (sym (ap (is_in q) (cond-false _ _ _ other)) ∙ any)) [
      | inl h ↦ subst (λ (j : ℕ). is_in j (v ∷ vs) ≡ true) (sym h) (in_head v vs)
      | inr h ↦ in_tail q v vs (dropped_in w vs q h)
    ])

pub dropped_or : (w : ℕ) (nodes : List ℕ) (q : ℕ) → is_in q nodes ≡ true
    → (q ≡ w) ⊎ (is_in q (drop_one w nodes) ≡ true)
dropped_or w [] q any = absurd (true≢false (sym any))
dropped_or w (v ∷ vs) q any = elim (eqb_tells v w) [
  | inl same ↦ elim (in_split q v vs any) [
    | inl h ↦ inl (h ∙ same.1)
    | inr h ↦ inr (ap (is_in q) (cond-true _ _ _ same.0) ∙ h)
  ]
  | inr other ↦ elim (in_split q v vs any) [
    | inl h ↦ inr (ap (is_in q) (cond-false _ _ _ other.0)
        ∙ subst (λ (j : ℕ). is_in j (v ∷ drop_one w vs) ≡ true) (sym h) (in_head v (drop_one w vs)))
    | inr h ↦ elim (dropped_or w vs q h) [
      | inl e ↦ inl e
      | inr e ↦ inr (ap (is_in q) (cond-false _ _ _ other.0) ∙ in_tail q v (drop_one w vs) e)
    ]
  ]
]

pub dropped_long : (w : ℕ) (nodes : List ℕ) → is_in w nodes ≡ true → length (drop_one w nodes) + 1 ≡ length nodes
dropped_long w [] any = absurd (true≢false (sym any))
dropped_long w (v ∷ vs) any = elim (eqb_tells v w) [
  | inl same ↦
      let long : length (drop_one w (v ∷ vs)) ≡ length vs = ap length (cond-true _ _ _ same.0) in
      omega (arith, long)
  | inr other ↦
      let long : length (drop_one w (v ∷ vs)) ≡ length (v ∷ drop_one w vs) = ap length (cond-false _ _ _ other.0) in
      elim (in_split w v vs any) [
        | inl h ↦ absurd (other.1 (sym h))
        | inr h ↦
            let rest : length (drop_one w vs) + 1 ≡ length vs = dropped_long w vs h in
            omega (arith, long, rest)
      ]
]

module _ (net : Network) (is : IsNetwork net) where
  abbrev Growing : List ℕ → List ℕ → Type 0
  Growing = Grows net (λ u port below. (is.labelled.within u port below, is.labelled.back u port below))

  grows_as : (S T nodes : List ℕ) → ((q : ℕ) → is_in q S ≡ true → is_in q T ≡ true)
      → ((q : ℕ) → is_in q T ≡ true → is_in q S ≡ true) → Growing S nodes → Growing T nodes
  grows_as S T [] up down grows = tt
  grows_as S T (v ∷ vs) up down grows = (
    (grows.0.0, up grows.0.0 grows.0.1, grows.0.2),
    not_in v T (λ h. true≢false (sym (down v h) ∙ grows.1)),
    grows_as (v ∷ S) (v ∷ T) vs (both S T up) (both T S down) grows.2,
  )
    where
      both : (A B : List ℕ) → ((q : ℕ) → is_in q A ≡ true → is_in q B ≡ true) → (q : ℕ)
          → is_in q (v ∷ A) ≡ true → is_in q (v ∷ B) ≡ true
      both A B more q any = elim (in_split q v A any) [
        | inl e ↦ subst (λ (j : ℕ). is_in j (v ∷ B) ≡ true) (sym e) (in_head v B)
        | inr e ↦ in_tail q v B (more q e)
      ]

  swap : (a b : ℕ) (S : List ℕ) (q : ℕ) → is_in q (a ∷ b ∷ S) ≡ true → is_in q (b ∷ a ∷ S) ≡ true
  swap a b S q any = elim (in_split q a (b ∷ S) any) [
    | inl e ↦ in_tail q b (a ∷ S) (subst (λ (j : ℕ). is_in j (a ∷ S) ≡ true) (sym e) (in_head a S))
    | inr e ↦ elim (in_split q b S e) [
      | inl x ↦ subst (λ (j : ℕ). is_in j (b ∷ a ∷ S) ≡ true) (sym x) (in_head b (a ∷ S))
      | inr x ↦ in_tail q b (a ∷ S) (in_tail q a S x)
    ]
  ]

  -- the sequence stays growing when one of its nodes is explored first
  pub grows_dropped : (w : ℕ) (known nodes : List ℕ) → is_in w known ≡ false → Growing known nodes
      → is_in w nodes ≡ true
      → Growing (w ∷ known) (drop_one w nodes)
  grows_dropped w known [] new grows any = tt
  grows_dropped w known (v ∷ vs) new grows any = elim (eqb_tells v w) [
    | inl same ↦ subst (Growing (w ∷ known)) (sym (cond-true _ _ _ same.0))
        (subst (λ (k : ℕ). Growing (k ∷ known) vs) same.1 grows.2)
    | inr other ↦
        let later : is_in w vs ≡ true = elim (in_split w v vs any) [
          | inl h ↦ absurd (other.1 (sym h))
          | inr h ↦ h
        ] in
        let new_too : is_in w (v ∷ known) ≡ false = not_in w (v ∷ known) (λ h. elim (in_split w v known h) [
          | inl e ↦ other.1 (sym e)
          | inr e ↦ true≢false (sym e ∙ new)
        ]) in
        subst (Growing (w ∷ known)) (sym (cond-false _ _ _ other.0)) (
          (grows.0.0, in_tail grows.0.0 w known grows.0.1, grows.0.2),
          not_in v (w ∷ known) (λ h. elim (in_split v w known h) [
            | inl e ↦ other.1 e
            | inr e ↦ true≢false (sym e ∙ grows.1)
          ]),
          grows_as (w ∷ v ∷ known) (v ∷ w ∷ known) (drop_one w vs) (swap w v known) (swap v w known)
              (grows_dropped w (v ∷ known) vs new_too grows.2 later),
        )
  ]
