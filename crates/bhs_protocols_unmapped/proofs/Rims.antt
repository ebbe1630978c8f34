-- A cycle of nodes.
use Rattle.std.proofs.Common.{ℕ, ◌+◌, ◌-◌, ◌<◌, ◌≤◌, ◌≡◌, ◌⊎◌, ◌==◌, subst, sym, if◌then◌else◌, inl, inr, arith}
use Rattle.std.specs.Prelude.{◌≢◌}
use Rattle.std.proofs.lemmas.Bool.{cond-true, cond-false}
use Rattle.std.proofs.lemmas.Bool.Decides.{eqb_tells}

-- The neighbour of a node on a cycle: its successor for role 0, its predecessor for role 1.
unfoldable pub beside : (rim node role : ℕ) → ℕ
beside rim node role =
    if role == 0
    then (if node + 1 == rim then 0 else node + 1)
    else (if node == 0 then rim - 1 else node - 1)

-- case analysis: the successor is node 0, or is the next number
pub next_is : (rim node : ℕ) → ((node + 1 ≡ rim) × (beside rim node 0 ≡ 0)) ⊎ ((node + 1 ≢ rim)
    × (beside rim node 0 ≡ node + 1))
unfolding beside
next_is rim node = elim (eqb_tells (node + 1) (rim)) [
  | inl h ↦ inl (h.1, cond-true (node + 1 == rim) 0 (node + 1) h.0)
  | inr h ↦ inr (h.1, cond-false (node + 1 == rim) 0 (node + 1) h.0)
]

pub before_is : (rim node : ℕ) → ((node ≡ 0) × (beside rim node 1 ≡ rim - 1)) ⊎ ((node ≢ 0)
    × (beside rim node 1 ≡ node - 1))
unfolding beside
before_is rim node = elim (eqb_tells node 0) [
  | inl h ↦ inl (h.1, cond-true (node == 0) (rim - 1) (node - 1) h.0)
  | inr h ↦ inr (h.1, cond-false (node == 0) (rim - 1) (node - 1) h.0)
]

-- Case analysis: a role is 0 or 1.
pub by_role : (P : ℕ → Type 0) (role : ℕ) → role < 2 → P 0 → P 1 → P role
by_role P role below zeroth first = elim (eqb_tells role 0) [
  | inl h ↦ subst P (sym h.1) zeroth
  | inr h ↦ subst P (let is : 1 ≡ role = omega (arith, below, h.1) in is) first
]

pub beside_below : (rim node role : ℕ) → 3 ≤ rim → node < rim → role < 2 → beside rim node role < rim
beside_below rim node role two below small = by_role (λ (r : ℕ). beside rim node r < rim) role small
    (elim (next_is rim node) [
      | inl h ↦ let is : beside rim node 0 ≡ 0 = h.1 in omega (arith, is, two)
      | inr h ↦ let is : beside rim node 0 ≡ node + 1 = h.1 in
          let apart : node + 1 ≢ rim = h.0 in omega (arith, is, apart, below)
    ])
    (elim (before_is rim node) [
      | inl h ↦ let is : beside rim node 1 ≡ rim - 1 = h.1 in omega (arith, is, two)
      | inr h ↦ let is : beside rim node 1 ≡ node - 1 = h.1 in omega (arith, is, below)
    ])

pub beside_back : (rim node role : ℕ) → 3 ≤ rim → node < rim → role < 2
    → beside rim (beside rim node role) (1 - role) ≡ node
beside_back rim node role two below small =
    by_role (λ (r : ℕ). beside rim (beside rim node r) (1 - r) ≡ node) role small
    (elim (next_is rim node) [
      | inl h ↦ elim (before_is rim (beside rim node 0)) [
        | inl k ↦ let is : beside rim (beside rim node 0) 1 ≡ rim - 1 = k.1 in omega (arith, is, h.0, two)
        | inr k ↦ absurd (k.0 h.1)
      ]
      | inr h ↦ elim (before_is rim (beside rim node 0)) [
        | inl k ↦ omega (arith, h.1, k.0)
        | inr k ↦ let is : beside rim (beside rim node 0) 1 ≡ beside rim node 0 - 1 = k.1 in omega (arith, is, h.1)
      ]
    ])
    (elim (before_is rim node) [
      | inl h ↦ elim (next_is rim (beside rim node 1)) [
        | inl k ↦ let is : beside rim (beside rim node 1) 0 ≡ 0 = k.1 in omega (arith, is, h.0)
        | inr k ↦ absurd (let apart : beside rim node 1 + 1 ≢ rim = k.0 in omega (arith, apart, h.1, two))
      ]
      | inr h ↦ elim (next_is rim (beside rim node 1)) [
        | inl k ↦ absurd (let is : beside rim node 1 + 1 ≡ rim = k.0 in
            let nonzero : node ≢ 0 = h.0 in omega (arith, is, h.1, nonzero, below))
        | inr k ↦ let is : beside rim (beside rim node 1) 0 ≡ beside rim node 1 + 1 = k.1 in
            let nonzero : node ≢ 0 = h.0 in omega (arith, is, h.1, nonzero)
      ]
    ])

pub beside_moves : (rim node role : ℕ) → 3 ≤ rim → node < rim → role < 2 → beside rim node role ≢ node
beside_moves rim node role two below small = by_role (λ (r : ℕ). beside rim node r ≢ node) role small
    (λ same. elim (next_is rim node) [
      | inl h ↦ omega (arith, same, h.0, h.1, two)
      | inr h ↦ omega (arith, same, h.1)
    ])
    (λ same. elim (before_is rim node) [
      | inl h ↦ omega (arith, same, h.0, h.1, two)
      | inr h ↦ let nonzero : node ≢ 0 = h.0 in omega (arith, same, nonzero, h.1)
    ])

pub beside_apart : (rim node : ℕ) → 3 ≤ rim → node < rim → beside rim node 0 ≢ beside rim node 1
beside_apart rim node two below same = elim (next_is rim node) [
  | inl h ↦ elim (before_is rim node) [
    | inl k ↦ omega (arith, h.0, k.0, two)
    | inr k ↦ omega (arith, h.0, h.1, k.1, same, two)
  ]
  | inr h ↦ elim (before_is rim node) [
    | inl k ↦ let apart : node + 1 ≢ rim = h.0 in omega (arith, h.1, k.0, k.1, same, two)
    | inr k ↦ omega (arith, h.1, k.1, same)
  ]
]
