-- Mirror symmetry: a line numbered from the opposite border, with the explored and the new nodes reversed.
use Rattle.std.proofs.Common.{ℕ, ◌+◌, ◌-◌, ◌<◌, ◌≤◌, ◌≡◌, ◌⊎◌, sym, ap, ◌∙◌, subst, inl, inr, if◌then◌else◌, nat_lt}
use Rattle.std.proofs.Common.{arith}
use Rattle.std.proofs.lemmas.Bool.{cond-true, cond-false, ltb-true, ltb-false}
use Rattle.bhs_model.specs.Worlds.{World, Network}
use Rattle.bhs_model.specs.Draws.{Held}
use Rattle.bhs_model.proofs.StepLemmas.{by_cases}
use Rattle.bhs_schedules.specs.Strategies.{Strategies}
use Rattle.bhs_protocols.specs.Configurations.{Configuration}
use Rattle.bhs_protocols_bounds.proofs.Places.{IsOnLinkTo}
use Rattle.bhs_protocols_bounds.proofs.Lines.{Line, AreNext, IsLine, IsFront, IsSpread}

abbrev pub turned : (n front k : ℕ) → ℕ
turned n front k = if nat_lt k front then front - 1 - k else n + front - 1 - k

abbrev pub mirror : (n front : ℕ) → Line → Line
mirror n front line = record {
  number = λ node. turned n front (line.number node);
  at = λ k. line.at (turned n front k);
}

-- the two cases
pub record IsTurned (n front k it : ℕ) : Type 0 where
  pub either : ((k < front) × (it + k + 1 ≡ front)) ⊎ ((front ≤ k) × (it + k + 1 ≡ n + front))

pub turned_is : (n front k : ℕ) → k < n → IsTurned n front k (turned n front k)
turned_is n front k below = by_cases (nat_lt k front) (IsTurned n front k (turned n front k))
    (λ yes.
    let low : k < front = ltb-true k front yes in
    let is : turned n front k ≡ front - 1 - k = cond-true (nat_lt k front) _ _ yes in
    record { either = inl (low, omega (arith, low, is)) })
    (λ none.
    let high : front ≤ k = ltb-false k front none in
    let is : turned n front k ≡ n + front - 1 - k = cond-false (nat_lt k front) _ _ none in
    record { either = inr (high, omega (arith, high, is, below)) })

turned_below : (n front k it : ℕ) → k < n → front < n → IsTurned n front k it → it < n
turned_below n front k it below inside is = elim is.either [
  | inl h ↦ let sum : it + k + 1 ≡ front = h.1 in omega (arith, sum, inside)
  | inr h ↦ let sum : it + k + 1 ≡ n + front = h.1 in let high : front ≤ k = h.0 in omega (arith, sum, high)
]

-- twice is nothing
turned_twice : (n front k it again : ℕ) → k < n → front < n → IsTurned n front k it → IsTurned n front it again
    → again ≡ k
turned_twice n front k it again below inside one other = elim one.either [
  | inl h ↦ elim other.either [
    | inl g ↦ let a : it + k + 1 ≡ front = h.1 in let b : again + it + 1 ≡ front = g.1 in omega (arith, a, b)
    | inr g ↦ absurd (let a : it + k + 1 ≡ front = h.1 in let b : front ≤ it = g.0 in omega (arith, a, b))
  ]
  | inr h ↦ elim other.either [
    | inl g ↦ absurd (let a : it + k + 1 ≡ n + front = h.1 in let b : it < front = g.0 in omega (arith, a, b, below))
    | inr g ↦ let a : it + k + 1 ≡ n + front = h.1 in let b : again + it + 1 ≡ n + front = g.1 in omega (arith, a, b)
  ]
]

-- the side of the front is kept
turned_low : (n front k it : ℕ) → k < n → IsTurned n front k it → it < front → k < front
turned_low n front k it below is low = elim is.either [
  | inl h ↦ h.0
  | inr h ↦ absurd (let sum : it + k + 1 ≡ n + front = h.1 in omega (arith, sum, low, below))
]

turned_still_low : (n front k it : ℕ) → IsTurned n front k it → k < front → it < front
turned_still_low n front k it is low = elim is.either [
  | inl h ↦ let sum : it + k + 1 ≡ front = h.1 in omega (arith, sum)
  | inr h ↦ absurd (let high : front ≤ k = h.0 in omega (arith, high, low))
]

abbrev NextIn : (n p q : ℕ) → Type 0
NextIn n p q = (p ≡ q + 1) ⊎ (q ≡ p + 1) ⊎ ((p ≡ 0) × (q + 1 ≡ n)) ⊎ ((q ≡ 0) × (p + 1 ≡ n))

-- what is next stays next
turned_next : (n front x y a b : ℕ) → 1 ≤ front → front < n → x < n → y < n → IsTurned n front x a
    → IsTurned n front y b → AreNext n x y → AreNext n a b
turned_next n front x y a b some inside below below_too one other next = elim one.either [
  | inl h ↦ elim other.either [
    | inl g ↦ low_low h.0 h.1 g.0 g.1 next.either
    | inr g ↦ low_high h.0 h.1 g.0 g.1 next.either
  ]
  | inr h ↦ elim other.either [
    | inl g ↦ high_low h.0 h.1 g.0 g.1 next.either
    | inr g ↦ high_high h.0 h.1 g.0 g.1 next.either
  ]
]
  where
    low_low : x < front → a + x + 1 ≡ front → y < front → b + y + 1 ≡ front → NextIn n x y → AreNext n a b
    low_low i j k l either = elim either [
      | inl e ↦ record { either = inr (inl (omega (arith, j, l, e))) }
      | inr rest ↦ elim rest [
        | inl e ↦ record { either = inl (omega (arith, j, l, e)) }
        | inr others ↦ elim others [
          | inl e ↦ absurd (let f : y + 1 ≡ n = e.1 in omega (arith, f, k, inside))
          | inr e ↦ absurd (let f : x + 1 ≡ n = e.1 in omega (arith, f, i, inside))
        ]
      ]
    ]

    low_high : x < front → a + x + 1 ≡ front → front ≤ y → b + y + 1 ≡ n + front → NextIn n x y → AreNext n a b
    low_high i j k l either = elim either [
      | inl e ↦ absurd (omega (arith, i, k, e))
      | inr rest ↦ elim rest [
        | inl e ↦ record { either = inr (inr (inl (omega (arith, i, j, k, l, e), omega (arith, i, j, k, l, e)))) }
        | inr others ↦ elim others [
          | inl e ↦ let f : y + 1 ≡ n = e.1 in let g : x ≡ 0 = e.0 in
              record { either = inr (inl (omega (arith, j, l, f, g))) }
          | inr e ↦ absurd (let f : x + 1 ≡ n = e.1 in omega (arith, f, i, inside))
        ]
      ]
    ]

    high_low : front ≤ x → a + x + 1 ≡ n + front → y < front → b + y + 1 ≡ front → NextIn n x y → AreNext n a b
    high_low i j k l either = elim either [
      | inl e ↦ record { either = inr (inr (inr (omega (arith, i, j, k, l, e), omega (arith, i, j, k, l, e)))) }
      | inr rest ↦ elim rest [
        | inl e ↦ absurd (omega (arith, i, k, e))
        | inr others ↦ elim others [
          | inl e ↦ absurd (let f : y + 1 ≡ n = e.1 in omega (arith, f, k, inside))
          | inr e ↦ let f : x + 1 ≡ n = e.1 in let g : y ≡ 0 = e.0 in
              record { either = inl (omega (arith, j, l, f, g)) }
        ]
      ]
    ]

    high_high : front ≤ x → a + x + 1 ≡ n + front → front ≤ y → b + y + 1 ≡ n + front → NextIn n x y → AreNext n a b
    high_high i j k l either = elim either [
      | inl e ↦ record { either = inr (inl (omega (arith, j, l, e))) }
      | inr rest ↦ elim rest [
        | inl e ↦ record { either = inl (omega (arith, j, l, e)) }
        | inr others ↦ elim others [
          | inl e ↦ absurd (let f : x ≡ 0 = e.0 in omega (arith, f, i, some))
          | inr e ↦ absurd (let f : y ≡ 0 = e.0 in omega (arith, f, k, some))
        ]
      ]
    ]

pub mirror_line : (net : Network) (n front : ℕ) (line : Line) → 1 ≤ front → front < n → IsLine net n line
    → IsLine net n (mirror n front line)
mirror_line net n front line some inside is = record {
  size = is.size;
  numbers = λ node below. turned_below n front (line.number node) (turned n front (line.number node))
      (is.numbers node below) inside (turned_is n front (line.number node) (is.numbers node below));
  nodes = λ k below. is.nodes (turned n front k) (inner k below);
  there = λ k below. ap (turned n front) (is.there (turned n front k) (inner k below)) ∙ twice k below;
  back = λ node below. ap line.at (twice (line.number node) (is.numbers node below)) ∙ is.back node below;
  within = is.within;
  next = λ node port below there.
      let x : ℕ = line.number node in
      let y : ℕ = line.number (net.far node port).0 in
      let low : x < n = is.numbers node below in
      let low_too : y < n = is.numbers (net.far node port).0 (is.within node port below there) in
      turned_next n front x y (turned n front x) (turned n front y) some inside low low_too (turned_is n front x low)
      (turned_is n front y low_too) (is.next node port below there);
}
  where
    inner : (k : ℕ) → k < n → turned n front k < n
    inner k below = turned_below n front k (turned n front k) below inside (turned_is n front k below)

    twice : (k : ℕ) → k < n → turned n front (turned n front k) ≡ k
    twice k below = turned_twice n front k (turned n front k) (turned n front (turned n front k)) below inside
        (turned_is n front k below) (turned_is n front (turned n front k) (inner k below))

pub mirror_front : (world : World) (n front : ℕ) (configuration : Configuration) (line : Line) → IsLine world.net n line
    → IsFront world n configuration line front → IsFront world n configuration (mirror n front line) front
mirror_front world n front configuration line is it = record {
  safe = λ node below low. it.safe node below (turned_low n front (line.number node)
      (turned n front (line.number node)) (is.numbers node below)
      (turned_is n front (line.number node) (is.numbers node below)) low);
  explored = λ node below safe. turned_still_low n front (line.number node) (turned n front (line.number node))
      (turned_is n front (line.number node) (is.numbers node below)) (it.explored node below safe);
}

pub mirror_spread : (world : World) (held : Held) (wakeups : ℕ) (strategies : Strategies) (n front agent : ℕ)
    (configuration : Configuration)
    (line : Line) → IsLine world.net n line → IsSpread world held wakeups strategies n configuration line front agent
    → IsSpread world held wakeups strategies n configuration (mirror n front line) front (1 - agent)
mirror_spread world held wakeups strategies n front agent configuration line is it =
    let two_new : front + 2 ≤ n = it.two_new in
    let first : turned n front front ≡ n - 1 = ends front (n - 1) (omega arith) (omega (arith, two_new))
    (turned_is n front front (omega (arith, two_new))) in
    let last : turned n front (n - 1) ≡ front = ends (n - 1) front (omega (arith, two_new)) (omega (arith, two_new))
    (turned_is n front (n - 1) (omega (arith, two_new))) in
    let within : agent < 2 = it.within in
    let twice : agent ≡ 1 - (1 - agent) = omega (arith, within) in
    record {
      some = it.some;
      two_new = it.two_new;
      within = omega arith;
      reachable = it.reachable;
      front_is = mirror_front world n front configuration line is it.front_is;
      here = subst (λ (k : ℕ). IsOnLinkTo world configuration (1 - agent) (line.at k)) (sym first) it.there;
      there = subst (λ (j : ℕ). IsOnLinkTo world configuration j (line.at (turned n front (n - 1)))) twice
          (subst (λ (k : ℕ). IsOnLinkTo world configuration agent (line.at k)) (sym last) it.here);
    }
  where
    ends : (k other : ℕ) → front ≤ k → k + other + 1 ≡ n + front → IsTurned n front k (turned n front k)
        → turned n front k ≡ other
    ends k other high sum is = elim is.either [
      | inl h ↦ absurd (let low : k < front = h.0 in omega (arith, low, high))
      | inr h ↦ let total : turned n front k + k + 1 ≡ n + front = h.1 in omega (arith, sum, total)
    ]
