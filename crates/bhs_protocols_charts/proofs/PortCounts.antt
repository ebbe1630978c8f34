-- All nodes of a network have an even number of ports together; and how many ports all nodes but one have at most.
use Rattle.std.proofs.Common.{ℕ, zero, suc, ◌+◌, ◌-◌, ◌*◌, ◌<◌, ◌≤◌, ◌≡◌, ⊎_elim}
use Rattle.std.proofs.Common.{[], length, refl, sym, ap, arith}
use Rattle.bhs_net.specs.Network.{Network, IsPortLabelled, nodes_of, degree_of, ports_of}
use Rattle.bhs_net.proofs.Places.{below_or_at}
use Rattle.bhs_protocols_unmapped.specs.Degrees.{ports_beside}
use Rattle.bhs_protocols_charts.proofs.Totals.{total, total_same, total_add, total_grows, total_constant, sum_is_total}
use Rattle.bhs_protocols_charts.proofs.HoleEnds.{ways, as_many_back, ways_in_are, hole_has_none, beside_is}

-- ---- an even number

pub record IsEven (number : ℕ) : Type 0 where
  pub half : ℕ
  pub is : number ≡ 2 * half

-- The total over all pairs is even if a pair counts the same in either order, and a number with itself counts 0.
even_total : (f : ℕ → ℕ → ℕ) (n : ℕ) → ((i j : ℕ) → f i j ≡ f j i) → ((i : ℕ) → i < n → f i i ≡ 0)
    → IsEven (total (λ j. total (λ i. f i j) n) n)
even_total f zero same none = record { half = 0; is = refl }
even_total f (suc n) same none =
    let rest : IsEven (total (λ j. total (λ i. f i j) n) n) =
    even_total f n same (λ i low. none i (omega (arith, low))) in record {
      half = rest.half + total (f n) n;
      is = omega (
        arith,
        rest.is,
        total_add (λ j. total (λ i. f i j) n) (f n) n,
        total_same (f n) (λ i. f i n) n (λ i low. same n i),
        none n (omega arith),
      );
    }

module _ (net : Network) (labelled : IsPortLabelled net) where
  alike : (node other : ℕ) → ways net labelled node other ≡ ways net labelled other node
  alike node other = omega (arith, as_many_back net labelled node other, as_many_back net labelled other node)

  pub even_ports : IsEven (ports_of net)
  even_ports =
      let even = even_total (ways net labelled) (nodes_of net) alike
      (λ node low. hole_has_none net labelled node low) in record {
        half = even.half;
        is = omega (
          arith,
          even.is,
          sum_is_total length net [],
          total_same (degree_of net) (λ node. total (λ i. ways net labelled i node) (nodes_of net)) (nodes_of net)
              (λ node low. sym (ways_in_are net labelled node low)),
        );
      }

-- ---- at most so many

-- Every summand except one is at most this bound.
others_within : (f : ℕ → ℕ) (n at most : ℕ) → at < n → ((k : ℕ) → k < n → f k ≤ most)
    → total f n + most ≤ n * most + f at
others_within f zero at most lt each = absurd (omega (arith, lt))
others_within f (suc n) at most lt each = ⊎_elim
    (λ below. omega (
      arith,
      each n (omega arith),
      others_within f n at most below (λ k low. each k (omega (arith, low))),
    ))
    (λ here. omega (
      arith,
      total_grows f (λ k. most) n (λ k low. each k (omega (arith, low))),
      total_constant most n,
      ap f here,
    ))
    (below_or_at at n (omega (arith, lt)))

all_but_one : (n most : ℕ) → 0 < n → n * most ≡ most * (n - 1) + most
all_but_one zero most some = absurd (omega (arith, some))
all_but_one (suc n) most some =
    let before : most * (suc n - 1) ≡ most * n =
    ap (λ (k : ℕ). most * k) (let same : suc n - 1 ≡ n = omega arith in same) in
    omega (arith, before)

pub few_beside : (net : Network) (labelled : IsPortLabelled net) (hole most : ℕ) → hole < nodes_of net
    → ((node : ℕ) → node < nodes_of net → degree_of net node ≤ most)
    → ports_beside net hole ≤ most * (nodes_of net - 1)
few_beside net labelled hole most within each =
    omega (
      arith,
      beside_is net labelled hole within,
      others_within (degree_of net) (nodes_of net) hole most within each,
      all_but_one (nodes_of net) most (omega (arith, within)),
    )
