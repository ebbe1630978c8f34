-- Sums over the numbers below a number.
use Rattle.std.proofs.Common.{ℕ, zero, suc, ◌+◌, ◌*◌, ◌<◌, ◌≤◌, ◌≡◌, ⊎_elim, Bool, true, false, ◌==◌, ◌&&◌}
use Rattle.std.proofs.Common.{List, [], ◌∷◌, length, slice_index_or, cond, refl, sym, ap, ◌∙◌, arith}
use Rattle.std.proofs.lemmas.Bool.{cases_Bool, eqb-true, eq-eqb, ne_eqb, and_parts, and_from, false_from_ne_true}
use Rattle.std.proofs.lemmas.List.Sums.{sum_by-cons}
use Rattle.std.proofs.lemmas.List.FromFn.{length-range_with_len, get_or-range_with_len}
use Rattle.std.specs.Prelude.{count_by, sum_by}
use Rattle.std.specs.List.{range_with_len}
use Rattle.bhs_net.proofs.Places.{below_or_at}

abbrev pub total : (ℕ → ℕ) → ℕ → ℕ
total f zero = 0
total f (suc n) = total f n + f n

abbrev pub one_if : Bool → ℕ
one_if true = 1
one_if false = 0

pub total_same : (f g : ℕ → ℕ) (n : ℕ) → ((k : ℕ) → k < n → f k ≡ g k) → total f n ≡ total g n
total_same f g zero same = refl
total_same f g (suc n) same =
    let last : f n ≡ g n = same n (omega arith) in
    omega (arith, total_same f g n (λ k lt. same k (omega arith)))

pub total_grows : (f g : ℕ → ℕ) (n : ℕ) → ((k : ℕ) → k < n → f k ≤ g k) → total f n ≤ total g n
total_grows f g zero grows = omega arith
total_grows f g (suc n) grows =
    let last : f n ≤ g n = grows n (omega arith) in
    omega (arith, total_grows f g n (λ k lt. grows k (omega arith)))

pub total_add : (f g : ℕ → ℕ) (n : ℕ) → total (λ k. f k + g k) n ≡ total f n + total g n
total_add f g zero = refl
total_add f g (suc n) = omega (arith, total_add f g n)

pub total_constant : (c n : ℕ) → total (λ k. c) n ≡ n * c
total_constant c zero = omega arith
total_constant c (suc n) = omega (arith, total_constant c n)

pub total_swapped : (f : ℕ → ℕ → ℕ) (m n : ℕ) → total (λ i. total (f i) m) n ≡ total (λ j. total (λ i. f i j) n) m
total_swapped f m zero = omega (arith, total_constant 0 m)
total_swapped f m (suc n) =
    omega (arith, total_swapped f m n, total_add (λ j. total (λ i. f i j) n) (f n) m)

-- one summand changes
pub total_changed : (f g : ℕ → ℕ) (n at : ℕ) → at < n → ((k : ℕ) → k < n → (k == at) ≡ false → g k ≡ f k)
    → total g n + f at ≡ total f n + g at
total_changed f g zero at lt others = absurd (omega arith)
total_changed f g (suc n) at lt others = ⊎_elim
    (λ below.
    let last : g n ≡ f n = others n (omega arith) (ne_eqb n at (λ same. omega arith)) in
    omega (arith, total_changed f g n at below (λ k low. others k (omega arith))))
    (λ here.
    let rest : total g n ≡ total f n =
    total_same g f n (λ k low. others k (omega arith) (ne_eqb k at (λ same. omega arith))) in
    omega (arith, ap f here, ap g here))
    (below_or_at at n (omega arith))

-- all summands rise by at most this
total_rises : (f g : ℕ → ℕ) (n rise : ℕ) → ((k : ℕ) → k < n → g k ≤ f k + rise) → total g n ≤ total f n + n * rise
total_rises f g n rise rises =
    omega (arith, total_grows g (λ k. f k + rise) n rises, total_add f (λ k. rise) n, total_constant rise n)

-- and every other summand increases by at most this bound
pub total_raised : (f g : ℕ → ℕ) (n at rise : ℕ) → at < n
    → ((k : ℕ) → k < n → (k == at) ≡ false → g k ≤ f k + rise)
    → total g n + f at ≤ total f n + g at + n * rise
total_raised f g zero at rise lt others = absurd (omega arith)
total_raised f g (suc n) at rise lt others = ⊎_elim
    (λ below.
    let last : g n ≤ f n + rise = others n (omega arith) (ne_eqb n at (λ same. omega arith)) in
    omega (arith, total_raised f g n at rise below (λ k low. others k (omega arith))))
    (λ here.
    let rest : total g n ≤ total f n + n * rise =
    total_rises f g n rise (λ k low. others k (omega arith) (ne_eqb k at (λ same. omega arith))) in
    omega (arith, ap f here, ap g here))
    (below_or_at at n (omega arith))

-- where each summand is at most another, and the sums are equal, the summands are
pub equal_summands : (f g : ℕ → ℕ) (n : ℕ) → ((k : ℕ) → k < n → f k ≤ g k) → total g n ≤ total f n
    → (k : ℕ) → k < n → f k ≡ g k
equal_summands f g zero grows most k lt = absurd (omega arith)
equal_summands f g (suc n) grows most k lt =
    let rest : total f n ≤ total g n = total_grows f g n (λ i low. grows i (omega arith)) in
    let last : f n ≤ g n = grows n (omega arith) in
    ⊎_elim
    (λ below. equal_summands f g n (λ i low. grows i (omega arith)) (omega arith) k below)
    (λ here. omega (arith, ap f here, ap g here))
    (below_or_at k n (omega arith))

pub summand_within : (f : ℕ → ℕ) (n k : ℕ) → k < n → f k ≤ total f n
summand_within f zero k lt = absurd (omega arith)
summand_within f (suc n) k lt = ⊎_elim
    (λ below. omega (arith, summand_within f n k below))
    (λ here. omega (arith, ap f here))
    (below_or_at k n (omega arith))

-- none passes
pub none_pass : (test : ℕ → Bool) (n : ℕ) → ((k : ℕ) → k < n → test k ≡ false) → total (λ k. one_if (test k)) n ≡ 0
none_pass test n none =
    omega (arith, total_same (λ k. one_if (test k)) (λ k. 0) n (λ k lt. ap one_if (none k lt)), total_constant 0 n)

pub at_most_one : (test : ℕ → Bool) (n : ℕ)
    → ((i j : ℕ) → i < n → j < n → test i ≡ true → test j ≡ true → i ≡ j) → total (λ k. one_if (test k)) n ≤ 1
at_most_one test zero one = omega arith
at_most_one test (suc n) one = ⊎_elim
    (λ yes.
    let none : (k : ℕ) → k < n → test k ≡ false = λ k low. false_from_ne_true (test k) (λ too.
    let same : k ≡ n = one k n (omega arith) (omega arith) too yes in omega arith) in
    omega (arith, none_pass test n none, ap one_if yes))
    (λ no. omega (arith, at_most_one test n (λ i j low below. one i j (omega arith) (omega arith)), ap one_if no))
    (cases_Bool (test n))

-- exactly one number below n is this one
pub one_is : (n at : ℕ) → at < n → total (λ k. one_if (k == at)) n ≡ 1
one_is n at lt =
    omega (
      arith,
      total_changed (λ k. 0) (λ k. one_if (k == at)) n at lt (λ k low other. ap one_if other),
      total_constant 0 n,
      ap one_if (eq-eqb at at refl),
    )

-- If fewer numbers pass than exist, then some number fails.
pub some_fails : (test : ℕ → Bool) (n : ℕ) → total (λ k. one_if (test k)) n < n
    → (k : ℕ) × (k < n) × (test k ≡ false)
some_fails test zero few = absurd (omega arith)
some_fails test (suc n) few = ⊎_elim
    (λ yes.
    let one : one_if (test n) ≡ 1 = ap one_if yes in
    let below = some_fails test n (omega arith) in
    (below.0, (let low : below.0 < n = below.1 in omega arith), below.2))
    (λ no. (n, omega arith, no))
    (cases_Bool (test n))

-- If the numbers that pass a test have different labels, they are no more than the labels.
pub few_labels : (test : ℕ → Bool) (label : ℕ → ℕ) (n labels : ℕ) → ((k : ℕ) → k < n → test k ≡ true → label k < labels)
    → ((i j : ℕ) → i < n → j < n → test i ≡ true → test j ≡ true → label i ≡ label j → i ≡ j)
    → total (λ k. one_if (test k)) n ≤ labels
few_labels test label n labels within apart =
    omega (
      arith,
      total_grows (λ k. one_if (test k)) (λ k. total (has k) labels) n has_one,
      total_swapped has labels n,
      total_grows (λ j. total (λ k. has k j) n) (λ j. 1) labels (λ j low. has_few j),
      total_constant 1 labels,
    )
  where
    has : ℕ → ℕ → ℕ
    has k j = one_if (test k && (label k == j))

    has_one : (k : ℕ) → k < n → one_if (test k) ≤ total (has k) labels
    has_one k low = ⊎_elim
        (λ yes.
        let here : has k (label k) ≡ 1 =
        ap one_if (and_from (test k) (label k == label k) yes (eq-eqb (label k) (label k) refl)) in
        omega (arith, ap one_if yes, summand_within (has k) labels (label k) (within k low yes)))
        (λ no. omega (arith, ap one_if no))
        (cases_Bool (test k))

    has_few : (j : ℕ) → total (λ k. has k j) n ≤ 1
    has_few j = at_most_one (λ k. test k && (label k == j)) n
        (λ a b low below one other.
        let first = and_parts (test a) (label a == j) one in
        let second = and_parts (test b) (label b == j) other in
        apart a b low below first.0 second.0
        (eqb-true (label a) j first.1 ∙ sym (eqb-true (label b) j second.1)))

-- the first summand, and all later ones
pub total_first : (f : ℕ → ℕ) (n : ℕ) → total f (suc n) ≡ f 0 + total (λ k. f (suc k)) n
total_first f zero = omega arith
total_first f (suc n) = omega (arith, total_first f n)

pub sum_is_total : {X : Type 0} (f : X → ℕ) (xs : List X) (d : X)
    → sum_by f xs ≡ total (λ i. f (slice_index_or xs i d)) (length xs)
sum_is_total f [] d = refl
sum_is_total f (x ∷ xs) d =
    omega (
      arith,
      sum_by-cons f x xs,
      sum_is_total f xs d,
      total_first (λ i. f (slice_index_or (x ∷ xs) i d)) (length xs),
    )

cond_is : (b : Bool) → cond b 1 0 ≡ one_if b
cond_is true = refl
cond_is false = refl

pub counted_is_total : {X : Type 0} (test : X → Bool) (xs : List X) (d : X)
    → count_by test xs ≡ total (λ i. one_if (test (slice_index_or xs i d))) (length xs)
counted_is_total test xs d =
    sum_is_total (λ x. cond (test x) 1 0) xs d
    ∙ total_same (λ i. cond (test (slice_index_or xs i d)) 1 0) (λ i. one_if (test (slice_index_or xs i d))) (length xs)
    (λ i low. cond_is (test (slice_index_or xs i d)))

pub count_is_total : (test : ℕ → Bool) (n : ℕ) → count_by test (range_with_len 0 n) ≡ total (λ k. one_if (test k)) n
count_is_total test n =
    let all = length-range_with_len 0 n in
    counted_is_total test (range_with_len 0 n) 0
    ∙ ap (total (λ i. one_if (test (slice_index_or (range_with_len 0 n) i 0)))) all
    ∙ total_same (λ i. one_if (test (slice_index_or (range_with_len 0 n) i 0))) (λ k. one_if (test k)) n
    (λ i low. ap (λ k. one_if (test k)) (get_or-range_with_len 0 n i 0 low ∙ (let e : 0 + i ≡ i = omega arith in e)))
