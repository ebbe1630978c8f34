-- The quotas that the searches ask for grow with the size, so it suffices to compute them on both sides of the largest
-- quota of a file.
use Rattle.std.proofs.Common.{ℕ, zero, suc, ◌+◌, ◌-◌, ◌*◌, ◌/◌, ◌<◌, ◌≤◌, ◌≡◌, refl, ap, ◌∙◌, arith}
use Rattle.std.proofs.lemmas.Nat.{mul-le}
use Rattle.bhs_protocols.specs.Halving.{doubled, rounds, walks, most_commands}
use Rattle.bhs_protocols.specs.Quotas.{largest_quota, HalvesHaveTheirQuota, ShuttlesHaveTheirQuota}
use Rattle.bhs_protocols.proofs.HalvingLemmas.{doubled_within, rounds_reach, rounds_least, rounds_within, walks_within}

-- ---- the search by halves

walks_wider : (n m k : ℕ) → n ≤ m → walks n k ≤ walks m k
walks_wider n m zero within = omega arith
walks_wider n m (suc k) within =
    let rest : walks n k ≤ walks m k = walks_wider n m k within in
    omega (arith, rest, within)

commands_within : (n m : ℕ) → n ≤ m → most_commands n ≤ most_commands m
commands_within n m within =
    let halves : rounds (n / 2) ≤ rounds (m / 2) = rounds_within (n / 2) (m / 2) (omega (arith, within)) in
    let more : walks n (rounds (n / 2)) ≤ walks n (rounds (m / 2)) =
    walks_within n (rounds (n / 2)) (rounds (m / 2)) halves in
    let wider : walks n (rounds (m / 2)) ≤ walks m (rounds (m / 2)) = walks_wider n m (rounds (m / 2)) within in
    omega (arith, halves, more, wider, within)

-- 1,025 to 2,048 nodes are divided 11 times
eleven_rounds : (half : ℕ) → 1024 < half → half ≤ 2048 → rounds half ≡ 11
eleven_rounds half over within =
    let few : rounds half ≤ 11 = rounds_least half 11 (omega (arith, within)) in
    let reach : half ≤ doubled (rounds half) = rounds_reach half in
    let not_ten : rounds half ≤ 10 → ⊥ = λ h.
    let below : doubled (rounds half) ≤ doubled 10 = doubled_within (rounds half) 10 h in
    omega (arith, reach, below, over) in
    omega (arith, few, not_ten)

ways_are : (m size all : ℕ) → rounds (m / 2) ≡ 11 → m ≡ size → walks size 11 ≡ all → walks m (rounds (m / 2)) ≡ all
ways_are m size all eleven is computed = ap (walks m) eleven ∙ ap (λ (k : ℕ). walks k 11) is ∙ computed

few_commands : (m r w : ℕ) → m ≡ 2579 → r ≡ 11 → w ≡ 52600
    → 3 * (m - 2) + 1 + w + 2 * (m - 2) + 2 * r + 2 ≤ largest_quota
few_commands m r w is eleven ways = omega (arith, is, eleven, ways)

many_commands : (m r w : ℕ) → m ≡ 2580 → r ≡ 11 → w ≡ 52622
    → largest_quota < 3 * (m - 2) + 1 + w + 2 * (m - 2) + 2 * r + 2
many_commands m r w is eleven ways = omega (arith, is, eleven, ways)

commands_fit : (n m : ℕ) → m ≡ 2579 → n ≤ m → most_commands n ≤ largest_quota
commands_fit n m is within =
    let eleven : rounds (m / 2) ≡ 11 = eleven_rounds (m / 2) (omega (arith, is)) (omega (arith, is)) in
    let less : most_commands n ≤ most_commands m = commands_within n m within in
    let few : most_commands m ≤ largest_quota =
    few_commands m (rounds (m / 2)) (walks m (rounds (m / 2))) is eleven (ways_are m 2579 52600 eleven is refl) in
    omega (arith, less, few)

commands_exceed : (n m : ℕ) → m ≡ 2580 → m ≤ n → largest_quota < most_commands n
commands_exceed n m is within =
    let eleven : rounds (m / 2) ≡ 11 = eleven_rounds (m / 2) (omega (arith, is)) (omega (arith, is)) in
    let less : most_commands m ≤ most_commands n = commands_within m n within in
    let many : largest_quota < most_commands m =
    many_commands m (rounds (m / 2)) (walks m (rounds (m / 2))) is eleven (ways_are m 2580 52622 eleven is refl)
    in
    omega (arith, less, many)

pub halves_have_their_quota : HalvesHaveTheirQuota
halves_have_their_quota n = ((λ small. commands_fit n 2579 refl small), (λ great. commands_exceed n 2580 refl great))

-- ---- the shuttle

pub shuttles_have_their_quota : ShuttlesHaveTheirQuota
shuttles_have_their_quota n = (
  (λ small.
      let most : (n - 2) * (n - 1) ≤ 254 * 255 =
      mul-le (n - 2) (n - 1) 254 255 (omega (arith, small)) (omega (arith, small)) in
      omega (arith, most, small)),
  (λ great.
      let most : 255 * 256 ≤ (n - 2) * (n - 1) =
      mul-le 255 256 (n - 2) (n - 1) (omega (arith, great)) (omega (arith, great)) in
      omega (arith, most, great)),
)
