-- What a search by halves costs.
use Rattle.std.proofs.Common.{ℕ, zero, suc, ◌+◌, ◌-◌, ◌*◌, ◌/◌, ◌<◌, ◌≤◌, ◌≡◌, true, false, sym, ap, ◌∙◌, subst}
use Rattle.std.proofs.Common.{nat_lt, arith}
use Rattle.std.proofs.lemmas.Bool.{ltb-true, cond-true, cond-false, ltb-false}
use Rattle.bhs_model.proofs.StepLemmas.{by_cases}
use Rattle.bhs_protocols.specs.Halving.{doubled, rounds_to, rounds, walks, walks_at, most_moves, WaysArePaid}
use Rattle.bhs_protocols.specs.Halving.{LastWaysArePaid, MovesAre, MovesAreFew, RoundsAreLeast, RoundsReach}

pub doubled_some : (k : ℕ) → 0 < doubled k
doubled_some zero = omega arith
doubled_some (suc k) = let rest : 0 < doubled k = doubled_some k in omega (arith, rest)

doubled_over : (k : ℕ) → k < doubled k
doubled_over zero = omega arith
doubled_over (suc k) = let rest : k < doubled k = doubled_over k in omega (arith, rest)

doubled_mono : (j k : ℕ) → doubled j ≤ doubled (j + k)
doubled_mono j zero =
    let none : j + 0 ≡ j = omega arith in
    let same : doubled (j + 0) ≡ doubled j = ap doubled none in
    omega (arith, same)
doubled_mono j (suc k) =
    let rest : doubled j ≤ doubled (j + k) = doubled_mono j k in
    let same : j + suc k ≡ suc (j + k) = omega arith in
    let at : doubled (j + suc k) ≡ doubled (suc (j + k)) = ap doubled same in
    omega (arith, rest, at)

pub doubled_within : (j k : ℕ) → j ≤ k → doubled j ≤ doubled k
doubled_within j k within =
    let is : j + (k - j) ≡ k = omega (arith, within) in
    let at : doubled (j + (k - j)) ≡ doubled k = ap doubled is in
    let more : doubled j ≤ doubled (j + (k - j)) = doubled_mono j (k - j) in
    omega (arith, more, at)

-- ---- rounds

more_rounds : (k left : ℕ) → nat_lt (doubled k) left ≡ true → rounds_to (suc k) left ≡ suc k
more_rounds k left h = cond-true _ _ _ h

same_rounds : (k left : ℕ) → nat_lt (doubled k) left ≡ false → rounds_to (suc k) left ≡ rounds_to k left
same_rounds k left h = cond-false _ _ _ h

reach_to : (most left : ℕ) → left ≤ doubled most → left ≤ doubled (rounds_to most left)
reach_to zero left within = within
reach_to (suc k) left within = by_cases (nat_lt (doubled k) left) (left ≤ doubled (rounds_to (suc k) left))
    (λ yes. subst (λ (r : ℕ). left ≤ doubled r) (sym (more_rounds k left yes)) within)
    (λ none. subst (λ (r : ℕ). left ≤ doubled r) (sym (same_rounds k left none))
    (reach_to k left (ltb-false (doubled k) left none)))

pub rounds_reach : RoundsReach
rounds_reach left = let over : left < doubled left = doubled_over left in reach_to left left (omega (arith, over))

least_to : (most left times : ℕ) → left ≤ doubled times → rounds_to most left ≤ times
least_to zero left times within = omega arith
least_to (suc k) left times within = by_cases (nat_lt (doubled k) left) (rounds_to (suc k) left ≤ times)
    (λ yes.
    let less : doubled k < left = ltb-true (doubled k) left yes in
    let not_within : (times ≤ k) → ⊥ = λ h.
    let below : doubled times ≤ doubled k = doubled_within times k h in omega (arith, below, less, within) in
    let same : rounds_to (suc k) left ≡ suc k = more_rounds k left yes in
    omega (arith, same, not_within))
    (λ none. let same : rounds_to (suc k) left ≡ rounds_to k left = same_rounds k left none in
    let rest : rounds_to k left ≤ times = least_to k left times within in
    omega (arith, same, rest))

pub rounds_least : RoundsAreLeast
rounds_least left times within = least_to left left times within

-- with one round less, so many nodes are not reached
over_to : (most left times : ℕ) → rounds_to most left ≡ suc times → doubled times < left
over_to zero left times is = absurd (omega (arith, is))
over_to (suc k) left times is = by_cases (nat_lt (doubled k) left) (doubled times < left)
    (λ yes.
    let same : rounds_to (suc k) left ≡ suc k = more_rounds k left yes in
    let equal : times ≡ k = omega (arith, same, is) in
    subst (λ (t : ℕ). doubled t < left) (sym equal) (ltb-true (doubled k) left yes))
    (λ none. over_to k left times (sym (same_rounds k left none) ∙ is))

pub rounds_over : (left times : ℕ) → rounds left ≡ suc times → doubled times < left
rounds_over left times is = over_to left left times is

pub rounds_within : (one two : ℕ) → one ≤ two → rounds one ≤ rounds two
rounds_within one two within =
    let reach : two ≤ doubled (rounds two) = rounds_reach two in
    rounds_least one (rounds two) (omega (arith, within, reach))

pub rounds_some : (left : ℕ) → 2 ≤ left → 0 < rounds left
rounds_some left two =
    let not_none : (rounds left ≤ 0) → ⊥ = λ h.
    let below : doubled (rounds left) ≤ doubled 0 = doubled_within (rounds left) 0 h in
    let reach : left ≤ doubled (rounds left) = rounds_reach left in omega (arith, below, reach, two) in
    omega (arith, not_none)

-- half of what is left takes a round less
pub rounds_half : (left : ℕ) → 2 ≤ left → rounds (left - left / 2) + 1 ≤ rounds left
rounds_half left two =
    let some : 0 < rounds left = rounds_some left two in
    let is : rounds left ≡ suc (rounds left - 1) = omega (arith, some) in
    let at : doubled (rounds left) ≡ doubled (suc (rounds left - 1)) = ap doubled is in
    let reach : left ≤ doubled (rounds left) = rounds_reach left in
    let least : rounds (left - left / 2) ≤ rounds left - 1 =
    rounds_least (left - left / 2) (rounds left - 1) (omega (arith, at, reach)) in
    omega (arith, least, some)

-- ---- ways

walks_mono : (n j k : ℕ) → walks n j ≤ walks n (j + k)
walks_mono n j zero =
    let none : j + 0 ≡ j = omega arith in
    let same : walks n (j + 0) ≡ walks n j = ap (walks n) none in
    omega (arith, same)
walks_mono n j (suc k) =
    let rest : walks n j ≤ walks n (j + k) = walks_mono n j k in
    let same : j + suc k ≡ suc (j + k) = omega arith in
    let at : walks n (j + suc k) ≡ walks n (suc (j + k)) = ap (walks n) same in
    omega (arith, rest, at)

pub walks_within : (n j k : ℕ) → j ≤ k → walks n j ≤ walks n k
walks_within n j k within =
    let is : j + (k - j) ≡ k = omega (arith, within) in
    let at : walks n (j + (k - j)) ≡ walks n k = ap (walks n) is in
    let more : walks n j ≤ walks n (j + (k - j)) = walks_mono n j (k - j) in
    omega (arith, more, at)

pub walks_at_within : (n one two : ℕ) → one ≤ two → walks_at n one ≤ walks_at n two
walks_at_within n one two within = walks_within n (rounds one) (rounds two) (rounds_within one two within)

pub ways_are_paid : WaysArePaid
ways_are_paid n known left two within =
    let half : rounds (left - left / 2) + 1 ≤ rounds left = rounds_half left two in
    let is : rounds left ≡ suc (rounds left - 1) = omega (arith, half) in
    let over : doubled (rounds left - 1) < left = rounds_over left (rounds left - 1) is in
    let at : walks n (rounds left) ≡ walks n (suc (rounds left - 1)) = ap (walks n) is in
    let few : walks n (rounds (left - left / 2)) ≤ walks n (rounds left - 1) =
    walks_within n (rounds (left - left / 2)) (rounds left - 1) (omega (arith, half)) in
    let more : walks n (rounds left) ≤ walks n (rounds known) =
    walks_within n (rounds left) (rounds known) (rounds_within left known within) in
    omega (arith, over, at, few, more)

pub last_ways_are_paid : LastWaysArePaid
last_ways_are_paid n known two within =
    let some : 0 < rounds known = rounds_some known two in
    let one : walks n 1 ≤ walks n (rounds known) = walks_within n 1 (rounds known) (omega (arith, some)) in
    omega (arith, one, two, within)

-- ---- all of them

walks_are : (n k : ℕ) → doubled k ≤ 2 * (n - 2) → walks n k + 2 * doubled k ≡ 2 * ((n - 2) * k) + 2
walks_are n zero within = omega arith
walks_are n (suc k) within =
    let rest : walks n k + 2 * doubled k ≡ 2 * ((n - 2) * k) + 2 = walks_are n k (omega (arith, within)) in
    let more : (n - 2) * suc k ≡ (n - 2) * k + (n - 2) = times_suc (n - 2) k in
    omega (arith, rest, more, within)
  where
    times_suc : (a b : ℕ) → a * suc b ≡ a * b + a
    times_suc a b = grind arith

-- the first two parts are divided one round less often than all nodes but one
first_round : (n : ℕ) → 3 ≤ n → rounds (n - 1) ≡ suc (rounds (n / 2))
first_round n three =
    let half : rounds (n - 1 - (n - 1) / 2) + 1 ≤ rounds (n - 1) = rounds_half (n - 1) (omega (arith, three)) in
    let halves : n - 1 - (n - 1) / 2 ≡ n / 2 = omega (arith, three) in
    let same : rounds (n - 1 - (n - 1) / 2) ≡ rounds (n / 2) = ap rounds halves in
    let reach : n / 2 ≤ doubled (rounds (n / 2)) = rounds_reach (n / 2) in
    let least : rounds (n - 1) ≤ suc (rounds (n / 2)) =
    rounds_least (n - 1) (suc (rounds (n / 2))) (omega (arith, reach, three)) in
    omega (arith, half, same, least)

pub moves_are : MovesAre
moves_are n three =
    let r : ℕ = rounds (n / 2) in
    let first : rounds (n - 1) ≡ suc r = first_round n three in
    let over : doubled r < n - 1 = rounds_over (n - 1) r first in
    let is : walks n r + 2 * doubled r ≡ 2 * ((n - 2) * r) + 2 = walks_are n r (omega (arith, over)) in
    let power : doubled (rounds (n - 1)) ≡ 2 * doubled r = ap doubled first in
    let product : 2 * (n - 2) * rounds (n - 1) ≡ 2 * ((n - 2) * r) + 2 * (n - 2) =
    ap (λ (k : ℕ). 2 * (n - 2) * k) first ∙ times_more (n - 2) r in
    omega (arith, is, power, product, three)
  where
    times_more : (a b : ℕ) → 2 * a * suc b ≡ 2 * (a * b) + 2 * a
    times_more a b = grind arith

pub moves_are_few : MovesAreFew
moves_are_few n three =
    let is : most_moves n + doubled (rounds (n - 1)) ≡ 2 * (n - 2) * rounds (n - 1) + n + 1 = moves_are n three in
    let reach : n - 1 ≤ doubled (rounds (n - 1)) = rounds_reach (n - 1) in
    omega (arith, is, reach, three)
