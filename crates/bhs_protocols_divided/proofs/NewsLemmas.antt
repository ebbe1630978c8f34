-- How many new nodes the first steps of an itinerary explore.
use Rattle.std.proofs.Common.{ℕ, zero, suc, ◌+◌, ◌-◌, ◌*◌, ◌<◌, ◌≤◌, ◌≡◌, Bool, true, false, ap, ◌∙◌}
use Rattle.std.proofs.Common.{arith}
use Rattle.bhs_model.specs.Worlds.{Network}
use Rattle.bhs_protocols_divided.specs.Plans.{Itinerary, IsItinerary, one_of, news}

pub one_at : (b : Bool) → one_of b ≤ 1
one_at true = omega arith
one_at false = omega arith

module _ (it : Itinerary) where
  pub news_more : (k : ℕ) → news it (k + 1) ≡ news it k + one_of (it.is_new k)
  news_more k = let same : k + 1 ≡ suc k = omega arith in ap (news it) same

  pub news_new : (k : ℕ) → it.is_new k ≡ true → news it (k + 1) ≡ news it k + 1
  news_new k is = news_more k ∙ ap (λ (b : Bool). news it k + one_of b) is

  pub news_old : (k : ℕ) → it.is_new k ≡ false → news it (k + 1) ≡ news it k
  news_old k is =
      let one : one_of (it.is_new k) ≡ 0 = ap one_of is in
      let more : news it (k + 1) ≡ news it k + one_of (it.is_new k) = news_more k in
      omega (arith, one, more)

  news_up : (j k : ℕ) → news it j ≤ news it (j + k)
  news_up j zero = let same : news it (j + 0) ≡ news it j = ap (news it) (omega arith) in omega (arith, same)
  news_up j (suc k) =
      let rest : news it j ≤ news it (j + k) = news_up j k in
      let more : news it (j + k + 1) ≡ news it (j + k) + one_of (it.is_new (j + k)) = news_more (j + k) in
      let same : news it (j + suc k) ≡ news it (j + k + 1) = ap (news it) (omega arith) in
      omega (arith, rest, more, same)

  pub news_within : (j k : ℕ) → j ≤ k → news it j ≤ news it k
  news_within j k within =
      let more : news it j ≤ news it (j + (k - j)) = news_up j (k - j) in
      let same : news it (j + (k - j)) ≡ news it k = ap (news it) (omega (arith, within)) in
      omega (arith, more, same)

  -- a new node comes before
  pub news_below : (j k : ℕ) → j < k → it.is_new j ≡ true → news it j + 1 ≤ news it k
  news_below j k below is =
      let one : news it (j + 1) ≡ news it j + 1 = news_new j is in
      let rest : news it (j + 1) ≤ news it k = news_within (j + 1) k (omega (arith, below)) in
      omega (arith, one, rest)

  pub below_by_news : (j k : ℕ) → it.is_new k ≡ true → news it j ≤ news it k → j ≤ k
  below_by_news j k is few =
      let never : (k < j) → ⊥ = λ h. let more : news it k + 1 ≤ news it j =
      news_below k j h is in omega (arith, more, few) in
      omega (arith, never)

  pub same_by_news : (j k : ℕ) → it.is_new j ≡ true → it.is_new k ≡ true → news it j ≡ news it k → j ≡ k
  same_by_news j k is is_too same =
      let one : j ≤ k = below_by_news j k is_too (omega (arith, same)) in
      let two : k ≤ j = below_by_news k j is (omega (arith, same)) in
      omega (arith, one, two)

  pub news_few : (k : ℕ) → news it k ≤ k
  news_few zero = omega arith
  news_few (suc k) =
      let rest : news it k ≤ k = news_few k in
      let one : one_of (it.is_new k) ≤ 1 = one_at (it.is_new k) in
      omega (arith, rest, one)

  -- ---- the number of walks before a step

  abbrev pub walked : ℕ → ℕ
  walked k = k - news it k

  walked_up : (j k : ℕ) → walked j ≤ walked (j + k)
  walked_up j zero = let same : walked (j + 0) ≡ walked j = ap walked (omega arith) in omega (arith, same)
  walked_up j (suc k) =
      let rest : walked j ≤ walked (j + k) = walked_up j k in
      let more : news it (j + k + 1) ≡ news it (j + k) + one_of (it.is_new (j + k)) = news_more (j + k) in
      let one : one_of (it.is_new (j + k)) ≤ 1 = one_at (it.is_new (j + k)) in
      let same : walked (j + suc k) ≡ walked (j + k + 1) = ap walked (omega arith) in
      omega (arith, rest, more, one, same)

  pub walked_within : (j k : ℕ) → j ≤ k → walked j ≤ walked k
  walked_within j k within =
      let more : walked j ≤ walked (j + (k - j)) = walked_up j (k - j) in
      let same : walked (j + (k - j)) ≡ walked k = ap walked (omega (arith, within)) in
      omega (arith, more, same)

  pub walked_new : (k : ℕ) → it.is_new k ≡ true → walked (k + 1) ≡ walked k
  walked_new k is =
      let one : news it (k + 1) ≡ news it k + 1 = news_new k is in
      let few : news it k ≤ k = news_few k in
      omega (arith, one, few)

  pub walked_old : (k : ℕ) → it.is_new k ≡ false → walked (k + 1) ≡ walked k + 1
  walked_old k is =
      let one : news it (k + 1) ≡ news it k = news_old k is in
      let few : news it k ≤ k = news_few k in
      omega (arith, one, few)

  -- an earlier walk is counted
  pub walked_below : (j k : ℕ) → j < k → it.is_new j ≡ false → walked j + 1 ≤ walked k
  walked_below j k below is =
      let one : walked (j + 1) ≡ walked j + 1 = walked_old j is in
      let rest : walked (j + 1) ≤ walked k = walked_within (j + 1) k (omega (arith, below)) in
      omega (arith, one, rest)

  pub walked_few : (net : Network) (n k : ℕ) → IsItinerary net n it → k ≤ it.steps → walked k ≤ 2 * (n - 2)
  walked_few net n k is within =
      let few : it.steps ≤ news it it.steps + 2 * (n - 2) = is.few in
      let up : walked k ≤ walked it.steps = walked_within k it.steps within in
      omega (arith, few, up)
