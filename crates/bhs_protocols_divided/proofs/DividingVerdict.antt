-- A search by a plan: once nothing more can happen, the match is solved.
use Rattle.std.proofs.Common.{ℕ, zero, suc, ◌+◌, ◌-◌, ◌<◌, ◌≤◌, ◌≡◌, ◌⊎◌, true}
use Rattle.std.proofs.Common.{[], ◌∷◌, refl, sym, ap, ◌∙◌, subst, if◌then◌else◌, nat_lt, inl, inr, arith}
use Rattle.std.specs.Prelude.{◌≢◌}
use Rattle.std.proofs.lemmas.Bool.{cond-true, cond-false, lt-ltb, le-ltb, ltb-true, ltb-false}
use Rattle.std.proofs.lemmas.Bool.Decides.{eqb_tells}
use Rattle.bhs_model.proofs.StepLemmas.{by_cases}
use Rattle.bhs_referee.specs.declared.verdicts.Outcome.TheVariants.{Solved}
use Rattle.bhs_referee.specs.Verdicts.{is_present}
use Rattle.bhs_schedules.specs.Schedules.{Trial}
use Rattle.bhs_protocols.specs.Configurations.{Configuration, IsResting, outcome_in, doomed_in}
use Rattle.bhs_protocols_divided.specs.Plans.{Divisions, Explores, IsItinerary, IsStage, news, explored}
use Rattle.bhs_protocols_divided.specs.Plans.{count_at, left_at}
use Rattle.bhs_protocols_divided.specs.Dividing.{Memory, Ends, Tries, own_of, others_of}
use Rattle.bhs_protocols_divided.proofs.NewsLemmas.{news_below, same_by_news}
use Rattle.bhs_protocols_divided.proofs.DividingDues.{done, done_by}
use Rattle.bhs_protocols_divided.proofs.DividingState.{Game, Inv, IsHidden, IsPlaced, mem, seat, swapped}
use Rattle.bhs_protocols_divided.proofs.DividingState.{trial as trial_of}
use Rattle.bhs_protocols_divided.proofs.DividingKeeps.{Turn, M, O, here, placed_as}
use Rattle.bhs_protocols_divided.proofs.DividingFacts.{itinerary_is, plan_is}
use Rattle.bhs_protocols_divided.proofs.DividingAfter.{other_below}
use Rattle.bhs_protocols_divided.proofs.DividingRest.{IsLost, lost_side, resting}
use Rattle.bhs_protocols.proofs.SearchLemmas.{Pair, IsAccuser, IsTwoSided, agents_two, apart_from, one_zero, zero_one}
use Rattle.bhs_protocols.proofs.SearchLemmas.{solved_once, distance}

-- ---- the nodes in the order of their numbers, from the home base, and the other way round

abbrev pub wrapped : (n k : ℕ) → ℕ
wrapped n k = if nat_lt k n then k else k - n

wrapped_low : (n k : ℕ) → k < n → wrapped n k ≡ k
wrapped_low n k below = cond-true _ _ _ (lt-ltb k n below)

wrapped_high : (n k : ℕ) → n ≤ k → wrapped n k ≡ k - n
wrapped_high n k above = cond-false _ _ _ (le-ltb k n above)

abbrev pub round_at : (n home side place : ℕ) → ℕ
round_at n home zero place = wrapped n (home + place)
round_at n home (suc side) place = wrapped n (home + (n - place))

-- how far a node is
abbrev pub far_to : (n home node : ℕ) → ℕ
far_to n home node = if nat_lt node home then node + n - home else node - home

module _ (n home : ℕ) (at_home : home < n) where
  far_before : (node : ℕ) → node < home → far_to n home node ≡ node + n - home
  far_before node below = cond-true _ _ _ (lt-ltb node home below)

  far_behind : (node : ℕ) → home ≤ node → far_to n home node ≡ node - home
  far_behind node above = cond-false _ _ _ (le-ltb node home above)

  far_is : (node : ℕ) → node < n → (far_to n home node < n) × (round_at n home 0 (far_to n home node) ≡ node)
  far_is node within = by_cases (nat_lt node home)
      ((far_to n home node < n) × (round_at n home 0 (far_to n home node) ≡ node))
      (λ yes.
      let less : node < home = ltb-true node home yes in
      let is : far_to n home node ≡ node + n - home = far_before node less in
      let sum : home + far_to n home node ≡ node + n = omega (arith, is, at_home, less) in
      let high : wrapped n (home + far_to n home node) ≡ home + far_to n home node - n =
      wrapped_high n (home + far_to n home node) (omega (arith, sum)) in
      (omega (arith, is, less, at_home), omega (arith, high, sum)))
      (λ none.
      let more : home ≤ node = ltb-false node home none in
      let is : far_to n home node ≡ node - home = far_behind node more in
      let sum : home + far_to n home node ≡ node = omega (arith, is, more) in
      let low : wrapped n (home + far_to n home node) ≡ home + far_to n home node =
      wrapped_low n (home + far_to n home node) (omega (arith, sum, within)) in
      (omega (arith, is, within), omega (arith, low, sum)))

  far_some : (node : ℕ) → node < n → node ≢ home → 0 < far_to n home node
  far_some node within away = by_cases (nat_lt node home) (0 < far_to n home node)
      (λ yes.
      let less : node < home = ltb-true node home yes in
      let is : far_to n home node ≡ node + n - home = far_before node less in
      omega (arith, is, at_home, less))
      (λ none.
      let more : home ≤ node = ltb-false node home none in
      let is : far_to n home node ≡ node - home = far_behind node more in
      omega (arith, is, more, away))

  round_apart : (one other : ℕ) → one < n → other < n → round_at n home 0 one ≡ round_at n home 0 other → one ≡ other
  round_apart one other below below_too same = by_cases (nat_lt (home + one) n) (one ≡ other)
      (λ yes.
      let low : wrapped n (home + one) ≡ home + one = cond-true _ _ _ yes in
      let less : home + one < n = ltb-true (home + one) n yes in
      by_cases (nat_lt (home + other) n) (one ≡ other)
      (λ also. let low_too : wrapped n (home + other) ≡ home + other = cond-true _ _ _ also in
      omega (arith, same, low, low_too))
      (λ not. let high : wrapped n (home + other) ≡ home + other - n = cond-false _ _ _ not in
      let more : n ≤ home + other = ltb-false (home + other) n not in
      omega (arith, same, low, high, more, below_too)))
      (λ none.
      let high : wrapped n (home + one) ≡ home + one - n = cond-false _ _ _ none in
      let more : n ≤ home + one = ltb-false (home + one) n none in
      by_cases (nat_lt (home + other) n) (one ≡ other)
      (λ also. let low_too : wrapped n (home + other) ≡ home + other = cond-true _ _ _ also in
      omega (arith, same, high, low_too, more, below))
      (λ not. let high_too : wrapped n (home + other) ≡ home + other - n = cond-false _ _ _ not in
      let more_too : n ≤ home + other = ltb-false (home + other) n not in
      omega (arith, same, high, high_too, more, more_too)))

  round_home : (side : ℕ) → round_at n home side 0 ≡ home
  round_home zero = let low : wrapped n (home + 0) ≡ home + 0 = wrapped_low n (home + 0) (omega (arith, at_home)) in
      omega (arith, low)
  round_home (suc side) =
      let high : wrapped n (home + (n - 0)) ≡ home + (n - 0) - n = wrapped_high n (home + (n - 0)) (omega arith) in
      omega (arith, high)

module _ (game : Game) where
  open game use {world, n, hole, plan}

  abbrev trial : Trial
  trial = trial_of game

  at_home : world.home < n
  at_home = (plan_is game).at_home

  abbrev pub node_at : (side place : ℕ) → ℕ
  node_at = round_at n world.home

  abbrev pub right : ℕ
  right = far_to n world.home hole

  hole_is : (right < n) × (node_at 0 right ≡ hole)
  hole_is = far_is n world.home at_home hole game.search.within

  pub two_sided : IsTwoSided world n right (n - right) node_at
  two_sided =
      let small : right < n = hole_is.0 in
      let some : 0 < right = far_some n world.home at_home hole game.search.within game.search.not_home in
      record {
        size = (plan_is game).size;
        home = round_home n world.home at_home;
        around = λ place rest sum first second. ap (λ (k : ℕ). wrapped n (world.home + k)) (omega (arith, sum));
        apart = round_apart n world.home at_home;
        all = λ it within. let there = far_is n world.home at_home it within in
            (far_to n world.home it, there.0, there.1);
        sum = omega (arith, small);
        not_home = some;
        nor_around = omega (arith, small);
        hole = game.search.holes ∙ ap (λ (k : ℕ). k ∷ []) (sym hole_is.1);
        none_dark = game.search.dark;
        agents = game.search.agents;
      }

  -- the nodes between the home base and the black hole are neither
  node_right : (k : ℕ) → 0 < k → k < right → (node_at 0 k < n) × (node_at 0 k ≢ world.home) × (node_at 0 k ≢ hole)
  node_right k some before =
      let small : right < n = hole_is.0 in (
        within_n k (omega (arith, before, small)),
        (λ h.
            let same : k ≡ 0 = round_apart n world.home at_home k 0 (omega (arith, before, small))
            (omega (arith, small))
            (h ∙ sym (round_home n world.home at_home 0)) in omega (arith, same, some)),
        (λ h.
            let same : k ≡ right = round_apart n world.home at_home k right (omega (arith, before, small)) small
            (h ∙ sym hole_is.1) in omega (arith, same, before)),
      )
    where
      within_n : (k : ℕ) → k < n → node_at 0 k < n
      within_n k below = by_cases (nat_lt (world.home + k) n) (node_at 0 k < n)
          (λ yes. let low : wrapped n (world.home + k) ≡ world.home + k = cond-true _ _ _ yes in
          let less : world.home + k < n = ltb-true (world.home + k) n yes in omega (arith, low, less))
          (λ none. let high : wrapped n (world.home + k) ≡ world.home + k - n = cond-false _ _ _ none in
          let home : world.home < n = at_home in omega (arith, high, below, home))

  node_left : (k : ℕ) → 0 < k → k < n - right
      → (node_at 1 k < n) × (node_at 1 k ≢ world.home) × (node_at 1 k ≢ hole)
  node_left k some before =
      let small : right < n = hole_is.0 in
      let home : world.home < n = at_home in
      let k_small : k < n = omega (arith, before) in (
        by_cases (nat_lt (world.home + (n - k)) n) (node_at 1 k < n)
            (λ yes. let low : wrapped n (world.home + (n - k)) ≡ world.home + (n - k) = cond-true _ _ _ yes in
            let less : world.home + (n - k) < n = ltb-true (world.home + (n - k)) n yes in omega (arith, low, less))
            (λ none. let high : wrapped n (world.home + (n - k)) ≡ world.home + (n - k) - n = cond-false _ _ _ none in
            omega (arith, high, home, some)),
        (λ h.
            let same : n - k ≡ 0 =
            round_apart n world.home at_home (n - k) 0 (omega (arith, some, k_small)) (omega (arith, small))
            (h ∙ sym (round_home n world.home at_home 0)) in omega (arith, same, k_small)),
        (λ h.
            let same : n - k ≡ right =
            round_apart n world.home at_home (n - k) right (omega (arith, some, k_small)) small
            (h ∙ sym hole_is.1) in omega (arith, same, before, k_small)),
      )

  -- ---- at rest

  abbrev pub at_turn : (s o : ℕ) (configuration : Configuration) (left : ℕ) → Pair s o → Inv game s o configuration left
      → Turn game
  at_turn s o configuration left pair inv = record {
    s = s;
    o = o;
    configuration = configuration;
    left = left;
    below = agents_two two_sided s pair.own;
    apart = apart_from s o pair;
    inv = inv;
  }

  abbrev AtRest : (s o : ℕ) (configuration : Configuration) (left : ℕ) (pair : Pair s o)
      → Inv game s o configuration left
      → Type 0
  AtRest s o configuration left pair inv =
      ((mem game configuration s).phase ≡ Ends) ⊎ IsLost (at_turn s o configuration left pair inv)

  module _ (s o : ℕ) (configuration : Configuration) (left : ℕ) (pair : Pair s o)
      (inv : Inv game s o configuration left)
      (is : (mem game configuration s).phase ≡ Ends) where
    abbrev on : Turn game
    on = at_turn s o configuration left pair inv

    abbrev m : Memory
    m = M on

    abbrev Ended : Type 0
    Ended = IsPlaced game (here on configuration.reached) inv.p m Ends (configuration.position s)
        (configuration.accused s)

    ended : Ended
    ended = placed_as on Ends is

    -- all nodes but the black hole were reached
    reached_all : (k : ℕ) → k < n → k ≢ world.home → k ≢ hole → configuration.reached k ≡ true
    reached_all k within away safe = elim (inv.state.reached k within away) [
      | inl h ↦ h
      | inr h ↦ absurd (hidden_not h)
    ]
      where
        hidden_not : IsHidden game inv.now (seat game configuration s) (seat game configuration o) k → ⊥
        hidden_not h = elim (eqb_tells h.side m.side) [
          | inl it ↦
              let there : Explores plan m.divisions m.side h.step k =
              subst (λ (j : ℕ). Explores plan m.divisions j h.step k) it.1
              (subst (λ (d : Divisions). Explores plan d h.side h.step k) ended.0 h.is) in
              let more : news (own_of plan m) h.step + 1 ≤ news (own_of plan m) (own_of plan m).steps =
              news_below (own_of plan m) h.step (own_of plan m).steps there.within there.is_new in
              let doing : done plan m ≡ explored plan m.divisions m.side + news (own_of plan m) (own_of plan m).steps =
              ap (done_by plan m) is in
              let hidden : done plan m < count_at plan inv.now h.side h.step = h.own it.1 in
              let counts : count_at plan inv.now h.side h.step ≡ count_at plan m.divisions m.side h.step =
              λ i. count_at plan (ended.0 i) (it.1 i) h.step in
              omega (arith, more, doing, hidden, counts)
          | inr it ↦
              let low : h.side < 2 = h.is.below in
              let small : m.side < 2 = inv.state.below in
              let mine : h.side ≡ 1 - m.side = omega (arith, it.1, low, small) in
              let there : Explores plan m.divisions (1 - m.side) h.step k =
              subst (λ (j : ℕ). Explores plan m.divisions j h.step k) mine
              (subst (λ (d : Divisions). Explores plan d h.side h.step k) ended.0 h.is) in
              let hidden : done plan (O on) < count_at plan inv.now h.side h.step =
              h.other (mine ∙ sym inv.state.apart) in
              let counts : count_at plan inv.now h.side h.step ≡ count_at plan m.divisions (1 - m.side) h.step =
              λ i. count_at plan (ended.0 i) (mine i) h.step in
              let more : news (others_of plan m) h.step + 1 ≤ news (others_of plan m) (others_of plan m).steps =
              news_below (others_of plan m) h.step (others_of plan m).steps there.within there.is_new in
              let one : left_at plan m.divisions (1 - m.side) m.step ≡ 1 = ended.3 in
              let few : explored plan m.divisions (1 - m.side) + news (others_of plan m) m.step ≤ done plan (O on) =
              ended.7 in
              let same : h.step ≡ m.step = same_by_news (others_of plan m) h.step m.step there.is_new ended.8
              (omega (arith, hidden, counts, more, one, few)) in
              safe (sym there.is ∙ ap (others_of plan m).target same ∙ ended.5)
        ]

    accuser : IsAccuser two_sided s configuration
    accuser =
        let net_is : IsItinerary world.net n (others_of plan m) = itinerary_is game m.divisions (1 - m.side)
        (subst (IsStage plan) ended.0 inv.state.stage) (other_below m.side) in
        record {
          start = (others_of plan m).node m.step;
          port = (others_of plan m).ahead m.step;
          label = (others_of plan m).behind m.step;
          far = net_is.out m.step ended.4 ∙ (λ i. ((ended.5 ∙ sym hole_is.1) i, (others_of plan m).behind m.step));
          accused = ended.6;
        }

    -- the other one is lost
    other_lost : (inv_too : Inv game o s configuration left) (pair_too : Pair o s)
        → inv_too.state.spot.side ≡ inv.state.spot.side → AtRest o s configuration left pair_too inv_too
        → IsLost (at_turn o s configuration left pair_too inv_too)
    other_lost inv_too pair_too same rest = elim rest [
      | inl h ↦
          let theirs = placed_as (at_turn o s configuration left pair_too inv_too) Ends h in
          let one : inv.state.spot.side ≡ 1 - m.side = ended.1 in
          let two : inv_too.state.spot.side ≡ 1 - (mem game configuration o).side = theirs.1 in
          let sides : (mem game configuration o).side ≡ 1 - m.side = inv.state.apart in
          let small : m.side < 2 = inv.state.below in
          absurd (omega (arith, one, two, sides, same, small))
      | inr h ↦ h
    ]

    solved : (inv_too : Inv game o s configuration left) (pair_too : Pair o s)
        → IsLost (at_turn o s configuration left pair_too inv_too)
        → (outcome_in world configuration ≡ Solved) × (doomed_in world configuration ≤ 1)
    solved inv_too pair_too lost =
        let theirs = placed_as (at_turn o s configuration left pair_too inv_too) Tries lost.phase in
        solved_once two_sided s o (distance two_sided s - 1) (distance two_sided o - 1) configuration pair (record {
          accuses = accuser;
          ended = ended.2;
          own = record {
            accused = inr accuser;
            away = ap is_present ended.2;
            reached = known s pair.own;
          };
          other = record {
            accused = inl theirs.0.none;
            away = ap is_present theirs.2;
            reached = known o pair.other;
          };
          all = omega arith;
          all_too = omega arith;
        })
      where
        known : (side : ℕ) → side < 2 → (k : ℕ) → 0 < k → k ≤ distance two_sided side - 1
            → configuration.reached (node_at side k) ≡ true
        known zero below k some far = let it = node_right k some (omega (arith, far, some)) in
            reached_all (node_at 0 k) it.0 it.1 it.2
        known (suc zero) below k some far = let it = node_left k some (omega (arith, far, some)) in
            reached_all (node_at 1 k) it.0 it.1 it.2
        known (suc (suc side)) below k some far = absurd (omega (arith, below))

  not_both : (s o : ℕ) (configuration : Configuration) (left : ℕ) (pair : Pair s o)
      (inv : Inv game s o configuration left)
      (pair_too : Pair o s) (inv_too : Inv game o s configuration left)
      → inv_too.state.spot.side ≡ inv.state.spot.side → IsLost (at_turn s o configuration left pair inv)
      → IsLost (at_turn o s configuration left pair_too inv_too) → ⊥
  not_both s o configuration left pair inv pair_too inv_too same lost lost_too =
      let one : inv.state.spot.side ≡ (mem game configuration s).side =
      lost_side (at_turn s o configuration left pair inv) lost in
      let two : inv_too.state.spot.side ≡ (mem game configuration o).side =
      lost_side (at_turn o s configuration left pair_too inv_too) lost_too in
      let sides : (mem game configuration o).side ≡ 1 - (mem game configuration s).side = inv.state.apart in
      let small : (mem game configuration s).side < 2 = inv.state.below in
      omega (arith, one, two, sides, same, small)

  pub at_rest : (configuration : Configuration) (left : ℕ) → Inv game 0 1 configuration left
      → IsResting trial configuration → (outcome_in world configuration ≡ Solved) × (doomed_in world configuration ≤ 1)
  at_rest configuration left inv still =
      let inv_too : Inv game 1 0 configuration left = swapped game 0 1 configuration left inv in
      let same : inv_too.state.spot.side ≡ inv.state.spot.side = refl in
      elim (resting (at_turn 0 1 configuration left zero_one inv) (mem game configuration 0).phase refl (still 0)) [
        | inl h ↦ solved 0 1 configuration left zero_one inv h inv_too one_zero
            (other_lost 0 1 configuration left zero_one inv h inv_too one_zero same
            (resting (at_turn 1 0 configuration left one_zero inv_too) (mem game configuration 1).phase refl (still 1)))
        | inr h ↦ elim (resting (at_turn 1 0 configuration left one_zero inv_too) (mem game configuration 1).phase refl
            (still 1)) [
              | inl it ↦ solved 1 0 configuration left one_zero inv_too it inv zero_one h
              | inr it ↦ absurd (not_both 0 1 configuration left zero_one inv one_zero inv_too same h it)
            ]
      ]
