-- The standard ring is a ring, so the shuttle solves it.
use Rattle.std.proofs.Common.{ℕ, zero, suc, ◌+◌, ◌-◌, ◌*◌, ◌<◌, ◌≤◌, ◌≡◌, Bool, true, false, ◌==◌, List, [], length}
use Rattle.std.proofs.Common.{refl, sym, ap, ◌∙◌, subst, if◌then◌else◌, arith}
use Rattle.std.specs.Prelude.{◌≢◌, slice_index_or}
use Rattle.std.proofs.Math.ListN.{get_or-eq_default}
use Rattle.std.proofs.lemmas.Bool.{cond-true, cond-false, eq-eqb, ne_eqb}
use Rattle.std.proofs.lemmas.List.FromFn.{get_or-map-range_with_len, length-map-range_with_len}
use Rattle.bhs_net.specs.Links.{End}
use Rattle.bhs_net.specs.Network as networks
use Rattle.bhs_model.specs.declared.setups.Setup.{Setup}
use Rattle.bhs_model.specs.Worlds.{World}
use Rattle.bhs_model.specs.Setups.{world_of}
use Rattle.bhs_protocols.specs.Rings.{Ways, IsRing, IsSearch}
use Rattle.bhs_protocols.specs.Shuttle.{round_trips}
use Rattle.bhs_protocols.specs.StandardRings.{standard_row, standard_ring, standard_ways, IsSetUp}
use Rattle.bhs_protocols.specs.StandardRings.{StandardRings, ShuttleSolvesStandardRings, MovesAreSquares}
use Rattle.bhs_protocols.proofs.SearchLemmas.{both}
use Rattle.bhs_protocols.proofs.ShuttleLemmas.{shuttle_solves}

-- ---- the rows of a standard ring

module _ (n : ℕ) where
  pub size_is : networks.nodes_of (standard_ring n) ≡ n
  size_is = length-map-range_with_len (standard_row n) 0 n

  row_is : (node : ℕ) → node < n → networks.row_of (standard_ring n) node ≡ standard_row n node
  row_is node within = get_or-map-range_with_len (standard_row n) 0 n node node [] within (omega arith)

  far_is : (node port : ℕ) → node < n
      → networks.far_of (standard_ring n) node port ≡ slice_index_or (standard_row n node) port (0, 0)
  far_is node port within = ap (λ (row : List End). slice_index_or row port (0, 0)) (row_is node within)

  pub degree_is : (node : ℕ) → node < n → networks.degree_of (standard_ring n) node ≡ 2
  degree_is node within = ap (λ (row : List End). length row) (row_is node within)

  -- Numbers from n on are no nodes.
  pub no_degree : (node : ℕ) → n ≤ node → networks.degree_of (standard_ring n) node ≡ 0
  no_degree node beyond =
      let least : networks.nodes_of (standard_ring n) ≤ node = subst (λ (k : ℕ). k ≤ node) (sym size_is) beyond in
      ap (λ (row : List End). length row) (get_or-eq_default (standard_ring n) [] least)

  -- to the right
  pub to_right : (node : ℕ) → node + 1 < n → networks.far_of (standard_ring n) node 0 ≡ (node + 1, 1)
  to_right node within =
      let apart : node + 1 ≢ n = λ h. omega (arith, h, within) in
      far_is node 0 (omega (arith, within))
      ∙ ap (λ (k : ℕ). let end : ℕ × ℕ = (k, 1) in end) (cond-false _ _ _ (ne_eqb (node + 1) n apart))

  -- to the left
  pub to_left : (node : ℕ) → 0 < node → node < n → networks.far_of (standard_ring n) node 1 ≡ (node - 1, 0)
  to_left node some within =
      let apart : node ≢ 0 = λ h. omega (arith, h, some) in
      far_is node 1 within
      ∙ ap (λ (k : ℕ). let end : ℕ × ℕ = (k, 0) in end) (cond-false _ _ _ (ne_eqb node 0 apart))

  -- across, from node 0 to the last one
  pub across : 0 < n → networks.far_of (standard_ring n) 0 1 ≡ (n - 1, 0)
  across some = far_is 0 1 some

  -- The last node leads back to node 0.
  pub to_first : (node : ℕ) → node + 1 ≡ n → networks.far_of (standard_ring n) node 0 ≡ (0, 1)
  to_first node last =
      far_is node 0 (omega (arith, last))
      ∙ ap (λ (k : ℕ). let end : ℕ × ℕ = (k, 1) in end) (cond-true _ _ _ (eq-eqb (node + 1) n last))

module _ (n hole : ℕ) (setup : Setup) (is : IsSetUp n hole setup) where
  abbrev world : World
  world = world_of (standard_ring n) setup

  abbrev ways : Ways
  ways = standard_ways n

  left_node : (steps : ℕ) → 0 < steps → ways.node 1 steps ≡ n - steps
  left_node steps some =
      let apart : steps ≢ 0 = λ h. omega (arith, h, some) in cond-false _ _ _ (ne_eqb steps 0 apart)

  left_within : (steps : ℕ) → steps < n → ways.node 1 steps < n
  left_within zero within = omega (arith, within)
  left_within (suc k) within =
      let at : ways.node 1 (suc k) ≡ n - suc k = left_node (suc k) (omega arith) in omega (arith, at, within)

  pair_is : (a b c d : ℕ) → a ≡ c → b ≡ d → ◌≡◌ {A = ℕ × ℕ} (a, b) (c, d)
  pair_is a b c d h k i = (h i, k i)

  left_out : (steps : ℕ) → steps + 1 < n → world.net.far (ways.node 1 steps) 1 ≡ (ways.node 1 (steps + 1), 0)
  left_out zero within =
      across n (omega (arith, within)) ∙ pair_is _ _ _ _ (sym (left_node 1 (omega arith))) refl
  left_out (suc k) within =
      let at : ways.node 1 (suc k) ≡ n - suc k = left_node (suc k) (omega arith) in
      let to : ways.node 1 (suc k + 1) ≡ n - (suc k + 1) = left_node (suc k + 1) (omega arith) in
      ap (λ (node : ℕ). world.net.far node 1) at
      ∙ to_left n (n - suc k) (omega (arith, within)) (omega (arith, within))
      ∙ pair_is _ _ _ _ (omega (arith, to, within)) refl

  left_back : (steps : ℕ) → steps + 1 < n → world.net.far (ways.node 1 (steps + 1)) 0 ≡ (ways.node 1 steps, 1)
  left_back zero within =
      ap (λ (node : ℕ). world.net.far node 0) (left_node 1 (omega arith))
      ∙ to_first n (n - 1) (omega (arith, within))
  left_back (suc k) within =
      let at : ways.node 1 (suc k) ≡ n - suc k = left_node (suc k) (omega arith) in
      let from : ways.node 1 (suc k + 1) ≡ n - (suc k + 1) = left_node (suc k + 1) (omega arith) in
      ap (λ (node : ℕ). world.net.far node 0) from
      ∙ to_right n (n - (suc k + 1)) (omega (arith, within))
      ∙ pair_is _ _ _ _ (omega (arith, at, within)) refl

  is_ring : IsRing world n ways
  is_ring =
      let three : 3 ≤ n = is.three in
      record {
        three = is.three;
        size = size_is n;
        home = λ side. by_home side ∙ sym is.home;
        first = λ side below. refl;
        two = λ side steps below within. both (λ (k : ℕ). world.net.degree (ways.node k steps) ≡ 2)
            (degree_is n steps within) (degree_is n (ways.node 1 steps) (left_within steps within)) side below;
        port = λ side steps below within. below;
        out = λ side steps below within. both (λ (k : ℕ). world.net.far (ways.node k steps) (ways.ahead k steps)
            ≡ (ways.node k (steps + 1), 1 - ways.ahead k (steps + 1)))
            (to_right n steps within) (left_out steps within) side below;
        back = λ side steps below within. both (λ (k : ℕ).
            world.net.far (ways.node k (steps + 1)) (1 - ways.ahead k (steps + 1))
            ≡ (ways.node k steps, ways.ahead k steps))
            (to_left n (steps + 1) (omega arith) within ∙ pair_is _ _ _ _ (omega arith) refl)
            (left_back steps within) side below;
        around = λ steps rest sum some some_too. left_node steps some ∙ omega (arith, sum);
        apart = λ one other below below_too same. same;
        all = λ node within. (node, within, refl);
      }
    where
      same : (b : Bool) → (if b then 0 else (if 0 == 0 then 0 else n - 0)) ≡ 0
      same true = refl
      same false = refl

      by_home : (side : ℕ) → ways.node side 0 ≡ 0
      by_home side = same (side == 0)

  pub is_search : IsSearch world n hole (n - hole) ways
  is_search =
      let within : hole < n = is.within in
      record {
        ring = is_ring;
        sum = omega (arith, within);
        not_home = is.not_home;
        nor_around = omega (arith, within);
        hole = is.holes;
        none_dark = is.dark;
        agents = is.agents;
      }

pub standard_rings : StandardRings
standard_rings n hole setup is = is_search n hole setup is

pub shuttle_solves_standard_rings : ShuttleSolvesStandardRings
shuttle_solves_standard_rings n hole wakeups setup is room enough enough_too =
    shuttle_solves (world_of (standard_ring n) setup) n hole (n - hole) wakeups (standard_ways n)
    (is_search n hole setup is) room enough enough_too

trips_are : (k : ℕ) → round_trips k ≡ k * k + k
trips_are zero = refl
trips_are (suc k) =
    let rest : round_trips k ≡ k * k + k = trips_are k in
    let square : suc k * suc k ≡ k * k + k + k + 1 = grind arith in
    omega (arith, rest, square)

pub moves_are_squares : MovesAreSquares
moves_are_squares zero some = absurd (omega (arith, some))
moves_are_squares (suc k) some =
    let trips : round_trips k ≡ k * k + k = trips_are k in
    let same : round_trips (suc k - 1) ≡ round_trips k = ap round_trips (omega arith) in
    let square : suc k * suc k ≡ k * k + k + k + 1 = grind arith in
    omega (arith, trips, same, square)
