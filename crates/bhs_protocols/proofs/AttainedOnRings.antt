-- On each ring of a file some node is a black hole with which a search makes all its moves.
use Rattle.std.proofs.Common.{ℕ, ◌-◌, ◌<◌, ◌≤◌, ◌≡◌, [], ◌∷◌, refl, arith}
use Rattle.std.specs.Prelude.{◌≢◌}
use Rattle.bhs_net.specs.Network.{Network, nodes_of, degree_of}
use Rattle.bhs_model.specs.declared.setups.Setup.{Setup}
use Rattle.bhs_model.specs.Setups.{world_of}
use Rattle.bhs_protocols.specs.Rings.{IsRing, IsSearch}
use Rattle.bhs_protocols.specs.AllRings.{IsAway, IsSetOn, ways_of}
use Rattle.bhs_protocols.specs.Attained.{worst_distance, HalvesAttainOnAllRings, ShuttleAttainsOnAllRings}
use Rattle.bhs_protocols.proofs.AloneOnNetworks.{is_node}
use Rattle.bhs_protocols.proofs.RingLemmas.{is_away}
use Rattle.bhs_protocols.proofs.HalvesWorst.{halves_attain, worst_is_within}
use Rattle.bhs_protocols.proofs.ShuttleWorst.{shuttle_attains_squares}

module _ (net : Network) (setup : Setup) (hole : ℕ) (is : IsSetOn net setup hole) where
  abbrev n : ℕ
  n = nodes_of net

  -- the node at this distance on side 0
  abbrev node_at : (distance : ℕ) → ℕ
  node_at distance = (ways_of net setup.home).node 0 distance

  abbrev moved : (distance : ℕ) → Setup
  moved distance = record setup { holes = node_at distance ∷ [] }

  away : IsAway net setup hole
  away = is_away net setup hole is

  ring : IsRing (world_of net setup) n (ways_of net setup.home)
  ring = away.search.ring

  search_at : (distance : ℕ) → 0 < distance → distance < n
      → IsSearch (world_of net (moved distance)) n distance (n - distance) (ways_of net setup.home)
  search_at distance some within = record {
    ring = record {
      three = ring.three;
      size = ring.size;
      home = ring.home;
      first = ring.first;
      two = ring.two;
      port = ring.port;
      out = ring.out;
      back = ring.back;
      around = ring.around;
      apart = ring.apart;
      all = ring.all;
    };
    sum = omega (arith, within);
    not_home = some;
    nor_around = omega (arith, within);
    hole = refl;
    none_dark = is.dark;
    agents = is.agents;
  }

  within_net : (distance : ℕ) → distance < n → node_at distance < n
  within_net distance within =
      let two : degree_of net (node_at distance) ≡ 2 = ring.two 0 distance (omega arith) within in
      is_node net (node_at distance) 0 (omega (arith, two))

  not_home : (distance : ℕ) → 0 < distance → distance < n → node_at distance ≢ setup.home
  not_home distance some within = λ same.
      let none : distance ≡ 0 = ring.apart distance 0 within (omega (arith, within)) same in
      omega (arith, none, some)

pub halves_attain_on_all_rings : HalvesAttainOnAllRings
halves_attain_on_all_rings net setup hole wakeups is room enough =
    let n : ℕ = nodes_of net in
    let distance : ℕ = worst_distance n in
    let within = worst_is_within n (ring net setup hole is).three in
    record {
      hole = node_at net setup hole is distance;
      within = within_net net setup hole is distance within.1;
      not_home = not_home net setup hole is distance within.0 within.1;
      attained = halves_attain (world_of net (moved net setup hole is distance)) n (n - distance) wakeups
          (ways_of net setup.home) (search_at net setup hole is distance within.0 within.1) room enough;
    }

pub shuttle_attains_on_all_rings : ShuttleAttainsOnAllRings
shuttle_attains_on_all_rings net setup hole wakeups is room enough =
    let n : ℕ = nodes_of net in
    let three : 3 ≤ n = (ring net setup hole is).three in
    record {
      hole = node_at net setup hole is 1;
      within = within_net net setup hole is 1 (omega (arith, three));
      not_home = not_home net setup hole is 1 (omega arith) (omega (arith, three));
      attained = shuttle_attains_squares (world_of net (moved net setup hole is 1)) n wakeups (ways_of net setup.home)
          (search_at net setup hole is 1 (omega arith) (omega (arith, three))) room enough;
    }
