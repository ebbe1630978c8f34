-- The search by halves on each ring, beside what every team must move there; and the ring of eight nodes.
use Rattle.std.proofs.Common.{ℕ, ◌+◌, ◌-◌, ◌*◌, ◌<◌, ◌≤◌, ◌≡◌, List, [], ◌∷◌, refl, sym, ap, ◌∙◌, subst, arith}
use Rattle.std.specs.Prelude.{◌≢◌}
use Rattle.bhs_model.specs.declared.setups.Setup.{Setup}
use Rattle.bhs_model.specs.Worlds.{World}
use Rattle.bhs_model.specs.Examples.{none_held}
use Rattle.bhs_schedules.specs.Strategies.{Strategies}
use Rattle.bhs_protocols.specs.Invariants.{IsSolved}
use Rattle.bhs_protocols.specs.LastWord.{searched, SolvesEverywhere}
use Rattle.bhs_protocols.specs.Rings.{Ways, IsRing}
use Rattle.bhs_protocols.specs.StandardRings.{IsSetUp, standard_ways}
use Rattle.bhs_protocols.specs.Programs.{strategies_by}
use Rattle.bhs_protocols.specs.Halving.{rounds, most_moves, most_commands}
use Rattle.bhs_protocols.specs.Halves.{halves}
use Rattle.bhs_protocols.specs.HalvesLaws.{halves_bounds}
use Rattle.bhs_protocols.proofs.FindsLemmas.{solvers_find}
use Rattle.bhs_protocols.proofs.HalvesLemmas.{halves_solve}
use Rattle.bhs_protocols.proofs.HalvingLemmas.{moves_are_few}
use Rattle.bhs_protocols.proofs.StandardLemmas.{standard_rings}
use Rattle.bhs_protocols_bounds.specs.Bound.{least_moves, HalvesSolveWithinTwice}
use Rattle.bhs_protocols_bounds.specs.BoundExamples.{ring_of_eight, HalvesOnEight}
use Rattle.bhs_protocols_bounds.proofs.BoundLemmas.{two_must_move, two_must_move_at_rest, two_must_move_more}

-- a ring is one whichever nodes are black holes
ring_with : (world : World) (n : ℕ) (ways : Ways) (holes : List ℕ) → IsRing world n ways
    → IsRing (record world { holes = holes; dark = [] }) n ways
ring_with world n ways holes ring = record {
  three = ring.three;
  size = ring.size;
  home = ring.home;
  first = ring.first;
  two = ring.two;
  port = ring.port;
  out = ring.out;
  back = ring.back;
  around = ring.around;
  apart = ring.apart;
  all = ring.all;
}

halves_on : (world : World) (n wakeups hole : ℕ) (ways : Ways) → IsRing world n ways → world.agents ≡ 2
    → 4 ≤ world.board → most_commands n ≤ world.quota → hole < world.net.nodes → hole ≢ world.home
    → IsSolved (searched world none_held wakeups (strategies_by (halves n)) hole) (halves_bounds n)
halves_on world n wakeups hole ways ring two room enough below not_home =
    let it = ring.all hole (subst (λ (m : ℕ). hole < m) ring.size below) in
    let steps : ℕ = it.0 in
    let inside : steps < n = it.1 in
    let there : ways.node 0 steps ≡ hole = it.2 in
    let away : steps ≢ 0 = λ none. not_home (sym there ∙ ap (ways.node 0) none ∙ ring.home 0) in
    let here : World = record world { holes = hole ∷ []; dark = [] } in
    halves_solve here n steps (n - steps) wakeups ways (record {
      ring = ring_with world n ways (hole ∷ []) ring;
      sum = omega (arith, inside);
      not_home = omega (arith, away);
      nor_around = omega (arith, inside);
      hole = ap (λ (node : ℕ). let holes : List ℕ = node ∷ [] in holes) (sym there);
      none_dark = refl;
      agents = two;
    }) room enough

pub halves_solve_within_twice : HalvesSolveWithinTwice
halves_solve_within_twice world n wakeups ways ring two room enough hole below not_home =
    let it : IsSolved (searched world none_held wakeups (strategies_by (halves n)) hole) (halves_bounds n) =
    halves_on world n wakeups hole ways ring two room enough below not_home in
    let r : ℕ = rounds (n - 1) in
    let few : most_moves n ≤ 2 * (n - 2) * r + 2 = moves_are_few n ring.three in
    let twice : most_moves n ≤ 2 * least_moves n = omega (arith, few) in (
      1,
      λ schedule rest.
          let solved = it.solves schedule rest in
          let moved = solved.moves in
          record { outcome = solved.outcome; moves = omega (arith, moved, twice); lost = solved.lost },
      it.rests,
    )

-- ---- the ring of eight nodes

pub halves_on_eight : HalvesOnEight
halves_on_eight =
    let ways : Ways = standard_ways 8 in
    let team : Strategies = strategies_by (halves 8) in
    let setup : Setup = record { home = 0; holes = 1 ∷ []; dark = []; agents = 2; quota = 100; board = 4 } in
    let set_up : IsSetUp 8 1 setup = record {
      three = omega arith;
      not_home = omega arith;
      within = omega arith;
      home = refl;
      holes = refl;
      dark = refl;
      agents = refl;
    } in
    let ring : IsRing ring_of_eight 8 ways =
    ring_with (record ring_of_eight { holes = 1 ∷ [] }) 8 ways [] (standard_rings 8 1 setup set_up).ring in
    let commands : most_commands 8 ≡ 55 = refl in
    let enough : most_commands 8 ≤ 100 = omega (arith, commands) in
    let solved : (wakeups hole : ℕ) → hole < 8 → hole ≢ 0
    → IsSolved (searched ring_of_eight none_held wakeups team hole) (halves_bounds 8) =
    λ wakeups hole below not_home.
    halves_on ring_of_eight 8 wakeups hole ways ring refl (omega arith) enough below not_home in
    let solves : (wakeups : ℕ) → SolvesEverywhere ring_of_eight none_held wakeups team =
    λ wakeups hole below not_home.
    let it : IsSolved (searched ring_of_eight none_held wakeups team hole) (halves_bounds 8) =
    solved wakeups hole below not_home in
    record { moves = most_moves 8; lost = 1; solves = it.solves; rests = it.rests } in
    record {
      least = refl;
      more = refl;
      ring = ring;
      finds = λ wakeups. solvers_find ring_of_eight none_held wakeups team (solves wakeups);
      must_move = λ wakeups. two_must_move ring_of_eight 8 wakeups ways none_held team ring refl
          (solvers_find ring_of_eight none_held wakeups team (solves wakeups));
      must_move_more = λ wakeups.
          two_must_move_more ring_of_eight 8 2 wakeups ways none_held team ring refl (omega arith)
          (solvers_find ring_of_eight none_held wakeups team (solves wakeups));
      at_rest = λ wakeups.
          two_must_move_at_rest ring_of_eight 8 wakeups ways none_held team ring refl (solves wakeups);
      most = λ wakeups hole below not_home. (solved wakeups hole below not_home).solves;
    }
