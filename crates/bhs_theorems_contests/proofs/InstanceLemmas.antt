-- Searches of every size in contests.
use Rattle.std.proofs.Common.{ℕ, refl, sym, subst}
use Rattle.bhs_net.specs.Network.{Network, nodes_of, degree_of}
use Rattle.bhs_model.specs.Setups.{world_of}
use Rattle.bhs_match.specs.Matches.{world_in}
use Rattle.bhs_model.specs.Examples.{none_held}
use Rattle.bhs_protocols.specs.Halves.{halves}
use Rattle.bhs_protocols.specs.Halving.{most_moves}
use Rattle.bhs_protocols.specs.AllRings.{ring_bounds}
use Rattle.bhs_protocols.specs.Invariants.{IsSolved}
use Rattle.bhs_protocols.specs.Programs.{strategies_by}
use Rattle.bhs_protocols.specs.Shuttle.{shuttle}
use Rattle.bhs_protocols_charts.specs.Charting.{charters}
use Rattle.bhs_protocols_charts.specs.ChartLaws.{chart_bounds, chart_moves}
use Rattle.bhs_protocols_charts.proofs.ChartLemmas.{charters_solve}
use Rattle.bhs_protocols_divided.specs.Dividing.{dividers}
use Rattle.bhs_protocols_divided.specs.DividingLaws.{divided_bounds}
use Rattle.bhs_protocols_divided.specs.DividingLaws as divided
use Rattle.bhs_protocols_divided.proofs.DividingTheorem.{dividers_solve}
use Rattle.bhs_protocols_mapped.specs.Exploring.{explorers}
use Rattle.bhs_protocols_mapped.specs.MapLaws.{guided_trial}
use Rattle.bhs_protocols_mapped.proofs.MapLemmas.{two_agents_with_a_map_solve}
use Rattle.bhs_protocols.proofs.RingLemmas.{shuttle_solves_all_rings}
use Rattle.bhs_protocols.proofs.HalvesRings.{halves_solve_all_rings}
use Rattle.bhs_protocols_unmapped.specs.Degrees.{ports_beside}
use Rattle.bhs_schedules.specs.Schedules.{Trial}
use Rattle.bhs_attest.specs.Laws.{trial_in}
use Rattle.bhs_theorems_contests.specs.Instances.{ChartersSolveContests, DividersSolveContests}
use Rattle.bhs_theorems_contests.specs.Instances.{HalvesSolveContests, MapsSolveContests, ShuttleSolvesContests}
use Rattle.bhs_theorems_contests.specs.Instances.{limits_of}
use Rattle.bhs_theorems_contests.proofs.Contest.{contests_are_solved}
use Rattle.bhs_theorems_contests.proofs.Orderly.{waiters_are_orderly}
use Rattle.bhs_theorems_contests.proofs.Waiters.{charters_wait, dividers_wait, explorers_wait, halves_wait}
use Rattle.bhs_theorems_contests.proofs.Waiters.{shuttles_wait}

pub halves_solve_contests : HalvesSolveContests
halves_solve_contests play hole wakeups clients set room enough played plain done =
    let n : ℕ = nodes_of play.net in
    let solved = halves_solve_all_rings play.net play.setup hole wakeups set room enough in
    contests_are_solved play none_held wakeups (strategies_by (halves n)) (most_moves n) 1 clients played plain done
    (waiters_are_orderly (trial_in play none_held wakeups (strategies_by (halves n))) (λ agent. refl)
    (halves_wait n)) solved.solves solved.rests

pub shuttle_solves_contests : ShuttleSolvesContests
shuttle_solves_contests play hole wakeups clients set room enough played plain done =
    let n : ℕ = nodes_of play.net in
    let solved = shuttle_solves_all_rings play.net play.setup hole wakeups set room enough in
    contests_are_solved play none_held wakeups (strategies_by (shuttle n)) (ring_bounds n).moves 1 clients played plain
    done (waiters_are_orderly (trial_in play none_held wakeups (strategies_by (shuttle n))) (λ agent. refl)
    (shuttles_wait n)) solved.solves solved.rests

pub maps_solve_contests : MapsSolveContests
maps_solve_contests net home is within =
    let searched = two_agents_with_a_map_solve net home is within in
    let n : ℕ = nodes_of net in
    record {
      guide = searched.guide;
      guides = searched.guides;
      solves = λ play hole wakeups clients same set room enough played plain done.
          let solved = subst (λ (own : Network).
          IsSolved (guided_trial (world_of own play.setup) wakeups n searched.guide) (ring_bounds n)) (sym same)
          (searched.solves play.setup hole wakeups set room enough) in
          contests_are_solved play none_held wakeups (strategies_by (explorers n searched.guide)) (ring_bounds n).moves
          1 clients played plain done
          (waiters_are_orderly (trial_in play none_held wakeups (strategies_by (explorers n searched.guide)))
          (λ agent. refl) (explorers_wait n searched.guide)) solved.solves solved.rests;
    }

pub dividers_solve_contests : DividersSolveContests
dividers_solve_contests play hole wakeups plan clients searched room enough played plain done =
    let n : ℕ = nodes_of play.net in
    let solved : IsSolved (trial_in play none_held wakeups (strategies_by (dividers plan))) (divided_bounds n) =
    dividers_solve (world_in play) n hole wakeups plan searched room enough in
    contests_are_solved play none_held wakeups (strategies_by (dividers plan)) (divided.most_moves n) 1 clients played
    plain done (waiters_are_orderly (trial_in play none_held wakeups (strategies_by (dividers plan))) (λ agent. refl)
    (dividers_wait plan)) solved.solves solved.rests

pub charters_solve_contests : ChartersSolveContests
charters_solve_contests play tells hole wakeups clients holes dark can played plain done =
    let n : ℕ = nodes_of play.net in
    let solved : IsSolved (trial_in play none_held wakeups (strategies_by (charters n tells)))
    (chart_bounds play.net (limits_of play.setup wakeups) hole) =
    subst (λ (trial : Trial). IsSolved trial (chart_bounds play.net (limits_of play.setup wakeups) hole))
    (λ i. record {
      world = record (world_of play.net play.setup) { holes = sym holes i; dark = sym dark i };
      held = none_held;
      wakeups = wakeups;
      strategies = strategies_by (charters n tells);
    })
    (charters_solve play.net (limits_of play.setup wakeups) tells play.setup.home hole can) in
    contests_are_solved play none_held wakeups (strategies_by (charters n tells))
    (chart_moves n (ports_beside play.net hole) play.setup.agents) (degree_of play.net hole) clients played plain done
    (waiters_are_orderly (trial_in play none_held wakeups (strategies_by (charters n tells))) (λ agent. refl)
    (charters_wait n tells)) solved.solves solved.rests
