-- The laws, of the stages.
use Rattle.std.proofs.Common.{ℕ, zero, suc, ◌+◌, ◌-◌, ◌*◌, ◌<◌, ◌≤◌, ◌≡◌, List, ◌++◌, sym, ap, ◌∙◌, subst, arith}
use Rattle.std.proofs.Math.Nat.{suc-mul}
use Rattle.bhs_net.specs.Network.{nodes_of}
use Rattle.bhs_model.specs.Setups.{world_of}
use Rattle.bhs_model.specs.Worlds.{World}
use Rattle.bhs_model.specs.Draws.{Held}
use Rattle.bhs_referee.specs.declared.verdicts.Verdict.{Verdict}
use Rattle.bhs_schedules.specs.Strategies.{Strategies}
use Rattle.bhs_schedules.specs.Schedules.{Trial, under, verdict}
use Rattle.bhs_schedules.proofs.Turns.{verdict_is}
use Rattle.bhs_protocols.specs.Configurations.{Configuration, configuration_of, blank, turns_in}
use Rattle.bhs_protocols.specs.LastWord.{searched, Finds, SolvesEverywhere, SolvesFor}
use Rattle.bhs_protocols.specs.Rings.{Ways, IsRing}
use Rattle.bhs_protocols.specs.AllRings.{IsAway, ways_of}
use Rattle.bhs_protocols.proofs.RingLemmas.{is_away}
use Rattle.bhs_protocols.specs.Halving.{doubled, rounds}
use Rattle.bhs_protocols.proofs.HalvingLemmas.{rounds_over, rounds_reach}
use Rattle.bhs_protocols.proofs.ConfigurationLemmas.{configurations_follow}
use Rattle.bhs_protocols.proofs.FindsLemmas.{solvers_find}
use Rattle.bhs_protocols.proofs.LastWordLemmas.{turns_in_append}
use Rattle.bhs_protocols_bounds.specs.Bound.{fibonacci, more_moves, SolvesWithin, TwoMustMoveMore, EveryTeamMovesMore}
use Rattle.bhs_protocols_bounds.specs.Bound.{TwoMustMoveOnAllRings, least_moves, MustMove, MustMoveAtRest, TwoMustMove}
use Rattle.bhs_protocols_bounds.specs.Bound.{TwoMustMoveAtRest, EveryTeamMoves}
use Rattle.bhs_protocols_bounds.proofs.Placing.{IsNet}
use Rattle.bhs_protocols_bounds.proofs.Phases.{InOrder, OneGoesFar, explores, halves}
use Rattle.bhs_protocols_bounds.proofs.Begins.{begins_on_ring}
use Rattle.bhs_protocols_bounds.proofs.Meeting.{one_goes_far}
use Rattle.bhs_protocols_bounds.proofs.MoveCounts.{turns_more}
use Rattle.bhs_protocols_bounds.proofs.Order.{in_order}
use Rattle.bhs_protocols_bounds.proofs.RingLines.{ring_net}
use Rattle.bhs_protocols_bounds.proofs.TwoPlaces.{two_places}
use Rattle.bhs_protocols_bounds.proofs.FibonacciPhases.{TwoPlacesCost, fibonacci_phases, two_or_more}
use Rattle.bhs_protocols_bounds.proofs.Stages.{IsStage, PhasesCost, phases, all_phases, moves_of}

-- ---- the count

phases_are : (n times : ℕ) → phases n times + 1 ≡ times * (n - 2) + doubled times
phases_are n zero = omega arith
phases_are n (suc k) =
    let rest : phases n k + 1 ≡ k * (n - 2) + doubled k = phases_are n k in
    let product : suc k * (n - 2) ≡ k * (n - 2) + (n - 2) = suc-mul k (n - 2) in
    omega (arith, rest, product)

module _ (world : World) (held : Held) (wakeups : ℕ) (strategies : Strategies) where
  -- what the adversary can do
  pub record HasSteps (n : ℕ) : Type 0 where
    pub home : world.home < n
    pub starts : IsStage world held wakeups strategies n (n - 1) 2
    pub explores : (new more moves : ℕ) → 1 ≤ more → 2 ≤ new
        → IsStage world held wakeups strategies n (new + more) moves
        → IsStage world held wakeups strategies n new (moves + 3 * more)
    pub halves : PhasesCost world held wakeups strategies n
    pub two_places : TwoPlacesCost world held wakeups strategies n

  before_phases : (n new more : ℕ) → HasSteps n → new + more ≡ n - 1 → 2 ≤ new
      → IsStage world held wakeups strategies n new (2 + 3 * more)
  before_phases n new zero steps sum some =
      let same : n - 1 ≡ new = omega (arith, sum) in
      subst (λ (u : ℕ). IsStage world held wakeups strategies n u (2 + 3 * zero)) same steps.starts
  before_phases n new (suc more) steps sum some =
      steps.explores new (suc more) 2 (omega arith) some
      (subst (λ (u : ℕ). IsStage world held wakeups strategies n u 2) (sym sum) steps.starts)

  pub counted : (n : ℕ) → 3 ≤ n → HasSteps n → MustMove world held wakeups strategies (least_moves n)
  counted n three steps =
      let k : ℕ = rounds (n - 1) - 1 in
      let first : rounds (n - 1) ≡ suc k = one_more (rounds (n - 1)) (rounds_reach (n - 1)) in
      let over : doubled k < n - 1 = rounds_over (n - 1) k first in
      let more : ℕ = n - 2 - doubled k in
      let stage : IsStage world held wakeups strategies n (doubled k + 1) (2 + 3 * more) =
      before_phases n (doubled k + 1) more steps (omega (arith, over)) (doubled_one k) in
      let last : IsStage world held wakeups strategies n 2 (2 + 3 * more + phases n k) =
      all_phases world held wakeups strategies n k (2 + 3 * more) (omega (arith, three)) steps.halves stage in
      let found : MustMove world held wakeups strategies (2 + 3 * more + phases n k) =
      moves_of world held wakeups strategies n 2 (2 + 3 * more + phases n k) steps.home last in
      let many : phases n k + 1 ≡ k * (n - 2) + doubled k = phases_are n k in
      let product : suc k * (n - 2) ≡ k * (n - 2) + (n - 2) = suc-mul k (n - 2) in
      let whole : rounds (n - 1) * (n - 2) ≡ suc k * (n - 2) = ap (λ (r : ℕ). r * (n - 2)) first in
      let enough = found.moves in
      record {
        hole = found.hole;
        within = found.within;
        not_home = found.not_home;
        schedule = found.schedule;
        moves = omega (arith, enough, many, product, whole, over);
      }
    where
      one_more : (r : ℕ) → n - 1 ≤ doubled r → r ≡ suc (r - 1)
      one_more zero reach = absurd (omega (arith, reach, three))
      one_more (suc k) reach = omega arith

      doubled_one : (k : ℕ) → 2 ≤ doubled k + 1
      doubled_one zero = omega arith
      doubled_one (suc k) = let it = doubled_one k in omega (arith, it)

  pub counted_more : (n k : ℕ) → fibonacci k + 2 ≤ n → HasSteps n
      → MustMove world held wakeups strategies (more_moves n k)
  counted_more n k small steps =
      let more : ℕ = n - 2 - fibonacci k in
      let stage : IsStage world held wakeups strategies n (fibonacci k + 1) (2 + 3 * more) =
      before_phases n (fibonacci k + 1) more steps (omega (arith, small)) (two_or_more k) in
      let last : IsStage world held wakeups strategies n 2 (2 + 3 * more + k * n + 2 - fibonacci (suc k)) =
      fibonacci_phases world held wakeups strategies n k (2 + 3 * more) steps.halves steps.two_places stage in
      let same : 2 + 3 * more + k * n + 2 - fibonacci (suc k) ≡ more_moves n k = omega arith in
      subst (MustMove world held wakeups strategies) same
      (moves_of world held wakeups strategies n 2 (2 + 3 * more + k * n + 2 - fibonacci (suc k)) steps.home last)

steps_on : (world : World) (n wakeups : ℕ) (ways : Ways) (held : Held) (strategies : Strategies) → IsRing world n ways
    → world.agents ≡ 2 → Finds world held wakeups strategies → HasSteps world held wakeups strategies n
steps_on world n wakeups ways held strategies ring two finds =
    let net : IsNet world = ring_net world n ways ring in
    let order : InOrder world held wakeups strategies n net = in_order world held wakeups strategies n net finds two in
    let far : OneGoesFar world held wakeups strategies n net =
    one_goes_far world held wakeups strategies n net finds two in
    record {
      home = subst (λ (m : ℕ). world.home < m) ring.size net.home;
      starts = begins_on_ring world n wakeups ways held strategies net ring two finds;
      explores = explores world held wakeups strategies n net order far;
      halves = halves world held wakeups strategies n net order far;
      two_places = two_places world held wakeups strategies n net order far;
    }

pub two_must_move : TwoMustMove
two_must_move world n wakeups ways held strategies ring two finds =
    counted world held wakeups strategies n ring.three (steps_on world n wakeups ways held strategies ring two finds)

pub two_must_move_more : TwoMustMoveMore
two_must_move_more world n k wakeups ways held strategies ring two small finds =
    counted_more world held wakeups strategies n k small (steps_on world n wakeups ways held strategies ring two finds)

pub two_must_move_on_all_rings : TwoMustMoveOnAllRings
two_must_move_on_all_rings net setup hole wakeups held strategies is finds =
    let away : IsAway net setup hole = is_away net setup hole is in
    two_must_move (world_of net setup) (nodes_of net) wakeups (ways_of net setup.home) held strategies away.search.ring
    is.agents finds

-- ---- at rest

at_rest : (world : World) (held : Held) (wakeups : ℕ) (strategies : Strategies) (least : ℕ)
    → SolvesEverywhere world held wakeups strategies → MustMove world held wakeups strategies least
    → MustMoveAtRest world held wakeups strategies least
at_rest world held wakeups strategies least solves found =
    let trial : Trial = searched world held wakeups strategies found.hole in
    let it : SolvesFor trial = solves found.hole found.within found.not_home in
    let more = it.rests found.schedule in
    let whole : List ℕ = found.schedule ++ more.0 in
    let before : Configuration = turns_in trial blank found.schedule in
    let enough : least ≤ (configuration_of trial (under trial found.schedule)).moves = found.moves in
    let first : (configuration_of trial (under trial found.schedule)).moves ≡ before.moves =
    ap (λ (p : Configuration). p.moves) (configurations_follow trial found.schedule) in
    let grows : before.moves ≤ (turns_in trial before more.0).moves = turns_more trial more.0 before in
    let last : (configuration_of trial (under trial whole)).moves ≡ (turns_in trial before more.0).moves =
    ap (λ (p : Configuration). p.moves) (configurations_follow trial whole
    ∙ turns_in_append trial blank found.schedule more.0) in
    let judged : (verdict trial (under trial whole)).moves ≡ (configuration_of trial (under trial whole)).moves =
    ap (λ (v : Verdict). v.moves) (verdict_is trial (under trial whole)) in
    record {
      hole = found.hole;
      within = found.within;
      not_home = found.not_home;
      schedule = whole;
      rest = more.1;
      moves = omega (arith, enough, first, grows, last, judged);
    }

pub two_must_move_at_rest : TwoMustMoveAtRest
two_must_move_at_rest world n wakeups ways held strategies ring two solves =
    at_rest world held wakeups strategies (least_moves n) solves
    (two_must_move world n wakeups ways held strategies ring two
    (solvers_find world held wakeups strategies solves))

-- ---- beside the search by halves

-- moves that some schedule makes with some black hole are no more than those within which the team solves
within_moves : (world : World) (held : Held) (wakeups : ℕ) (strategies : Strategies) (least moves : ℕ)
    → SolvesWithin world held wakeups strategies moves
    → (Finds world held wakeups strategies → MustMove world held wakeups strategies least) → least ≤ moves
within_moves world held wakeups strategies least moves within must =
    let solves : SolvesEverywhere world held wakeups strategies = λ hole below not_home.
    let it = within hole below not_home in
    record { moves = moves; lost = it.0; solves = it.1; rests = it.2 } in
    let found : MustMoveAtRest world held wakeups strategies least =
    at_rest world held wakeups strategies least solves (must (solvers_find world held wakeups strategies solves)) in
    let it = within found.hole found.within found.not_home in
    let trial : Trial = searched world held wakeups strategies found.hole in
    let fewest : least ≤ (verdict trial (under trial found.schedule)).moves = found.moves in
    let most : (verdict trial (under trial found.schedule)).moves ≤ moves = (it.1 found.schedule found.rest).moves in
    omega (arith, fewest, most)

pub every_team_moves : EveryTeamMoves
every_team_moves world n wakeups moves ways held strategies ring two within =
    within_moves world held wakeups strategies (least_moves n) moves within
    (two_must_move world n wakeups ways held strategies ring two)

pub every_team_moves_more : EveryTeamMovesMore
every_team_moves_more world n k wakeups moves ways held strategies ring two small within =
    within_moves world held wakeups strategies (more_moves n k) moves within
    (two_must_move_more world n k wakeups ways held strategies ring two small)
