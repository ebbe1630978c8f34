-- Two agents that have a map solve every network of a file: by a guide they explore as the shuttle does.
use Rattle.std.proofs.Common.{ℕ, zero, suc, ◌+◌, ◌-◌, ◌*◌, ◌<◌, ◌≤◌, ◌≡◌, Bool, true, false, ◌==◌, Some, List, refl}
use Rattle.std.proofs.Common.{[], ◌∷◌, sym, ap, ◌∙◌, subst, if◌then◌else◌, arith, add-one}
use Rattle.std.specs.Prelude.{◌≢◌}
use Rattle.bhs_net.specs.Network.{Network, nodes_of}
use Rattle.bhs_model.specs.declared.replies.Reply.{Reply}
use Rattle.bhs_model.specs.declared.replies.Reply.TheVariants.{Here, Written, Changed, Gone, Noted}
use Rattle.bhs_model.specs.declared.setups.Setup.{Setup}
use Rattle.bhs_model.specs.Setups.{network_of, world_of}
use Rattle.bhs_model.specs.Worlds.{Network as WorldNetwork, World}
use Rattle.bhs_schedules.specs.Strategies.{Heard, History, Strategies}
use Rattle.bhs_model.specs.Examples.{none_held}
use Rattle.bhs_schedules.specs.Schedules.{Trial}
use Rattle.bhs_protocols.specs.declared.shuttle.Memory.{Memory as Seen}
use Rattle.bhs_protocols.specs.declared.shuttle.Phase.{Phase as SeenPhase}
use Rattle.bhs_protocols.specs.declared.shuttle.Phase.TheVariants as seen
use Rattle.bhs_protocols.specs.Shuttle.{other_in, round_trips, moves_on}
use Rattle.bhs_protocols.specs.Invariants.{IsSolved}
use Rattle.bhs_protocols.specs.Laws.{shuttle_bounds}
use Rattle.bhs_protocols.specs.LastWord.{searched, SolvesEverywhere}
use Rattle.bhs_protocols.specs.Programs.{held_after, strategies_by}
use Rattle.bhs_protocols.specs.AllRings.{ring_bounds}
use Rattle.bhs_protocols.proofs.LossLemmas.{each_black_hole_destroys}
use Rattle.bhs_protocols.proofs.StandardLemmas.{size_is}
use Rattle.bhs_protocols.proofs.RingLemmas.{quota_enough, solved_wherever, two_within, within_more}
use Rattle.bhs_protocols.proofs.ExplorerSteps.{Way, AreExplorers, does_by, out_by, back_by}
use Rattle.bhs_protocols.proofs.ExplorerState.{Game}
use Rattle.bhs_protocols.proofs.ExplorerLemmas.{explorers_solve}
use Rattle.bhs_protocols.proofs.ExplorerWorst.{attains}
use Rattle.bhs_protocols_mapped.specs.Guides.{Guide, HasGuide, IsGuide, IsRoute, Route}
use Rattle.bhs_protocols_mapped.specs.Exploring.{Memory, Phase, Begins, GoesOut, Leaves, ComesBack, Returns, Writes}
use Rattle.bhs_protocols_mapped.specs.Exploring.{Ends}
use Rattle.bhs_protocols_mapped.specs.Exploring.{way_of, does_in, came_back, after_in, round_trips_by, moves_by}
use Rattle.bhs_protocols_mapped.specs.Exploring.{commands_by}
use Rattle.bhs_protocols_mapped.specs.Exploring.{explorers, guided_bounds}
use Rattle.bhs_protocols_mapped.specs.MapLaws.{IsGuided, guided_trial, GuidedAgentsSolve, GuidedAgentsAttain, IsSetAt}
use Rattle.bhs_protocols_mapped.specs.MapLaws.{IsSearchedFrom, TwoAgentsWithAMapSolve, OneLossIsNeededAndSuffices}
use Rattle.bhs_protocols_mapped.specs.MapLaws.{GuidedMovesAreFew, StandardRingsAreSetAt}
use Rattle.bhs_protocols_mapped.proofs.GuideLemmas.{networks_have_guides}

-- ---- what an agent holds, with the ports of its way

abbrev way_to : Guide → (side k : ℕ) → Way
way_to guide side k =
    let route : Route = guide.route side k in
    record { steps = route.steps; place = route.place; ahead = route.ahead; behind = route.behind }

abbrev with_ports : Route → Phase → SeenPhase
with_ports route Begins = seen.Begins
with_ports route (GoesOut step) = seen.GoesOut step (route.ahead step)
with_ports route (Leaves step) = seen.Leaves step
with_ports route (ComesBack step) = seen.ComesBack step (route.behind step)
with_ports route (Returns step) = seen.Returns step
with_ports route Writes = seen.Writes
with_ports route Ends = seen.Ends

abbrev without_ports : SeenPhase → Phase
without_ports seen.Begins = Begins
without_ports (seen.GoesOut step port) = GoesOut step
without_ports (seen.Leaves step) = Leaves step
without_ports (seen.ComesBack step port) = ComesBack step
without_ports (seen.Returns step) = Returns step
without_ports seen.Writes = Writes
without_ports seen.Ends = Ends

same_phase : (route : Route) (phase : Phase) → without_ports (with_ports route phase) ≡ phase
same_phase route Begins = refl
same_phase route phase = refl

abbrev seen_as : Guide → Memory → Seen
seen_as guide m =
    record { side = m.side; mine = m.mine; theirs = m.theirs; phase = with_ports (way_of guide m) m.phase }

does_as : (n : ℕ) (guide : Guide) (m : Memory) (phase : Phase) → does_in n guide m phase
    ≡ does_by n (way_to guide m.side (m.mine + 1)) (seen_as guide m) (with_ports (way_of guide m) phase)
does_as n guide m Begins = refl
does_as n guide m phase = refl

module _ (n : ℕ) (guide : Guide) where
  abbrev held : (agent : ℕ) → History → Memory
  held = held_after (explorers n guide)

  abbrev holds : (agent : ℕ) → History → Seen
  holds agent past = seen_as guide (held agent past)

  heard : (s : ℕ) (past : History) (reply : Reply) (phase : SeenPhase) → (holds s past).phase ≡ phase
      → holds s (Heard reply ∷ past)
      ≡ seen_as guide (after_in guide (held s past) (without_ports phase) (Heard reply))
  heard s past reply phase is =
      ap (λ (ph : Phase). seen_as guide (after_in guide (held s past) ph (Heard reply)))
      (sym (same_phase (way_of guide (held s past)) (held s past).phase) ∙ ap without_ports is)

  are_explorers : AreExplorers n (strategies_by (explorers n guide)) holds (way_to guide)
  are_explorers = record {
    starts = λ s. refl;
    does = λ s past. does_as n guide (held s past) (held s past).phase;
    enters = λ s past ports came board it.
        heard s past (Here ports came board) seen.Begins it.is
        ∙ (λ i. record (holds s past) {
          theirs = other_in (held s past).side board;
          phase = seen.GoesOut 0 ((guide.route (it.side i) ((held s past).mine + 1)).ahead 0);
        });
    goes = λ s past step port it. heard s past Gone (seen.GoesOut step port) it.is;
    ends = λ s past step port it. heard s past Noted (seen.GoesOut step port) it.is;
    comes_out = λ s past step ports board it before.
        heard s past
        (Here ports (Some ((way_to guide s ((held s past).mine + 1)).behind (step + 1))) board) (seen.Leaves step) it.is
        ∙ out_as (held s past) (step + 1) (step + 1 == (way_of guide (held s past)).steps)
        ∙ ap (λ (side : ℕ). out_by (way_to guide side ((held s past).mine + 1)) (holds s past) (step + 1)) it.side;
    turns = λ s past step port it. heard s past Gone (seen.ComesBack step port) it.is;
    comes_back = λ s past step left_over ports board it last.
        let less : step - 1 ≡ left_over = omega (arith, last) in
        heard s past (Here ports (Some ((way_to guide s ((held s past).mine + 1)).ahead left_over)) board)
        (seen.Returns step) it.is
        ∙ ap (λ (k : ℕ). seen_as guide (came_back (held s past) k board)) less
        ∙ back_as (held s past) board left_over
        ∙ ap (λ (side : ℕ). back_by (way_to guide side ((held s past).mine + 1)) (holds s past) left_over board)
        it.side;
    wrote = λ s past it.
        heard s past Written seen.Writes it.is
        ∙ (λ i. record (holds s past) {
          mine = (held s past).mine + 1;
          phase = seen.GoesOut 0 ((guide.route (it.side i) ((held s past).mine + 1 + 1)).ahead 0);
        });
    reads = λ s past board it. heard s past (Changed board) seen.Writes it.is;
  }
    where
      out_as : (m : Memory) (step : ℕ) (last : Bool)
          → seen_as guide (if last then record m { phase = ComesBack step } else record m { phase = GoesOut step })
          ≡ (if last then record (seen_as guide m) { phase = seen.ComesBack step ((way_of guide m).behind step) }
          else record (seen_as guide m) { phase = seen.GoesOut step ((way_of guide m).ahead step) })
      out_as m step true = refl
      out_as m step false = refl

      back_as : (m : Memory) (board : List ℕ) (k : ℕ) → seen_as guide (came_back m k board)
          ≡ back_by (way_to guide m.side (m.mine + 1)) (seen_as guide m) k board
      back_as m board zero = refl
      back_as m board (suc k) = refl

-- ---- they solve the match, and make all the moves that their bound allows

abbrev guided_game : (world : World) (n right left wakeups : ℕ) (guide : Guide) → IsGuided world n right left guide
    → 4 ≤ world.board → commands_by guide n 0 right ≤ world.quota → commands_by guide n 1 left ≤ world.quota → Game
guided_game world n right left wakeups guide search room enough enough_too = record {
  world = world;
  n = n;
  right = right;
  left = left;
  wakeups = wakeups;
  strategies = strategies_by (explorers n guide);
  holds = holds n guide;
  node = guide.node;
  way_to = way_to guide;
  round_trips = round_trips_by guide;
  no_trips = λ side. refl;
  more_trips = λ side k. rw add-one refl;
  three = search.guides.three;
  search = record {
    size = search.guides.size;
    home = search.guides.start;
    around = search.guides.around;
    apart = search.guides.apart;
    all = search.guides.all;
    sum = search.sum;
    not_home = search.not_home;
    nor_around = search.nor_around;
    hole = search.hole;
    none_dark = search.none_dark;
    agents = search.agents;
  };
  ways = λ side k below within.
      let is : IsRoute world.net (guide.node side) k (guide.route side k) = search.guides.routes side k below within in
      record {
        first = is.first;
        last = is.last;
        early = is.early;
        ahead = is.ahead;
        behind = is.behind;
        out = is.out;
        back = is.back;
      };
  explorers = are_explorers n guide;
  room = room;
  enough = enough;
  enough_too = enough_too;
}

pub guided_agents_solve : GuidedAgentsSolve
guided_agents_solve world n right left wakeups guide search room enough enough_too =
    explorers_solve (guided_game world n right left wakeups guide search room enough enough_too)

pub guided_agents_attain : GuidedAgentsAttain
guided_agents_attain world n right left wakeups guide search room enough enough_too =
    attains (guided_game world n right left wakeups guide search room enough enough_too)

-- ---- all networks

-- the ways to the first k nodes cost no more than on a ring
trips_few : (net : WorldNetwork) (home n side : ℕ) (guide : Guide) → IsGuide net home n guide → side < 2 → (k : ℕ)
    → k < n → round_trips_by guide side k ≤ round_trips k
trips_few net home n side guide is below zero within = omega arith
trips_few net home n side guide is below (suc k) within =
    let rest : round_trips_by guide side k ≤ round_trips k =
    trips_few net home n side guide is below k (omega (arith, within)) in
    let few : (guide.route side (suc k)).steps ≤ suc k = (is.routes side (suc k) below within).few in
    omega (arith, rest, few)

pub guided_moves_are_few : GuidedMovesAreFew
guided_moves_are_few net home n side k guide is below within =
    let rest : round_trips_by guide side (k - 1) ≤ round_trips (k - 1) =
    trips_few net home n side guide is below (k - 1) (omega (arith, within)) in
    let few : (guide.route side k).steps ≤ k = (is.routes side k below within).few in
    omega (arith, rest, few)

module _ (net : Network) (home : ℕ) (has : HasGuide net home) where
  abbrev n : ℕ
  n = nodes_of net

  few_moves : (side k : ℕ) → side < 2 → k < n → moves_by has.guide side k ≤ moves_on k
  few_moves side k = guided_moves_are_few (network_of net) home n side k has.guide has.guides

  module _ (one other : ℕ) (sum : one + other ≡ n) (some : 0 < one) (some_too : 0 < other) where
    few_one : moves_by has.guide 0 one ≤ moves_on one
    few_one = few_moves 0 one (omega arith) (omega (arith, sum, some_too))

    few_other : moves_by has.guide 1 other ≤ moves_on other
    few_other = few_moves 1 other (omega arith) (omega (arith, sum, some))

    commands_few : (agent : ℕ) → (guided_bounds has.guide n one other).commands agent
        ≤ (shuttle_bounds n one other).commands agent
    commands_few = two_within (commands_by has.guide n 0 one) (commands_by has.guide n 1 other)
        (shuttle_bounds n one other).commands (omega (arith, few_one)) (omega (arith, few_other))

    as_on_a_ring : (trial : Trial) → IsSolved trial (guided_bounds has.guide n one other)
        → IsSolved trial (ring_bounds n)
    as_on_a_ring trial it =
        solved_wherever trial n one other sum some some_too
        (within_more trial (guided_bounds has.guide n one other) (shuttle_bounds n one other)
        (omega (arith, few_one, few_other)) (omega arith) commands_few (omega (arith, few_one, few_other)) it)

  solves_with : (setup : Setup) (hole wakeups : ℕ) → IsSetAt net home setup hole → 4 ≤ setup.board
      → (n - 2) * (n - 1) + 2 * n ≤ setup.quota
      → IsSolved (guided_trial (world_of net setup) wakeups n has.guide) (ring_bounds n)
  solves_with setup hole wakeups is room enough =
      let place = has.guides.all hole is.within in
      let one : ℕ = place.0 in
      let below : one < n = place.1 in
      let some : 0 < one = positive one (λ none. is.not_home
      (sym place.2 ∙ ap (has.guide.node 0) none ∙ has.guides.start 0)) in
      let sum : one + (n - one) ≡ n = omega (arith, below) in
      let some_too : 0 < n - one = omega (arith, below) in
      let both_enough = quota_enough n one (n - one) setup.quota sum some some_too enough in
      let few = few_one one (n - one) sum some some_too in
      let few_too = few_other one (n - one) sum some some_too in
      as_on_a_ring one (n - one) sum some some_too (guided_trial (world_of net setup) wakeups n has.guide)
      (guided_agents_solve (world_of net setup) n one (n - one) wakeups has.guide (record {
        guides = subst (λ (start : ℕ). IsGuide (network_of net) start n has.guide) (sym is.from) has.guides;
        sum = sum;
        not_home = some;
        nor_around = some_too;
        hole = is.holes ∙ ap (λ (k : ℕ). k ∷ []) (sym place.2);
        none_dark = is.dark;
        agents = is.agents;
      }) room (omega (arith, both_enough.0, few)) (omega (arith, both_enough.1, few_too)))
    where
      positive : (k : ℕ) → k ≢ 0 → 0 < k
      positive k some = omega (arith, some)

pub two_agents_with_a_map_solve : TwoAgentsWithAMapSolve
two_agents_with_a_map_solve net home is here =
    let has : HasGuide net home = networks_have_guides net home is here in
    record { guide = has.guide; guides = has.guides; solves = solves_with net home has }

pub standard_rings_are_set_at : StandardRingsAreSetAt
standard_rings_are_set_at n hole setup is =
    let some : 0 < hole = is.not_home in
    record {
      from = is.home;
      within = subst (λ (k : ℕ). hole < k) (sym (size_is n)) is.within;
      not_home = λ same. omega (arith, same, some);
      holes = is.holes;
      dark = is.dark;
      agents = is.agents;
    }

pub one_loss_is_needed_and_suffices : OneLossIsNeededAndSuffices
one_loss_is_needed_and_suffices net setup wakeups is here two room enough =
    let it : IsSearchedFrom net setup.home = two_agents_with_a_map_solve net setup.home is here in
    let n : ℕ = nodes_of net in
    let strategies : Strategies = strategies_by (explorers n it.guide) in
    let few : (hole : ℕ) → hole < n → hole ≢ setup.home
    → IsSolved (searched (world_of net setup) none_held wakeups strategies hole) (ring_bounds n) =
    λ hole below not_home. it.solves (record setup { holes = hole ∷ []; dark = [] }) hole wakeups (record {
      from = refl;
      within = below;
      not_home = not_home;
      holes = refl;
      dark = refl;
      agents = two;
    }) room enough in
    let everywhere : SolvesEverywhere (world_of net setup) none_held wakeups strategies =
    λ hole below not_home. let solved = few hole below not_home in
    record { moves = (n - 1) * (n - 1); lost = 1; solves = solved.solves; rests = solved.rests } in
    record {
      guide = it.guide;
      guides = it.guides;
      solves = everywhere;
      few = few;
      loses = each_black_hole_destroys (world_of net setup) none_held wakeups strategies is.labelled.few everywhere;
    }
