-- Two agents that search by a plan solve the match under every schedule.
use Rattle.std.proofs.Common.{ℕ, suc, ◌+◌, ◌-◌, ◌*◌, ◌/◌, ◌<◌, ◌≤◌, ◌≡◌, true, false, ◌==◌}
use Rattle.std.proofs.Common.{[], refl, sym, ap, ◌∙◌, subst, inr, arith}
use Rattle.bhs_model.specs.declared.commands.Command.TheVariants.{Write, Accuse}
use Rattle.bhs_model.specs.declared.replies.Reply.TheVariants.{Over}
use Rattle.bhs_schedules.specs.declared.answers.Step.TheVariants.{Says}
use Rattle.bhs_schedules.specs.Strategies.{Heard}
use Rattle.bhs_schedules.specs.Schedules.{Trial}
use Rattle.bhs_protocols.specs.Configurations.{blank}
use Rattle.bhs_protocols.specs.Invariants.{IsInvariant}
use Rattle.bhs_protocols.specs.Halves.{own_in}
use Rattle.bhs_protocols.specs.Halving.{rounds}
use Rattle.bhs_protocols_divided.specs.Plans.{IsLeft, IsPlanned, news}
use Rattle.bhs_protocols_divided.specs.Plans.{left_at}
use Rattle.bhs_protocols_divided.specs.Dividing.{Memory, Phase, Begins, GoesOut, Leaves, Tries, Turns, Returns, Writes}
use Rattle.bhs_protocols_divided.specs.Dividing.{Follows}
use Rattle.bhs_protocols_divided.specs.Dividing.{Passes, Tells, Ends, does_in, after_in, divided_trial, told}
use Rattle.bhs_protocols_divided.specs.Dividing.{others_of}
use Rattle.bhs_protocols_divided.specs.DividingLaws.{DividersSolve, divided_bounds, most_moves, most_commands}
use Rattle.bhs_protocols_divided.specs.DividingLaws.{most_turns}
use Rattle.bhs_protocols_divided.proofs.NewsLemmas.{news_few}
use Rattle.bhs_protocols_divided.proofs.StageLemmas.{total}
use Rattle.bhs_protocols_divided.proofs.DividingDues.{Purse, share}
use Rattle.bhs_protocols_divided.proofs.DividingState.{Game, Fit, IsHidden, Inv, around, mem, seat, setting, swapped}
use Rattle.bhs_protocols_divided.proofs.DividingState.{moves_left, commands_due, trial as trial_of}
use Rattle.bhs_protocols_divided.proofs.DividingLemmas.{either}
use Rattle.bhs_protocols_divided.proofs.DividingFacts.{plan_is}
use Rattle.bhs_protocols_divided.proofs.DividingShares.{both_shares}
use Rattle.bhs_protocols_divided.proofs.DividingRest.{any_turn}
use Rattle.bhs_protocols_divided.proofs.DividingVerdict.{at_rest, at_turn}
use Rattle.bhs_protocols.proofs.HalvingLemmas.{rounds_half, rounds_within}
use Rattle.bhs_protocols.proofs.MovingLemmas.{is_steady, fails_not, sleeps_not, steady_if}
use Rattle.bhs_protocols.proofs.Principle.{invariants_solve}
use Rattle.bhs_protocols.proofs.SearchLemmas.{either_goes_on}

one_round_less : (n : ℕ) → 3 ≤ n → suc (rounds (n / 2)) ≤ rounds (n - 1)
one_round_less n three =
    let half : rounds (n - 1 - (n - 1) / 2) + 1 ≤ rounds (n - 1) = rounds_half (n - 1) (omega (arith, three)) in
    let halves : n - 1 - (n - 1) / 2 ≡ n / 2 = omega (arith, three) in
    let same : rounds (n - 1 - (n - 1) / 2) ≡ rounds (n / 2) = ap rounds halves in
    omega (arith, half, same)

times_more : (a b c : ℕ) → a * (b + c) ≡ a * b + a * c
times_more a b c = grind arith

times_within : (a r most : ℕ) → r ≤ most → a * r ≤ a * most
times_within a r most less =
    let is : a * (r + (most - r)) ≡ a * r + a * (most - r) = times_more a r (most - r) in
    let same : a * (r + (most - r)) ≡ a * most = ap (λ (k : ℕ). a * k) (omega (arith, less)) in
    omega (arith, is, same)

six_times : (a r : ℕ) → 6 * a * suc r ≡ 3 * (2 * a) * r + 6 * a
six_times a r = grind arith

module _ (game : Game) where
  open game use {world, n, hole, wakeups, plan}

  abbrev trial : Trial
  trial = trial_of game

  steady : (m : Memory) (phase : Phase) → is_steady (does_in plan m phase) ≡ true
  steady m Begins = refl
  steady m GoesOut = refl
  steady m Leaves = refl
  steady m Tries = refl
  steady m Turns = refl
  steady m Returns = refl
  steady m Writes = refl
  steady m Follows = refl
  steady m Passes = refl
  steady m Tells = steady_if (left_at plan m.divisions (1 - m.side) m.step == 1)
      (Says (Accuse ((others_of plan m).ahead m.step))) (Says (Write m.seen (told m))) refl refl
  steady m Ends = refl

  -- ---- before anything has happened

  first_stage : IsPlanned world.net n plan []
  first_stage = (plan_is game).planned [] tt

  first_nodes : (side : ℕ) → side < 2 → (plan.itinerary [] side).node 0 ≡ world.home
  first_nodes side below = either (λ (k : ℕ). (plan.itinerary [] k).node 0 ≡ world.home) (plan_is game).start
      (sym first_stage.root ∙ (plan_is game).start) side below

  first_totals : (total plan [] 0 ≡ n / 2) × (total plan [] 1 ≡ (n - 1) / 2) × (3 ≤ n)
  first_totals = ((plan_is game).greater, (plan_is game).lesser, (plan_is game).three)

  total_few : (side : ℕ) → side < 2 → (0 < total plan [] side) × (total plan [] side ≤ n / 2)
  total_few side below =
      let zeroth : total plan [] 0 ≡ n / 2 = first_totals.0 in
      let first : total plan [] 1 ≡ (n - 1) / 2 = first_totals.1 in
      let three : 3 ≤ n = first_totals.2 in
      either (λ (k : ℕ). (0 < total plan [] k) × (total plan [] k ≤ n / 2))
      (omega (arith, zeroth, three), omega (arith, zeroth)) (omega (arith, first, three), omega (arith, first)) side
      below

  some_steps : (side : ℕ) → side < 2 → 0 < (plan.itinerary [] side).steps
  some_steps side below =
      let few : news (plan.itinerary [] side) (plan.itinerary [] side).steps ≤ (plan.itinerary [] side).steps =
      news_few (plan.itinerary [] side) (plan.itinerary [] side).steps in
      let some : 0 < total plan [] side = (total_few side below).0 in
      omega (arith, few, some)

  abbrev spot : IsLeft plan [] hole
  spot = (plan_is game).all hole game.search.within game.search.not_home

  abbrev first_purse : (side : ℕ) → Purse
  first_purse side = record {
    ways = share (around game) side spot.side;
    trips = 2 * total plan [] side;
    marks = total plan [] side;
    count = 0;
    at = 0;
  }

  abbrev first_coming : ℕ
  first_coming = 3 * around game * rounds (n / 2)

  first_fit : (side : ℕ) → side < 2
      → Fit game (setting game [] 0 spot.side (λ node. []) (λ node. false)) (first_purse side) (seat game blank side)
  first_fit side below = record {
    placed = (
      record {
        within = some_steps side below;
        behind = refl;
        far = omega arith;
        same = refl;
        clear = λ h. game.search.not_home (sym h ∙ first_nodes side below);
        heard = λ h. absurd (omega (arith, h));
        none = refl;
      },
      refl,
      refl,
      first_nodes side below,
    );
    ways = omega arith;
    trips = omega arith;
    marks = omega arith;
    shows = λ node. either (λ (k : ℕ). own_in k [] ≤ 0) (omega arith) (omega arith) side below;
    known = λ step within is_new few. absurd (omega (arith, few));
  }

  abbrev hidden : (node : ℕ) → (there : IsLeft plan [] node)
      → IsHidden game [] (seat game blank 0) (seat game blank 1) node
  hidden node there = record {
    side = there.side;
    step = there.step;
    is = there.explores;
    own = λ h. omega arith;
    other = λ h. omega arith;
  }

  all_shares : share (around game) 0 spot.side + share (around game) 1 spot.side ≡ 3 * around game
  all_shares = both_shares (around game) 0 spot.side (omega arith) spot.explores.below

  moves_are : moves_left game (first_purse 0) (first_purse 1) first_coming ≤ most_moves n
  moves_are =
      let zeroth : total plan [] 0 ≡ n / 2 = first_totals.0 in
      let first : total plan [] 1 ≡ (n - 1) / 2 = first_totals.1 in
      let three : 3 ≤ n = first_totals.2 in
      let once : suc (rounds (n / 2)) ≤ rounds (n - 1) = one_round_less n three in
      let more : 6 * (n - 2) * suc (rounds (n / 2)) ≤ 6 * (n - 2) * rounds (n - 1) =
      times_within (6 * (n - 2)) (suc (rounds (n / 2))) (rounds (n - 1)) once in
      let all : 6 * (n - 2) * suc (rounds (n / 2)) ≡ 3 * (2 * (n - 2)) * rounds (n / 2) + 6 * (n - 2) =
      six_times (n - 2) (rounds (n / 2)) in
      omega (arith, zeroth, first, three, more, all, all_shares)

  writes_are : total plan [] 0 + total plan [] 1 + rounds (n / 2) + 1 ≤ n - 1 + rounds (n - 1)
  writes_are =
      let zeroth : total plan [] 0 ≡ n / 2 = first_totals.0 in
      let first : total plan [] 1 ≡ (n - 1) / 2 = first_totals.1 in
      let three : 3 ≤ n = first_totals.2 in
      let once : suc (rounds (n / 2)) ≤ rounds (n - 1) = one_round_less n three in
      omega (arith, zeroth, first, three, once)

  first_inv : Inv game 0 1 blank (most_turns n)
  first_inv = record {
    now = [];
    p = first_purse 0;
    q = first_purse 1;
    coming = first_coming;
    more = rounds (n / 2);
    state = record {
      stage = tt;
      below = omega arith;
      apart = refl;
      apart_too = refl;
      spot = hidden hole spot;
      own = first_fit 0 (omega arith);
      other = first_fit 1 (omega arith);
      told = λ node. omega arith;
      reached = λ node within away. inr (hidden node ((plan_is game).all node within away));
      paid = record {
        ways = times_within (3 * around game) (rounds (total plan [] spot.side)) (rounds (n / 2)) few_rounds;
        told = few_rounds;
      };
    };
    moves = omega (arith, moves_are);
    used = λ k. omega (arith, moves_are, writes_are);
    turns = omega (arith, moves_are, writes_are);
  }
    where
      few_rounds : rounds (total plan [] spot.side) ≤ rounds (n / 2)
      few_rounds = rounds_within (total plan [] spot.side) (n / 2) (total_few spot.side spot.explores.below).1

  -- ---- all together

  invariant : IsInvariant trial (divided_bounds n) (Inv game 0 1)
  invariant = record {
    first = λ agent. refl;
    begins = first_inv;
    goes_on = λ configuration turns agent within moves held.
        either_goes_on trial (Inv game) (λ s o it left pair was. swapped game s o it left was)
        (λ s o it left pair can was. any_turn (at_turn game s o it left pair was) can) configuration turns agent
        (subst (λ (k : ℕ). agent < k) game.search.agents within) moves held;
    moves = λ configuration turns held.
        let moves : configuration.moves + moves_left game held.p held.q held.coming ≤ most_moves n = held.moves in
        omega (arith, moves);
    commands = λ configuration turns agent held.
        let used : configuration.used agent + commands_due game held.p held.q held.coming held.more
        (mem game configuration 0) (mem game configuration 1) configuration.shown ≤ most_commands n = held.used agent in
        omega (arith, used);
    fine = λ configuration turns agent within held.
        fails_not _ (steady (mem game configuration agent) (mem game configuration agent).phase);
    settles = λ configuration turns still held.
        let good = at_rest game configuration turns held still in
        record {
          outcome = good.0;
          few = good.1;
          over = λ agent node port within at.
              let now : Memory = after_in plan (mem game configuration agent) (mem game configuration agent).phase
              (Heard Over) in
              fails_not _ (steady now now.phase);
          awake = λ agent within at. sleeps_not _ (steady (mem game configuration agent)
              (mem game configuration agent).phase);
        };
  }

pub dividers_solve : DividersSolve
dividers_solve world n hole wakeups plan search room enough =
    let game : Game = record {
      world = world;
      n = n;
      hole = hole;
      wakeups = wakeups;
      plan = plan;
      search = search;
      room = room;
      enough = enough;
    } in
    invariants_solve (divided_trial world wakeups plan) (divided_bounds n) (Inv game 0 1) (invariant game)
