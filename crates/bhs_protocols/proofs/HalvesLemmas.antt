-- The search by halves solves every ring.
use Rattle.std.proofs.Common.{ℕ, zero, suc, ◌+◌, ◌-◌, ◌/◌, ◌<◌, ◌≤◌, ◌≡◌, true, false, ◌==◌, [], refl, sym, ap, ◌∙◌}
use Rattle.std.proofs.Common.{subst, nat_lt, arith}
use Rattle.std.proofs.lemmas.Bool.{lt-ltb, ltb-true, true≢false, cond-true, cond-false, le-ltb}
use Rattle.bhs_model.specs.declared.commands.Command.TheVariants.{Depart, Accuse}
use Rattle.bhs_model.specs.declared.replies.Reply.TheVariants.{Over}
use Rattle.bhs_model.proofs.StepLemmas.{by_cases}
use Rattle.bhs_schedules.specs.declared.answers.Step.TheVariants.{Says}
use Rattle.bhs_schedules.specs.Strategies.{Heard}
use Rattle.bhs_schedules.specs.Schedules.{Trial}
use Rattle.bhs_protocols.specs.Configurations.{Configuration, blank, can_move_in, turn_in}
use Rattle.bhs_protocols.specs.declared.halves.Memory.{Memory}
use Rattle.bhs_protocols.specs.declared.halves.Phase.{Phase}
use Rattle.bhs_protocols.specs.declared.halves.Phase.TheVariants.{GoesOut, Tells}
use Rattle.bhs_protocols.specs.Shuttle.{text_by}
use Rattle.bhs_protocols.specs.Halving.{rounds, walks_at, most_moves}
use Rattle.bhs_protocols.specs.Halves.{left_by, is_done, does_in, after_in, halves_trial}
use Rattle.bhs_protocols.specs.Halving.{most_turns, most_commands}
use Rattle.bhs_protocols.proofs.HalvesDues.{mark_at, beside, last}
use Rattle.bhs_protocols.specs.HalvesLaws.{halves_bounds, HalvesSolve}
use Rattle.bhs_protocols.specs.Invariants.{CostBounds, GoesOn, IsInvariant}
use Rattle.bhs_protocols.proofs.SearchLemmas.{Pair, both, either_goes_on}
use Rattle.bhs_protocols.proofs.Principle.{invariants_solve}
use Rattle.bhs_protocols.proofs.MovingLemmas.{is_steady, fails_not, sleeps_not, steady_if}
use Rattle.bhs_protocols.proofs.HalvingLemmas.{rounds_within, walks_at_within}
use Rattle.bhs_protocols.proofs.HalvesMarks.{mark_after, mark_here}
use Rattle.bhs_protocols.proofs.HalvesState.{AreMarked, Game, Inv, Onward, at_turn, due, mem, rest_of, swapped}
use Rattle.bhs_protocols.proofs.HalvesState.{trial as trial_of, turns_due, commands_due}
use Rattle.bhs_protocols.proofs.HalvesRest.{any_turn}
use Rattle.bhs_protocols.proofs.HalvesVerdict.{at_rest}

module _ (game : Game) where
  open game use {n, right, left, search}

  abbrev trial : Trial
  trial = trial_of game

  -- ---- no program fails, and none sleeps

  steady : (m : Memory) (phase : Phase) → is_steady (does_in n m phase) ≡ true
  steady m (GoesOut steps port) = steady_if (is_done m steps) _ (Says (Depart port))
      (steady_if (left_by n m.mine m.theirs == 1) (Says (Accuse port)) (Says (Depart (1 - port))) refl refl) refl
  steady m (Tells steps port) = steady_if (left_by n m.mine steps == 1) (Says (Accuse port)) _ refl refl
  steady m phase = refl

  -- ---- before anything has happened

  mark_none : (k : ℕ) → mark_at 0 0 k ≡ 0
  mark_none zero = mark_here 0 0 0 refl
  mark_none (suc k) = mark_after 0 0 (suc k) (omega arith)

  beside_none : (k : ℕ) → beside 0 0 k ≡ 0
  beside_none zero = mark_none 0
  beside_none (suc k) = refl

  empty_marked : (s : ℕ) → s < 2 → AreMarked game s 0 0 0 0 (λ node. [])
  empty_marked s below k before =
      sym ((λ i. text_by s (mark_none k i) (beside_none k i)) ∙ both (λ (j : ℕ). text_by j 0 0 ≡ []) refl refl s below)

  first_numbers : (due game 0 (mem game blank 0) 0 + due game 1 (mem game blank 1) 0 ≤ most_moves n)
      × (rounds (rest_of game 0 (mem game blank 0) 0) + rounds (rest_of game 1 (mem game blank 1) 0) ≤ rounds (n / 2))
  first_numbers =
      let sum : right + left ≡ n = search.sum in
      let three : 3 ≤ n = search.ring.three in
      let first : 0 < right = search.not_home in
      let second : 0 < left = search.nor_around in
      by_cases (nat_lt (n / 2) right)
      ((due game 0 (mem game blank 0) 0 + due game 1 (mem game blank 1) 0 ≤ most_moves n)
      × (rounds (rest_of game 0 (mem game blank 0) 0) + rounds (rest_of game 1 (mem game blank 1) 0) ≤ rounds (n / 2)))
      (λ yes.
      let below : n / 2 < right = ltb-true (n / 2) right yes in
      let over : nat_lt ((n - 1) / 2) left ≡ false = le-ltb ((n - 1) / 2) left (omega (arith, below, sum)) in
      let last_0 : last (n / 2) right ≡ 0 = cond-true _ _ _ yes in
      let last_1 : last ((n - 1) / 2) left ≡ 1 = cond-false _ _ _ over in
      let rest_0 : rest_of game 0 (mem game blank 0) 0 ≡ n - 1 - n / 2 - 0 = cond-true _ _ _ yes in
      let rest_1 : rest_of game 1 (mem game blank 1) 0 ≡ 1 = cond-false _ _ _ over in
      let walks_0 : walks_at n (rest_of game 0 (mem game blank 0) 0) ≤ walks_at n (n / 2) =
      walks_at_within n (rest_of game 0 (mem game blank 0) 0) (n / 2) (omega (arith, rest_0)) in
      let walks_1 : walks_at n (rest_of game 1 (mem game blank 1) 0) ≡ 0 = ap (walks_at n) rest_1 in
      let rounds_0 : rounds (rest_of game 0 (mem game blank 0) 0) ≤ rounds (n / 2) =
      rounds_within (rest_of game 0 (mem game blank 0) 0) (n / 2) (omega (arith, rest_0)) in
      let rounds_1 : rounds (rest_of game 1 (mem game blank 1) 0) ≡ 0 = ap rounds rest_1 in (
        omega (arith, last_0, last_1, walks_0, walks_1, sum, first, second),
        omega (arith, rounds_0, rounds_1),
      ))
      (λ none.
      let not_below : (n / 2 < right) → ⊥ = λ h. true≢false (sym (lt-ltb (n / 2) right h) ∙ none) in
      let before : (n - 1) / 2 < left = omega (arith, not_below, sum, three) in
      let yes_1 : nat_lt ((n - 1) / 2) left ≡ true = lt-ltb ((n - 1) / 2) left before in
      let last_0 : last (n / 2) right ≡ 1 = cond-false _ _ _ none in
      let last_1 : last ((n - 1) / 2) left ≡ 0 = cond-true _ _ _ yes_1 in
      let rest_0 : rest_of game 0 (mem game blank 0) 0 ≡ 1 = cond-false _ _ _ none in
      let rest_1 : rest_of game 1 (mem game blank 1) 0 ≡ n - 1 - (n - 1) / 2 - 0 = cond-true _ _ _ yes_1 in
      let walks_0 : walks_at n (rest_of game 0 (mem game blank 0) 0) ≡ 0 = ap (walks_at n) rest_0 in
      let walks_1 : walks_at n (rest_of game 1 (mem game blank 1) 0) ≤ walks_at n (n / 2) =
      walks_at_within n (rest_of game 1 (mem game blank 1) 0) (n / 2) (omega (arith, rest_1)) in
      let rounds_0 : rounds (rest_of game 0 (mem game blank 0) 0) ≡ 0 = ap rounds rest_0 in
      let rounds_1 : rounds (rest_of game 1 (mem game blank 1) 0) ≤ rounds (n / 2) =
      rounds_within (rest_of game 1 (mem game blank 1) 0) (n / 2) (omega (arith, rest_1)) in (
        omega (arith, last_0, last_1, walks_0, walks_1, sum, first, second),
        omega (arith, rounds_0, rounds_1),
      ))

  first_turns : turns_due game 0 (mem game blank 0) 0 blank.shown + turns_due game 1 (mem game blank 1) 0 blank.shown
      ≤ most_turns n
  first_turns =
      let dues : due game 0 (mem game blank 0) 0 + due game 1 (mem game blank 1) 0 ≤ most_moves n = first_numbers.0 in
      let few : rounds (rest_of game 0 (mem game blank 0) 0) + rounds (rest_of game 1 (mem game blank 1) 0)
      ≤ rounds (n / 2) =
      first_numbers.1 in
      let sum : right + left ≡ n = search.sum in
      let first : 0 < right = search.not_home in
      let second : 0 < left = search.nor_around in
      omega (arith, dues, few, sum, first, second)

  first_commands : commands_due game 0 (mem game blank 0) 0 blank.shown
      + commands_due game 1 (mem game blank 1) 0 blank.shown ≤ most_commands n
  first_commands =
      let dues : due game 0 (mem game blank 0) 0 + due game 1 (mem game blank 1) 0 ≤ most_moves n = first_numbers.0 in
      let few : rounds (rest_of game 0 (mem game blank 0) 0) + rounds (rest_of game 1 (mem game blank 1) 0)
      ≤ rounds (n / 2) =
      first_numbers.1 in
      let sum : right + left ≡ n = search.sum in
      let first : 0 < right = search.not_home in
      let second : 0 < left = search.nor_around in
      omega (arith, dues, few, sum, first, second)

  pub first_inv : Inv game 0 1 0 0 blank
  first_inv =
      let three : 3 ≤ n = search.ring.three in
      let dues : due game 0 (mem game blank 0) 0 + due game 1 (mem game blank 1) 0 ≤ most_moves n = first_numbers.0 in
      let commands : commands_due game 0 (mem game blank 0) 0 blank.shown
      + commands_due game 1 (mem game blank 1) 0 blank.shown ≤ most_commands n =
      first_commands in
      record {
        state = record {
          own = record {
            side = refl;
            placed = (refl, refl, (λ h. refl), refl);
            safe = search.not_home;
            within = omega arith;
            reachable = omega arith;
            plain = λ h. omega (arith, h);
            known = omega arith;
            known_too = omega arith;
            two = omega (arith, three);
            half = omega (arith, three);
            reached = λ k some far. absurd (omega (arith, some, far));
          };
          other = record {
            side = refl;
            placed = (refl, refl, (λ h. refl), refl);
            safe = search.nor_around;
            within = omega arith;
            reachable = omega arith;
            plain = λ h. omega (arith, h);
            known = omega arith;
            known_too = omega arith;
            two = omega (arith, three);
            half = omega (arith, three);
            reached = λ k some far. absurd (omega (arith, some, far));
          };
          sum = omega (arith, three);
          marked = empty_marked 0 (omega arith);
          marked_too = empty_marked 1 (omega arith);
        };
        moves = omega (arith, dues);
        used = λ k. omega (arith, commands);
      }

  -- ---- all together

  abbrev pub bounds : CostBounds
  bounds = halves_bounds n

  -- the invariant, with the turns that are left
  pub record Holds (s o : ℕ) (configuration : Configuration) (turns : ℕ) : Type 0 where
    pub mark : ℕ
    pub mark_too : ℕ
    pub inv : Inv game s o mark mark_too configuration
    pub total : turns_due game s (mem game configuration s) mark configuration.shown
        + turns_due game o (mem game configuration o) mark_too configuration.shown ≤ turns

  turned : (s o : ℕ) (configuration : Configuration) (turns : ℕ) → Pair s o → Holds s o configuration turns
      → Holds o s configuration turns
  turned s o configuration turns pair held =
      let total : turns_due game s (mem game configuration s) held.mark configuration.shown
      + turns_due game o (mem game configuration o) held.mark_too configuration.shown ≤ turns = held.total in
      record {
        mark = held.mark_too;
        mark_too = held.mark;
        inv = swapped game s o held.mark held.mark_too configuration held.inv;
        total = omega (arith, total);
      }

  goes_on : (s o : ℕ) (configuration : Configuration) (turns : ℕ) → Pair s o → can_move_in trial configuration s ≡ true
      → Holds s o configuration turns → GoesOn (Holds s o) turns (turn_in trial configuration s)
  goes_on s o configuration turns pair moves held =
      let new : Configuration = turn_in trial configuration s in
      let on : Onward game s o held.mark held.mark_too configuration new =
      any_turn (at_turn game s o held.mark held.mark_too configuration pair held.inv) moves in
      let fewer : turns_due game s (mem game new s) on.mark new.shown
      + turns_due game o (mem game new o) on.mark_too new.shown
      < turns_due game s (mem game configuration s) held.mark configuration.shown
      + turns_due game o (mem game configuration o) held.mark_too configuration.shown =
      on.fewer in
      let total : turns_due game s (mem game configuration s) held.mark configuration.shown
      + turns_due game o (mem game configuration o) held.mark_too configuration.shown ≤ turns = held.total in
      record {
        rest = turns_due game s (mem game new s) on.mark new.shown
            + turns_due game o (mem game new o) on.mark_too new.shown;
        fewer = omega (arith, fewer, total);
        holds = record { mark = on.mark; mark_too = on.mark_too; inv = on.inv; total = omega arith };
      }

  invariant : IsInvariant trial bounds (Holds 0 1)
  invariant = record {
    first = λ agent. refl;
    begins = record { mark = 0; mark_too = 0; inv = first_inv; total = first_turns };
    goes_on = λ configuration turns agent within moves held.
        either_goes_on trial Holds turned goes_on configuration turns agent
        (subst (λ (k : ℕ). agent < k) search.agents within) moves held;
    moves = λ configuration turns held.
        let moves : configuration.moves + due game 0 (mem game configuration 0) held.mark
        + due game 1 (mem game configuration 1) held.mark_too
        ≤ most_moves n = held.inv.moves in
        omega (arith, moves);
    commands = λ configuration turns agent held.
        let used : configuration.used agent
        + commands_due game 0 (mem game configuration 0) held.mark configuration.shown
        + commands_due game 1 (mem game configuration 1) held.mark_too configuration.shown ≤ most_commands n =
        held.inv.used agent in
        omega (arith, used);
    fine = λ configuration turns agent within held.
        fails_not _ (steady (mem game configuration agent) (mem game configuration agent).phase);
    settles = λ configuration turns still held.
        let good = at_rest game held.mark held.mark_too configuration held.inv still in
        record {
          outcome = good.0;
          few = good.1;
          over = λ agent node port within at.
              let now : Memory = after_in n (mem game configuration agent) (mem game configuration agent).phase
              (Heard Over) in
              fails_not _ (steady now now.phase);
          awake = λ agent within at. sleeps_not _ (steady (mem game configuration agent)
              (mem game configuration agent).phase);
        };
  }

pub halves_solve : HalvesSolve
halves_solve world n right left wakeups ways search room enough =
    let game : Game = record {
      world = world;
      n = n;
      right = right;
      left = left;
      wakeups = wakeups;
      ways = ways;
      search = search;
      room = room;
      enough = enough;
    } in
    invariants_solve (halves_trial world wakeups n) (halves_bounds n) (Holds game 0 1) (invariant game)
