-- Two agents that explore by ways solve the match, and keep bounds.
use Rattle.std.proofs.Common.{ℕ, zero, suc, ◌+◌, ◌-◌, ◌*◌, ◌<◌, ◌≤◌, ◌≡◌, ◌⊎◌, true, ◌&&◌, ◌==◌, Option, None, refl}
use Rattle.std.proofs.Common.{[], ◌∷◌, sym, ap, ◌∙◌, subst, if◌then◌else◌, inl, inr, arith}
use Rattle.std.proofs.lemmas.Bool.Decides.{eqb_tells}
use Rattle.bhs_model.specs.declared.commands.Command.TheVariants.{Enter, Depart, Accuse}
use Rattle.bhs_model.specs.declared.replies.Reply.TheVariants.{Over}
use Rattle.bhs_model.specs.Runs.{Position, Before}
use Rattle.bhs_schedules.specs.declared.answers.Step.TheVariants.{Says}
use Rattle.bhs_schedules.specs.Strategies.{Heard, History}
use Rattle.bhs_schedules.specs.Schedules.{Trial}
use Rattle.bhs_protocols.specs.Configurations.{Configuration, blank, can_move_in, turn_in}
use Rattle.bhs_protocols.specs.declared.shuttle.Memory.{Memory}
use Rattle.bhs_protocols.specs.declared.shuttle.Phase.{Phase}
use Rattle.bhs_protocols.specs.declared.shuttle.Phase.TheVariants.{Begins, GoesOut, Leaves, ComesBack, Returns, Writes}
use Rattle.bhs_protocols.specs.declared.shuttle.Phase.TheVariants.{Ends}
use Rattle.bhs_protocols.specs.Shuttle.{text_by, is_one_left}
use Rattle.bhs_protocols.specs.Invariants.{CostBounds, GoesOn, IsInvariant, IsSolved}
use Rattle.bhs_protocols.proofs.SearchLemmas.{Pair, both, either_goes_on, opposite, swapped_pair, distance, one_zero}
use Rattle.bhs_protocols.proofs.SearchLemmas.{within_n, zero_one}
use Rattle.bhs_protocols.proofs.Principle.{invariants_solve}
use Rattle.bhs_protocols.proofs.MovingLemmas.{is_steady, fails_not, sleeps_not, steady_if}
use Rattle.bhs_protocols.proofs.ExplorerSteps.{Way, does_by, ended, paces, trip}
use Rattle.bhs_protocols.proofs.ExplorerState.{Game, Inv, IsFit, IsFitIn, IsPlaced, Onward, all, at_last, at_turn}
use Rattle.bhs_protocols.proofs.ExplorerState.{below_last, below_next, both_safe, cost, mem, most_commands, most_moves}
use Rattle.bhs_protocols.proofs.ExplorerState.{placed_as, progress, spent, swapped, trial as trial_of, trips}
use Rattle.bhs_protocols.proofs.ExplorerTurns.{has_steps, some_steps}
use Rattle.bhs_protocols.proofs.ExplorerRest.{IsLost, any_turn}
use Rattle.bhs_protocols.proofs.ExplorerVerdict.{at_rest, not_both}

module _ (game : Game) where
  open game use {n, way_to, search, explorers}

  abbrev trial : Trial
  trial = trial_of game

  -- ---- the bounds

  -- an agent that is to come back has that way to go too
  next_costs : (s : ℕ) (m : Memory) → m.mine + 1 < distance game.search s
      → trips game s m.mine + 2 * all game s m ≤ trips game s (distance game.search s - 1)
  next_costs s m = below_next game s m.mine

  -- Only a lost agent has made all moves of its side.
  spent_less : (s o : ℕ) (configuration : Configuration) (pair : Pair s o) (inv : Inv game s o configuration)
      (phase : Phase)
      → (mem game configuration s).phase ≡ phase →
      (trips game s (mem game configuration s).mine + trip (all game s
      (mem game configuration s)) phase + 1 ≤ most_moves game s)
      ⊎ IsLost game s (mem game configuration s)
  spent_less s o configuration pair inv phase is =
      by_phase phase is (below_last game s (mem game configuration s).mine inv.own.safe)
      (some_steps game s (mem game configuration s) pair.own inv.own.safe) last_long
    where
      last_long : 0 < (way_to s (distance game.search s)).steps
      last_long =
          let safe : (mem game configuration s).mine < distance game.search s = inv.own.safe in
          has_steps game s (distance game.search s) pair.own (within_n game.search s pair.own) (omega (arith, safe))

      by_phase : (phase : Phase) → (mem game configuration s).phase ≡ phase
          → trips game s (mem game configuration s).mine + all game s (mem game configuration s) ≤ most_moves game s
          → 0 < all game s (mem game configuration s) → 0 < (way_to s (distance game.search s)).steps →
          (trips game s (mem game configuration s).mine + trip (all game s (mem game configuration s)) phase + 1
          ≤ most_moves game s)
          ⊎ IsLost game s (mem game configuration s)
      by_phase Begins is most long longer = inl (omega (arith, most, long))
      by_phase (GoesOut step port) is most long longer =
          let placed = placed_as game s configuration (GoesOut step port) is inv.own in
          let before : step < all game s (mem game configuration s) = placed.0 in
          inl (omega (arith, most, before))
      by_phase (Leaves step) is most long longer =
          let placed = placed_as game s configuration (Leaves step) is inv.own in
          let before : step < all game s (mem game configuration s) = placed.0 in
          let safe : (mem game configuration s).mine < distance game.search s = inv.own.safe in
          elim (eqb_tells (step + 1) (all game s (mem game configuration s))) [
            | inl last ↦ elim (eqb_tells ((mem game configuration s).mine + 1) (distance game.search s)) [
              | inl edge ↦ inr (record { step = step; phase = is; last = last.1; edge = edge.1 })
              | inr short ↦
                  let next = next_costs s (mem game configuration s) (omega (arith, safe, short.1)) in
                  inl (omega (arith, before, next))
            ]
            | inr old ↦ inl (omega (arith, before, most, old.1))
          ]
      by_phase (ComesBack step port) is most long longer =
          let placed = placed_as game s configuration (ComesBack step port) is inv.own in
          let next = next_costs s (mem game configuration s) placed.2 in
          inl (omega (arith, next, longer))
      by_phase (Returns step) is most long longer =
          let placed = placed_as game s configuration (Returns step) is inv.own in
          let some : 0 < step = placed.0 in
          let next = next_costs s (mem game configuration s) placed.2 in
          inl (omega (arith, next, some, longer))
      by_phase Writes is most long longer =
          let placed = placed_as game s configuration Writes is inv.own in
          let next = next_costs s (mem game configuration s) placed.0 in
          inl (omega (arith, next, longer))
      by_phase Ends is most long longer = inl (omega (arith, most, long))

  -- The agent's departures and arrivals, counted by its phase and its moves.
  few_paces : (s : ℕ) (m : Memory) (phase : Phase) (position : Position) (accused : Option (ℕ × ℕ))
      → IsPlaced game s m phase position accused →
      (paces (all game s m) phase ≤ 2 * (trip (all game s m) phase + ended phase) + 1) × (ended phase ≤ 1)
  few_paces s m (Returns step) position accused placed =
      let few : step ≤ all game s m = placed.1 in (omega (arith, few), omega arith)
  few_paces s m phase position accused placed = (omega arith, omega arith)

  pub spent_in : (s o : ℕ) (configuration : Configuration) → Pair s o → Inv game s o configuration →
      (spent game s (mem game configuration s) ≤ most_moves game s)
      × (progress game s (mem game configuration s) ≤ most_commands game s + most_moves game s + 1)
      × (configuration.used s ≤ most_commands game s)
  spent_in s o configuration pair inv =
      let m : Memory = mem game configuration s in
      let it = few_paces s m m.phase (configuration.position s) (configuration.accused s) inv.own.placed in
      let few : paces (all game s m) m.phase ≤ 2 * (trip (all game s m) m.phase + ended m.phase) + 1 = it.0 in
      let once : ended m.phase ≤ 1 = it.1 in
      let two : m.mine + m.theirs + 2 ≤ n = both_safe game s o configuration pair inv in
      let used : configuration.used s ≤ cost game s m = inv.own.used in
      let moves : trips game s m.mine + trip (all game s m) m.phase + ended m.phase ≤ most_moves game s =
      elim (spent_less s o configuration pair inv m.phase refl) [
        | inl h ↦ omega (arith, h, once)
        | inr h ↦
            let whole : trips game s m.mine + all game s m ≡ most_moves game s = at_last game s m.mine h.edge in
            omega (arith, ap (trip (all game s m)) h.phase, ap ended h.phase, whole, h.last)
      ] in
      (omega (arith, moves), omega (arith, moves, few, two), omega (arith, used, moves, two))

  -- ---- no agent fails, and none sleeps

  steady_by : (way : Way) (m : Memory) (phase : Phase) → is_steady (does_by n way m phase) ≡ true
  steady_by way m (GoesOut step port) =
      steady_if (step + 1 == way.steps && is_one_left n m) (Says (Accuse port)) (Says (Depart port)) refl refl
  steady_by way m phase = refl

  steady : (agent : ℕ) (past : History) → is_steady (trial.strategies agent past) ≡ true
  steady agent past =
      let m : Memory = game.holds agent past in
      ap is_steady (explorers.does agent past) ∙ steady_by (way_to m.side (m.mine + 1)) m m.phase

  -- each first says Enter
  first : (agent : ℕ) → trial.strategies agent [] ≡ Says Enter
  first agent = explorers.does agent []
      ∙ ap (λ (m : Memory). does_by n (way_to m.side (m.mine + 1)) m m.phase) (explorers.starts agent)

  -- ---- all together

  abbrev pub bounds : CostBounds
  bounds = record {
    moves = most_moves game 0 + most_moves game 1 - 1;
    lost = 1;
    commands = λ agent. if agent == 0 then most_commands game 0
        else (if agent == 1 then most_commands game 1 else 0);
    turns = most_commands game 0 + most_moves game 0 + 1 + (most_commands game 1 + most_moves game 1 + 1);
  }

  -- the invariant, with the turns that are left
  pub record Holds (s o : ℕ) (configuration : Configuration) (turns : ℕ) : Type 0 where
    pub inv : Inv game s o configuration
    pub total : progress game s (mem game configuration s) + progress game o (mem game configuration o) + turns
        ≡ bounds.turns

  turned : (s o : ℕ) (configuration : Configuration) (turns : ℕ) → Pair s o → Holds s o configuration turns
      → Holds o s configuration turns
  turned s o configuration turns pair held =
      let total : progress game s (mem game configuration s) + progress game o (mem game configuration o) + turns
      ≡ bounds.turns =
      held.total in
      record { inv = swapped game s o configuration pair held.inv; total = omega (arith, total) }

  -- before anything has happened
  abbrev start : (s : ℕ) → Memory
  start s = record { side = s; mine = 0; theirs = 0; phase = Begins }

  starts : (s : ℕ) → mem game blank s ≡ start s
  starts = explorers.starts

  first_fit : (s : ℕ) → 0 < distance game.search s → IsFitIn game blank s
  first_fit s some = subst (λ (m : Memory). IsFit game s m Before None 0 blank.reached) (sym (starts s)) (record {
    side = refl;
    placed = (refl, refl);
    safe = some;
    used = omega arith;
    reached = λ k some far. absurd (omega (arith, some, far));
  })

  first_spent : (s : ℕ) → spent game s (mem game blank s) ≡ 0
  first_spent s = ap (spent game s) (starts s) ∙ ap (λ (k : ℕ). k + 0) (game.no_trips s)

  first_progress : (s : ℕ) → progress game s (mem game blank s) ≡ 0
  first_progress s =
      ap (progress game s) (starts s) ∙ ap (λ (k : ℕ). 2 * k + 0 + 0 + 0) (game.no_trips s)

  pub first_inv : Inv game 0 1 blank
  first_inv = record {
    own = first_fit 0 search.not_home;
    other = first_fit 1 search.nor_around;
    known = omega (arith, ap (λ (m : Memory). m.theirs) (starts 0));
    known_too = omega (arith, ap (λ (m : Memory). m.theirs) (starts 1));
    fresh = inl (ap (λ (m : Memory). m.theirs) (starts 0) ∙ sym (ap (λ (m : Memory). m.mine) (starts 1)));
    board = λ i. text_by 0 (sym (starts 0) i).mine (sym (starts 1) i).mine;
    moves = omega (arith, first_spent 0, first_spent 1);
    none = λ k beyond. refl;
  }

  abbrev pub most_progress : (s : ℕ) → ℕ
  most_progress s = most_commands game s + most_moves game s + 1

  goes_on : (s o : ℕ) (configuration : Configuration) (turns : ℕ) → Pair s o → can_move_in trial configuration s ≡ true
      → Holds s o configuration turns → GoesOn (Holds s o) turns (turn_in trial configuration s)
  goes_on s o configuration turns pair moves held =
      let on : Onward game s o configuration (turn_in trial configuration s) =
      any_turn (at_turn game s o configuration pair held.inv) moves in
      let new : Configuration = turn_in trial configuration s in
      let pair_too : Pair o s = swapped_pair s o pair in
      let one : progress game s (mem game new s) ≤ most_progress s = (spent_in s o new pair on.inv).1 in
      let two : progress game o (mem game new o) ≤ most_progress o =
      (spent_in o s new pair_too (swapped game s o new pair on.inv)).1 in
      let most : most_progress s + most_progress o ≡ bounds.turns =
      subst (λ (k : ℕ). most_progress s + most_progress k ≡ bounds.turns) (sym pair.is)
      (both (λ (k : ℕ). most_progress k + most_progress (opposite k) ≡ bounds.turns) refl (omega arith) s pair.own) in
      let more : progress game s (mem game configuration s) + 1 ≤ progress game s (mem game new s) = on.more in
      let same : progress game o (mem game new o) ≡ progress game o (mem game configuration o) =
      ap (progress game o) on.same in
      let total : progress game s (mem game configuration s) + progress game o (mem game configuration o) + turns
      ≡ bounds.turns =
      held.total in
      record {
        rest = bounds.turns - (progress game s (mem game new s) + progress game o (mem game new o));
        fewer = omega (arith, total, more, same, one, two, most);
        holds = record { inv = on.inv; total = omega (arith, one, two, most) };
      }

  used_within : (configuration : Configuration) (agent : ℕ) → Inv game 0 1 configuration
      → configuration.used agent ≤ bounds.commands agent
  used_within configuration zero inv = (spent_in 0 1 configuration zero_one inv).2
  used_within configuration (suc zero) inv =
      (spent_in 1 0 configuration one_zero (swapped game 0 1 configuration zero_one inv)).2
  used_within configuration (suc (suc k)) inv =
      let none : configuration.used (suc (suc k)) ≡ 0 = inv.none (suc (suc k)) (omega arith) in omega (arith, none)

  moves_within : (configuration : Configuration) → Inv game 0 1 configuration → configuration.moves ≤ bounds.moves
  moves_within configuration inv =
      let inv_too : Inv game 1 0 configuration = swapped game 0 1 configuration zero_one inv in
      let one = spent_in 0 1 configuration zero_one inv in
      let two = spent_in 1 0 configuration one_zero inv_too in
      let is : configuration.moves
      ≡ spent game 0 (mem game configuration 0) + spent game 1 (mem game configuration 1) = inv.moves in
      elim (spent_less 0 1 configuration zero_one inv (mem game configuration 0).phase refl) [
        | inl h ↦ omega (arith, h, two.0, is)
        | inr h ↦ elim (spent_less 1 0 configuration one_zero inv_too (mem game configuration 1).phase refl) [
          | inl it ↦ omega (arith, it, one.0, is)
          | inr it ↦ absurd (not_both game 0 1 configuration zero_one inv h it)
        ]
      ]

  invariant : IsInvariant trial bounds (Holds 0 1)
  invariant = record {
    first = first;
    begins = record { inv = first_inv; total = omega (arith, first_progress 0, first_progress 1) };
    goes_on = λ configuration turns agent within moves held.
        either_goes_on trial Holds turned goes_on configuration turns agent
        (subst (λ (k : ℕ). agent < k) search.agents within) moves held;
    moves = λ configuration turns held. moves_within configuration held.inv;
    commands = λ configuration turns agent held. used_within configuration agent held.inv;
    fine = λ configuration turns agent within held. fails_not _ (steady agent (configuration.history agent));
    settles = λ configuration turns still held.
        let good = at_rest game configuration held.inv still in
        record {
          outcome = good.0;
          few = good.1;
          over = λ agent node port within at. fails_not _ (steady agent (Heard Over ∷ configuration.history agent));
          awake = λ agent within at. sleeps_not _ (steady agent (configuration.history agent));
        };
  }

pub explorers_solve : (game : Game) → IsSolved (trial_of game) (bounds game)
explorers_solve game = invariants_solve (trial_of game) (bounds game) (Holds game 0 1) (invariant game)
