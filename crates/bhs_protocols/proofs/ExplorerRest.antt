-- Two agents that explore by ways: any turn of an agent, and where it stands if it cannot move.
use Rattle.std.proofs.Common.{ℕ, zero, suc, ◌+◌, ◌-◌, ◌<◌, ◌≡◌, ◌⊎◌, true, false, not, ◌&&◌, ◌==◌, refl, sym}
use Rattle.std.proofs.Common.{ap, ◌∙◌, inl, inr, arith}
use Rattle.std.proofs.lemmas.Bool.{true≢false, cond-true, cond-false}
use Rattle.std.proofs.lemmas.Bool.Decides.{eqb_tells}
use Rattle.bhs_model.specs.declared.commands.Command.{Command}
use Rattle.bhs_model.specs.declared.commands.Command.TheVariants.{Enter, Write, Depart, Accuse}
use Rattle.bhs_model.specs.declared.events.Event.TheVariants.{Tell}
use Rattle.bhs_model.specs.Runs.{Position, Before, At}
use Rattle.bhs_model.specs.Examples.{none_held}
use Rattle.bhs_model.proofs.StepLemmas.{by_cases}
use Rattle.bhs_schedules.specs.declared.answers.Step.TheVariants.{Says}
use Rattle.bhs_schedules.specs.Schedules.{Trial, Makes, action_at}
use Rattle.bhs_protocols.specs.Configurations.{can_move_in, turn_in}
use Rattle.bhs_protocols.specs.declared.shuttle.Memory.{Memory}
use Rattle.bhs_protocols.specs.declared.shuttle.Phase.{Phase}
use Rattle.bhs_protocols.specs.declared.shuttle.Phase.TheVariants.{Begins, GoesOut, Leaves, ComesBack, Returns, Writes}
use Rattle.bhs_protocols.specs.declared.shuttle.Phase.TheVariants.{Ends}
use Rattle.bhs_protocols.specs.Shuttle.{text_by, is_one_left}
use Rattle.bhs_protocols.proofs.MovingLemmas as moving
use Rattle.bhs_protocols.proofs.ExplorerSteps.{Way, does_by}
use Rattle.bhs_protocols.proofs.SearchLemmas.{agents_two, distance}
use Rattle.bhs_protocols.proofs.ExplorerState.{Game, Onward, Turn, all as all_of, along as along_of, mem, placed_as}
use Rattle.bhs_protocols.proofs.ExplorerState.{trial as trial_of, way as way_from}
use Rattle.bhs_protocols.proofs.ExplorerTurns.{back_turn, begin_turn, out_turn, says_by, write_turn}
use Rattle.bhs_protocols.proofs.ExplorerArrivals.{ahead_safe, bound_moves, comes_to, home_turn, last_safe, leave_turn}
use Rattle.bhs_protocols.proofs.ExplorerArrivals.{return_turn}

-- an agent that is lost: it is on its way to the black hole
pub record IsLost (game : Game) (s : ℕ) (m : Memory) : Type 0 where
  pub step : ℕ
  pub phase : m.phase ≡ Leaves step
  pub last : step + 1 ≡ all_of game s m
  pub edge : m.mine + 1 ≡ distance game.search s

module _ {game : Game} (on : Turn game) where
  open game use {world, n, wakeups}
  open on use {s, o, configuration, pair, inv}

  abbrev trial : Trial
  trial = trial_of game

  abbrev M : Memory
  M = mem game configuration s

  abbrev all : ℕ
  all = all_of game s M

  abbrev along : (step : ℕ) → ℕ
  along = along_of game s M

  abbrev way : Way
  way = way_from game s M

  -- ---- any turn

  end_still : M.phase ≡ Ends → can_move_in trial configuration s ≡ false
  end_still is =
      moving.end_stays trial configuration s (agents_two game.search s pair.own)
      (placed_as game s configuration Ends is inv.own).0

  returns_turn : (step : ℕ) → M.phase ≡ Returns step → Onward game s o configuration (turn_in trial configuration s)
  returns_turn zero is =
      let placed = placed_as game s configuration (Returns zero) is inv.own in
      let some : 0 < 0 = placed.0 in absurd (omega (arith, some))
  returns_turn (suc zero) is = home_turn on (suc zero) refl is
  returns_turn (suc (suc k)) is = return_turn on k (suc (suc k)) (omega arith) is

  by_phase : (phase : Phase) → M.phase ≡ phase → can_move_in trial configuration s ≡ true
      → Onward game s o configuration (turn_in trial configuration s)
  by_phase Begins is moves = begin_turn on is
  by_phase (GoesOut step port) is moves = out_turn on step port is
  by_phase (Leaves step) is moves = leave_turn on step is moves
  by_phase (ComesBack step port) is moves = back_turn on step port is
  by_phase (Returns step) is moves = returns_turn step is
  by_phase Writes is moves = write_turn on is
  by_phase Ends is moves = absurd (true≢false (sym moves ∙ end_still is))

  pub any_turn : can_move_in trial configuration s ≡ true
      → Onward game s o configuration (turn_in trial configuration s)
  any_turn moves = by_phase M.phase refl moves

  -- ---- at rest

  says_moves : (place : Position) (command : Command) → configuration.position s ≡ place
      → action_at none_held wakeups place (configuration.woken s) (Says command) s ≡ Makes (Tell s command)
      → trial.strategies s (configuration.history s) ≡ Says command → can_move_in trial configuration s ≡ true
  says_moves = moving.says_moves trial configuration s (agents_two game.search s pair.own)

  -- an agent that cannot move has ended or is lost
  pub resting : (phase : Phase) → M.phase ≡ phase → can_move_in trial configuration s ≡ false
      → (M.phase ≡ Ends) ⊎ IsLost game s M
  resting Begins is still =
      let placed = placed_as game s configuration Begins is inv.own in
      absurd (true≢false (sym (says_moves Before Enter placed.0 refl (says_by on ∙ ap (does_by n way M) is)) ∙ still))
  resting (GoesOut step port) is still =
      let placed = placed_as game s configuration (GoesOut step port) is inv.own in
      let place : Position = At (along step) placed.2.came in
      absurd (by_cases (step + 1 == all && is_one_left n M) ⊥
      (λ yes. true≢false (sym (says_moves place (Accuse port) placed.2.at refl
      (says_by on ∙ ap (does_by n way M) is ∙ cond-true _ _ _ yes)) ∙ still))
      (λ none. true≢false (sym (says_moves place (Depart port) placed.2.at refl
      (says_by on ∙ ap (does_by n way M) is ∙ cond-false _ _ _ none)) ∙ still)))
  resting (Leaves step) is still =
      let placed = placed_as game s configuration (Leaves step) is inv.own in
      let before : step < all = placed.0 in
      let safe : M.mine < distance game.search s = inv.own.safe in
      elim (eqb_tells (step + 1) all) [
        | inl new ↦ elim (eqb_tells (M.mine + 1) (distance game.search s)) [
          | inl edge ↦ inr (record { step = step; phase = is; last = new.1; edge = edge.1 })
          | inr short ↦ absurd (true≢false (sym (bound_moves on (along step) (way.ahead step) placed.2
              ∙ ap not (last_safe on step new.1 (omega (arith, safe, short.1)))) ∙ still))
        ]
        | inr old ↦ absurd (true≢false (sym (bound_moves on (along step) (way.ahead step) placed.2
            ∙ ap not (ahead_safe on step (omega (arith, before, old.1)))) ∙ still))
      ]
  resting (ComesBack step port) is still =
      let placed = placed_as game s configuration (ComesBack step port) is inv.own in
      absurd (true≢false (sym (says_moves (At (along step) placed.4.came) (Depart port) placed.4.at refl
      (says_by on ∙ ap (does_by n way M) is)) ∙ still))
  resting (Returns step) is still =
      let placed = placed_as game s configuration (Returns step) is inv.own in
      let some : 0 < step = placed.0 in
      absurd (true≢false (sym (comes_to on (step - 1) step (omega (arith, some)) is).moves ∙ still))
  resting Writes is still =
      let placed = placed_as game s configuration Writes is inv.own in
      absurd (true≢false (sym (says_moves (At world.home placed.1.came)
      (Write (text_by M.side M.mine M.theirs) (text_by M.side (M.mine + 1) M.theirs)) placed.1.at refl
      (says_by on ∙ ap (does_by n way M) is)) ∙ still))
  resting Ends is still = inl is
