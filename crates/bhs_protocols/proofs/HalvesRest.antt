-- The search by halves: any turn of an agent, and where it stands if it cannot move.
use Rattle.std.proofs.Common.{ℕ, zero, suc, ◌+◌, ◌-◌, ◌<◌, ◌≤◌, ◌≡◌, ◌⊎◌, true, false, not, ◌==◌, refl}
use Rattle.std.proofs.Common.{sym, ap, ◌∙◌, subst, inl, inr, arith}
use Rattle.std.proofs.lemmas.Bool.{true≢false, cond-true, cond-false}
use Rattle.std.proofs.lemmas.Bool.Decides.{eqb_tells}
use Rattle.bhs_model.specs.declared.commands.Command.{Command}
use Rattle.bhs_model.specs.declared.commands.Command.TheVariants.{Enter, Write, Depart, Accuse}
use Rattle.bhs_model.specs.Runs.{Position, Before, At, Bound}
use Rattle.bhs_model.specs.Examples.{none_held}
use Rattle.bhs_model.proofs.StepLemmas.{by_cases}
use Rattle.bhs_schedules.specs.declared.answers.Step.TheVariants.{Says}
use Rattle.bhs_model.specs.declared.events.Event.TheVariants.{Tell}
use Rattle.bhs_schedules.specs.Schedules.{Trial, Makes, action_at}
use Rattle.bhs_protocols.specs.Configurations.{can_move_in, turn_in}
use Rattle.bhs_protocols.specs.declared.halves.Memory.{Memory}
use Rattle.bhs_protocols.specs.declared.halves.Phase.{Phase}
use Rattle.bhs_protocols.specs.declared.halves.Phase.TheVariants.{Begins, GoesOut, Leaves, Tries, Turns, Returns}
use Rattle.bhs_protocols.specs.declared.halves.Phase.TheVariants.{Writes, GoesHome, NearsHome, Follows, Passes, Tells}
use Rattle.bhs_protocols.specs.declared.halves.Phase.TheVariants.{ComesHome, NearsBack, Ends}
use Rattle.bhs_protocols.specs.Shuttle.{text_by}
use Rattle.bhs_protocols.specs.Halves.{left_by, is_done, does_in}
use Rattle.bhs_protocols.proofs.MovingLemmas as moving
use Rattle.bhs_protocols.proofs.SearchLemmas.{agents_two, opposite, sides}
use Rattle.bhs_protocols.proofs.HalvesState.{Game, Onward, Turn, distance, doomed_is, mem, safe_before}
use Rattle.bhs_protocols.proofs.HalvesState.{trial as trial_of, within_n}
use Rattle.bhs_protocols.proofs.HalvesTurns.{begin_turn, come_home_turn, far_safe, follow_turn, home_turn, out_turn}
use Rattle.bhs_protocols.proofs.HalvesTurns.{own_fit, placed_as, small_side, turns_turn}
use Rattle.bhs_protocols.proofs.HalvesArrivals.{back_turn, bound_moves, far_below, leave_turn, near_turn, pass_turn}
use Rattle.bhs_protocols.proofs.HalvesArrivals.{return_turn, try_turn}
use Rattle.bhs_protocols.proofs.HalvesWrites.{write_turn}
use Rattle.bhs_protocols.proofs.HalvesDivisions.{tell_turn}

module _ {game : Game} (on : Turn game) where
  open game use {world, n, wakeups, ways, search}
  open on use {s, o, v, w, configuration, pair, inv}

  abbrev trial : Trial
  trial = trial_of game

  abbrev M : Memory
  M = mem game configuration s

  abbrev O : Memory
  O = mem game configuration o

  -- ---- any turn

  end_still : M.phase ≡ Ends → can_move_in trial configuration s ≡ false
  end_still is = moving.end_stays trial configuration s (agents_two (sides search) s pair.own) (placed_as on Ends is).0

  near_any : (steps : ℕ) → M.phase ≡ NearsHome steps → Onward game s o v w configuration (turn_in trial configuration s)
  near_any zero is = let some : 0 < 0 = (placed_as on (NearsHome zero) is).1 in absurd (omega (arith, some))
  near_any (suc k) is = near_turn on (suc k) k refl is

  back_any : (steps : ℕ) → M.phase ≡ NearsBack steps → Onward game s o v w configuration (turn_in trial configuration s)
  back_any zero is = let some : 0 < 0 = (placed_as on (NearsBack zero) is).1 in absurd (omega (arith, some))
  back_any (suc k) is = back_turn on (suc k) k refl is

  by_phase : (phase : Phase) → M.phase ≡ phase → can_move_in trial configuration s ≡ true
      → Onward game s o v w configuration (turn_in trial configuration s)
  by_phase Begins is moves = begin_turn on is
  by_phase (GoesOut steps port) is moves = out_turn on steps port is
  by_phase (Leaves steps) is moves = leave_turn on steps is
  by_phase Tries is moves = try_turn on is moves
  by_phase (Turns port) is moves = turns_turn on port is
  by_phase Returns is moves = return_turn on is
  by_phase (Writes port) is moves = write_turn on port is
  by_phase (GoesHome steps port) is moves = home_turn on steps port is
  by_phase (NearsHome steps) is moves = near_any steps is
  by_phase (Follows steps port) is moves = follow_turn on steps port is
  by_phase (Passes steps) is moves = pass_turn on steps is
  by_phase (Tells steps port) is moves = tell_turn on steps port is
  by_phase (ComesHome steps port) is moves = come_home_turn on steps port is
  by_phase (NearsBack steps) is moves = back_any steps is
  by_phase Ends is moves = absurd (true≢false (sym moves ∙ end_still is))

  pub any_turn : can_move_in trial configuration s ≡ true
      → Onward game s o v w configuration (turn_in trial configuration s)
  any_turn moves = by_phase M.phase refl moves

  -- ---- at rest

  says_moves : (place : Position) (command : Command) → configuration.position s ≡ place
      → action_at none_held wakeups place (configuration.woken s) (Says command) s ≡ Makes (Tell s command)
      → trial.strategies s (configuration.history s) ≡ Says command → can_move_in trial configuration s ≡ true
  says_moves = moving.says_moves trial configuration s (agents_two (sides search) s pair.own)

  out_moves : (side steps : ℕ) → side < 2 → steps + 1 < distance game side
      → configuration.position s ≡ Bound (ways.node side steps) (ways.ahead side steps)
      → can_move_in trial configuration s ≡ true
  out_moves side steps below before at =
      let within : distance game side < n = within_n game side below in
      bound_moves on (ways.node side steps) (ways.ahead side steps) at
      ∙ ap not (doomed_is game (ways.node side steps) (ways.ahead side steps) (ways.node side (steps + 1))
      (1 - ways.ahead side (steps + 1)) (search.ring.out side steps below (omega (arith, before, within)))
      ∙ safe_before game side (steps + 1) below before)

  back_moves : (side steps : ℕ) → side < 2 → 0 < steps → steps < n → steps ≤ distance game side
      → configuration.position s ≡ Bound (ways.node side steps) (1 - ways.ahead side steps)
      → can_move_in trial configuration s ≡ true
  back_moves side zero below some within before at = absurd (omega (arith, some))
  back_moves side (suc k) below some within before at =
      let same : suc k ≡ k + 1 = omega arith in
      let there : configuration.position s ≡ Bound (ways.node side (k + 1)) (1 - ways.ahead side (k + 1)) =
      at ∙ ap (λ (j : ℕ). Bound (ways.node side j) (1 - ways.ahead side j)) same in
      bound_moves on (ways.node side (k + 1)) (1 - ways.ahead side (k + 1)) there
      ∙ ap not (doomed_is game (ways.node side (k + 1)) (1 - ways.ahead side (k + 1)) (ways.node side k)
      (ways.ahead side k) (search.ring.back side k below (omega (arith, within)))
      ∙ safe_before game side k below (omega (arith, before)))

  -- an agent that cannot move has ended or is lost
  pub record IsLost : Type 0 where
    pub phase : M.phase ≡ Tries
    pub edge : M.mine + 1 ≡ distance game s

  pub resting : (phase : Phase) → M.phase ≡ phase → can_move_in trial configuration s ≡ false
      → (M.phase ≡ Ends) ⊎ IsLost
  resting Begins is still =
      let placed = placed_as on Begins is in
      absurd (true≢false (sym (says_moves Before Enter placed.0 refl (ap (does_in n M) is)) ∙ still))
  resting (GoesOut steps port) is still =
      let placed = placed_as on (GoesOut steps port) is in
      let node : ℕ = ways.node s steps in
      absurd (by_cases (is_done M steps) ⊥
      (λ yes. by_cases (left_by n M.mine M.theirs == 1) ⊥
      (λ only. true≢false (sym (says_moves (At node placed.3.came) (Accuse port) placed.3.at refl
      (ap (does_in n M) is ∙ cond-true _ _ _ yes ∙ cond-true _ _ _ only)) ∙ still))
      (λ more. true≢false (sym (says_moves (At node placed.3.came) (Depart (1 - port)) placed.3.at refl
      (ap (does_in n M) is ∙ cond-true _ _ _ yes ∙ cond-false _ _ _ more)) ∙ still)))
      (λ none. true≢false (sym (says_moves (At node placed.3.came) (Depart port) placed.3.at refl
      (ap (does_in n M) is ∙ cond-false _ _ _ none)) ∙ still)))
  resting (Leaves steps) is still =
      let placed = placed_as on (Leaves steps) is in
      let few : steps < M.mine = placed.0 in
      let safe : M.mine < distance game s = (own_fit on).safe in
      absurd (true≢false (sym (out_moves s steps pair.own (omega (arith, few, safe)) placed.2) ∙ still))
  resting Tries is still =
      let placed = placed_as on Tries is in
      let safe : M.mine < distance game s = (own_fit on).safe in
      elim (eqb_tells (M.mine + 1) (distance game s)) [
        | inl h ↦ inr (record { phase = is; edge = h.1 })
        | inr h ↦ absurd (true≢false (sym (out_moves s M.mine pair.own (omega (arith, safe, h.1)) placed.1) ∙ still))
      ]
  resting (Turns port) is still =
      let placed = placed_as on (Turns port) is in
      absurd (true≢false (sym (says_moves (At (ways.node s (M.mine + 1)) placed.3.came) (Depart port) placed.3.at
      refl (ap (does_in n M) is)) ∙ still))
  resting Returns is still =
      let placed = placed_as on Returns is in
      let next : M.mine + 1 < distance game s = placed.1 in
      absurd (true≢false (sym (back_moves s (M.mine + 1) pair.own (omega arith)
      (small_side on s (M.mine + 1) pair.own next) (omega (arith, next)) placed.2) ∙ still))
  resting (Writes port) is still =
      let placed = placed_as on (Writes port) is in
      absurd (true≢false (sym (says_moves (At (ways.node s M.mine) placed.3.came)
      (Write (text_by M.side M.own M.other) (text_by M.side 1 M.other)) placed.3.at refl (ap (does_in n M) is))
      ∙ still))
  resting (GoesHome steps port) is still =
      let placed = placed_as on (GoesHome steps port) is in
      absurd (true≢false (sym (says_moves (At (ways.node s steps) placed.4.came) (Depart port) placed.4.at refl
      (ap (does_in n M) is)) ∙ still))
  resting (NearsHome steps) is still =
      let placed = placed_as on (NearsHome steps) is in
      let few : steps ≤ M.mine = placed.2 in
      let safe : M.mine < distance game s = (own_fit on).safe in
      absurd (true≢false (sym (back_moves s steps pair.own placed.1
      (small_side on s steps pair.own (omega (arith, few, safe))) (omega (arith, few, safe)) placed.3) ∙ still))
  resting (Follows steps port) is still =
      let placed = placed_as on (Follows steps port) is in
      absurd (true≢false (sym (says_moves (At (ways.node (opposite s) steps) placed.3.came) (Depart port)
      placed.3.at refl (ap (does_in n M) is)) ∙ still))
  resting (Passes steps) is still =
      let placed = placed_as on (Passes steps) is in
      let few : steps < O.mine = placed.1 in
      let safe_too : O.mine < distance game o = far_safe on in
      let before : steps + 1 < distance game o = omega (arith, few, safe_too) in
      absurd (true≢false (sym (out_moves (opposite s) steps (far_below on)
      (subst (λ (k : ℕ). steps + 1 < distance game k) pair.is before) placed.2) ∙ still))
  resting (Tells steps port) is still =
      let placed = placed_as on (Tells steps port) is in
      let node : ℕ = ways.node (opposite s) steps in
      absurd (by_cases (left_by n M.mine steps == 1) ⊥
      (λ only. true≢false (sym (says_moves (At node placed.3.came) (Accuse port) placed.3.at refl
      (ap (does_in n M) is ∙ cond-true _ _ _ only)) ∙ still))
      (λ more. true≢false (sym (says_moves (At node placed.3.came)
      (Write (text_by M.side M.own M.other) (text_by M.side M.own (M.mine + 2))) placed.3.at refl
      (ap (does_in n M) is ∙ cond-false _ _ _ more)) ∙ still)))
  resting (ComesHome steps port) is still =
      let placed = placed_as on (ComesHome steps port) is in
      absurd (true≢false (sym (says_moves (At (ways.node (opposite s) steps) placed.4.came) (Depart port)
      placed.4.at refl (ap (does_in n M) is)) ∙ still))
  resting (NearsBack steps) is still =
      let placed = placed_as on (NearsBack steps) is in
      let few : steps ≤ O.mine = placed.2 in
      let safe_too : O.mine < distance game o = far_safe on in
      let before : steps ≤ distance game o = omega (arith, few, safe_too) in
      absurd (true≢false (sym (back_moves (opposite s) steps (far_below on) placed.1
      (small_side on o steps pair.other (omega (arith, few, safe_too)))
      (subst (λ (k : ℕ). steps ≤ distance game k) pair.is before) placed.3) ∙ still))
  resting Ends is still = inl is
