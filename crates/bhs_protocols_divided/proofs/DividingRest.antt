-- Every turn preserves the invariant, and an agent that cannot move has ended or is lost.
use Rattle.std.proofs.Common.{ℕ, zero, suc, ◌+◌, ◌-◌, ◌<◌, ◌≡◌, ◌⊎◌, true, false, not, ◌==◌, refl, sym, ap}
use Rattle.std.proofs.Common.{◌∙◌, subst, inl, inr}
use Rattle.std.specs.Prelude.{◌≢◌}
use Rattle.std.proofs.lemmas.Bool.{true≢false, cond-true, cond-false}
use Rattle.std.proofs.lemmas.Bool.Decides.{eqb_tells}
use Rattle.bhs_model.proofs.StepLemmas.{by_cases}
use Rattle.bhs_model.specs.declared.commands.Command.{Command}
use Rattle.bhs_model.specs.declared.commands.Command.TheVariants.{Enter, Write, Depart, Accuse}
use Rattle.bhs_model.specs.declared.events.Event.TheVariants.{Tell}
use Rattle.bhs_model.specs.Examples.{none_held}
use Rattle.bhs_model.specs.Runs.{Position, Before, At, Bound}
use Rattle.bhs_schedules.specs.declared.answers.Step.TheVariants.{Says}
use Rattle.bhs_schedules.specs.Schedules.{Trial, Makes, action_at}
use Rattle.bhs_protocols.specs.Configurations.{can_move_in, turn_in}
use Rattle.bhs_protocols.specs.Invariants.{GoesOn}
use Rattle.bhs_protocols_divided.specs.Plans.{Itinerary, Divisions, Explores, count_at, explored, left_at, news}
use Rattle.bhs_protocols_divided.specs.Dividing.{Memory, Phase, Begins, GoesOut, Leaves, Tries, Turns, Returns, Writes}
use Rattle.bhs_protocols_divided.specs.Dividing.{Follows}
use Rattle.bhs_protocols_divided.specs.Dividing.{Passes, Tells, Ends, own_of, others_of, does_in, marked, told}
use Rattle.bhs_protocols_divided.proofs.NewsLemmas.{same_by_news}
use Rattle.bhs_protocols_divided.proofs.StageLemmas.{stacked, IsAsAt}
use Rattle.bhs_protocols_divided.proofs.DividingDues.{done}
use Rattle.bhs_protocols_divided.proofs.DividingState.{Game, Inv, trial as trial_of}
use Rattle.bhs_protocols_divided.proofs.DividingKeeps.{Turn, M, placed_as}
use Rattle.bhs_protocols_divided.proofs.DividingFacts.{first_is, goes_safely, new_at, plan_is}
use Rattle.bhs_protocols_divided.proofs.DividingTurns.{Out, bound_moves, doing, out_turn, own_is, safe_link, try_turn}
use Rattle.bhs_protocols_divided.proofs.DividingTurns.{turns_turn}
use Rattle.bhs_protocols_divided.proofs.DividingArrivals.{begin_turn, leave_turn, return_turn}
use Rattle.bhs_protocols_divided.proofs.DividingFollows.{Goes, follow_turn, pass_turn, passes_safely, theirs_is}
use Rattle.bhs_protocols_divided.proofs.DividingWrites.{write_turn}
use Rattle.bhs_protocols_divided.proofs.DividingTells.{tell_turn}
use Rattle.bhs_protocols.proofs.MovingLemmas as moving

module _ {game : Game} (on : Turn game) where
  open game use {world, n, hole, wakeups, plan}
  open on use {s, o, configuration, left, below, apart, inv}

  abbrev trial : Trial
  trial = trial_of game

  abbrev m : Memory
  m = M on

  abbrev own : Itinerary
  own = own_of plan m

  abbrev theirs : Itinerary
  theirs = others_of plan m

  abbrev lost : ℕ
  lost = inv.state.spot.side

  end_still : m.phase ≡ Ends → can_move_in trial configuration s ≡ false
  end_still is = moving.end_stays trial configuration s below (placed_as on Ends is).2

  by_phase : (phase : Phase) → m.phase ≡ phase → can_move_in trial configuration s ≡ true
      → GoesOn (Inv game s o) left (turn_in trial configuration s)
  by_phase Begins is moves = begin_turn on is
  by_phase GoesOut is moves = out_turn on is
  by_phase Leaves is moves = leave_turn on is
  by_phase Tries is moves = try_turn on is moves
  by_phase Turns is moves = turns_turn on is
  by_phase Returns is moves = return_turn on is
  by_phase Writes is moves = write_turn on is
  by_phase Follows is moves = follow_turn on is
  by_phase Passes is moves = pass_turn on is
  by_phase Tells is moves = tell_turn on is
  by_phase Ends is moves = absurd (true≢false (sym moves ∙ end_still is))

  pub any_turn : can_move_in trial configuration s ≡ true → GoesOn (Inv game s o) left (turn_in trial configuration s)
  any_turn moves = by_phase m.phase refl moves

  -- ---- at rest

  says_moves : (place : Position) (command : Command) → configuration.position s ≡ place
      → action_at none_held wakeups place (configuration.woken s) (Says command) s ≡ Makes (Tell s command)
      → trial.strategies s (configuration.history s) ≡ Says command → can_move_in trial configuration s ≡ true
  says_moves = moving.says_moves trial configuration s below

  link_moves : (node port target label : ℕ) → configuration.position s ≡ Bound node port
      → world.net.far node port ≡ (target, label) → target ≢ hole → can_move_in trial configuration s ≡ true
  link_moves node port target label at far safe =
      bound_moves on node port at ∙ ap not (safe_link on node port target label far safe)

  -- an agent that cannot move has ended or is lost
  pub record IsLost : Type 0 where
    pub phase : m.phase ≡ Tries
    pub edge : own.target m.step ≡ hole

  pub resting : (phase : Phase) → m.phase ≡ phase → can_move_in trial configuration s ≡ false
      → (m.phase ≡ Ends) ⊎ IsLost
  resting Begins is still =
      let placed = placed_as on Begins is in
      absurd (true≢false (sym (says_moves Before Enter placed.1 refl (ap (does_in plan m) is)) ∙ still))
  resting GoesOut is still =
      let placed = placed_as on GoesOut is in
      absurd (true≢false (sym (says_moves (At (own.node m.step) placed.1.came) (Depart (own.ahead m.step)) placed.1.at
      refl
      (ap (does_in plan m) is)) ∙ still))
  resting Leaves is still =
      let placed = placed_as on Leaves is in
      let it : Out on = placed.0 in
      let doing_is : done plan m ≡ explored plan m.divisions m.side + news own m.step = doing on Leaves is in
      let hidden : lost ≡ m.side
      → explored plan m.divisions m.side + news own m.step < count_at plan inv.now lost inv.state.spot.step =
      λ h. subst (λ (k : ℕ). k < count_at plan inv.now lost inv.state.spot.step) doing_is (inv.state.spot.own h) in
      let safe : own.target m.step ≢ hole = goes_safely game inv.now m inv.state.stage inv.state.below lost
      inv.state.spot.step inv.state.spot.is hidden inv.p.count inv.p.at it.behind it.far it.within placed.1 in
      absurd (true≢false (sym (link_moves (own.node m.step) (own.ahead m.step) (own.target m.step) (own.behind m.step)
      placed.2 ((own_is on it).out m.step it.within) safe) ∙ still))
  resting Tries is still =
      let placed = placed_as on Tries is in
      let it : Out on = placed.0 in
      elim (eqb_tells (own.target m.step) hole) [
        | inl h ↦ inr (record { phase = is; edge = h.1 })
        | inr h ↦ absurd (true≢false (sym (link_moves (own.node m.step) (own.ahead m.step) (own.target m.step)
            (own.behind m.step) placed.2 ((own_is on it).out m.step it.within) h.1) ∙ still))
      ]
  resting Turns is still =
      let placed = placed_as on Turns is in
      absurd (true≢false (sym (says_moves (At (own.target m.step) placed.2.came) (Depart (own.behind m.step))
      placed.2.at
      refl (ap (does_in plan m) is)) ∙ still))
  resting Returns is still =
      let placed = placed_as on Returns is in
      let it : Out on = placed.0 in
      absurd (true≢false (sym (link_moves (own.target m.step) (own.behind m.step) (own.node m.step) (own.ahead m.step)
      placed.2 ((own_is on it).back m.step it.within) it.clear) ∙ still))
  resting Writes is still =
      let placed = placed_as on Writes is in
      absurd (true≢false (sym (says_moves (At (own.node m.step) placed.2.came) (Write m.seen (marked plan m))
      placed.2.at
      refl (ap (does_in plan m) is)) ∙ still))
  resting Follows is still =
      let placed = placed_as on Follows is in
      absurd (true≢false (sym (says_moves (At (theirs.node m.step) placed.2.came) (Depart (theirs.ahead m.step))
      placed.2.at
      refl (ap (does_in plan m) is)) ∙ still))
  resting Passes is still =
      let placed = placed_as on Passes is in
      let it : Goes on = placed.0 in
      absurd (true≢false (sym (link_moves (theirs.node m.step) (theirs.ahead m.step) (theirs.target m.step)
      (theirs.behind m.step) placed.2 ((theirs_is on it).out m.step it.within) (passes_safely on it placed.1)) ∙ still))
  resting Tells is still =
      let placed = placed_as on Tells is in
      absurd (by_cases (left_at plan m.divisions (1 - m.side) m.step == 1) ⊥
      (λ only. true≢false (sym (says_moves (At (theirs.node m.step) placed.2.came) (Accuse (theirs.ahead m.step))
      placed.2.at refl (ap (does_in plan m) is ∙ cond-true _ _ _ only)) ∙ still))
      (λ more. true≢false (sym (says_moves (At (theirs.node m.step) placed.2.came) (Write m.seen (told m)) placed.2.at
      refl
      (ap (does_in plan m) is ∙ cond-false _ _ _ more)) ∙ still)))
  resting Ends is still = inl is

  -- who is lost has the black hole in its part
  lost_by : (count at : ℕ) → inv.now ≡ stacked m.side count at m.divisions → news own at ≡ news own m.step
      → m.step < own.steps → own.is_new m.step ≡ true → own.target m.step ≡ hole → lost ≡ m.side
  lost_by zero at behind same within is_new edge =
      let there : Explores plan inv.now m.side m.step hole =
      subst (λ (d : Divisions). Explores plan d m.side m.step hole) (sym behind)
      (record { below = inv.state.below; within = within; is_new = is_new; is = edge }) in
      (((plan_is game).planned inv.now inv.state.stage).once lost inv.state.spot.step m.side m.step hole
      inv.state.spot.is
      there).0
  lost_by (suc count) at behind same within is_new edge =
      let new = new_at game inv.now m inv.state.stage inv.state.below count at behind in
      let at_is : at ≡ m.step = same_by_news own at m.step new.1 is_new same in
      let first : IsAsAt (plan.itinerary inv.now m.side) own at =
      first_is game inv.now m inv.state.stage inv.state.below count at behind in
      let there : Explores plan inv.now m.side 0 hole = record {
        below = inv.state.below;
        within = first.some;
        is_new = first.is_new;
        is = first.target ∙ ap own.target at_is ∙ edge;
      } in
      (((plan_is game).planned inv.now inv.state.stage).once lost inv.state.spot.step m.side 0 hole inv.state.spot.is
      there).0

  pub lost_side : IsLost → lost ≡ m.side
  lost_side it =
      let placed = placed_as on Tries it.phase in
      lost_by inv.p.count inv.p.at placed.0.behind placed.0.same placed.0.within placed.1 it.edge
