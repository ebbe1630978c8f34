-- Agents that draw a chart: any turn, and where an agent stands if it cannot move.
use Rattle.std.proofs.Common.{ℕ, ◌<◌, ◌≡◌, ◌⊎◌, true, false, Some, List, refl, sym, ap, ◌∙◌}
use Rattle.std.proofs.Common.{inl, inr, arith}
use Rattle.std.specs.Prelude.{nat_lt}
use Rattle.std.proofs.lemmas.Bool.{true≢false, ltb-true}
use Rattle.bhs_model.specs.declared.commands.Command.TheVariants.{Enter, Look, Write}
use Rattle.bhs_model.specs.Runs.{Before, Bound, is_bound}
use Rattle.bhs_model.proofs.StepLemmas.{by_cases}
use Rattle.bhs_protocols.specs.Configurations.{Configuration, can_move_in}
use Rattle.bhs_protocols.specs.Invariants.{GoesOn}
use Rattle.bhs_protocols.proofs.MovingLemmas.{says_moves}
use Rattle.bhs_protocols_charts.specs.Charts.{chart_of, text_of, with_state, reported, claimed}
use Rattle.bhs_protocols_charts.specs.Charting.{Charting, Begins, Waits, Looks, Claims, GoesOut, Names, GoesBack}
use Rattle.bhs_protocols_charts.specs.Charting.{Reports}
use Rattle.bhs_protocols_charts.specs.Charting.{GoesToAccuse, Ends}
use Rattle.bhs_protocols_charts.proofs.ChartState.{Game, Inv, held, trial as trial_of, far}
use Rattle.bhs_protocols_charts.proofs.ChartTurns.{M, new_of, placed_as, says_as}
use Rattle.bhs_protocols_charts.proofs.ChartHome.{begin_turn, look_turn, wait_moves, wake_turn}
use Rattle.bhs_protocols_charts.proofs.ChartClaims.{claim_turn, report_turn}
use Rattle.bhs_protocols_charts.proofs.ChartMoves.{at_moves}
use Rattle.bhs_protocols_charts.proofs.ChartTrips.{out_rests, out_turn, name_moves, name_turn}
use Rattle.bhs_protocols_charts.proofs.ChartReturns.{back_moves, back_turn, accuse_moves, accuse_turn, end_still}

module _ (game : Game) {configuration : Configuration} {left : ℕ} (inv : Inv game configuration left) (agent : ℕ)
    (within : agent < game.terms.agents) where
  open game use {terms, home}

  abbrev mine : Charting
  mine = M game inv agent within

  by_duty : (it : Charting) → mine ≡ it → can_move_in (trial_of game) configuration agent ≡ true
      → GoesOn (Inv game) left (new_of game inv agent within)
  by_duty Begins is moves = begin_turn game inv agent within is
  by_duty (Waits count text) is moves = wake_turn game inv agent within count text is moves
  by_duty Looks is moves = look_turn game inv agent within is
  by_duty (Claims count text row port) is moves = claim_turn game inv agent within count text row port is
  by_duty (GoesOut row port ahead behind) is moves = out_turn game inv agent within row port ahead behind is moves
  by_duty (Names row port count behind) is moves = name_turn game inv agent within row port count behind is
  by_duty (GoesBack row port found behind) is moves = back_turn game inv agent within row port found behind is
  by_duty (Reports row port found count text) is moves = report_turn game inv agent within row port found count text is
  by_duty (GoesToAccuse port ahead) is moves = accuse_turn game inv agent within port ahead is
  by_duty Ends is moves = absurd (true≢false (sym moves ∙ end_still game inv agent within is))

  pub any_turn : can_move_in (trial_of game) configuration agent ≡ true
      → GoesOn (Inv game) left (new_of game inv agent within)
  any_turn moves = by_duty mine refl moves

  -- ---- at rest

  -- The agent is on a link to the black hole.
  pub record IsLost : Type 0 where
    pub row : ℕ
    pub port : ℕ
    pub holds : held mine ≡ Some (row, port)
    pub at : configuration.position agent ≡ Bound (inv.place row) port
    pub leads : (far game (inv.place row) port).0 ≡ game.hole

  -- it waits, and has woken often enough
  pub record IsStuck : Type 0 where
    pub count : ℕ
    pub text : List ℕ
    pub is : mine ≡ Waits count text
    pub woken : 0 < configuration.woken agent

  abbrev pub Rests : Type 0
  Rests = (mine ≡ Ends) ⊎ (IsLost ⊎ IsStuck)

  -- While an agent can move, the configuration is not at rest.
  restless : can_move_in (trial_of game) configuration agent ≡ true
      → can_move_in (trial_of game) configuration agent ≡ false → Rests
  restless moves still = absurd (true≢false (sym moves ∙ still))

  pub resting : (it : Charting) → mine ≡ it → can_move_in (trial_of game) configuration agent ≡ false → Rests
  resting Begins is still = restless (says_moves (trial_of game) configuration agent within Before Enter
      (placed_as game inv agent within Begins is) refl (says_as game inv agent within Begins is
      (ap is_bound (placed_as game inv agent within Begins is)))) still
  resting (Waits count text) is still = by_cases (nat_lt terms.wakeups (configuration.woken agent)) Rests
      (λ many.
      let some : terms.wakeups < configuration.woken agent =
      ltb-true terms.wakeups (configuration.woken agent) many in
      inr (inr (record { count = count; text = text; is = is; woken = omega (arith, some) })))
      (λ few. restless (wait_moves game inv agent within false count text is few) still)
  resting Looks is still =
      restless (at_moves game inv agent within Looks home Look is refl (placed_as game inv agent within Looks is)) still
  resting (Claims count text row port) is still =
      restless (at_moves game inv agent within (Claims count text row port) home
      (Write text (text_of (with_state (chart_of count text) row port claimed))) is refl
      (placed_as game inv agent within (Claims count text row port) is).0) still
  resting (GoesOut row port ahead behind) is still =
      let lost = out_rests game inv agent within row port ahead behind is still in
      inr (inl (record { row = row; port = port; holds = ap held is; at = lost.0; leads = lost.1 }))
  resting (Names row port count behind) is still =
      restless (name_moves game inv agent within row port count behind is) still
  resting (GoesBack row port found behind) is still =
      restless (back_moves game inv agent within row port found behind is) still
  resting (Reports row port found count text) is still =
      restless (at_moves game inv agent within (Reports row port found count text) home
      (Write text (text_of (reported (chart_of count text) row port found))) is refl
      (placed_as game inv agent within (Reports row port found count text) is).2) still
  resting (GoesToAccuse port ahead) is still =
      restless (accuse_moves game inv agent within port ahead is) still
  resting Ends is still = inl is
