-- Two agents that explore by ways: once nothing more can happen, the match is solved.
use Rattle.std.proofs.Common.{ℕ, ◌+◌, ◌<◌, ◌≤◌, ◌≡◌, ◌⊎◌, refl, ap, ◌∙◌, inl, inr, arith}
use Rattle.bhs_referee.specs.declared.verdicts.Outcome.TheVariants.{Solved}
use Rattle.bhs_referee.specs.Verdicts.{is_present}
use Rattle.bhs_schedules.specs.Schedules.{Trial}
use Rattle.bhs_protocols.specs.Configurations.{Configuration, IsResting, outcome_in, doomed_in}
use Rattle.bhs_protocols.specs.declared.shuttle.Memory.{Memory}
use Rattle.bhs_protocols.specs.declared.shuttle.Phase.TheVariants.{Leaves, Ends}
use Rattle.bhs_protocols.proofs.SearchLemmas as lemmas
use Rattle.bhs_protocols.proofs.SearchLemmas.{HasCome, IsAccuser, Pair, distance, one_zero, solved_once, sum_is}
use Rattle.bhs_protocols.proofs.SearchLemmas.{zero_one}
use Rattle.bhs_protocols.proofs.ExplorerState.{Game, Inv, along, at_turn, come, mem, placed_as, swapped}
use Rattle.bhs_protocols.proofs.ExplorerState.{trial as trial_of, way, way_is}
use Rattle.bhs_protocols.proofs.ExplorerRest.{IsLost, resting}

module _ (game : Game) where
  open game use {world, n, node, search}

  abbrev trial : Trial
  trial = trial_of game

  abbrev pub AtRest : (s : ℕ) → Configuration → Type 0
  AtRest s configuration = ((mem game configuration s).phase ≡ Ends) ⊎ IsLost game s (mem game configuration s)

  accuser : (s o : ℕ) (configuration : Configuration) → Pair s o → Inv game s o configuration
      → (mem game configuration s).phase ≡ Ends
      → IsAccuser search s configuration
  accuser s o configuration pair inv is =
      let placed = placed_as game s configuration Ends is inv.own in
      let m = mem game configuration s in
      let it = placed.2 in
      let route = way_is game s m pair.own inv.own.safe in
      let last : it.step + 1 ≡ (way game s m).steps = it.last in
      let below : it.step < (way game s m).steps = omega (arith, last) in
      let label : ℕ = (way game s m).behind (it.step + 1) in
      lemmas.accuser search configuration s s m.mine (along game s m it.step)
      ((way game s m).ahead it.step) label pair.own placed.1
      (route.out it.step below ∙ (λ i. ((ap (along game s m) last ∙ ap (node s) route.last) i, label))) it.link

  has_come : (s o : ℕ) (configuration : Configuration) (pair : Pair s o) (inv : Inv game s o configuration)
      → AtRest s configuration → HasCome search s (mem game configuration s).mine configuration
  has_come s o configuration pair inv rest =
      let m : Memory = mem game configuration s in
      elim rest [
        | inl h ↦ record {
          accused = inr (accuser s o configuration pair inv h);
          away = ap is_present (placed_as game s configuration Ends h inv.own).0;
          reached = λ k some far. inv.own.reached k some (omega (arith, far, ap (come game m.mine) h));
        }
        | inr h ↦
            let placed = placed_as game s configuration (Leaves h.step) h.phase inv.own in
            record {
              accused = inl placed.3;
              away = ap is_present placed.2;
              reached = λ k some far. inv.own.reached k some (omega (arith, far, ap (come game m.mine) h.phase));
            }
      ]

  solved_if : (s o : ℕ) (configuration : Configuration) (pair : Pair s o) (inv : Inv game s o configuration)
      → (mem game configuration s).phase ≡ Ends → (pair_too : Pair o s) (inv_too : Inv game o s configuration)
      → AtRest o configuration → (outcome_in world configuration ≡ Solved) × (doomed_in world configuration ≤ 1)
  solved_if s o configuration pair inv is pair_too inv_too rest =
      let placed = placed_as game s configuration Ends is inv.own in
      let edge : (mem game configuration s).mine + 1 ≡ distance search s = placed.1 in
      let left_one : (mem game configuration s).mine + (mem game configuration s).theirs + 2 ≡ n = placed.3 in
      let sum : distance search s + distance search o ≡ n = sum_is search s o pair in
      let known : (mem game configuration s).theirs ≤ (mem game configuration o).mine = inv.known in
      solved_once search s o (mem game configuration s).mine (mem game configuration o).mine configuration pair
      (record {
        accuses = accuser s o configuration pair inv is;
        ended = placed.0;
        own = has_come s o configuration pair inv (inl is);
        other = has_come o s configuration pair_too inv_too rest;
        all = omega (arith, edge);
        all_too = omega (arith, edge, left_one, sum, known);
      })

  -- both cannot be lost
  pub not_both : (s o : ℕ) (configuration : Configuration) → Pair s o → Inv game s o configuration
      → IsLost game s (mem game configuration s)
      → IsLost game o (mem game configuration o) → ⊥
  not_both s o configuration pair inv lost lost_too =
      let one = placed_as game s configuration (Leaves lost.step) lost.phase inv.own in
      let two = placed_as game o configuration (Leaves lost_too.step) lost_too.phase inv.other in
      let edge : (mem game configuration s).mine + 1 ≡ distance game.search s = lost.edge in
      let edge_too : (mem game configuration o).mine + 1 ≡ distance game.search o = lost_too.edge in
      let sum : distance game.search s + distance game.search o ≡ n = sum_is game.search s o pair in
      let left_over : (mem game configuration s).mine + (mem game configuration s).theirs + 3 ≤ n = one.1 lost.last in
      let left_too : (mem game configuration o).mine + (mem game configuration o).theirs + 3 ≤ n =
      two.1 lost_too.last in
      elim inv.fresh [
        | inl h ↦ omega (arith, h, edge, edge_too, sum, left_over)
        | inr h ↦ omega (arith, h, edge, edge_too, sum, left_too)
      ]

  pub at_rest : (configuration : Configuration) → Inv game 0 1 configuration → IsResting trial configuration
      → (outcome_in world configuration ≡ Solved) × (doomed_in world configuration ≤ 1)
  at_rest configuration inv still =
      let inv_too : Inv game 1 0 configuration = swapped game 0 1 configuration zero_one inv in
      elim (resting (at_turn game 0 1 configuration zero_one inv) (mem game configuration 0).phase refl (still 0)) [
        | inl h ↦ solved_if 0 1 configuration zero_one inv h one_zero inv_too
            (resting (at_turn game 1 0 configuration one_zero inv_too) (mem game configuration 1).phase refl (still 1))
        | inr h ↦ elim (resting (at_turn game 1 0 configuration one_zero inv_too) (mem game configuration 1).phase refl
            (still 1)) [
              | inl it ↦ solved_if 1 0 configuration one_zero inv_too it zero_one inv (inr h)
              | inr it ↦ absurd (not_both 0 1 configuration zero_one inv h it)
            ]
      ]
