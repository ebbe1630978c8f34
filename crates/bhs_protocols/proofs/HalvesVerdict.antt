-- The search by halves: once nothing more can happen, the match is solved.
use Rattle.std.proofs.Common.{ℕ, ◌+◌, ◌<◌, ◌≤◌, ◌≡◌, ◌⊎◌, refl, ap, subst, inl, inr, arith}
use Rattle.bhs_referee.specs.declared.verdicts.Outcome.TheVariants.{Solved}
use Rattle.bhs_referee.specs.Verdicts.{is_present}
use Rattle.bhs_schedules.specs.Schedules.{Trial}
use Rattle.bhs_protocols.specs.Configurations.{Configuration, IsResting, outcome_in, doomed_in}
use Rattle.bhs_protocols.specs.declared.halves.Memory.{Memory}
use Rattle.bhs_protocols.specs.declared.halves.Phase.TheVariants.{Ends, Tries}
use Rattle.bhs_protocols.proofs.HalvesDues.{come, part}
use Rattle.bhs_protocols.proofs.SearchLemmas.{opposite, Pair, IsAccuser, HasCome, one_zero, ring_accuser, sides}
use Rattle.bhs_protocols.proofs.SearchLemmas.{solved_once, zero_one}
use Rattle.bhs_protocols.proofs.HalvesState.{Game, Inv, at_turn, distance, mem, sum_is, swapped, trial as trial_of}
use Rattle.bhs_protocols.proofs.HalvesTurns.{part_more, placed_as}
use Rattle.bhs_protocols.proofs.HalvesRest.{IsLost, resting}

module _ (game : Game) where
  open game use {world, n, right, left, ways, search}

  abbrev trial : Trial
  trial = trial_of game

  abbrev pub AtRest : (s o v w : ℕ) (configuration : Configuration) (pair : Pair s o) → Inv game s o v w configuration
      → Type 0
  AtRest s o v w configuration pair inv = ((mem game configuration s).phase
      ≡ Ends) ⊎ IsLost (at_turn game s o v w configuration pair inv)

  accuser : (s o v w : ℕ) (configuration : Configuration) → Pair s o → Inv game s o v w configuration
      → (mem game configuration s).phase ≡ Ends
      → IsAccuser (sides search) s configuration
  accuser s o v w configuration pair inv is =
      let placed = placed_as (at_turn game s o v w configuration pair inv) Ends is in
      let all : (mem game configuration s).mine + (mem game configuration o).mine + 2 ≡ n = placed.1 in
      let safe : (mem game configuration s).mine < distance game s = inv.state.own.safe in
      let safe_too : (mem game configuration o).mine < distance game o = inv.state.other.safe in
      let sum : distance game s + distance game o ≡ n = sum_is game s o pair in
      let edge_too : (mem game configuration o).mine + 1 ≡ distance game o = omega (arith, all, safe, safe_too, sum) in
      elim placed.2 [
        | inl h ↦ ring_accuser search configuration s s (mem game configuration s).mine pair.own
            (omega (arith, all, safe, safe_too, sum)) h
        | inr h ↦ ring_accuser search configuration s (opposite s) (mem game configuration o).mine
            (subst (λ (k : ℕ). k < 2) pair.is pair.other)
            (subst (λ (k : ℕ). (mem game configuration o).mine + 1 ≡ distance game k) pair.is edge_too) h
      ]

  has_come : (s o v w : ℕ) (configuration : Configuration) (pair : Pair s o) (inv : Inv game s o v w configuration)
      → AtRest s o v w configuration pair inv → HasCome (sides search) s (mem game configuration s).mine configuration
  has_come s o v w configuration pair inv rest =
      let m : Memory = mem game configuration s in
      elim rest [
        | inl h ↦ record {
          accused = inr (accuser s o v w configuration pair inv h);
          away = ap is_present (placed_as (at_turn game s o v w configuration pair inv) Ends h).0;
          reached = λ k some far. inv.state.own.reached k some (omega (arith, far, ap (come m.mine) h));
        }
        | inr h ↦
            let placed = placed_as (at_turn game s o v w configuration pair inv) Tries h.phase in
            record {
              accused = inl placed.2;
              away = ap is_present placed.1;
              reached = λ k some far. inv.state.own.reached k some (omega (arith, far, ap (come m.mine) h.phase));
            }
      ]

  solved_if : (s o v w : ℕ) (configuration : Configuration) (pair : Pair s o) (inv : Inv game s o v w configuration)
      → (mem game configuration s).phase ≡ Ends → (pair_too : Pair o s) (inv_too : Inv game o s w v configuration)
      → AtRest o s w v configuration pair_too inv_too
      → (outcome_in world configuration ≡ Solved) × (doomed_in world configuration ≤ 1)
  solved_if s o v w configuration pair inv is pair_too inv_too rest =
      let placed = placed_as (at_turn game s o v w configuration pair inv) Ends is in
      let all : (mem game configuration s).mine + (mem game configuration o).mine + 2 ≡ n = placed.1 in
      let safe : (mem game configuration s).mine < distance game s = inv.state.own.safe in
      let safe_too : (mem game configuration o).mine < distance game o = inv.state.other.safe in
      let sum : distance game s + distance game o ≡ n = sum_is game s o pair in
      solved_once (sides search) s o (mem game configuration s).mine (mem game configuration o).mine configuration pair
      (record {
        accuses = accuser s o v w configuration pair inv is;
        ended = placed.0;
        own = has_come s o v w configuration pair inv (inl is);
        other = has_come o s w v configuration pair_too inv_too rest;
        all = omega (arith, all, safe, safe_too, sum);
        all_too = omega (arith, all, safe, safe_too, sum);
      })

  -- both cannot be lost: their parts do not overlap
  not_both : (s o v w : ℕ) (configuration : Configuration) (pair : Pair s o) (inv : Inv game s o v w configuration)
      → IsLost (at_turn game s o v w configuration pair inv)
      → (pair_too : Pair o s) (inv_too : Inv game o s w v configuration)
      → IsLost (at_turn game o s w v configuration pair_too inv_too) → ⊥
  not_both s o v w configuration pair inv lost pair_too inv_too lost_too =
      let one = placed_as (at_turn game s o v w configuration pair inv) Tries lost.phase in
      let two = placed_as (at_turn game o s w v configuration pair_too inv_too) Tries lost_too.phase in
      let further : (mem game configuration s).mine < part n (mem game configuration s) v =
      part_more (at_turn game s o v w configuration pair inv) one.0 v refl in
      let further_too : (mem game configuration o).mine < part n (mem game configuration o) w =
      part_more (at_turn game o s w v configuration pair_too inv_too) two.0 w refl in
      let edge : (mem game configuration s).mine + 1 ≡ distance game s = lost.edge in
      let edge_too : (mem game configuration o).mine + 1 ≡ distance game o = lost_too.edge in
      let sum : distance game s + distance game o ≡ n = sum_is game s o pair in
      let parts : part n (mem game configuration s) v + part n (mem game configuration o) w + 1 ≡ n = inv.state.sum in
      omega (arith, further, further_too, edge, edge_too, sum, parts)

  pub at_rest : (v w : ℕ) (configuration : Configuration) → Inv game 0 1 v w configuration
      → IsResting trial configuration
      → (outcome_in world configuration ≡ Solved) × (doomed_in world configuration ≤ 1)
  at_rest v w configuration inv still =
      let inv_too : Inv game 1 0 w v configuration = swapped game 0 1 v w configuration inv in
      elim (resting (at_turn game 0 1 v w configuration zero_one inv) (mem game configuration 0).phase refl (still 0)) [
        | inl h ↦ solved_if 0 1 v w configuration zero_one inv h one_zero inv_too
            (resting (at_turn game 1 0 w v configuration one_zero inv_too) (mem game configuration 1).phase refl
            (still 1))
        | inr h ↦ elim (resting (at_turn game 1 0 w v configuration one_zero inv_too)
            (mem game configuration 1).phase refl
            (still 1)) [
              | inl it ↦ solved_if 1 0 w v configuration one_zero inv_too it zero_one inv (inr h)
              | inr it ↦ absurd (not_both 0 1 v w configuration zero_one inv h one_zero inv_too it)
            ]
      ]
