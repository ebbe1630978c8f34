-- Two agents that explore by ways make all the moves that their bound allows: an agent whose side is known to nobody
-- takes turns until it is lost, and then the other agent until it has accused.
use Rattle.std.proofs.Common.{ℕ, zero, suc, ◌+◌, ◌-◌, ◌<◌, ◌≤◌, ◌≡◌, false, not, List, [], ◌∷◌, ◌++◌, refl}
use Rattle.std.proofs.Common.{sym, ap, ◌∙◌, subst, nat_lt, inl, inr, arith}
use Rattle.std.proofs.lemmas.Bool.{lt-ltb, ltb-true, true≢false}
use Rattle.bhs_model.proofs.StepLemmas.{by_cases}
use Rattle.bhs_schedules.specs.Schedules.{Trial}
use Rattle.bhs_protocols.specs.Configurations.{Configuration, blank, can_move_in, turn_in, turns_in}
use Rattle.bhs_protocols.specs.Attained.{IsAttained}
use Rattle.bhs_protocols.specs.declared.shuttle.Memory.{Memory}
use Rattle.bhs_protocols.specs.declared.shuttle.Phase.TheVariants.{Leaves, Ends}
use Rattle.bhs_protocols.proofs.AttainedLemmas.{attained_by, two_rest}
use Rattle.bhs_protocols.proofs.LastWordLemmas.{turns_in_append}
use Rattle.bhs_protocols.proofs.SearchLemmas.{Pair, distance, one_zero, sum_is, swapped_pair, zero_one}
use Rattle.bhs_protocols.proofs.ExplorerSteps.{trip}
use Rattle.bhs_protocols.proofs.ExplorerState.{Game, Inv, Onward, all, along, at_last, at_turn, mem, most_moves}
use Rattle.bhs_protocols.proofs.ExplorerState.{placed_as, progress, spent, swapped, trial as trial_of, trips, way}
use Rattle.bhs_protocols.proofs.ExplorerTurns.{some_steps}
use Rattle.bhs_protocols.proofs.ExplorerArrivals.{bound_moves, last_doomed}
use Rattle.bhs_protocols.proofs.ExplorerRest.{IsLost, any_turn, resting}
use Rattle.bhs_protocols.proofs.ExplorerVerdict.{not_both}
use Rattle.bhs_protocols.proofs.ExplorerLemmas.{first_inv, most_progress, spent_in}

module _ (game : Game) where
  open game use {n, right, left, search}

  abbrev trial : Trial
  trial = trial_of game

  -- where agent s cannot move any more
  record HasRun (s o : ℕ) (P : Configuration → Type 0) (configuration : Configuration) : Type 0 where
    schedule : List ℕ
    inv : Inv game s o (turns_in trial configuration schedule)
    holds : P (turns_in trial configuration schedule)
    still : can_move_in trial (turns_in trial configuration schedule) s ≡ false

  runs : (s o : ℕ) (P : Configuration → Type 0) → Pair s o
      → ((configuration : Configuration) → Inv game s o configuration → P configuration
      → Onward game s o configuration (turn_in trial configuration s)
      → P (turn_in trial configuration s))
      → (fuel : ℕ) (configuration : Configuration) → Inv game s o configuration → P configuration
      → most_progress game s ≤ progress game s (mem game configuration s) + fuel → HasRun s o P configuration
  runs s o P pair keeps zero configuration inv holds few =
      by_cases (can_move_in trial configuration s) (HasRun s o P configuration)
      (λ moves.
      let on : Onward game s o configuration (turn_in trial configuration s) =
      any_turn (at_turn game s o configuration pair inv) moves in
      let more : progress game s (mem game configuration s) + 1 ≤ progress game s (mem game
      (turn_in trial configuration s) s) =
      on.more in
      let most : progress game s (mem game (turn_in trial configuration s) s) ≤ most_progress game s =
      (spent_in game s o (turn_in trial configuration s) pair on.inv).1 in
      absurd (omega (arith, more, most, few)))
      (λ rests. record { schedule = []; inv = inv; holds = holds; still = rests })
  runs s o P pair keeps (suc fuel) configuration inv holds few =
      by_cases (can_move_in trial configuration s) (HasRun s o P configuration)
      (λ moves.
      let on : Onward game s o configuration (turn_in trial configuration s) =
      any_turn (at_turn game s o configuration pair inv) moves in
      let more : progress game s (mem game configuration s) + 1 ≤ progress game s (mem game
      (turn_in trial configuration s) s) =
      on.more in
      let after : HasRun s o P (turn_in trial configuration s) =
      runs s o P pair keeps fuel (turn_in trial configuration s) on.inv (keeps configuration inv holds on)
      (omega (arith, more, few)) in
      record { schedule = s ∷ after.schedule; inv = after.inv; holds = after.holds; still = after.still })
      (λ rests. record { schedule = []; inv = inv; holds = holds; still = rests })

  -- who is lost stays so
  lost_still : (s o : ℕ) (configuration : Configuration) (pair : Pair s o) (inv : Inv game s o configuration)
      → IsLost game s (mem game configuration s) → can_move_in trial configuration s ≡ false
  lost_still s o configuration pair inv gone =
      let placed = placed_as game s configuration (Leaves gone.step) gone.phase inv.own in
      let m : Memory = mem game configuration s in
      bound_moves (at_turn game s o configuration pair inv) (along game s m gone.step) ((way game s m).ahead gone.step)
      placed.2
      ∙ ap not (last_doomed (at_turn game s o configuration pair inv) gone.step gone.last gone.edge)

  -- Agent s takes turns alone, and knows of no safe node of the other side.
  record IsAlone (o : ℕ) (configuration : Configuration) : Type 0 where
    other : mem game configuration o ≡ mem game blank o

  gone_by : (s o : ℕ) (configuration : Configuration) (pair : Pair s o) (inv : Inv game s o configuration)
      → IsAlone o configuration
      → 2 ≤ distance game.search o → can_move_in trial configuration s ≡ false
      → IsLost game s (mem game configuration s)
  gone_by s o configuration pair inv alone far still =
      elim (resting (at_turn game s o configuration pair inv) (mem game configuration s).phase refl still) [
        | inl h ↦
            let placed = placed_as game s configuration Ends h inv.own in
            let edge : (mem game configuration s).mine + 1 ≡ distance game.search s = placed.1 in
            let one_left : (mem game configuration s).mine + (mem game configuration s).theirs + 2 ≡ n = placed.3 in
            let known : (mem game configuration s).theirs ≤ (mem game configuration o).mine = inv.known in
            let none : (mem game configuration o).mine ≡ 0 =
            ap (λ (m : Memory). m.mine) (alone.other ∙ game.explorers.starts o) in
            let sum : distance game.search s + distance game.search o ≡ n = sum_is game.search s o pair in
            absurd (omega (arith, edge, one_left, known, none, sum, far))
        | inr h ↦ h
      ]

  -- Then the partner accuses, and all moves but the partner's last one are made.
  all_made : (s o : ℕ) (configuration : Configuration) → Pair s o → Inv game o s configuration
      → IsLost game s (mem game configuration s)
      → can_move_in trial configuration o ≡ false → configuration.moves ≡ most_moves game s + most_moves game o - 1
  all_made s o configuration pair inv gone still =
      let pair_too : Pair o s = swapped_pair s o pair in
      let m : Memory = mem game configuration s in
      let m_too : Memory = mem game configuration o in
      let moves : configuration.moves ≡ spent game o m_too + spent game s m = inv.moves in
      let on_trip : trip (all game s m) m.phase ≡ gone.step + 1 = ap (trip (all game s m)) gone.phase in
      let whole : trips game s m.mine + all game s m ≡ most_moves game s = at_last game s m.mine gone.edge in
      let last : gone.step + 1 ≡ all game s m = gone.last in
      elim (resting (at_turn game o s configuration pair_too inv) m_too.phase refl still) [
        | inl h ↦
            let placed = placed_as game o configuration Ends h inv.own in
            let edge_too : m_too.mine + 1 ≡ distance game.search o = placed.1 in
            let on_trip_too : trip (all game o m_too) m_too.phase ≡ all game o m_too - 1 =
            ap (trip (all game o m_too)) h in
            let whole_too : trips game o m_too.mine + all game o m_too ≡ most_moves game o =
            at_last game o m_too.mine edge_too in
            let long : 0 < all game o m_too = some_steps game o m_too pair.other inv.own.safe in
            omega (arith, moves, on_trip, whole, last, on_trip_too, whole_too, long)
        | inr h ↦ absurd (not_both game o s configuration pair_too inv h gone)
      ]

  record IsWorst (s o : ℕ) : Type 0 where
    schedule : List ℕ
    still : can_move_in trial (turns_in trial blank schedule) s ≡ false
    still_too : can_move_in trial (turns_in trial blank schedule) o ≡ false
    moves : (turns_in trial blank schedule).moves ≡ most_moves game s + most_moves game o - 1

  first_run : (s o : ℕ) → Pair s o → Inv game s o blank → HasRun s o (IsAlone o) blank
  first_run s o pair first =
      runs s o (IsAlone o) pair (λ configuration inv alone on. record { other = on.same ∙ alone.other })
      (most_progress game s) blank first (record { other = refl }) (omega arith)

  second_run : (s o : ℕ) (configuration : Configuration) → Pair s o → Inv game s o configuration
      → IsLost game s (mem game configuration s)
      → HasRun o s (λ now. IsLost game s (mem game now s)) configuration
  second_run s o configuration pair inv gone =
      runs o s (λ now. IsLost game s (mem game now s)) (swapped_pair s o pair)
      (λ now inv_now lost on. subst (IsLost game s) (sym on.same) lost) (most_progress game o) configuration
      (swapped game s o configuration pair inv) gone (omega arith)

  worst_of : (s o : ℕ) → Pair s o → (one : HasRun s o (IsAlone o) blank)
      → HasRun o s (λ now. IsLost game s (mem game now s)) (turns_in trial blank one.schedule) → IsWorst s o
  worst_of s o pair one two =
      let end : Configuration = turns_in trial (turns_in trial blank one.schedule) two.schedule in
      let is : turns_in trial blank (one.schedule ++ two.schedule) ≡ end =
      turns_in_append trial blank one.schedule two.schedule in
      let back : Inv game s o end = swapped game o s end (swapped_pair s o pair) two.inv in
      record {
        schedule = one.schedule ++ two.schedule;
        still = ap (λ (p : Configuration). can_move_in trial p s) is ∙ lost_still s o end pair back two.holds;
        still_too = ap (λ (p : Configuration). can_move_in trial p o) is ∙ two.still;
        moves = ap (λ (p : Configuration). p.moves) is ∙ all_made s o end pair two.inv two.holds two.still;
      }

  worst_after : (s o : ℕ) → Pair s o → 2 ≤ distance game.search o → HasRun s o (IsAlone o) blank → IsWorst s o
  worst_after s o pair far one =
      let middle : Configuration = turns_in trial blank one.schedule in
      worst_of s o pair one
      (second_run s o middle pair one.inv (gone_by s o middle pair one.inv one.holds far one.still))

  worst_by : (s o : ℕ) → Pair s o → Inv game s o blank → 2 ≤ distance game.search o → IsWorst s o
  worst_by s o pair first far = worst_after s o pair far (first_run s o pair first)

  pub attains : IsAttained trial (most_moves game 0 + most_moves game 1 - 1)
  attains = by_cases (nat_lt 1 left) (IsAttained trial (most_moves game 0 + most_moves game 1 - 1))
      (λ yes.
      let it : IsWorst 0 1 = worst_by 0 1 zero_one (first_inv game) (ltb-true 1 left yes) in
      attained_by trial it.schedule (most_moves game 0 + most_moves game 1 - 1) (turns_in trial blank it.schedule) refl
      (two_rest trial (turns_in trial blank it.schedule) search.agents it.still it.still_too) it.moves)
      (λ none.
      let near : (1 < left) → ⊥ = λ h. true≢false (sym (lt-ltb 1 left h) ∙ none) in
      let sum : right + left ≡ n = search.sum in
      let three : 3 ≤ n = game.three in
      let far : 2 ≤ right = omega (arith, near, sum, three) in
      let it : IsWorst 1 0 =
      worst_by 1 0 one_zero (swapped game 0 1 blank zero_one (first_inv game)) far in
      attained_by trial it.schedule (most_moves game 0 + most_moves game 1 - 1) (turns_in trial blank it.schedule) refl
      (two_rest trial (turns_in trial blank it.schedule) search.agents it.still_too it.still)
      (it.moves ∙ turned (most_moves game 1) (most_moves game 0)))
    where
      turned : (a b : ℕ) → a + b - 1 ≡ b + a - 1
      turned a b = omega arith
