-- Two agents that explore by ways: turns of an agent on a link.
use Rattle.std.proofs.Common.{ℕ, suc, ◌+◌, ◌<◌, ◌≤◌, ◌≡◌, true, false, not, ◌==◌, Some, ◌∷◌, refl, sym}
use Rattle.std.proofs.Common.{ap, ◌∙◌, subst, inl, inr, arith}
use Rattle.std.proofs.lemmas.Bool.{true≢false, eq-eqb, cond-true, cond-false}
use Rattle.std.proofs.lemmas.Bool.Decides.{eqb_tells}
use Rattle.bhs_model.specs.declared.replies.Reply.TheVariants.{Here}
use Rattle.bhs_model.specs.Worlds.{doomed}
use Rattle.bhs_model.specs.Runs.{At, Bound, changed}
use Rattle.bhs_model.proofs.StepLemmas.{changed_same}
use Rattle.bhs_schedules.specs.Strategies.{Observation, Heard, History}
use Rattle.bhs_schedules.specs.Schedules.{Trial}
use Rattle.bhs_protocols.specs.Configurations.{can_move_in, turn_in}
use Rattle.bhs_protocols.specs.declared.shuttle.Memory.{Memory}
use Rattle.bhs_protocols.specs.declared.shuttle.Phase.TheVariants.{GoesOut, Leaves, ComesBack, Returns, Writes}
use Rattle.bhs_protocols.specs.Shuttle.{other_in}
use Rattle.bhs_protocols.proofs.SearchLemmas.{agents_two, distance, doomed_is, hole_at, safe_before}
use Rattle.bhs_protocols.proofs.MovingLemmas as moving
use Rattle.bhs_protocols.proofs.TurnLemmas.{Becomes}
use Rattle.bhs_protocols.proofs.ExplorerSteps.{Way, back_by}
use Rattle.bhs_protocols.proofs.ExplorerState.{Game, Onward, Turn, all as all_of, along as along_of}
use Rattle.bhs_protocols.proofs.ExplorerState.{mem, placed_as, trial as trial_of, way as way_from}
use Rattle.bhs_protocols.proofs.ExplorerTurns.{about, at_home, is_way, paced, read}

module _ {game : Game} (on : Turn game) where
  open game use {world, right, holds, node, explorers}
  open on use {s, o, configuration, pair, inv}

  abbrev trial : Trial
  trial = trial_of game

  abbrev M : Memory
  M = mem game configuration s

  abbrev O : Memory
  O = mem game configuration o

  abbrev all : ℕ
  all = all_of game s M

  abbrev along : (step : ℕ) → ℕ
  along = along_of game s M

  abbrev way : Way
  way = way_from game s M

  abbrev past : History
  past = configuration.history s

  -- ---- on a link

  pub bound_moves : (start port : ℕ) → configuration.position s ≡ Bound start port
      → can_move_in trial configuration s ≡ not (doomed world start port)
  bound_moves start port at =
      moving.bound_moves trial configuration s (agents_two game.search s pair.own) start port at refl

  grows_by : (target k : ℕ) → configuration.reached k ≡ true → changed configuration.reached target true k ≡ true
  grows_by = moving.grows_by configuration.reached

  -- ---- out

  -- the last step of its way is at the new node
  pub new_node : (step : ℕ) → step ≡ all → along step ≡ node s (M.mine + 1)
  new_node step last = ap (λ (k : ℕ). along k) last ∙ ap (node s) (is_way on).last

  pub ahead_doomed : (step : ℕ) → step < all
      → doomed world (along step) (way.ahead step) ≡ (node 0 right == along (step + 1))
  ahead_doomed step before =
      doomed_is game.search (along step) (way.ahead step) (along (step + 1)) (way.behind (step + 1))
      ((is_way on).out step before)

  -- before the last step no link destroys
  pub ahead_safe : (step : ℕ) → step + 1 < all → doomed world (along step) (way.ahead step) ≡ false
  ahead_safe step before =
      let early : way.place (step + 1) < M.mine + 1 = (is_way on).early (step + 1) before in
      let safe : M.mine < distance game.search s = inv.own.safe in
      ahead_doomed step (omega (arith, before))
      ∙ safe_before game.search s (way.place (step + 1)) pair.own (omega (arith, early, safe))

  -- nor at the last step, unless the new node is the black hole
  pub last_safe : (step : ℕ) → step + 1 ≡ all → M.mine + 1 < distance game.search s
      → doomed world (along step) (way.ahead step) ≡ false
  last_safe step last before =
      ahead_doomed step (omega (arith, last))
      ∙ ap (λ (k : ℕ). node 0 right == k) (new_node (step + 1) last)
      ∙ safe_before game.search s (M.mine + 1) pair.own before

  pub last_doomed : (step : ℕ) → step + 1 ≡ all → M.mine + 1 ≡ distance game.search s
      → doomed world (along step) (way.ahead step) ≡ true
  last_doomed step last edge =
      let there : node 0 right ≡ along (step + 1) =
      sym (hole_at game.search s pair.own) ∙ ap (node s) (sym edge) ∙ sym (new_node (step + 1) last) in
      ahead_doomed step (omega (arith, last)) ∙ eq-eqb (node 0 right) (along (step + 1)) there

  pub leave_turn : (step : ℕ) → M.phase ≡ Leaves step → can_move_in trial configuration s ≡ true
      → Onward game s o configuration (turn_in trial configuration s)
  leave_turn step is moves =
      let placed = placed_as game s configuration (Leaves step) is inv.own in
      let before : step < all = placed.0 in
      let at : configuration.position s ≡ Bound (along step) (way.ahead step) = placed.2 in
      let safe : M.mine < distance game.search s = inv.own.safe in
      let target : ℕ = along (step + 1) in
      let label : ℕ = way.behind (step + 1) in
      let far : world.net.far (along step) (way.ahead step) ≡ (target, label) = (is_way on).out step before in
      let news : Observation = Heard (Here (world.net.degree target) (Some label) (configuration.shown target)) in
      let comes_out = explorers.comes_out s past step (world.net.degree target) (configuration.shown target)
      (about on (Leaves step) is) before in
      elim (eqb_tells (step + 1) all) [
        | inl new ↦ elim (eqb_tells (M.mine + 1) (distance game.search s)) [
          | inl edge ↦ absurd (true≢false (sym moves ∙ bound_moves (along step) (way.ahead step) at
              ∙ ap not (last_doomed step new.1 edge.1)))
          | inr short ↦
              let next : M.mine + 1 < distance game.search s = omega (arith, safe, short.1) in
              paced on (Leaves step) (ComesBack (step + 1) label) M.theirs (At target (Some label)) news 0 0
              (configuration.accused s) (changed configuration.reached target true) is
              (moving.arrives_at trial configuration s (agents_two game.search s pair.own) (along step) (way.ahead step)
              target label at refl far (last_safe step new.1 next))
              (comes_out ∙ cond-true _ _ _ new.0) (
                omega arith,
                omega (arith, new.1),
                next,
                refl,
                record { came = Some label; at = refl },
                placed.3,
              )
              (inl refl) (grows_by target)
              (λ k far. elim (eqb_tells k (M.mine + 1)) [
                | inl it ↦ inr (subst (λ (j : ℕ). changed configuration.reached target true j ≡ true)
                    (new_node (step + 1) new.1 ∙ ap (node s) (sym it.1))
                    (changed_same configuration.reached target true))
                | inr it ↦ inl (omega (arith, far, it.1))
              ])
              (omega arith) (omega (arith, new.1)) (omega (arith, new.1))
        ]
        | inr old ↦
            let onward : step + 1 < all = omega (arith, before, old.1) in
            paced on (Leaves step) (GoesOut (step + 1) (way.ahead (step + 1))) M.theirs (At target (Some label)) news 0
            0 (configuration.accused s) (changed configuration.reached target true) is
            (moving.arrives_at trial configuration s (agents_two game.search s pair.own) (along step)
            (way.ahead step) target
            label at refl far (ahead_safe step onward))
            (comes_out ∙ cond-false _ _ _ old.0)
            (onward, refl, record { came = Some label; at = refl }, placed.3)
            (inl refl) (grows_by target) (λ k far. inl far) (omega arith) (omega arith) (omega arith)
      ]

  -- ---- back

  -- it comes back to this step of its way
  pub record ComesTo (left_over : ℕ) : Type 0 where
    pub becomes : Becomes configuration (turn_in trial configuration s) s (At (along left_over) (Some
        (way.ahead left_over)))
        (Heard (Here (world.net.degree (along left_over)) (Some (way.ahead left_over))
        (configuration.shown (along left_over)))) 0 0 (configuration.accused s) configuration.shown
        (changed configuration.reached (along left_over) true)
    pub is : holds s (Heard (Here (world.net.degree (along left_over)) (Some (way.ahead left_over))
        (configuration.shown (along left_over))) ∷ past)
        ≡ back_by way M left_over (configuration.shown (along left_over))
    pub moves : can_move_in trial configuration s ≡ true

  pub comes_to : (left_over step : ℕ) → step ≡ left_over + 1 → M.phase ≡ Returns step → ComesTo left_over
  comes_to left_over step one_more is =
      let placed = placed_as game s configuration (Returns step) is inv.own in
      let few : step ≤ all = placed.1 in
      let next : M.mine + 1 < distance game.search s = placed.2 in
      let below : left_over < all = omega (arith, few, one_more) in
      let start : ℕ = along (left_over + 1) in
      let port : ℕ = way.behind (left_over + 1) in
      let at : configuration.position s ≡ Bound start port =
      placed.3 ∙ ap (λ (k : ℕ). Bound (along k) (way.behind k)) one_more in
      let target : ℕ = along left_over in
      let label : ℕ = way.ahead left_over in
      let far : world.net.far start port ≡ (target, label) = (is_way on).back left_over below in
      let early : way.place left_over < M.mine + 1 = (is_way on).early left_over below in
      let spared : doomed world start port ≡ false =
      doomed_is game.search start port target label far
      ∙ safe_before game.search s (way.place left_over) pair.own (omega (arith, early, next)) in
      record {
        becomes = moving.arrives_at trial configuration s (agents_two game.search s pair.own) start port target label at
            refl far spared;
        is = explorers.comes_back s past step left_over (world.net.degree target) (configuration.shown target)
            (about on (Returns step) is) one_more;
        moves = bound_moves start port at ∙ ap not spared;
      }

  pub home_turn : (step : ℕ) → step ≡ 1 → M.phase ≡ Returns step
      → Onward game s o configuration (turn_in trial configuration s)
  home_turn step last is =
      let placed = placed_as game s configuration (Returns step) is inv.own in
      let it : ComesTo 0 = comes_to 0 step (omega (arith, last)) is in
      let few : step ≤ all = placed.1 in
      let known : M.theirs ≤ O.mine = inv.known in
      let home : along 0 ≡ world.home = at_home game s M pair.own inv.own.safe in
      let reads : other_in M.side (configuration.shown (along 0)) ≡ O.mine =
      ap (λ (k : ℕ). other_in M.side (configuration.shown k)) home ∙ read on in
      paced on (Returns step) Writes O.mine (At (along 0) (Some (way.ahead 0)))
      (Heard (Here (world.net.degree (along 0)) (Some (way.ahead 0)) (configuration.shown (along 0)))) 0 0
      (configuration.accused s) (changed configuration.reached (along 0) true) is it.becomes
      (it.is ∙ (λ i. record M { phase = Writes; theirs = reads i })) (
        placed.2,
        record { came = Some (way.ahead 0); at = ap (λ (k : ℕ). At k (Some (way.ahead 0))) home },
        placed.4,
      )
      (inr refl) (grows_by (along 0)) (λ k far. inl far) (omega (arith, known)) (omega (arith, last, few))
      (omega (arith, known, last, few))

  pub return_turn : (left_over step : ℕ) → step ≡ suc left_over + 1 → M.phase ≡ Returns step
      → Onward game s o configuration (turn_in trial configuration s)
  return_turn left_over step one_more is =
      let placed = placed_as game s configuration (Returns step) is inv.own in
      let few : step ≤ all = placed.1 in
      let it : ComesTo (suc left_over) = comes_to (suc left_over) step one_more is in
      let target : ℕ = along (suc left_over) in
      let label : ℕ = way.ahead (suc left_over) in
      paced on (Returns step) (ComesBack (suc left_over) (way.behind (suc left_over))) M.theirs
      (At target (Some label)) (Heard (Here (world.net.degree target) (Some label) (configuration.shown target))) 0 0
      (configuration.accused s) (changed configuration.reached target true) is it.becomes it.is (
        omega arith,
        omega (arith, few, one_more),
        placed.2,
        refl,
        record { came = Some label; at = refl },
        placed.4,
      )
      (inl refl) (grows_by target) (λ k far. inl far) (omega arith) (omega (arith, few, one_more))
      (omega (arith, few, one_more))
