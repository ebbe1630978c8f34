-- The search by halves: turns of an agent on a link, and what it reads where it arrives.
use Rattle.std.proofs.Common.{ℕ, zero, suc, ◌+◌, ◌-◌, ◌*◌, ◌<◌, ◌≤◌, ◌≡◌, Bool, true, not, ◌==◌, Option, Some}
use Rattle.std.proofs.Common.{None, List, refl, sym, ap, ◌∙◌, subst, inl, inr, arith}
use Rattle.std.specs.Prelude.{◌≢◌, bytes_eq}
use Rattle.std.proofs.lemmas.Bool.{true≢false, eq-eqb, cond-true, cond-false, eqb-true}
use Rattle.std.proofs.lemmas.Bool.Decides.{eqb_tells}
use Rattle.bhs_model.specs.declared.replies.Reply.TheVariants.{Here}
use Rattle.bhs_model.specs.Worlds.{doomed}
use Rattle.bhs_model.specs.Runs.{Position, At, Bound, changed}
use Rattle.bhs_model.proofs.StepLemmas.{by_cases, changed_same}
use Rattle.bhs_schedules.specs.Strategies.{Observation, Heard}
use Rattle.bhs_schedules.specs.Schedules.{Trial}
use Rattle.bhs_protocols.specs.Configurations.{can_move_in, turn_in}
use Rattle.bhs_protocols.specs.declared.halves.Memory.{Memory}
use Rattle.bhs_protocols.specs.declared.halves.Phase.{Phase}
use Rattle.bhs_protocols.specs.declared.halves.Phase.TheVariants.{GoesOut, Leaves, Tries, Turns, Returns, Writes}
use Rattle.bhs_protocols.specs.declared.halves.Phase.TheVariants.{GoesHome, NearsHome, Follows, Passes, Tells}
use Rattle.bhs_protocols.specs.declared.halves.Phase.TheVariants.{ComesHome, NearsBack}
use Rattle.bhs_protocols.specs.Shuttle.{other_in, text_by}
use Rattle.bhs_protocols.specs.Halving.{walks_at}
use Rattle.bhs_protocols.specs.Halves.{own_in, target_by, theirs_by, learned, follows, came_near, goes_back, after_in}
use Rattle.bhs_protocols.proofs.HalvesDues.{owing, paces, tasks, miss, mark_at, beside, come, last, part, told}
use Rattle.bhs_protocols.proofs.SearchLemmas.{agents_two, both, bytes_same, opposite, read_other, sides, text_other}
use Rattle.bhs_protocols.proofs.MovingLemmas as moving
use Rattle.bhs_protocols.proofs.TurnLemmas.{Becomes}
use Rattle.bhs_protocols.proofs.HalvesMarks.{mark_here, read_own}
use Rattle.bhs_protocols.proofs.HalvesState.{Game, IsDone, Onward, Turn, distance, doomed_is, hole_at, mem, nodes_due}
use Rattle.bhs_protocols.proofs.HalvesState.{positive, rest_of, safe_before, stale, trial as trial_of, within_n}
use Rattle.bhs_protocols.proofs.HalvesTurns.{far_safe, held, other_fit, own_fit, paced, part_more, placed_as}
use Rattle.bhs_protocols.proofs.HalvesTurns.{small_side, two_sides}

module _ {game : Game} (on : Turn game) where
  open game use {world, n, right, wakeups, ways, search}
  open on use {s, o, v, w, configuration, pair, inv}

  abbrev trial : Trial
  trial = trial_of game

  abbrev M : Memory
  M = mem game configuration s

  abbrev O : Memory
  O = mem game configuration o

  abbrev B : ℕ
  B = nodes_due game s M v

  abbrev W : ℕ
  W = walks_at n (rest_of game s M v)

  -- ---- arrivals

  pub bound_moves : (node port : ℕ) → configuration.position s ≡ Bound node port
      → can_move_in trial configuration s ≡ not (doomed world node port)
  bound_moves node port at =
      moving.bound_moves trial configuration s (agents_two (sides search) s pair.own) node port at refl

  grows_by : (target k : ℕ) → configuration.reached k ≡ true → changed configuration.reached target true k ≡ true
  grows_by = moving.grows_by configuration.reached

  abbrev pub come_to : (node label : ℕ) → Observation
  come_to node label = Heard (Here (world.net.degree node) (Some label) (configuration.shown node))

  abbrev pub Arrives : (node label : ℕ) → Type 0
  Arrives node label = Becomes configuration (turn_in trial configuration s) s (At node (Some label))
      (come_to node label) 0 0
      (configuration.accused s) configuration.shown (changed configuration.reached node true)

  -- outwards, and towards the home base
  out_to : (side steps : ℕ) → side < 2 → steps + 1 < distance game side
      → configuration.position s ≡ Bound (ways.node side steps) (ways.ahead side steps)
      → Arrives (ways.node side (steps + 1)) (1 - ways.ahead side (steps + 1))
  out_to side steps below before at =
      let within : distance game side < n = within_n game side below in
      let far = search.ring.out side steps below (omega (arith, before, within)) in
      moving.arrives_at trial configuration s (agents_two (sides search) s pair.own) (ways.node side steps)
      (ways.ahead side steps) (ways.node side (steps + 1)) (1 - ways.ahead side (steps + 1)) at refl far
      (doomed_is game (ways.node side steps) (ways.ahead side steps) (ways.node side (steps + 1))
      (1 - ways.ahead side (steps + 1)) far ∙ safe_before game side (steps + 1) below before)

  back_to : (side steps : ℕ) → side < 2 → steps + 1 < n → steps < distance game side
      → configuration.position s ≡ Bound (ways.node side (steps + 1)) (1 - ways.ahead side (steps + 1))
      → Arrives (ways.node side steps) (ways.ahead side steps)
  back_to side steps below within before at =
      let far = search.ring.back side steps below within in
      moving.arrives_at trial configuration s (agents_two (sides search) s pair.own) (ways.node side (steps + 1))
      (1 - ways.ahead side (steps + 1)) (ways.node side steps) (ways.ahead side steps) at refl far
      (doomed_is game (ways.node side (steps + 1)) (1 - ways.ahead side (steps + 1)) (ways.node side steps)
      (ways.ahead side steps) far ∙ safe_before game side steps below before)

  pub leave_turn : (steps : ℕ) → M.phase ≡ Leaves steps
      → Onward game s o v w configuration (turn_in trial configuration s)
  leave_turn steps is =
      let placed = placed_as on (Leaves steps) is in
      let few : steps < M.mine = placed.0 in
      let safe : M.mine < distance game s = (own_fit on).safe in
      let target : ℕ = ways.node s (steps + 1) in
      let label : ℕ = 1 - ways.ahead s (steps + 1) in
      let q : owing B W M.mine M.phase ≡ (B - 0) + (M.mine - (steps + 1)) + W = ap (owing B W M.mine) is in
      let p : paces M.phase ≡ 2 = ap paces is in
      let t : tasks M.phase ≡ 1 = ap tasks is in
      let c : come M.mine M.phase ≡ M.mine = ap (come M.mine) is in
      let within : steps + 1 < n = small_side on s (steps + 1) pair.own (omega (arith, few, safe)) in
      let port : ways.ahead s (steps + 1) < 2 = search.ring.port s (steps + 1) pair.own within in
      paced on M.target M.theirs M.own M.other (GoesOut (steps + 1) (1 - label)) (At target (Some label))
      (come_to target label) 0 0 (configuration.accused s) (changed configuration.reached target true)
      (out_to s steps pair.own (omega (arith, few, safe)) placed.2)
      (ap (λ (ph : Phase). after_in n M ph (come_to target label)) is)
      refl refl (own_fit on).reachable (own_fit on).known
      (omega (arith, few), omega (arith, port), placed.1, record { came = Some label; at = refl }, placed.3)
      (grows_by target)
      (λ k some far. grows_by target (ways.node s k) ((own_fit on).reached k some (omega (arith, far, c))))
      (omega (arith, t)) (omega (arith, q)) (omega (arith, p))

  pub try_turn : M.phase ≡ Tries → can_move_in trial configuration s ≡ true
      → Onward game s o v w configuration (turn_in trial configuration s)
  try_turn is moves =
      let placed = placed_as on Tries is in
      let safe : M.mine < distance game s = (own_fit on).safe in
      let within : distance game s < n = within_n game s pair.own in
      let target : ℕ = ways.node s (M.mine + 1) in
      let label : ℕ = 1 - ways.ahead s (M.mine + 1) in
      let far : world.net.far (ways.node s M.mine) (ways.ahead s M.mine) ≡ (target, label) =
      search.ring.out s M.mine pair.own (omega (arith, safe, within)) in
      let doom : doomed world (ways.node s M.mine) (ways.ahead s M.mine) ≡ (ways.node 0 right == target) =
      doomed_is game (ways.node s M.mine) (ways.ahead s M.mine) target label far in
      elim (eqb_tells (M.mine + 1) (distance game s)) [
        | inl h ↦
            let there : ways.node 0 right ≡ target = sym (hole_at game s pair.own) ∙ ap (ways.node s) (sym h.1) in
            absurd (true≢false (sym moves ∙ bound_moves (ways.node s M.mine) (ways.ahead s M.mine) placed.1
            ∙ ap not (doom ∙ eq-eqb (ways.node 0 right) target there)))
        | inr h ↦
            let before : M.mine + 1 < distance game s = omega (arith, safe, h.1) in
            let q : owing B W M.mine M.phase ≡ (B - 1) + 0 + W = ap (owing B W M.mine) is in
            let p : paces M.phase ≡ 2 = ap paces is in
            let t : tasks M.phase ≡ 1 = ap tasks is in
            let c : come M.mine M.phase ≡ M.mine = ap (come M.mine) is in
            paced on M.target M.theirs M.own M.other (Turns label) (At target (Some label)) (come_to target label) 0 0
            (configuration.accused s) (changed configuration.reached target true)
            (out_to s M.mine pair.own before placed.1)
            (ap (λ (ph : Phase). after_in n M ph (come_to target label)) is)
            refl refl (own_fit on).reachable (own_fit on).known
            (placed.0, before, refl, record { came = Some label; at = refl }, placed.2) (grows_by target)
            (λ k some last. elim (eqb_tells k (M.mine + 1)) [
              | inl it ↦ subst (λ (j : ℕ). changed configuration.reached target true (ways.node s j) ≡ true) (sym it.1)
                  (changed_same configuration.reached target true)
              | inr it ↦ grows_by target (ways.node s k) ((own_fit on).reached k some (omega (arith, last, c, it.1)))
            ])
            (omega (arith, t)) (omega (arith, q)) (omega (arith, p))
      ]

  -- ---- reading

  pub marked_here : configuration.shown (ways.node s M.mine) ≡ text_by s v (beside O.mine w M.mine)
  marked_here = inv.state.marked M.mine (own_fit on).safe
      ∙ ap (λ (k : ℕ). text_by s k (beside O.mine w M.mine)) (mark_here M.mine v M.mine refl)

  pub far_below : opposite s < 2
  far_below = subst (λ (k : ℕ). k < 2) pair.is pair.other

  pub marked_far : (k : ℕ) → k < distance game o
      → configuration.shown (ways.node (opposite s) k) ≡ text_by s (beside M.mine v k) (mark_at O.mine w k)
  marked_far k before =
      subst (λ (side : ℕ). configuration.shown (ways.node side k) ≡ text_by s (beside M.mine v k) (mark_at O.mine w k))
      pair.is (inv.state.marked_too k before
      ∙ text_other s o (beside M.mine v k) (mark_at O.mine w k) pair)

  read_mine : (board : List ℕ) (a b : ℕ) → board ≡ text_by s a b → own_in M.side board ≡ a
  read_mine board a b is = (λ i. own_in ((own_fit on).side i) (is i)) ∙ read_own s a b pair.own

  read_theirs : (board : List ℕ) (a b : ℕ) → board ≡ text_by s a b → other_in M.side board ≡ b
  read_theirs board a b is = (λ i. other_in ((own_fit on).side i) (is i)) ∙ read_other s a b pair.own

  -- who has just read is not stale
  fresh : (board : List ℕ) (a b : ℕ) → board ≡ text_by s a b
      → miss (bytes_eq board (text_by s (own_in M.side board) (other_in M.side board))) ≡ 0
  fresh board a b is =
      ap miss ((λ i. bytes_eq (is i) (text_by s (read_mine board a b is i) (read_theirs board a b is i)))
      ∙ bytes_same (text_by s a b))

  target_twice : (mine target mark : ℕ)
      → target_by n mine (target_by n mine target mark) mark ≡ target_by n mine target mark
  target_twice mine target zero = refl
  target_twice mine target (suc zero) = refl
  target_twice mine target (suc (suc k)) = refl

  theirs_twice : (theirs mark : ℕ) → theirs_by (theirs_by theirs mark) mark ≡ theirs_by theirs mark
  theirs_twice theirs zero = refl
  theirs_twice theirs (suc zero) = refl
  theirs_twice theirs (suc (suc k)) = refl

  -- it reads the whiteboard of its last safe node, and learns what is told there
  pub learns : (place : Position) (news : Observation) (costs port : ℕ) (came : Option ℕ) (seen : ℕ → Bool)
      → Becomes configuration (turn_in trial configuration s) s place news costs 0
      (configuration.accused s) configuration.shown seen
      → after_in n M M.phase news ≡ learned n M port (configuration.shown (ways.node s M.mine))
      → place ≡ At (ways.node s M.mine) came → M.mine < M.target → M.mine + 1 < distance game s
      → port ≡ ways.ahead s M.mine → configuration.accused s ≡ None
      → ((k : ℕ) → configuration.reached k ≡ true → seen k ≡ true)
      → ((k : ℕ) → 0 < k → k ≤ M.mine + 1 → seen (ways.node s k) ≡ true)
      → costs + 1 ≤ tasks M.phase + stale game s M M.phase configuration.shown
      → (B - 2) + 0 + W ≡ owing B W M.mine M.phase
      → 2 ≤ paces M.phase + stale game s M M.phase configuration.shown
      → Onward game s o v w configuration (turn_in trial configuration s)
  learns place news costs port came seen becomes is there more next ahead none grows reached spends dues fewer =
      let board : List ℕ = configuration.shown (ways.node s M.mine) in
      let x : ℕ = own_in M.side board in
      let y : ℕ = other_in M.side board in
      let x_is : x ≡ v = read_mine board v (beside O.mine w M.mine) marked_here in
      let still : stale game s (held on (target_by n M.mine M.target x) (theirs_by M.theirs x) x y (Writes port))
      (Writes port) configuration.shown ≡ 0 = fresh board v (beside O.mine w M.mine) marked_here in
      let part_is : target_by n M.mine M.target x ≡ part n M v = ap (target_by n M.mine M.target) x_is in
      let told_is : theirs_by M.theirs x ≡ told M v = ap (theirs_by M.theirs) x_is in
      let within : M.mine ≤ part n M v = (own_fit on).within in
      let known : told M v ≤ O.mine = (own_fit on).known_too in
      let further : M.mine < part n M v = part_more on more v refl in
      paced on (target_by n M.mine M.target x) (theirs_by M.theirs x) x y (Writes port) place news costs 0
      (configuration.accused s) seen becomes is
      (ap (λ (k : ℕ). target_by n M.mine k v) part_is ∙ target_twice M.mine M.target v)
      (ap (λ (k : ℕ). theirs_by k v) told_is ∙ theirs_twice M.theirs v)
      (omega (arith, part_is, within)) (omega (arith, told_is, known)) (
        omega (arith, part_is, further),
        next,
        ahead,
        record { came = came; at = there },
        target_twice M.mine M.target x,
        theirs_twice M.theirs x,
        none,
      )
      grows reached (omega (arith, still, spends)) (omega (arith, dues)) (omega (arith, still, fewer))

  pub return_turn : M.phase ≡ Returns → Onward game s o v w configuration (turn_in trial configuration s)
  return_turn is =
      let placed = placed_as on Returns is in
      let next : M.mine + 1 < distance game s = placed.1 in
      let safe : M.mine < distance game s = (own_fit on).safe in
      let within : M.mine + 1 < n = small_side on s (M.mine + 1) pair.own next in
      let q : owing B W M.mine M.phase ≡ (B - 2) + 0 + W = ap (owing B W M.mine) is in
      let p : paces M.phase ≡ 2 = ap paces is in
      let t : tasks M.phase ≡ 1 = ap tasks is in
      let c : come M.mine M.phase ≡ M.mine + 1 = ap (come M.mine) is in
      let target : ℕ = ways.node s M.mine in
      let label : ℕ = ways.ahead s M.mine in
      learns (At target (Some label)) (come_to target label) 0 label (Some label)
      (changed configuration.reached target true) (back_to s M.mine pair.own within safe placed.2)
      (ap (λ (ph : Phase). after_in n M ph (come_to target label)) is) refl placed.0 next refl placed.3
      (grows_by target)
      (λ k some far. grows_by target (ways.node s k) ((own_fit on).reached k some (omega (arith, far, c))))
      (omega (arith, t)) (omega (arith, q)) (omega (arith, p))

  -- it reads a whiteboard of the other side on its way to divide
  pub follows_at : (steps port : ℕ) (place : Position) (news : Observation) (costs moved : ℕ) (came : Option ℕ)
      (seen : ℕ → Bool)
      → Becomes configuration (turn_in trial configuration s) s place news costs moved
      (configuration.accused s) configuration.shown seen
      → after_in n M M.phase news ≡ follows M steps port (configuration.shown (ways.node (opposite s) steps))
      → place ≡ At (ways.node (opposite s) steps) came → IsDone game M v → steps ≤ O.mine
      → port ≡ ways.ahead (opposite s) steps → configuration.accused s ≡ None
      → ((k : ℕ) → configuration.reached k ≡ true → seen k ≡ true)
      → ((k : ℕ) → 0 < k → k ≤ M.mine → seen (ways.node s k) ≡ true)
      → costs + 1 ≤ tasks M.phase + stale game s M M.phase configuration.shown + moved
      → moved + ((B - 0) + 0 + (W - (M.mine + steps))) ≡ owing B W M.mine M.phase
      → 2 ≤ paces M.phase + stale game s M M.phase configuration.shown + 2 * moved
      → Onward game s o v w configuration (turn_in trial configuration s)
  follows_at steps port place news costs moved came seen becomes is there done few ahead none grows reached spends
      dues fewer =
      let board : List ℕ = configuration.shown (ways.node (opposite s) steps) in
      let x : ℕ = own_in M.side board in
      let y : ℕ = other_in M.side board in
      let safe_too : O.mine < distance game o = far_safe on in
      let marked : board ≡ text_by s (beside M.mine v steps) (mark_at O.mine w steps) =
      marked_far steps (omega (arith, few, safe_too)) in
      let y_is : y ≡ mark_at O.mine w steps =
      read_theirs board (beside M.mine v steps) (mark_at O.mine w steps) marked in
      by_cases (y == 1) (Onward game s o v w configuration (turn_in trial configuration s))
      (λ yes.
      let one : y ≡ 1 = eqb-true y 1 yes in
      let not_last : steps ≢ O.mine =
      λ h. (other_fit on).plain (sym (mark_here O.mine w steps h) ∙ sym y_is ∙ one) in
      paced on M.target M.theirs x y (Follows steps port) place news costs moved (configuration.accused s) seen becomes
      (is ∙ cond-true _ _ _ yes) refl refl (own_fit on).reachable (own_fit on).known
      (done, omega (arith, few, not_last), ahead, record { came = came; at = there }, none)
      grows reached (omega (arith, spends)) (omega (arith, dues)) (omega (arith, fewer)))
      (λ other.
      let still : stale game s (held on M.target M.theirs x y (Tells steps port)) (Tells steps port) configuration.shown
      ≡ 0 =
      fresh board (beside M.mine v steps) (mark_at O.mine w steps) marked in
      paced on M.target M.theirs x y (Tells steps port) place news costs moved (configuration.accused s) seen becomes
      (is ∙ cond-false _ _ _ other) refl refl (own_fit on).reachable (own_fit on).known (
        done,
        few,
        ahead,
        record { came = came; at = there },
        (λ h. true≢false (sym (eq-eqb y 1 h) ∙ other)),
        none,
      )
      grows reached (omega (arith, still, spends)) (omega (arith, dues)) (omega (arith, still, fewer)))

  pub pass_turn : (steps : ℕ) → M.phase ≡ Passes steps
      → Onward game s o v w configuration (turn_in trial configuration s)
  pass_turn steps is =
      let placed = placed_as on (Passes steps) is in
      let few : steps < O.mine = placed.1 in
      let safe_too : O.mine < distance game o = far_safe on in
      let before : steps + 1 < distance game o = omega (arith, few, safe_too) in
      let before_far : steps + 1 < distance game (opposite s) =
      subst (λ (k : ℕ). steps + 1 < distance game k) pair.is before in
      let target : ℕ = ways.node (opposite s) (steps + 1) in
      let label : ℕ = 1 - ways.ahead (opposite s) (steps + 1) in
      let q : owing B W M.mine M.phase ≡ (B - 0) + 0 + (W - (M.mine + (steps + 1))) = ap (owing B W M.mine) is in
      let p : paces M.phase ≡ 2 = ap paces is in
      let t : tasks M.phase ≡ 1 = ap tasks is in
      let c : come M.mine M.phase ≡ M.mine = ap (come M.mine) is in
      let within : steps + 1 < n = small_side on o (steps + 1) pair.other before in
      let port : ways.ahead (opposite s) (steps + 1) < 2 =
      search.ring.port (opposite s) (steps + 1) far_below within in
      follows_at (steps + 1) (1 - label) (At target (Some label)) (come_to target label) 0 0 (Some label)
      (changed configuration.reached target true) (out_to (opposite s) steps far_below before_far placed.2)
      (ap (λ (ph : Phase). after_in n M ph (come_to target label)) is) refl placed.0 (omega (arith, few))
      (omega (arith, port)) placed.3 (grows_by target)
      (λ k some far. grows_by target (ways.node s k) ((own_fit on).reached k some (omega (arith, far, c))))
      (omega (arith, t)) (omega (arith, q)) (omega (arith, p))

  pub homes_are : ways.node s 0 ≡ ways.node (opposite s) 0
  homes_are = search.ring.home s ∙ sym (search.ring.home (opposite s))

  firsts_are : 1 - ways.ahead s 0 ≡ ways.ahead (opposite s) 0
  firsts_are =
      ap (λ (k : ℕ). 1 - k) (search.ring.first s pair.own)
      ∙ both (λ (k : ℕ). 1 - k ≡ opposite k) refl refl s pair.own
      ∙ sym (search.ring.first (opposite s) far_below)

  pub firsts_back : 1 - ways.ahead (opposite s) 0 ≡ ways.ahead s 0
  firsts_back =
      ap (λ (k : ℕ). 1 - k) (search.ring.first (opposite s) far_below)
      ∙ both (λ (k : ℕ). 1 - opposite k ≡ k) refl refl s pair.own ∙ sym (search.ring.first s pair.own)

  pub near_turn : (steps rest : ℕ) → steps ≡ suc rest → M.phase ≡ NearsHome steps
      → Onward game s o v w configuration (turn_in trial configuration s)
  near_turn steps zero last is =
      let placed = placed_as on (NearsHome steps) is in
      let few : steps ≤ M.mine = placed.2 in
      let safe : M.mine < distance game s = (own_fit on).safe in
      let within : distance game s < n = within_n game s pair.own in
      let one : steps ≡ 0 + 1 = omega (arith, last) in
      let at : configuration.position s ≡ Bound (ways.node s (0 + 1)) (1 - ways.ahead s (0 + 1)) =
      placed.3 ∙ ap (λ (k : ℕ). Bound (ways.node s k) (1 - ways.ahead s k)) one in
      let target : ℕ = ways.node s 0 in
      let label : ℕ = ways.ahead s 0 in
      let none_left : steps - 1 ≡ 0 = omega (arith, last) in
      let q : owing B W M.mine M.phase ≡ (B - 0) + 0 + (W - (M.mine - (steps - 1))) = ap (owing B W M.mine) is in
      let p : paces M.phase ≡ 2 = ap paces is in
      let t : tasks M.phase ≡ 1 = ap tasks is in
      let c : come M.mine M.phase ≡ M.mine = ap (come M.mine) is in
      follows_at 0 (1 - label) (At target (Some label)) (come_to target label) 0 0 (Some label)
      (changed configuration.reached target true)
      (back_to s 0 pair.own (omega (arith, safe, within, few, last)) (omega (arith, safe)) at)
      (ap (λ (ph : Phase). after_in n M ph (come_to target label)) is
      ∙ ap (λ (k : ℕ). came_near M k label (configuration.shown target)) none_left
      ∙ ap (λ (k : ℕ). follows M 0 (1 - label) (configuration.shown k)) homes_are)
      (ap (λ (k : ℕ). At k (Some label)) homes_are) placed.0 (omega arith) firsts_are placed.4 (grows_by target)
      (λ k some far. grows_by target (ways.node s k) ((own_fit on).reached k some (omega (arith, far, c))))
      (omega (arith, t)) (omega (arith, q, last)) (omega (arith, p))
  near_turn steps (suc k) last is =
      let placed = placed_as on (NearsHome steps) is in
      let few : steps ≤ M.mine = placed.2 in
      let safe : M.mine < distance game s = (own_fit on).safe in
      let within : distance game s < n = within_n game s pair.own in
      let one : steps ≡ suc k + 1 = omega (arith, last) in
      let at : configuration.position s ≡ Bound (ways.node s (suc k + 1)) (1 - ways.ahead s (suc k + 1)) =
      placed.3 ∙ ap (λ (j : ℕ). Bound (ways.node s j) (1 - ways.ahead s j)) one in
      let target : ℕ = ways.node s (suc k) in
      let label : ℕ = ways.ahead s (suc k) in
      let less : steps - 1 ≡ suc k = omega (arith, last) in
      let q : owing B W M.mine M.phase ≡ (B - 0) + 0 + (W - (M.mine - (steps - 1))) = ap (owing B W M.mine) is in
      let p : paces M.phase ≡ 2 = ap paces is in
      let t : tasks M.phase ≡ 1 = ap tasks is in
      let c : come M.mine M.phase ≡ M.mine = ap (come M.mine) is in
      paced on M.target M.theirs M.own M.other (GoesHome (suc k) (1 - label)) (At target (Some label))
      (come_to target label) 0 0 (configuration.accused s) (changed configuration.reached target true)
      (back_to s (suc k) pair.own (omega (arith, safe, within, few, last)) (omega (arith, safe, few, last)) at)
      (ap (λ (ph : Phase). after_in n M ph (come_to target label)) is
      ∙ ap (λ (j : ℕ). came_near M j label (configuration.shown target)) less)
      refl refl (own_fit on).reachable (own_fit on).known
      (placed.0, omega arith, omega (arith, few, last), refl, record { came = Some label; at = refl }, placed.4)
      (grows_by target)
      (λ j some far. grows_by target (ways.node s j) ((own_fit on).reached j some (omega (arith, far, c))))
      (omega (arith, t)) (omega (arith, q, last)) (omega (arith, p))

  pub back_turn : (steps rest : ℕ) → steps ≡ suc rest → M.phase ≡ NearsBack steps
      → Onward game s o v w configuration (turn_in trial configuration s)
  back_turn steps zero last is =
      let placed = placed_as on (NearsBack steps) is in
      let more : M.mine < M.target = placed.0 in
      let few : steps ≤ O.mine = placed.2 in
      let two : M.mine + O.mine + 2 ≤ n = two_sides on in
      let one : steps ≡ 0 + 1 = omega (arith, last) in
      let at : configuration.position s ≡ Bound (ways.node (opposite s) (0 + 1)) (1 - ways.ahead (opposite s) (0 + 1)) =
      placed.3 ∙ ap (λ (k : ℕ). Bound (ways.node (opposite s) k) (1 - ways.ahead (opposite s) k)) one in
      let target : ℕ = ways.node (opposite s) 0 in
      let label : ℕ = ways.ahead (opposite s) 0 in
      let less : steps - 1 ≡ 0 = omega (arith, last) in
      let before : 0 < distance game (opposite s) = positive game (opposite s) far_below in
      let q : owing B W M.mine M.phase ≡ (B - 0) + (M.mine + (steps - 1)) + W = ap (owing B W M.mine) is in
      let p : paces M.phase ≡ 2 = ap paces is in
      let t : tasks M.phase ≡ 1 = ap tasks is in
      let c : come M.mine M.phase ≡ M.mine = ap (come M.mine) is in
      paced on M.target M.theirs M.own M.other (GoesOut 0 (1 - label)) (At target (Some label))
      (come_to target label) 0 0 (configuration.accused s) (changed configuration.reached target true)
      (back_to (opposite s) 0 far_below (omega (arith, two, few, last)) before at)
      (ap (λ (ph : Phase). after_in n M ph (come_to target label)) is
      ∙ ap (λ (j : ℕ). goes_back M j (1 - label)) less)
      refl refl (own_fit on).reachable (own_fit on).known (
        omega arith,
        firsts_back,
        (λ h. absurd (omega (arith, h, more))),
        record { came = Some label; at = ap (λ (k : ℕ). At k (Some label)) (sym homes_are) },
        placed.4,
      )
      (grows_by target)
      (λ j some far. grows_by target (ways.node s j) ((own_fit on).reached j some (omega (arith, far, c))))
      (omega (arith, t)) (omega (arith, q, last)) (omega (arith, p))
  back_turn steps (suc k) last is =
      let placed = placed_as on (NearsBack steps) is in
      let few : steps ≤ O.mine = placed.2 in
      let safe_too : O.mine < distance game o = far_safe on in
      let two : M.mine + O.mine + 2 ≤ n = two_sides on in
      let one : steps ≡ suc k + 1 = omega (arith, last) in
      let at : configuration.position s
      ≡ Bound (ways.node (opposite s) (suc k + 1)) (1 - ways.ahead (opposite s) (suc k + 1)) =
      placed.3 ∙ ap (λ (j : ℕ). Bound (ways.node (opposite s) j) (1 - ways.ahead (opposite s) j)) one in
      let target : ℕ = ways.node (opposite s) (suc k) in
      let label : ℕ = ways.ahead (opposite s) (suc k) in
      let less : steps - 1 ≡ suc k = omega (arith, last) in
      let before : suc k < distance game o = omega (arith, few, safe_too, last) in
      let before_far : suc k < distance game (opposite s) = subst (λ (j : ℕ). suc k < distance game j) pair.is before in
      let q : owing B W M.mine M.phase ≡ (B - 0) + (M.mine + (steps - 1)) + W = ap (owing B W M.mine) is in
      let p : paces M.phase ≡ 2 = ap paces is in
      let t : tasks M.phase ≡ 1 = ap tasks is in
      let c : come M.mine M.phase ≡ M.mine = ap (come M.mine) is in
      paced on M.target M.theirs M.own M.other (ComesHome (suc k) (1 - label)) (At target (Some label))
      (come_to target label) 0 0 (configuration.accused s) (changed configuration.reached target true)
      (back_to (opposite s) (suc k) far_below (omega (arith, two, few, last)) before_far at)
      (ap (λ (ph : Phase). after_in n M ph (come_to target label)) is
      ∙ ap (λ (j : ℕ). goes_back M j (1 - label)) less)
      refl refl (own_fit on).reachable (own_fit on).known
      (placed.0, omega arith, omega (arith, few, last), refl, record { came = Some label; at = refl }, placed.4)
      (grows_by target)
      (λ j some far. grows_by target (ways.node s j) ((own_fit on).reached j some (omega (arith, far, c))))
      (omega (arith, t)) (omega (arith, q, last)) (omega (arith, p))
