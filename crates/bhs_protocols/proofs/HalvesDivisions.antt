-- The search by halves: an agent divides what is left.
use Rattle.std.proofs.Common.{ℕ, zero, suc, ◌+◌, ◌-◌, ◌*◌, ◌/◌, ◌<◌, ◌≤◌, ◌≡◌, true, false, ◌==◌, Option, None}
use Rattle.std.proofs.Common.{List, length, refl, sym, ap, ◌∙◌, subst, nat_lt, inl, inr, arith}
use Rattle.std.specs.Prelude.{◌≢◌, bytes_eq}
use Rattle.std.proofs.lemmas.Bool.{lt-ltb, ltb-true, true≢false, eq-eqb, cond-true, cond-false, eqb-true, le-ltb}
use Rattle.std.proofs.lemmas.Bool.Decides.{eqb_tells}
use Rattle.bhs_model.specs.declared.commands.Command.TheVariants.{Write}
use Rattle.bhs_model.specs.declared.replies.Reply.TheVariants.{Written, Changed, Noted}
use Rattle.bhs_model.specs.Runs.{At, changed}
use Rattle.bhs_model.proofs.StepLemmas.{by_cases, changed_same}
use Rattle.bhs_schedules.specs.declared.answers.Step.TheVariants.{Says}
use Rattle.bhs_schedules.specs.Strategies.{Heard}
use Rattle.bhs_schedules.specs.Schedules.{Trial}
use Rattle.bhs_protocols.specs.Configurations.{turn_in}
use Rattle.bhs_protocols.specs.declared.halves.Memory.{Memory}
use Rattle.bhs_protocols.specs.declared.halves.Phase.{Phase}
use Rattle.bhs_protocols.specs.declared.halves.Phase.TheVariants.{Begins, GoesOut, Leaves, GoesHome, NearsHome, Follows}
use Rattle.bhs_protocols.specs.declared.halves.Phase.TheVariants.{Passes, Tells, ComesHome}
use Rattle.bhs_protocols.specs.Shuttle.{other_in, text_by}
use Rattle.bhs_protocols.specs.Halving.{rounds, walks_at}
use Rattle.bhs_protocols.specs.Halves.{own_in, left_by, does_in, after_in}
use Rattle.bhs_protocols.proofs.HalvesDues.{spent, back, ways_due, owing, paces, tasks, miss, mark_at, beside, come}
use Rattle.bhs_protocols.proofs.HalvesDues.{last, part, told}
use Rattle.bhs_protocols.proofs.SearchLemmas.{agents_two, both, opposite, read_other, sides, text_fits, text_other}
use Rattle.bhs_protocols.proofs.HalvingLemmas.{ways_are_paid, rounds_half, rounds_within, walks_at_within}
use Rattle.bhs_protocols.proofs.TurnLemmas.{writes, writes_not}
use Rattle.bhs_protocols.proofs.HalvesMarks.{mark_after, mark_before, mark_here, read_own}
use Rattle.bhs_protocols.proofs.HalvesState.{Game, IsDone, IsPlaced, Onward, Turn, assembled, distance, due, link, mem}
use Rattle.bhs_protocols.proofs.HalvesState.{nodes_due, rest_of, stale, trial as trial_of}
use Rattle.bhs_protocols.proofs.HalvesTurns.{tasks_few}
use Rattle.bhs_protocols.proofs.HalvesTurns.{accuse_turn, ahead_fits, by_port, distances, done_part, far_safe, has_room}
use Rattle.bhs_protocols.proofs.HalvesTurns.{other_fit, own_fit, part_small, placed_as, small_side, two_sides}
use Rattle.bhs_protocols.proofs.HalvesArrivals.{far_below, firsts_back, follows_at, homes_are, marked_far}
use Rattle.bhs_protocols.proofs.HalvesWrites.{same_bytes, shown_across, shown_there, stale_small}

module _ {game : Game} (on : Turn game) where
  open game use {world, n, left, ways, search, room}
  open on use {s, o, v, w, configuration, pair, inv}

  abbrev trial : Trial
  trial = trial_of game

  abbrev M : Memory
  M = mem game configuration s

  abbrev O : Memory
  O = mem game configuration o

  abbrev B : ℕ
  B = nodes_due game s M v

  abbrev W : ℕ
  W = walks_at n (rest_of game s M v)

  -- ---- it divides what is left

  -- the other agent's part is not explored
  far_more_left : IsDone game M v → O.mine < part n O w
  far_more_left done =
      let is = done_part on done in
      let part_is : part n M v ≡ M.mine = is.0 in
      let sum : part n M v + part n O w + 1 ≡ n = inv.state.sum in
      let two : M.mine + O.mine + 2 ≤ n = two_sides on in
      omega (arith, part_is, sum, two)

  not_done : IsDone game M v → O.mine ≡ O.target → w ≡ 0 → ⊥
  not_done done reached unmarked =
      let further : O.mine < part n O w = far_more_left done in
      let part_is : part n O w ≡ O.mine = ap (part n O) unmarked ∙ sym reached in
      omega (arith, further, part_is)

  -- The partner keeps its position, with one more mark ahead of it.
  told_more : IsDone game M v → (mark : ℕ) → (phase : Phase)
      → IsPlaced game o O M.mine w phase (configuration.position o) (configuration.accused o)
      → IsPlaced game o O M.mine mark phase (configuration.position o) (configuration.accused o)
  told_more done mark Begins placed =
      (placed.0, placed.1, (λ h. absurd (not_done done h (placed.2 h))), placed.3)
  told_more done mark (GoesOut steps port) placed =
      (placed.0, placed.1, (λ h. absurd (not_done done h (placed.2 h))), placed.3, placed.4)
  told_more done mark (Leaves steps) placed =
      (placed.0, (λ h. absurd (not_done done h (placed.1 h))), placed.2, placed.3)
  told_more done mark (GoesHome steps port) placed =
      absurd (not_done done placed.0.reached placed.0.unmarked)
  told_more done mark (NearsHome steps) placed = absurd (not_done done placed.0.reached placed.0.unmarked)
  told_more done mark (Follows steps port) placed = absurd (not_done done placed.0.reached placed.0.unmarked)
  told_more done mark (Passes steps) placed = absurd (not_done done placed.0.reached placed.0.unmarked)
  told_more done mark (Tells steps port) placed = absurd (not_done done placed.0.reached placed.0.unmarked)
  told_more done mark phase placed = placed

  spent_small : (phase : Phase) → spent phase ≤ 2
  spent_small Begins = omega arith
  spent_small phase = omega arith

  ways_small : (amount mine : ℕ) (phase : Phase) → ways_due amount mine phase ≤ amount
  ways_small amount mine Begins = omega arith
  ways_small amount mine phase = omega arith

  mark_told : (mark k : ℕ) → k ≢ O.mine → mark_at O.mine mark k ≡ mark_at O.mine w k
  mark_told mark k other = by_cases (nat_lt k O.mine) (mark_at O.mine mark k ≡ mark_at O.mine w k)
      (λ yes.
      let less : k < O.mine = ltb-true k O.mine yes in
      mark_before O.mine mark k less ∙ sym (mark_before O.mine w k less))
      (λ none.
      let not_less : (k < O.mine) → ⊥ = λ h. true≢false (sym (lt-ltb k O.mine h) ∙ none) in
      let above : O.mine < k = omega (arith, not_less, other) in
      mark_after O.mine mark k above ∙ sym (mark_after O.mine w k above))

  beside_told : (mark k : ℕ) → 0 < O.mine + k → beside O.mine mark k ≡ beside O.mine w k
  beside_told mark zero some = mark_told mark 0 (omega (arith, some))
  beside_told mark (suc k) some = refl

  -- what the agent holds after that, in numbers
  abbrev pub told_memory : (steps : ℕ) → Phase → Memory
  told_memory steps phase =
      record M { theirs = steps; target = M.mine + left_by n M.mine steps / 2; phase = phase }

  divides : (steps port : ℕ) (came : Option ℕ) (phase : Phase) → M.phase ≡ Tells steps port → IsDone game M v
      → steps ≡ O.mine → left_by n M.mine steps ≢ 1 → spent phase ≡ 0 → back M.mine phase ≡ M.mine + steps
      → ((amount : ℕ) → ways_due amount M.mine phase ≡ amount) → paces phase ≡ 1 → come M.mine phase ≡ M.mine
      → ((shown : ℕ → List ℕ) → stale game s (told_memory steps phase) phase shown ≡ 0)
      → trial.strategies s (configuration.history s)
      ≡ Says (Write (text_by s M.own M.other) (text_by s M.own (M.mine + 2)))
      → configuration.position s ≡ At (ways.node (opposite s) steps) came
      → bytes_eq (configuration.shown (ways.node (opposite s) steps)) (text_by s M.own M.other) ≡ true
      → after_in n M M.phase (Heard Written) ≡ told_memory steps phase
      → IsPlaced game s (told_memory steps phase) O.mine 0 phase (At (ways.node (opposite s) steps) came)
      (configuration.accused s)
      → M.own ≡ beside M.mine v steps → Onward game s o v w configuration (turn_in trial configuration s)
  divides steps port came phase is done last_node not_one none_spent back_is ways_are one c none_stale says at same
      holds placed own_is =
      let after : Memory = told_memory steps phase in
      let node : ℕ = ways.node (opposite s) steps in
      let put : List ℕ = text_by s M.own (M.mine + 2) in
      let shown : ℕ → List ℕ = changed configuration.shown node put in
      let rest : ℕ = n - 1 - M.mine - steps in
      let length_of : length put ≤ 4 = text_fits s M.own (M.mine + 2) pair.own in
      let fits : length put ≤ world.board = omega (arith, length_of, room) in
      let p : paces M.phase ≡ 1 = ap paces is in
      let t : tasks M.phase ≡ 1 = ap tasks is in
      let few_tasks : tasks phase ≤ 1 = tasks_few on phase in
      let cm : come M.mine M.phase ≡ M.mine = ap (come M.mine) is in
      let two : M.mine + O.mine + 2 ≤ n = two_sides on in
      let enough_left : 2 ≤ rest = omega (arith, two, last_node, not_one) in
      let all : M.mine + steps + rest + 1 ≡ n = omega (arith, two, last_node) in
      let parts = done_part on done in
      let part_is : part n M v ≡ M.mine = parts.0 in
      let told_is : told M v ≡ M.theirs = parts.1 in
      let safe : M.mine < distance game s = (own_fit on).safe in
      let safe_too : O.mine < distance game o = far_safe on in
      let ds : distance game s + distance game o ≡ n = distances on in
      let known : M.theirs ≤ O.mine = (own_fit on).known in
      let known_too : O.theirs ≤ M.mine = (other_fit on).known in
      let reachable_too : O.mine ≤ O.target = (other_fit on).reachable in
      let sum : part n M v + part n O w + 1 ≡ n = inv.state.sum in
      let mark : ℕ = M.mine + 2 in
      let mark_is : mark ≡ suc (suc M.mine) = omega arith in
      let part_s : part n after 0 ≡ M.mine + rest / 2 = refl in
      let part_o : part n O mark ≡ O.mine + (n - O.mine - M.mine) / 2 = ap (part n O) mark_is in
      let told_o : told O mark ≡ M.mine = ap (told O) mark_is in
      -- before: the agent's part is explored, so the black hole is in the other's
      let before_s : part n M v < distance game s = omega (arith, part_is, safe) in
      let last_s : last (part n M v) (distance game s) ≡ 0 = cond-true _ _ _ (part_small on before_s) in
      let rest_s : rest_of game s M v ≡ n - 1 - part n M v - told M v = cond-true _ _ _ (part_small on before_s) in
      let over_o : nat_lt (part n O w) (distance game o) ≡ false =
      le-ltb (part n O w) (distance game o) (omega (arith, sum, part_is, safe, ds)) in
      let last_o : last (part n O w) (distance game o) ≡ 1 = cond-false _ _ _ over_o in
      let rest_o : rest_of game o O w ≡ 1 = cond-false _ _ _ over_o in
      let rounds_o : rounds (rest_of game o O w) ≡ 0 = ap rounds rest_o in
      let walks_o : walks_at n (rest_of game o O w) ≡ 0 = ap (walks_at n) rest_o in
      let q : owing B W M.mine M.phase ≡ (B - 0) + 0 + (W - (M.mine + steps)) = ap (owing B W M.mine) is in
      let wider : rest ≤ rest_of game s M v = omega (arith, rest_s, part_is, told_is, known, last_node) in
      let paid : 2 * (n - 1 - rest) + walks_at n (rest - rest / 2) ≤ W =
      ways_are_paid n (rest_of game s M v) rest enough_left wider in
      let halved : rounds (rest - rest / 2) + 1 ≤ rounds rest = rounds_half rest enough_left in
      let rounds_more : rounds rest ≤ rounds (rest_of game s M v) = rounds_within rest (rest_of game s M v) wider in
      let small_spent : spent O.phase ≤ 2 = spent_small O.phase in
      let small : stale game o O O.phase shown ≤ 1 = stale_small on O.phase shown in
      let st : stale game s M M.phase configuration.shown ≡ 0 =
      ap (λ (ph : Phase). stale game s M ph configuration.shown) is ∙ ap miss same in
      let st_after : stale game s after phase shown ≡ 0 = none_stale shown in
      let ways_after : ways_due (walks_at n (rest_of game s after 0)) M.mine phase
      ≡ walks_at n (rest_of game s after 0) =
      ways_are (walks_at n (rest_of game s after 0)) in
      let ways_o : ways_due (walks_at n (rest_of game o O mark)) O.mine O.phase ≤ walks_at n (rest_of game o O mark) =
      ways_small (walks_at n (rest_of game o O mark)) O.mine O.phase in
      let exactly : part n after 0 < distance game s
      → 0 + due game s after 0 + due game o O mark + W
      ≡ due game s M v + due game o O w + 2 * (n - 1 - rest) + walks_at n (rest - rest / 2) = λ before.
      let yes : nat_lt (part n after 0) (distance game s) ≡ true =
      lt-ltb (part n after 0) (distance game s) before in
      let last_s_after : last (part n after 0) (distance game s) ≡ 0 = cond-true _ _ _ yes in
      let rest_after : rest_of game s after 0 ≡ rest - rest / 2 =
      cond-true _ _ _ yes ∙ halves_left M.mine steps rest all in
      let over : nat_lt (part n O mark) (distance game o) ≡ false =
      le-ltb (part n O mark) (distance game o) (omega (arith, before, part_s, part_o, all, last_node, ds)) in
      let last_o_after : last (part n O mark) (distance game o) ≡ 1 = cond-false _ _ _ over in
      let rest_o_after : rest_of game o O mark ≡ 1 = cond-false _ _ _ over in
      let walks_after : walks_at n (rest_of game s after 0) ≡ walks_at n (rest - rest / 2) =
      ap (walks_at n) rest_after in
      let walks_o_after : walks_at n (rest_of game o O mark) ≡ 0 = ap (walks_at n) rest_o_after in
      let ways_same : ways_due (walks_at n (rest_of game o O mark)) O.mine O.phase
      ≡ ways_due (walks_at n (rest_of game o O w)) O.mine O.phase =
      ap (λ (k : ℕ). ways_due k O.mine O.phase) (walks_o_after ∙ sym walks_o) in
      omega (
        arith,
        q,
        none_spent,
        back_is,
        ways_after,
        ways_same,
        last_s,
        last_s_after,
        last_o,
        last_o_after,
        walks_after,
        paid,
        all,
      ) in
      let numbers : (due game s after 0 + due game o O mark ≤ due game s M v + due game o O w)
      × (rounds (rest_of game s after 0) + rounds (rest_of game o O mark) + 1
      ≤ rounds (rest_of game s M v) + rounds (rest_of game o O w)) =
      by_cases (nat_lt (part n after 0) (distance game s))
      ((due game s after 0 + due game o O mark ≤ due game s M v + due game o O w)
      × (rounds (rest_of game s after 0) + rounds (rest_of game o O mark) + 1
      ≤ rounds (rest_of game s M v) + rounds (rest_of game o O w)))
      (λ yes.
      let before : part n after 0 < distance game s = ltb-true (part n after 0) (distance game s) yes in
      let exact : 0 + due game s after 0 + due game o O mark + W
      ≡ due game s M v + due game o O w + 2 * (n - 1 - rest) + walks_at n (rest - rest / 2) = exactly before in
      let rest_after : rest_of game s after 0 ≡ rest - rest / 2 =
      cond-true _ _ _ yes ∙ halves_left M.mine steps rest all in
      let over : nat_lt (part n O mark) (distance game o) ≡ false =
      le-ltb (part n O mark) (distance game o) (omega (arith, before, part_s, part_o, all, last_node, ds)) in
      let rest_o_after : rest_of game o O mark ≡ 1 = cond-false _ _ _ over in
      let rounds_after : rounds (rest_of game s after 0) ≡ rounds (rest - rest / 2) = ap rounds rest_after in
      let rounds_o_after : rounds (rest_of game o O mark) ≡ 0 = ap rounds rest_o_after in (
        omega (arith, exact, paid),
        omega (arith, rounds_after, rounds_o_after, halved, rounds_more),
      ))
      (λ none.
      let above : distance game s ≤ part n after 0 = not_below (part n after 0) (distance game s) none in
      let last_s_after : last (part n after 0) (distance game s) ≡ 1 = cond-false _ _ _ none in
      let rest_after : rest_of game s after 0 ≡ 1 = cond-false _ _ _ none in
      let before : part n O mark < distance game o = omega (arith, above, part_s, part_o, all, last_node, ds) in
      let small_o : nat_lt (part n O mark) (distance game o) ≡ true = lt-ltb (part n O mark) (distance game o) before in
      let last_o_after : last (part n O mark) (distance game o) ≡ 0 = cond-true _ _ _ small_o in
      let rest_o_after : rest_of game o O mark ≡ n - 1 - part n O mark - told O mark = cond-true _ _ _ small_o in
      let fewer_left : rest_of game o O mark ≤ rest - rest / 2 =
      omega (arith, rest_o_after, part_o, told_o, all, last_node) in
      let walks_after : walks_at n (rest_of game s after 0) ≡ 0 = ap (walks_at n) rest_after in
      let walks_o_after : walks_at n (rest_of game o O mark) ≤ walks_at n (rest - rest / 2) =
      walks_at_within n (rest_of game o O mark) (rest - rest / 2) fewer_left in
      let rounds_after : rounds (rest_of game s after 0) ≡ 0 = ap rounds rest_after in
      let rounds_o_after : rounds (rest_of game o O mark) ≤ rounds (rest - rest / 2) =
      rounds_within (rest_of game o O mark) (rest - rest / 2) fewer_left in
      let next_o : O.mine + 1 < distance game o = omega (arith, before, part_o, all, last_node, enough_left) in (
        omega (
          arith,
          q,
          none_spent,
          back_is,
          ways_after,
          ways_o,
          last_s,
          last_s_after,
          last_o,
          last_o_after,
          walks_after,
          walks_o_after,
          paid,
          all,
          next_o,
          small_spent,
        ),
        omega (arith, rounds_after, rounds_o_after, halved, rounds_more),
      )) in
      let dues : due game s after 0 + due game o O mark ≤ due game s M v + due game o O w = numbers.0 in
      let rounds_fewer : rounds (rest_of game s after 0) + rounds (rest_of game o O mark) + 1
      ≤ rounds (rest_of game s M v) + rounds (rest_of game o O w) = numbers.1 in
      let far_step : steps < distance game (opposite s) =
      subst (λ (side : ℕ). steps < distance game side) pair.is (omega (arith, last_node, safe_too)) in
      assembled game s o v w configuration (turn_in trial configuration s) after (At node came) (Heard Written) 1 0
      (configuration.accused s) 0 mark shown configuration.reached pair inv
      (writes trial configuration s (agents_two (sides search) s pair.own) node came
      (text_by s M.own M.other) put at says
      (has_room on (omega (arith, p))) fits same)
      holds
      (record {
        state = record {
          own = record {
            side = (own_fit on).side;
            placed = placed;
            safe = safe;
            within = omega arith;
            reachable = omega arith;
            plain = λ h. omega (arith, h);
            known = omega (arith, last_node);
            known_too = omega (arith, last_node);
            two = omega (arith, all, enough_left);
            half = omega (arith, all);
            reached = λ k some far. (own_fit on).reached k some (omega (arith, far, c, cm));
          };
          other = record {
            side = (other_fit on).side;
            placed = told_more done mark O.phase (other_fit on).placed;
            safe = (other_fit on).safe;
            within = omega (arith, part_o);
            reachable = reachable_too;
            plain = λ h. omega (arith, h);
            known = known_too;
            known_too = omega (arith, told_o);
            two = omega (arith, part_o, told_o, all, enough_left, last_node);
            half = omega (arith, part_o, told_o, all, last_node);
            reached = (other_fit on).reached;
          };
          sum = omega (arith, part_o, all, last_node);
          marked = λ k before. by_cases (nat_lt 0 (steps + k))
              (shown (ways.node s k) ≡ text_by s (mark_at M.mine 0 k) (beside O.mine mark k))
              (λ some.
              let more : 0 < steps + k = ltb-true 0 (steps + k) some in
              across_from steps k put far_step before more ∙ inv.state.marked k before
              ∙ (λ i. text_by s (mark_at M.mine (done.unmarked i) k)
              (sym (beside_told mark k (omega (arith, more, last_node))) i)))
              (λ none.
              let nothing : steps + k ≤ 0 = not_above (steps + k) none in
              let steps_none : steps ≡ 0 = omega (arith, nothing) in
              let k_none : k ≡ 0 = omega (arith, nothing) in
              let there : ways.node s k ≡ node =
              ap (ways.node s) k_none ∙ homes_are on ∙ ap (ways.node (opposite s)) (sym steps_none) in
              let here : mark_at O.mine mark 0 ≡ mark =
              mark_here O.mine mark 0 (omega (arith, last_node, steps_none)) in
              ap shown there ∙ changed_same configuration.shown node put
              ∙ (λ i. text_by s ((own_is ∙ ap (beside M.mine v) steps_none
              ∙ ap (λ (j : ℕ). mark_at M.mine j 0) done.unmarked) i) (sym here i))
              ∙ ap (λ (j : ℕ). text_by s (mark_at M.mine 0 j) (beside O.mine mark j)) (sym k_none));
          marked_too = λ k before. elim (eqb_tells k steps) [
            | inl h ↦
                let here : mark_at O.mine mark k ≡ mark = mark_here O.mine mark k (omega (arith, h.1, last_node)) in
                ap (λ (side : ℕ). shown (ways.node side k)) pair.is
                ∙ ap (λ (j : ℕ). shown (ways.node (opposite s) j)) h.1 ∙ changed_same configuration.shown node put
                ∙ (λ i. text_by s (own_is i) (sym here i))
                ∙ ap (λ (j : ℕ). text_by s (beside M.mine v j) (mark_at O.mine mark k)) (sym h.1)
                ∙ sym (text_other s o (beside M.mine v k) (mark_at O.mine mark k) pair)
                ∙ ap (λ (j : ℕ). text_by o (mark_at O.mine mark k) (beside M.mine j k)) done.unmarked
            | inr h ↦
                subst (λ (side : ℕ). shown (ways.node side k) ≡ configuration.shown (ways.node side k)) (sym pair.is)
                (shown_there on (opposite s) steps k put (far_below on) far_step
                (subst (λ (side : ℕ). k < distance game side) pair.is before) h.1)
                ∙ inv.state.marked_too k before
                ∙ (λ i. text_by o (sym (mark_told mark k (λ j. h.1 (j ∙ sym last_node))) i)
                (beside M.mine (done.unmarked i) k))
          ];
        };
        spends = omega (arith, dues, rounds_fewer, small, st, st_after, t, few_tasks);
        dues = omega (arith, dues);
        progress = inr (inl (record {
          rest = rest;
          all = omega (arith, all, last_node);
          more = enough_left;
          explored = part_is;
          part_is = part_s;
          told_is = last_node;
          exactly = exactly;
        }));
        fewer = omega (arith, dues, rounds_fewer, small, st, st_after, p, one);
      })
    where
      not_below : (a b : ℕ) → nat_lt a b ≡ false → b ≤ a
      not_below a b none =
          let not_less : (a < b) → ⊥ = λ h. true≢false (sym (lt-ltb a b h) ∙ none) in omega (arith, not_less)

      not_above : (a : ℕ) → nat_lt 0 a ≡ false → a ≤ 0
      not_above a none = not_below 0 a none

      halves_left : (a b rest : ℕ) → a + b + rest + 1 ≡ n → n - 1 - (a + rest / 2) - b ≡ rest - rest / 2
      halves_left a b rest all = omega (arith, all)

      across_from : (j k : ℕ) (put : List ℕ) → j < distance game (opposite s) → k < distance game s → 0 < j + k
          → changed configuration.shown (ways.node (opposite s) j) put (ways.node s k)
          ≡ configuration.shown (ways.node s k)
      across_from j k put before before_too some =
          let is : opposite (opposite s) ≡ s =
          both (λ (side : ℕ). opposite (opposite side) ≡ side) refl refl s pair.own in
          subst (λ (side : ℕ). k < distance game side → changed configuration.shown (ways.node (opposite s) j) put
          (ways.node side k) ≡ configuration.shown (ways.node side k)) is
          (λ within. shown_across on (opposite s) j k put (far_below on) before within some) before_too

  pub tell_turn : (steps port : ℕ) → M.phase ≡ Tells steps port
      → Onward game s o v w configuration (turn_in trial configuration s)
  tell_turn steps port is =
      let placed = placed_as on (Tells steps port) is in
      let done : IsDone game M v = placed.0 in
      let few : steps ≤ O.mine = placed.1 in
      let safe_too : O.mine < distance game o = far_safe on in
      let two : M.mine + O.mine + 2 ≤ n = two_sides on in
      let within : steps < n = small_side on o steps pair.other (omega (arith, few, safe_too)) in
      let node : ℕ = ways.node (opposite s) steps in
      let came : Option ℕ = placed.3.came in
      let p : paces M.phase ≡ 1 = ap paces is in
      let t : tasks M.phase ≡ 1 = ap tasks is in
      let c : come M.mine M.phase ≡ M.mine = ap (come M.mine) is in
      let q : owing B W M.mine M.phase ≡ (B - 0) + 0 + (W - (M.mine + steps)) = ap (owing B W M.mine) is in
      let there : port < world.net.degree node =
      by_port on node port (ways.ahead (opposite s) steps) placed.2
      (ahead_fits on (opposite s) steps (far_below on) within) in
      let expect : List ℕ = text_by s M.own M.other in
      let put : List ℕ = text_by s M.own (M.mine + 2) in
      by_cases (left_by n M.mine steps == 1) (Onward game s o v w configuration (turn_in trial configuration s))
      (λ only.
      let one_left : n - 1 - M.mine - steps ≡ 1 = eqb-true (left_by n M.mine steps) 1 only in
      let last_node : steps ≡ O.mine = omega (arith, one_left, two, few) in
      accuse_turn on (Tells steps port) node port came is (ap (λ (ph : Phase). after_in n M ph (Heard Noted)) is)
      (ap (does_in n M) is ∙ cond-true _ _ _ only) placed.3.at there (omega (arith, one_left, two, last_node))
      (inr ((λ i. link game (ways.node (opposite s) (last_node i)) (placed.2 i))
      ∙ ap (λ (k : ℕ). link game (ways.node (opposite s) O.mine) (ways.ahead (opposite s) k)) last_node)) refl refl
      refl (inr (record {
        one = omega (arith, one_left, two, last_node);
        explored = (done_part on done).0;
        unknown = omega (arith, done.two, (done_part on done).1);
      })))
      (λ more.
      let not_one : left_by n M.mine steps ≢ 1 =
      λ h. true≢false (sym (eq-eqb (left_by n M.mine steps) 1 h) ∙ more) in
      let says : trial.strategies s (configuration.history s) ≡ Says (Write expect put) =
      ap (does_in n M) is ∙ cond-false _ _ _ more ∙ (λ i. Says (Write (text_by ((own_fit on).side i) M.own M.other)
      (text_by ((own_fit on).side i) M.own (M.mine + 2)))) in
      let length_of : length put ≤ 4 = text_fits s M.own (M.mine + 2) pair.own in
      let fits : length put ≤ world.board = omega (arith, length_of, room) in
      let st : stale game s M M.phase configuration.shown ≡ miss (bytes_eq (configuration.shown node) expect) =
      ap (λ (ph : Phase). stale game s M ph configuration.shown) is in
      by_cases (bytes_eq (configuration.shown node) expect) (Onward game s o v w configuration
      (turn_in trial configuration s))
      (λ yes.
      let marked : configuration.shown node ≡ text_by s (beside M.mine v steps) (mark_at O.mine w steps) =
      marked_far on steps (omega (arith, few, safe_too)) in
      let same : text_by s (beside M.mine v steps) (mark_at O.mine w steps) ≡ expect =
      sym marked ∙ same_bytes on (configuration.shown node) expect yes in
      let own_is : M.own ≡ beside M.mine v steps =
      sym (read_own s M.own M.other pair.own) ∙ ap (own_in s) (sym same)
      ∙ read_own s (beside M.mine v steps) (mark_at O.mine w steps) pair.own in
      let other_is : M.other ≡ mark_at O.mine w steps =
      sym (read_other s M.own M.other pair.own) ∙ ap (other_in s) (sym same)
      ∙ read_other s (beside M.mine v steps) (mark_at O.mine w steps) pair.own in
      let not_before : (steps < O.mine) → ⊥ = λ h. placed.4 (other_is ∙ mark_before O.mine w steps h) in
      let last_node : steps ≡ O.mine = omega (arith, few, not_before) in
      by_steps steps port came is done last_node not_one says placed.3.at yes own_is placed.2 placed.5)
      (λ none.
      let st_is : stale game s M M.phase configuration.shown ≡ 1 = st ∙ ap miss none in
      follows_at on steps port (At node came) (Heard (Changed
      (configuration.shown node))) 1 0 came configuration.reached
      (writes_not trial configuration s (agents_two (sides search) s pair.own) node came expect put placed.3.at says
      (has_room on (omega (arith, p))) fits none)
      (ap (λ (ph : Phase). after_in n M ph (Heard (Changed (configuration.shown node)))) is) refl done few placed.2
      placed.5 (λ k was. was) (λ k some far. (own_fit on).reached k some (omega (arith, far, c)))
      (omega (arith, t, st_is)) (omega (arith, q)) (omega (arith, p, st_is))))
    where
      by_steps : (steps port : ℕ) (came : Option ℕ) → M.phase ≡ Tells steps port → IsDone game M v → steps ≡ O.mine
          → left_by n M.mine steps ≢ 1
          → trial.strategies s (configuration.history s)
          ≡ Says (Write (text_by s M.own M.other) (text_by s M.own (M.mine + 2)))
          → configuration.position s ≡ At (ways.node (opposite s) steps) came
          → bytes_eq (configuration.shown (ways.node (opposite s) steps)) (text_by s M.own M.other) ≡ true
          → M.own ≡ beside M.mine v steps → port ≡ ways.ahead (opposite s) steps → configuration.accused s ≡ None
          → Onward game s o v w configuration (turn_in trial configuration s)
      by_steps zero port came is done last_node not_one says at same own_is ahead none =
          divides 0 port came (GoesOut 0 (1 - port)) is done last_node not_one refl (omega arith) (λ amount. refl) refl
          refl (λ shown. refl) says at same (ap (λ (ph : Phase). after_in n M ph (Heard Written)) is) (
            omega arith,
            ap (λ (k : ℕ). 1 - k) ahead ∙ firsts_back on,
            (λ h. refl),
            record { came = came; at = ap (λ (k : ℕ). At k came) (sym (homes_are on)) },
            none,
          ) own_is
      by_steps (suc k) port came is done last_node not_one says at same own_is ahead none =
          let two : M.mine + O.mine + 2 ≤ n = two_sides on in
          divides (suc k) port came (ComesHome (suc k) (1 - port)) is done last_node not_one refl refl
          (λ amount. refl) refl refl (λ shown. refl) says at same
          (ap (λ (ph : Phase). after_in n M ph (Heard Written)) is) (
            omega (arith, two, last_node, not_one),
            omega arith,
            omega (arith, last_node),
            ap (λ (j : ℕ). 1 - j) ahead,
            record { came = came; at = refl },
            none,
          ) own_is
