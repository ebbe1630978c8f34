-- The search by halves: turns of an agent at a node.
use Rattle.std.proofs.Common.{ℕ, zero, suc, ◌+◌, ◌-◌, ◌*◌, ◌<◌, ◌≤◌, ◌≡◌, ◌⊎◌, Bool, true, ◌&&◌, ◌==◌, Option}
use Rattle.std.proofs.Common.{Some, None, refl, sym, ap, ◌∙◌, subst, if◌then◌else◌, nat_lt, inl, inr, arith}
use Rattle.std.specs.Prelude.{◌≢◌}
use Rattle.std.proofs.lemmas.Bool.{lt-ltb, ltb-true, true≢false, eq-eqb, cond-true, cond-false, and_parts, eqb-true}
use Rattle.std.proofs.lemmas.Bool.Decides.{eqb_tells}
use Rattle.bhs_model.specs.declared.commands.Command.TheVariants.{Enter, Depart, Accuse}
use Rattle.bhs_model.specs.declared.replies.Reply.TheVariants.{Here, Gone, Noted}
use Rattle.bhs_model.specs.Runs.{Position, At, Bound, After}
use Rattle.bhs_model.proofs.StepLemmas.{by_cases}
use Rattle.bhs_schedules.specs.declared.answers.Step.TheVariants.{Says}
use Rattle.bhs_schedules.specs.Strategies.{Observation, Heard}
use Rattle.bhs_schedules.specs.Schedules.{Trial}
use Rattle.bhs_protocols.specs.Configurations.{turn_in}
use Rattle.bhs_protocols.specs.declared.halves.Memory.{Memory}
use Rattle.bhs_protocols.specs.declared.halves.Phase.{Phase}
use Rattle.bhs_protocols.specs.declared.halves.Phase.TheVariants.{Begins, GoesOut, Leaves, Tries, Turns, Returns}
use Rattle.bhs_protocols.specs.declared.halves.Phase.TheVariants.{GoesHome, NearsHome, Follows, Passes, ComesHome}
use Rattle.bhs_protocols.specs.declared.halves.Phase.TheVariants.{NearsBack, Ends}
use Rattle.bhs_protocols.specs.Halving.{rounds, walks_at, most_commands}
use Rattle.bhs_protocols.specs.Halves.{target_by, theirs_by, left_by, is_done, does_in, after_in}
use Rattle.bhs_protocols.proofs.HalvesDues.{spent, owing, paces, tasks, come, last, part, told}
use Rattle.bhs_protocols.proofs.SearchLemmas.{agents_two, opposite, sides}
use Rattle.bhs_protocols.proofs.HalvingLemmas.{last_ways_are_paid}
use Rattle.bhs_protocols.proofs.TurnLemmas.{Becomes, enters, departs, accuses as accuses_link}
use Rattle.bhs_protocols.proofs.HalvesState.{Fit, Game, IsDone, IsLate, IsPlaced, Onward, Turn, assembled, distance}
use Rattle.bhs_protocols.proofs.HalvesState.{due, link, mem, nodes_due, rest_of, seat, stale, sum_is, trial as trial_of}
use Rattle.bhs_protocols.proofs.HalvesState.{commands_due, within_n}

module _ {game : Game} (on : Turn game) where
  open game use {world, n, ways, search, enough}
  open on use {s, o, v, w, configuration, pair, inv}

  abbrev trial : Trial
  trial = trial_of game

  abbrev pub M : Memory
  M = mem game configuration s

  abbrev pub O : Memory
  O = mem game configuration o

  abbrev pub B : ℕ
  B = nodes_due game s M v

  abbrev pub W : ℕ
  W = walks_at n (rest_of game s M v)

  -- what an agent holds that goes on with as many safe nodes as before
  abbrev pub held : (target theirs own other : ℕ) → Phase → Memory
  held target theirs own other phase =
      record M { target = target; theirs = theirs; own = own; other = other; phase = phase }

  pub own_fit : Fit game s (seat game configuration s) O.mine v configuration.reached
  own_fit = inv.state.own

  pub other_fit : Fit game o (seat game configuration o) M.mine w configuration.reached
  other_fit = inv.state.other

  pub placed_as : (phase : Phase) → M.phase ≡ phase
      → IsPlaced game s M O.mine v phase (configuration.position s) (configuration.accused s)
  placed_as phase is =
      subst (λ (p : Phase). IsPlaced game s M O.mine v p (configuration.position s)
      (configuration.accused s)) is own_fit.placed

  fit_seen : (seen : ℕ → Bool) → ((k : ℕ) → configuration.reached k ≡ true → seen k ≡ true)
      → Fit game o (seat game configuration o) M.mine w seen
  fit_seen seen grows = record {
    side = other_fit.side;
    placed = other_fit.placed;
    safe = other_fit.safe;
    within = other_fit.within;
    reachable = other_fit.reachable;
    plain = other_fit.plain;
    known = other_fit.known;
    known_too = other_fit.known_too;
    two = other_fit.two;
    half = other_fit.half;
    reached = λ k some far. grows (ways.node o k) (other_fit.reached k some far);
  }

  -- a turn that explores and divides nothing
  paced_by : (target theirs own other : ℕ) (phase : Phase) (place : Position) (news : Observation) (costs moved : ℕ)
      (accused : Option (ℕ × ℕ)) (seen : ℕ → Bool)
      → Becomes configuration (turn_in trial configuration s) s place news costs moved accused configuration.shown seen
      → after_in n M M.phase news ≡ held target theirs own other phase
      → target_by n M.mine target v ≡ part n M v → theirs_by theirs v ≡ told M v → M.mine ≤ target
      → theirs ≤ O.mine
      → IsPlaced game s (held target theirs own other phase) O.mine v phase place accused
      → ((k : ℕ) → configuration.reached k ≡ true → seen k ≡ true)
      → ((k : ℕ) → 0 < k → k ≤ come M.mine phase → seen (ways.node s k) ≡ true)
      → costs + owing B W M.mine phase + tasks phase
      + stale game s (held target theirs own other phase) phase configuration.shown
      ≤ owing B W M.mine M.phase + tasks M.phase + stale game s M M.phase configuration.shown
      → moved + owing B W M.mine phase ≤ owing B W M.mine M.phase
      → paces phase + stale game s (held target theirs own other phase) phase configuration.shown + 1
      ≤ paces M.phase + stale game s M M.phase configuration.shown + 2 * moved
      → (moved + owing B W M.mine phase ≡ owing B W M.mine M.phase) ⊎ IsLate game s v M O
      → Onward game s o v w configuration (turn_in trial configuration s)
  paced_by target theirs own other phase place news costs moved accused seen becomes is same same_too reachable known
      placed grows reached spends dues fewer exact_or_late =
      let after : Memory = held target theirs own other phase in
      let rests : rest_of game s after v ≡ rest_of game s M v =
      λ i. if nat_lt (same i) (distance game s) then n - 1 - same i - same_too i else 1 in
      let nodes : nodes_due game s after v ≡ B =
      λ i. 3 * (distance game s - 1 - M.mine) + last (same i) (distance game s) in
      let due_is : due game s after v ≡ owing B W M.mine phase =
      λ i. owing (nodes i) (walks_at n (rests i)) M.mine phase in
      let rounds_are : rounds (rest_of game s after v) ≡ rounds (rest_of game s M v) = ap rounds rests in
      let within : M.mine ≤ part n M v = own_fit.within in
      let known_too : told M v ≤ O.mine = own_fit.known_too in
      let two : part n M v + told M v + 2 ≤ n = own_fit.two in
      let half : n ≤ 2 * part n M v + 2 * told M v + 2 = own_fit.half in
      let sum : part n M v + part n O w + 1 ≡ n = inv.state.sum in
      assembled game s o v w configuration
      (turn_in trial configuration s) after place news costs moved accused v w configuration.shown
      seen
      pair inv becomes is (record {
        state = record {
          own = record {
            side = own_fit.side;
            placed = placed;
            safe = own_fit.safe;
            within = omega (arith, within, same);
            reachable = reachable;
            plain = own_fit.plain;
            known = known;
            known_too = omega (arith, known_too, same_too);
            two = omega (arith, two, same, same_too);
            half = omega (arith, half, same, same_too);
            reached = reached;
          };
          other = fit_seen seen grows;
          sum = omega (arith, sum, same);
          marked = inv.state.marked;
          marked_too = inv.state.marked_too;
        };
        spends = omega (arith, spends, due_is, rounds_are);
        dues = omega (arith, dues, due_is);
        progress = elim exact_or_late [
          | inl exact ↦ inl (record {
            exactly = omega (arith, exact, due_is);
            part_is = same;
            told_is = same_too;
            still = refl;
          })
          | inr late ↦ inr (inr late)
        ];
        fewer = omega (arith, dues, due_is, rounds_are, fewer);
      })

  -- a turn that spends owed moves
  pub paced : (target theirs own other : ℕ) (phase : Phase) (place : Position) (news : Observation) (costs moved : ℕ)
      (accused : Option (ℕ × ℕ)) (seen : ℕ → Bool)
      → Becomes configuration (turn_in trial configuration s) s place news costs moved accused configuration.shown seen
      → after_in n M M.phase news ≡ held target theirs own other phase
      → target_by n M.mine target v ≡ part n M v → theirs_by theirs v ≡ told M v → M.mine ≤ target
      → theirs ≤ O.mine
      → IsPlaced game s (held target theirs own other phase) O.mine v phase place accused
      → ((k : ℕ) → configuration.reached k ≡ true → seen k ≡ true)
      → ((k : ℕ) → 0 < k → k ≤ come M.mine phase → seen (ways.node s k) ≡ true)
      → costs + tasks phase + stale game s (held target theirs own other phase) phase configuration.shown
      ≤ tasks M.phase + stale game s M M.phase configuration.shown + moved
      → moved + owing B W M.mine phase ≡ owing B W M.mine M.phase
      → paces phase + stale game s (held target theirs own other phase) phase configuration.shown + 1
      ≤ paces M.phase + stale game s M M.phase configuration.shown + 2 * moved
      → Onward game s o v w configuration (turn_in trial configuration s)
  paced target theirs own other phase place news costs moved accused seen becomes is same same_too reachable known
      placed grows reached spends dues fewer =
      paced_by target theirs own other phase place news costs moved accused seen becomes is same same_too reachable
      known placed grows reached (omega (arith, spends, dues)) (omega (arith, dues)) fewer (inl dues)

  -- who has not ended has its accusation left
  pub tasks_some : (phase : Phase) → 1 ≤ paces phase → tasks phase ≡ 1
  tasks_some Ends some = absurd (omega (arith, some))
  tasks_some phase some = refl

  pub tasks_few : (phase : Phase) → tasks phase ≤ 1
  tasks_few Ends = omega arith
  tasks_few phase = one
    where
      one : 1 ≤ 1
      one = omega arith

  pub has_room : 1 ≤ paces M.phase → configuration.used s < world.quota
  has_room some =
      let used : configuration.used s + commands_due game s M v configuration.shown + commands_due game o O w
      configuration.shown
      ≤ most_commands n =
      inv.used s in
      let quota : most_commands n ≤ world.quota = enough in
      let left : tasks M.phase ≡ 1 = tasks_some M.phase some in
      omega (arith, used, quota, left)

  -- ---- the agent departs by a port

  goes : (phase : Phase) (node port : ℕ) (came : Option ℕ)
      → after_in n M M.phase (Heard Gone) ≡ held M.target M.theirs M.own M.other phase
      → trial.strategies s (configuration.history s) ≡ Says (Depart port) → configuration.position s ≡ At node came
      → port < world.net.degree node → come M.mine phase ≤ come M.mine M.phase
      → IsPlaced game s (held M.target M.theirs M.own M.other phase) O.mine v phase (Bound node port)
      (configuration.accused s)
      → paces M.phase ≡ 1 → paces phase ≡ 2
      → stale game s (held M.target M.theirs M.own M.other phase) phase configuration.shown ≡ 0
      → 1 + owing B W M.mine phase ≡ owing B W M.mine M.phase
      → Onward game s o v w configuration (turn_in trial configuration s)
  goes phase node port came is says at there came_to placed one two none dues =
      paced M.target M.theirs M.own M.other phase (Bound node port) (Heard Gone) 1 1 (configuration.accused s)
      configuration.reached (departs trial configuration s (agents_two (sides search) s pair.own) node port came at says
      (has_room (omega (arith, one))) there) is refl refl own_fit.reachable own_fit.known placed (λ k was. was)
      (λ k some far. own_fit.reached k some (omega (arith, far, came_to)))
      (let t : tasks M.phase ≡ 1 = tasks_some M.phase (omega (arith, one)) in
      let few : tasks phase ≤ 1 = tasks_few phase in
      omega (arith, t, few, none)) dues
      (omega (arith, one, two, none))

  pub small_side : (side steps : ℕ) → side < 2 → steps < distance game side → steps < n
  small_side side steps below before =
      let within : distance game side < n = within_n game side below in omega (arith, before, within)

  pub ahead_fits : (side steps : ℕ) → side < 2 → steps < n
      → ways.ahead side steps < world.net.degree (ways.node side steps)
  ahead_fits side steps below within =
      subst (λ (k : ℕ). ways.ahead side steps < k) (sym (search.ring.two side steps below within))
      (search.ring.port side steps below within)

  behind_fits : (side steps : ℕ) → side < 2 → steps < n
      → 1 - ways.ahead side steps < world.net.degree (ways.node side steps)
  behind_fits side steps below within =
      subst (λ (k : ℕ). 1 - ways.ahead side steps < k) (sym (search.ring.two side steps below within)) (omega arith)

  pub by_port : (node port other : ℕ) → port ≡ other → other < world.net.degree node → port < world.net.degree node
  by_port node port other is fits = subst (λ (k : ℕ). k < world.net.degree node) (sym is) fits

  -- ---- what is owed

  pub part_small : part n M v < distance game s → nat_lt (part n M v) (distance game s) ≡ true
  part_small below = lt-ltb (part n M v) (distance game s) below

  pub done_part : IsDone game M v → (part n M v ≡ M.mine) × (told M v ≡ M.theirs)
  done_part done = (
    ap (part n M) done.unmarked ∙ sym done.reached,
    ap (told M) done.unmarked,
  )

  -- who goes to divide has the moves for that way
  pays : IsDone game M v → n - 2 ≤ W
  pays done =
      let is = done_part done in
      let part_is : part n M v ≡ M.mine = is.0 in
      let told_is : told M v ≡ M.theirs = is.1 in
      let safe : M.mine < distance game s = own_fit.safe in
      let below : part n M v < distance game s = omega (arith, part_is, safe) in
      let rest : rest_of game s M v ≡ n - 1 - part n M v - told M v = cond-true _ _ _ (part_small below) in
      let two : M.mine + M.theirs + 3 ≤ n = done.two in
      let half : n ≤ 2 * part n M v + 2 * told M v + 2 = own_fit.half in
      last_ways_are_paid n (rest_of game s M v) (omega (arith, rest, part_is, told_is, two))
      (omega (arith, rest, half, two, part_is, told_is))

  -- the other agent's side is safe so far
  pub far_safe : O.mine < distance game o
  far_safe = other_fit.safe

  pub distances : distance game s + distance game o ≡ n
  distances = sum_is game s o pair

  pub two_sides : M.mine + O.mine + 2 ≤ n
  two_sides =
      let safe : M.mine < distance game s = own_fit.safe in
      let safe_too : O.mine < distance game o = far_safe in
      let sum : distance game s + distance game o ≡ n = distances in
      omega (arith, safe, safe_too, sum)

  -- who explores has the next node in its part
  pub part_more : M.mine < M.target → (mark : ℕ) → mark ≡ v → M.mine < part n M mark
  part_more more zero is = more
  part_more more (suc zero) is = absurd (own_fit.plain (sym is))
  part_more more (suc (suc theirs)) is =
      let known : told M v ≤ O.mine = own_fit.known_too in
      let same : theirs ≡ told M v = ap (told M) is in
      let two : M.mine + O.mine + 2 ≤ n = two_sides in
      omega (arith, known, same, two)

  -- Hence the potential pays for the move.
  node_due : M.mine < M.target → 1 ≤ B
  node_due more =
      let safe : M.mine < distance game s = own_fit.safe in
      let within : M.mine < part n M v = part_more more v refl in
      by_cases (nat_lt (part n M v) (distance game s)) (1 ≤ B)
      (λ yes.
      let below : part n M v < distance game s = ltb-true (part n M v) (distance game s) yes in
      omega (arith, below, within, safe))
      (λ none. let one : last (part n M v) (distance game s) ≡ 1 = cond-false _ _ _ none in omega (arith, one))

  next_due : M.mine + 1 < distance game s → 3 ≤ B
  next_due next = omega (arith, next)

  -- ---- turns at nodes

  pub begin_turn : M.phase ≡ Begins → Onward game s o v w configuration (turn_in trial configuration s)
  begin_turn is =
      let placed = placed_as Begins is in
      let none : M.mine ≡ 0 = placed.1 in
      let says : trial.strategies s (configuration.history s) ≡ Says Enter = ap (does_in n M) is in
      let q : owing B W M.mine M.phase ≡ (B - 0) + 0 + W = ap (owing B W M.mine) is in
      let p : paces M.phase ≡ 2 = ap paces is in
      let t : tasks M.phase ≡ 1 = ap tasks is in
      let c : come M.mine M.phase ≡ M.mine = ap (come M.mine) is in
      paced M.target M.theirs M.own M.other (GoesOut 0 M.side) (At world.home None)
      (Heard (Here (world.net.degree world.home) None (configuration.shown world.home))) 0 0 (configuration.accused s)
      configuration.reached (enters trial configuration s (agents_two (sides search) s pair.own) placed.0 says)
      (ap (λ (ph : Phase). after_in n M ph
      (Heard (Here (world.net.degree world.home) None (configuration.shown world.home)))) is)
      refl refl own_fit.reachable own_fit.known (
        omega arith,
        own_fit.side ∙ sym (search.ring.first s pair.own),
        placed.2,
        record { came = None; at = ap (λ (k : ℕ). At k None) (sym (search.ring.home s)) },
        placed.3,
      )
      (λ k was. was) (λ k some far. own_fit.reached k some (omega (arith, far, c))) (omega (arith, t))
      (omega (arith, q, none)) (omega (arith, p))

  pub turns_turn : (port : ℕ) → M.phase ≡ Turns port → Onward game s o v w configuration (turn_in trial configuration s)
  turns_turn port is =
      let placed = placed_as (Turns port) is in
      let next : M.mine + 1 < distance game s = placed.1 in
      let within : M.mine + 1 < n = small_side s (M.mine + 1) pair.own next in
      let q : owing B W M.mine M.phase ≡ (B - 1) + 0 + W = ap (owing B W M.mine) is in
      let b : 3 ≤ B = next_due next in
      let c : come M.mine M.phase ≡ M.mine + 1 = ap (come M.mine) is in
      goes Returns (ways.node s (M.mine + 1)) port placed.3.came
      (ap (λ (ph : Phase). after_in n M ph (Heard Gone)) is) (ap (does_in n M) is) placed.3.at
      (by_port (ways.node s (M.mine + 1)) port (1 - ways.ahead s (M.mine + 1)) placed.2
      (behind_fits s (M.mine + 1) pair.own within))
      (omega (arith, c))
      (placed.0, next, ap (λ (k : ℕ). Bound (ways.node s (M.mine + 1)) k) placed.2, placed.4)
      (ap paces is) refl refl (omega (arith, q, b))

  pub home_turn : (steps port : ℕ) → M.phase ≡ GoesHome steps port
      → Onward game s o v w configuration (turn_in trial configuration s)
  home_turn steps port is =
      let placed = placed_as (GoesHome steps port) is in
      let some : 0 < steps = placed.1 in
      let few : steps < M.mine = placed.2 in
      let safe : M.mine < distance game s = own_fit.safe in
      let within : steps < n = small_side s steps pair.own (omega (arith, few, safe)) in
      let q : owing B W M.mine M.phase ≡ (B - 0) + 0 + (W - (M.mine - steps)) = ap (owing B W M.mine) is in
      let pays_it : n - 2 ≤ W = pays placed.0 in
      let two : M.mine + O.mine + 2 ≤ n = two_sides in
      let c : come M.mine M.phase ≡ M.mine = ap (come M.mine) is in
      goes (NearsHome steps) (ways.node s steps) port placed.4.came
      (ap (λ (ph : Phase). after_in n M ph (Heard Gone)) is) (ap (does_in n M) is) placed.4.at
      (by_port (ways.node s steps) port (1 - ways.ahead s steps) placed.3 (behind_fits s steps pair.own within))
      (omega (arith, c))
      (placed.0, some, omega (arith, few), ap (λ (k : ℕ). Bound (ways.node s steps) k) placed.3, placed.5)
      (ap paces is) refl refl (omega (arith, q, pays_it, two, some, few))

  pub follow_turn : (steps port : ℕ) → M.phase ≡ Follows steps port
      → Onward game s o v w configuration (turn_in trial configuration s)
  follow_turn steps port is =
      let placed = placed_as (Follows steps port) is in
      let few : steps < O.mine = placed.1 in
      let safe_too : O.mine < distance game o = far_safe in
      let other : opposite s ≡ o = sym pair.is in
      let within : steps < n = small_side o steps pair.other (omega (arith, few, safe_too)) in
      let q : owing B W M.mine M.phase ≡ (B - 0) + 0 + (W - (M.mine + steps)) = ap (owing B W M.mine) is in
      let pays_it : n - 2 ≤ W = pays placed.0 in
      let two : M.mine + O.mine + 2 ≤ n = two_sides in
      let c : come M.mine M.phase ≡ M.mine = ap (come M.mine) is in
      let fits : ways.ahead (opposite s) steps < world.net.degree (ways.node (opposite s) steps) =
      subst (λ (k : ℕ). ways.ahead k steps < world.net.degree (ways.node k steps)) (sym other)
      (ahead_fits o steps pair.other within) in
      goes (Passes steps) (ways.node (opposite s) steps) port placed.3.came
      (ap (λ (ph : Phase). after_in n M ph (Heard Gone)) is) (ap (does_in n M) is) placed.3.at
      (by_port (ways.node (opposite s) steps) port (ways.ahead (opposite s) steps) placed.2 fits)
      (omega (arith, c))
      (placed.0, few, ap (λ (k : ℕ). Bound (ways.node (opposite s) steps) k) placed.2, placed.4)
      (ap paces is) refl refl (omega (arith, q, pays_it, two, few))

  pub come_home_turn : (steps port : ℕ) → M.phase ≡ ComesHome steps port
      → Onward game s o v w configuration (turn_in trial configuration s)
  come_home_turn steps port is =
      let placed = placed_as (ComesHome steps port) is in
      let some : 0 < steps = placed.1 in
      let few : steps ≤ O.mine = placed.2 in
      let safe_too : O.mine < distance game o = far_safe in
      let other : opposite s ≡ o = sym pair.is in
      let within : steps < n = small_side o steps pair.other (omega (arith, few, safe_too)) in
      let q : owing B W M.mine M.phase ≡ (B - 0) + (M.mine + steps) + W = ap (owing B W M.mine) is in
      let c : come M.mine M.phase ≡ M.mine = ap (come M.mine) is in
      let fits : 1 - ways.ahead (opposite s) steps < world.net.degree (ways.node (opposite s) steps) =
      subst (λ (k : ℕ). 1 - ways.ahead k steps < world.net.degree (ways.node k steps)) (sym other)
      (behind_fits o steps pair.other within) in
      goes (NearsBack steps) (ways.node (opposite s) steps) port placed.4.came
      (ap (λ (ph : Phase). after_in n M ph (Heard Gone)) is) (ap (does_in n M) is) placed.4.at
      (by_port (ways.node (opposite s) steps) port (1 - ways.ahead (opposite s) steps) placed.3 fits)
      (omega (arith, c))
      (placed.0, some, few, ap (λ (k : ℕ). Bound (ways.node (opposite s) steps) k) placed.3, placed.5)
      (ap paces is) refl refl (omega (arith, q, some))

  -- ---- at its own side's nodes, on the way out

  pub accuse_turn : (phase : Phase) (node port : ℕ) (came : Option ℕ) → M.phase ≡ phase
      → after_in n M M.phase (Heard Noted) ≡ held M.target M.theirs M.own M.other Ends
      → trial.strategies s (configuration.history s) ≡ Says (Accuse port) → configuration.position s ≡ At node came
      → port < world.net.degree node → M.mine + O.mine + 2 ≡ n
      → ((link game node port ≡ link game (ways.node s M.mine) (ways.ahead s M.mine))
      ⊎ (link game node port ≡ link game (ways.node (opposite s) O.mine) (ways.ahead (opposite s) O.mine)))
      → spent phase ≡ 0 → come M.mine phase ≡ M.mine → paces phase ≡ 1
      → (0 + owing B W M.mine Ends ≡ owing B W M.mine M.phase) ⊎ IsLate game s v M O
      → Onward game s o v w configuration (turn_in trial configuration s)
  accuse_turn phase node port came is holds says at there all right_one none c one exact_or_late =
      let q : owing B W M.mine M.phase ≡ owing B W M.mine phase = ap (owing B W M.mine) is in
      let p : paces M.phase ≡ paces phase = ap paces is in
      let t : tasks M.phase ≡ 1 = tasks_some M.phase (omega (arith, p, one)) in
      let come_is : come M.mine M.phase ≡ come M.mine phase = ap (come M.mine) is in
      paced_by M.target M.theirs M.own M.other Ends After (Heard Noted) 1 0 (Some (node, port)) configuration.reached
      (accuses_link trial configuration s (agents_two (sides search) s pair.own) node port came at says
      (has_room (omega (arith, p, one)))
      there) holds refl refl own_fit.reachable own_fit.known (refl, all, right_one) (λ k was. was)
      (λ k some far. own_fit.reached k some (omega (arith, far, come_is, c))) (omega (arith, q, none, t))
      (omega (arith, q, none)) (omega (arith, p, one)) exact_or_late

  pub out_turn : (steps port : ℕ) → M.phase ≡ GoesOut steps port
      → Onward game s o v w configuration (turn_in trial configuration s)
  out_turn steps port is =
      let placed = placed_as (GoesOut steps port) is in
      let few : steps ≤ M.mine = placed.0 in
      let ahead : port ≡ ways.ahead s steps = placed.1 in
      let safe : M.mine < distance game s = own_fit.safe in
      let within : steps < n = small_side s steps pair.own (omega (arith, few, safe)) in
      let q : owing B W M.mine M.phase ≡ (B - 0) + (M.mine - steps) + W = ap (owing B W M.mine) is in
      let p : paces M.phase ≡ 1 = ap paces is in
      let c : come M.mine M.phase ≡ M.mine = ap (come M.mine) is in
      let two : M.mine + O.mine + 2 ≤ n = two_sides in
      let known : M.theirs ≤ O.mine = own_fit.known in
      let there : port < world.net.degree (ways.node s steps) =
      by_port (ways.node s steps) port (ways.ahead s steps) ahead (ahead_fits s steps pair.own within) in
      by_cases (is_done M steps) (Onward game s o v w configuration (turn_in trial configuration s))
      (λ yes.
      let tests = and_parts (steps == M.mine) (M.mine == M.target) yes in
      let here : steps ≡ M.mine = eqb-true steps M.mine tests.0 in
      let all_of_it : M.mine ≡ M.target = eqb-true M.mine M.target tests.1 in
      by_cases (left_by n M.mine M.theirs == 1) (Onward game s o v w configuration (turn_in trial configuration s))
      (λ only.
      let one_left : n - 1 - M.mine - M.theirs ≡ 1 = eqb-true (left_by n M.mine M.theirs) 1 only in
      let nothing : W ≡ 0 = none_to_walk all_of_it one_left in
      accuse_turn (GoesOut steps port) (ways.node s steps) port placed.3.came is
      (ap (λ (ph : Phase). after_in n M ph (Heard Noted)) is)
      (ap (does_in n M) is ∙ cond-true _ _ _ yes ∙ cond-true _ _ _ only) placed.3.at there
      (omega (arith, one_left, two, known))
      (inl ((λ i. link game (ways.node s (here i)) (ahead i))
      ∙ ap (λ (k : ℕ). link game (ways.node s M.mine) (ways.ahead s k)) here)) refl refl refl
      (inl (omega (arith, q, here, nothing))))
      (λ more.
      let not_one : n - 1 - M.mine - M.theirs ≢ 1 =
      λ h. true≢false (sym (eq-eqb (left_by n M.mine M.theirs) 1 h) ∙ more) in
      let mine_some : 0 < M.mine = target_some all_of_it in
      let done : IsDone game M v = record {
        reached = all_of_it;
        unmarked = placed.2 all_of_it;
        two = omega (arith, not_one, two, known);
        some = mine_some;
      } in
      let pays_it : n - 2 ≤ W = pays done in
      goes (NearsHome steps) (ways.node s steps) (1 - port) placed.3.came
      (ap (λ (ph : Phase). after_in n M ph (Heard Gone)) is ∙ cond-true _ _ _ yes)
      (ap (does_in n M) is ∙ cond-true _ _ _ yes ∙ cond-false _ _ _ more) placed.3.at
      (by_port (ways.node s steps) (1 - port) (1 - ways.ahead s steps) (ap (λ (k : ℕ). 1 - k) ahead)
      (behind_fits s steps pair.own within))
      (omega (arith, c)) (
        done,
        omega (arith, here, mine_some),
        few,
        ap (λ (k : ℕ). Bound (ways.node s steps) (1 - k)) ahead,
        placed.4,
      )
      p refl refl (omega (arith, q, pays_it, two, here, mine_some))))
      (λ none. elim (eqb_tells steps M.mine) [
        | inl here ↦
            let not_all : M.mine ≢ M.target =
            λ h. true≢false (sym (λ i. here.0 i && eq-eqb M.mine M.target h i) ∙ none) in
            let reachable : M.mine ≤ M.target = own_fit.reachable in
            let more : M.mine < M.target = omega (arith, not_all, reachable) in
            let b : 1 ≤ B = node_due more in
            goes Tries (ways.node s steps) port placed.3.came
            (ap (λ (ph : Phase). after_in n M ph (Heard Gone)) is ∙ cond-false _ _ _ none ∙ cond-true _ _ _ here.0)
            (ap (does_in n M) is ∙ cond-false _ _ _ none) placed.3.at there (omega (arith, c)) (
              more,
              (λ i. Bound (ways.node s (here.1 i)) (ahead i))
                  ∙ ap (λ (k : ℕ). Bound (ways.node s M.mine) (ways.ahead s k)) here.1,
              placed.4,
            )
            p refl refl (omega (arith, q, b, here.1))
        | inr away ↦
            goes (Leaves steps) (ways.node s steps) port placed.3.came
            (ap (λ (ph : Phase). after_in n M ph (Heard Gone)) is ∙ cond-false _ _ _ none ∙ cond-false _ _ _ away.0)
            (ap (does_in n M) is ∙ cond-false _ _ _ none) placed.3.at there (omega (arith, c))
            (omega (arith, few, away.1), placed.2, ap (λ (k : ℕ). Bound (ways.node s steps) k) ahead, placed.4)
            p refl refl (omega (arith, q, few, away.1))
      ])
    where
      target_some : M.mine ≡ M.target → 0 < M.mine
      target_some all_of_it =
          let unmarked : v ≡ 0 = (placed_as (GoesOut steps port) is).2 all_of_it in
          let part_is : part n M v ≡ M.mine = ap (part n M) unmarked ∙ sym all_of_it in
          let half : n ≤ 2 * part n M v + 2 * told M v + 2 = own_fit.half in
          let known : told M v ≤ O.mine = own_fit.known_too in
          let sum : part n M v + part n O w + 1 ≡ n = inv.state.sum in
          let two_too : part n O w + told O w + 2 ≤ n = other_fit.two in
          omega (arith, part_is, sum, two_too)

      -- no way is owed where one node is left
      none_to_walk : M.mine ≡ M.target → n - 1 - M.mine - M.theirs ≡ 1 → W ≡ 0
      none_to_walk all_of_it one_left =
          let unmarked : v ≡ 0 = (placed_as (GoesOut steps port) is).2 all_of_it in
          let part_is : part n M v ≡ M.mine = ap (part n M) unmarked ∙ sym all_of_it in
          let told_is : told M v ≡ M.theirs = ap (told M) unmarked in
          let safe : M.mine < distance game s = own_fit.safe in
          let rest : rest_of game s M v ≡ n - 1 - part n M v - told M v =
          cond-true _ _ _ (part_small (omega (arith, part_is, safe))) in
          let one : rest_of game s M v ≡ 1 = omega (arith, rest, part_is, told_is, one_left) in
          ap (walks_at n) one
