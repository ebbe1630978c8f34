-- Turns of an agent at an unmarked link: it accuses the link or writes a division, and the invariant is preserved.
use Rattle.std.proofs.Common.{ℕ, ◌+◌, ◌-◌, ◌*◌, ◌/◌, ◌<◌, ◌≤◌, ◌≡◌, true, false, ◌==◌}
use Rattle.std.proofs.Common.{Some, List, length, refl, sym, ap, ◌∙◌, subst, inl, inr, arith}
use Rattle.std.specs.Prelude.{◌≢◌, bytes_eq}
use Rattle.std.proofs.lemmas.Bool.{cond-true, cond-false, ne_eqb}
use Rattle.std.proofs.lemmas.Bool.Decides.{eqb_tells}
use Rattle.std.proofs.lemmas.Slice.Eq.{bytes_eq-Decides}
use Rattle.bhs_model.proofs.StepLemmas.{by_cases}
use Rattle.bhs_model.specs.declared.commands.Command.TheVariants.{Write}
use Rattle.bhs_model.specs.declared.replies.Reply.TheVariants.{Written, Changed, Noted}
use Rattle.bhs_model.specs.Runs.{At, After as Ended}
use Rattle.bhs_schedules.specs.declared.answers.Step.TheVariants.{Says}
use Rattle.bhs_schedules.specs.Strategies.{Heard}
use Rattle.bhs_schedules.specs.Schedules.{Trial}
use Rattle.bhs_protocols.specs.Configurations.{turn_in}
use Rattle.bhs_protocols.specs.Invariants.{GoesOn}
use Rattle.bhs_protocols.specs.Halving.{rounds}
use Rattle.bhs_protocols.specs.Shuttle.{other_in}
use Rattle.bhs_protocols.specs.Halves.{own_in}
use Rattle.bhs_protocols_divided.specs.Plans.{Itinerary, Divisions, IsStage, IsItinerary, IsDivided, Explores, IsLeft}
use Rattle.bhs_protocols_divided.specs.Plans.{news, explored, count_at, left_at}
use Rattle.bhs_protocols_divided.specs.Dividing.{Memory, Phase, GoesOut, Turns}
use Rattle.bhs_protocols_divided.specs.Dividing.{Tells, Ends, own_of, others_of, does_in, after_in, sees, told}
use Rattle.bhs_protocols_divided.specs.Dividing.{told_in}
use Rattle.bhs_protocols_divided.proofs.NewsLemmas.{news_below, news_few, below_by_news, same_by_news}
use Rattle.bhs_protocols_divided.proofs.StageLemmas.{explored_own, explored_other}
use Rattle.bhs_protocols_divided.proofs.StageLemmas.{IsAsAt, divided_at, stage_counts, stage_some, total}
use Rattle.bhs_protocols_divided.proofs.DividingDues.{Seat, Purse, done, done_by, spent, paces, tasks, miss, share}
use Rattle.bhs_protocols_divided.proofs.DividingState.{Game, Setting, setting, IsAtNode}
use Rattle.bhs_protocols_divided.proofs.DividingState.{Fit, IsHidden, Inv, assembled, around, seat, stale}
use Rattle.bhs_protocols_divided.proofs.DividingState.{trial as trial_of}
use Rattle.bhs_protocols_divided.proofs.DividingLemmas.{own_written, other_written, text_fits, other_is}
use Rattle.bhs_protocols_divided.proofs.DividingKeeps.{Turn, M, O, held, placed_as, due_as, paced_by}
use Rattle.bhs_protocols_divided.proofs.DividingFacts.{plan_is}
use Rattle.bhs_protocols_divided.proofs.DividingTurns.{room}
use Rattle.bhs_protocols_divided.proofs.DividingAfter.{goes_after, other_below, roots}
use Rattle.bhs_protocols_divided.proofs.DividingArrivals.{others_show, others_hidden}
use Rattle.bhs_protocols_divided.proofs.DividingFollows.{Goes, theirs_is, spot_there, hidden_there}
use Rattle.bhs_protocols_divided.proofs.DividingWrites.{rewritten, stale_few}
use Rattle.bhs_protocols.proofs.HalvingLemmas.{rounds_half, rounds_within}
use Rattle.bhs_protocols.proofs.TurnLemmas.{accuses, writes, writes_not}
use Rattle.bhs_protocols_divided.proofs.DividingShares.{spent_few, round_paid, both_shares}
use Rattle.bhs_protocols_divided.proofs.DividingPlacing.{text as text_of, shown as shown_of, next as next_of}
use Rattle.bhs_protocols_divided.proofs.DividingPlacing.{text_told as told_of}
use Rattle.bhs_protocols_divided.proofs.DividingPlacing.{q_by as purse_of, placing}

module _ {game : Game} (on : Turn game) where
  open game use {world, n, hole, wakeups, plan}
  open on use {s, o, configuration, left, below, apart, inv}

  abbrev trial : Trial
  trial = trial_of game

  abbrev m : Memory
  m = M on

  abbrev own : Itinerary
  own = own_of plan m

  abbrev theirs : Itinerary
  theirs = others_of plan m

  abbrev lost : ℕ
  lost = inv.state.spot.side

  abbrev node : ℕ
  node = theirs.node m.step

  abbrev left_there : ℕ
  left_there = left_at plan m.divisions (1 - m.side) m.step

  module _ (phase_is : m.phase ≡ Tells) where
    abbrev Placed : Type 0
    Placed = Goes on × (theirs.is_new m.step ≡ true) × IsAtNode game node (configuration.position s)
        × (own_in (1 - m.side) m.seen < count_at plan m.divisions (1 - m.side) m.step)

    placed : Placed
    placed = placed_as on Tells phase_is

    t : tasks m.phase ≡ 1
    t = ap tasks phase_is

    pc : paces m.phase ≡ 1
    pc = ap paces phase_is

    sp : spent m.phase ≡ 0
    sp = ap spent phase_is

    doing_is : done plan m ≡ explored plan m.divisions m.side + news own own.steps
    doing_is = ap (done_by plan m) phase_is

    -- the black hole is not before this step
    not_before : news theirs m.step ≤ news theirs inv.state.spot.step
    not_before =
        let few : explored plan m.divisions (1 - m.side) + news theirs m.step ≤ done plan (O on) = placed.0.few in
        let less : done plan (O on) < count_at plan m.divisions (1 - m.side) inv.state.spot.step =
        hidden_there on placed.0 in
        omega (arith, few, less)

    counted_here : news theirs m.step + 1 ≤ news theirs theirs.steps
    counted_here = news_below theirs m.step theirs.steps placed.0.within placed.1

    accuse_turn : (left_there == 1) ≡ true → left_there ≡ 1 → GoesOn (Inv game s o) left (turn_in trial configuration s)
    accuse_turn only one =
        let net_is : IsItinerary world.net n theirs = theirs_is on placed.0 in
        let there : Explores plan m.divisions (1 - m.side) inv.state.spot.step hole = spot_there on placed.0 in
        let more : news theirs inv.state.spot.step + 1 ≤ news theirs theirs.steps =
        news_below theirs inv.state.spot.step theirs.steps there.within there.is_new in
        let same : m.step ≡ inv.state.spot.step = same_by_news theirs m.step inv.state.spot.step placed.1 there.is_new
        (omega (arith, not_before, more, one)) in
        let target : theirs.target m.step ≡ hole = ap theirs.target same ∙ there.is in
        paced_by on m.divisions m.step m.seen Ends Ended (Heard Noted) 1 0 (Some (node, theirs.ahead m.step)) inv.p
        configuration.reached
        (accuses trial configuration s below node (theirs.ahead m.step) placed.2.came placed.2.at
        (ap (does_in plan m) phase_is ∙ cond-true _ _ _ only) (room on t) (net_is.ahead m.step placed.0.within))
        (ap (λ (ph : Phase). after_in plan m ph (Heard Noted)) phase_is) (sym doing_is) (λ k was. was)
        (placed.0.knows, placed.0.lost_is, refl, one, placed.0.within, target, refl, placed.0.few, placed.1)
        tt (omega (arith, sp)) refl (omega arith) (omega (arith, t)) (omega (arith, pc))

    room_for : length (told m) ≤ world.board
    room_for =
        let few : length (told m) ≤ 5 = text_fits m.side (own_in m.side m.seen) (other_in m.side m.seen)
        (length m.divisions + 1) inv.state.below in
        let board_room : 5 ≤ world.board = game.room in
        omega (arith, few, board_room)

    says_told : (left_there == 1) ≡ false → does_in plan m m.phase ≡ Says (Write m.seen (told m))
    says_told none = ap (does_in plan m) phase_is ∙ cond-false _ _ _ none

    changed_turn : (left_there == 1) ≡ false → bytes_eq (configuration.shown node) m.seen ≡ false
        → GoesOn (Inv game s o) left (turn_in trial configuration s)
    changed_turn none differs =
        let board : List ℕ = configuration.shown node in
        let was : stale game m m.phase configuration.shown ≡ 1 =
        ap (λ (ph : Phase). stale game m ph configuration.shown) phase_is ∙ ap miss differs in
        let within : m.step < theirs.steps = placed.0.within in
        let goes_on = goes_after game inv.now (sees m board) inv.state.stage inv.state.below placed.0.knows
        (done plan (O on))
        lost inv.state.spot.step inv.state.spot.is (others_hidden on) configuration.shown configuration.reached
        (others_show on node) inv.p (At node placed.2.came) (configuration.accused s) m.step placed.0.lost_is
        placed.0.none
        (omega (arith, within)) placed.0.few (record { came = placed.2.came; at = refl }) placed.0.clear refl
        (due_as on Tells phase_is) in
        let paced : paces goes_on.phase ≡ 1 = goes_on.paced in
        let tasked : tasks goes_on.phase ≡ 1 = goes_on.tasked in
        let spends : spent goes_on.phase ≡ 0 = goes_on.spends in
        let fresh : stale game (held on m.divisions goes_on.step board goes_on.phase) goes_on.phase configuration.shown
        ≡ 0 =
        goes_on.fresh in
        paced_by on m.divisions goes_on.step board goes_on.phase (At node placed.2.came) (Heard (Changed board)) 1 0
        (configuration.accused s) inv.p configuration.reached
        (writes_not trial configuration s below node placed.2.came m.seen (told m) placed.2.at (says_told none)
        (room on t)
        room_for differs)
        (ap (λ (ph : Phase). after_in plan m ph (Heard (Changed board))) phase_is ∙ goes_on.is)
        (goes_on.does ∙ sym doing_is) (λ k was. was) goes_on.placed goes_on.due
        (omega (arith, sp, spends)) refl (omega arith) (omega (arith, t, tasked, fresh, was))
        (omega (arith, pc, paced, fresh, was))

    -- ---- the write succeeds

    module _ (none : (left_there == 1) ≡ false) (not_one : left_there ≢ 1)
        (alike : bytes_eq (configuration.shown node) m.seen ≡ true) where
      abbrev text : List ℕ
      text = text_of on

      abbrev shown : ℕ → List ℕ
      shown = shown_of on

      abbrev next : Divisions
      next = next_of on

      was_seen : configuration.shown node ≡ m.seen
      was_seen = (bytes_eq-Decides (configuration.shown node) m.seen).0 alike

      text_own : own_in m.side text ≡ own_in m.side (configuration.shown node)
      text_own = own_written m.side (own_in m.side m.seen) (other_in m.side m.seen) (length m.divisions + 1)
          inv.state.below
          ∙ ap (own_in m.side) (sym was_seen)

      text_other : own_in (1 - m.side) text ≡ own_in (1 - m.side) (configuration.shown node)
      text_other = other_written m.side (own_in m.side m.seen) (other_in m.side m.seen) (length m.divisions + 1)
          inv.state.below
          ∙ other_is m.side m.seen inv.state.below ∙ ap (own_in (1 - m.side)) (sym was_seen)

      text_told : told_in text ≡ length m.divisions + 1
      text_told = told_of on

      stage : IsStage plan m.divisions
      stage = subst (IsStage plan) placed.0.knows inv.state.stage

      next_stage : IsStage plan next
      next_stage = (stage, other_below m.side, placed.0.within, placed.1, omega (arith, counted_here, not_one))

      divided : IsDivided plan m.divisions (1 - m.side) m.step
      divided = (plan_is game).divided m.divisions (1 - m.side) m.step next_stage

      abbrev Known : Divisions → ℕ → Type 0
      Known d side = (step : ℕ) → step < (plan.itinerary d side).steps → (plan.itinerary d side).is_new step ≡ true
          → count_at plan d side step ≤ done plan (O on)
          → count_at plan d side step ≤ own_in side (configuration.shown ((plan.itinerary d side).node step))

      known_there : count_at plan m.divisions (1 - m.side) m.step ≤ done plan (O on)
          → count_at plan m.divisions (1 - m.side) m.step ≤ own_in (1 - m.side) (configuration.shown node)
      known_there h =
          let it : Known m.divisions (1 - m.side) = subst (Known m.divisions) inv.state.apart
          (subst (λ (d : Divisions). Known d (O on).side) placed.0.knows inv.state.other.known) in
          it m.step placed.0.within placed.1 h

      -- the other one has explored its new nodes before this step, and no more
      others_done : done plan (O on) ≡ explored plan m.divisions (1 - m.side) + news theirs m.step
      others_done =
          let few : explored plan m.divisions (1 - m.side) + news theirs m.step ≤ done plan (O on) = placed.0.few in
          let unmarked : own_in (1 - m.side) m.seen < count_at plan m.divisions (1 - m.side) m.step = placed.3 in
          let shows : own_in (1 - m.side) (configuration.shown node) ≡ own_in (1 - m.side) m.seen =
          ap (own_in (1 - m.side)) was_seen in
          let never : (count_at plan m.divisions (1 - m.side) m.step ≤ done plan (O on)) → ⊥ = λ h.
          let marked : count_at plan m.divisions (1 - m.side) m.step ≤ own_in (1 - m.side) (configuration.shown node) =
          known_there h in omega (arith, marked, unmarked, shows) in
          omega (arith, few, never)

      apart_sides : m.side ≢ 1 - m.side
      apart_sides h = let small : m.side < 2 = inv.state.below in omega (arith, h, small)

      own_next : explored plan next m.side ≡ done plan m
      own_next = explored_other plan m.divisions (1 - m.side) m.side m.step apart_sides ∙ (omega (arith, doing_is))

      others_next : explored plan next (1 - m.side) ≡ done plan (O on)
      others_next = explored_own plan m.divisions (1 - m.side) m.step ∙ sym others_done

      -- a node that is left was left before
      still_left : (step it : ℕ) → Explores plan m.divisions (1 - m.side) step it
          → done plan (O on) < count_at plan m.divisions (1 - m.side) step → IsLeft plan next it
      still_left step it there hidden =
          divided.all step it (below_by_news theirs m.step step there.is_new (omega (arith, hidden, others_done))) there

      spot : IsLeft plan next hole
      spot = still_left inv.state.spot.step hole (spot_there on placed.0) (hidden_there on placed.0)

      parts : left_there ≡ total plan next (1 - m.side) + total plan next (1 - (1 - m.side))
      parts = stage_counts (plan_is game) m.divisions (1 - m.side) m.step next_stage

      own_part : 0 < total plan next m.side
      own_part = (stage_some (plan_is game) m.divisions (1 - m.side) m.step m.side next_stage inv.state.below).0

      others_part : 0 < total plan next (1 - m.side)
      others_part =
          (stage_some (plan_is game) m.divisions (1 - m.side) m.step (1 - m.side) next_stage (other_below m.side)).0

      own_total : total plan next (1 - (1 - m.side)) ≡ total plan next m.side
      own_total = let small : m.side < 2 = inv.state.below in ap (total plan next) (omega (arith, small))

      -- both itineraries of the new stage begin at the agent's node
      first : IsAsAt (plan.itinerary next (1 - m.side)) theirs m.step
      first = divided_at (plan_is game) m.divisions (1 - m.side) m.step next_stage

      own_root : (plan.itinerary next m.side).node 0 ≡ node
      own_root = sym (roots game next m.side next_stage inv.state.below) ∙ first.node

      own_steps : 0 < (plan.itinerary next m.side).steps
      own_steps =
          let few : news (plan.itinerary next m.side) (plan.itinerary next m.side).steps
          ≤ (plan.itinerary next m.side).steps =
          news_few (plan.itinerary next m.side) (plan.itinerary next m.side).steps in
          omega (arith, few, own_part)

      -- ---- what both agents have then

      abbrev p : Purse
      p = record {
        ways = share (around game) m.side spot.side;
        trips = 2 * total plan next m.side;
        marks = total plan next m.side;
        count = 0;
        at = 0;
      }

      abbrev e : Setting game
      e = setting game next (done plan m) spot.side shown configuration.reached

      -- ---- the new stage

      abbrev after : Memory
      after = held on next 0 text GoesOut

      abbrev a : Seat
      a = record { memory = after; position = At node placed.2.came; accused = configuration.accused s }

      abbrev b : Seat
      b = seat game configuration o

      abbrev hidden_next : (it : ℕ) → IsLeft plan next it → IsHidden game next a b it
      hidden_next it there = record {
        side = there.side;
        step = there.step;
        is = there.explores;
        own = λ h. subst (λ (k : ℕ). done plan after < count_at plan next k there.step) (sym h) (omega arith);
        other = λ h. subst (λ (k : ℕ). done plan (O on) < count_at plan next k there.step) (sym (h ∙ inv.state.apart))
            (omega (arith, others_next));
      }

      reached_next : (k : ℕ) → IsHidden game inv.now (seat game configuration s) b k → IsHidden game next a b k
      reached_next k h = elim (eqb_tells h.side m.side) [
        | inl it ↦
            let there : Explores plan m.divisions m.side h.step k =
            subst (λ (j : ℕ). Explores plan m.divisions j h.step k) it.1
            (subst (λ (d : Divisions). Explores plan d h.side h.step k) placed.0.knows h.is) in
            let more : news own h.step + 1 ≤ news own own.steps =
            news_below own h.step own.steps there.within there.is_new in
            let hidden : done plan m < count_at plan inv.now h.side h.step = h.own it.1 in
            let counts : count_at plan inv.now h.side h.step ≡ count_at plan m.divisions m.side h.step =
            λ i. count_at plan (placed.0.knows i) (it.1 i) h.step in
            absurd (omega (arith, more, hidden, counts, doing_is))
        | inr it ↦
            let low : h.side < 2 = h.is.below in
            let small : m.side < 2 = inv.state.below in
            let mine : h.side ≡ 1 - m.side = omega (arith, it.1, low, small) in
            let there : Explores plan m.divisions (1 - m.side) h.step k =
            subst (λ (j : ℕ). Explores plan m.divisions j h.step k) mine
            (subst (λ (d : Divisions). Explores plan d h.side h.step k) placed.0.knows h.is) in
            let hidden : done plan (O on) < count_at plan inv.now h.side h.step =
            h.other (mine ∙ sym inv.state.apart) in
            let counts : count_at plan inv.now h.side h.step ≡ count_at plan m.divisions (1 - m.side) h.step =
            λ i. count_at plan (placed.0.knows i) (mine i) h.step in
            hidden_next k (still_left h.step k there (omega (arith, hidden, counts)))
      ]

      -- what the stages to come cost
      abbrev most_rounds : ℕ
      most_rounds = rounds (total plan inv.now lost)

      rounds_fewer : rounds (total plan next spot.side) + 1 ≤ most_rounds
      rounds_fewer =
          let some = stage_some (plan_is game) m.divisions (1 - m.side) m.step spot.side next_stage spot.explores.below
          in
          let few : total plan next spot.side ≤ left_there - left_there / 2 = some.1 in
          let two : 2 ≤ left_there = next_stage.4 in
          let one : rounds (total plan next spot.side) ≤ rounds (left_there - left_there / 2) =
          rounds_within (total plan next spot.side) (left_there - left_there / 2) few in
          let half : rounds (left_there - left_there / 2) + 1 ≤ rounds left_there = rounds_half left_there two in
          let totals : total plan inv.now lost ≡ total plan m.divisions (1 - m.side) =
          λ i. total plan (placed.0.knows i) (placed.0.lost_is i) in
          let all : rounds left_there ≤ most_rounds =
          rounds_within left_there (total plan inv.now lost) (omega (arith, totals)) in
          omega (arith, one, half, all)

      paid_for : 3 * around game * rounds (total plan next spot.side) + 3 * around game ≤ inv.coming
      paid_for = round_paid (3 * around game) (rounds (total plan next spot.side)) most_rounds inv.coming rounds_fewer
          inv.state.paid.ways

      divide_turn : GoesOn (Inv game s o) left (turn_in trial configuration s)
      divide_turn =
          let state = inv.state in
          let it = placing on spot.side placed.0 placed.1 others_done (O on).phase refl state.other.placed
          state.other.ways in
          let q : Purse = purse_of on spot.side it.count it.at in
          let small : m.side < 2 = state.below in
          let sides : (O on).side ≡ 1 - m.side = state.apart in
          let explored_is : explored plan inv.now (O on).side ≡ explored plan m.divisions (1 - m.side) =
          λ i. explored plan (placed.0.knows i) (state.apart i) in
          let totals : total plan inv.now (O on).side ≡ total plan m.divisions (1 - m.side) =
          λ i. total plan (placed.0.knows i) (state.apart i) in
          let explored_too : explored plan next (O on).side ≡ done plan (O on) =
          ap (explored plan next) state.apart ∙ others_next in
          let totals_too : total plan next (O on).side ≡ total plan next (1 - m.side) =
          ap (total plan next) state.apart in
          let trips : 2 * (explored plan inv.now (O on).side + total plan inv.now (O on).side)
          ≤ inv.q.trips + 2 * done plan (O on) + spent (O on).phase = state.other.trips in
          let marks : explored plan inv.now (O on).side + total plan inv.now (O on).side
          ≤ inv.q.marks + done plan (O on) = state.other.marks in
          let few_spent : spent (O on).phase ≤ 2 = spent_few (O on).phase in
          let shares : share (around game) m.side spot.side + share (around game) (1 - m.side) spot.side
          ≡ 3 * around game = both_shares (around game) m.side spot.side small spot.explores.below in
          let share_is : share (around game) (O on).side spot.side ≡ share (around game) (1 - m.side) spot.side =
          ap (λ (k : ℕ). share (around game) k spot.side) state.apart in
          let stale_o : stale game (O on) (O on).phase shown ≤ 1 = stale_few game (O on) (O on).phase shown in
          let few_told : rounds (total plan next spot.side) + 1 ≤ most_rounds = rounds_fewer in
          let told_paid : most_rounds ≤ inv.more = state.paid.told in
          let long : length inv.now ≡ length m.divisions = ap length placed.0.knows in
          let done_after : done plan after ≡ done plan m = omega (arith, own_next) in
          let fit : Fit game e q b = record {
            placed = it.placed;
            ways = it.due;
            trips = omega (
              arith,
              trips,
              explored_is,
              totals,
              explored_too,
              totals_too,
              others_done,
              parts,
              own_total,
              few_spent,
              others_part,
            );
            marks = omega (arith, marks, explored_is, totals, explored_too, totals_too, others_done, parts, own_total);
            shows = λ k. rewritten (λ (board : List ℕ). own_in (O on).side board ≤ done plan (O on)) configuration.shown
                node k text (state.other.shows k)
                (λ h. subst (λ (j : ℕ). own_in j text ≤ done plan (O on)) (sym state.apart)
                (let less : own_in (1 - m.side) (configuration.shown node) ≤ done plan (O on) = others_show on node in
                omega (arith, less, text_other)));
            known = λ step within is_new few. absurd (omega (arith, few, explored_too));
          } in
          assembled game s o configuration (turn_in trial configuration s) left inv after (At node placed.2.came)
          (Heard Written) 1 0 (configuration.accused s) shown configuration.reached apart
          (writes trial configuration s below node placed.2.came m.seen text placed.2.at (says_told none) (room on t)
          room_for
          alike)
          (ap (λ (ph : Phase). after_in plan m ph (Heard Written)) phase_is
          ∙ cond-false _ _ _ (ne_eqb 0 (plan.itinerary next m.side).steps (λ h. omega (arith, h, own_steps))))
          (record {
            now = next;
            p = p;
            q = q;
            coming = inv.coming - 3 * around game;
            more = inv.more - 1;
            state = record {
              stage = next_stage;
              below = state.below;
              apart = state.apart;
              apart_too = state.apart_too;
              spot = hidden_next hole spot;
              own = record {
                placed = (
                  record {
                    within = own_steps;
                    behind = refl;
                    far = omega arith;
                    same = refl;
                    clear = λ h. placed.0.clear (sym own_root ∙ h);
                    heard = λ h. absurd (omega (arith, h));
                    none = placed.0.none;
                  },
                  record { came = placed.2.came; at = ap (λ (k : ℕ). At k placed.2.came) (sym own_root) },
                );
                ways = omega arith;
                trips = omega arith;
                marks = omega arith;
                shows = λ k. rewritten (λ (board : List ℕ). own_in m.side board ≤ done plan after) configuration.shown
                    node k
                    text (was_less k) (λ h. let less : own_in m.side (configuration.shown node) ≤ done plan after =
                    was_less node in omega (arith, less, text_own));
                known = λ step within is_new few. absurd (omega (arith, few));
              };
              other = subst (λ (k : ℕ). Fit game (setting game next k spot.side shown configuration.reached) q b)
                  (sym done_after) fit;
              told = λ k. rewritten (λ (board : List ℕ). told_in board ≤ length next) configuration.shown node k text
                  (let few : told_in (configuration.shown k) ≤ length inv.now =
                  state.told k in omega (arith, few, long))
                  (λ h. omega (arith, text_told));
              reached = λ k within away. elim (state.reached k within away) [
                | inl h ↦ inl h
                | inr h ↦ inr (reached_next k h)
              ];
              paid = record {
                ways = omega (arith, paid_for);
                told = omega (arith, few_told, told_paid);
              };
            };
            dues = omega (
              arith,
              shares,
              share_is,
              paid_for,
              trips,
              explored_is,
              totals,
              others_done,
              parts,
              own_total,
              few_spent,
              others_part,
            );
            spends = omega (
              arith,
              t,
              shares,
              share_is,
              paid_for,
              trips,
              marks,
              explored_is,
              totals,
              others_done,
              parts,
              own_total,
              few_spent,
              others_part,
              stale_o,
              few_told,
              told_paid,
            );
            fewer = omega (
              arith,
              pc,
              shares,
              share_is,
              paid_for,
              trips,
              marks,
              explored_is,
              totals,
              others_done,
              parts,
              own_total,
              few_spent,
              others_part,
              stale_o,
              few_told,
              told_paid,
            );
          })
        where
          was_less : (k : ℕ) → own_in m.side (configuration.shown k) ≤ done plan after
          was_less k =
              let less : own_in m.side (configuration.shown k) ≤ done plan m = inv.state.own.shows k in
              omega (arith, less, own_next)

  pub tell_turn : m.phase ≡ Tells → GoesOn (Inv game s o) left (turn_in trial configuration s)
  tell_turn is = elim (eqb_tells left_there 1) [
    | inl h ↦ accuse_turn is h.0 h.1
    | inr h ↦ by_cases (bytes_eq (configuration.shown node) m.seen)
        (GoesOn (Inv game s o) left (turn_in trial configuration s))
        (λ alike. divide_turn is h.0 h.1 alike)
        (λ differs. changed_turn is h.0 differs)
  ]
