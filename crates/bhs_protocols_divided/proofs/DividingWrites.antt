-- A search by a plan: an agent marks a link, or reads there what was told.
use Rattle.std.proofs.Common.{ℕ, zero, suc, ◌+◌, ◌-◌, ◌*◌, ◌<◌, ◌≤◌, ◌≡◌, ◌⊎◌, Bool, true, false}
use Rattle.std.proofs.Common.{List, length, refl, sym, ap, ◌∙◌, subst, nat_lt, inl, inr, arith}
use Rattle.std.specs.Prelude.{◌≢◌, bytes_eq}
use Rattle.std.proofs.lemmas.Bool.{cond-false, ltb-true, ltb-false}
use Rattle.std.proofs.lemmas.Bool.Decides.{eqb_tells}
use Rattle.std.proofs.lemmas.Slice.Eq.{bytes_eq-Decides}
use Rattle.bhs_model.proofs.StepLemmas.{by_cases, changed_same, changed_other}
use Rattle.bhs_model.specs.declared.replies.Reply.TheVariants.{Written, Changed}
use Rattle.bhs_model.specs.Runs.{At, changed}
use Rattle.bhs_schedules.specs.Strategies.{Heard}
use Rattle.bhs_schedules.specs.Schedules.{Trial}
use Rattle.bhs_protocols.specs.Configurations.{turn_in}
use Rattle.bhs_protocols.specs.Invariants.{GoesOn}
use Rattle.bhs_protocols.specs.Shuttle.{other_in}
use Rattle.bhs_protocols.specs.Halves.{own_in}
use Rattle.bhs_protocols_divided.specs.Plans.{Itinerary, Divisions, IsItinerary, Explores, news, explored}
use Rattle.bhs_protocols_divided.specs.Plans.{count_at}
use Rattle.bhs_protocols_divided.specs.Dividing.{Memory, Phase, Begins, GoesOut, Leaves, Tries, Turns, Returns, Writes}
use Rattle.bhs_protocols_divided.specs.Dividing.{Follows}
use Rattle.bhs_protocols_divided.specs.Dividing.{Passes, Tells, Ends, own_of, others_of, does_in, after_in, comes, sees}
use Rattle.bhs_protocols_divided.specs.Dividing.{told_in, marked}
use Rattle.bhs_protocols_divided.proofs.NewsLemmas.{news_new, same_by_news, walked, walked_new}
use Rattle.bhs_protocols_divided.proofs.StageLemmas.{stacked, stacked_long, total}
use Rattle.bhs_protocols_divided.proofs.DividingDues.{Seat, Purse, done, done_by, spent, paces, tasks, miss, reach}
use Rattle.bhs_protocols_divided.proofs.DividingState.{Game, setting, IsOut, IsTrying, IsPlaced, IsAtNode, IsDue, Fit}
use Rattle.bhs_protocols_divided.proofs.DividingState.{IsHidden, Inv, assembled, seat, stale, trial as trial_of}
use Rattle.bhs_protocols_divided.proofs.DividingLemmas.{own_written, other_written, told_written, text_fits, other_is}
use Rattle.bhs_protocols_divided.proofs.DividingKeeps.{Turn, M, O, held, here, placed_as, due_as, paced_by, fit_more}
use Rattle.bhs_protocols_divided.proofs.DividingFacts.{more_to_come, new_at}
use Rattle.bhs_protocols_divided.proofs.DividingTurns.{Out, doing, own_is, room}
use Rattle.bhs_protocols_divided.proofs.DividingAfter.{at_end}
use Rattle.bhs_protocols_divided.proofs.DividingArrivals.{others_show, others_few, others_hidden, relearned}
use Rattle.bhs_protocols.proofs.TurnLemmas.{writes, writes_not}

pub miss_few : (b : Bool) → miss b ≤ 1
miss_few true = omega arith
miss_few false = omega arith

pub stale_few : (game : Game) (m : Memory) (phase : Phase) (shown : ℕ → List ℕ) → stale game m phase shown ≤ 1
stale_few game m Begins shown = omega arith
stale_few game m GoesOut shown = omega arith
stale_few game m Leaves shown = omega arith
stale_few game m Tries shown = omega arith
stale_few game m Turns shown = omega arith
stale_few game m Returns shown = omega arith
stale_few game m Writes shown = miss_few (bytes_eq (shown ((own_of game.plan m).node m.step)) m.seen)
stale_few game m Follows shown = omega arith
stale_few game m Passes shown = omega arith
stale_few game m Tells shown = miss_few (bytes_eq (shown ((others_of game.plan m).node m.step)) m.seen)
stale_few game m Ends shown = omega arith

-- a whiteboard after a write
pub rewritten : {A : Type 0} (P : A → Type 0) (f : ℕ → A) (node k : ℕ) (value : A) → P (f k)
    → (k ≡ node → P value) → P (changed f node value k)
rewritten {A = A} P f node k value old new = elim (eqb_tells k node) [
  | inl h ↦ subst P (sym (ap (changed f node value) h.1 ∙ changed_same f node value)) (new h.1)
  | inr h ↦ subst P (sym (changed_other f node k value h.0)) old
]

module _ {game : Game} (on : Turn game) where
  open game use {world, n, hole, wakeups, plan}
  open on use {s, o, configuration, left, below, apart, inv}

  abbrev trial : Trial
  trial = trial_of game

  abbrev m : Memory
  m = M on

  abbrev own : Itinerary
  own = own_of plan m

  abbrev lost : ℕ
  lost = inv.state.spot.side

  abbrev node : ℕ
  node = own.node m.step

  -- the write fails
  changed_turn : m.phase ≡ Writes → bytes_eq (configuration.shown node) m.seen ≡ false
      → GoesOn (Inv game s o) left (turn_in trial configuration s)
  changed_turn is differs =
      let placed = placed_as on Writes is in
      let it : Out on = placed.0 in
      let t : tasks m.phase ≡ 1 = ap tasks is in
      let p : paces m.phase ≡ 1 = ap paces is in
      let sp : spent m.phase ≡ 2 = ap spent is in
      let doing_is : done plan m ≡ explored plan m.divisions m.side + news own m.step = doing on Writes is in
      let board : List ℕ = configuration.shown node in
      let was : stale game m m.phase configuration.shown ≡ 1 =
      ap (λ (ph : Phase). stale game m ph configuration.shown) is ∙ ap miss differs in
      let again = relearned on configuration.reached placed.2.came it placed.1 (due_as on Writes is) in
      let fresh : stale game (held on again.now again.step board Writes) Writes configuration.shown ≡ 0 = again.fresh in
      let room_for : length (marked plan m) ≤ 5 = text_fits m.side (count_at plan m.divisions m.side m.step)
      (other_in m.side m.seen) (told_in m.seen) inv.state.below in
      let board_room : 5 ≤ world.board = game.room in
      paced_by on again.now again.step board Writes (At node placed.2.came) (Heard (Changed board)) 1 0
      (configuration.accused s) (record inv.p { count = again.count; at = again.at }) configuration.reached
      (writes_not trial configuration s below node placed.2.came m.seen (marked plan m) placed.2.at
      (ap (does_in plan m) is)
      (room on t) (omega (arith, room_for, board_room)) differs)
      (ap (λ (ph : Phase). after_in plan m ph (Heard (Changed board))) is ∙ again.is)
      (again.does ∙ sym doing_is) (λ k yes. yes) again.placed again.due (omega (arith, sp)) refl (omega arith)
      (omega (arith, t, fresh, was)) (omega (arith, p, fresh, was))

  -- who writes has read all that was told
  known_now : (count at : ℕ) → inv.now ≡ stacked m.side count at m.divisions → m.step ≤ at
      → news own at ≡ news own m.step → own.is_new m.step ≡ true
      → told_in (configuration.shown node) ≤ length m.divisions
      → (0 < count → told_in (configuration.shown (own.node at)) ≡ length inv.now)
      → (inv.now ≡ m.divisions) × (walked own (reach count at) ≡ 0)
  known_now zero at behind far same is_new few heard = (behind, refl)
  known_now (suc count) at behind far same is_new few heard =
      let new = new_at game inv.now m inv.state.stage inv.state.below count at behind in
      let at_is : at ≡ m.step = same_by_news own at m.step new.1 is_new same in
      let told : told_in (configuration.shown node) ≡ length inv.now =
      subst (λ (k : ℕ). told_in (configuration.shown (own.node k)) ≡ length inv.now) at_is (heard (omega arith)) in
      let long : length inv.now ≡ suc count + length m.divisions =
      ap length behind ∙ stacked_long m.side (suc count) at m.divisions in
      absurd (omega (arith, told, long, few))

  -- ---- the write succeeds

  module _ (phase_is : m.phase ≡ Writes) (alike : bytes_eq (configuration.shown node) m.seen ≡ true) where
    abbrev text : List ℕ
    text = marked plan m

    abbrev shown : ℕ → List ℕ
    shown = changed configuration.shown node text

    -- how many nodes it has explored then
    abbrev more : ℕ
    more = count_at plan m.divisions m.side m.step

    abbrev Placed : Type 0
    Placed = IsOut game (here on configuration.reached) inv.p m (configuration.accused s)
        × IsTrying game (here on configuration.reached) m
        × IsAtNode game node (configuration.position s) × (told_in m.seen ≤ length m.divisions)

    placed : Placed
    placed = placed_as on Writes phase_is

    doing_is : done plan m ≡ explored plan m.divisions m.side + news own m.step
    doing_is = doing on Writes phase_is

    was_seen : configuration.shown node ≡ m.seen
    was_seen = (bytes_eq-Decides (configuration.shown node) m.seen).0 alike

    known : (inv.now ≡ m.divisions) × (walked own (reach inv.p.count inv.p.at) ≡ 0)
    known = known_now inv.p.count inv.p.at placed.0.behind placed.0.far placed.0.same placed.1.is_new
        (subst (λ (board : List ℕ). told_in board ≤ length m.divisions) (sym was_seen) placed.3) placed.0.heard

    news_is : news own (m.step + 1) ≡ news own m.step + 1
    news_is = news_new own m.step placed.1.is_new

    text_own : own_in m.side text ≡ more
    text_own = own_written m.side more (other_in m.side m.seen) (told_in m.seen) inv.state.below

    text_other : own_in (1 - m.side) text ≡ own_in (1 - m.side) (configuration.shown node)
    text_other = other_written m.side more (other_in m.side m.seen) (told_in m.seen) inv.state.below
        ∙ other_is m.side m.seen inv.state.below ∙ ap (own_in (1 - m.side)) (sym was_seen)

    text_told : told_in text ≡ told_in (configuration.shown node)
    text_told = told_written m.side more (other_in m.side m.seen) (told_in m.seen) inv.state.below
        ∙ ap told_in (sym was_seen)

    -- This step's node is the only new node whose count the mark reaches.
    is_this : (step : ℕ) (it : ℕ) → Explores plan inv.now m.side step it
        → done plan m < count_at plan inv.now m.side step
        → count_at plan inv.now m.side step ≤ more → step ≡ m.step
    is_this step it there hidden reached =
        let count_is : count_at plan inv.now m.side step ≡ count_at plan m.divisions m.side step =
        ap (λ (d : Divisions). count_at plan d m.side step) known.0 in
        let there_too : Explores plan m.divisions m.side step it =
        subst (λ (d : Divisions). Explores plan d m.side step it) known.0 there in
        same_by_news own step m.step there_too.is_new placed.1.is_new
        (omega (arith, count_is, hidden, reached, doing_is))

    own_target : (step it : ℕ) → Explores plan inv.now m.side step it → step ≡ m.step → own.target m.step ≡ it
    own_target step it there same =
        let there_too : Explores plan m.divisions m.side step it =
        subst (λ (d : Divisions). Explores plan d m.side step it) known.0 there in
        ap own.target (sym same) ∙ there_too.is

    -- what it has then
    abbrev purse : Purse
    purse = record inv.p { marks = inv.p.marks - 1; count = 0; at = m.step + 1 }

    record Came (after : Memory) : Type 0 where
      step : ℕ
      phase : Phase
      is : after ≡ held on m.divisions step text phase
      placed : IsPlaced game (setting game inv.now (done plan (O on)) lost shown configuration.reached) purse
          (held on m.divisions step text phase) phase (At node placed.2.came) (configuration.accused s)
      due : IsDue game lost purse (held on m.divisions step text phase) phase
      paced : paces phase ≡ 1
      tasked : tasks phase ≡ 1
      spends : spent phase ≡ 0
      fresh : stale game (held on m.divisions step text phase) phase shown ≡ 0
      does : done_by plan (held on m.divisions step text phase) phase ≡ more

    hidden_still : lost ≡ m.side → more < count_at plan inv.now lost inv.state.spot.step
    hidden_still h =
        let before : done plan m < count_at plan inv.now lost inv.state.spot.step = inv.state.spot.own h in
        by_cases (nat_lt more (count_at plan inv.now lost inv.state.spot.step))
        (more < count_at plan inv.now lost inv.state.spot.step)
        (λ yes. ltb-true more (count_at plan inv.now lost inv.state.spot.step) yes)
        (λ none.
        let few : count_at plan inv.now lost inv.state.spot.step ≤ more =
        ltb-false more (count_at plan inv.now lost inv.state.spot.step) none in
        let there : Explores plan inv.now m.side inv.state.spot.step hole =
        subst (λ (k : ℕ). Explores plan inv.now k inv.state.spot.step hole) h inv.state.spot.is in
        let counts : count_at plan inv.now lost inv.state.spot.step ≡ count_at plan inv.now m.side inv.state.spot.step =
        ap (λ (k : ℕ). count_at plan inv.now k inv.state.spot.step) h in
        let same : inv.state.spot.step ≡ m.step =
        is_this inv.state.spot.step hole there (omega (arith, before, counts)) (omega (arith, few, counts)) in
        absurd (placed.1.safe (own_target inv.state.spot.step hole there same)))

    came : Came (comes plan (sees m text) (m.step + 1))
    came =
        let net_is : IsItinerary world.net n own = own_is on placed.0 in
        let stays : own.node (m.step + 1) ≡ node = net_is.stays m.step placed.0.within placed.1.is_new in
        let at : IsAtNode game (own.node (m.step + 1)) (At node placed.2.came) =
        record { came = placed.2.came; at = ap (λ (k : ℕ). At k placed.2.came) (sym stays) } in
        let clear : own.node (m.step + 1) ≢ hole = λ h. placed.0.clear (sym stays ∙ h) in
        let within : m.step < own.steps = placed.0.within in
        let due = due_as on Writes phase_is in
        let none : walked own (reach inv.p.count inv.p.at) ≡ 0 = known.1 in
        let walks : walked own (m.step + 1) ≡ walked own m.step = walked_new own m.step placed.1.is_new in
        let shows : own_in (1 - m.side) text ≤ done plan (O on) =
        subst (λ (k : ℕ). k ≤ done plan (O on)) (sym text_other) (others_show on node) in
        elim (eqb_tells (m.step + 1) own.steps) [
          | inl h ↦
              let all : news own own.steps ≡ news own m.step + 1 = ap (news own) (sym h.1) ∙ news_is in
              let it = at_end game inv.now (sees m text) inv.state.stage inv.state.below known.0 (done plan (O on)) lost
              inv.state.spot.step inv.state.spot.is (others_hidden on) shown configuration.reached shows purse
              (At node placed.2.came) (configuration.accused s) (m.step + 1) h.1 placed.0.none at clear
              (ap shown stays ∙ changed_same configuration.shown node text)
              (λ e. let still : more < count_at plan inv.now lost inv.state.spot.step = hidden_still e in
              omega (arith, still, all)) (others_few on) (omega (arith, due, walks, none)) in
              record {
                step = it.step;
                phase = it.phase;
                is = it.is;
                placed = it.placed;
                due = it.due;
                paced = it.paced;
                tasked = it.tasked;
                spends = it.spends;
                fresh = it.fresh;
                does = it.does ∙ (omega (arith, all));
              }
          | inr h ↦ record {
            step = m.step + 1;
            phase = GoesOut;
            is = cond-false _ _ _ h.0;
            placed = (
              record {
                within = omega (arith, within, h.1);
                behind = known.0;
                far = omega arith;
                same = refl;
                clear = clear;
                heard = λ e. absurd (omega (arith, e));
                none = placed.0.none;
              },
              at,
            );
            due = omega (arith, due, walks, none);
            paced = refl;
            tasked = refl;
            spends = refl;
            fresh = refl;
            does = omega (arith, news_is);
          }
        ]

    written_turn : GoesOn (Inv game s o) left (turn_in trial configuration s)
    written_turn =
        let it : Came (comes plan (sees m text) (m.step + 1)) = came in
        let after : Memory = held on m.divisions it.step text it.phase in
        let a : Seat = record { memory = after; position = At node placed.2.came; accused = configuration.accused s } in
        let b : Seat = seat game configuration o in
        let state = inv.state in
        let does : done plan after ≡ more = it.does in
        let t : tasks m.phase ≡ 1 = ap tasks phase_is in
        let p : paces m.phase ≡ 1 = ap paces phase_is in
        let sp : spent m.phase ≡ 2 = ap spent phase_is in
        let paced : paces it.phase ≡ 1 = it.paced in
        let tasked : tasks it.phase ≡ 1 = it.tasked in
        let spends : spent it.phase ≡ 0 = it.spends in
        let fresh : stale game after it.phase shown ≡ 0 = it.fresh in
        let stale_o : stale game (O on) (O on).phase shown ≤ 1 = stale_few game (O on) (O on).phase shown in
        let to_come : explored plan m.divisions m.side + news own m.step + 1
        ≤ explored plan inv.now m.side + total plan inv.now m.side =
        more_to_come game inv.now m state.stage state.below inv.p.count inv.p.at placed.0.behind placed.0.same
        placed.0.within placed.1.is_new in
        let own_trips : 2 * (explored plan inv.now m.side + total plan inv.now m.side)
        ≤ inv.p.trips + 2 * done plan m + spent m.phase = state.own.trips in
        let own_marks : explored plan inv.now m.side + total plan inv.now m.side ≤ inv.p.marks + done plan m =
        state.own.marks in
        let fit : Fit game (setting game inv.now more lost shown configuration.reached) inv.q b =
        fit_more game inv.now lost (done plan m) more configuration.shown shown configuration.reached
        configuration.reached
        (record {
          more = omega (arith, doing_is);
          tells = λ k told. rewritten (λ (board : List ℕ). told_in board ≡ length inv.now) configuration.shown node k
              text
              told (λ e. text_told ∙ ap (λ (j : ℕ). told_in (configuration.shown j)) (sym e) ∙ told);
          grows = λ k yes. yes;
        }) inv.q b
        (λ k. rewritten (λ (board : List ℕ). own_in b.memory.side board ≡ own_in b.memory.side (configuration.shown k))
        configuration.shown node k text refl
        (λ e. subst (λ (j : ℕ). own_in j text ≡ own_in j (configuration.shown k)) (sym state.apart)
        (text_other ∙ ap (λ (j : ℕ). own_in (1 - m.side) (configuration.shown j)) (sym e)))) state.other in
        let room_for : length text ≤ 5 = text_fits m.side more (other_in m.side m.seen) (told_in m.seen) state.below in
        let board_room : 5 ≤ world.board = game.room in
        assembled game s o configuration (turn_in trial configuration s) left inv after (At node placed.2.came)
        (Heard Written) 1 0 (configuration.accused s) shown configuration.reached apart
        (writes trial configuration s below node placed.2.came m.seen text placed.2.at (ap (does_in plan m) phase_is)
        (room on t)
        (omega (arith, room_for, board_room)) alike)
        (ap (λ (ph : Phase). after_in plan m ph (Heard Written)) phase_is ∙ it.is)
        (record {
          now = inv.now;
          p = purse;
          q = inv.q;
          coming = inv.coming;
          more = inv.more;
          state = record {
            stage = state.stage;
            below = state.below;
            apart = state.apart;
            apart_too = state.apart_too;
            spot = record {
              side = state.spot.side;
              step = state.spot.step;
              is = state.spot.is;
              own = λ h. subst (λ (k : ℕ). k < count_at plan inv.now lost state.spot.step) (sym does) (hidden_still h);
              other = state.spot.other;
            };
            own = record {
              placed = it.placed;
              ways = it.due;
              trips = omega (arith, own_trips, doing_is, does, sp, spends);
              marks = omega (arith, own_marks, doing_is, does, to_come);
              shows = λ k. subst (λ (j : ℕ). own_in m.side (shown k) ≤ j) (sym does)
                  (rewritten (λ (board : List ℕ). own_in m.side board ≤ more) configuration.shown node k text
                  (less_more (own_in m.side (configuration.shown k)) (done plan m) more (state.own.shows k)
                  (omega (arith, doing_is)))
                  (λ e. omega (arith, text_own)));
              known = λ at within is_new few.
                  known_still at within is_new (subst (λ (j : ℕ). count_at plan inv.now m.side at ≤ j) does few);
            };
            other = subst (λ (k : ℕ). Fit game (setting game inv.now k lost shown configuration.reached) inv.q b)
                (sym does) fit;
            told = λ k. rewritten (λ (board : List ℕ). told_in board ≤ length inv.now) configuration.shown node k text
                (state.told k)
                (λ e. let was : told_in (configuration.shown node) ≤ length inv.now = state.told node in
                omega (arith, was, text_told));
            reached = λ k within away. elim (state.reached k within away) [
              | inl h ↦ inl h
              | inr h ↦ reached_still it.step it.phase does k h
            ];
            paid = state.paid;
          };
          dues = omega arith;
          spends = omega (arith, t, tasked, fresh, stale_o, own_marks, doing_is, to_come);
          fewer = omega (arith, p, paced, fresh, stale_o, own_marks, doing_is, to_come);
        })
      where
        less_more : (a b c : ℕ) → a ≤ b → b ≤ c → a ≤ c
        less_more a b c one two = omega (arith, one, two)

        known_still : (at : ℕ) → at < (plan.itinerary inv.now m.side).steps
            → (plan.itinerary inv.now m.side).is_new at ≡ true → count_at plan inv.now m.side at ≤ more
            → count_at plan inv.now m.side at ≤ own_in m.side (shown ((plan.itinerary inv.now m.side).node at))
        known_still at within is_new few =
            let there : Explores plan inv.now m.side at ((plan.itinerary inv.now m.side).target at) =
            record { below = inv.state.below; within = within; is_new = is_new; is = refl } in
            by_cases (nat_lt (done plan m) (count_at plan inv.now m.side at))
            (count_at plan inv.now m.side at ≤ own_in m.side (shown ((plan.itinerary inv.now m.side).node at)))
            (λ yes.
            let same : at ≡ m.step = is_this at ((plan.itinerary inv.now m.side).target at) there
            (ltb-true (done plan m) (count_at plan inv.now m.side at) yes) few in
            let there_node : (plan.itinerary inv.now m.side).node at ≡ node =
            ap (λ (d : Divisions). (plan.itinerary d m.side).node at) known.0 ∙ ap own.node same in
            let board : own_in m.side (shown ((plan.itinerary inv.now m.side).node at)) ≡ more =
            ap (λ (k : ℕ). own_in m.side (shown k)) there_node
            ∙ ap (own_in m.side) (changed_same configuration.shown node text)
            ∙ text_own in
            omega (arith, board, few))
            (λ none.
            let before : count_at plan inv.now m.side at ≤ done plan m =
            ltb-false (done plan m) (count_at plan inv.now m.side at) none in
            rewritten (λ (board : List ℕ). count_at plan inv.now m.side at ≤ own_in m.side board) configuration.shown
            node
            ((plan.itinerary inv.now m.side).node at) text (inv.state.own.known at within is_new before)
            (λ e. omega (arith, few, text_own)))

        reached_still : (step : ℕ) (phase : Phase) → done plan (held on m.divisions step text phase) ≡ more → (k : ℕ)
            → IsHidden game inv.now (seat game configuration s) (seat game configuration o) k
            → (configuration.reached k ≡ true) ⊎ IsHidden game inv.now (record {
              memory = held on m.divisions step text phase;
              position = At node placed.2.came;
              accused = configuration.accused s;
            }) (seat game configuration o) k
        reached_still step phase does k h = elim (eqb_tells h.side m.side) [
          | inl e ↦ by_cases (nat_lt more (count_at plan inv.now h.side h.step))
              ((configuration.reached k ≡ true) ⊎ IsHidden game inv.now (record {
                memory = held on m.divisions step text phase;
                position = At node placed.2.came;
                accused = configuration.accused s;
              }) (seat game configuration o) k)
              (λ yes. inr (record {
                side = h.side;
                step = h.step;
                is = h.is;
                own = λ x. subst (λ (j : ℕ). j < count_at plan inv.now h.side h.step) (sym does)
                    (ltb-true more (count_at plan inv.now h.side h.step) yes);
                other = h.other;
              }))
              (λ none.
              let few : count_at plan inv.now h.side h.step ≤ more =
              ltb-false more (count_at plan inv.now h.side h.step) none in
              let hidden : done plan m < count_at plan inv.now h.side h.step = h.own e.1 in
              let counts : count_at plan inv.now h.side h.step ≡ count_at plan inv.now m.side h.step =
              ap (λ (j : ℕ). count_at plan inv.now j h.step) e.1 in
              let there : Explores plan inv.now m.side h.step k =
              subst (λ (j : ℕ). Explores plan inv.now j h.step k) e.1 h.is in
              let same : h.step ≡ m.step =
              is_this h.step k there (omega (arith, hidden, counts)) (omega (arith, few, counts)) in
              inl (ap configuration.reached (sym (own_target h.step k there same)) ∙ placed.1.come))
          | inr e ↦ inr (record {
            side = h.side;
            step = h.step;
            is = h.is;
            own = λ x. absurd (e.1 x);
            other = h.other;
          })
        ]

  pub write_turn : m.phase ≡ Writes → GoesOn (Inv game s o) left (turn_in trial configuration s)
  write_turn is = by_cases (bytes_eq (configuration.shown node) m.seen)
      (GoesOn (Inv game s o) left (turn_in trial configuration s))
      (λ alike. written_turn is alike)
      (λ differs. changed_turn is differs)
