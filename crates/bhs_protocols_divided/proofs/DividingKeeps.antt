-- The invariant is stable under turns of the partner, and turns that neither mark nor divide preserve it.
use Rattle.std.proofs.Common.{ℕ, ◌+◌, ◌-◌, ◌*◌, ◌<◌, ◌≤◌, ◌≡◌, Bool, true, false, ◌==◌, Option}
use Rattle.std.proofs.Common.{List, length, refl, sym, subst, inl, inr, arith}
use Rattle.bhs_model.specs.Runs.{Position}
use Rattle.bhs_schedules.specs.Strategies.{Observation}
use Rattle.bhs_schedules.specs.Schedules.{Trial}
use Rattle.bhs_protocols.specs.Configurations.{Configuration, turn_in}
use Rattle.bhs_protocols.specs.Invariants.{GoesOn}
use Rattle.bhs_protocols.specs.Halves.{own_in}
use Rattle.bhs_protocols_divided.specs.Plans.{Divisions, news, explored, count_at}
use Rattle.bhs_protocols_divided.specs.Dividing.{Memory, Phase, Begins, GoesOut, Leaves, Tries, Turns, Returns, Writes}
use Rattle.bhs_protocols_divided.specs.Dividing.{Follows}
use Rattle.bhs_protocols_divided.specs.Dividing.{Passes, Tells, Ends, own_of, others_of, told_in, after_in}
use Rattle.bhs_protocols_divided.proofs.StageLemmas.{total}
use Rattle.bhs_protocols_divided.proofs.DividingDues.{Seat, Purse, done, spent, paces, tasks}
use Rattle.bhs_protocols_divided.proofs.DividingState.{Game, Setting, setting, IsOut, IsAfter, IsTrying, IsPlaced}
use Rattle.bhs_protocols_divided.proofs.DividingState.{IsDue, Fit}
use Rattle.bhs_protocols_divided.proofs.DividingState.{IsHidden, Inv, assembled, mem, seat, stale, trial as trial_of}
use Rattle.bhs_protocols.proofs.TurnLemmas.{Becomes}

module _ (game : Game) where
  open game use {world, n, hole, plan}

  -- ---- the other agent goes on: it explores more, more nodes are reached, and whiteboards keep what was told

  pub record IsFurther (now : Divisions) (others others_too : ℕ) (shown shown_too : ℕ → List ℕ) (seen seen_too : ℕ
      → Bool)
      : Type 0 where
    pub more : others ≤ others_too
    pub tells : (node : ℕ) → told_in (shown node) ≡ length now → told_in (shown_too node) ≡ length now
    pub grows : (node : ℕ) → seen node ≡ true → seen_too node ≡ true

  module _ (now : Divisions) (lost others others_too : ℕ) (shown shown_too : ℕ → List ℕ) (seen seen_too : ℕ → Bool)
      (further : IsFurther now others others_too shown shown_too seen seen_too) where
    abbrev old : Setting game
    old = setting game now others lost shown seen

    abbrev new : Setting game
    new = setting game now others_too lost shown_too seen_too

    out_more : (p : Purse) (m : Memory) (accused : Option (ℕ × ℕ)) → IsOut game old p m accused
        → IsOut game new p m accused
    out_more p m accused it = record {
      within = it.within;
      behind = it.behind;
      far = it.far;
      same = it.same;
      clear = it.clear;
      heard = λ some. further.tells ((own_of plan m).node p.at) (it.heard some);
      none = it.none;
    }

    after_more : (m : Memory) (accused : Option (ℕ × ℕ)) → IsAfter game old m accused → IsAfter game new m accused
    after_more m accused it =
        let few : explored plan m.divisions (1 - m.side) + news (others_of plan m) m.step ≤ others = it.few in
        let more : others ≤ others_too = further.more in
        record {
          knows = it.knows;
          within = it.within;
          few = omega (arith, few, more);
          lost_is = it.lost_is;
          clear = it.clear;
          none = it.none;
        }

    trying_more : (m : Memory) → IsTrying game old m → IsTrying game new m
    trying_more m it = record {
      is_new = it.is_new;
      safe = it.safe;
      come = further.grows ((own_of plan m).target m.step) it.come;
    }

    placed_more : (p : Purse) (m : Memory) (phase : Phase) (position : Position) (accused : Option (ℕ × ℕ))
        → IsPlaced game old p m phase position accused → IsPlaced game new p m phase position accused
    placed_more p m Begins position accused it = (out_more p m accused it.0, it.1, it.2, it.3)
    placed_more p m GoesOut position accused it = (out_more p m accused it.0, it.1)
    placed_more p m Leaves position accused it = (out_more p m accused it.0, it.1, it.2)
    placed_more p m Tries position accused it = (out_more p m accused it.0, it.1, it.2)
    placed_more p m Turns position accused it = (out_more p m accused it.0, trying_more m it.1, it.2)
    placed_more p m Returns position accused it = (out_more p m accused it.0, trying_more m it.1, it.2)
    placed_more p m Writes position accused it = (out_more p m accused it.0, trying_more m it.1, it.2, it.3)
    placed_more p m Follows position accused it = (after_more m accused it.0, it.1, it.2)
    placed_more p m Passes position accused it = (after_more m accused it.0, it.1, it.2)
    placed_more p m Tells position accused it = (after_more m accused it.0, it.1, it.2, it.3)
    placed_more p m Ends position accused it =
        let few : explored plan m.divisions (1 - m.side) + news (others_of plan m) m.step ≤ others = it.7 in
        let more : others ≤ others_too = further.more in
        (it.0, it.1, it.2, it.3, it.4, it.5, it.6, omega (arith, few, more), it.8)

    pub fit_more : (p : Purse) (a : Seat)
        → ((node : ℕ) → own_in a.memory.side (shown_too node) ≡ own_in a.memory.side (shown node))
        → Fit game old p a → Fit game new p a
    fit_more p a same fit = record {
      placed = placed_more p a.memory a.memory.phase a.position a.accused fit.placed;
      ways = fit.ways;
      trips = fit.trips;
      marks = fit.marks;
      shows = λ node. subst (λ (k : ℕ). k ≤ done plan a.memory) (sym (same node)) (fit.shows node);
      known = λ step within is_new explored.
          subst (λ (k : ℕ). count_at plan now a.memory.side step ≤ k)
          (sym (same ((plan.itinerary now a.memory.side).node step))) (fit.known step within is_new explored);
    }

  -- ---- a turn of an agent

  pub record Turn : Type 0 where
    pub s : ℕ
    pub o : ℕ
    pub configuration : Configuration
    pub left : ℕ
    pub below : s < world.agents
    pub apart : (o == s) ≡ false
    pub inv : Inv game s o configuration left

module _ {game : Game} (on : Turn game) where
  open game use {world, n, hole, plan}
  open on use {s, o, configuration, left, apart, inv}

  abbrev trial : Trial
  trial = trial_of game

  abbrev pub M : Memory
  M = mem game configuration s

  abbrev pub O : Memory
  O = mem game configuration o

  -- what an agent holds that has its side
  abbrev pub held : (divisions : Divisions) (step : ℕ) (seen : List ℕ) → Phase → Memory
  held divisions step seen phase =
      record { side = M.side; divisions = divisions; step = step; seen = seen; phase = phase }

  -- how things are for the agent, once these nodes were reached
  abbrev pub here : (ℕ → Bool) → Setting game
  here seen = setting game inv.now (done plan O) inv.state.spot.side configuration.shown seen

  pub placed_as : (phase : Phase) → M.phase ≡ phase → IsPlaced game (here configuration.reached) inv.p M phase
      (configuration.position s) (configuration.accused s)
  placed_as phase is =
      subst (λ (it : Phase). IsPlaced game (here configuration.reached) inv.p M it (configuration.position s)
      (configuration.accused s)) is inv.state.own.placed

  pub due_as : (phase : Phase) → M.phase ≡ phase → IsDue game inv.state.spot.side inv.p M phase
  due_as phase is = subst (λ (it : Phase). IsDue game inv.state.spot.side inv.p M it) is inv.state.own.ways

  -- it marks nothing and divides nothing
  pub paced_by : (divisions : Divisions) (step : ℕ) (text : List ℕ) (phase : Phase) (place : Position)
      (news_are : Observation) (costs moved : ℕ) (accused : Option (ℕ × ℕ)) (p : Purse) (seen : ℕ → Bool)
      → Becomes configuration (turn_in trial configuration s) s place news_are costs moved accused configuration.shown
      seen
      → after_in plan M M.phase news_are ≡ held divisions step text phase
      → done plan (held divisions step text phase) ≡ done plan M
      → ((node : ℕ) → configuration.reached node ≡ true → seen node ≡ true)
      → IsPlaced game (here seen) p (held divisions step text phase) phase place accused
      → IsDue game inv.state.spot.side p (held divisions step text phase) phase
      → inv.p.trips + spent M.phase ≤ p.trips + spent phase → p.marks ≡ inv.p.marks
      → moved + p.ways + p.trips ≤ inv.p.ways + inv.p.trips
      → costs + p.ways + p.trips + tasks phase
      + stale game (held divisions step text phase) phase configuration.shown
      ≤ inv.p.ways + inv.p.trips + tasks M.phase + stale game M M.phase configuration.shown
      → 2 * (p.ways + p.trips) + paces phase + stale game (held divisions step text phase) phase configuration.shown + 1
      ≤ 2 * (inv.p.ways + inv.p.trips) + paces M.phase + stale game M M.phase configuration.shown
      → GoesOn (Inv game s o) left (turn_in trial configuration s)
  paced_by divisions step text phase place news_are costs moved accused p seen becomes is same grows placed ways trips
      marks dues spends fewer =
      let after : Memory = held divisions step text phase in
      let a : Seat = record { memory = after; position = place; accused = accused } in
      let b : Seat = seat game configuration o in
      let state = inv.state in
      let hidden : (node : ℕ) → IsHidden game inv.now (seat game configuration s) b node
      → IsHidden game inv.now a b node =
      λ node it. record {
        side = it.side;
        step = it.step;
        is = it.is;
        own = λ mine. subst (λ (k : ℕ). k < count_at plan inv.now it.side it.step) (sym same) (it.own mine);
        other = it.other;
      } in
      let own_trips : 2 * (explored plan inv.now M.side + total plan inv.now M.side)
      ≤ inv.p.trips + 2 * done plan M + spent M.phase = state.own.trips in
      let own_marks : explored plan inv.now M.side + total plan inv.now M.side ≤ inv.p.marks + done plan M =
      state.own.marks in
      let other_fit : Fit game (setting game inv.now (done plan M) state.spot.side configuration.shown seen) inv.q b =
      fit_more game inv.now state.spot.side (done plan M) (done plan M) configuration.shown configuration.shown
      configuration.reached seen
      (record { more = omega arith; tells = λ node it. it; grows = grows }) inv.q b (λ node. refl) state.other in
      assembled game s o configuration (turn_in trial configuration s) left inv after place news_are costs moved accused
      configuration.shown seen apart becomes is (record {
        now = inv.now;
        p = p;
        q = inv.q;
        coming = inv.coming;
        more = inv.more;
        state = record {
          stage = state.stage;
          below = state.below;
          apart = state.apart;
          apart_too = state.apart_too;
          spot = hidden hole state.spot;
          own = record {
            placed = placed;
            ways = ways;
            trips = omega (arith, own_trips, trips, same);
            marks = omega (arith, own_marks, marks, same);
            shows = λ node. subst (λ (k : ℕ). own_in M.side (configuration.shown node) ≤ k) (sym same)
                (state.own.shows node);
            known = λ at within is_new few. state.own.known at within is_new
                (subst (λ (k : ℕ). count_at plan inv.now M.side at ≤ k) same few);
          };
          other = subst (λ (k : ℕ). Fit game (setting game inv.now k state.spot.side configuration.shown seen) inv.q b)
              (sym same) other_fit;
          told = state.told;
          reached = λ node within away. elim (state.reached node within away) [
            | inl h ↦ inl (grows node h)
            | inr h ↦ inr (hidden node h)
          ];
          paid = state.paid;
        };
        dues = omega (arith, dues);
        spends = omega (arith, spends, marks);
        fewer = omega (arith, fewer, marks);
      })
