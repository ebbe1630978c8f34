-- The partner's position in the new stage, after an agent has divided its part of the old one, and the moves that the
-- partner owes.
use Rattle.std.proofs.Common.{ℕ, zero, suc, ◌+◌, ◌-◌, ◌*◌, ◌<◌, ◌≤◌, ◌≡◌, true}
use Rattle.std.proofs.Common.{List, ◌∷◌, length, refl, sym, ap, ◌∙◌, subst, arith}
use Rattle.bhs_model.proofs.StepLemmas.{changed_same}
use Rattle.bhs_model.specs.Runs.{changed}
use Rattle.bhs_protocols.specs.Shuttle.{other_in}
use Rattle.bhs_protocols.specs.Halves.{own_in}
use Rattle.bhs_protocols_divided.specs.Plans.{Itinerary, Divisions, IsItinerary}
use Rattle.bhs_protocols_divided.specs.Plans.{news, explored}
use Rattle.bhs_protocols_divided.specs.Dividing.{Memory, Phase, Begins, GoesOut, Leaves, Tries, Turns, Returns, Writes}
use Rattle.bhs_protocols_divided.specs.Dividing.{Follows}
use Rattle.bhs_protocols_divided.specs.Dividing.{Passes, Tells, Ends, own_of, others_of, told}
use Rattle.bhs_protocols_divided.specs.Dividing.{told_in}
use Rattle.bhs_protocols_divided.proofs.NewsLemmas.{below_by_news, walked}
use Rattle.bhs_protocols_divided.proofs.NewsLemmas.{walked_few}
use Rattle.bhs_protocols_divided.proofs.StageLemmas.{stacked, stacked_on}
use Rattle.bhs_protocols_divided.proofs.StageLemmas.{explored_stacked}
use Rattle.bhs_protocols_divided.proofs.StageLemmas.{IsAsAt, total}
use Rattle.bhs_protocols_divided.proofs.DividingDues.{Purse, done, done_by, share}
use Rattle.bhs_protocols_divided.proofs.DividingDues.{reach}
use Rattle.bhs_protocols_divided.proofs.DividingState.{Game, Setting, setting, IsOut, IsTrying, IsPlaced}
use Rattle.bhs_protocols_divided.proofs.DividingState.{IsDue, around}
use Rattle.bhs_protocols_divided.proofs.DividingLemmas.{told_written}
use Rattle.bhs_protocols_divided.proofs.DividingKeeps.{Turn, M, O}
use Rattle.bhs_protocols_divided.proofs.DividingFacts.{first_is, share_own}
use Rattle.bhs_protocols_divided.proofs.DividingAfter.{other_below}
use Rattle.bhs_protocols_divided.proofs.DividingFollows.{Goes, theirs_is}
use Rattle.bhs_protocols.proofs.TurnLemmas.{writes}

module _ {game : Game} (on : Turn game) where
  open game use {world, n, plan}
  open on use {s, o, configuration, apart, inv}

  abbrev m : Memory
  m = M on

  abbrev theirs : Itinerary
  theirs = others_of plan m

  abbrev lost : ℕ
  lost = inv.state.spot.side

  abbrev node : ℕ
  node = theirs.node m.step

  -- the text that the agent writes
  abbrev pub text : List ℕ
  text = told m

  -- the whiteboards after the write
  abbrev pub shown : ℕ → List ℕ
  shown = changed configuration.shown node text

  -- the divisions after the write
  abbrev pub next : Divisions
  next = (1 - m.side, m.step) ∷ m.divisions

  pub text_told : told_in text ≡ length m.divisions + 1
  text_told = told_written m.side (own_in m.side m.seen) (other_in m.side m.seen) (length m.divisions + 1)
      inv.state.below

  -- `side` is the side of the black hole in the new stage.
  module _ (side : ℕ) where
    -- the partner's purse in the new stage, if it has not read `count` divisions and its next one is told at step `at`
    abbrev pub q_by : (count at : ℕ) → Purse
    q_by count at = record {
      ways = inv.q.ways + share (around game) (O on).side side;
      trips = inv.q.trips - 2 * total plan next m.side;
      marks = inv.q.marks - total plan next m.side;
      count = count;
      at = at;
    }

    abbrev e : Setting game
    e = setting game next (done plan m) side shown configuration.reached

    -- the partner's place and what it owes, once the division is written
    pub record Placing (phase : Phase) : Type 0 where
      pub count : ℕ
      pub at : ℕ
      pub placed : IsPlaced game e (q_by count at) (O on) phase (configuration.position o) (configuration.accused o)
      pub due : IsDue game side (q_by count at) (O on) phase

    module _ (goes : Goes on) (is_new : theirs.is_new m.step ≡ true)
        (others_done : done plan (O on) ≡ explored plan m.divisions (1 - m.side) + news theirs m.step) where
      abbrev OutThere : Type 0
      OutThere = IsOut game (setting game inv.now (done plan m) lost configuration.shown configuration.reached) inv.q
          (O on)
          (configuration.accused o)

      abbrev o_own : Itinerary
      o_own = own_of plan (O on)

      -- the partner's progress: the number of unread divisions, and the step of its itinerary at which it reads them
      record Told : Type 0 where
        count : ℕ
        at : ℕ
        out : IsOut game e (q_by count at) (O on) (configuration.accused o)
        owed : walked o_own (reach count at) ≤ walked o_own (reach inv.q.count inv.q.at) + around game

      told_by : (count at : ℕ) → inv.now ≡ stacked (O on).side count at (O on).divisions → (O on).step ≤ at
          → news o_own at ≡ news o_own (O on).step → (it : OutThere)
          → done plan (O on) ≡ explored plan (O on).divisions (O on).side + news o_own (O on).step
          → count ≡ inv.q.count → at ≡ inv.q.at → Told
      told_by zero at behind far same it doing count_is at_is =
          let same_way : (O on).divisions ≡ m.divisions = sym behind ∙ goes.knows in
          let way : o_own ≡ theirs = λ i. plan.itinerary (same_way i) (inv.state.apart i) in
          let explored_is : explored plan (O on).divisions (O on).side ≡ explored plan m.divisions (1 - m.side) =
          λ i. explored plan (same_way i) (inv.state.apart i) in
          let news_are : news o_own m.step ≡ news theirs m.step = λ i. news (way i) m.step in
          let new_too : o_own.is_new m.step ≡ true = ap (λ (w : Itinerary). w.is_new m.step) way ∙ is_new in
          let same_news : news o_own m.step ≡ news o_own (O on).step =
          omega (arith, doing, others_done, explored_is, news_are) in
          let o_node : o_own.node m.step ≡ node = ap (λ (w : Itinerary). w.node m.step) way in
          let within : m.step < theirs.steps = goes.within in
          let steps_are : o_own.steps ≡ theirs.steps = ap (λ (w : Itinerary). w.steps) way in
          let few : walked o_own m.step ≤ around game = walked_few o_own world.net n m.step
          (subst (λ (w : Itinerary). IsItinerary world.net n w) (sym way) (theirs_is on goes))
          (omega (arith, within, steps_are)) in
          record {
            count = 1;
            at = m.step;
            out = record {
              within = it.within;
              behind = λ i. (sym inv.state.apart i, m.step) ∷ sym same_way i;
              far = below_by_news o_own (O on).step m.step new_too (omega (arith, same_news));
              same = same_news;
              clear = it.clear;
              heard = λ h. ap (λ (k : ℕ). told_in (shown k)) o_node
                  ∙ ap told_in (changed_same configuration.shown node text) ∙ text_told ∙ (omega arith);
              none = it.none;
            };
            owed = omega (arith, few);
          }
      told_by (suc count) at behind far same it doing count_is at_is =
          let begins : IsAsAt (plan.itinerary inv.now (O on).side) o_own at =
          first_is game inv.now (O on) inv.state.stage
          (subst (λ (k : ℕ). k < 2) (sym inv.state.apart) (other_below m.side))
          count at behind in
          let way : plan.itinerary inv.now (O on).side ≡ theirs =
          λ i. plan.itinerary (goes.knows i) (inv.state.apart i) in
          let explored_is : explored plan inv.now (O on).side ≡ explored plan m.divisions (1 - m.side) =
          λ i. explored plan (goes.knows i) (inv.state.apart i) in
          let explored_too : explored plan inv.now (O on).side
          ≡ explored plan (O on).divisions (O on).side + news o_own at =
          ap (λ (d : Divisions). explored plan d (O on).side) behind
          ∙ explored_stacked plan (O on).side count at (O on).divisions in
          let first_new : theirs.is_new 0 ≡ true = ap (λ (w : Itinerary). w.is_new 0) (sym way) ∙ begins.is_new in
          let low : m.step ≤ 0 = below_by_news theirs m.step 0 first_new
          (omega (arith, doing, others_done, explored_is, explored_too, same)) in
          let zero_is : m.step ≡ 0 = omega (arith, low) in
          let o_node : o_own.node at ≡ node =
          sym begins.node ∙ ap (λ (w : Itinerary). w.node 0) way ∙ ap theirs.node (sym zero_is) in
          let next_is : next ≡ stacked (O on).side (suc (suc count)) at (O on).divisions =
          (λ i. (sym inv.state.apart i, zero_is i) ∷ (sym goes.knows ∙ behind) i)
          ∙ stacked_on (O on).side count at (O on).divisions in
          record {
            count = suc (suc count);
            at = at;
            out = record {
              within = it.within;
              behind = next_is;
              far = far;
              same = same;
              clear = it.clear;
              heard = λ h. ap (λ (k : ℕ). told_in (shown k)) o_node
                  ∙ ap told_in (changed_same configuration.shown node text) ∙ text_told ∙ (omega arith);
              none = it.none;
            };
            owed = let same_reach : walked o_own at ≡ walked o_own (reach inv.q.count inv.q.at) =
                ap (walked o_own) (λ i. reach (count_is i) (at_is i)) in omega (arith, same_reach);
          }

      from_out : OutThere → done plan (O on) ≡ explored plan (O on).divisions (O on).side + news o_own (O on).step
          → Told
      from_out it doing = told_by inv.q.count inv.q.at it.behind it.far it.same it doing refl refl

      lost_there : lost ≡ (O on).side
      lost_there = goes.lost_is ∙ sym inv.state.apart

      their_share : share (around game) (O on).side lost ≡ around game
      their_share = share_own (around game) (O on).side lost lost_there

      no_both : lost ≡ 1 - (O on).side → ⊥
      no_both h =
          let there : lost ≡ (O on).side = lost_there in
          let small : lost < 2 = inv.state.spot.is.below in
          omega (arith, h, there, small)

      due_by : (it : Told) (extra : ℕ)
          → walked o_own (reach inv.q.count inv.q.at) + share (around game) (O on).side lost
          ≤ inv.q.ways + walked o_own (O on).step + extra
          → walked o_own (reach it.count it.at) + share (around game) (O on).side side
          ≤ inv.q.ways + share (around game) (O on).side side + walked o_own (O on).step + extra
      due_by it extra due =
          let owed : walked o_own (reach it.count it.at) ≤ walked o_own (reach inv.q.count inv.q.at) + around game =
          it.owed in
          omega (arith, due, owed, their_share)

      abbrev WasPlaced : Phase → Type 0
      WasPlaced phase = IsPlaced game (setting game inv.now (done plan m) lost configuration.shown
          configuration.reached)
          inv.q (O on) phase (configuration.position o) (configuration.accused o)

      trying_too : IsTrying game (setting game inv.now (done plan m) lost configuration.shown configuration.reached)
          (O on)
          → IsTrying game e (O on)
      trying_too it = record { is_new = it.is_new; safe = it.safe; come = it.come }

      pub placing : (phase : Phase) → (O on).phase ≡ phase → WasPlaced phase → IsDue game lost inv.q (O on) phase
          → Placing phase
      placing Begins is it due =
          let told_it = from_out it.0 (ap (done_by plan (O on)) is) in
          let owes = due_by told_it 0 (omega (arith, due)) in
          record {
            count = told_it.count;
            at = told_it.at;
            placed = (told_it.out, it.1, it.2, it.3);
            due =
                omega (arith, owes);
          }
      placing GoesOut is it due =
          let told_it = from_out it.0 (ap (done_by plan (O on)) is) in
          let owes = due_by told_it 0 (omega (arith, due)) in
          record { count = told_it.count; at = told_it.at; placed = (told_it.out, it.1); due = omega (arith, owes) }
      placing Leaves is it due =
          let told_it = from_out it.0 (ap (done_by plan (O on)) is) in
          let owes = due_by told_it 1 (omega (arith, due)) in
          record {
            count = told_it.count;
            at = told_it.at;
            placed = (told_it.out, it.1, it.2);
            due =
                omega (arith, owes);
          }
      placing Tries is it due =
          let told_it = from_out it.0 (ap (done_by plan (O on)) is) in
          let owes = due_by told_it 0 (omega (arith, due)) in
          record {
            count = told_it.count;
            at = told_it.at;
            placed = (told_it.out, it.1, it.2);
            due =
                omega (arith, owes);
          }
      placing Turns is it due =
          let told_it = from_out it.0 (ap (done_by plan (O on)) is) in
          let owes = due_by told_it 0 (omega (arith, due)) in
          record {
            count = told_it.count;
            at = told_it.at;
            placed = (told_it.out, trying_too it.1, it.2);
            due = omega (arith, owes);
          }
      placing Returns is it due =
          let told_it = from_out it.0 (ap (done_by plan (O on)) is) in
          let owes = due_by told_it 0 (omega (arith, due)) in
          record {
            count = told_it.count;
            at = told_it.at;
            placed = (told_it.out, trying_too it.1, it.2);
            due = omega (arith, owes);
          }
      placing Writes is it due =
          let told_it = from_out it.0 (ap (done_by plan (O on)) is) in
          let owes = due_by told_it 0 (omega (arith, due)) in
          record {
            count = told_it.count;
            at = told_it.at;
            placed = (told_it.out, trying_too it.1, it.2, it.3);
            due = omega (arith, owes);
          }
      placing Follows is it due = absurd (no_both it.0.lost_is)
      placing Passes is it due = absurd (no_both it.0.lost_is)
      placing Tells is it due = absurd (no_both it.0.lost_is)
      placing Ends is it due = absurd (no_both it.1)
