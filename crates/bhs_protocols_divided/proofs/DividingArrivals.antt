-- Turns that read a whiteboard on arrival preserve the invariant.
use Rattle.std.proofs.Common.{ℕ, zero, suc, ◌+◌, ◌-◌, ◌<◌, ◌≤◌, ◌≡◌, Bool, true, false, ◌==◌, Option}
use Rattle.std.proofs.Common.{Some, None, List, length, refl, sym, ap, ◌∙◌, subst, inl, inr, arith}
use Rattle.std.specs.Prelude.{◌≢◌}
use Rattle.std.proofs.lemmas.Bool.{cond-false, ne_eqb}
use Rattle.std.proofs.lemmas.Bool.Decides.{eqb_tells}
use Rattle.bhs_model.specs.declared.replies.Reply.TheVariants.{Here}
use Rattle.bhs_model.specs.Runs.{Position, At, changed}
use Rattle.bhs_schedules.specs.Strategies.{Observation, Heard}
use Rattle.bhs_schedules.specs.Schedules.{Trial}
use Rattle.bhs_protocols.specs.Configurations.{turn_in}
use Rattle.bhs_protocols.specs.Invariants.{GoesOn}
use Rattle.bhs_protocols.specs.Halves.{own_in}
use Rattle.bhs_protocols_divided.specs.Plans.{Itinerary, Divisions, IsItinerary, news}
use Rattle.bhs_protocols_divided.specs.Plans.{explored, count_at}
use Rattle.bhs_protocols_divided.specs.Dividing.{Memory, Phase, Begins, GoesOut, Leaves, Returns, Writes}
use Rattle.bhs_protocols_divided.specs.Dividing.{own_of, others_of, does_in, after_in, comes, sees, told_in, learned}
use Rattle.bhs_protocols_divided.proofs.NewsLemmas.{news_old, same_by_news, walked, walked_old}
use Rattle.bhs_protocols_divided.proofs.StageLemmas.{stacked, stacked_long, explored_stacked, IsAsAt}
use Rattle.bhs_protocols_divided.proofs.DividingDues.{Purse, done, spent, paces, tasks, share, reach}
use Rattle.bhs_protocols_divided.proofs.DividingState.{Game, IsOut, IsTrying, IsPlaced, IsAtNode}
use Rattle.bhs_protocols_divided.proofs.DividingState.{IsDue, Inv, around, stale, trial as trial_of}
use Rattle.bhs_protocols_divided.proofs.DividingLemmas.{learned_is}
use Rattle.bhs_protocols_divided.proofs.DividingKeeps.{Turn, M, O, held, here, placed_as, due_as, paced_by}
use Rattle.bhs_protocols_divided.proofs.DividingFacts.{goes_safely, still_within, new_at, first_is}
use Rattle.bhs_protocols_divided.proofs.DividingFacts.{at_of}
use Rattle.bhs_protocols_divided.proofs.DividingTurns.{Out, doing, own_is, safe_link, grows_by, come_to}
use Rattle.bhs_protocols_divided.proofs.DividingAfter.{at_end, explored_done, no_miss, other_below}
use Rattle.bhs_protocols.proofs.MovingLemmas as moving
use Rattle.bhs_protocols.proofs.TurnLemmas.{Becomes, enters}

behind_of : (side count at step : ℕ) (now before : Divisions) → now ≡ stacked side count at before
    → now ≡ stacked side count (at_of count at step) before
behind_of side zero at step now before behind = behind
behind_of side (suc count) at step now before behind = behind

reach_of : (count at step : ℕ) → reach count (at_of count at step) ≡ reach count at
reach_of zero at step = refl
reach_of (suc count) at step = refl

module _ {game : Game} (on : Turn game) where
  open game use {world, n, hole, wakeups, plan}
  open on use {s, o, configuration, left, below, apart, inv}

  abbrev trial : Trial
  trial = trial_of game

  abbrev m : Memory
  m = M on

  abbrev own : Itinerary
  own = own_of plan m

  abbrev theirs : Itinerary
  theirs = others_of plan m

  abbrev lost : ℕ
  lost = inv.state.spot.side

  pub others_show : (node : ℕ) → own_in (1 - m.side) (configuration.shown node) ≤ done plan (O on)
  others_show node = subst (λ (k : ℕ). own_in k (configuration.shown node) ≤ done plan (O on)) inv.state.apart
      (inv.state.other.shows node)

  pub others_few : explored plan inv.now (1 - m.side) ≤ done plan (O on)
  others_few = subst (λ (k : ℕ). explored plan inv.now k ≤ done plan (O on)) inv.state.apart
      (explored_done game inv.now inv.state.stage (done plan m) lost configuration.shown configuration.reached inv.q
      (O on)
      (subst (λ (k : ℕ). k < 2) (sym inv.state.apart) (other_below m.side)) (O on).phase (configuration.position o)
      (configuration.accused o) inv.state.other.placed)

  pub others_hidden : lost ≡ 1 - m.side → done plan (O on) < count_at plan inv.now lost inv.state.spot.step
  others_hidden h = inv.state.spot.other (h ∙ sym inv.state.apart)

  -- ---- it begins

  pub begin_turn : m.phase ≡ Begins → GoesOn (Inv game s o) left (turn_in trial configuration s)
  begin_turn is =
      let placed = placed_as on Begins is in
      let it : Out on = placed.0 in
      let zero_is : m.step ≡ 0 = placed.2 in
      let p : paces m.phase ≡ 2 = ap paces is in
      let t : tasks m.phase ≡ 1 = ap tasks is in
      let sp : spent m.phase ≡ 0 = ap spent is in
      let within : m.step < own.steps = it.within in
      let board : List ℕ = configuration.shown world.home in
      let hears : Observation = Heard (Here (world.net.degree world.home) None board) in
      let apart_end : (0 == own.steps) ≡ false = ne_eqb 0 own.steps (λ h. omega (arith, h, within)) in
      let far : m.step ≤ inv.p.at = it.far in
      let due = due_as on Begins is in
      let walks : walked own m.step ≡ walked own 0 = ap (walked own) zero_is in
      paced_by on m.divisions 0 board GoesOut (At world.home None) hears 0 0 (configuration.accused s) inv.p
      configuration.reached
      (enters trial configuration s below placed.1 (ap (does_in plan m) is))
      (ap (λ (ph : Phase). after_in plan m ph hears) is ∙ cond-false _ _ _ apart_end)
      ((λ i. explored plan m.divisions m.side + news own (sym zero_is i)) ∙ sym (doing on Begins is)) (λ k was. was) (
        record {
          within = omega (arith, within);
          behind = it.behind;
          far = omega arith;
          same = it.same ∙ ap (news own) zero_is;
          clear = λ h. it.clear (ap own.node zero_is ∙ h);
          heard = it.heard;
          none = it.none;
        },
        record { came = None; at = ap (λ (k : ℕ). At k None) (sym placed.3) },
      )
      (omega (arith, due, walks)) (omega (arith, sp)) refl (omega arith) (omega (arith, t)) (omega (arith, p))

  -- ---- it goes on

  pub leave_turn : m.phase ≡ Leaves → GoesOn (Inv game s o) left (turn_in trial configuration s)
  leave_turn is =
      let placed = placed_as on Leaves is in
      let it : Out on = placed.0 in
      let old : own.is_new m.step ≡ false = placed.1 in
      let net_is : IsItinerary world.net n own = own_is on it in
      let t : tasks m.phase ≡ 1 = ap tasks is in
      let p : paces m.phase ≡ 2 = ap paces is in
      let sp : spent m.phase ≡ 0 = ap spent is in
      let doing_is : done plan m ≡ explored plan m.divisions m.side + news own m.step = doing on Leaves is in
      let target : ℕ = own.target m.step in
      let label : ℕ = own.behind m.step in
      let board : List ℕ = configuration.shown target in
      let hidden : lost ≡ m.side
      → explored plan m.divisions m.side + news own m.step < count_at plan inv.now lost inv.state.spot.step =
      λ h. subst (λ (k : ℕ). k < count_at plan inv.now lost inv.state.spot.step) doing_is (inv.state.spot.own h) in
      let safe : target ≢ hole = goes_safely game inv.now m inv.state.stage inv.state.below lost inv.state.spot.step
      inv.state.spot.is hidden inv.p.count inv.p.at it.behind it.far it.within old in
      let far : world.net.far (own.node m.step) (own.ahead m.step) ≡ (target, label) = net_is.out m.step it.within in
      let becomes = moving.arrives_at trial configuration s below (own.node m.step) (own.ahead m.step) target label
      placed.2
      refl far (safe_link on (own.node m.step) (own.ahead m.step) target label far safe) in
      let heard_is = ap (λ (ph : Phase). after_in plan m ph (come_to on target label)) is in
      let node : own.node (m.step + 1) ≡ target = net_is.goes m.step it.within old in
      let at : IsAtNode game (own.node (m.step + 1)) (At target (Some label)) =
      record { came = Some label; at = ap (λ (k : ℕ). At k (Some label)) (sym node) } in
      let clear : own.node (m.step + 1) ≢ hole = λ h. safe (sym node ∙ h) in
      let more : news own (m.step + 1) ≡ news own m.step = news_old own m.step old in
      let walks : walked own (m.step + 1) ≡ walked own m.step + 1 = walked_old own m.step old in
      let within : m.step < own.steps = it.within in
      let due = due_as on Leaves is in
      elim (eqb_tells (m.step + 1) own.steps) [
        | inl h ↦ ended it old h.1 target label (sees m board) refl becomes heard_is at clear
            (ap configuration.shown node)
            hidden more walks due t p sp doing_is
        | inr h ↦
            let at_new : ℕ = at_of inv.p.count inv.p.at (m.step + 1) in
            let reaches : walked own (reach inv.p.count at_new) ≡ walked own (reach inv.p.count inv.p.at) =
            ap (walked own) (reach_of inv.p.count inv.p.at (m.step + 1)) in
            let goes_on = on_by inv.p.count inv.p.at it.behind it.far it.same it.heard old in
            paced_by on m.divisions (m.step + 1) board GoesOut (At target (Some label)) (come_to on target label) 0 0
            (configuration.accused s) (record inv.p { at = at_new }) (changed configuration.reached target true) becomes
            (heard_is ∙ cond-false _ _ _ h.0)
            ((λ i. explored plan m.divisions m.side + more i) ∙ sym doing_is) (grows_by on target) (
              record {
                within = omega (arith, within, h.1);
                behind = behind_of m.side inv.p.count inv.p.at (m.step + 1) inv.now m.divisions it.behind;
                far = goes_on.0;
                same = goes_on.1;
                clear = clear;
                heard = goes_on.2;
                none = it.none;
              },
              at,
            )
            (omega (arith, due, walks, reaches)) (omega (arith, sp)) refl (omega arith) (omega (arith, t))
            (omega (arith, p))
      ]
    where
      on_by : (count at : ℕ) → inv.now ≡ stacked m.side count at m.divisions → m.step ≤ at
          → news own at ≡ news own m.step
          → (0 < count → told_in (configuration.shown (own.node at)) ≡ length inv.now) → own.is_new m.step ≡ false
          → (m.step + 1 ≤ at_of count at (m.step + 1)) ×
          (news own (at_of count at (m.step + 1)) ≡ news own (m.step + 1))
          × (0 < count → told_in (configuration.shown (own.node (at_of count at (m.step + 1)))) ≡ length inv.now)
      on_by zero at behind far same heard old = (omega arith, refl, λ h. absurd (omega (arith, h)))
      on_by (suc count) at behind far same heard old = (
        still_within game inv.now m inv.state.stage inv.state.below count at behind far old,
        same ∙ sym (news_old own m.step old),
        heard,
      )

      known_at_end : (count at : ℕ) → inv.now ≡ stacked m.side count at m.divisions → m.step ≤ at
          → own.is_new m.step ≡ false → m.step + 1 ≡ own.steps
          → (inv.now ≡ m.divisions) × (walked own (reach count at) ≡ 0)
      known_at_end zero at behind far old end = (behind, refl)
      known_at_end (suc count) at behind far old end =
          let on_too : m.step + 1 ≤ at =
          still_within game inv.now m inv.state.stage inv.state.below count at behind far old in
          let new = new_at game inv.now m inv.state.stage inv.state.below count at behind in
          let less : at < own.steps = new.0 in
          absurd (omega (arith, on_too, less, end))

      ended : Out on → own.is_new m.step ≡ false → m.step + 1 ≡ own.steps → (target label : ℕ) (m_seen : Memory)
          → m_seen ≡ sees m (configuration.shown target)
          → Becomes configuration (turn_in trial configuration s) s (At target (Some label)) (come_to on target label) 0
          0
          (configuration.accused s) configuration.shown (changed configuration.reached target true)
          → after_in plan m m.phase (come_to on target label) ≡ comes plan (sees m (configuration.shown target))
          (m.step + 1)
          → IsAtNode game (own.node (m.step + 1)) (At target (Some label)) → own.node (m.step + 1) ≢ hole
          → configuration.shown (own.node (m.step + 1)) ≡ configuration.shown target
          → (lost ≡ m.side
          → explored plan m.divisions m.side + news own m.step < count_at plan inv.now lost inv.state.spot.step)
          → news own (m.step + 1) ≡ news own m.step → walked own (m.step + 1) ≡ walked own m.step + 1
          → walked own (reach inv.p.count inv.p.at) + share (around game) m.side lost
          ≤ inv.p.ways + walked own m.step + 1
          → tasks m.phase ≡ 1 → paces m.phase ≡ 2 → spent m.phase ≡ 0
          → done plan m ≡ explored plan m.divisions m.side + news own m.step
          → GoesOn (Inv game s o) left (turn_in trial configuration s)
      ended it old end target label m_seen seen_is becomes heard_is at clear fits hidden more walks due t p sp doing_is
          =
          let known = known_at_end inv.p.count inv.p.at it.behind it.far old end in
          let none_reached : walked own (reach inv.p.count inv.p.at) ≡ 0 = known.1 in
          let all : news own own.steps ≡ news own m.step = ap (news own) (sym end) ∙ more in
          let hidden_all : lost ≡ m.side
          → explored plan m.divisions m.side + news own own.steps < count_at plan inv.now lost inv.state.spot.step =
          λ h. subst (λ (k : ℕ). explored plan m.divisions m.side + k < count_at plan inv.now lost inv.state.spot.step)
          (sym all) (hidden h) in
          let board : List ℕ = configuration.shown target in
          let seen : ℕ → Bool = changed configuration.reached target true in
          let it_after = at_end game inv.now (sees m board) inv.state.stage inv.state.below known.0 (done plan (O on))
          lost
          inv.state.spot.step inv.state.spot.is others_hidden configuration.shown seen (others_show target) inv.p
          (At target (Some label)) (configuration.accused s) (m.step + 1) end it.none at clear fits hidden_all
          others_few
          (omega (arith, due, walks, none_reached)) in
          let paced : paces it_after.phase ≡ 1 = it_after.paced in
          let tasked : tasks it_after.phase ≡ 1 = it_after.tasked in
          let spends : spent it_after.phase ≡ 0 = it_after.spends in
          let fresh : stale game (held on m.divisions it_after.step board it_after.phase) it_after.phase
          configuration.shown
          ≡ 0 = it_after.fresh in
          paced_by on m.divisions it_after.step board it_after.phase (At target (Some label)) (come_to on target label)
          0 0
          (configuration.accused s) inv.p seen becomes (heard_is ∙ it_after.is)
          (it_after.does ∙ (λ i. explored plan m.divisions m.side + all i) ∙ sym doing_is) (grows_by on target)
          it_after.placed it_after.due (omega (arith, sp, spends)) refl (omega arith) (omega (arith, t, tasked, fresh))
          (omega (arith, p, paced, fresh))

  -- ---- it reads what was told

  -- what an agent holds then that has this whiteboard before it, back from the new node of its step
  pub record Relearned (board : List ℕ) (p : Purse) (seen : ℕ → Bool) (place : Position) : Type 0 where
    pub now : Divisions
    pub step : ℕ
    pub count : ℕ
    pub at : ℕ
    pub is : learned m board ≡ held on now step board Writes
    pub placed : IsPlaced game (here on seen) (record p { count = count; at = at }) (held on now step board Writes)
        Writes
        place (configuration.accused s)
    pub due : IsDue game lost (record p { count = count; at = at }) (held on now step board Writes) Writes
    pub does : done plan (held on now step board Writes) ≡ explored plan m.divisions m.side + news own m.step
    pub fresh : stale game (held on now step board Writes) Writes configuration.shown ≡ 0

  relearned_by : (count at : ℕ) (seen : ℕ → Bool) (came : Option ℕ)
      → IsOut game (here on seen) (record inv.p { count = count; at = at }) m
      (configuration.accused s) → IsTrying game (here on seen) m
      → walked own (reach count at) + share (around game) m.side lost ≤ inv.p.ways + walked own m.step
      → Relearned (configuration.shown (own.node m.step)) inv.p seen (At (own.node m.step) came)
  relearned_by zero at seen came it trying due =
      let board : List ℕ = configuration.shown (own.node m.step) in
      let told : told_in board ≤ length inv.now = inv.state.told (own.node m.step) in
      let long : length inv.now ≡ length m.divisions = ap length it.behind in
      record {
        now = m.divisions;
        step = m.step;
        count = 0;
        at = at;
        is = learned_is m board 0 (omega (arith, told, long));
        placed = (
          record {
            within = it.within;
            behind = it.behind;
            far = it.far;
            same = it.same;
            clear = it.clear;
            heard = it.heard;
            none = it.none;
          },
          record { is_new = trying.is_new; safe = trying.safe; come = trying.come },
          record { came = came; at = refl },
          omega (arith, told, long),
        );
        due = due;
        does = refl;
        fresh = no_miss board board refl;
      }
  relearned_by (suc count) at seen came it trying due =
      let board : List ℕ = configuration.shown (own.node m.step) in
      let new = new_at game inv.now m inv.state.stage inv.state.below count at it.behind in
      let at_is : at ≡ m.step = same_by_news own at m.step new.1 trying.is_new it.same in
      let first : IsAsAt (plan.itinerary inv.now m.side) own at =
      first_is game inv.now m inv.state.stage inv.state.below count at it.behind in
      let told : told_in (configuration.shown (own.node at)) ≡ length inv.now = it.heard (omega arith) in
      let told_too : told_in board ≡ length inv.now =
      subst (λ (k : ℕ). told_in (configuration.shown (own.node k)) ≡ length inv.now) at_is told in
      let long : length inv.now ≡ suc count + length m.divisions =
      ap length it.behind ∙ stacked_long m.side (suc count) at m.divisions in
      let node : (plan.itinerary inv.now m.side).node 0 ≡ own.node m.step = first.node ∙ ap own.node at_is in
      let target : (plan.itinerary inv.now m.side).target 0 ≡ own.target m.step = first.target ∙ ap own.target at_is in
      let explored_is : explored plan inv.now m.side ≡ explored plan m.divisions m.side + news own at =
      ap (λ (d : Divisions). explored plan d m.side) it.behind ∙ explored_stacked plan m.side count at m.divisions in
      let walks : walked own at ≡ walked own m.step = ap (walked own) at_is in
      let same : news own at ≡ news own m.step = it.same in
      record {
        now = inv.now;
        step = 0;
        count = 0;
        at = 0;
        is = learned_is m board (suc count) (omega (arith, told_too, long))
            ∙ (λ i. held on ((ap (λ (k : ℕ). stacked m.side (suc count) k m.divisions) (sym at_is) ∙ sym it.behind) i) 0
            board
            Writes);
        placed = (
          record {
            within = first.some;
            behind = refl;
            far = omega arith;
            same = refl;
            clear = λ h. it.clear (sym node ∙ h);
            heard = λ h. absurd (omega (arith, h));
            none = it.none;
          },
          record {
            is_new = first.is_new;
            safe = λ h. trying.safe (sym target ∙ h);
            come = ap seen target ∙ trying.come;
          },
          record { came = came; at = ap (λ (k : ℕ). At k came) (sym node) },
          omega (arith, told_too),
        );
        due = omega (arith, due, walks);
        does = omega (arith, explored_is, same);
        fresh = no_miss (configuration.shown ((plan.itinerary inv.now m.side).node 0)) board
            (ap configuration.shown node);
      }

  pub relearned : (seen : ℕ → Bool) (came : Option ℕ) → IsOut game (here on seen) inv.p m (configuration.accused s)
      → IsTrying game (here on seen) m
      → walked own (reach inv.p.count inv.p.at) + share (around game) m.side lost ≤ inv.p.ways + walked own m.step
      → Relearned (configuration.shown (own.node m.step)) inv.p seen (At (own.node m.step) came)
  relearned seen came it trying due = relearned_by inv.p.count inv.p.at seen came (record {
    within = it.within;
    behind = it.behind;
    far = it.far;
    same = it.same;
    clear = it.clear;
    heard = it.heard;
    none = it.none;
  }) trying due

  pub return_turn : m.phase ≡ Returns → GoesOn (Inv game s o) left (turn_in trial configuration s)
  return_turn is =
      let placed = placed_as on Returns is in
      let it : Out on = placed.0 in
      let net_is : IsItinerary world.net n own = own_is on it in
      let t : tasks m.phase ≡ 1 = ap tasks is in
      let p : paces m.phase ≡ 2 = ap paces is in
      let sp : spent m.phase ≡ 2 = ap spent is in
      let doing_is : done plan m ≡ explored plan m.divisions m.side + news own m.step = doing on Returns is in
      let node : ℕ = own.node m.step in
      let label : ℕ = own.ahead m.step in
      let far : world.net.far (own.target m.step) (own.behind m.step) ≡ (node, label) = net_is.back m.step it.within in
      let becomes = moving.arrives_at trial configuration s below (own.target m.step) (own.behind m.step) node label
      placed.2
      refl far (safe_link on (own.target m.step) (own.behind m.step) node label far it.clear) in
      let seen : ℕ → Bool = changed configuration.reached node true in
      let again = relearned seen (Some label) (record {
        within = it.within;
        behind = it.behind;
        far = it.far;
        same = it.same;
        clear = it.clear;
        heard = it.heard;
        none = it.none;
      }) (record {
        is_new = placed.1.is_new;
        safe = placed.1.safe;
        come = grows_by on node (own.target m.step) placed.1.come;
      }) (due_as on Returns is) in
      let fresh : stale game (held on again.now again.step (configuration.shown node) Writes) Writes configuration.shown
      ≡ 0 =
      again.fresh in
      paced_by on again.now again.step (configuration.shown node) Writes (At node (Some label)) (come_to on node label)
      0 0
      (configuration.accused s) (record inv.p { count = again.count; at = again.at }) seen becomes
      (ap (λ (ph : Phase). after_in plan m ph (come_to on node label)) is ∙ again.is)
      (again.does ∙ sym doing_is) (grows_by on node) again.placed again.due (omega (arith, sp)) refl (omega arith)
      (omega (arith, t, fresh)) (omega (arith, p, fresh))
