-- A search by a plan: turns of an agent that explores its part, but for what it reads where it comes.
use Rattle.std.proofs.Common.{ℕ, ◌+◌, ◌-◌, ◌*◌, ◌<◌, ◌≤◌, ◌≡◌, Bool, true, false, not, ◌||◌, ◌==◌}
use Rattle.std.proofs.Common.{Some, refl, sym, ap, ◌∙◌, if◌then◌else◌, arith}
use Rattle.std.specs.Prelude.{◌≢◌}
use Rattle.std.proofs.lemmas.Bool.{true≢false, eq-eqb, ne_eqb}
use Rattle.bhs_model.proofs.StepLemmas.{by_cases, changed_same}
use Rattle.bhs_model.specs.declared.replies.Reply.TheVariants.{Here, Gone}
use Rattle.bhs_model.specs.Worlds.{doomed, is_hole, is_dark}
use Rattle.bhs_model.specs.Runs.{At, Bound, changed}
use Rattle.bhs_schedules.specs.Strategies.{Observation, Heard}
use Rattle.bhs_schedules.specs.Schedules.{Trial}
use Rattle.bhs_protocols.specs.Configurations.{can_move_in, turn_in}
use Rattle.bhs_protocols.specs.Invariants.{GoesOn}
use Rattle.bhs_protocols_divided.specs.Plans.{Itinerary, IsItinerary, news, explored}
use Rattle.bhs_protocols_divided.specs.Dividing.{Memory, Phase, GoesOut, Leaves, Tries, Turns, Returns}
use Rattle.bhs_protocols_divided.specs.Dividing.{own_of, does_in, after_in}
use Rattle.bhs_protocols_divided.specs.DividingLaws.{most_commands}
use Rattle.bhs_protocols_divided.proofs.StageLemmas.{total}
use Rattle.bhs_protocols_divided.proofs.DividingDues.{done, done_by, spent, paces, tasks}
use Rattle.bhs_protocols_divided.proofs.DividingState.{Game, IsOut, Inv}
use Rattle.bhs_protocols_divided.proofs.DividingState.{mem, commands_due, trial as trial_of}
use Rattle.bhs_protocols_divided.proofs.DividingKeeps.{Turn, M, here, placed_as, due_as, paced_by}
use Rattle.bhs_protocols_divided.proofs.DividingFacts.{itinerary_is, stage_known, more_to_come, ways_some}
use Rattle.bhs_protocols.proofs.MovingLemmas as moving
use Rattle.bhs_protocols.proofs.TurnLemmas.{departs}

module _ {game : Game} (on : Turn game) where
  open game use {world, n, hole, wakeups, plan}
  open on use {s, o, configuration, left, below, apart, inv}

  abbrev trial : Trial
  trial = trial_of game

  abbrev m : Memory
  m = M on

  abbrev own : Itinerary
  own = own_of plan m

  abbrev lost : ℕ
  lost = inv.state.spot.side

  -- ---- an agent that explores its part

  abbrev pub Out : Type 0
  Out = IsOut game (here on configuration.reached) inv.p m (configuration.accused s)

  pub doing : (phase : Phase) → m.phase ≡ phase → done plan m ≡ done_by plan m phase
  doing phase is = ap (done_by plan m) is

  pub own_is : Out → IsItinerary world.net n own
  own_is it = itinerary_is game m.divisions m.side
      (stage_known game inv.now m inv.state.stage inv.state.below inv.p.count inv.p.at it.behind) inv.state.below

  -- who has not ended has a command left
  pub room : tasks m.phase ≡ 1 → configuration.used s < world.quota
  room one =
      let used : configuration.used s
      + commands_due game inv.p inv.q inv.coming inv.more m (mem game configuration o) configuration.shown
      ≤ most_commands n = inv.used s in
      let enough : most_commands n ≤ world.quota = game.enough in
      omega (arith, used, enough, one)

  pub doomed_is : (node port target label : ℕ) → world.net.far node port ≡ (target, label)
      → doomed world node port ≡ (hole == target)
  doomed_is node port target label far =
      (λ i. is_hole (game.search.holes i) (far i).0 || is_dark world.net.far (game.search.dark i) node port)
      ∙ or_none (hole == target)
    where
      or_none : (b : Bool) → ((b || false) || false) ≡ b
      or_none true = refl
      or_none false = refl

  pub safe_link : (node port target label : ℕ) → world.net.far node port ≡ (target, label) → target ≢ hole
      → doomed world node port ≡ false
  safe_link node port target label far safe =
      doomed_is node port target label far ∙ ne_eqb hole target (λ h. safe (sym h))

  -- a trip is left to a new node, and back
  pub trips_some : Out → own.is_new m.step ≡ true → done plan m ≡ explored plan m.divisions m.side + news own m.step
      → 2 ≤ inv.p.trips + spent m.phase
  trips_some it is_new doing_is =
      let more : explored plan m.divisions m.side + news own m.step + 1
      ≤ explored plan inv.now m.side + total plan inv.now m.side =
      more_to_come game inv.now m inv.state.stage inv.state.below inv.p.count inv.p.at it.behind it.same
      it.within is_new in
      let trips : 2 * (explored plan inv.now m.side + total plan inv.now m.side)
      ≤ inv.p.trips + 2 * done plan m + spent m.phase = inv.state.own.trips in
      omega (arith, more, trips, doing_is)

  pub out_turn : m.phase ≡ GoesOut → GoesOn (Inv game s o) left (turn_in trial configuration s)
  out_turn is =
      let placed = placed_as on GoesOut is in
      let it : Out = placed.0 in
      let net_is : IsItinerary world.net n own = own_is it in
      let t : tasks m.phase ≡ 1 = ap tasks is in
      let p : paces m.phase ≡ 1 = ap paces is in
      let sp : spent m.phase ≡ 0 = ap spent is in
      let doing_is : done plan m ≡ explored plan m.divisions m.side + news own m.step = doing GoesOut is in
      let becomes = departs trial configuration s below (own.node m.step) (own.ahead m.step) placed.1.came placed.1.at
      (ap (does_in plan m) is) (room t) (net_is.ahead m.step it.within) in
      by_cases (own.is_new m.step) (GoesOn (Inv game s o) left (turn_in trial configuration s))
      (λ yes.
      let some : 2 ≤ inv.p.trips + spent m.phase = trips_some it yes doing_is in
      paced_by on m.divisions m.step m.seen Tries (Bound (own.node m.step) (own.ahead m.step)) (Heard Gone) 1 1
      (configuration.accused s) (record inv.p { trips = inv.p.trips - 1 }) configuration.reached becomes
      (ap (λ (ph : Phase). after_in plan m ph (Heard Gone)) is
      ∙ (λ i. record m { phase = (if yes i then Tries else Leaves) }))
      (sym doing_is) (λ k was. was) (
        record {
          within = it.within;
          behind = it.behind;
          far = it.far;
          same = it.same;
          clear = it.clear;
          heard = it.heard;
          none = it.none;
        },
        yes,
        refl,
      )
      (due_as on GoesOut is) (omega (arith, some, sp)) refl (omega (arith, some, sp)) (omega (arith, some, sp, t))
      (omega (arith, some, sp, p)))
      (λ old.
      let due = due_as on GoesOut is in
      let some : 0 < inv.p.ways =
      ways_some game inv.now m inv.state.stage inv.state.below inv.p.count inv.p.at inv.p.ways
      lost it.behind it.far it.within old due in
      paced_by on m.divisions m.step m.seen Leaves (Bound (own.node m.step) (own.ahead m.step)) (Heard Gone) 1 1
      (configuration.accused s) (record inv.p { ways = inv.p.ways - 1 }) configuration.reached becomes
      (ap (λ (ph : Phase). after_in plan m ph (Heard Gone)) is
      ∙ (λ i. record m { phase = (if old i then Tries else Leaves) }))
      (sym doing_is) (λ k was. was) (
        record {
          within = it.within;
          behind = it.behind;
          far = it.far;
          same = it.same;
          clear = it.clear;
          heard = it.heard;
          none = it.none;
        },
        old,
        refl,
      )
      (omega (arith, due, some)) (omega (arith, sp)) refl (omega (arith, some)) (omega (arith, some, t))
      (omega (arith, some, p)))

  pub turns_turn : m.phase ≡ Turns → GoesOn (Inv game s o) left (turn_in trial configuration s)
  turns_turn is =
      let placed = placed_as on Turns is in
      let it : Out = placed.0 in
      let net_is : IsItinerary world.net n own = own_is it in
      let t : tasks m.phase ≡ 1 = ap tasks is in
      let p : paces m.phase ≡ 1 = ap paces is in
      let sp : spent m.phase ≡ 1 = ap spent is in
      let doing_is : done plan m ≡ explored plan m.divisions m.side + news own m.step = doing Turns is in
      let becomes = departs trial configuration s below (own.target m.step) (own.behind m.step) placed.2.came
      placed.2.at
      (ap (does_in plan m) is) (room t) (net_is.behind m.step it.within) in
      let some : 2 ≤ inv.p.trips + spent m.phase = trips_some it placed.1.is_new doing_is in
      paced_by on m.divisions m.step m.seen Returns (Bound (own.target m.step) (own.behind m.step)) (Heard Gone) 1 1
      (configuration.accused s) (record inv.p { trips = inv.p.trips - 1 }) configuration.reached becomes
      (ap (λ (ph : Phase). after_in plan m ph (Heard Gone)) is)
      (sym doing_is) (λ k was. was) (
        record {
          within = it.within;
          behind = it.behind;
          far = it.far;
          same = it.same;
          clear = it.clear;
          heard = it.heard;
          none = it.none;
        },
        record { is_new = placed.1.is_new; safe = placed.1.safe; come = placed.1.come },
        refl,
      )
      (due_as on Turns is) (omega (arith, some, sp)) refl (omega (arith, some, sp)) (omega (arith, some, sp, t))
      (omega (arith, some, sp, p))

  -- ---- arrivals

  pub bound_moves : (node port : ℕ) → configuration.position s ≡ Bound node port
      → can_move_in trial configuration s ≡ not (doomed world node port)
  bound_moves node port at = moving.bound_moves trial configuration s below node port at refl

  pub grows_by : (target k : ℕ) → configuration.reached k ≡ true → changed configuration.reached target true k ≡ true
  grows_by = moving.grows_by configuration.reached

  abbrev pub come_to : (node label : ℕ) → Observation
  come_to node label = Heard (Here (world.net.degree node) (Some label) (configuration.shown node))

  pub try_turn : m.phase ≡ Tries → can_move_in trial configuration s ≡ true
      → GoesOn (Inv game s o) left (turn_in trial configuration s)
  try_turn is moves =
      let placed = placed_as on Tries is in
      let it : Out = placed.0 in
      let net_is : IsItinerary world.net n own = own_is it in
      let t : tasks m.phase ≡ 1 = ap tasks is in
      let p : paces m.phase ≡ 2 = ap paces is in
      let sp : spent m.phase ≡ 1 = ap spent is in
      let doing_is : done plan m ≡ explored plan m.divisions m.side + news own m.step = doing Tries is in
      let target : ℕ = own.target m.step in
      let label : ℕ = own.behind m.step in
      let far : world.net.far (own.node m.step) (own.ahead m.step) ≡ (target, label) = net_is.out m.step it.within in
      let doom : doomed world (own.node m.step) (own.ahead m.step) ≡ (hole == target) =
      doomed_is (own.node m.step) (own.ahead m.step) target label far in
      let safe : target ≢ hole = λ h. true≢false (sym moves
      ∙ bound_moves (own.node m.step) (own.ahead m.step) placed.2
      ∙ ap not (doom ∙ eq-eqb hole target (sym h))) in
      let becomes = moving.arrives_at trial configuration s below (own.node m.step) (own.ahead m.step) target label
      placed.2
      refl far (safe_link (own.node m.step) (own.ahead m.step) target label far safe) in
      paced_by on m.divisions m.step m.seen Turns (At target (Some label)) (come_to target label) 0 0
      (configuration.accused s) inv.p (changed configuration.reached target true) becomes
      (ap (λ (ph : Phase). after_in plan m ph (come_to target label)) is)
      (sym doing_is) (grows_by target) (
        record {
          within = it.within;
          behind = it.behind;
          far = it.far;
          same = it.same;
          clear = it.clear;
          heard = it.heard;
          none = it.none;
        },
        record {
          is_new = placed.1;
          safe = safe;
          come = changed_same configuration.reached target true;
        },
        record { came = Some label; at = refl },
      )
      (due_as on Tries is) (omega (arith, sp)) refl (omega arith) (omega (arith, t)) (omega (arith, p))
