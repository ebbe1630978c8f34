-- Turns of an agent that follows its partner's itinerary preserve the invariant.
use Rattle.std.proofs.Common.{ℕ, ◌+◌, ◌-◌, ◌<◌, ◌≤◌, ◌≡◌, Bool, true, false}
use Rattle.std.proofs.Common.{Some, List, refl, sym, ap, ◌∙◌, subst, arith}
use Rattle.std.specs.Prelude.{◌≢◌}
use Rattle.bhs_model.specs.declared.replies.Reply.TheVariants.{Gone}
use Rattle.bhs_model.specs.Runs.{At, Bound, changed}
use Rattle.bhs_schedules.specs.Strategies.{Heard}
use Rattle.bhs_schedules.specs.Schedules.{Trial}
use Rattle.bhs_protocols.specs.Configurations.{turn_in}
use Rattle.bhs_protocols.specs.Invariants.{GoesOn}
use Rattle.bhs_protocols_divided.specs.Plans.{Itinerary, Divisions, IsStage, IsItinerary, Explores, news}
use Rattle.bhs_protocols_divided.specs.Plans.{explored, count_at}
use Rattle.bhs_protocols_divided.specs.Dividing.{Memory, Phase, Follows, Passes, own_of, others_of, does_in, after_in}
use Rattle.bhs_protocols_divided.specs.Dividing.{sees}
use Rattle.bhs_protocols_divided.proofs.NewsLemmas.{news_below, news_old, walked, walked_old, walked_few}
use Rattle.bhs_protocols_divided.proofs.DividingDues.{done, done_by, spent, paces, tasks}
use Rattle.bhs_protocols_divided.proofs.DividingState.{Game, IsAfter, Inv, around, stale}
use Rattle.bhs_protocols_divided.proofs.DividingState.{trial as trial_of}
use Rattle.bhs_protocols_divided.proofs.DividingKeeps.{Turn, M, O, held, here, placed_as, due_as, paced_by}
use Rattle.bhs_protocols_divided.proofs.DividingFacts.{itinerary_is, plan_is}
use Rattle.bhs_protocols_divided.proofs.DividingTurns.{room, safe_link, grows_by, come_to}
use Rattle.bhs_protocols_divided.proofs.DividingAfter.{goes_after, other_below}
use Rattle.bhs_protocols_divided.proofs.DividingArrivals.{others_show, others_hidden}
use Rattle.bhs_protocols.proofs.MovingLemmas as moving
use Rattle.bhs_protocols.proofs.TurnLemmas.{departs}

module _ {game : Game} (on : Turn game) where
  open game use {world, n, hole, wakeups, plan}
  open on use {s, o, configuration, left, below, apart, inv}

  abbrev trial : Trial
  trial = trial_of game

  abbrev m : Memory
  m = M on

  abbrev own : Itinerary
  own = own_of plan m

  abbrev theirs : Itinerary
  theirs = others_of plan m

  abbrev lost : ℕ
  lost = inv.state.spot.side

  abbrev pub Goes : Type 0
  Goes = IsAfter game (here on configuration.reached) m (configuration.accused s)

  pub theirs_is : Goes → IsItinerary world.net n theirs
  theirs_is it = itinerary_is game m.divisions (1 - m.side) (subst (IsStage plan) it.knows inv.state.stage)
      (other_below m.side)

  -- where the black hole is on the other's itinerary
  pub spot_there : Goes → Explores plan m.divisions (1 - m.side) inv.state.spot.step hole
  spot_there it = subst (λ (k : ℕ). Explores plan m.divisions k inv.state.spot.step hole) it.lost_is
      (subst (λ (d : Divisions). Explores plan d lost inv.state.spot.step hole) it.knows inv.state.spot.is)

  pub hidden_there : (it : Goes) → done plan (O on) < count_at plan m.divisions (1 - m.side) inv.state.spot.step
  hidden_there it =
      let less : done plan (O on) < count_at plan inv.now lost inv.state.spot.step = others_hidden on it.lost_is in
      let is : count_at plan inv.now lost inv.state.spot.step ≡ count_at plan m.divisions (1 - m.side)
      inv.state.spot.step =
      λ i. count_at plan (it.knows i) (it.lost_is i) inv.state.spot.step in
      omega (arith, less, is)

  pub follow_turn : m.phase ≡ Follows → GoesOn (Inv game s o) left (turn_in trial configuration s)
  follow_turn is =
      let placed = placed_as on Follows is in
      let it : Goes = placed.0 in
      let net_is : IsItinerary world.net n theirs = theirs_is it in
      let t : tasks m.phase ≡ 1 = ap tasks is in
      let p : paces m.phase ≡ 1 = ap paces is in
      let sp : spent m.phase ≡ 0 = ap spent is in
      let due = due_as on Follows is in
      let walks : walked theirs (m.step + 1) ≡ walked theirs m.step + 1 = walked_old theirs m.step placed.1 in
      let within : m.step < theirs.steps = it.within in
      let few : walked theirs (m.step + 1) ≤ around game = walked_few theirs world.net n (m.step + 1) net_is
      (omega (arith, within)) in
      paced_by on m.divisions m.step m.seen Passes (Bound (theirs.node m.step) (theirs.ahead m.step)) (Heard Gone) 1 1
      (configuration.accused s) (record inv.p { ways = inv.p.ways - 1 }) configuration.reached
      (departs trial configuration s below (theirs.node m.step) (theirs.ahead m.step) placed.2.came placed.2.at
      (ap (does_in plan m) is) (room on t) (net_is.ahead m.step it.within))
      (ap (λ (ph : Phase). after_in plan m ph (Heard Gone)) is)
      (sym (ap (done_by plan m) is)) (λ k was. was) (
        record {
          knows = it.knows;
          within = it.within;
          few = it.few;
          lost_is = it.lost_is;
          clear = it.clear;
          none = it.none;
        },
        placed.1,
        refl,
      )
      (omega (arith, due, walks, few)) (omega (arith, sp)) refl (omega (arith, due, walks, few))
      (omega (arith, due, walks, few, t)) (omega (arith, due, walks, few, p))

  -- the black hole is beyond the link that it passes
  pub passes_safely : (it : Goes) → theirs.is_new m.step ≡ false → theirs.target m.step ≢ hole
  passes_safely it old same =
      let early = ((plan_is game).planned m.divisions (subst (IsStage plan) it.knows inv.state.stage)).known
      (1 - m.side) m.step
      (1 - m.side) inv.state.spot.step hole (other_below m.side) it.within old same (spot_there it) in
      let before : inv.state.spot.step < m.step = early.1 in
      let more : news theirs inv.state.spot.step + 1 ≤ news theirs m.step =
      news_below theirs inv.state.spot.step m.step before (spot_there it).is_new in
      let less : done plan (O on) < count_at plan m.divisions (1 - m.side) inv.state.spot.step = hidden_there it in
      let few : explored plan m.divisions (1 - m.side) + news theirs m.step ≤ done plan (O on) = it.few in
      omega (arith, more, less, few)

  pub pass_turn : m.phase ≡ Passes → GoesOn (Inv game s o) left (turn_in trial configuration s)
  pass_turn is =
      let placed = placed_as on Passes is in
      let it : Goes = placed.0 in
      let old : theirs.is_new m.step ≡ false = placed.1 in
      let net_is : IsItinerary world.net n theirs = theirs_is it in
      let t : tasks m.phase ≡ 1 = ap tasks is in
      let p : paces m.phase ≡ 2 = ap paces is in
      let sp : spent m.phase ≡ 0 = ap spent is in
      let due = due_as on Passes is in
      let target : ℕ = theirs.target m.step in
      let label : ℕ = theirs.behind m.step in
      let board : List ℕ = configuration.shown target in
      let safe : target ≢ hole = passes_safely it old in
      let far : world.net.far (theirs.node m.step) (theirs.ahead m.step) ≡ (target, label) =
      net_is.out m.step it.within in
      let seen : ℕ → Bool = changed configuration.reached target true in
      let node : theirs.node (m.step + 1) ≡ target = net_is.goes m.step it.within old in
      let more : news theirs (m.step + 1) ≡ news theirs m.step = news_old theirs m.step old in
      let walks : walked theirs (m.step + 1) ≡ walked theirs m.step + 1 = walked_old theirs m.step old in
      let within : m.step < theirs.steps = it.within in
      let few : explored plan m.divisions (1 - m.side) + news theirs m.step ≤ done plan (O on) = it.few in
      let goes_on = goes_after game inv.now (sees m board) inv.state.stage inv.state.below it.knows (done plan (O on))
      lost
      inv.state.spot.step inv.state.spot.is (others_hidden on) configuration.shown seen (others_show on target) inv.p
      (At target (Some label)) (configuration.accused s) (m.step + 1) it.lost_is it.none (omega (arith, within))
      (omega (arith, few, more)) (record { came = Some label; at = ap (λ (k : ℕ). At k (Some label)) (sym node) })
      (λ h. safe (sym node ∙ h)) (ap configuration.shown node) (omega (arith, due, walks)) in
      let paced : paces goes_on.phase ≡ 1 = goes_on.paced in
      let tasked : tasks goes_on.phase ≡ 1 = goes_on.tasked in
      let spends : spent goes_on.phase ≡ 0 = goes_on.spends in
      let fresh : stale game (held on m.divisions goes_on.step board goes_on.phase) goes_on.phase configuration.shown
      ≡ 0 =
      goes_on.fresh in
      paced_by on m.divisions goes_on.step board goes_on.phase (At target (Some label)) (come_to on target label) 0 0
      (configuration.accused s) inv.p seen
      (moving.arrives_at trial configuration s below (theirs.node m.step) (theirs.ahead m.step) target label placed.2
      refl far
      (safe_link on (theirs.node m.step) (theirs.ahead m.step) target label far safe))
      (ap (λ (ph : Phase). after_in plan m ph (come_to on target label)) is ∙ goes_on.is)
      (goes_on.does ∙ sym (ap (done_by plan m) is)) (grows_by on target) goes_on.placed goes_on.due
      (omega (arith, sp, spends)) refl (omega arith) (omega (arith, t, tasked, fresh)) (omega (arith, p, paced, fresh))
