-- Isolation in time: agents that met the same at the same turns stand at the same place, and are released alike.
use Rattle.std.proofs.Common.{arith, ℕ, ◌≡◌, Bool, true, false, not, ◌&&◌, Option, Some, None, List, [], ◌∷◌, nat_lt}
use Rattle.std.proofs.Common.{refl, sym, ap, ap₂, ◌∙◌, if◌then◌else◌, inl, inr, subst}
use Rattle.std.proofs.lemmas.Bool.{cond-true, cond-false, cond_both, and_right, eq-eqb}
use Rattle.std.proofs.lemmas.Bool.Decides.{eqb_tells}
use Rattle.bhs_model.specs.declared.commands.Command.{Command}
use Rattle.bhs_model.specs.declared.commands.Command.TheVariants.{Enter, Depart, Accuse}
use Rattle.bhs_model.specs.declared.events.Event.{Event}
use Rattle.bhs_model.specs.declared.events.Event.TheVariants.{Tell, Deliver, Close}
use Rattle.bhs_model.specs.Views.{View, Start, Told, Arrived}
use Rattle.bhs_model.specs.Worlds.{World, Network}
use Rattle.bhs_model.specs.Runs.{Position, Before, At, Bound, After, State, initial, heard, told, arrives, delivered}
use Rattle.bhs_model.specs.Runs.{next}
use Rattle.bhs_model.specs.Runs.{position_after, is_bound, is_doomed, is_let_through, past, run_from}
use Rattle.bhs_model.specs.Draws.{Held, is_held, delivery_to}
use Rattle.bhs_model.specs.Cuts.{node_reached}
use Rattle.bhs_model.proofs.StepLemmas.{changed_same}
use Rattle.bhs_model.proofs.LegalLemmas.{either}
use Rattle.bhs_model.proofs.PastLemmas.{equal_pasts_lemma}
use Rattle.bhs_time.specs.TimedViews.{TimedView, ArrivedAt, SeenThen, TimedWrite, bare, departed_at}
use Rattle.bhs_time.specs.Schedules.{Schedule, releases}
use Rattle.bhs_time.specs.TimedRuns.{TimedState, TimedAct, sight_then, arrived_then, happened_if, delivery_if}
use Rattle.bhs_time.specs.TimedRuns.{delivery_now, timed_run, timed_events}
use Rattle.bhs_time.proofs.LeavingLemmas.{turn_but}
use Rattle.bhs_time.specs.Laws.{reached, stands, EqualPastsInTime, IsolatedInTime}
use Rattle.bhs_time.proofs.StampLemmas.{clocks_only_stamp_lemma}

-- each agent stands where its past says
abbrev pub AllStand : World → State → Type 0
AllStand world state = (agent : ℕ) → state.position agent ≡ stands world (state.past agent)

told_stand : (world : World) (state : State) (agent : ℕ) (command : Command) → AllStand world state →
    AllStand world (told world state agent command)
told_stand world state agent command all other = elim (eqb_tells other agent) [
  | inl h ↦ rw h.0 (ap (λ (place : Position). position_after world place command) (all agent))
  | inr h ↦ rw h.0 (all other)
]

delivered_stand : (world : World) (state : State) (agent : ℕ) (position : Position) →
    state.position agent ≡ position → AllStand world state → AllStand world (delivered world state agent position)
delivered_stand world state agent (Bound node port) placed all other = elim (eqb_tells other agent) [
  | inl h ↦ rw h.0 (ap (λ (place : Position). reached world place) (sym placed ∙ all agent))
  | inr h ↦ rw h.0 (all other)
]
delivered_stand world state agent Before placed all other = all other
delivered_stand world state agent (At node came) placed all other = all other
delivered_stand world state agent After placed all other = all other

next_stand : (world : World) (state : State) (event : Event) → AllStand world state →
    AllStand world (next world state event)
next_stand world state (Tell agent command) all =
    cond_both (heard world state agent command) (told world state agent command) state
    (λ (after : State). AllStand world after) (λ yes. told_stand world state agent command all) (λ unheard. all)
next_stand world state (Deliver agent) all =
    cond_both (arrives world state agent) (delivered world state agent (state.position agent)) state
    (λ (after : State). AllStand world after)
    (λ yes. delivered_stand world state agent (state.position agent) refl all) (λ none. all)
next_stand world state Close all = all

run_stand : (world : World) (state : State) (events : List Event) → AllStand world state →
    AllStand world (run_from world state events)
run_stand world state [] all = all
run_stand world state (event ∷ events) all =
    run_stand world (next world state event) events (next_stand world state event all)

-- by the network and the home base alone
after_alike : (world other : World) (position : Position) (command : Command) → world.net ≡ other.net →
    world.home ≡ other.home → position_after world position command ≡ position_after other position command
after_alike world other position Enter net home = ap (λ (node : ℕ). At node None) home
after_alike world other (At node came) (Depart port) net home =
    ap (λ (there : Network). if nat_lt port (there.degree node) then Bound node port else At node came) net
after_alike world other (At node came) (Accuse port) net home =
    ap (λ (there : Network). if nat_lt port (there.degree node) then After else At node came) net
after_alike world other position command net home = grind arith

reached_alike : (world other : World) (position : Position) → world.net ≡ other.net →
    reached world position ≡ reached other position
reached_alike world other (Bound node port) net =
    ap (λ (there : Network). At (there.far node port).0 (Some (there.far node port).1)) net
reached_alike world other Before net = refl
reached_alike world other (At node came) net = refl
reached_alike world other After net = refl

pub stands_alike : (world other : World) (view : View) → world.net ≡ other.net → world.home ≡ other.home →
    stands world view ≡ stands other view
stands_alike world other Start net home = refl
stands_alike world other (Told view command glance) net home =
    ap (λ (place : Position). position_after world place command) (stands_alike world other view net home)
    ∙ after_alike world other (stands other view) command net home
stands_alike world other (Arrived view sight) net home =
    ap (λ (place : Position). reached world place) (stands_alike world other view net home)
    ∙ reached_alike world other (stands other view) net

-- an agent stands where its timed view says
pub stands_by_past : (world : World) (held : Held) (schedule : Schedule) (acts : List TimedAct) (agent : ℕ) →
    (timed_run world held schedule acts).state.position agent
    ≡ stands world (bare ((timed_run world held schedule acts).pasts agent))
stands_by_past world held schedule acts agent =
    let plain = clocks_only_stamp_lemma world held schedule acts in
    ap (λ (state : State). state.position agent) plain.state
    ∙ run_stand world initial (timed_events world held schedule acts) (λ one. refl) agent
    ∙ ap (λ (state : State). stands world (state.past agent)) (sym plain.state)
    ∙ ap (λ (view : View). stands world view) (sym (plain.pasts agent))

-- whether the next turn makes an agent arrive
abbrev arrives_next : World → Held → Schedule → TimedState → (agent : ℕ) → Bool
arrives_next world held schedule timed agent =
    releases schedule agent (departed_at (timed.pasts agent)) timed.turn
    && (not (is_held held (timed.state.position agent)) && arrives world timed.state agent)

-- the past of an agent that arrives from this position
abbrev come_past : World → TimedState → (agent : ℕ) → Position → TimedView
come_past world timed agent (Bound node port) =
    let far = world.net.far node port in
    ArrivedAt (timed.pasts agent) timed.turn (sight_then world timed far.0 (Some far.1))
come_past world timed agent position = timed.pasts agent

-- what becomes of an agent
record Becomes (world : World) (timed : TimedState) (agent : ℕ) (arrival : Bool) (after : TimedState) : Type 0 where
  position : after.state.position agent
      ≡ (if arrival then reached world (timed.state.position agent) else timed.state.position agent)
  past : after.pasts agent
      ≡ (if arrival then come_past world timed agent (timed.state.position agent) else timed.pasts agent)

stays : (world : World) (timed : TimedState) (agent : ℕ) (arrival : Bool) → arrival ≡ false →
    Becomes world timed agent arrival timed
stays world timed agent arrival none = record {
  position = sym (cond-false arrival (reached world (timed.state.position agent)) (timed.state.position agent) none);
  past = sym (cond-false arrival (come_past world timed agent (timed.state.position agent)) (timed.pasts agent) none);
}

come_position : (world : World) (timed : TimedState) (agent : ℕ) (position : Position) →
    timed.state.position agent ≡ position →
    (arrived_then world timed agent position).state.position agent ≡ reached world position
come_position world timed agent (Bound node port) placed =
    changed_same timed.state.position agent (reached world (Bound node port))
come_position world timed agent Before placed = placed
come_position world timed agent (At node came) placed = placed
come_position world timed agent After placed = placed

come_stamped : (world : World) (timed : TimedState) (agent : ℕ) (position : Position) →
    (arrived_then world timed agent position).pasts agent ≡ come_past world timed agent position
come_stamped world timed agent (Bound node port) =
    changed_same timed.pasts agent (come_past world timed agent (Bound node port))
come_stamped world timed agent Before = refl
come_stamped world timed agent (At node came) = refl
come_stamped world timed agent After = refl

comes : (world : World) (timed : TimedState) (agent : ℕ) (arrival : Bool) → arrival ≡ true →
    Becomes world timed agent arrival (arrived_then world timed agent (timed.state.position agent))
comes world timed agent arrival arrives_so = record {
  position = come_position world timed agent (timed.state.position agent) refl
      ∙ sym (cond-true arrival (reached world (timed.state.position agent)) (timed.state.position agent) arrives_so);
  past = come_stamped world timed agent (timed.state.position agent)
      ∙ sym (cond-true arrival (come_past world timed agent (timed.state.position agent))
      (timed.pasts agent) arrives_so);
}

-- the picked agent arrives if it is ready, not held, and can
picked_becomes : (world : World) (held : Held) (schedule : Schedule) (timed : TimedState) →
    Becomes world timed (schedule.picked timed.turn) (arrives_next world held schedule timed
    (schedule.picked timed.turn))
    (happened_if world timed (delivery_now held schedule timed))
picked_becomes world held schedule timed =
    go (schedule.ready (schedule.picked timed.turn) (departed_at (timed.pasts
    (schedule.picked timed.turn))) timed.turn) refl
  where
    who : ℕ
    who = schedule.picked timed.turn

    -- nobody arrives if one of three things fails
    parts : (is_ready is_still arrival : Bool) →
        schedule.ready (schedule.picked timed.turn) (departed_at (timed.pasts
        (schedule.picked timed.turn))) timed.turn ≡ is_ready →
        is_held held (timed.state.position (schedule.picked timed.turn)) ≡ is_still →
        arrives world timed.state (schedule.picked timed.turn) ≡ arrival →
        arrives_next world held schedule timed (schedule.picked timed.turn) ≡ (is_ready && (not is_still && arrival))
    parts is_ready is_still arrival ready still arrives_so =
        ap₂ (λ (own after : Bool). (own && after) && (not (is_held held (timed.state.position
        (schedule.picked timed.turn)))
        && arrives world timed.state (schedule.picked timed.turn)))
        (eq-eqb (schedule.picked timed.turn) (schedule.picked timed.turn) refl) ready
        ∙ ap₂ (λ (kept may : Bool). is_ready && (not kept && may)) still arrives_so

    go : (is_ready : Bool) →
        schedule.ready (schedule.picked timed.turn) (departed_at (timed.pasts
        (schedule.picked timed.turn))) timed.turn ≡ is_ready →
        Becomes world timed (schedule.picked timed.turn) (arrives_next world held schedule timed
        (schedule.picked timed.turn))
        (happened_if world timed
        (if timed.state.closed then None else delivery_if held timed.state (schedule.picked timed.turn) is_ready))
    go false ready =
        either (λ (event : Option Event). Becomes world timed (schedule.picked timed.turn)
        (arrives_next world held schedule timed (schedule.picked timed.turn)) (happened_if world timed event))
        timed.state.closed None None
        (stays world timed (schedule.picked timed.turn) _ (parts false _ _ ready refl refl))
        (stays world timed (schedule.picked timed.turn) _ (parts false _ _ ready refl refl))
    go true ready =
        cond_both timed.state.closed None (delivery_to held timed.state (Some (schedule.picked timed.turn)))
        (λ (event : Option Event). Becomes world timed (schedule.picked timed.turn)
        (arrives_next world held schedule timed (schedule.picked timed.turn)) (happened_if world timed event))
        (λ closed. stays world timed (schedule.picked timed.turn) _
        (parts true _ false ready refl (ap (λ (ended : Bool). not ended && is_let_through world
        (timed.state.position (schedule.picked timed.turn))) closed) ∙ and_right _ false refl))
        (λ unclosed. cond_both (is_held held (timed.state.position (schedule.picked timed.turn))) None
        (Some (Deliver (schedule.picked timed.turn)))
        (λ (event : Option Event). Becomes world timed (schedule.picked timed.turn)
        (arrives_next world held schedule timed (schedule.picked timed.turn)) (happened_if world timed event))
        (λ still. stays world timed (schedule.picked timed.turn) _ (parts true true _ ready still refl))
        (λ free. cond_both (arrives world timed.state (schedule.picked timed.turn))
        (arrived_then world timed (schedule.picked timed.turn) (timed.state.position
        (schedule.picked timed.turn))) timed
        (λ (after : TimedState). Becomes world timed (schedule.picked timed.turn)
        (arrives_next world held schedule timed (schedule.picked timed.turn)) after)
        (λ yes. comes world timed (schedule.picked timed.turn) _ (parts true false true ready free yes))
        (λ none. stays world timed (schedule.picked timed.turn) _ (parts true false false ready free none))))

-- what a turn makes of any agent
turn_becomes : (world : World) (held : Held) (schedule : Schedule) (timed : TimedState) (agent : ℕ) →
    Becomes world timed agent (arrives_next world held schedule timed agent)
    (happened_if world timed (delivery_now held schedule timed))
turn_becomes world held schedule timed agent = elim (eqb_tells agent (schedule.picked timed.turn)) [
  | inl own ↦ subst (λ (who : ℕ). Becomes world timed who (arrives_next world held schedule timed who)
      (happened_if world timed (delivery_now held schedule timed))) (sym own.1)
      (picked_becomes world held schedule timed)
  | inr apart ↦
      let same = (turn_but world held schedule timed timed.turn).others agent apart.0 in
      let none : arrives_next world held schedule timed agent ≡ false = rw apart.0 refl in
      let unmoved = stays world timed agent (arrives_next world held schedule timed agent) none in
      record { position = sym same.position ∙ unmoved.position; past = sym same.past ∙ unmoved.past }
]

come_alike : (world other : World) (here there : TimedState) (agent : ℕ) (position : Position) → world.net ≡ other.net →
    here.turn ≡ there.turn → here.pasts agent ≡ there.pasts agent →
    ((node : ℕ) → node_reached world position ≡ Some node → here.writes node ≡ there.writes node) →
    come_past world here agent position ≡ come_past other there agent position
come_alike world other here there agent (Bound node port) net turns pasts seen =
    ap₂ (λ (past : TimedView) (turn : ℕ). ArrivedAt past turn
    (sight_then world here (world.net.far node port).0 (Some (world.net.far node port).1))) pasts turns
    ∙ ap (λ (last : TimedWrite). ArrivedAt (there.pasts agent) there.turn
    (SeenThen (world.net.degree (world.net.far node port).0) (Some (world.net.far node port).1) last))
    (seen (world.net.far node port).0 refl)
    ∙ ap (λ (net : Network). ArrivedAt (there.pasts agent) there.turn
    (SeenThen (net.degree (net.far node port).0) (Some (net.far node port).1) (there.writes (net.far node port).0))) net
come_alike world other here there agent Before net turns pasts seen = pasts
come_alike world other here there agent (At node came) net turns pasts seen = pasts
come_alike world other here there agent After net turns pasts seen = pasts

pub isolated_lemma : IsolatedInTime
isolated_lemma world held schedule acts other still others agent net home unclosed open_too turns pasts destroyers
    holds =
    let here = timed_run world held schedule acts in
    let there = timed_run other still schedule others in
    let places : here.state.position agent ≡ there.state.position agent =
    stands_by_past world held schedule acts agent
    ∙ stands_alike world other (bare (here.pasts agent)) net home
    ∙ ap (λ (past : TimedView). stands other (bare past)) pasts
    ∙ sym (stands_by_past other still schedule others agent) in
    let arrivals : arrives_next world held schedule here agent ≡ arrives_next other still schedule there agent =
    ap₂ (λ (released arrival : Bool). released && arrival)
    (ap₂ (λ (past : TimedView) (turn : ℕ). releases schedule agent (departed_at past) turn) pasts turns)
    (ap₂ (λ (kept through : Bool). not kept && through)
    (holds ∙ ap (λ (place : Position). is_held still place) places)
    (ap₂ (λ (closed through : Bool). not closed && through) (unclosed ∙ sym open_too)
    (ap₂ (λ (bound doomed : Bool). bound && not doomed) (ap is_bound places)
    (destroyers ∙ ap (λ (place : Position). is_doomed other place) places)))) in
    let one = turn_becomes world held schedule here agent in
    let two = turn_becomes other still schedule there agent in
    record {
      positions = places;
      next_positions =
          one.position
          ∙ ap₂ (λ (arrival : Bool) (place : Position). if arrival then reached world place else place) arrivals places
          ∙ ap (λ (place : Position). if arrives_next other still schedule there agent then place
          else there.state.position agent) (reached_alike world other (there.state.position agent) net)
          ∙ sym two.position;
      next_pasts = λ seen.
          one.past
          ∙ ap₂ (λ (arrival : Bool) (past : TimedView). if arrival then come_past world here agent
          (here.state.position agent) else past) arrivals pasts
          ∙ ap (λ (past : TimedView). if arrives_next other still schedule there agent then past else there.pasts agent)
          (come_alike world other here there agent (here.state.position agent) net turns pasts seen
          ∙ ap (λ (place : Position). come_past other there agent place) places)
          ∙ sym two.past;
    }

-- the past of the model's match is the timed view without its turns
plain_past : (world : World) (held : Held) (schedule : Schedule) (acts : List TimedAct) (agent : ℕ) →
    bare ((timed_run world held schedule acts).pasts agent) ≡ past world (timed_events world held schedule acts) agent
plain_past world held schedule acts agent =
    let plain = clocks_only_stamp_lemma world held schedule acts in
    plain.pasts agent ∙ ap (λ (state : State). state.past agent) plain.state

pub equal_pasts_in_time_lemma : EqualPastsInTime
equal_pasts_in_time_lemma world held schedule acts other still slower others agent who quota board plays play_too same =
    equal_pasts_lemma world other (timed_events world held schedule acts)
    (timed_events other still slower others) agent who quota board
    plays play_too
    (sym (plain_past world held schedule acts agent) ∙ ap bare same ∙ plain_past other still slower others who)
