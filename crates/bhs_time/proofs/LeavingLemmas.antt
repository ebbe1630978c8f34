-- Unobserved events can be left out.
use Rattle.std.proofs.Common.{arith, ℕ, ◌≡◌, ◌+◌, Bool, true, false, not, ◌&&◌, ◌==◌, Option, Some, None, List, [], ◌∷◌}
use Rattle.std.proofs.Common.{nat_lt, refl, sym, ap, ap₂, ◌∙◌, if◌then◌else◌, inl, inr, subst}
use Rattle.std.proofs.lemmas.Bool.{cond-true, cond-false, true≢false, false≢true}
use Rattle.std.proofs.lemmas.Bool.Decides.{eqb_tells}
use Rattle.bhs_model.specs.declared.commands.Command.{Command}
use Rattle.bhs_model.specs.declared.commands.Command.TheVariants.{Enter, Look, Write}
use Rattle.bhs_model.specs.declared.events.Event.{Event}
use Rattle.bhs_model.specs.declared.events.Event.TheVariants.{Tell, Deliver, Close}
use Rattle.bhs_model.specs.Views.{View}
use Rattle.bhs_model.specs.Replying.{hears}
use Rattle.bhs_model.specs.Worlds.{World}
use Rattle.bhs_model.specs.Runs.{Position, Before, At, Bound, After, State, changed, position_after, heard, arrives}
use Rattle.bhs_model.specs.Runs.{is_let_through}
use Rattle.bhs_model.specs.Cuts.{node_seen, node_written, node_reached, footprint}
use Rattle.bhs_model.specs.Draws.{Held, is_held, delivery_to}
use Rattle.bhs_model.proofs.StepLemmas.{by_cases}
use Rattle.bhs_model.proofs.LegalLemmas.{either}
use Rattle.bhs_time.specs.TimedViews.{TimedView, ToldAt, ArrivedAt, TimedGlance, SawThen, SeenThen, TimedWrite}
use Rattle.bhs_time.specs.TimedViews.{WrittenThen}
use Rattle.bhs_time.specs.TimedViews.{bare, departed_at}
use Rattle.bhs_time.specs.Schedules.{Schedule}
use Rattle.bhs_time.specs.TimedRuns.{TimedState, timed_initial, TimedAct, Says, Passes, Ends, delivery_if, delivery_now}
use Rattle.bhs_time.specs.TimedRuns.{glance_then, writes_then}
use Rattle.bhs_time.specs.TimedRuns.{event_of, turn_after, sight_then, told_then, arrived_then, happened, happened_if}
use Rattle.bhs_time.specs.TimedRuns.{timed_next, timed_run_from}
use Rattle.bhs_time.specs.Leaving.{Marked, all_of, if_kept, kept_of, TaintState, all_watched, taint, watch_after}
use Rattle.bhs_time.specs.Leaving.{IsClean}
use Rattle.bhs_time.specs.Leaving.{IsCleanIf, MayBeKept, IsUnseen, watched, TheUnseenMayBeLeftOut}
use Rattle.bhs_time.proofs.StampLemmas.{IsStamped, initial_stamped, next_stamped}

-- how an agent stands in two matches alike
pub record IsAlike (here there : TimedState) (agent : ℕ) : Type 0 where
  pub past : here.pasts agent ≡ there.pasts agent
  pub position : here.state.position agent ≡ there.state.position agent

-- Similarity of two timed states: all agents and whiteboards agree except for the unwatched agents and the tainted
-- whiteboards.
pub record AreAlike (live : ℕ → Bool) (tainted : ℕ → Bool) (here there : TimedState) : Type 0 where
  pub closed : here.state.closed ≡ there.state.closed
  pub agents : (agent : ℕ) → live agent ≡ true → IsAlike here there agent
  pub writes : (node : ℕ) → tainted node ≡ false → here.writes node ≡ there.writes node

-- the past without turns is that of the timed view
plain_alike : (here there : TimedState) (agent : ℕ) → IsStamped here → IsStamped there → IsAlike here there agent →
    here.state.past agent ≡ there.state.past agent
plain_alike here there agent stamped stamped_too alike =
    sym (stamped.pasts agent) ∙ ap bare alike.past ∙ stamped_too.pasts agent

heard_alike : (world : World) (here there : TimedState) (agent : ℕ) (command : Command) →
    here.state.closed ≡ there.state.closed → here.state.past agent ≡ there.state.past agent →
    heard world here.state agent command ≡ heard world there.state agent command
heard_alike world here there agent command closed past =
    ap₂ (λ (ended : Bool) (view : View). nat_lt agent world.agents && (not ended && hears world.quota view command))
    closed past

-- what is seen alike is shown alike
glance_alike : (world : World) (here there : TimedState) (tainted : ℕ → Bool) (position : Position)
    (command : Command) →
    ((node : ℕ) → tainted node ≡ false → here.writes node ≡ there.writes node) →
    IsClean tainted (node_seen world position command) →
    glance_then world here position command ≡ glance_then world there position command
glance_alike world here there tainted position Enter writes clean =
    ap (λ (last : TimedWrite). SawThen (SeenThen (world.net.degree world.home) None last)) (writes world.home clean)
glance_alike world here there tainted (At node came) Look writes clean =
    ap (λ (last : TimedWrite). SawThen (SeenThen (world.net.degree node) came last)) (writes node clean)
glance_alike world here there tainted (At node came) (Write expect put) writes clean =
    ap (λ (last : TimedWrite). SawThen (SeenThen (world.net.degree node) came last)) (writes node clean)
glance_alike world here there tainted position command writes clean = refl

writes_alike : (tainted : ℕ → Bool) (one two : ℕ → TimedWrite) (position : Position) (command : Command)
    (past other : TimedView) → past ≡ other → ((node : ℕ) → tainted node ≡ false → one node ≡ two node) →
    (node : ℕ) → tainted node ≡ false →
    writes_then one position command past node ≡ writes_then two position command other node
writes_alike tainted one two (At here came) (Write expect put) past other same all node clean =
    elim (eqb_tells node here) [
      | inl h ↦ rw h.0 (ap WrittenThen same)
      | inr h ↦ rw h.0 (all node clean)
    ]
writes_alike tainted one two position command past other same all node clean = all node clean

-- Agents watched after an agent is dropped were watched before.
still_live : (live : ℕ → Bool) (agent other : ℕ) → changed live agent false other ≡ true →
    ((other == agent) ≡ false) × (live other ≡ true)
still_live live agent other lives = elim (eqb_tells other agent) [
  | inl h ↦ absurd (false≢true (rw h.0 at lives))
  | inr h ↦ (h.0, rw h.0 at lives)
]

-- a command that is kept
module _ (world : World) (live tainted : ℕ → Bool) (here there : TimedState) (same_turn : here.turn ≡ there.turn)
    (stamped : IsStamped here) (stamped_too : IsStamped there) (alike : AreAlike live tainted here there) where
  told_alike : (agent : ℕ) (command : Command) → live agent ≡ true →
      IsClean tainted (node_seen world (here.state.position agent) command) →
      AreAlike live tainted (told_then world here agent command) (told_then world there agent command)
  told_alike agent command lives clean =
      let own = alike.agents agent lives in
      let glances : glance_then world here (here.state.position agent) command
      ≡ glance_then world there (there.state.position agent) command =
      glance_alike world here there tainted (here.state.position agent) command alike.writes clean
      ∙ ap (λ (place : Position). glance_then world there place command) own.position in
      let pasts : ToldAt (here.pasts agent) here.turn command (glance_then world here
      (here.state.position agent) command)
      ≡ ToldAt (there.pasts agent) there.turn command
      (glance_then world there (there.state.position agent) command) =
      ap₂ (λ (past : TimedView) (turn : ℕ). ToldAt past turn command
      (glance_then world here (here.state.position agent) command)) own.past same_turn
      ∙ ap (λ (glance : TimedGlance). ToldAt (there.pasts agent) there.turn command glance) glances in
      record {
        closed = alike.closed;
        agents = λ other is_live. elim (eqb_tells other agent) [
          | inl h ↦ record {
            past = rw h.0 pasts;
            position = rw h.0 (ap (λ (place : Position). position_after world place command) own.position);
          }
          | inr h ↦ record {
            past = rw h.0 (alike.agents other is_live).past;
            position = rw h.0 (alike.agents other is_live).position;
          }
        ];
        writes = λ node untainted.
            writes_alike tainted here.writes there.writes
            (here.state.position agent) command _ _ pasts alike.writes node
            untainted
            ∙ ap (λ (place : Position). writes_then there.writes place command
            (ToldAt (there.pasts agent) there.turn command
            (glance_then world there (there.state.position agent) command)) node) own.position;
      }

  said_alike : (agent : ℕ) (command : Command) → live agent ≡ true →
      IsClean tainted (footprint world here.state (Tell agent command)).seen →
      AreAlike live tainted (happened world here (Tell agent command)) (happened world there (Tell agent command))
  said_alike agent command lives clean =
      let same : heard world here.state agent command ≡ heard world there.state agent command =
      heard_alike world here there agent command alike.closed
      (plain_alike here there agent stamped stamped_too (alike.agents agent lives)) in
      by_cases (heard world here.state agent command) _
      (λ (yes : heard world here.state agent command ≡ true).
      subst (λ (after : TimedState). AreAlike live tainted after (happened world there (Tell agent command)))
      (sym (cond-true _ _ _ yes))
      (subst (λ (after : TimedState). AreAlike live tainted (told_then world here agent command) after)
      (sym (cond-true _ _ _ (sym same ∙ yes)))
      (told_alike agent command lives
      (subst (λ (seen : Option ℕ). IsClean tainted seen)
      (cond-true (heard world here.state agent command) (node_seen world (here.state.position agent) command) None yes)
      clean))))
      (λ (unheard : heard world here.state agent command ≡ false).
      subst (λ (after : TimedState). AreAlike live tainted after (happened world there (Tell agent command)))
      (sym (cond-false _ _ _ unheard))
      (subst (λ (after : TimedState). AreAlike live tainted here after)
      (sym (cond-false _ _ _ (sym same ∙ unheard))) alike))

  -- the case of a dropped command
  left_writes : (writes : ℕ → TimedWrite) (position : Position) (command : Command) (past : TimedView) (node : ℕ) →
      taint tainted (node_written position command) node ≡ false →
      writes_then writes position command past node ≡ writes node
  left_writes writes (At where_at came) (Write expect put) past node clean = elim (eqb_tells node where_at) [
    | inl h ↦ absurd (true≢false (rw h.0 at clean))
    | inr h ↦ rw h.0 refl
  ]
  left_writes writes position command past node clean = grind arith

  untainted_before : (written : Option ℕ) (node : ℕ) → taint tainted written node ≡ false → tainted node ≡ false
  untainted_before None node clean = clean
  untainted_before (Some place) node clean = elim (eqb_tells node place) [
    | inl h ↦ absurd (true≢false (rw h.0 at clean))
    | inr h ↦ rw h.0 at clean
  ]

  left_told : (agent : ℕ) (command : Command) →
      AreAlike (changed live agent false) (taint tainted (node_written (here.state.position agent) command))
      (told_then world here agent command) there
  left_told agent command = record {
    closed = alike.closed;
    agents = λ other lives.
        let still = still_live live agent other lives in
        record {
          past = rw still.0 (alike.agents other still.1).past;
          position = rw still.0 (alike.agents other still.1).position;
        };
    writes = λ node clean.
        left_writes here.writes (here.state.position agent) command _ node clean
        ∙ alike.writes node (untainted_before (node_written (here.state.position agent) command) node clean);
  }

  left_alike : (agent : ℕ) (command : Command) →
      AreAlike (changed live agent false) (taint tainted (footprint world here.state (Tell agent command)).written)
      (happened world here (Tell agent command)) there
  left_alike agent command =
      by_cases (heard world here.state agent command) _
      (λ (yes : heard world here.state agent command ≡ true).
      subst (λ (after : TimedState). AreAlike (changed live agent false)
      (taint tainted (footprint world here.state (Tell agent command)).written) after there) (sym (cond-true _ _ _ yes))
      (subst (λ (written : Option ℕ). AreAlike (changed live agent false) (taint tainted written)
      (told_then world here agent command) there)
      (sym (cond-true (heard world here.state agent command) (node_written
      (here.state.position agent) command) None yes))
      (left_told agent command)))
      (λ (unheard : heard world here.state agent command ≡ false).
      subst (λ (after : TimedState). AreAlike (changed live agent false)
      (taint tainted (footprint world here.state (Tell agent command)).written) after there)
      (sym (cond-false _ _ _ unheard))
      (subst (λ (written : Option ℕ). AreAlike (changed live agent false) (taint tainted written) here there)
      (sym (cond-false (heard world here.state agent command) (node_written (here.state.position agent) command) None
      unheard))
      (record {
        closed = alike.closed;
        agents = λ other lives. alike.agents other (still_live live agent other lives).1;
        writes = alike.writes;
      })))

-- the event of this turn, by the turn's number
abbrev pub delivery_at : Held → Schedule → TimedState → (turn : ℕ) → Option Event
delivery_at held schedule timed turn =
    if timed.state.closed then None
    else delivery_if held timed.state (schedule.picked turn)
    (schedule.ready (schedule.picked turn) (departed_at (timed.pasts (schedule.picked turn))) turn)

-- Case analysis: the turn has no event, or delivers the agent that it picks.
delivery_cases : (held : Held) (schedule : Schedule) (timed : TimedState) (turn : ℕ) (P : Option Event → Type 0) →
    P None →
    P (Some (Deliver (schedule.picked turn))) → P (delivery_at held schedule timed turn)
delivery_cases held schedule timed turn P none some =
    go (schedule.ready (schedule.picked turn) (departed_at (timed.pasts (schedule.picked turn))) turn)
  where
    go : (is_ready : Bool) →
        P (if timed.state.closed then None else delivery_if held timed.state (schedule.picked turn) is_ready)
    go false = either P timed.state.closed None None none none
    go true = either P timed.state.closed None (delivery_to held timed.state (Some (schedule.picked turn))) none
        (either P (is_held held (timed.state.position (schedule.picked turn))) None (Some (Deliver
        (schedule.picked turn)))
        none some)

-- the event of a turn, computed from its conditions
abbrev delivery_with : (is_ready is_still : Bool) → (agent : ℕ) → Option Event
delivery_with true is_still agent = if is_still then None else Some (Deliver agent)
delivery_with false is_still agent = None

with_parts : (held : Held) (state : State) (agent : ℕ) (is_ready : Bool) →
    delivery_if held state agent is_ready ≡ delivery_with is_ready (is_held held (state.position agent)) agent
with_parts held state agent true = refl
with_parts held state agent false = refl

delivery_parts : (held : Held) (schedule : Schedule) (timed : TimedState) (turn : ℕ) →
    delivery_at held schedule timed turn ≡ (if timed.state.closed then None else delivery_with
    (schedule.ready (schedule.picked turn) (departed_at (timed.pasts (schedule.picked turn))) turn)
    (is_held held (timed.state.position (schedule.picked turn))) (schedule.picked turn))
delivery_parts held schedule timed turn =
    ap (λ (event : Option Event). if timed.state.closed then None else event)
    (with_parts held timed.state (schedule.picked turn)
    (schedule.ready (schedule.picked turn) (departed_at (timed.pasts (schedule.picked turn))) turn))

same_delivery : (held : Held) (schedule : Schedule) (here there : TimedState) (turn : ℕ) →
    here.state.closed ≡ there.state.closed → IsAlike here there (schedule.picked turn) →
    delivery_at held schedule here turn ≡ delivery_at held schedule there turn
same_delivery held schedule here there turn closed alike =
    delivery_parts held schedule here turn
    ∙ ap₂ (λ (ended : Bool) (past : TimedView). if ended then None else delivery_with
    (schedule.ready (schedule.picked turn) (departed_at past) turn)
    (is_held held (here.state.position (schedule.picked turn))) (schedule.picked turn)) closed alike.past
    ∙ ap (λ (place : Position). if there.state.closed then None else delivery_with
    (schedule.ready (schedule.picked turn) (departed_at (there.pasts (schedule.picked turn))) turn)
    (is_held held place) (schedule.picked turn)) alike.position
    ∙ sym (delivery_parts held schedule there turn)

-- a Deliver changes its own agent alone
pub record IsBut (agent : ℕ) (before after : TimedState) : Type 0 where
  pub closed : before.state.closed ≡ after.state.closed
  pub others : (other : ℕ) → (other == agent) ≡ false → IsAlike before after other
  pub writes : (node : ℕ) → before.writes node ≡ after.writes node

same_but : (agent : ℕ) (timed : TimedState) → IsBut agent timed timed
same_but agent timed = record {
  closed = refl;
  others = λ other apart. record { past = refl; position = refl };
  writes = λ node. refl;
}

come_but : (world : World) (timed : TimedState) (agent : ℕ) (position : Position) →
    IsBut agent timed (arrived_then world timed agent position)
come_but world timed agent (Bound node port) = record {
  closed = refl;
  others = λ other apart. record { past = rw apart refl; position = rw apart refl };
  writes = λ where_at. refl;
}
come_but world timed agent Before = same_but agent timed
come_but world timed agent (At node came) = same_but agent timed
come_but world timed agent After = same_but agent timed

pub turn_but : (world : World) (held : Held) (schedule : Schedule) (timed : TimedState) (turn : ℕ) →
    IsBut (schedule.picked turn) timed (happened_if world timed (delivery_at held schedule timed turn))
turn_but world held schedule timed turn =
    delivery_cases held schedule timed turn
    (λ (event : Option Event). IsBut (schedule.picked turn) timed (happened_if world timed event))
    (same_but (schedule.picked turn) timed)
    (either (λ (after : TimedState). IsBut (schedule.picked turn) timed after) (arrives world timed.state
    (schedule.picked turn))
    (arrived_then world timed (schedule.picked turn) (timed.state.position (schedule.picked turn))) timed
    (come_but world timed (schedule.picked turn) (timed.state.position (schedule.picked turn)))
    (same_but (schedule.picked turn) timed))

-- an event takes no turn
come_turn : (world : World) (timed : TimedState) (agent : ℕ) (position : Position) →
    (arrived_then world timed agent position).turn ≡ timed.turn
come_turn world timed agent (Bound node port) = refl
come_turn world timed agent Before = refl
come_turn world timed agent (At node came) = refl
come_turn world timed agent After = refl

happened_turn : (world : World) (timed : TimedState) (event : Option Event) →
    (happened_if world timed event).turn ≡ timed.turn
happened_turn world timed None = refl
happened_turn world timed (Some (Tell agent command)) =
    either (λ (after : TimedState). after.turn ≡ timed.turn) (heard world timed.state agent command)
    (told_then world timed agent command) timed refl refl
happened_turn world timed (Some (Deliver agent)) =
    either (λ (after : TimedState). after.turn ≡ timed.turn) (arrives world timed.state agent)
    (arrived_then world timed agent (timed.state.position agent)) timed
    (come_turn world timed agent (timed.state.position agent)) refl
happened_turn world timed (Some Close) = refl

next_turn : (world : World) (held : Held) (schedule : Schedule) (timed : TimedState) (act : TimedAct) →
    (timed_next world held schedule timed act).turn ≡ turn_after timed.turn act
next_turn world held schedule timed act =
    ap (λ (turn : ℕ). turn_after turn act) (happened_turn world timed (event_of held schedule timed act))

-- turns do not matter to what is alike
later_alike : (live tainted : ℕ → Bool) (here there : TimedState) (turn turn_too : ℕ) →
    AreAlike live tainted here there →
    AreAlike live tainted (record here { turn = turn }) (record there { turn = turn_too })
later_alike live tainted here there turn turn_too alike = record {
  closed = alike.closed;
  agents = λ agent lives. record {
    past = (alike.agents agent lives).past;
    position = (alike.agents agent lives).position;
  };
  writes = alike.writes;
}

module _ (world : World) (held : Held) (schedule : Schedule) (live tainted : ℕ → Bool) (here there : TimedState)
    (same_turn : here.turn ≡ there.turn) (alike : AreAlike live tainted here there) where
  -- a turn that picks an agent which is watched
  arrived_alike : (agent : ℕ) (position : Position) → live agent ≡ true → IsClean tainted
      (node_reached world position) →
      AreAlike live tainted (arrived_then world here agent position) (arrived_then world there agent position)
  arrived_alike agent (Bound node port) lives clean =
      let pasts : ArrivedAt (here.pasts agent) here.turn
      (sight_then world here (world.net.far node port).0 (Some (world.net.far node port).1))
      ≡ ArrivedAt (there.pasts agent) there.turn
      (sight_then world there (world.net.far node port).0 (Some (world.net.far node port).1)) =
      ap₂ (λ (past : TimedView) (turn : ℕ). ArrivedAt past turn
      (sight_then world here (world.net.far node port).0 (Some (world.net.far node port).1)))
      (alike.agents agent lives).past same_turn
      ∙ ap (λ (last : TimedWrite). ArrivedAt (there.pasts agent) there.turn
      (SeenThen (world.net.degree (world.net.far node port).0) (Some (world.net.far node port).1) last))
      (alike.writes (world.net.far node port).0 clean) in
      record {
        closed = alike.closed;
        agents = λ other is_live. elim (eqb_tells other agent) [
          | inl h ↦ record { past = rw h.0 pasts; position = rw h.0 refl }
          | inr h ↦ record {
            past = rw h.0 (alike.agents other is_live).past;
            position = rw h.0 (alike.agents other is_live).position;
          }
        ];
        writes = alike.writes;
      }
  arrived_alike agent Before lives clean = alike
  arrived_alike agent (At node came) lives clean = alike
  arrived_alike agent After lives clean = alike

  delivered_alike : (agent : ℕ) → live agent ≡ true →
      IsClean tainted (footprint world here.state (Deliver agent)).seen →
      AreAlike live tainted (happened world here (Deliver agent)) (happened world there (Deliver agent))
  delivered_alike agent lives clean =
      let own = alike.agents agent lives in
      let same : arrives world here.state agent ≡ arrives world there.state agent =
      ap₂ (λ (ended : Bool) (place : Position). not ended && is_let_through world place) alike.closed own.position in
      by_cases (arrives world here.state agent) _
      (λ (yes : arrives world here.state agent ≡ true).
      subst (λ (after : TimedState). AreAlike live tainted after (happened world there (Deliver agent)))
      (sym (cond-true _ _ _ yes))
      (subst (λ (after : TimedState). AreAlike live tainted
      (arrived_then world here agent (here.state.position agent)) after)
      (sym (cond-true _ _ _ (sym same ∙ yes)))
      (subst (λ (place : Position). AreAlike live tainted
      (arrived_then world here agent (here.state.position agent)) (arrived_then world there agent place)) own.position
      (arrived_alike agent (here.state.position agent) lives
      (subst (λ (seen : Option ℕ). IsClean tainted seen)
      (cond-true (arrives world here.state agent) (node_reached world (here.state.position agent)) None yes) clean)))))
      (λ (none : arrives world here.state agent ≡ false).
      subst (λ (after : TimedState). AreAlike live tainted after (happened world there (Deliver agent)))
      (sym (cond-false _ _ _ none))
      (subst (λ (after : TimedState). AreAlike live tainted here after) (sym (cond-false _ _ _ (sym same
      ∙ none))) alike))

  live_turn : live (schedule.picked here.turn) ≡ true →
      IsCleanIf world here.state tainted (delivery_at held schedule here here.turn) →
      AreAlike live tainted (happened_if world here (delivery_at held schedule here here.turn))
      (happened_if world there (delivery_at held schedule there here.turn))
  live_turn lives =
      subst (λ (event : Option Event). IsCleanIf world here.state tainted (delivery_at held schedule here here.turn) →
      AreAlike live tainted (happened_if world here (delivery_at held schedule here here.turn))
      (happened_if world there event))
      (same_delivery held schedule here there here.turn alike.closed (alike.agents (schedule.picked here.turn) lives))
      (delivery_cases held schedule here here.turn
      (λ (event : Option Event). IsCleanIf world here.state tainted event →
      AreAlike live tainted (happened_if world here event) (happened_if world there event))
      (λ nothing. alike) (λ clean. delivered_alike (schedule.picked here.turn) lives clean))

  -- a turn that picks an agent which is not watched any more
  dead_turn : (later : ℕ → Bool) → ((other : ℕ) → later other ≡ true →
      ((other == schedule.picked here.turn) ≡ false) × (live other ≡ true)) →
      AreAlike later tainted (happened_if world here (delivery_at held schedule here here.turn))
      (happened_if world there (delivery_at held schedule there here.turn))
  dead_turn later were =
      let one = turn_but world held schedule here here.turn in
      let two = turn_but world held schedule there here.turn in
      record {
        closed = sym one.closed ∙ alike.closed ∙ two.closed;
        agents = λ other lives.
            let was = were other lives in
            record {
              past = sym (one.others other was.0).past ∙ (alike.agents other was.1).past
                  ∙ (two.others other was.0).past;
              position = sym (one.others other was.0).position ∙ (alike.agents other was.1).position
                  ∙ (two.others other was.0).position;
            };
        writes = λ node clean. sym (one.writes node) ∙ alike.writes node clean ∙ two.writes node;
      }

  -- a turn, kept or not
  turn_alike : (later : ℕ → Bool) →
      AreAlike later tainted (happened_if world here (delivery_at held schedule here here.turn))
      (happened_if world there (delivery_at held schedule there here.turn)) →
      AreAlike later tainted (timed_next world held schedule here Passes) (timed_next world held schedule there Passes)
  turn_alike later same =
      later_alike later tainted (happened_if world here (delivery_now held schedule here))
      (happened_if world there (delivery_now held schedule there)) _ _
      (subst (λ (turn : ℕ). AreAlike later tainted (happened_if world here (delivery_at held schedule here here.turn))
      (happened_if world there (delivery_at held schedule there turn))) same_turn same)

  kept_turn : (live (schedule.picked here.turn) ≡ true →
      IsCleanIf world here.state tainted (delivery_now held schedule here)) →
      AreAlike live tainted (timed_next world held schedule here Passes) (timed_next world held schedule there Passes)
  kept_turn clean =
      by_cases (live (schedule.picked here.turn)) _
      (λ (lives : live (schedule.picked here.turn) ≡ true). turn_alike live (live_turn lives (clean lives)))
      (λ (gone : live (schedule.picked here.turn) ≡ false).
      turn_alike live (dead_turn live (λ other lives. elim (eqb_tells other (schedule.picked here.turn)) [
        | inl h ↦ absurd (true≢false (sym lives ∙ ap live h.1 ∙ gone))
        | inr h ↦ (h.0, lives)
      ])))

  left_turn : AreAlike (changed live (schedule.picked here.turn) false) tainted
      (timed_next world held schedule here Passes) (timed_next world held schedule there Passes)
  left_turn = turn_alike (changed live (schedule.picked here.turn) false)
      (dead_turn (changed live (schedule.picked here.turn) false)
      (λ other lives. still_live live (schedule.picked here.turn) other lives))

ended_alike : (world : World) (held : Held) (schedule : Schedule) (live tainted : ℕ → Bool) (here there : TimedState) →
    AreAlike live tainted here there →
    AreAlike live tainted (timed_next world held schedule here Ends) (timed_next world held schedule there Ends)
ended_alike world held schedule live tainted here there alike = record {
  closed = refl;
  agents = λ agent lives. record {
    past = (alike.agents agent lives).past;
    position = (alike.agents agent lives).position;
  };
  writes = alike.writes;
}

-- how the two matches stand in the end
abbrev pub EndAlike : TaintState → TimedState → TimedState → Type 0
EndAlike watch here there = AreAlike watch.live watch.tainted here there × (here.turn ≡ there.turn)

module _ (world : World) (held : Held) (schedule : Schedule) where
  one_act : (here there : TimedState) (watch : TaintState) (others : List Marked) (act : TimedAct) (kept : Bool) →
      here.turn ≡ there.turn → IsStamped here → IsStamped there → AreAlike watch.live watch.tainted here there →
      MayBeKept world held schedule here watch act kept →
      ((later later_too : TimedState) (watching : TaintState) → later.turn ≡ later_too.turn → IsStamped later →
      IsStamped later_too → AreAlike watching.live watching.tainted later later_too →
      IsUnseen world held schedule later watching others →
      EndAlike (watched world held schedule later watching others) (timed_run_from world held schedule later
      (all_of others))
      (timed_run_from world held schedule later_too (kept_of others))) →
      IsUnseen world held schedule (timed_next world held schedule here act)
      (watch_after world schedule here watch act kept) others →
      EndAlike (watched world held schedule (timed_next world held schedule here act)
      (watch_after world schedule here watch act kept) others)
      (timed_run_from world held schedule (timed_next world held schedule here act) (all_of others))
      (timed_run_from world held schedule there (if_kept act kept (kept_of others)))
  one_act here there watch others (Says agent command) true turns stamped stamped_too alike may rest unseen =
      rest (timed_next world held schedule here (Says agent command)) (timed_next world held schedule there
      (Says agent command)) watch
      (next_turn world held schedule here (Says agent command) ∙ turns
      ∙ sym (next_turn world held schedule there (Says agent command)))
      (next_stamped world held schedule here (Says agent command) stamped)
      (next_stamped world held schedule there (Says agent command) stamped_too)
      (said_alike world watch.live watch.tainted here there turns stamped stamped_too alike agent command may.0 may.1)
      unseen
  one_act here there watch others (Says agent command) false turns stamped stamped_too alike may rest unseen =
      rest (timed_next world held schedule here (Says agent command)) there
      (watch_after world schedule here watch (Says agent command) false)
      (next_turn world held schedule here (Says agent command) ∙ turns)
      (next_stamped world held schedule here (Says agent command) stamped) stamped_too
      (left_alike world watch.live watch.tainted here there turns stamped stamped_too alike agent command) unseen
  one_act here there watch others Passes true turns stamped stamped_too alike may rest unseen =
      rest (timed_next world held schedule here Passes) (timed_next world held schedule there Passes) watch
      (next_turn world held schedule here Passes ∙ ap (λ (turn : ℕ). turn + 1) turns
      ∙ sym (next_turn world held schedule there Passes))
      (next_stamped world held schedule here Passes stamped) (next_stamped world held schedule there Passes stamped_too)
      (kept_turn world held schedule watch.live watch.tainted here there turns alike may) unseen
  one_act here there watch others Passes false turns stamped stamped_too alike may rest unseen =
      rest (timed_next world held schedule here Passes) (timed_next world held schedule there Passes)
      (watch_after world schedule here watch Passes false)
      (next_turn world held schedule here Passes ∙ ap (λ (turn : ℕ). turn + 1) turns
      ∙ sym (next_turn world held schedule there Passes))
      (next_stamped world held schedule here Passes stamped) (next_stamped world held schedule there Passes stamped_too)
      (left_turn world held schedule watch.live watch.tainted here there turns alike) unseen
  one_act here there watch others Ends true turns stamped stamped_too alike may rest unseen =
      rest (timed_next world held schedule here Ends) (timed_next world held schedule there Ends) watch turns
      (next_stamped world held schedule here Ends stamped) (next_stamped world held schedule there Ends stamped_too)
      (ended_alike world held schedule watch.live watch.tainted here there alike) unseen
  one_act here there watch others Ends false turns stamped stamped_too alike may rest unseen =
      rest (timed_next world held schedule here Ends) (timed_next world held schedule there Ends) watch turns
      (next_stamped world held schedule here Ends stamped) (next_stamped world held schedule there Ends stamped_too)
      (ended_alike world held schedule watch.live watch.tainted here there alike) unseen

  all_alike : (here there : TimedState) (watch : TaintState) (acts : List Marked) → here.turn ≡ there.turn
      → IsStamped here →
      IsStamped there → AreAlike watch.live watch.tainted here there → IsUnseen world held schedule here watch acts →
      EndAlike (watched world held schedule here watch acts) (timed_run_from world held schedule here (all_of acts))
      (timed_run_from world held schedule there (kept_of acts))
  all_alike here there watch [] turns stamped stamped_too alike unseen = (alike, turns)
  all_alike here there watch (one ∷ others) turns stamped stamped_too alike unseen =
      one_act here there watch others one.act one.kept turns stamped stamped_too alike unseen.0
      (λ later later_too watching same is_stamped is_stamped_too are_alike is_unseen.
      all_alike later later_too watching others same is_stamped is_stamped_too are_alike is_unseen)
      unseen.1

pub leaving_lemma : TheUnseenMayBeLeftOut
leaving_lemma world held schedule acts agent unseen lives =
    let end = all_alike world held schedule timed_initial timed_initial all_watched acts refl initial_stamped
    initial_stamped
    (record {
      closed = refl;
      agents = λ other is_live. record { past = refl; position = refl };
      writes = λ node clean. refl;
    }) unseen in
    record {
      pasts = (end.0.agents agent lives).past;
      positions = (end.0.agents agent lives).position;
      turns = end.1;
    }
