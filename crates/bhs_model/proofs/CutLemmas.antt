-- A closed set of places can stand alone.
use Rattle.std.proofs.Common.{ℕ, ◌≡◌, Bool, true, false, not, ◌&&◌, Option, Some, None, List, [], ◌∷◌, ◌==◌}
use Rattle.std.proofs.Common.{if◌then◌else◌, nat_lt, refl, sym, ap, ap₂, ◌∙◌, subst, subst₂}
use Rattle.std.specs.List.{list_any}
use Rattle.std.proofs.lemmas.Bool.{cond-true, and_parts, or_parts, not-true, true≢false}
use Rattle.bhs_model.specs.declared.commands.Command.{Command}
use Rattle.bhs_model.specs.declared.commands.Command.TheVariants.{Enter, Look, Write}
use Rattle.bhs_model.specs.declared.events.Event.{Event}
use Rattle.bhs_model.specs.declared.events.Event.TheVariants.{Tell, Deliver, Close}
use Rattle.bhs_model.specs.declared.replies.Reply.{Reply}
use Rattle.bhs_model.specs.declared.replies.Reply.TheVariants.{Over, No}
use Rattle.bhs_model.specs.declared.replies.Why.TheVariants.{Agent}
use Rattle.bhs_model.specs.Views.{View, Told, Arrived, Saw, Glance, Seen, LastWrite, WrittenBy, standing}
use Rattle.bhs_model.specs.Replying.{rep, hears, refusal}
use Rattle.bhs_model.specs.Worlds.{World}
use Rattle.bhs_model.specs.Runs.{Position, Before, At, Bound, After, State, initial, changed, glance, position_after}
use Rattle.bhs_model.specs.Runs.{last_writes_after, heard, arrives, is_let_through, told, delivered, next, reply}
use Rattle.bhs_model.specs.InOrder.{replies_from}
use Rattle.bhs_model.specs.Cuts.{at_places, Footprint, node_seen, node_written, node_reached, footprint}
use Rattle.bhs_model.specs.Cuts.{footprints_from, meet, needs, is_closed}
use Rattle.bhs_model.specs.Laws.{ClosedSetsStandAlone}
use Rattle.bhs_model.proofs.StepLemmas.{changed_other, by_cases, next_heard, next_unheard, next_arrived}
use Rattle.bhs_model.proofs.StepLemmas.{next_no_arrival}

-- two states agree on what an event touches: the past and position of its agent, the node that it sees, the close
pub record Agree (whole part : State) (late : Footprint) : Type 0 where
  pub past : (agent : ℕ) → late.who ≡ Some agent → whole.past agent ≡ part.past agent
  pub position : (agent : ℕ) → late.who ≡ Some agent → whole.position agent ≡ part.position agent
  pub last_write : (node : ℕ) → late.seen ≡ Some node → whole.last_write node ≡ part.last_write node
  pub closed : whole.closed ≡ part.closed

-- The two states agree on the footprints of all these events.
abbrev pub AgreeOnAll : (whole part : State) → List Footprint → Type 0
AgreeOnAll whole part [] = Unit {0}
AgreeOnAll whole part (late ∷ footprints) = Agree whole part late × AgreeOnAll whole part footprints

pub changed_alike : {A : Type 0} (f g : ℕ → A) (place other : ℕ) (new newer : A) → f other ≡ g other → new ≡ newer →
    changed f place new other ≡ changed g place newer other
changed_alike f g place other new newer same same_new =
    ap₂ (λ old value. if other == place then value else old) same same_new

-- what a heard command shows is the same where the node that it sees has the same last write
pub glance_alike : (world : World) (whole part : State) (position : Position) (command : Command) →
    ((node : ℕ) → node_seen world position command ≡ Some node → whole.last_write node ≡ part.last_write node) →
    glance world whole position command ≡ glance world part position command
glance_alike world whole part position Enter same =
    ap (λ (last_write : LastWrite). Saw (Seen (world.net.degree world.home) None last_write)) (same world.home refl)
glance_alike world whole part (At node came) Look same =
    ap (λ (last_write : LastWrite). Saw (Seen (world.net.degree node) came last_write)) (same node refl)
glance_alike world whole part (At node came) (Write expect put) same =
    ap (λ (last_write : LastWrite). Saw (Seen (world.net.degree node) came last_write)) (same node refl)
glance_alike world whole part position command same = refl

pub last_writes_alike : (whole part : ℕ → LastWrite) (position : Position) (command : Command)
    (one two : View) (node : ℕ) →
    whole node ≡ part node → one ≡ two → last_writes_after whole position command one node ≡ last_writes_after part
    position command two node
last_writes_alike whole part (At place came) (Write expect put) one two node same same_view =
    changed_alike whole part place node (WrittenBy one) (WrittenBy two) same (ap WrittenBy same_view)
last_writes_alike whole part position command one two node same same_view = same

-- a heard command does the same to both states, as far as others see it
pub told_alike : (world : World) (whole part : State) (agent : ℕ) (command : Command) (late : Footprint) →
    whole.past agent ≡ part.past agent → whole.position agent ≡ part.position agent →
    ((node : ℕ) → node_seen world (whole.position agent) command ≡ Some node
    → whole.last_write node ≡ part.last_write node) →
    Agree whole part late → Agree (told world whole agent command) (told world part agent command) late
told_alike world whole part agent command late same_past same_position same_seen agree =
    let same_glance : glance world whole (whole.position agent) command ≡ glance world part
    (part.position agent) command =
    glance_alike world whole part (whole.position agent) command same_seen
    ∙ ap (λ (position : Position). glance world part position command) same_position in
    let same_view = ap₂ (λ (view : View) (seen : Glance). Told view command seen) same_past same_glance in
    record {
      past = λ other is_who. changed_alike whole.past part.past agent other _ _ (agree.past other is_who) same_view;
      position = λ other is_who. changed_alike whole.position part.position agent other _ _
          (agree.position other is_who)
          (ap (λ (position : Position). position_after world position command) same_position);
      last_write = λ node is_seen.
          last_writes_alike whole.last_write part.last_write (whole.position agent) command _ _ node
          (agree.last_write node is_seen) same_view
          ∙ ap (λ (position : Position). last_writes_after part.last_write position command
          (Told (part.past agent) command (glance world part (part.position agent) command)) node) same_position;
      closed = agree.closed;
    }

pub delivered_alike : (world : World) (whole part : State) (agent : ℕ) (position : Position) (late : Footprint) →
    whole.past agent ≡ part.past agent →
    ((node : ℕ) → node_reached world position ≡ Some node → whole.last_write node ≡ part.last_write node) →
    Agree whole part late → Agree (delivered world whole agent position) (delivered world part agent position) late
delivered_alike world whole part agent (Bound node port) late same_past same_seen agree =
    let far = world.net.far node port in
    let same_view = ap₂ (λ (view : View) (last_write : LastWrite). Arrived view
    (Seen (world.net.degree far.0) (Some far.1) last_write)) same_past (same_seen far.0 refl) in
    record {
      past = λ other is_who. changed_alike whole.past part.past agent other _ _ (agree.past other is_who) same_view;
      position = λ other is_who. changed_alike whole.position part.position agent other _ _
          (agree.position other is_who) refl;
      last_write = agree.last_write;
      closed = agree.closed;
    }
delivered_alike world whole part agent Before late same_past same_seen agree = agree
delivered_alike world whole part agent (At node came) late same_past same_seen agree = agree
delivered_alike world whole part agent After late same_past same_seen agree = agree

-- An event changes both states equally if they agree on the event's footprint.
pub next_agree : (world : World) (whole part : State) (event : Event) (late : Footprint) →
    Agree whole part (footprint world whole event) → Agree whole part late
    → Agree (next world whole event) (next world part event) late
next_agree world whole part (Tell agent command) late own agree =
    let same_heard : heard world whole agent command ≡ heard world part agent command =
    ap₂ (λ (closed : Bool) (view : View). nat_lt agent world.agents && (not closed && hears world.quota view command))
    own.closed (own.past agent refl) in
    by_cases (heard world whole agent command) _
    (λ is_heard. subst₂ (λ (one two : State). Agree one two late)
    (sym (next_heard world whole agent command is_heard))
    (sym (next_heard world part agent command (sym same_heard ∙ is_heard)))
    (told_alike world whole part agent command late (own.past agent refl) (own.position agent refl)
    (λ node is_seen. own.last_write node (cond-true (heard world whole agent command) _ _ is_heard ∙ is_seen)) agree))
    (λ unheard. subst₂ (λ (one two : State). Agree one two late)
    (sym (next_unheard world whole agent command unheard))
    (sym (next_unheard world part agent command (sym same_heard ∙ unheard))) agree)
next_agree world whole part (Deliver agent) late own agree =
    let same_arrives : arrives world whole agent ≡ arrives world part agent =
    ap₂ (λ (closed : Bool) (position : Position). not closed && is_let_through world position) own.closed
    (own.position agent refl) in
    by_cases (arrives world whole agent) _
    (λ arrival. subst₂ (λ (one two : State). Agree one two late)
    (sym (next_arrived world whole agent arrival))
    (ap (λ (position : Position). delivered world part agent position) (own.position agent refl)
    ∙ sym (next_arrived world part agent (sym same_arrives ∙ arrival)))
    (delivered_alike world whole part agent (whole.position agent) late (own.past agent refl)
    (λ node is_seen. own.last_write node (cond-true (arrives world whole agent) _ _ arrival ∙ is_seen)) agree))
    (λ no_arrival. subst₂ (λ (one two : State). Agree one two late)
    (sym (next_no_arrival world whole agent no_arrival))
    (sym (next_no_arrival world part agent (sym same_arrives ∙ no_arrival))) agree)
next_agree world whole part Close late own agree =
    record { past = agree.past; position = agree.position; last_write = agree.last_write; closed = refl }

-- The answer to a command, computed from the close and from the agent's pasts without and with that command.
abbrev pub answer_by : World → ℕ → Command → Bool → View → View → Option Reply
answer_by world agent command closed old new =
    if nat_lt agent world.agents
    then (if closed then Some Over else (if hears world.quota old command then rep world.board new else Some
    (No (refusal (standing old) command))))
    else Some (No Agent)

-- and is answered alike
pub reply_agree : (world : World) (whole part : State) (event : Event) →
    Agree whole part (footprint world whole event) → reply world whole event ≡ reply world part event
reply_agree world whole part (Tell agent command) own =
    let after = next_agree world whole part (Tell agent command) _ own own in
    ap (λ (closed : Bool). answer_by world agent command closed (whole.past agent)
    ((next world whole (Tell agent command)).past agent)) own.closed
    ∙ ap₂ (λ (old new : View). answer_by world agent command part.closed old new) (own.past agent refl)
    (after.past agent refl)
reply_agree world whole part (Deliver agent) own =
    let after = next_agree world whole part (Deliver agent) _ own own in
    ap₂ (λ (closed : Bool) (position : Position). if not closed && is_let_through world position then rep world.board
    ((next world whole (Deliver agent)).past agent) else None)
    own.closed (own.position agent refl)
    ∙ ap (λ (new : View). if arrives world part agent then rep world.board new else None) (after.past agent refl)
reply_agree world whole part Close own = refl

-- what two labels that do not meet say of two numbers
pub apart : (one two : ℕ) (late early : Option ℕ) → late ≡ Some one → early ≡ Some two → meet late early ≡ false
    → (one == two) ≡ false
apart one two late early is_one is_two no_meeting = ap₂ (λ (left right : Option ℕ). meet left right) (sym is_one)
    (sym is_two) ∙ no_meeting

-- a heard command writes no last write but at the node written
pub last_writes_untouched : (last_writes : ℕ → LastWrite) (position : Position) (command : Command)
    (view : View) (node : ℕ) →
    meet (Some node) (node_written position command) ≡ false → last_writes_after last_writes position command view
    node ≡ last_writes node
last_writes_untouched last_writes (At place came) (Write expect put) view node untouched =
    changed_other last_writes place node (WrittenBy view) untouched
last_writes_untouched last_writes position command view node untouched = refl

pub agree_with_itself : (state : State) (late : Footprint) → Agree state state late
agree_with_itself state late = record {
  past = λ other is_who. refl;
  position = λ other is_who. refl;
  last_write = λ node is_seen. refl;
  closed = refl;
}

-- an arrival changes its agent alone
pub delivered_untouched : (world : World) (state : State) (agent : ℕ) (position : Position) (late : Footprint) →
    meet late.who (Some agent) ≡ false → Agree (delivered world state agent position) state late
delivered_untouched world state agent (Bound node port) late no_meeting = record {
  past = λ other is_who. changed_other state.past agent other _ (apart other agent late.who _ is_who refl no_meeting);
  position = λ other is_who. changed_other state.position agent other _
      (apart other agent late.who _ is_who refl no_meeting);
  last_write = λ node is_seen. refl;
  closed = refl;
}
delivered_untouched world state agent Before late no_meeting = agree_with_itself state late
delivered_untouched world state agent (At node came) late no_meeting = agree_with_itself state late
delivered_untouched world state agent After late no_meeting = agree_with_itself state late

-- an event changes nothing that a place touches which does not need it
pub next_untouched : (world : World) (state : State) (event : Event) (late : Footprint) →
    needs (footprint world state event) late ≡ false → Agree (next world state event) state late
next_untouched world state (Tell agent command) late unasked =
    let parts = or_parts (meet late.who (Some agent)) _ unasked in
    by_cases (heard world state agent command) _
    (λ is_heard. subst (λ (after : State). Agree after state late)
    (sym (next_heard world state agent command is_heard)) (record {
      past = λ other is_who. changed_other state.past agent other _ (apart other agent late.who _ is_who refl parts.0);
      position = λ other is_who. changed_other state.position agent other _
          (apart other agent late.who _ is_who refl parts.0);
      last_write = λ node is_seen. last_writes_untouched state.last_write (state.position agent) command _ node
          (ap₂ (λ (seen written : Option ℕ). meet seen written) (sym is_seen)
          (sym (cond-true (heard world state agent command) (node_written (state.position agent) command) None
          is_heard)) ∙ parts.1);
      closed = refl;
    }))
    (λ unheard. subst (λ (after : State). Agree after state late) (sym (next_unheard world state agent command unheard))
    (agree_with_itself state late))
next_untouched world state (Deliver agent) late unasked =
    let parts = or_parts (meet late.who (Some agent)) _ unasked in
    by_cases (arrives world state agent) _
    (λ arrival. subst (λ (after : State). Agree after state late) (sym (next_arrived world state agent arrival))
    (delivered_untouched world state agent (state.position agent) late parts.0))
    (λ no_arrival. subst (λ (after : State). Agree after state late)
    (sym (next_no_arrival world state agent no_arrival)) (agree_with_itself state late))
next_untouched world state Close late unasked = absurd (true≢false unasked)

pub agree_then : (one two three : State) (late : Footprint) → Agree one two late → Agree two three late
    → Agree one three late
agree_then one two three late first second = record {
  past = λ agent is_who. first.past agent is_who ∙ second.past agent is_who;
  position = λ agent is_who. first.position agent is_who ∙ second.position agent is_who;
  last_write = λ node is_seen. first.last_write node is_seen ∙ second.last_write node is_seen;
  closed = first.closed ∙ second.closed;
}

-- after an event that is chosen the states still agree on the later places
pub all_after_chosen : (world : World) (whole part : State) (event : Event) (footprints : List Footprint) →
    Agree whole part (footprint world whole event) → AgreeOnAll whole part footprints →
    AgreeOnAll (next world whole event) (next world part event) footprints
all_after_chosen world whole part event [] own agree = tt
all_after_chosen world whole part event (late ∷ footprints) own agree =
    (next_agree world whole part event late own agree.0, all_after_chosen world whole part event footprints own agree.1)

-- and after one that is not chosen, which no chosen later place needs
pub all_after_left_out : (world : World) (whole part : State) (event : Event) (footprints : List Footprint) →
    list_any (needs (footprint world whole event)) footprints ≡ false → AgreeOnAll whole part footprints →
    AgreeOnAll (next world whole event) part footprints
all_after_left_out world whole part event [] unasked agree = tt
all_after_left_out world whole part event (late ∷ footprints) unasked agree =
    let parts = or_parts (needs (footprint world whole event) late) _ unasked in (
      agree_then (next world whole event) whole part late (next_untouched world whole event late parts.0) agree.0,
      all_after_left_out world whole part event footprints parts.1 agree.1,
    )

-- the chosen events by themselves are answered as among all, from states that agree on what they touch
pub replies_at_places : (world : World) (whole part : State) (events : List Event) (places : List Bool) →
    is_closed (footprints_from world whole events) places ≡ true →
    AgreeOnAll whole part (at_places (footprints_from world whole events) places) →
    replies_from world part (at_places events places) ≡ at_places (replies_from world whole events) places
replies_at_places world whole part [] places closed agree = refl
replies_at_places world whole part (event ∷ events) [] closed agree = refl
replies_at_places world whole part (event ∷ events) (true ∷ places) closed agree =
    ap₂ (λ (replied : Option Reply) (others : List (Option Reply)). replied ∷ others)
    (sym (reply_agree world whole part event agree.0))
    (replies_at_places world (next world whole event) (next world part event) events places closed
    (all_after_chosen world whole part event (at_places (footprints_from world (next world whole event) events) places)
    agree.0 agree.1))
replies_at_places world whole part (event ∷ events) (false ∷ places) closed agree =
    let rest = at_places (footprints_from world (next world whole event) events) places in
    let parts = and_parts (not (list_any (needs (footprint world whole event)) rest)) _ closed in
    replies_at_places world (next world whole event) part events places parts.1
    (all_after_left_out world whole part event rest (not-true _ parts.0) agree)

pub agree_at_first : (state : State) (footprints : List Footprint) → AgreeOnAll state state footprints
agree_at_first state [] = tt
agree_at_first state (late ∷ footprints) = (agree_with_itself state late, agree_at_first state footprints)

pub closed_sets_stand_alone_lemma : ClosedSetsStandAlone
closed_sets_stand_alone_lemma world events places closed =
    replies_at_places world initial initial events places closed
    (agree_at_first initial (at_places (footprints_from world initial events) places))
