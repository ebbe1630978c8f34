-- Accusations and arrivals in a match and in its twin.
use Rattle.std.proofs.Common.{ℕ, suc, ◌<◌, ◌≡◌, ◌⊎◌, Bool, true, false, not, ◌&&◌, ◌||◌, ◌==◌, Option, Some, None, List}
use Rattle.std.proofs.Common.{[], ◌∷◌, if◌then◌else◌, inl, inr, nat_lt, refl, sym, ap, ap₂, ◌∙◌, subst}
use Rattle.std.specs.Prelude.{is_some}
use Rattle.bhs_model.specs.Standings.{standing_at}
use Rattle.std.specs.Option.{option_or}
use Rattle.std.proofs.lemmas.Bool.{cond-true, cond-false, and_parts, not-true, true≢false, false≢true}
use Rattle.std.proofs.lemmas.Bool.Decides.{eqb_tells}
use Rattle.bhs_model.specs.declared.commands.Command.{Command}
use Rattle.bhs_model.specs.declared.commands.Command.TheVariants.{Enter, Look, Write, Depart, Accuse, Leave, Bad}
use Rattle.bhs_model.specs.declared.events.Event.{Event}
use Rattle.bhs_model.specs.declared.events.Event.TheVariants.{Tell, Deliver, Close}
use Rattle.bhs_model.specs.declared.replies.Reply.{Reply}
use Rattle.bhs_model.specs.declared.replies.Reply.TheVariants.{Here, Written, Changed, Gone, Noted, Bye, Over, No}
use Rattle.bhs_model.specs.declared.replies.Why.TheVariants.{Port}
use Rattle.bhs_model.specs.Views.{Told, Standing, ports, used}
use Rattle.bhs_model.specs.Replying.{accepts, answer, rep}
use Rattle.bhs_model.specs.Worlds.{World, is_hole, is_dark}
use Rattle.bhs_model.specs.Runs.{Position, Before, At, Bound, After, State, glance, heard, arrives, delivered}
use Rattle.bhs_model.specs.Runs.{position_after, next, reply}
use Rattle.bhs_model.specs.Cuts.{at_places, meet, node_reached}
use Rattle.bhs_model.specs.Kept.{keeps, kept_from, lost_after}
use Rattle.bhs_model.proofs.LegalLemmas.{IsLegal}
use Rattle.bhs_model.proofs.StepLemmas.{by_cases, changed_same, changed_other, next_heard, next_arrived}
use Rattle.bhs_model.proofs.StepLemmas.{next_no_arrival, no_arrival_no_reply, answered_by_past}
use Rattle.bhs_match.proofs.FairLemmas.{IsFair, heard_means, arrival_means, fair_next}
use Rattle.bhs_referee.specs.Findings.{Findings, accused_by, reached_by, found_after, found_from}
use Rattle.bhs_view.specs.Twins.{hole_beyond, hole_from, hole_accused, is_noted, first_accused_from, moved, left_from}
use Rattle.bhs_view.specs.Twins.{heads_for, arrives_at, first_arrival_from}
use Rattle.bhs_model.proofs.KeptLemmas.{first_kept}
use Rattle.bhs_view.proofs.ArrivalLemmas.{arrival_replied}
use Rattle.bhs_view.proofs.TwinLemmas.{HasMoved, with_these, LosesNoMore, left_alike, taken_out}
use Rattle.bhs_view.proofs.TwinSetupLemmas.{option_cases}

pub none_some : {A : Type 0} (x : A) → None ≡ Some x → ⊥
none_some x e = cc

pub some_same : {A : Type 0} (x y : A) → Some x ≡ Some y → x ≡ y
some_same x y e = cc

or_none : (b : Bool) → (b || false) ≡ b
or_none true = refl
or_none false = refl

-- who has ended accuses no more

record StaysEnded (world : World) (state : State) (event : Event) (agent : ℕ) : Type 0 where
  pub position : (next world state event).position agent ≡ After
  pub accused : (found : Findings) → (found_after world state found event).accused agent ≡ found.accused agent

ended_is_silent : (world : World) (state : State) (lost : ℕ → Bool) (agent : ℕ) (command : Command)
    → IsFair world state lost → state.position agent ≡ After → heard world state agent command ≡ true → ⊥
ended_is_silent world state lost agent command fair at is_heard =
    let free = (heard_means world state lost agent command fair is_heard).free in
    let now = subst (λ (position : Position). accepts (standing_at position)
    (nat_lt (used (state.past agent)) world.quota) command ≡ true) at free in
    false≢true now

bound_is_not_after : (node port : ℕ) → Bound node port ≡ After → ⊥
bound_is_not_after node port e = cc

stays_ended : (world : World) (state : State) (lost : ℕ → Bool) (event : Event) (agent : ℕ) → IsFair world state lost
    → keeps world state lost event ≡ true → state.position agent ≡ After → StaysEnded world state event agent
stays_ended world state lost (Tell other command) agent fair is_kept at = elim (eqb_tells agent other) [
  | inl h ↦ absurd (ended_is_silent world state lost other command fair (ap state.position (sym h.1) ∙ at) is_kept)
  | inr h ↦ record {
    position = ap (λ (after : State). after.position agent) (next_heard world state other command is_kept)
        ∙ changed_other state.position other agent _ h.0 ∙ at;
    accused = λ found. changed_other found.accused other agent _ h.0;
  }
]
stays_ended world state lost (Deliver other) agent fair is_kept at = record {
  position = by_cases (arrives world state other) _
      (λ arrival.
      let means = arrival_means world state other arrival in
      let apart : (agent == other) ≡ false = elim (eqb_tells agent other)
      [ inl h ↦ absurd (bound_is_not_after _ _ (sym means.on ∙ ap state.position (sym h.1) ∙ at)) | inr h ↦ h.0 ] in
      ap (λ (after : State). after.position agent) (next_arrived world state other arrival)
      ∙ ap (λ (position : Position). (delivered world state other position).position agent) means.on
      ∙ changed_other state.position other agent _ apart ∙ at)
      (λ stays. ap (λ (after : State). after.position agent) (next_no_arrival world state other stays) ∙ at);
  accused = λ found. refl;
}
stays_ended world state lost Close agent fair is_kept at = record { position = at; accused = λ found. refl }

still_accused : (world : World) (state : State) (lost : ℕ → Bool) (found : Findings) (events : List Event) (agent : ℕ)
    → IsFair world state lost → kept_from world state lost events ≡ events → state.position agent ≡ After →
    (found_from world state found events).accused agent ≡ found.accused agent
still_accused world state lost found [] agent fair all at = refl
still_accused world state lost found (event ∷ events) agent fair all at =
    let first = first_kept world state lost event events all in
    let one = stays_ended world state lost event agent fair first.first at in
    still_accused world (next world state event) (lost_after world state lost event)
    (found_after world state found event) events agent (fair_next world state lost event fair)
    first.others one.position
    ∙ one.accused found

-- the first accusation of a black hole over a link that is not dark

pub record HasAccused (world : World) (found : Findings) (hole : ℕ) : Type 0 where
  pub agent : ℕ
  pub link : ℕ × ℕ
  pub accused : found.accused agent ≡ Some link
  pub within : agent < world.agents
  pub clear : is_dark world.net.far world.dark link.0 link.1 ≡ false
  pub leads : (world.net.far link.0 link.1).0 ≡ hole

record IsBeyond (world : World) (position : Position) (port hole : ℕ) : Type 0 where
  pub node : ℕ
  pub came : Option ℕ
  pub at : position ≡ At node came
  pub clear : is_dark world.net.far world.dark node port ≡ false
  pub leads : (world.net.far node port).0 ≡ hole

is_beyond : (world : World) (position : Position) (port hole : ℕ) → hole_from world position port ≡ Some hole
    → IsBeyond world position port hole
is_beyond world (At node came) port hole is =
    let far = (world.net.far node port).0 in
    let test = is_hole world.holes far && not (is_dark world.net.far world.dark node port) in
    by_cases test _
    (λ yes. record {
      node = node;
      came = came;
      at = refl;
      clear = not-true _
          (and_parts (is_hole world.holes far) _ yes).1;
      leads =
          some_same far hole (sym (cond-true test (Some far) None yes) ∙ is);
    })
    (λ is_not. absurd (none_some hole (sym (cond-false test (Some far) None is_not) ∙ is)))
is_beyond world Before port hole is = cc
is_beyond world (Bound node other) port hole is = cc
is_beyond world After port hole is = cc

noted_port : (world : World) (state : State) (lost : ℕ → Bool) (agent port node : ℕ) (came : Option ℕ)
    → IsFair world state lost → heard world state agent (Accuse port) ≡ true → state.position agent ≡ At node came →
    is_noted (reply world state (Tell agent (Accuse port))) ≡ true → nat_lt port (world.net.degree node) ≡ true
noted_port world state lost agent port node came fair is_heard at noted =
    let view = state.past agent in
    let legal = subst (λ (position : Position). IsLegal world view position) at (fair.legal agent) in
    let replied : reply world state (Tell agent (Accuse port)) ≡ Some
    (if nat_lt port (world.net.degree node) then Noted else No Port) =
    answered_by_past world state agent (Accuse port) is_heard
    ∙ ap (rep world.board) (changed_same state.past agent
    (Told view (Accuse port) (glance world state (state.position agent) (Accuse port))))
    ∙ ap₂ (λ (standing : Standing) (ports : ℕ). Some
    (answer world.board standing ports (Accuse port) (glance world state (state.position agent) (Accuse port))))
    legal.standing legal.ports in
    by_cases (nat_lt port (world.net.degree node)) _
    (λ yes. yes)
    (λ is_not. absurd (true≢false (sym noted ∙ ap is_noted
    (replied ∙ ap (λ (b : Bool). Some (if b then Noted else No Port)) is_not))))

is_noted_reply : (answer : Option Reply) → is_noted answer ≡ true → answer ≡ Some Noted
is_noted_reply None is = absurd (false≢true is)
is_noted_reply (Some (Here ports came board)) is = absurd (false≢true is)
is_noted_reply (Some Written) is = absurd (false≢true is)
is_noted_reply (Some (Changed board)) is = absurd (false≢true is)
is_noted_reply (Some Gone) is = absurd (false≢true is)
is_noted_reply (Some Bye) is = absurd (false≢true is)
is_noted_reply (Some Over) is = absurd (false≢true is)
is_noted_reply (Some (No why)) is = absurd (false≢true is)
is_noted_reply (Some Noted) is = refl

accused_stays : (world : World) (state : State) (lost : ℕ → Bool) (found : Findings) (events : List Event)
    (agent port hole : ℕ) → IsFair world state lost → heard world state agent (Accuse port) ≡ true →
    kept_from world (next world state (Tell agent (Accuse port))) lost events ≡ events
    → hole_accused world state (Tell agent (Accuse port)) ≡ Some hole
    → HasAccused world (found_from world state found (Tell agent (Accuse port) ∷ events)) hole
accused_stays world state lost found events agent port hole fair is_heard all is =
    let event = Tell agent (Accuse port) in
    by_cases (is_noted (reply world state event)) _
    (λ noted.
    let beyond = is_beyond world (state.position agent) port hole (sym (cond-true _ _ _ noted) ∙ is) in
    let in_range = noted_port world state lost agent port beyond.node beyond.came fair is_heard beyond.at noted in
    let ended : (next world state event).position agent ≡ After =
    ap (λ (after : State). after.position agent) (next_heard world state agent (Accuse port) is_heard)
    ∙ changed_same state.position agent (position_after world (state.position agent) (Accuse port))
    ∙ ap (λ (position : Position). position_after world position (Accuse port)) beyond.at
    ∙ cond-true _ _ _ in_range in
    let now : (found_after world state found event).accused agent ≡ Some (beyond.node, port) =
    changed_same found.accused agent (accused_by (reply world state event) (Accuse port) (state.position agent)
    (found.accused agent))
    ∙ ap₂ (λ (answer : Option Reply) (position : Position). accused_by answer (Accuse port) position
    (found.accused agent)) (is_noted_reply _ noted) beyond.at in
    record {
      agent = agent;
      link = (beyond.node, port);
      accused = still_accused world (next world state event) lost (found_after world state found event) events agent
          (fair_next world state lost event fair) all ended ∙ now;
      within = (heard_means world state lost agent (Accuse port) fair is_heard).within;
      clear = beyond.clear;
      leads = beyond.leads;
    })
    (λ other. absurd (none_some hole (sym (cond-false _ _ _ other) ∙ is)))

one_accused : (world : World) (state : State) (lost : ℕ → Bool) (found : Findings) (event : Event) (events : List Event)
    (hole : ℕ) → IsFair world state lost → keeps world state lost event ≡ true →
    kept_from world (next world state event) (lost_after world state lost event) events ≡ events
    → hole_accused world state event ≡ Some hole
    → HasAccused world (found_from world state found (event ∷ events)) hole
one_accused world state lost found (Tell agent (Accuse port)) events hole fair is_kept all is =
    accused_stays world state lost found events agent port hole fair is_kept all is
one_accused world state lost found (Tell agent Enter) events hole fair is_kept all is = cc
one_accused world state lost found (Tell agent Look) events hole fair is_kept all is = cc
one_accused world state lost found (Tell agent (Write expect put)) events hole fair is_kept all is = cc
one_accused world state lost found (Tell agent (Depart port)) events hole fair is_kept all is = cc
one_accused world state lost found (Tell agent Leave) events hole fair is_kept all is = cc
one_accused world state lost found (Tell agent Bad) events hole fair is_kept all is = cc
one_accused world state lost found (Deliver agent) events hole fair is_kept all is = cc
one_accused world state lost found Close events hole fair is_kept all is = cc

pub first_accused : (world : World) (state : State) (lost : ℕ → Bool) (found : Findings) (events : List Event)
    (hole : ℕ) → IsFair world state lost → kept_from world state lost events ≡ events →
    first_accused_from world state events ≡ Some hole → HasAccused world (found_from world state found events) hole
first_accused world state lost found [] hole fair all is = cc
first_accused world state lost found (event ∷ events) hole fair all is =
    let first = first_kept world state lost event events all in
    option_cases (λ hole. HasAccused world (found_from world state found (event ∷ events)) hole)
    (hole_accused world state event) (first_accused_from world (next world state event) events)
    (λ hole here. one_accused world state lost found event events hole fair first.first first.others here)
    (λ hole later. first_accused world (next world state event) (lost_after world state lost event)
    (found_after world state found event) events hole (fair_next world state lost event fair) first.others later)
    hole is

-- without such an accusation no link leads to a black hole that is accused and not dark

accused_or_before : (world : World) (answer : Option Reply) (position : Position) (command : Command)
    (before : Option (ℕ × ℕ)) (agent : ℕ) (link : ℕ × ℕ) → accused_by answer command position before ≡ Some link →
    (before ≡ Some link) ⊎ ((port : ℕ) × (answer ≡ Some Noted) × (command ≡ Accuse port)
    × (hole_from world position port ≡ hole_beyond world link.0 link.1))
accused_or_before world None position command before agent link is = inl is
accused_or_before world (Some (Here ports came board)) position command before agent link is = inl is
accused_or_before world (Some Written) position command before agent link is = inl is
accused_or_before world (Some (Changed board)) position command before agent link is = inl is
accused_or_before world (Some Gone) position command before agent link is = inl is
accused_or_before world (Some Bye) position command before agent link is = inl is
accused_or_before world (Some Over) position command before agent link is = inl is
accused_or_before world (Some (No why)) position command before agent link is = inl is
accused_or_before world (Some Noted) position Enter before agent link is = inl is
accused_or_before world (Some Noted) position Look before agent link is = inl is
accused_or_before world (Some Noted) position (Write expect put) before agent link is = inl is
accused_or_before world (Some Noted) position (Depart port) before agent link is = inl is
accused_or_before world (Some Noted) position Leave before agent link is = inl is
accused_or_before world (Some Noted) position Bad before agent link is = inl is
accused_or_before world (Some Noted) Before (Accuse port) before agent link is = inl is
accused_or_before world (Some Noted) (Bound node other) (Accuse port) before agent link is = inl is
accused_or_before world (Some Noted) After (Accuse port) before agent link is = inl is
accused_or_before world (Some Noted) (At node came) (Accuse port) before agent link is =
    inr (port, refl, refl, ap (λ (end : ℕ × ℕ). hole_beyond world end.0 end.1) (some_same (node, port) link is))

none_or : (one two : Option ℕ) → option_or one two ≡ None → (one ≡ None) × (two ≡ None)
none_or None two is = (refl, is)
none_or (Some x) two is = cc

one_unaccused : (world : World) (state : State) (found : Findings) (event : Event) (agent : ℕ) (link : ℕ × ℕ)
    → hole_accused world state event ≡ None → (hole_beyond world link.0 link.1 ≡ None → ⊥) →
    (found_after world state found event).accused agent ≡ Some link → found.accused agent ≡ Some link
one_unaccused world state found (Tell other command) agent link none good is = elim (eqb_tells agent other) [
  | inl h ↦
      let now : accused_by (reply world state (Tell other command)) command (state.position other)
      (found.accused other) ≡ Some link =
      sym (cond-true (agent == other) _ _ h.0) ∙ is in
      elim (accused_or_before world (reply world state (Tell other command)) (state.position other) command
      (found.accused other) agent link now) [
        | inl before ↦ ap found.accused h.1 ∙ before
        | inr new ↦ absurd (good (sym new.3 ∙ sym
            (cond-true _ _ _ (ap is_noted (ap (λ (command : Command). reply world state (Tell other command))
            (sym new.2) ∙ new.1))) ∙ ap (λ (command : Command). hole_accused world state (Tell other command))
            (sym new.2) ∙ none))
      ]
  | inr h ↦ sym (changed_other found.accused other agent _ h.0) ∙ is
]
one_unaccused world state found (Deliver other) agent link none good is = is
one_unaccused world state found Close agent link none good is = is

pub none_accused : (world : World) (state : State) (found : Findings) (events : List Event) (agent : ℕ) (link : ℕ × ℕ)
    → first_accused_from world state events ≡ None → (hole_beyond world link.0 link.1 ≡ None → ⊥) →
    (found_from world state found events).accused agent ≡ Some link → found.accused agent ≡ Some link
none_accused world state found [] agent link none good is = is
none_accused world state found (event ∷ events) agent link none good is =
    let parts = none_or (hole_accused world state event) _ none in
    one_unaccused world state found event agent link parts.0 good
    (none_accused world (next world state event) (found_after world state found event) events agent link
    parts.1 good is)

-- who arrived where

reached_more : (world : World) (state : State) (found : Findings) (event : Event) (node : ℕ)
    → (found_after world state found event).reached node ≡ (found.reached node || arrives_at world node state event)
reached_more world state found (Tell agent command) node = sym (or_none (found.reached node))
reached_more world state found (Deliver agent) node =
    by_cases (arrives world state agent) _
    (λ arrival.
    let means = arrival_means world state agent arrival in
    reached_there (reply world state (Deliver agent)) means.node means.port
    (arrival_replied world state agent arrival) means.on
    ∙ ap (λ (b : Bool). found.reached node || b)
    (sym (ap₂ (λ (b : Bool) (position : Position). b && meet (Some node) (node_reached world position))
    arrival means.on)))
    (λ stays.
    ap (λ (answer : Option Reply). reached_by world answer (state.position agent) found.reached node)
    (no_arrival_no_reply world state agent stays)
    ∙ sym (or_none (found.reached node))
    ∙ ap (λ (b : Bool). found.reached node || (b && meet (Some node) (node_reached world (state.position agent))))
    (sym stays))
  where
    chosen : (b before : Bool) → (if b then true else before) ≡ (before || b)
    chosen true true = refl
    chosen true false = refl
    chosen false true = refl
    chosen false false = refl

    reached_there : (answer : Option Reply) (from port : ℕ) → is_some answer ≡ true
        → state.position agent ≡ Bound from port →
        reached_by world answer (state.position agent) found.reached
        node ≡ (found.reached node || (node == (world.net.far from port).0))
    reached_there None from port here on = absurd (false≢true here)
    reached_there (Some one) from port here on =
        ap (λ (position : Position). reached_by world (Some one) position found.reached node) on
        ∙ chosen (node == (world.net.far from port).0) (found.reached node)
reached_more world state found Close node = sym (or_none (found.reached node))

pub reached_all : (world : World) (state : State) (found : Findings) (place : ℕ) (events : List Event) (node : ℕ)
    → (found_from world state found events).reached
    node ≡ (found.reached node || is_some (first_arrival_from world node state place events))
reached_all world state found place [] node = sym (or_none (found.reached node))
reached_all world state found place (event ∷ events) node =
    reached_all world (next world state event) (found_after world state found event) (suc place) events node
    ∙ ap (λ (b : Bool). b || is_some (first_arrival_from world node (next world state event) (suc place) events))
    (reached_more world state found event node)
    ∙ grouped (found.reached node) (arrives_at world node state event)
    (first_arrival_from world node (next world state event) (suc place) events)
  where
    grouped : (a b : Bool) (rest : Option ℕ) → ((a || b) || is_some rest) ≡ (a || is_some
        (if b then Some place else rest))
    grouped true b rest = refl
    grouped false true rest = refl
    grouped false false rest = refl

pub none_of : (found : Option ℕ) → is_some found ≡ false → found ≡ None
none_of None is = refl
none_of (Some x) is = absurd (true≢false is)

-- the same accusations in the twin

same_told : (b : Bool) (answer : Option Reply) (position : Position) (command : Command)
    (one other from over : Option (ℕ × ℕ)) → over ≡ from → other ≡ one →
    (if b then accused_by answer command position over else other) ≡ (if b then accused_by answer command
    position from else one)
same_told true answer position command one other from over same others = ap (accused_by answer command position) same
same_told false answer position command one other from over same others = others

abbrev AccuseAlike : (found twin : Findings) → Type 0
AccuseAlike found twin = (agent : ℕ) → twin.accused agent ≡ found.accused agent

accused_in : (world : World) (holes : List ℕ) (dark : List (ℕ × ℕ)) (state : State) (found other : Findings)
    (event : Event) → AccuseAlike found other →
    AccuseAlike (found_after world state found event) (found_after (with_these world holes dark) state other event)
accused_in world holes dark state found other (Tell by command) alike = λ agent.
    same_told (agent == by) (reply world state (Tell by command)) (state.position by) command (found.accused agent)
    (other.accused agent) (found.accused by) (other.accused by) (alike by) (alike agent)
accused_in world holes dark state found other (Deliver by) alike = alike
accused_in world holes dark state found other Close alike = alike

accused_out : (world : World) (old : Option ℕ) (state : State) (found other : Findings) (event : Event)
    → heads_for world old state event ≡ true → AccuseAlike found other
    → AccuseAlike (found_after world state found event) other
accused_out world old state found other (Tell by command) heads alike = absurd (false≢true heads)
accused_out world old state found other (Deliver by) heads alike = alike
accused_out world old state found other Close heads alike = absurd (false≢true heads)

pub found_alike : (world : World) (holes : List ℕ) (dark : List (ℕ × ℕ)) (old : Option ℕ) (new : ℕ) (state : State)
    (lost lose : ℕ → Bool) (place : ℕ) (found other : Findings) (events : List Event)
    → HasMoved world holes dark old new → LosesNoMore lost lose →
    kept_from world state lost events ≡ events → first_arrival_from world new state place events ≡ None
    → AccuseAlike found other →
    AccuseAlike (found_from world state found events)
    (found_from (with_these world holes dark) state other (at_places events (left_from world old state events)))
found_alike world holes dark old new state lost lose place found other [] moved fewer all unreached alike = alike
found_alike world holes dark old new state lost lose place found other (event ∷ events) moved fewer all
    unreached alike =
    let twin = with_these world holes dark in
    let after = next world state event in
    let rest = at_places events (left_from world old after events) in
    let first = first_kept world state lost event events all in
    let elsewhere : arrives_at world new state event ≡ false =
    by_cases (arrives_at world new state event) (arrives_at world new state event ≡ false)
    (λ is. absurd (none_some place (sym unreached ∙ cond-true _ _ _ is))) (λ is. is) in
    let later : first_arrival_from world new after (suc place) events ≡ None =
    sym (cond-false _ _ _ elsewhere) ∙ unreached in
    let whole = found_from world after (found_after world state found event) events in
    let chosen : (b : Bool) → List Event = λ b. if not b then event ∷ rest else rest in
    by_cases (heads_for world old state event) _
    (λ heads.
    let out = taken_out world holes dark old new state lost lose event moved fewer heads in
    let same = found_alike world holes dark old new after (lost_after world state lost event) lose (suc place)
    (found_after world state found event) other events moved out.fewer first.others later
    (accused_out world old state found other event heads alike) in
    subst (λ (b : Bool). AccuseAlike whole (found_from twin state other (chosen b))) (sym heads)
    (subst (λ (start : State). AccuseAlike whole (found_from twin start other rest)) out.next same))
    (λ stays.
    let happens = left_alike world holes dark old new state lost lose event moved fewer stays first.first elsewhere in
    let same = found_alike world holes dark old new after (lost_after world state lost event)
    (lost_after twin state lose event) (suc place) (found_after world state found event)
    (found_after twin state other event) events moved happens.fewer first.others later
    (accused_in world holes dark state found other event alike) in
    subst (λ (b : Bool). AccuseAlike whole (found_from twin state other (chosen b))) (sym stays)
    (subst (λ (start : State). AccuseAlike whole (found_from twin start (found_after twin state other event) rest))
    happens.next same))
