-- The events in the cut of an agent suffice for all its answers.
use Rattle.std.proofs.Common.{ℕ, zero, suc, ◌≡◌, Bool, true, false, not, Option, Some, None, List, [], ◌∷◌, ◌++◌, ◌==◌}
use Rattle.std.proofs.Common.{if◌then◌else◌, option_to_list, refl, sym, ap, ap₂, ◌∙◌, subst}
use Rattle.std.specs.List.{list_any}
use Rattle.std.proofs.lemmas.Bool.{eqb-true, false≢true, or_from, and_parts, not-true}
use Rattle.bhs_model.specs.declared.events.Event.{Event}
use Rattle.bhs_model.specs.declared.events.Event.TheVariants.{Tell, Deliver, Close}
use Rattle.bhs_model.specs.declared.replies.Reply.{Reply}
use Rattle.bhs_model.specs.Worlds.{World}
use Rattle.bhs_model.specs.Runs.{State, initial, next, run_from, reply}
use Rattle.bhs_model.specs.InOrder.{replies_from, is_of, replies_to_from}
use Rattle.bhs_model.specs.Cuts.{at_places, Footprint, footprint, footprints_from, footprints, needs, is_closed}
use Rattle.bhs_model.specs.Cuts.{HasAllOf, cut}
use Rattle.bhs_model.specs.Laws.{CutsSuffice}
use Rattle.bhs_model.proofs.StepLemmas.{by_cases}
use Rattle.bhs_model.proofs.LeastCutLemmas.{at_none, closed_none, cut_closed, cut_own}
use Rattle.bhs_model.proofs.ClosedLemmas.{none_there, some_same}
use Rattle.bhs_model.proofs.CutLemmas.{Agree, AgreeOnAll, next_agree, next_untouched, all_after_chosen}
use Rattle.bhs_model.proofs.CutLemmas.{all_after_left_out, agree_at_first, closed_sets_stand_alone_lemma}

-- the reply to one event, as a list
abbrev pub read : Bool → Option Reply → List Reply
read is_own replied = if is_own then option_to_list replied else []

-- what the agent reads of the replies beside these events
abbrev pub read_of : (agent : ℕ) → List Event → List (Option Reply) → List Reply
read_of agent [] replies = []
read_of agent (event ∷ events) [] = []
read_of agent (event ∷ events) (replied ∷ replies) = read (is_of agent event) replied ++ read_of agent events replies

pub read_all : (world : World) (state : State) (agent : ℕ) (events : List Event) →
    replies_to_from world state agent events ≡ read_of agent events (replies_from world state events)
read_all world state agent [] = refl
read_all world state agent (event ∷ events) =
    ap (λ (others : List Reply). read (is_of agent event) (reply world state event) ++ others)
    (read_all world (next world state event) agent events)

pub own_note : (world : World) (state : State) (agent : ℕ) (event : Event) → is_of agent event ≡ true
    → (footprint world state event).who ≡ Some agent
own_note world state agent (Tell other command) own = ap Some (sym (eqb-true agent other own))
own_note world state agent (Deliver other) own = ap Some (sym (eqb-true agent other own))
own_note world state agent Close own = absurd (false≢true own)

pub strangers : (agent other : ℕ) → (Some other ≡ Some agent → false ≡ true) → (agent == other) ≡ false
strangers agent other not_own =
    by_cases (agent == other) _
    (λ same. absurd (false≢true (not_own (ap Some (sym (eqb-true agent other same))))))
    (λ apart. apart)

-- nothing is read at a place that is not chosen
pub unread : (world : World) (state : State) (agent : ℕ) (event : Event) (others : List Reply) →
    ((footprint world state event).who ≡ Some agent → false ≡ true)
    → others ≡ read (is_of agent event) (reply world state event) ++ others
unread world state agent event others not_own =
    by_cases (is_of agent event) _
    (λ own. absurd (false≢true (not_own (own_note world state agent event own))))
    (λ strange. ap (λ (is_own : Bool). read is_own (reply world state event) ++ others) (sym strange))

pub read_at_places : (world : World) (state : State) (agent : ℕ) (events : List Event) (places : List Bool) →
    HasAllOf agent (footprints_from world state events) places →
    read_of agent (at_places events places) (at_places (replies_from world state events) places) ≡ read_of agent events
    (replies_from world state events)
read_at_places world state agent [] places own = refl
read_at_places world state agent (event ∷ events) [] own =
    ap₂ (λ (chosen : List Event) (replies : List (Option Reply)). read_of agent chosen replies) (sym (at_none events))
    (sym (at_none (replies_from world (next world state event) events)))
    ∙ read_at_places world (next world state event) agent events [] (λ place. own (suc place))
    ∙ unread world state agent event _ (own zero)
read_at_places world state agent (event ∷ events) (true ∷ places) own =
    ap (λ (others : List Reply). read (is_of agent event) (reply world state event) ++ others)
    (read_at_places world (next world state event) agent events places (λ place. own (suc place)))
read_at_places world state agent (event ∷ events) (false ∷ places) own =
    read_at_places world (next world state event) agent events places (λ place. own (suc place))
    ∙ unread world state agent event _ (own zero)

-- what is left of an event for one agent alone
abbrev pub alone : (agent : ℕ) → Footprint
alone agent = record { who = Some agent; seen = None; written = None; closes = false }

-- two states have the agent at the same place with the same past
pub record SameAgent (agent : ℕ) (whole part : State) : Type 0 where
  pub past : whole.past agent ≡ part.past agent
  pub position : whole.position agent ≡ part.position agent

pub same_agree : (agent : ℕ) (whole part : State) → SameAgent agent whole part → whole.closed ≡ part.closed
    → Agree whole part (alone agent)
same_agree agent whole part same closed = record {
  past = λ other is_who. subst (λ (one : ℕ). whole.past one ≡ part.past one) (some_same agent other is_who) same.past;
  position = λ other is_who. subst (λ (one : ℕ). whole.position one ≡ part.position one)
      (some_same agent other is_who) same.position;
  last_write = λ node is_seen. none_there node _ is_seen;
  closed = closed;
}

-- Agreement is preserved by a chosen event.
pub same_after_chosen : (world : World) (agent : ℕ) (whole part : State) (event : Event) →
    Agree whole part (footprint world whole event) → SameAgent agent whole part →
    SameAgent agent (next world whole event) (next world part event)
same_after_chosen world agent whole part event own same =
    let after = next_agree world whole part event (alone agent) own (same_agree agent whole part same own.closed) in
    record { past = after.past agent refl; position = after.position agent refl }

-- Agreement is preserved by an event of another agent that is left out.
pub same_after_left_out : (world : World) (agent : ℕ) (whole part : State) (event : Event) →
    ((footprint world whole event).who ≡ Some agent → false ≡ true) → SameAgent agent whole part →
    SameAgent agent (next world whole event) part
same_after_left_out world agent whole part (Tell other command) not_own same =
    let after = next_untouched world whole (Tell other command) (alone agent)
    (or_from _ _ (strangers agent other not_own) refl) in
    record { past = after.past agent refl ∙ same.past; position = after.position agent refl ∙ same.position }
same_after_left_out world agent whole part (Deliver other) not_own same =
    let after = next_untouched world whole (Deliver other) (alone agent)
    (or_from _ _ (strangers agent other not_own) refl) in
    record { past = after.past agent refl ∙ same.past; position = after.position agent refl ∙ same.position }
same_after_left_out world agent whole part Close not_own same = record { past = same.past; position = same.position }

-- the agent ends the same by the chosen events as by all
pub same_at_places : (world : World) (agent : ℕ) (whole part : State) (events : List Event) (places : List Bool) →
    is_closed (footprints_from world whole events) places ≡ true
    → HasAllOf agent (footprints_from world whole events) places →
    AgreeOnAll whole part (at_places (footprints_from world whole events) places) → SameAgent agent whole part →
    SameAgent agent (run_from world whole events) (run_from world part (at_places events places))
same_at_places world agent whole part [] places closed own agree same = same
same_at_places world agent whole part (event ∷ events) [] closed own agree same =
    let after = next world whole event in
    subst (λ (chosen : List Event). SameAgent agent (run_from world after events) (run_from world part chosen))
    (at_none events)
    (same_at_places world agent after part events [] (closed_none (footprints_from world after events))
    (λ place. own (suc place))
    (subst (λ (chosen : List Footprint). AgreeOnAll after part chosen)
    (sym (at_none (footprints_from world after events))) tt)
    (same_after_left_out world agent whole part event (own zero) same))
same_at_places world agent whole part (event ∷ events) (true ∷ places) closed own agree same =
    same_at_places world agent (next world whole event) (next world part event) events places closed
    (λ place. own (suc place))
    (all_after_chosen world whole part event (at_places (footprints_from world (next world whole event) events) places)
    agree.0 agree.1)
    (same_after_chosen world agent whole part event agree.0 same)
same_at_places world agent whole part (event ∷ events) (false ∷ places) closed own agree same =
    let rest = at_places (footprints_from world (next world whole event) events) places in
    let parts = and_parts (not (list_any (needs (footprint world whole event)) rest)) _ closed in
    same_at_places world agent (next world whole event) part events places parts.1 (λ place. own (suc place))
    (all_after_left_out world whole part event rest (not-true _ parts.0) agree)
    (same_after_left_out world agent whole part event (own zero) same)

pub cut_answers : (world : World) (events : List Event) (agent : ℕ) →
    replies_to_from world initial agent (at_places events (cut agent (footprints world events))) ≡ replies_to_from world
    initial agent events
cut_answers world events agent =
    let places = cut agent (footprints world events) in
    read_all world initial agent (at_places events places)
    ∙ ap (λ (replies : List (Option Reply)). read_of agent (at_places events places) replies)
    (closed_sets_stand_alone_lemma world events places (cut_closed agent (footprints world events)))
    ∙ read_at_places world initial agent events places (cut_own agent (footprints world events))
    ∙ sym (read_all world initial agent events)

pub cuts_suffice_lemma : CutsSuffice
cuts_suffice_lemma world events agent =
    let places = cut agent (footprints world events) in
    let same = same_at_places world agent initial initial events places (cut_closed agent (footprints world events))
    (cut_own agent (footprints world events))
    (agree_at_first initial (at_places (footprints world events) places)) (record { past = refl; position = refl }) in
    record {
      past = sym same.past;
      position = sym same.position;
      answers = cut_answers world events agent;
    }
