-- The steps of an agent in a log that is a legal history.
use Rattle.std.proofs.Common.{◌≡◌, ◌∙◌, ℕ, ◌+◌, Bool, true, false, not, ◌==◌, Option, Some, None}
use Rattle.std.proofs.Common.{List, [], ◌∷◌, ◌++◌, map, length, refl, sym, ap, ap₂, subst, append_assoc, arith}
use Rattle.std.proofs.Common.{if◌then◌else◌, length-append, nat_lt}
use Rattle.std.specs.Prelude.{option_map, option_and_then, slice_get}
use Rattle.std.proofs.lemmas.Bool.{eq-eqb, eqb-true, and_parts, eqb-false}
use Rattle.bhs_model.specs.declared.commands.Command.{Command}
use Rattle.bhs_model.specs.declared.commands.Command.TheVariants.{Leave}
use Rattle.bhs_model.specs.declared.events.Event.{Event}
use Rattle.bhs_model.specs.declared.events.Event.TheVariants.{Tell, Deliver, Close}
use Rattle.bhs_model.specs.declared.marks.Mark.{Mark}
use Rattle.bhs_model.specs.declared.marks.Kept.{Kept}
use Rattle.bhs_model.specs.declared.replies.Reply.{Reply}
use Rattle.bhs_model.specs.Views.{View, Told, Arrived, Nothing, Sight, standing, ports}
use Rattle.bhs_model.specs.Replying.{rep, answer, here}
use Rattle.bhs_model.specs.Worlds.{World}
use Rattle.bhs_model.specs.Runs.{State, initial, Position, glance, heard, told, arrives, next, run, run_from, reply}
use Rattle.bhs_model.specs.InOrder.{replies_from}
use Rattle.bhs_model.specs.Kept.{lost_after, keeps, kept_from}
use Rattle.bhs_model.specs.Marks.{events_of, read, read_if}
use Rattle.bhs_model.proofs.KeptLemmas.{first_kept}
use Rattle.bhs_model.proofs.AddLemmas.{run-append}
use Rattle.bhs_model.proofs.LegalLemmas.{AllLegal, all_run}
use Rattle.bhs_model.proofs.StepLemmas.{by_cases, changed_same, answered_by_past, arrival_by_past}
use Rattle.bhs_model.proofs.StepLemmas.{no_arrival_no_reply, next_heard, next_arrived, next_no_arrival}
use Rattle.bhs_match.specs.Matches.{is_arrival, arrivals_from}
use Rattle.bhs_shared_match.specs.declared.model.Receipt.{Receipt}
use Rattle.bhs_shared_match.specs.Arrivals.{arrival_mark, receipt_at}
use Rattle.bhs_shared_match.specs.Comparing.{HeardEntry, kept_if, entry_first, heard_from}
use Rattle.bhs_theorems_isolation.specs.ContestSteps.{ContestStep, Spoke, Arrives, heard_of, arrivals_of, view_along}
use Rattle.bhs_theorems_isolation.specs.ContestSteps.{AreSteps, StandInOrder}
use Rattle.bhs_theorems_isolation.proofs.AwayLemmas.{told_others, delivered_others, arriving}

leave_shows : (world : World) (state : State) (position : Position) → glance world state position Leave ≡ Nothing
leave_shows world state position = refl

pub get_there : {A : Type 0} (before : List A) (one : A) (others : List A)
    → slice_get (before ++ one ∷ others) (length before) ≡ Some one
get_there [] one others = refl
get_there (first ∷ before) one others = get_there before one others

-- ---- the steps

pub record StepsOf (world : World) (state : State) (agent : ℕ) (whole : List Kept) (place : ℕ)
    (log : List Kept) : Type 0 where
  pub steps : List ContestStep
  pub are : AreSteps world.quota world.board (state.past agent) steps
  pub in_order : StandInOrder place steps
  pub ends : view_along (state.past agent) steps ≡ (run_from world state (events_of log)).past agent
  pub heard : heard_from whole agent place log ≡ heard_of steps
  pub arrived : map (receipt_at whole) (arrivals_from agent place log) ≡ map Some (arrivals_of steps)

-- places that ascend from a later one
pub from_less : (least : ℕ) (steps : List ContestStep) → StandInOrder (least + 1) steps → StandInOrder least steps
from_less least [] order = tt
from_less least (Spoke place command glance reply ∷ steps) order = (omega (arith, order.0), order.1)
from_less least (Arrives place sight reply ∷ steps) order = (omega (arith, order.0), order.1)

abbrev kept_as : Event → Option Mark → Kept
kept_as event mark = record { event = event; mark = mark }

module _ (world : World) (state : State) (agent : ℕ) (whole : List Kept) (place : ℕ) (log : List Kept) where
  abbrev Then : Event → Type 0
  Then event = StepsOf world (next world state event) agent whole (place + 1) log

  abbrev Now : Event → Option Mark → Type 0
  Now event mark = StepsOf world state agent whole place (kept_as event mark ∷ log)

  -- The past is unchanged.
  own_not : (event : Event) (mark : Option Mark) → (next world state event).past agent ≡ state.past agent →
      heard_from whole agent place (kept_as event mark ∷ log) ≡ heard_from whole agent (place + 1) log →
      arrivals_from agent place (kept_as event mark ∷ log) ≡ arrivals_from agent (place + 1) log →
      Then event → Now event mark
  own_not event mark same heard arrived rest = record {
    steps = rest.steps;
    are = subst (λ (view : View). AreSteps world.quota world.board view rest.steps) same rest.are;
    in_order = from_less place rest.steps rest.in_order;
    ends = ap (λ (view : View). view_along view rest.steps) (sym same) ∙ rest.ends;
    heard = heard ∙ rest.heard;
    arrived = ap (map (receipt_at whole)) arrived ∙ rest.arrived;
  }

  tell_other : (other : ℕ) (command : Command) (mark : Option Mark) → (agent == other) ≡ false →
      Then (Tell other command) → Now (Tell other command) mark
  tell_other other command mark apart rest =
      own_not (Tell other command) mark
      (told_others world state other command agent (eqb-false agent other apart)).past
      (ap (λ (own : Bool). entry_first whole place (if own then Some command else None) mark
      (heard_from whole agent (place + 1) log)) apart) refl rest

  tell_own : (command : Command) (mark : Option Mark) → heard world state agent command ≡ true →
      read_if whole mark ≡ reply world state (Tell agent command) →
      Then (Tell agent command) → Now (Tell agent command) mark
  tell_own command mark is_heard answered rest =
      let view = state.past agent in
      let seen = glance world state (state.position agent) command in
      let said = answer world.board (standing view) (ports view) command seen in
      let told_is : (told world state agent command).past agent ≡ Told view command seen =
      changed_same state.past agent _ in
      let grown : (next world state (Tell agent command)).past agent ≡ Told view command seen =
      ap (λ (after : State). after.past agent) (next_heard world state agent command is_heard) ∙ told_is in
      let replied : read_if whole mark ≡ Some said =
      answered ∙ answered_by_past world state agent command is_heard ∙ ap (rep world.board) told_is in
      let outer = and_parts (nat_lt agent world.agents) _ is_heard in
      let inner = and_parts (not state.closed) _ outer.1 in
      record {
        steps = Spoke place command seen said ∷ rest.steps;
        are = (
          inner.1,
          refl,
          λ leaves. ap (glance world state (state.position agent)) leaves
              ∙ leave_shows world state (state.position agent),
          subst (λ (view : View). AreSteps world.quota world.board view rest.steps) grown rest.are,
        );
        in_order = (omega arith, rest.in_order);
        ends = ap (λ (view : View). view_along view rest.steps) (sym grown) ∙ rest.ends;
        heard = ap (λ (own : Bool). entry_first whole place (if own then Some command else None) mark
            (heard_from whole agent (place + 1) log)) (eq-eqb agent agent refl)
            ∙ ap₂ (λ (reply : Option Reply) (others : List HeardEntry).
            let one : HeardEntry = record { place = place; command = kept_if command reply; reply = reply } in
            one ∷ others) replied rest.heard;
        arrived = rest.arrived;
      }

  tell_step : (other : ℕ) (command : Command) (mark : Option Mark) → heard world state other command ≡ true →
      read_if whole mark ≡ reply world state (Tell other command) →
      Then (Tell other command) → Now (Tell other command) mark
  tell_step other command mark is_heard answered rest =
      by_cases (agent == other) (Now (Tell other command) mark)
      (λ own. let P : ℕ → Type 0 = λ one. heard world state one command ≡ true →
      read_if whole mark ≡ reply world state (Tell one command) → Then (Tell one command) → Now (Tell one command) mark
      in subst P (eqb-true agent other own) (tell_own command mark) is_heard answered rest)
      (λ apart. tell_other other command mark apart rest)

  -- a Deliver without an arrival of this agent
  arrives_not : (other : ℕ) (mark : Option Mark) → is_arrival agent (Deliver other) mark ≡ false →
      (next world state (Deliver other)).past agent ≡ state.past agent →
      Then (Deliver other) → Now (Deliver other) mark
  arrives_not other mark is_not same rest =
      own_not (Deliver other) mark same refl
      (ap (λ (own : Bool). if own then place ∷ arrivals_from agent (place + 1) log
      else arrivals_from agent (place + 1) log) is_not) rest

  other_not : (other : ℕ) (mark : Option Mark) → (agent == other) ≡ false
      → is_arrival agent (Deliver other) mark ≡ false
  other_not other None apart = refl
  other_not other (Some mark) apart = apart

  deliver_own : (mark : Option Mark) → AllLegal world state → arrives world state agent ≡ true →
      read_if whole mark ≡ reply world state (Deliver agent) →
      slice_get whole place ≡ Some (kept_as (Deliver agent) mark) →
      Then (Deliver agent) → Now (Deliver agent) mark
  deliver_own None legal comes answered there rest =
      let at = arriving world state agent comes in
      absurd (let said = answered ∙ arrival_by_past world state agent comes ∙ ap (rep world.board) at.past_is in cc)
  deliver_own (Some mark) legal comes answered there rest =
      let view = state.past agent in
      let at = arriving world state agent comes in
      let said = here world.board at.sight in
      let grown : (next world state (Deliver agent)).past agent ≡ Arrived view at.sight =
      ap (λ (after : State). after.past agent) (next_arrived world state agent comes) ∙ at.past_is in
      let replied : ◌≡◌ {A = Option Reply} (Some (read whole mark)) (Some said) =
      answered ∙ arrival_by_past world state agent comes ∙ ap (rep world.board) at.past_is in
      let same : read whole mark ≡ said = cc in
      record {
        steps = Arrives place at.sight said ∷ rest.steps;
        are = (
          (legal agent).standing ∙ at.away,
          refl,
          subst (λ (view : View). AreSteps world.quota world.board view rest.steps) grown rest.are,
        );
        in_order = (omega arith, rest.in_order);
        ends = ap (λ (view : View). view_along view rest.steps) (sym grown) ∙ rest.ends;
        heard = rest.heard;
        arrived = ap (λ (own : Bool). map (receipt_at whole) (if own then place ∷ arrivals_from agent (place + 1) log
            else arrivals_from agent (place + 1) log)) (eq-eqb agent agent refl)
            ∙ ap₂ (λ (first : Option Receipt) (others : List (Option Receipt)). first ∷ others)
            (receipt_there mark at.sight same there) rest.arrived;
      }
    where
      receipt_there : (mark : Mark) (sight : Sight) → read whole mark ≡ here world.board sight
          → slice_get whole place ≡ Some (kept_as (Deliver agent) (Some mark)) →
          receipt_at whole place ≡ Some (record { place = place; reply = here world.board sight })
      receipt_there mark sight same there =
          ap (λ (found : Option Kept). option_map (λ (one : Mark).
          let r : Receipt = record { place = place; reply = read whole one } in r)
          (option_and_then (λ (one : Kept). arrival_mark one.event one.mark) found)) there
          ∙ ap (λ (reply : Reply). let r : Receipt = record { place = place; reply = reply } in Some r) same

  deliver_step : (other : ℕ) (mark : Option Mark) → AllLegal world state →
      read_if whole mark ≡ reply world state (Deliver other) →
      slice_get whole place ≡ Some (kept_as (Deliver other) mark) →
      Then (Deliver other) → Now (Deliver other) mark
  deliver_step other mark legal answered there rest =
      by_cases (agent == other) (Now (Deliver other) mark)
      (λ own. let P : ℕ → Type 0 = λ one. read_if whole mark ≡ reply world state (Deliver one) →
      slice_get whole place ≡ Some (kept_as (Deliver one) mark) → Then (Deliver one) → Now (Deliver one) mark in
      subst P (eqb-true agent other own) (λ answered there rest. by_cases (arrives world state agent)
      (Now (Deliver agent) mark)
      (λ comes. deliver_own mark legal comes answered there rest)
      (λ stays. arrives_not agent mark
      (silent mark (answered ∙ no_arrival_no_reply world state agent stays))
      (ap (λ (after : State). after.past agent) (next_no_arrival world state agent stays)) rest))
      answered there rest)
      (λ apart. arrives_not other mark (other_not other mark apart)
      (delivered_others world state other agent (eqb-false agent other apart)).past rest)
    where
      silent : (mark : Option Mark) → read_if whole mark ≡ None → is_arrival agent (Deliver agent) mark ≡ false
      silent None none = refl
      silent (Some mark) none = absurd (cc)

  step : (event : Event) (mark : Option Mark) (lost : ℕ → Bool) → AllLegal world state →
      keeps world state lost event ≡ true → read_if whole mark ≡ reply world state event →
      slice_get whole place ≡ Some (kept_as event mark) → Then event → Now event mark
  step (Tell other command) mark lost legal keeps answered there rest =
      tell_step other command mark keeps answered rest
  step (Deliver other) mark lost legal keeps answered there rest = deliver_step other mark legal answered there rest
  step Close mark lost legal keeps answered there rest = own_not Close mark refl refl refl rest

pub steps_of : (world : World) (state : State) (lost : ℕ → Bool) (agent : ℕ) (whole before log : List Kept) (place : ℕ)
    (prior : List Event) → whole ≡ before ++ log → place ≡ length before → state ≡ run world prior →
    kept_from world state lost (events_of log) ≡ events_of log →
    map (λ one. read_if whole one.mark) log ≡ replies_from world state (events_of log)
    → StepsOf world state agent whole place log
steps_of world state lost agent whole before [] place prior split at is kept replied = record {
  steps = [];
  are = tt;
  in_order = tt;
  ends = refl;
  heard = refl;
  arrived = refl;
}
steps_of world state lost agent whole before (one ∷ log) place prior split at is kept replied =
    let first = first_kept world state lost one.event (events_of log) kept in
    let answered : read_if whole one.mark ≡ reply world state one.event = cc in
    let others : map (λ one. read_if whole one.mark) log ≡ replies_from world (next world state one.event)
    (events_of log) = cc in
    let there : slice_get whole place ≡ Some one =
    ap₂ (λ (all : List Kept) (k : ℕ). slice_get all k) split at ∙ get_there before one log in
    let longer : place + 1 ≡ length (before ++ one ∷ []) =
    ap (λ (n : ℕ). n + 1) at ∙ sym (length-append before (one ∷ [])) in
    let legal : AllLegal world state = subst (AllLegal world) (sym is) (all_run world prior) in
    let later : next world state one.event ≡ run world (prior ++ one.event ∷ []) =
    ap (λ (before : State). next world before one.event) is ∙ sym (run-append world initial prior (one.event ∷ [])) in
    step world state agent whole place log one.event one.mark lost legal first.first answered there
    (steps_of world (next world state one.event) (lost_after world state lost one.event) agent whole
    (before ++ one ∷ []) log (place + 1) (prior ++ one.event ∷ []) (split ∙ sym (append_assoc before (one ∷ []) log))
    longer later first.others others)
