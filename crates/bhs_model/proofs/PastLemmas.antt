-- What an agent is answered is a function of its past.
use Rattle.std.proofs.Common.{ℕ, ◌≡◌, Bool, true, false, not, Option, Some, List, [], ◌∷◌, ◌++◌, ◌==◌, if◌then◌else◌}
use Rattle.std.proofs.Common.{option_to_list, refl, sym, ap, ap₂, ◌∙◌, append-nil, append_assoc}
use Rattle.std.proofs.lemmas.Bool.{cond_both, eqb-true, and_parts, false≢true}
use Rattle.bhs_model.specs.declared.commands.Command.{Command}
use Rattle.bhs_model.specs.declared.events.Event.{Event}
use Rattle.bhs_model.specs.declared.events.Event.TheVariants.{Tell, Deliver, Close}
use Rattle.bhs_model.specs.declared.replies.Reply.{Reply}
use Rattle.bhs_model.specs.declared.replies.Reply.TheVariants.{No}
use Rattle.bhs_model.specs.Views.{View, standing}
use Rattle.bhs_model.specs.Replying.{rep, reps, hears, refusal}
use Rattle.bhs_model.specs.Worlds.{World}
use Rattle.bhs_model.specs.Runs.{Position, Before, At, Bound, After, State, initial, changed, past, run, run_from}
use Rattle.bhs_model.specs.Runs.{arrives, is_let_through, delivered, next, reply}
use Rattle.bhs_model.specs.InOrder.{is_of, replies_to_from}
use Rattle.bhs_model.specs.Kept.{lost_after, keeps, kept_from, nobody}
use Rattle.bhs_model.specs.Laws.{EqualPasts, RepliesAreOfPasts}
use Rattle.bhs_model.proofs.StepLemmas.{changed_same, by_cases, heard_by_past, refused_by_past, answered_by_past}
use Rattle.bhs_model.proofs.StepLemmas.{arrival_by_past, no_arrival_no_reply, next_heard, next_arrived, next_no_arrival}
use Rattle.bhs_model.proofs.KeptLemmas.{unkept_state}

pub equal_pasts_lemma : EqualPasts
equal_pasts_lemma one two events others agent other same_quota same_board playing other_playing same_past =
    let alike = λ (command : Command). ap₂ (λ (quota : ℕ) (view : View). hears quota view command)
    same_quota same_past in
    let hears_one = λ (command : Command). heard_by_past one (run one events) agent command playing.in_range
    playing.open_match in
    let hears_two = λ (command : Command). heard_by_past two (run two others) other command other_playing.in_range
    other_playing.open_match in
    record {
      newest_reply = ap₂ rep same_board same_past;
      hearing = λ command. hears_one command ∙ alike command ∙ sym (hears_two command);
      refusals = λ command unheard.
          refused_by_past one (run one events) agent command playing.in_range playing.open_match
          (sym (hears_one command) ∙ unheard)
          ∙ ap (λ (view : View). Some (No (refusal (standing view) command))) same_past
          ∙ sym (refused_by_past two (run two others) other command other_playing.in_range other_playing.open_match
          (sym (alike command) ∙ sym (hears_one command) ∙ unheard));
    }

-- what an event gives the agent to read
abbrev pub answered : World → State → (agent : ℕ) → Event → List Reply
answered world state agent event = if is_of agent event then option_to_list (reply world state event) else []

-- a past that has grown by one step has one reply more
pub grown_if : (limit : ℕ) (past : ℕ → View) (agent other : ℕ) (view : View) (replied : List Reply) (is_own : Bool) →
    (is_own ≡ true → agent ≡ other) → reps limit view ≡ reps limit (past other) ++ replied →
    reps limit (past agent) ++ (if is_own then replied else []) ≡ reps limit (if is_own then view else past agent)
grown_if limit past agent other view replied true own grows =
    ap (λ (who : ℕ). reps limit (past who) ++ replied) (own refl) ∙ sym grows
grown_if limit past agent other view replied false own grows = append-nil _

pub grown : (limit : ℕ) (past : ℕ → View) (agent other : ℕ) (view : View) →
    reps limit view ≡ reps limit (past other) ++ option_to_list (rep limit view) →
    reps limit (past agent) ++ (if agent == other then option_to_list (rep limit (changed past other view other))
    else []) ≡ reps limit (changed past other view agent)
grown limit past agent other view grows =
    ap (λ (newest : View). reps limit (past agent)
    ++ (if agent == other then option_to_list (rep limit newest) else [])) (changed_same past other view)
    ∙ grown_if limit past agent other view (option_to_list (rep limit view)) (agent == other)
    (eqb-true agent other) grows

-- the past grows by an arrival
pub arrival_grows : (world : World) (state : State) (agent other : ℕ) (position : Position)
    → is_let_through world position ≡ true →
    reps world.board (state.past agent) ++ (if agent == other then option_to_list
    (rep world.board ((delivered world state other position).past other)) else [])
    ≡ reps world.board ((delivered world state other position).past agent)
arrival_grows world state agent other (Bound node port) passes = grown world.board state.past agent other _ refl
arrival_grows world state agent other Before passes = absurd (false≢true passes)
arrival_grows world state agent other (At node came) passes = absurd (false≢true passes)
arrival_grows world state agent other After passes = absurd (false≢true passes)

-- nothing is read where nobody is answered
pub nothing_read : (is_own : Bool) (replies : List Reply) → replies ++ (if is_own then [] else []) ≡ replies
nothing_read true replies = append-nil replies
nothing_read false replies = append-nil replies

-- a kept event gives the agent to read what its past grows by
pub kept_grows : (world : World) (state : State) (lost : ℕ → Bool) (agent : ℕ) (event : Event)
    → keeps world state lost event ≡ true →
    reps world.board (state.past agent) ++ answered world state agent event ≡ reps world.board
    ((next world state event).past agent)
kept_grows world state lost agent (Tell other command) is_kept =
    ap (λ (replied : Option Reply). reps world.board (state.past agent)
    ++ (if agent == other then option_to_list replied else [])) (answered_by_past world state other command is_kept)
    ∙ grown world.board state.past agent other _ refl
    ∙ ap (λ (after : State). reps world.board (after.past agent)) (sym (next_heard world state other command is_kept))
kept_grows world state lost agent (Deliver other) is_kept =
    by_cases (arrives world state other) _
    (λ arrival.
    ap (λ (replied : Option Reply). reps world.board (state.past agent)
    ++ (if agent == other then option_to_list replied else [])) (arrival_by_past world state other arrival)
    ∙ arrival_grows world state agent other (state.position other) (and_parts (not state.closed) _ arrival).1
    ∙ ap (λ (after : State). reps world.board (after.past agent)) (sym (next_arrived world state other arrival)))
    (λ no_arrival.
    ap (λ (replied : Option Reply). reps world.board (state.past agent)
    ++ (if agent == other then option_to_list replied else [])) (no_arrival_no_reply world state other no_arrival)
    ∙ nothing_read (agent == other) _
    ∙ ap (λ (after : State). reps world.board (after.past agent)) (sym (next_no_arrival world state other no_arrival)))
kept_grows world state lost agent Close is_kept = append-nil _

-- the replies so far and those to come are the replies of the whole past
pub replies_grow : (world : World) (state : State) (lost : ℕ → Bool) (agent : ℕ) (events : List Event) →
    reps world.board (state.past agent) ++ replies_to_from world state agent (kept_from world state lost events)
    ≡ reps world.board ((run_from world state events).past agent)
replies_grow world state lost agent [] = append-nil _
replies_grow world state lost agent (event ∷ events) =
    let after = next world state event in
    let marks = lost_after world state lost event in
    let rest = kept_from world after marks events in
    let same = replies_grow world after marks agent events in
    cond_both (keeps world state lost event) (event ∷ rest) rest
    (λ (chosen : List Event). reps world.board (state.past agent) ++ replies_to_from world state agent chosen ≡ reps
    world.board ((run_from world after events).past agent))
    (λ is_kept. sym (append_assoc (reps world.board (state.past agent)) (answered world state agent event)
    (replies_to_from world after agent rest))
    ∙ ap (λ (read : List Reply). read ++ replies_to_from world after agent rest)
    (kept_grows world state lost agent event is_kept) ∙ same)
    (λ unkept. ap (λ (start : State). reps world.board (start.past agent) ++ replies_to_from world start agent rest)
    (sym (unkept_state world state lost event unkept)) ∙ same)

pub replies_are_of_pasts_lemma : RepliesAreOfPasts
replies_are_of_pasts_lemma world events agent = replies_grow world initial nobody agent events
