-- An event more: what it makes of each agent's past and count.
use Rattle.std.proofs.Common.{◌≡◌, ℕ, ◌+◌, ◌<◌, ◌≤◌, Bool, true, false, not, Option, Some, List, [], ◌∷◌, ◌++◌, refl}
use Rattle.std.proofs.Common.{sym, ap, ◌∙◌, nat_lt, if◌then◌else◌, arith, inl, inr}
use Rattle.std.proofs.lemmas.Bool.{and_parts, cond-true, cond-false, cond_both, ltb-true, not-true}
use Rattle.std.proofs.lemmas.Bool.Decides.{eqb_tells}
use Rattle.std.proofs.lemmas.List.Sums.{sum_by_push}
use Rattle.bhs_model.specs.declared.commands.Command.{Command}
use Rattle.bhs_model.specs.declared.commands.Command.TheVariants.{Enter, Look, Write, Depart, Accuse, Leave, Bad}
use Rattle.bhs_model.specs.declared.events.Event.{Event}
use Rattle.bhs_model.specs.declared.events.Event.TheVariants.{Tell, Deliver, Close}
use Rattle.bhs_model.specs.declared.marks.Mark.{Mark}
use Rattle.bhs_model.specs.declared.marks.Kept.{Kept}
use Rattle.bhs_model.specs.Marks.{events_of}
use Rattle.bhs_model.specs.Views.{View, Told, Standing, Outside, Present, Away, Ended, standing, standing_after, used}
use Rattle.bhs_model.specs.Views.{ports, counts}
use Rattle.bhs_model.specs.Replying.{accepts, hears, answer, rep}
use Rattle.bhs_model.specs.Runs.{Position, Before, At, Bound, After, State, run, next, heard, glance, delivered}
use Rattle.bhs_model.specs.Runs.{arrives, is_bound, reply, initial}
use Rattle.bhs_world.specs.Tables.{keeps_next}
use Rattle.bhs_model.specs.Standings.{standing_at}
use Rattle.bhs_world.proofs.ListLemmas.{changed_same}
use Rattle.bhs_model.proofs.LegalLemmas.{all_run}
use Rattle.bhs_world.proofs.GrowthLemmas.{run_from_more, events_more}
use Rattle.bhs_match.specs.Matches.{Play, world_in, state_of}
use Rattle.bhs_shared_match.specs.Tallies.{is_told_by, heard_count, has_ended}
use Rattle.bhs_shared_match.specs.Fitting.{Fits, AreFit}

-- the state after one event more
pub state_more : (play : Play) (kept : Kept) → state_of (record play { log = play.log ++ kept ∷ [] }) ≡ next
    (world_in play) (state_of play) kept.event
state_more play kept = ap (run (world_in play)) (events_more play.log kept)
    ∙ run_from_more (world_in play) initial (events_of play.log) kept.event

-- the count after one event more
pub count_more : (agent : ℕ) (log : List Kept) (one : Kept) → heard_count agent (log ++ one ∷ []) ≡ heard_count agent
    log + (if is_told_by agent one.event then 1 else 0)
count_more agent log one = sum_by_push (λ one. if is_told_by agent one.event then 1 else 0) log one

-- a command that is heard, as its agent's past has it
pub record HeardCommand (play : Play) (agent : ℕ) (command : Command) : Type 0 where
  pub is_heard : heard (world_in play) (state_of play) agent command ≡ true
  pub known : nat_lt agent play.setup.agents ≡ true
  pub open_match : (state_of play).closed ≡ false
  pub free : hears play.setup.quota ((state_of play).past agent) command ≡ true

pub heard_command : (play : Play) (agent : ℕ) (command : Command) → heard (world_in play) (state_of play) agent
    command ≡ true → HeardCommand play agent command
heard_command play agent command is_heard =
    let outer = and_parts (nat_lt agent play.setup.agents) _ is_heard in
    let inner = and_parts (not (state_of play).closed) _ outer.1 in
    record { is_heard = is_heard; known = outer.0; open_match = not-true _ inner.0; free = inner.1 }

-- what a command that is heard is answered
pub reply_heard : (play : Play) (agent : ℕ) (command : Command) → HeardCommand play agent command →
    reply (world_in play) (state_of play) (Tell agent command)
    ≡ Some (answer play.setup.board (standing ((state_of play).past agent)) (ports ((state_of play).past agent)) command
    (glance (world_in play) (state_of play) ((state_of play).position agent) command))
reply_heard play agent command is =
    let state : State = state_of play in
    let view : View = Told (state.past agent) command (glance (world_in play) state (state.position agent) command) in
    let later : (next (world_in play) state (Tell agent command)).past agent ≡ view =
    rw is.is_heard (changed_same state.past agent view) in
    cond-true _ _ _ is.known ∙ cond-false _ _ _ is.open_match ∙ cond-true _ _ _ is.free
    ∙ ap (rep play.setup.board) later

-- its agent's past after it
pub past_heard : (play : Play) (agent : ℕ) (command : Command) → HeardCommand play agent command →
    (next (world_in play) (state_of play) (Tell agent command)).past agent ≡ Told ((state_of play).past agent) command
    (glance (world_in play) (state_of play) ((state_of play).position agent) command)
past_heard play agent command is =
    rw is.is_heard (changed_same (state_of play).past agent
    (Told ((state_of play).past agent) command
    (glance (world_in play) (state_of play) ((state_of play).position agent) command)))

-- ---- commands

fits_after : (quota used heard : ℕ) (b : Bool) → (heard ≡ used + 1) → used + 1 ≤ quota
    → Fits quota (if b then Away else Present) (used + 1) (heard + 1)
fits_after quota used heard true same room = (ap (λ (n : ℕ). n + 1) same, room)
fits_after quota used heard false same room = (ap (λ (n : ℕ). n + 1) same, room)

fits_ended : (quota used heard : ℕ) (b : Bool) → (heard ≡ used + 1) → used + 1 ≤ quota
    → Fits quota (if b then Ended else Present) (used + 1) (heard + 1)
fits_ended quota used heard true same room = omega arith
fits_ended quota used heard false same room = (ap (λ (n : ℕ). n + 1) same, room)

room_for : (used quota : ℕ) → nat_lt used quota ≡ true → used + 1 ≤ quota
room_for used quota room = let below : used < quota = ltb-true used quota room in omega arith

pub fits_told : (quota : ℕ) (now : Standing) (used heard ports : ℕ) (command : Command)
    → accepts now (nat_lt used quota) command ≡ true → Fits quota now used heard →
    Fits quota (standing_after now ports command) (if counts command then used + 1 else used) (heard + 1)
fits_told quota Outside used heard ports Enter free fits = (omega (arith, fits.0, fits.1), omega (arith, fits.1))
fits_told quota Present used heard ports Look free fits = (ap (λ (n : ℕ). n + 1) fits.0, room_for used quota free)
fits_told quota Present used heard ports (Write expect put) free fits =
    (ap (λ (n : ℕ). n + 1) fits.0, room_for used quota free)
fits_told quota Present used heard ports (Depart port) free fits =
    fits_after quota used heard (nat_lt port ports) fits.0 (room_for used quota free)
fits_told quota Present used heard ports (Accuse port) free fits =
    fits_ended quota used heard (nat_lt port ports) fits.0 (room_for used quota free)
fits_told quota Present used heard ports Leave free fits = omega arith
fits_told quota Present used heard ports Bad free fits = (ap (λ (n : ℕ). n + 1) fits.0, room_for used quota free)
fits_told quota Away used heard ports Look free fits = (ap (λ (n : ℕ). n + 1) fits.0, room_for used quota free)
fits_told quota Away used heard ports (Write expect put) free fits =
    (ap (λ (n : ℕ). n + 1) fits.0, room_for used quota free)
fits_told quota Away used heard ports (Depart port) free fits = (ap (λ (n : ℕ). n + 1) fits.0, room_for used quota free)
fits_told quota Away used heard ports (Accuse port) free fits = (ap (λ (n : ℕ). n + 1) fits.0, room_for used quota free)
fits_told quota Away used heard ports Leave free fits = omega arith
fits_told quota Away used heard ports Bad free fits = (ap (λ (n : ℕ). n + 1) fits.0, room_for used quota free)
fits_told quota now used heard ports command free fits = grind arith

-- ---- events

-- what an event makes of the past and the count of an agent keeps them fit, and lets an agent that is not spoken to
-- stand ended or not as it did
pub record StaysFit (quota : ℕ) (view view' : View) (count count' : ℕ) (is_told : Bool) : Type 0 where
  pub fits : Fits quota (standing view) (used view) count → Fits quota (standing view') (used view') count'
  pub ended : is_told ≡ false → has_ended (standing view') ≡ has_ended (standing view)

stays_same : (quota : ℕ) (view view' : View) (count count' : ℕ) (is_told : Bool) → view' ≡ view → count' ≡ count
    → StaysFit quota view view' count count' is_told
stays_same quota view view' count count' is_told same none =
    record {
      fits = λ fits. rw (same, none) fits;
      ended = λ other. ap (λ (view : View). has_ended (standing view)) same;
    }

pub arrived_fit : (quota : ℕ) (now : Standing) (used count : ℕ) → now ≡ Away → Fits quota now used count
    → Fits quota Present used count
arrived_fit quota Outside used count is fits = absurd cc
arrived_fit quota Present used count is fits = fits
arrived_fit quota Away used count is fits = fits
arrived_fit quota Ended used count is fits = absurd cc

no_more : (n : ℕ) → n + 0 ≡ n
no_more n = omega arith

delivered_fit : (play : Play) (agent other count : ℕ) (position : Position) → (state_of play).position agent ≡ position
    → is_bound position ≡ true →
    StaysFit play.setup.quota ((state_of play).past other)
    ((delivered (world_in play) (state_of play) agent position).past other) count count false
delivered_fit play agent other count Before on bound = absurd cc
delivered_fit play agent other count (At node came) on bound = absurd cc
delivered_fit play agent other count After on bound = absurd cc
delivered_fit play agent other count (Bound node port) on bound = elim (eqb_tells other agent) [
  | inl h ↦
      let away : standing ((state_of play).past other) ≡ Away =
      (all_run (world_in play) (events_of play.log) other).standing
      ∙ ap (λ (one : ℕ). standing_at ((state_of play).position one)) h.1 ∙ ap standing_at on in
      record {
        fits = λ fits. rw h.0 (arrived_fit play.setup.quota _ _ count (rw h.1 at away) (rw h.1 at fits));
        ended = λ told. rw h.0 (sym (ap has_ended away));
      }
  | inr h ↦ record { fits = λ fits. rw h.0 fits; ended = λ told. rw h.0 refl }
]

pub event_fit : (play : Play) (event : Event) (other : ℕ) → keeps_next (world_in play) play.log event ≡ true →
    StaysFit play.setup.quota ((state_of play).past other) ((next (world_in play) (state_of play) event).past other)
    (heard_count other play.log) (heard_count other play.log + (if is_told_by other event then 1 else 0))
    (is_told_by other event)
event_fit play Close other kept = stays_same _ _ _ _ _ _ refl (no_more _)
event_fit play (Deliver agent) other kept =
    let state : State = state_of play in
    let view : View = state.past other in
    let P : State → Type 0 = λ after. StaysFit play.setup.quota view (after.past other) (heard_count other play.log)
    (heard_count other play.log + 0) false in
    cond_both (arrives (world_in play) state agent)
    (delivered (world_in play) state agent (state.position agent)) state P
    (λ arrival.
    let bound = (and_parts (is_bound (state.position agent)) _ (and_parts (not state.closed) _ arrival).1).0 in
    rw (no_more (heard_count other play.log))
    (delivered_fit play agent other (heard_count other play.log) (state.position agent) refl bound))
    (λ none. stays_same _ _ _ _ _ _ refl (no_more _))
event_fit play (Tell agent command) other kept =
    let state : State = state_of play in
    let is : HeardCommand play agent command = heard_command play agent command kept in
    let view : View = state.past agent in
    rw is.is_heard (elim (eqb_tells other agent) [
      | inl h ↦ record {
        fits = λ fits. rw (h.0, h.1) (fits_told play.setup.quota (standing view) (used view)
            (heard_count agent play.log) (ports view) command is.free (rw h.1 at fits));
        ended = λ none. absurd (not_both (sym h.0 ∙ none));
      }
      | inr h ↦ rw (h.0, no_more (heard_count other play.log)) (record { fits = λ fits. fits; ended = λ none. refl })
    ])
  where
    not_both : true ≡ false → ⊥
    not_both h = cc

-- counts stay fit over an event that is kept
pub fit_more : (play : Play) (event : Event) (mark : Option Mark) → keeps_next (world_in play) play.log event ≡ true
    → AreFit play → AreFit (record play { log = play.log ++ record { event = event; mark = mark } ∷ [] })
fit_more play event mark kept fit agent =
    let one : Kept = record { event = event; mark = mark } in
    rw (state_more play one, count_more agent play.log one) ((event_fit play event agent kept).fits (fit agent))
