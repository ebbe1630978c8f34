-- The actions of one agent, and the parts of a state that its events leave unchanged.
use Rattle.std.proofs.Common.{ℕ, ◌≤◌, ◌≡◌, ◌∙◌, ◌==◌, nat_lt, true, false, refl, sym, ap, inl, inr, subst}
use Rattle.std.proofs.lemmas.Bool.{false≢true, cond-false, le-ltb}
use Rattle.std.proofs.lemmas.Bool.Decides.{eqb_tells}
use Rattle.bhs_model.specs.declared.commands.Command.{Command}
use Rattle.bhs_model.specs.declared.events.Event.{Event}
use Rattle.bhs_model.specs.declared.events.Event.TheVariants.{Tell, Deliver, Close}
use Rattle.bhs_model.specs.Worlds.{World}
use Rattle.bhs_model.specs.Runs.{State, Position, Before, At, Bound, After, heard, arrives, told, delivered, next}
use Rattle.bhs_model.specs.Runs.{is_bound}
use Rattle.bhs_model.specs.Draws.{Held, is_held}
use Rattle.bhs_model.proofs.LegalLemmas.{either}
use Rattle.bhs_schedules.specs.declared.answers.Step.{Step}
use Rattle.bhs_schedules.specs.declared.answers.Step.TheVariants.{Says, Sleeps}
use Rattle.bhs_schedules.specs.Schedules.{Makes, Wakes, Rests, action_at}
use Rattle.bhs_attest.specs.Attested.{is_listening}
use Rattle.bhs_attest.proofs.Untouched.{IsUntouched, untouched_told, untouched_deliver}

-- case distinction on whether a number is this agent's
pub by_agent : (P : ℕ → Type 0) (agent other : ℕ) → P agent → ((other == agent) ≡ false → P other) → P other
by_agent P agent other own others = elim (eqb_tells other agent) [
  | inl h ↦ subst P (sym h.1) own
  | inr h ↦ others h.0
]

-- the event is a command or a delivery of this agent
abbrev pub IsFor : (agent : ℕ) → Event → Type 0
IsFor agent (Tell other command) = other ≡ agent
IsFor agent (Deliver other) = other ≡ agent
IsFor agent Close = ⊥

pub untouched_by : (world : World) (state : State) (agent other : ℕ) (event : Event) → IsFor agent event
    → (other == agent) ≡ false → IsUntouched other state (next world state event)
untouched_by world state agent other (Tell speaker command) own apart =
    untouched_told world state speaker other command (ap (λ (k : ℕ). other == k) own ∙ apart)
untouched_by world state agent other (Deliver traveller) own apart =
    untouched_deliver world state traveller other (ap (λ (k : ℕ). other == k) own ∙ apart)
untouched_by world state agent other Close own apart = absurd own

-- no event of an agent closes a match
pub open_by : (world : World) (state : State) (agent : ℕ) (event : Event) → IsFor agent event
    → (next world state event).closed ≡ state.closed
open_by world state agent (Tell speaker command) own =
    either (λ (after : State). after.closed ≡ state.closed) (heard world state speaker command)
    (told world state speaker command) state refl refl
open_by world state agent (Deliver traveller) own =
    either (λ (after : State). after.closed ≡ state.closed) (arrives world state traveller)
    (delivered world state traveller (state.position traveller)) state
    (at (state.position traveller)) refl
  where
    at : (position : Position) → (delivered world state traveller position).closed ≡ state.closed
    at Before = refl
    at (At node came) = refl
    at (Bound node port) = refl
    at After = refl
open_by world state agent Close own = absurd own

-- ---- deeds

pub says_deed : (held : Held) (wakeups : ℕ) (position : Position) (woken : ℕ) (command : Command) (agent : ℕ)
    → is_listening position ≡ true
    → action_at held wakeups position woken (Says command) agent ≡ Makes (Tell agent command)
says_deed held wakeups Before woken command agent listens = refl
says_deed held wakeups (At node came) woken command agent listens = refl
says_deed held wakeups (Bound node port) woken command agent listens = absurd (false≢true listens)
says_deed held wakeups After woken command agent listens = absurd (false≢true listens)

pub wakes_deed : (held : Held) (wakeups : ℕ) (position : Position) (woken : ℕ) (agent : ℕ)
    → is_listening position ≡ true → woken ≤ wakeups → action_at held wakeups position woken Sleeps agent ≡ Wakes
wakes_deed held wakeups Before woken agent listens few =
    cond-false (nat_lt wakeups woken) _ _ (le-ltb wakeups woken few)
wakes_deed held wakeups (At node came) woken agent listens few =
    cond-false (nat_lt wakeups woken) _ _ (le-ltb wakeups woken few)
wakes_deed held wakeups (Bound node port) woken agent listens few = absurd (false≢true listens)
wakes_deed held wakeups After woken agent listens few = absurd (false≢true listens)

pub delivers_deed : (held : Held) (wakeups : ℕ) (position : Position) (woken : ℕ) (step : Step) (agent : ℕ)
    → is_bound position ≡ true → is_held held position ≡ false
    → action_at held wakeups position woken step agent ≡ Makes (Deliver agent)
delivers_deed held wakeups Before woken step agent bound free = absurd (false≢true bound)
delivers_deed held wakeups (At node came) woken step agent bound free = absurd (false≢true bound)
delivers_deed held wakeups (Bound node port) woken step agent bound free =
    cond-false (held node port) Rests (Makes (Deliver agent)) free
delivers_deed held wakeups After woken step agent bound free = absurd (false≢true bound)
