-- The steps of a past, oldest first, and how pasts grow.
use Rattle.std.proofs.Common.{ℕ, ◌≡◌, ◌∙◌, List, [], ◌∷◌, ◌++◌, refl, sym, ap, inl, inr}
use Rattle.std.proofs.Common.{append_assoc, append-nil}
use Rattle.std.proofs.lemmas.Bool.Decides.{eqb_tells}
use Rattle.bhs_model.specs.declared.events.Event.{Event}
use Rattle.bhs_model.specs.declared.events.Event.TheVariants.{Tell, Deliver, Close}
use Rattle.bhs_model.specs.Views.{View, Start, Told, Arrived}
use Rattle.bhs_model.specs.Worlds.{World}
use Rattle.bhs_model.specs.Runs.{State, Position, Before, At, Bound, After, changed, heard, arrives, told, delivered}
use Rattle.bhs_model.specs.Runs.{next, run_from}
use Rattle.bhs_model.proofs.LegalLemmas.{either}
use Rattle.bhs_theorems_isolation.specs.Met.{Meeting, Hears, Refuses, Arrives, view_from}

abbrev pub steps : View → List Meeting
steps Start = []
steps (Told view command glance) = steps view ++ Hears command glance ∷ []
steps (Arrived view sight) = steps view ++ Arrives sight ∷ []

-- the meetings of a session that enter the agent's past: refused commands do not
abbrev pub steps_met : List Meeting → List Meeting
steps_met [] = []
steps_met (Hears command glance ∷ met) = Hears command glance ∷ steps_met met
steps_met (Refuses command ∷ met) = steps_met met
steps_met (Arrives sight ∷ met) = Arrives sight ∷ steps_met met

pub steps-view_from : (view : View) (met : List Meeting) → steps (view_from view met) ≡ steps view ++ steps_met met
steps-view_from view [] = sym (append-nil (steps view))
steps-view_from view (Hears command glance ∷ met) =
    steps-view_from (Told view command glance) met
    ∙ append_assoc (steps view) (Hears command glance ∷ []) (steps_met met)
steps-view_from view (Refuses command ∷ met) = steps-view_from view met
steps-view_from view (Arrives sight ∷ met) =
    steps-view_from (Arrived view sight) met ∙ append_assoc (steps view) (Arrives sight ∷ []) (steps_met met)

-- ---- pasts grow

pub record Grows (old new : View) : Type 0 where
  pub more : List Meeting
  pub is : steps new ≡ steps old ++ more

pub grows_none : (view : View) → Grows view view
grows_none view = record { more = []; is = sym (append-nil (steps view)) }

pub grows_on : (one two three : View) → Grows one two → Grows two three → Grows one three
grows_on one two three first second = record {
  more = first.more ++ second.more;
  is = second.is ∙ ap (λ (all : List Meeting). all ++ second.more) first.is
      ∙ append_assoc (steps one) first.more second.more;
}

abbrev Grow : State → State → Type 0
Grow old new = (agent : ℕ) → Grows (old.past agent) (new.past agent)

grow_changed : (old : ℕ → View) (agent : ℕ) (new : View) → Grows (old agent) new → (other : ℕ)
    → Grows (old other) (changed old agent new other)
grow_changed old agent new own other = elim (eqb_tells other agent) [
  | inl h ↦ rw h.0 (rw h.1 own)
  | inr h ↦ rw h.0 (grows_none (old other))
]

grow_delivered : (world : World) (state : State) (agent : ℕ) (position : Position)
    → Grow state (delivered world state agent position)
grow_delivered world state agent Before other = grows_none (state.past other)
grow_delivered world state agent (At node came) other = grows_none (state.past other)
grow_delivered world state agent (Bound node port) other =
    grow_changed state.past agent _ (record { more = Arrives _ ∷ []; is = refl }) other
grow_delivered world state agent After other = grows_none (state.past other)

pub grow_next : (world : World) (state : State) (event : Event) → Grow state (next world state event)
grow_next world state (Tell agent command) =
    either (Grow state) (heard world state agent command) (told world state agent command) state
    (λ other. grow_changed state.past agent _ (record { more = Hears command _ ∷ []; is = refl }) other)
    (λ other. grows_none (state.past other))
grow_next world state (Deliver agent) =
    either (Grow state) (arrives world state agent) (delivered world state agent (state.position agent)) state
    (grow_delivered world state agent (state.position agent)) (λ other. grows_none (state.past other))
grow_next world state Close = λ other. grows_none (state.past other)

pub grow_run : (world : World) (state : State) (events : List Event) (agent : ℕ)
    → Grows (state.past agent) ((run_from world state events).past agent)
grow_run world state [] agent = grows_none (state.past agent)
grow_run world state (event ∷ events) agent =
    grows_on (state.past agent) ((next world state event).past agent)
    ((run_from world (next world state event) events).past agent)
    (grow_next world state event agent) (grow_run world (next world state event) events agent)
