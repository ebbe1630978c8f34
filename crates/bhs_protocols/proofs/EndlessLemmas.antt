-- Two agents that say Enter for ever use no command and never rest.
use Rattle.std.proofs.Common.{ℕ, ◌≡◌, ◌⊎◌, true, None, List, [], ◌∷◌, refl, sym, ap}
use Rattle.std.proofs.Common.{◌∙◌, subst, nat_lt, arith, inl, inr}
use Rattle.std.proofs.lemmas.Bool.{true≢false}
use Rattle.std.proofs.lemmas.Bool.Decides.{eqb_tells}
use Rattle.bhs_model.specs.declared.commands.Command.TheVariants.{Enter}
use Rattle.bhs_model.specs.declared.events.Event.TheVariants.{Tell}
use Rattle.bhs_model.specs.Runs.{Position, Before, At, changed}
use Rattle.bhs_model.specs.Examples.{none_held}
use Rattle.bhs_model.proofs.StepLemmas.{changed_same, changed_other}
use Rattle.bhs_model.proofs.LegalLemmas.{either}
use Rattle.bhs_schedules.specs.declared.answers.Step.TheVariants.{Says}
use Rattle.bhs_schedules.specs.Schedules.{Action, Makes, Rests, action_at, is_move, under, position_of, can_move}
use Rattle.bhs_schedules.specs.Schedules.{IsAtRest}
use Rattle.bhs_schedules.specs.Everywhere.{OnlyEnters}
use Rattle.bhs_schedules.specs.Spending.{used_in}
use Rattle.bhs_protocols.specs.Configurations.{Configuration, configuration_of, blank, said_in, refused_in}
use Rattle.bhs_protocols.specs.Configurations.{told_in, done_in, is_heard}
use Rattle.bhs_protocols.specs.Configurations.{turn_in, turns_in}
use Rattle.bhs_protocols.specs.Endless.{repeaters, RepeatersSolveAtRest, RepeatersDoNotRest}
use Rattle.bhs_protocols.proofs.ConfigurationLemmas.{configurations_follow}

-- an agent has not entered, or is at the home base
abbrev IsNear : Position → Type 0
IsNear position = (position ≡ Before) ⊎ (position ≡ At 0 None)

-- nobody has left the home base, or used anything
record AreNear (configuration : Configuration) : Type 0 where
  position : (k : ℕ) → IsNear (configuration.position k)
  used : (k : ℕ) → configuration.used k ≡ 0

-- each says Enter, as long as there is such an agent
deed_near : (configuration : Configuration) (k : ℕ) (place : Position) → IsNear place →
    action_at none_held 0 place (configuration.woken k) (Says Enter) k ≡ Makes (Tell k Enter)
deed_near configuration k place near = elim near [
  | inl h ↦ ap (λ (p : Position). action_at none_held 0 p (configuration.woken k) (Says Enter) k) h
  | inr h ↦ ap (λ (p : Position). action_at none_held 0 p (configuration.woken k) (Says Enter) k) h
]

entered_near : (configuration : Configuration) (k j : ℕ) → AreNear configuration
    → IsNear (changed configuration.position k (At 0 None) j)
entered_near configuration k j near = elim (eqb_tells j k) [
  | inl h ↦ inr (ap (changed configuration.position k (At 0 None)) h.1
      ∙ changed_same configuration.position k (At 0 None))
  | inr h ↦ subst IsNear (sym (changed_other configuration.position k j (At 0 None) h.0)) (near.position j)
]

used_near : (configuration : Configuration) (k j : ℕ) → AreNear configuration
    → changed configuration.used k (configuration.used k) j ≡ 0
used_near configuration k j near = elim (eqb_tells j k) [
  | inl h ↦ ap (changed configuration.used k (configuration.used k)) h.1
      ∙ changed_same configuration.used k (configuration.used k) ∙ near.used k
  | inr h ↦ changed_other configuration.used k j (configuration.used k) h.0 ∙ near.used j
]

said_near : (configuration : Configuration) (k : ℕ) → AreNear configuration
    → AreNear (said_in repeaters.world configuration k Enter)
said_near configuration k near =
    either AreNear (is_heard repeaters.world configuration k Enter) (told_in repeaters.world configuration k Enter)
    (refused_in configuration k Enter)
    (record {
      position = λ j. entered_near configuration k j near;
      used = λ j. used_near configuration k j near;
    })
    (record { position = near.position; used = near.used })

turn_near : (configuration : Configuration) (k : ℕ) → AreNear configuration
    → AreNear (turn_in repeaters configuration k)
turn_near configuration k near =
    either (λ (it : Action). AreNear (done_in repeaters configuration k it)) (nat_lt k 2)
    (action_at none_held 0 (configuration.position k) (configuration.woken k) (Says Enter) k) Rests
    (subst (λ (it : Action). AreNear (done_in repeaters configuration k it))
    (sym (deed_near configuration k (configuration.position k) (near.position k))) (said_near configuration k near))
    near

turns_near : (schedule : List ℕ) (configuration : Configuration) → AreNear configuration
    → AreNear (turns_in repeaters configuration schedule)
turns_near [] configuration near = near
turns_near (k ∷ schedule) configuration near =
    turns_near schedule (turn_in repeaters configuration k) (turn_near configuration k near)

near_under : (schedule : List ℕ) → AreNear (configuration_of repeaters (under repeaters schedule))
near_under schedule = subst AreNear (sym (configurations_follow repeaters schedule))
    (turns_near schedule blank (record { position = λ k. inl refl; used = λ k. refl }))

moves_near : (place : Position) (woken : ℕ) → IsNear place
    → is_move repeaters.world place (action_at none_held 0 place woken (Says Enter) 0) ≡ true
moves_near place woken near = elim near [
  | inl h ↦ ap (λ (p : Position). is_move repeaters.world p (action_at none_held 0 p woken (Says Enter) 0)) h
  | inr h ↦ ap (λ (p : Position). is_move repeaters.world p (action_at none_held 0 p woken (Says Enter) 0)) h
]

never_rest : (schedule : List ℕ) → IsAtRest repeaters (under repeaters schedule) → ⊥
never_rest schedule rest =
    let moves : can_move repeaters (under repeaters schedule) 0 ≡ true =
    moves_near (position_of repeaters (under repeaters schedule) 0) ((under repeaters schedule).woken 0)
    ((near_under schedule).position 0) in
    true≢false (sym moves ∙ rest 0)

enters_near : (place : Position) → IsNear place → OnlyEnters place (Says Enter)
enters_near place near = elim near [
  | inl h ↦ subst (λ (p : Position). OnlyEnters p (Says Enter)) (sym h) refl
  | inr h ↦ subst (λ (p : Position). OnlyEnters p (Says Enter)) (sym h) tt
]

pub repeaters_solve : RepeatersSolveAtRest
repeaters_solve = (
  λ schedule rest. absurd (never_rest schedule rest),
  λ schedule k. let none : used_in repeaters (under repeaters schedule) k ≡ 0 = (near_under schedule).used k in
      omega (arith, none),
  record {
    runs = λ schedule k within h. cc;
    enters = λ schedule k within. enters_near (position_of repeaters (under repeaters schedule) k)
        ((near_under schedule).position k);
    over = λ schedule k node port within rest at h. never_rest schedule rest;
    awake = λ schedule k within rest at h. never_rest schedule rest;
  },
)

pub repeaters_never_rest : RepeatersDoNotRest
repeaters_never_rest rests = let more = rests [] in never_rest more.0 more.1
