-- A log that a schedule comes to, and what schedule and log have in common.
use Rattle.std.proofs.Common.{ℕ, ◌≡◌, ◌∙◌, ◌⊎◌, List, [], ◌∷◌, ◌++◌, refl, sym, ap, inr}
use Rattle.bhs_model.specs.declared.events.Event.{Event}
use Rattle.bhs_model.specs.declared.events.Event.TheVariants.{Close}
use Rattle.bhs_model.specs.Views.{View}
use Rattle.bhs_model.specs.Runs.{run}
use Rattle.bhs_model.specs.Kept.{kept, lost}
use Rattle.bhs_model.proofs.KeptLemmas.{kept_suffice_lemma}
use Rattle.bhs_referee.specs.Findings.{findings}
use Rattle.bhs_schedules.specs.Schedules.{Trial, Scene, state_of, under}
use Rattle.bhs_attest.specs.Laws.{IsSchedule}
use Rattle.bhs_theorems_contests.proofs.Findings.{findings_kept}
use Rattle.bhs_theorems_contests.proofs.Scenes.{Keeps, IsPlayedTo}

-- the log holds the events that a match keeps of a schedule, perhaps with a Close
pub record IsReached (trial : Trial) (whole : List Event) : Type 0 where
  pub schedule : List ℕ
  pub front : List Event
  pub kept : kept trial.world (under trial schedule).events ≡ front
  pub end : (whole ≡ front) ⊎ (whole ≡ front ++ Close ∷ [])

pub reached_by_schedule : (trial : Trial) (whole : List Event) → IsSchedule trial whole → IsReached trial whole
reached_by_schedule trial whole it =
    record { schedule = it.schedule; front = _; kept = refl; end = inr it.is }

pub reached_by_play : (trial : Trial) (final : ℕ → View) (whole : List Event) → IsPlayedTo trial final whole
    → IsReached trial whole
reached_by_play trial final whole played =
    let k : Keeps trial final played.front = played.keeps in
    record {
      schedule = k.schedule;
      front = played.front;
      kept = ap (λ (scene : Scene). kept trial.world scene.events) k.is ∙ k.kept;
      end = played.end;
    }

module _ (trial : Trial) (whole : List Event) (r : IsReached trial whole) where
  -- the scene after the schedule
  abbrev pub last : Scene
  last = under trial r.schedule

  pub state_is : state_of trial last ≡ run trial.world r.front
  state_is = sym (kept_suffice_lemma trial.world last.events).state ∙ ap (run trial.world) r.kept

  pub lost_is : lost trial.world last.events ≡ lost trial.world r.front
  lost_is = sym (kept_suffice_lemma trial.world last.events).lost ∙ ap (lost trial.world) r.kept

  pub found_is : findings trial.world last.events ≡ findings trial.world r.front
  found_is = sym (findings_kept trial.world last.events) ∙ ap (findings trial.world) r.kept
