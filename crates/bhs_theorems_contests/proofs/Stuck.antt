-- An agent that has stopped at a node stays there, so the match is not solved.
use Rattle.std.proofs.Common.{ℕ, ◌≡◌, ◌<◌, ◌∙◌, Bool, true, false, not, List}
use Rattle.std.proofs.Common.{◌++◌, ◌==◌, nat_lt, refl, sym, ap}
use Rattle.std.proofs.Common.{Option, inl, inr, subst, if◌then◌else◌}
use Rattle.std.proofs.lemmas.Bool.{cond_both}
use Rattle.std.proofs.lemmas.Bool.Decides.{eqb_tells}
use Rattle.bhs_model.specs.declared.events.Event.TheVariants.{Tell, Deliver, Close}
use Rattle.bhs_model.specs.Worlds.{World}
use Rattle.bhs_model.specs.Runs.{State, Position, At}
use Rattle.bhs_model.proofs.StepLemmas.{changed_other}
use Rattle.bhs_model.proofs.SameDoomLemmas.{range_in}
use Rattle.bhs_referee.specs.declared.verdicts.Outcome.{Outcome}
use Rattle.bhs_referee.specs.declared.verdicts.Outcome.TheVariants.{Solved, Unfinished, Silent, Wrong}
use Rattle.bhs_referee.specs.declared.verdicts.Verdict.{Verdict}
use Rattle.bhs_referee.specs.Findings.{Findings, findings}
use Rattle.bhs_referee.specs.Verdicts.{outcome_of, is_present, is_unfinished, accuses, is_right, is_silent}
use Rattle.bhs_referee.specs.Verdicts.{is_over_dark, first_unreached, guess_or_solved}
use Rattle.bhs_schedules.specs.declared.answers.Step.{Step}
use Rattle.bhs_schedules.specs.declared.answers.Step.TheVariants.{Stops}
use Rattle.bhs_schedules.specs.Strategies.{History}
use Rattle.bhs_schedules.specs.Schedules.{Trial, Scene, state_of, position_of, Action, Makes, Wakes, Rests, action_at}
use Rattle.bhs_schedules.specs.Schedules.{deed, done, turn, turns, under, opening}
use Rattle.bhs_schedules.specs.Everywhere.{EveryScheduleSolves}
use Rattle.bhs_schedules.specs.Endings.{EveryScheduleCanRest}
use Rattle.bhs_schedules.proofs.Closed.{IsKept, kept_by_turns}
use Rattle.bhs_schedules.proofs.Turns.{run_more, turns_append, IsOwn, own_deed, verdict_is}
use Rattle.bhs_attest.proofs.Untouched.{untouched_told, untouched_deliver}

pub record HasStopped (trial : Trial) (agent : ℕ) (position : Position) (history : History)
    (scene : Scene) : Type 0 where
  pub is_at : position_of trial scene agent ≡ position
  pub same : scene.history agent ≡ history

-- the property is stable under actions of other agents
pub stays_by : (trial : Trial) (agent : ℕ) (position : Position) (history : History) (scene : Scene) (other : ℕ)
    (it : Action) → (agent == other) ≡ false → IsOwn other it → HasStopped trial agent position history scene
    → HasStopped trial agent position history (done trial scene other it)
stays_by trial agent position history scene other Rests apart own stopped =
    record { is_at = stopped.is_at; same = stopped.same }
stays_by trial agent position history scene other Wakes apart own stopped = record {
  is_at = stopped.is_at;
  same = changed_other scene.history other agent _ apart ∙ stopped.same;
}
stays_by trial agent position history scene other (Makes Close) apart own stopped = absurd own
stays_by trial agent position history scene other (Makes (Tell speaker command)) apart own stopped = record {
  is_at = ap (λ (after : State). after.position agent) (run_more trial.world scene.events (Tell speaker command))
      ∙ (untouched_told trial.world (state_of trial scene) speaker agent command
      (ap (λ (k : ℕ). agent == k) own ∙ apart)).position
      ∙ stopped.is_at;
  same = changed_other scene.history other agent _ apart ∙ stopped.same;
}
stays_by trial agent position history scene other (Makes (Deliver traveller)) apart own stopped = record {
  is_at = ap (λ (after : State). after.position agent) (run_more trial.world scene.events (Deliver traveller))
      ∙ (untouched_deliver trial.world (state_of trial scene) traveller agent
      (ap (λ (k : ℕ). agent == k) own ∙ apart)).position
      ∙ stopped.is_at;
  same = changed_other scene.history other agent _ apart ∙ stopped.same;
}

-- it does nothing itself
stopped_rests : (trial : Trial) (scene : Scene) (agent node : ℕ) (came : Option ℕ) (history : History)
    → trial.strategies agent history ≡ Stops → HasStopped trial agent (At node came) history scene
    → deed trial scene agent ≡ Rests
stopped_rests trial scene agent node came history stops stopped =
    let does : trial.strategies agent (scene.history agent) ≡ Stops =
    ap (trial.strategies agent) stopped.same ∙ stops in
    cond_both (nat_lt agent trial.world.agents) _ Rests (λ (it : Action). it ≡ Rests)
    (λ within. ap (λ (position : Position). action_at trial.held trial.wakeups position (scene.woken agent)
    (trial.strategies agent (scene.history agent)) agent) stopped.is_at
    ∙ ap (λ (step : Step). action_at trial.held trial.wakeups (At node came) (scene.woken agent) step agent) does)
    (λ beyond. refl)

stays : (trial : Trial) (agent node : ℕ) (came : Option ℕ) (history : History)
    → trial.strategies agent history ≡ Stops → IsKept trial (HasStopped trial agent (At node came) history)
stays trial agent node came history stops = record {
  turned = λ scene other stopped. elim (eqb_tells agent other) [
    | inl h ↦ subst (λ (k : ℕ). HasStopped trial agent (At node came) history (turn trial scene k)) h.1
        (subst (λ (it : Action). HasStopped trial agent (At node came) history (done trial scene agent it))
        (sym (stopped_rests trial scene agent node came history stops stopped)) stopped)
    | inr h ↦ stays_by trial agent (At node came) history scene other (deed trial scene other) h.0
        (own_deed trial scene other) stopped
  ];
}

-- ---- and stand at a node when the match is judged

unsolved : (wrong silent unfinished dark : Bool) (guess : Outcome) → unfinished ≡ true
    → (if wrong then Wrong else (if silent then Silent else (if unfinished then Unfinished
    else (if dark then guess else Solved)))) ≡ Solved → ⊥
unsolved true silent unfinished dark guess is solved = absurd (cc)
unsolved false true unfinished dark guess is solved = absurd (cc)
unsolved false false true dark guess is solved = absurd (cc)
unsolved false false false dark guess is solved = absurd (cc)

present_unsolved : (world : World) (position : ℕ → Position) (found : Findings) (agent : ℕ) → agent < world.agents
    → is_present (position agent) ≡ true → outcome_of world position found ≡ Solved → ⊥
present_unsolved world position found agent within present solved =
    unsolved (accuses world found (λ link. not (is_right world link))) (is_silent world found)
    (is_unfinished world position) (accuses world found (λ link. not (is_over_dark world link)))
    (guess_or_solved (first_unreached world found))
    (range_in (λ (k : ℕ). is_present (position k)) world.agents agent within present) solved

-- So under no schedule of a match that each schedule solves has an agent stopped at a node.
pub never_stuck : (trial : Trial) (moves lost : ℕ) → EveryScheduleSolves trial moves lost → EveryScheduleCanRest trial
    → (schedule : List ℕ) (scene : Scene) → under trial schedule ≡ scene → (agent node : ℕ) (came : Option ℕ)
    → agent < trial.world.agents → position_of trial scene agent ≡ At node came
    → trial.strategies agent (scene.history agent) ≡ Stops → ⊥
never_stuck trial moves lost solves rests schedule scene is agent node came within at stops =
    let more = rests schedule in
    let last : Scene = under trial (schedule ++ more.0) in
    let there : turns trial scene more.0 ≡ last =
    ap (λ (from : Scene). turns trial from more.0) (sym is) ∙ sym (turns_append trial opening schedule more.0) in
    let stopped : HasStopped trial agent (At node came) (scene.history agent) last =
    subst (HasStopped trial agent (At node came) (scene.history agent)) there
    (kept_by_turns trial (HasStopped trial agent (At node came) (scene.history agent)) scene more.0
    (stays trial agent node came (scene.history agent) stops) (record { is_at = at; same = refl })) in
    present_unsolved trial.world (state_of trial last).position (findings trial.world last.events) agent within
    (ap is_present stopped.is_at)
    (sym (ap (λ (given : Verdict). given.outcome) (verdict_is trial last))
    ∙ (solves (schedule ++ more.0) more.1).outcome)
