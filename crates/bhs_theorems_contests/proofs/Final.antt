-- The verdict on a match whose log a schedule comes to.
use Rattle.std.proofs.Common.{ℕ, ◌≡◌, ◌∙◌, ◌⊎◌, Bool, true, false, not, Option, Some, None, List}
use Rattle.std.proofs.Common.{[], ◌∷◌, nat_lt, refl, sym, ap}
use Rattle.std.proofs.Common.{inl, inr, subst, count_by, if◌then◌else◌}
use Rattle.std.specs.List.{range_with_len}
use Rattle.std.specs.Prelude.{◌≢◌}
use Rattle.std.proofs.lemmas.Bool.{true≢false, false≢true, cond_both, ltb-true, not-true}
use Rattle.bhs_model.specs.declared.events.Event.{Event}
use Rattle.bhs_model.specs.declared.events.Event.TheVariants.{Deliver, Close}
use Rattle.bhs_model.specs.Views.{View, Outside, Present, Away, Ended, standing}
use Rattle.bhs_model.specs.Standings.{standing_at}
use Rattle.bhs_model.specs.Worlds.{World}
use Rattle.bhs_model.specs.Runs.{State, Position, Before, At, Bound, After, is_doomed, run}
use Rattle.bhs_model.specs.Kept.{lost}
use Rattle.bhs_model.specs.Draws.{Held}
use Rattle.bhs_model.proofs.LegalLemmas.{all_run, either}
use Rattle.bhs_referee.specs.declared.verdicts.Verdict.{Verdict}
use Rattle.bhs_referee.specs.Findings.{Findings, findings}
use Rattle.bhs_referee.specs.declared.verdicts.Outcome.TheVariants.{Solved, Unfinished, Silent, Wrong}
use Rattle.bhs_referee.specs.Verdicts.{outcome_of, passes, accuses, is_right, is_silent, is_unfinished}
use Rattle.bhs_referee.specs.Verdicts.{is_over_dark, first_unreached, guess_or_solved}
use Rattle.bhs_referee.specs.Rest.{verdict_after, AreDone}
use Rattle.bhs_referee.proofs.RestLemmas.{verdicts_stand_lemma}
use Rattle.bhs_schedules.specs.declared.answers.Step.{Step}
use Rattle.bhs_schedules.specs.Schedules.{Trial, Scene, position_of, Action, Makes, Rests, action_at, under}
use Rattle.bhs_schedules.specs.Schedules.{is_move, IsAtRest, verdict}
use Rattle.bhs_schedules.specs.Everywhere.{IsSolvedWithin, EveryScheduleSolves}
use Rattle.bhs_schedules.specs.Endings.{EveryScheduleCanRest}
use Rattle.bhs_schedules.proofs.Turns.{run_more, lost_more, found_more}
use Rattle.bhs_schedules.proofs.Losses.{lost_are_doomed, IsScene}
use Rattle.bhs_protocols.specs.Configurations.{Configuration, blank, turns_in}
use Rattle.bhs_protocols.proofs.ConfigurationLemmas.{configurations_follow}
use Rattle.bhs_protocols.proofs.LastWordLemmas.{right_after}
use Rattle.bhs_model.proofs.SameDoomLemmas.{range_out}
use Rattle.bhs_theorems_contests.proofs.Reached.{IsReached, state_is, lost_is, found_is}

-- who is done in some events is done in others with the same past and the same lost agents
done_same : (world : World) (one two : List Event) → run world two ≡ run world one → lost world two ≡ lost world one
    → AreDone world one → AreDone world two
done_same world one two same same_lost done agent within = elim (done agent within) [
  | inl ended ↦ inl (ap (λ (s : State). standing (s.past agent)) same ∙ ended)
  | inr is ↦ inr (ap (λ (marks : ℕ → Bool). marks agent) same_lost ∙ is)
]

-- an agent that is done cannot move
done_at : (world : World) (held : Held) (wakeups woken agent : ℕ) (step : Step) (position : Position)
    → (standing_at position ≡ Ended) ⊎ (is_doomed world position ≡ true)
    → is_move world position (action_at held wakeups position woken step agent) ≡ false
done_at world held wakeups woken agent step Before (inl ended) = absurd (apart ended)
  where
    apart : Outside ≡ Ended → ⊥
    apart e = cc
done_at world held wakeups woken agent step Before (inr destroyers) = absurd (false≢true destroyers)
done_at world held wakeups woken agent step (At node came) (inl ended) = absurd (apart ended)
  where
    apart : Present ≡ Ended → ⊥
    apart e = cc
done_at world held wakeups woken agent step (At node came) (inr destroyers) = absurd (false≢true destroyers)
done_at world held wakeups woken agent step (Bound node port) (inl ended) = absurd (apart ended)
  where
    apart : Away ≡ Ended → ⊥
    apart e = cc
done_at world held wakeups woken agent step (Bound node port) (inr destroyers) =
    either (λ (it : Action). is_move world (Bound node port) it ≡ false) (held node port) Rests (Makes (Deliver agent))
    refl (ap not destroyers)
done_at world held wakeups woken agent step After done = refl

at_rest : (trial : Trial) (schedule : List ℕ) (scene : Scene) → under trial schedule ≡ scene
    → AreDone trial.world scene.events → IsAtRest trial scene
at_rest trial schedule scene is done agent =
    cond_both (nat_lt agent trial.world.agents) _ Rests
    (λ (it : Action). is_move trial.world (position_of trial scene agent) it ≡ false)
    (λ within. done_at trial.world trial.held trial.wakeups (scene.woken agent) agent
    (trial.strategies agent (scene.history agent)) (position_of trial scene agent)
    (elim (done agent (ltb-true agent trial.world.agents within)) [
      | inl ended ↦ inl (sym (all_run trial.world scene.events agent).standing ∙ ended)
      | inr is ↦ inr ((subst (IsScene trial) is_scene (lost_are_doomed trial schedule)).doomed agent is)
    ]))
    (λ beyond. rests_still (position_of trial scene agent))
  where
    is_scene : under trial schedule ≡ scene
    is_scene = is

    rests_still : (position : Position) → is_move trial.world position Rests ≡ false
    rests_still position = refl

-- the verdict by how a match stands, what is found and who is lost
abbrev verdict_by : World → State → Findings → (ℕ → Bool) → Verdict
verdict_by world state found marks = record {
  outcome = outcome_of world state.position found;
  moves = found.moves;
  lost = count_by marks (range_with_len 0 world.agents);
}

same_after : (world : World) (one two : List Event) → run world one ≡ run world two → findings world one
    ≡ findings world two → lost world one ≡ lost world two → verdict_after world one ≡ verdict_after world two
same_after world one two same found marks i = verdict_by world (same i) (found i) (marks i)

pub judged : (trial : Trial) (moves most_lost : ℕ) → EveryScheduleSolves trial moves most_lost → (whole : List Event)
    → AreDone trial.world whole → IsReached trial whole
    → IsSolvedWithin moves most_lost (verdict_after trial.world whole)
judged trial moves most_lost solves whole done r =
    let world : World = trial.world in
    let front : List Event = r.front in
    let scene : Scene = under trial r.schedule in
    let same : (run world front).past ≡ (run world whole).past = elim r.end [
      | inl is ↦ sym (ap (λ (events : List Event). (run world events).past) is)
      | inr is ↦ sym (ap (λ (events : List Event). (run world events).past) is
          ∙ ap (λ (s : State). s.past) (run_more world front Close))
    ] in
    let same_lost : lost world front ≡ lost world whole = elim r.end [
      | inl is ↦ sym (ap (lost world) is)
      | inr is ↦ sym (ap (lost world) is ∙ lost_more world front Close)
    ] in
    let done_front : AreDone world front = λ agent within. elim (done agent within) [
      | inl ended ↦ inl (ap (λ (pasts : ℕ → View). standing (pasts agent)) same ∙ ended)
      | inr is ↦ inr (ap (λ (marks : ℕ → Bool). marks agent) same_lost ∙ is)
    ] in
    let done_scene : AreDone world scene.events =
    done_same world front scene.events (state_is trial whole r) (lost_is trial whole r) done_front in
    let there : verdict_after world whole ≡ verdict_after world front = elim r.end [
      | inl is ↦ ap (verdict_after world) is
      | inr is ↦ ap (verdict_after world) is ∙ verdicts_stand_lemma world front (Close ∷ []) done_front
    ] in
    let here : verdict_after world scene.events ≡ verdict_after world front =
    same_after world scene.events front (state_is trial whole r) (found_is trial whole r) (lost_is trial whole r) in
    let closed : verdict trial scene ≡ verdict_after world scene.events =
    verdicts_stand_lemma world scene.events (Close ∷ []) done_scene in
    subst (IsSolvedWithin moves most_lost) (closed ∙ here ∙ sym there)
    (solves r.schedule (at_rest trial r.schedule scene refl done_scene))

-- ---- no accusation is wrong

wrong_by : (wrong silent unfinished dark : Bool) (guess : Option ℕ)
    → (if wrong then Wrong else (if silent then Silent else (if unfinished then Unfinished
    else (if dark then guess_or_solved guess else Solved)))) ≡ Wrong → wrong ≡ true
wrong_by true silent unfinished dark guess is = refl
wrong_by false true unfinished dark guess is = absurd (cc)
wrong_by false false true dark guess is = absurd (cc)
wrong_by false false false true (Some node) is = absurd (cc)
wrong_by false false false true None is = absurd (cc)
wrong_by false false false false guess is = absurd (cc)

-- whoever has accused this link is wrong
record IsWrongly (world : World) (accused : Option (ℕ × ℕ)) : Type 0 where
  link : ℕ × ℕ
  is : accused ≡ Some link
  wrong : is_right world link ≡ false

wrongly : (world : World) (accused : Option (ℕ × ℕ)) → passes (λ link. not (is_right world link)) accused ≡ true
    → IsWrongly world accused
wrongly world None is = absurd (false≢true is)
wrongly world (Some link) is = record { link = link; is = refl; wrong = not-true (is_right world link) is }

pub never_wrong : (trial : Trial) (moves most_lost : ℕ) → EveryScheduleSolves trial moves most_lost
    → EveryScheduleCanRest trial → (whole : List Event) → IsReached trial whole
    → (verdict_after trial.world whole).outcome ≢ Wrong
never_wrong trial moves most_lost solves rests whole r wrong =
    let world : World = trial.world in
    let scene : Scene = under trial r.schedule in
    let same : findings world whole ≡ findings world scene.events = elim r.end [
      | inl is ↦ ap (findings world) is ∙ sym (found_is trial whole r)
      | inr is ↦ ap (findings world) is ∙ found_more world r.front Close ∙ sym (found_is trial whole r)
    ] in
    let some = range_out (λ (agent : ℕ). passes (λ link. not (is_right world link))
    ((findings world whole).accused agent)) world.agents
    (wrong_by (accuses world (findings world whole) (λ link. not (is_right world link)))
    (is_silent world (findings world whole)) (is_unfinished world (run world whole).position)
    (accuses world (findings world whole) (λ link. not (is_over_dark world link)))
    (first_unreached world (findings world whole)) wrong) in
    let accusation = wrongly world ((findings world whole).accused some.0) some.2 in
    let there : (turns_in trial blank r.schedule).accused some.0 ≡ Some accusation.link =
    ap (λ (c : Configuration). c.accused some.0) (sym (configurations_follow trial r.schedule))
    ∙ ap (λ (found : Findings). found.accused some.0) (sym same) ∙ accusation.is in
    true≢false (sym (right_after trial r.schedule some.0 accusation.link
    (record { moves = moves; lost = most_lost; solves = solves; rests = rests }) some.1 there) ∙ accusation.wrong)
