-- What a turn costs: a move where the answer is Gone, and a command that counts.
use Rattle.std.proofs.Common.{ℕ, ◌+◌, ◌≡◌, ◌≤◌, Bool, true, false, Option, Some, None, ◌==◌, refl}
use Rattle.std.proofs.Common.{sym, ap}
use Rattle.std.proofs.Common.{◌∙◌, subst, if◌then◌else◌, inl, inr, arith}
use Rattle.std.proofs.lemmas.Bool.Decides.{eqb_tells}
use Rattle.bhs_model.specs.declared.commands.Command.{Command}
use Rattle.bhs_model.specs.declared.events.Event.{Event}
use Rattle.bhs_model.specs.declared.events.Event.TheVariants.{Tell, Deliver}
use Rattle.bhs_model.specs.declared.replies.Reply.{Reply}
use Rattle.bhs_model.specs.declared.replies.Reply.TheVariants.{Here, Written, Changed, Gone, Noted, Bye, Over, No}
use Rattle.bhs_model.specs.Views.{used, counts}
use Rattle.bhs_model.specs.Worlds.{World}
use Rattle.bhs_model.specs.Runs.{Position, Bound, State, heard, told, next, arrives, delivered, reply}
use Rattle.bhs_model.proofs.StepLemmas.{by_cases, next_heard, next_unheard, next_arrived, next_no_arrival}
use Rattle.bhs_referee.specs.Findings.{Findings, moves_by}
use Rattle.bhs_schedules.specs.Schedules.{Trial, Scene, state_of, Makes, Wakes, done}
use Rattle.bhs_schedules.specs.Spending.{moves_in, used_in}
use Rattle.bhs_schedules.specs.Endings.{one_if}
use Rattle.bhs_schedules.proofs.Turns.{run_more, found_more}

abbrev pub used_of : State → (agent : ℕ) → ℕ
used_of state agent = used (state.past agent)

-- how many moves an answer tells of
abbrev pub gone_of : Option Reply → ℕ
gone_of (Some Gone) = 1
gone_of reply = 0

pub moves_said : (answer : Option Reply) (before : ℕ) → moves_by answer before ≡ before + gone_of answer
moves_said None before = omega arith
moves_said (Some Gone) before = refl
moves_said (Some Written) before = omega arith
moves_said (Some Noted) before = omega arith
moves_said (Some Bye) before = omega arith
moves_said (Some Over) before = omega arith
moves_said (Some (No why)) before = omega arith
moves_said (Some (Here ports came board)) before = omega arith
moves_said (Some (Changed board)) before = omega arith

-- what a command costs of each agent's quota, at most
abbrev pub cost_of : (agent : ℕ) → Command → (k : ℕ) → ℕ
cost_of agent command k = if k == agent then one_if (counts command) else 0

counted : (b : Bool) (n : ℕ) → (if b then n + 1 else n) ≤ n + one_if b
counted true n = omega arith
counted false n = omega arith

told_uses : (world : World) (state : State) (agent : ℕ) (command : Command) (k : ℕ)
    → used_of (told world state agent command) k ≤ used_of state k + cost_of agent command k
told_uses world state agent command k = elim (eqb_tells k agent) [
  | inl h ↦ rw (h.0, h.1) (counted (counts command) (used_of state agent))
  | inr h ↦ rw h.0 (omega arith)
]

pub tell_uses : (world : World) (state : State) (agent : ℕ) (command : Command) (k : ℕ)
    → used_of (next world state (Tell agent command)) k ≤ used_of state k + cost_of agent command k
tell_uses world state agent command k =
    by_cases (heard world state agent command)
    (used_of (next world state (Tell agent command)) k ≤ used_of state k + cost_of agent command k)
    (λ it. subst (λ (after : State). used_of after k ≤ used_of state k + cost_of agent command k)
    (sym (next_heard world state agent command it)) (told_uses world state agent command k))
    (λ it. subst (λ (after : State). used_of after k ≤ used_of state k + cost_of agent command k)
    (sym (next_unheard world state agent command it)) (omega arith))

-- what a turn of an agent costs: `gone` moves, and at most `counted` commands of its quota
pub record Spends (trial : Trial) (old new : Scene) (agent gone counted : ℕ) : Type 0 where
  pub moves : moves_in trial new ≡ moves_in trial old + gone
  pub commands : (k : ℕ) → used_in trial new k ≤ used_in trial old k + (if k == agent then counted else 0)

pub tell_spends : (trial : Trial) (scene : Scene) (agent : ℕ) (command : Command) →
    Spends trial scene (done trial scene agent (Makes (Tell agent command))) agent
    (gone_of (reply trial.world (state_of trial scene) (Tell agent command))) (one_if (counts command))
tell_spends trial scene agent command =
    let world : World = trial.world in
    let event : Event = Tell agent command in
    let state : State = state_of trial scene in
    let new : Scene = done trial scene agent (Makes event) in
    let more : state_of trial new ≡ next world state event = run_more world scene.events event in
    record {
      moves = ap (λ (it : Findings). it.moves) (found_more world scene.events event)
          ∙ moves_said (reply world state event) (moves_in trial scene);
      commands = λ k. let after : used_in trial new k ≡ used_of (next world state event) k =
          ap (λ (it : State). used_of it k) more in
          omega (arith, after, tell_uses world state agent command k);
    }

delivered_uses : (world : World) (state : State) (agent k : ℕ) (position : Position)
    → used_of (delivered world state agent position) k ≡ used_of state k
delivered_uses world state agent k (Bound node port) = elim (eqb_tells k agent) [
  | inl h ↦ rw (h.0, h.1) refl
  | inr h ↦ rw h.0 refl
]
delivered_uses world state agent k position = refl

pub deliver_uses : (world : World) (state : State) (agent k : ℕ)
    → used_of (next world state (Deliver agent)) k ≡ used_of state k
deliver_uses world state agent k =
    by_cases (arrives world state agent) (used_of (next world state (Deliver agent)) k ≡ used_of state k)
    (λ it. ap (λ (after : State). used_of after k) (next_arrived world state agent it)
    ∙ delivered_uses world state agent k (state.position agent))
    (λ it. ap (λ (after : State). used_of after k) (next_no_arrival world state agent it))

-- an arrival costs nothing
pub arrival_spends : (trial : Trial) (scene : Scene) (agent counted : ℕ) →
    Spends trial scene (done trial scene agent (Makes (Deliver agent))) agent 0 counted
arrival_spends trial scene agent counted =
    let world : World = trial.world in
    let event : Event = Deliver agent in
    let state : State = state_of trial scene in
    let new : Scene = done trial scene agent (Makes event) in
    let more : state_of trial new ≡ next world state event = run_more world scene.events event in
    let found : moves_in trial new ≡ moves_in trial scene =
    ap (λ (it : Findings). it.moves) (found_more world scene.events event) in
    record {
      moves = omega (arith, found);
      commands = λ k. let after : used_in trial new k ≡ used_of state k =
          ap (λ (it : State). used_of it k) more ∙ deliver_uses world state agent k in
          omega (arith, after);
    }

-- nor does it cost anything to wake
pub wake_spends : (trial : Trial) (scene : Scene) (agent counted : ℕ) →
    Spends trial scene (done trial scene agent Wakes) agent 0 counted
wake_spends trial scene agent counted = record { moves = omega arith; commands = λ k. omega arith }
