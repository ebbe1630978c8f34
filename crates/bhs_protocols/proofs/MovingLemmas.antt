-- Whether a turn of an agent moves, by where the agent is and what its strategy says, and whether a strategy fails or
-- sleeps. This does for any search.
use Rattle.std.proofs.Common.{ℕ, ◌<◌, ◌≡◌, Bool, true, false, not, Some, refl, sym, ap, ◌∙◌, subst, if◌then◌else◌}
use Rattle.std.proofs.Common.{inl, inr}
use Rattle.std.specs.Prelude.{◌≢◌}
use Rattle.std.proofs.lemmas.Bool.{lt-ltb, cond-false, true≢false}
use Rattle.std.proofs.lemmas.Bool.Decides.{eqb_tells}
use Rattle.bhs_model.specs.declared.commands.Command.{Command}
use Rattle.bhs_model.specs.declared.events.Event.TheVariants.{Tell}
use Rattle.bhs_model.specs.declared.replies.Reply.TheVariants.{Here}
use Rattle.bhs_model.specs.Worlds.{doomed}
use Rattle.bhs_model.specs.Runs.{Position, At, Bound, After, changed}
use Rattle.bhs_schedules.specs.declared.answers.Step.{Step}
use Rattle.bhs_schedules.specs.declared.answers.Step.TheVariants.{Says, Sleeps, Fails}
use Rattle.bhs_schedules.specs.Strategies.{Heard}
use Rattle.bhs_schedules.specs.Schedules.{Trial, Makes, Rests, action_at, is_move}
use Rattle.bhs_protocols.specs.Configurations.{Configuration, can_move_in, turn_in}
use Rattle.bhs_protocols.proofs.TurnLemmas.{Becomes, arrives}

module _ (trial : Trial) (configuration : Configuration) (agent : ℕ) (within : agent < trial.world.agents) where
  -- who has something to say can move
  pub says_moves : (place : Position) (command : Command) → configuration.position agent ≡ place
      → action_at trial.held trial.wakeups place (configuration.woken agent) (Says command) agent
      ≡ Makes (Tell agent command)
      → trial.strategies agent (configuration.history agent) ≡ Says command
      → can_move_in trial configuration agent ≡ true
  says_moves place command at makes says =
      (λ i. is_move trial.world (at i) (if lt-ltb agent trial.world.agents within i
      then action_at trial.held trial.wakeups (at i) (configuration.woken agent) (says i) agent else Rests))
      ∙ ap (is_move trial.world place) makes

  -- An agent on a link that is not held can move if the link does not destroy.
  pub bound_moves : (node port : ℕ) → configuration.position agent ≡ Bound node port → trial.held node port ≡ false
      → can_move_in trial configuration agent ≡ not (doomed trial.world node port)
  bound_moves node port at free =
      (λ i. is_move trial.world (at i) (if lt-ltb agent trial.world.agents within i
      then action_at trial.held trial.wakeups (at i) (configuration.woken agent)
      (trial.strategies agent (configuration.history agent)) agent else Rests))
      ∙ ap (is_move trial.world (Bound node port)) (cond-false _ _ _ free)

  -- who has accused or left cannot
  pub end_stays : configuration.position agent ≡ After → can_move_in trial configuration agent ≡ false
  end_stays at i =
      is_move trial.world (at i) (if lt-ltb agent trial.world.agents within i
      then action_at trial.held trial.wakeups (at i) (configuration.woken agent)
      (trial.strategies agent (configuration.history agent)) agent else Rests)

  -- what an arrival makes of the configuration, by where the link leads
  pub arrives_at : (node port target label : ℕ) → configuration.position agent ≡ Bound node port
      → trial.held node port ≡ false → trial.world.net.far node port ≡ (target, label)
      → doomed trial.world node port ≡ false →
      Becomes configuration (turn_in trial configuration agent) agent (At target (Some label))
      (Heard (Here (trial.world.net.degree target) (Some label) (configuration.shown target))) 0 0
      (configuration.accused agent)
      configuration.shown (changed configuration.reached target true)
  arrives_at node port target label at free far safe =
      subst (λ (f : ℕ × ℕ). Becomes configuration (turn_in trial configuration agent) agent (At f.0 (Some f.1))
      (Heard (Here (trial.world.net.degree f.0) (Some f.1) (configuration.shown f.0))) 0 0 (configuration.accused agent)
      configuration.shown (changed configuration.reached f.0 true)) far
      (arrives trial configuration agent within node port at free safe)

-- a node that was reached stays so where another is reached
pub grows_by : (reached : ℕ → Bool) (target k : ℕ) → reached k ≡ true → changed reached target true k ≡ true
grows_by reached target k was = elim (eqb_tells k target) [
  | inl h ↦ rw h.0 refl
  | inr h ↦ rw h.0 was
]

-- ---- steps

-- it neither fails nor sleeps
abbrev pub is_steady : Step → Bool
is_steady Fails = false
is_steady Sleeps = false
is_steady step = true

pub steady_if : (test : Bool) (one other : Step) → is_steady one ≡ true → is_steady other ≡ true
    → is_steady (if test then one else other) ≡ true
steady_if true one other steady steady_too = steady
steady_if false one other steady steady_too = steady_too

pub fails_not : (step : Step) → is_steady step ≡ true → step ≢ Fails
fails_not step steady fails = true≢false (sym steady ∙ ap is_steady fails)

pub sleeps_not : (step : Step) → is_steady step ≡ true → step ≢ Sleeps
sleeps_not step steady sleeps = true≢false (sym steady ∙ ap is_steady sleeps)
