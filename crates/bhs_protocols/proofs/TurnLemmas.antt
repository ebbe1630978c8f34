-- The effect of a turn on a configuration, by the agent's step: a lemma for all commands, one for each command, one for
-- arrivals, and two for waiting agents.
use Rattle.std.proofs.Common.{ℕ, ◌+◌, ◌<◌, ◌≤◌, ◌≡◌, Bool, true, false, ◌==◌, Option, Some, None, List, ◌∷◌, length}
use Rattle.std.proofs.Common.{refl, sym, ap, ◌∙◌, subst, if◌then◌else◌, nat_lt, inl, inr, arith}
use Rattle.std.specs.Prelude.{bytes_eq}
use Rattle.std.proofs.lemmas.Bool.{lt-ltb, le-leb, le-ltb, cond-true, cond-false}
use Rattle.std.proofs.lemmas.Bool.Decides.{eqb_tells}
use Rattle.bhs_model.specs.declared.commands.Command.{Command}
use Rattle.bhs_model.specs.declared.commands.Command.TheVariants.{Enter, Look, Write, Depart, Accuse, Leave}
use Rattle.bhs_model.specs.declared.events.Event.TheVariants.{Tell, Deliver}
use Rattle.bhs_model.specs.declared.replies.Reply.{Reply}
use Rattle.bhs_model.specs.declared.replies.Reply.TheVariants.{Here, Written, Changed, Gone, Noted, Bye, Over}
use Rattle.bhs_model.specs.declared.replies.Reply.TheVariants.{No}
use Rattle.bhs_model.specs.declared.replies.Why.TheVariants as whys
use Rattle.bhs_model.specs.Replying.{accepts}
use Rattle.bhs_model.specs.Standings.{standing_at}
use Rattle.bhs_model.specs.Worlds.{doomed}
use Rattle.bhs_model.specs.Runs.{Position, Before, At, Bound, After, changed, position_after}
use Rattle.bhs_model.specs.Views.{counts}
use Rattle.bhs_model.proofs.StepLemmas.{changed_same, changed_other}
use Rattle.bhs_referee.specs.Findings.{accused_by, moves_by}
use Rattle.bhs_schedules.specs.declared.answers.Step.{Step}
use Rattle.bhs_schedules.specs.declared.answers.Step.TheVariants.{Says, Sleeps}
use Rattle.bhs_schedules.specs.Strategies.{Observation, Heard}
use Rattle.bhs_schedules.specs.Schedules.{Trial, Makes, Rests, action_at}
use Rattle.bhs_protocols.specs.Configurations.{Configuration, deed_in, is_heard, answer_at, shown_after, told_at}
use Rattle.bhs_protocols.specs.Configurations.{arrived_in, delivered_in, woken_in, done_in, turn_in}

-- What a turn of an agent makes of a configuration: where the agent is then, what it has heard, what it has used and
-- whom it has accused, how many moves were made, what whiteboards show and which nodes were reached. Nothing else
-- changes.
pub record Becomes (old new : Configuration) (agent : ℕ) (there : Position) (item : Observation) (cost moved : ℕ)
    (accusation : Option (ℕ × ℕ)) (showing : ℕ → List ℕ) (seen : ℕ → Bool) : Type 0 where
  pub place : new.position agent ≡ there
  pub news : new.history agent ≡ item ∷ old.history agent
  pub used : new.used agent ≡ old.used agent + cost
  pub accused : new.accused agent ≡ accusation
  pub moves : new.moves ≡ old.moves + moved
  pub shown : new.shown ≡ showing
  pub reached : new.reached ≡ seen
  pub other_place : (k : ℕ) → (k == agent) ≡ false → new.position k ≡ old.position k
  pub other_news : (k : ℕ) → (k == agent) ≡ false → new.history k ≡ old.history k
  pub other_used : (k : ℕ) → (k == agent) ≡ false → new.used k ≡ old.used k
  pub other_accused : (k : ℕ) → (k == agent) ≡ false → new.accused k ≡ old.accused k

module _ (trial : Trial) (configuration : Configuration) (agent : ℕ) (within : agent < trial.world.agents) where
  within_true : nat_lt agent trial.world.agents ≡ true
  within_true = lt-ltb agent trial.world.agents within

  -- the action of an agent at a node
  acts : (node : ℕ) (came : Option ℕ) (step : Step) → configuration.position agent ≡ At node came
      → trial.strategies agent (configuration.history agent) ≡ step
      → deed_in trial configuration agent
      ≡ action_at trial.held trial.wakeups (At node came) (configuration.woken agent) step agent
  acts node came step at says i = if within_true i
      then action_at trial.held trial.wakeups (at i) (configuration.woken agent) (says i) agent else Rests

  -- a turn of an agent is the command that its strategy says
  pub said : (place : Position) (command : Command) → configuration.position agent ≡ place
      → action_at trial.held trial.wakeups place (configuration.woken agent) (Says command) agent
      ≡ Makes (Tell agent command)
      → trial.strategies agent (configuration.history agent) ≡ Says command
      → accepts (standing_at place) (nat_lt (configuration.used agent) trial.world.quota) command ≡ true
      → turn_in trial configuration agent ≡ told_at trial.world configuration agent place command
  said place command at makes says hears =
      let it : deed_in trial configuration agent ≡ Makes (Tell agent command) =
      (λ i. if within_true i then action_at trial.held trial.wakeups (at i) (configuration.woken agent)
      (says i) agent else Rests)
      ∙ makes in
      let is : is_heard trial.world configuration agent command ≡ true =
      ap (λ (p : Position). accepts (standing_at p) (nat_lt (configuration.used agent) trial.world.quota) command) at
      ∙ hears in
      ap (done_in trial configuration agent) it ∙ cond-true _ _ _ is
      ∙ ap (λ (p : Position). told_at trial.world configuration agent p command) at

  -- what a command that is heard makes of a configuration
  pub told : (place : Position) (command : Command) → configuration.position agent ≡ place
      → action_at trial.held trial.wakeups place (configuration.woken agent) (Says command) agent
      ≡ Makes (Tell agent command)
      → trial.strategies agent (configuration.history agent) ≡ Says command
      → accepts (standing_at place) (nat_lt (configuration.used agent) trial.world.quota) command ≡ true →
      Becomes configuration (turn_in trial configuration agent) agent (position_after trial.world place command)
      (Heard (answer_at trial.world configuration.shown place command)) (if counts command then 1 else 0)
      (moves_by (Some (answer_at trial.world configuration.shown place command)) 0)
      (accused_by (Some (answer_at trial.world configuration.shown place command)) command place
      (configuration.accused agent))
      (shown_after trial.world.board configuration.shown place command) configuration.reached
  told place command at makes says hears =
      let answer : Reply = answer_at trial.world configuration.shown place command in
      subst (λ (new : Configuration). Becomes configuration new agent (position_after trial.world place command)
      (Heard answer) (if counts command then 1 else 0) (moves_by (Some answer) 0)
      (accused_by (Some answer) command place (configuration.accused agent))
      (shown_after trial.world.board configuration.shown place command) configuration.reached)
      (sym (said place command at makes says hears)) (record {
        place = changed_same configuration.position agent _;
        news = changed_same configuration.history agent _;
        used = changed_same configuration.used agent _ ∙ paid (counts command) (configuration.used agent);
        accused = changed_same configuration.accused agent _;
        moves = moved answer configuration.moves;
        shown = refl;
        reached = refl;
        other_place = λ k apart. changed_other configuration.position agent k _ apart;
        other_news = λ k apart. changed_other configuration.history agent k _ apart;
        other_used = λ k apart. changed_other configuration.used agent k _ apart;
        other_accused = λ k apart. changed_other configuration.accused agent k _ apart;
      })
    where
      paid : (b : Bool) (n : ℕ) → (if b then n + 1 else n) ≡ n + (if b then 1 else 0)
      paid true n = refl
      paid false n = omega arith

      moved : (reply : Reply) (n : ℕ) → moves_by (Some reply) n ≡ n + moves_by (Some reply) 0
      moved Gone n = refl
      moved (Here ports came board) n = omega arith
      moved Written n = omega arith
      moved (Changed board) n = omega arith
      moved Noted n = omega arith
      moved Bye n = omega arith
      moved Over n = omega arith
      moved (No why) n = omega arith

  pub enters : configuration.position agent ≡ Before
      → trial.strategies agent (configuration.history agent) ≡ Says Enter →
      Becomes configuration (turn_in trial configuration agent) agent (At trial.world.home None)
      (Heard (Here (trial.world.net.degree trial.world.home) None (configuration.shown trial.world.home))) 0 0
      (configuration.accused agent) configuration.shown configuration.reached
  enters at says = told Before Enter at refl says refl

  pub looks : (node : ℕ) (came : Option ℕ) → configuration.position agent ≡ At node came
      → trial.strategies agent (configuration.history agent) ≡ Says Look
      → configuration.used agent < trial.world.quota →
      Becomes configuration (turn_in trial configuration agent) agent (At node came)
      (Heard (Here (trial.world.net.degree node) came (configuration.shown node))) 1 0
      (configuration.accused agent) configuration.shown configuration.reached
  looks node came at says room =
      told (At node came) Look at refl says (lt-ltb (configuration.used agent) trial.world.quota room)

  pub leaves : (node : ℕ) (came : Option ℕ) → configuration.position agent ≡ At node came
      → trial.strategies agent (configuration.history agent) ≡ Says Leave →
      Becomes configuration (turn_in trial configuration agent) agent After (Heard Bye) 0 0
      (configuration.accused agent) configuration.shown configuration.reached
  leaves node came at says = told (At node came) Leave at refl says refl

  pub departs : (node port : ℕ) (came : Option ℕ) → configuration.position agent ≡ At node came
      → trial.strategies agent (configuration.history agent) ≡ Says (Depart port)
      → configuration.used agent < trial.world.quota
      → port < trial.world.net.degree node →
      Becomes configuration (turn_in trial configuration agent) agent (Bound node port) (Heard Gone) 1 1
      (configuration.accused agent) configuration.shown configuration.reached
  departs node port came at says room there = subst (λ (fits : Bool). Becomes configuration
      (turn_in trial configuration agent) agent (if fits then Bound node port else At node came)
      (Heard (if fits then Gone else No whys.Port)) 1 (moves_by (Some (if fits then Gone else No whys.Port)) 0)
      (accused_by (Some (if fits then Gone else No whys.Port)) (Depart port) (At node came)
      (configuration.accused agent)) configuration.shown configuration.reached)
      (lt-ltb port (trial.world.net.degree node) there)
      (told (At node came) (Depart port) at refl says (lt-ltb (configuration.used agent) trial.world.quota room))

  pub accuses : (node port : ℕ) (came : Option ℕ) → configuration.position agent ≡ At node came
      → trial.strategies agent (configuration.history agent) ≡ Says (Accuse port)
      → configuration.used agent < trial.world.quota
      → port < trial.world.net.degree node →
      Becomes configuration (turn_in trial configuration agent) agent After (Heard Noted) 1 0 (Some (node, port))
      configuration.shown configuration.reached
  accuses node port came at says room there = subst (λ (fits : Bool). Becomes configuration
      (turn_in trial configuration agent) agent (if fits then After else At node came)
      (Heard (if fits then Noted else No whys.Port)) 1 (moves_by (Some (if fits then Noted else No whys.Port)) 0)
      (accused_by (Some (if fits then Noted else No whys.Port)) (Accuse port) (At node came)
      (configuration.accused agent)) configuration.shown configuration.reached)
      (lt-ltb port (trial.world.net.degree node) there)
      (told (At node came) (Accuse port) at refl says (lt-ltb (configuration.used agent) trial.world.quota room))

  -- a write of a text that fits, with whether the text that is expected is shown
  written : (same : Bool) (node : ℕ) (came : Option ℕ) (expect put : List ℕ)
      → configuration.position agent ≡ At node came
      → trial.strategies agent (configuration.history agent) ≡ Says (Write expect put)
      → configuration.used agent < trial.world.quota → length put ≤ trial.world.board
      → bytes_eq (configuration.shown node) expect ≡ same →
      Becomes configuration (turn_in trial configuration agent) agent (At node came)
      (Heard (if same then Written else Changed (configuration.shown node))) 1
      (moves_by (Some (if same then Written else Changed (configuration.shown node))) 0)
      (accused_by (Some (if same then Written else Changed (configuration.shown node))) (Write expect put)
      (At node came) (configuration.accused agent))
      (changed configuration.shown node (if same then put else configuration.shown node)) configuration.reached
  written same node came expect put at says room fits is =
      let before : List ℕ = configuration.shown node in
      let reply : Bool → Bool → Reply = λ short alike. if short then (if alike then Written else Changed before)
      else No whys.Long in
      let text : Bool → Bool → List ℕ = λ short alike. if short then (if alike then put else before) else before in
      subst (λ (b : Bool × Bool). Becomes configuration (turn_in trial configuration agent) agent (At node came)
      (Heard (reply b.0 b.1)) 1 (moves_by (Some (reply b.0 b.1)) 0)
      (accused_by (Some (reply b.0 b.1)) (Write expect put) (At node came) (configuration.accused agent))
      (changed configuration.shown node (text b.0 b.1)) configuration.reached)
      (λ i. (le-leb (length put) trial.world.board fits i, is i))
      (told (At node came) (Write expect put) at refl says
      (lt-ltb (configuration.used agent) trial.world.quota room))

  -- the text that is expected is shown
  pub writes : (node : ℕ) (came : Option ℕ) (expect put : List ℕ) → configuration.position agent ≡ At node came
      → trial.strategies agent (configuration.history agent) ≡ Says (Write expect put)
      → configuration.used agent < trial.world.quota → length put ≤ trial.world.board
      → bytes_eq (configuration.shown node) expect ≡ true →
      Becomes configuration (turn_in trial configuration agent) agent (At node came) (Heard Written) 1 0
      (configuration.accused agent) (changed configuration.shown node put) configuration.reached
  writes = written true

  -- another text is shown
  pub writes_not : (node : ℕ) (came : Option ℕ) (expect put : List ℕ) → configuration.position agent ≡ At node came
      → trial.strategies agent (configuration.history agent) ≡ Says (Write expect put)
      → configuration.used agent < trial.world.quota → length put ≤ trial.world.board
      → bytes_eq (configuration.shown node) expect ≡ false →
      Becomes configuration (turn_in trial configuration agent) agent (At node came)
      (Heard (Changed (configuration.shown node))) 1 0 (configuration.accused agent) configuration.shown
      configuration.reached
  writes_not node came expect put at says room fits other = subst (λ (shown : ℕ → List ℕ). Becomes configuration
      (turn_in trial configuration agent) agent (At node came) (Heard (Changed (configuration.shown node))) 1 0
      (configuration.accused agent) shown configuration.reached)
      (λ i k. changed_itself configuration.shown node k i)
      (written false node came expect put at says room fits other)
    where
      changed_itself : {A : Type 0} (f : ℕ → A) (place other : ℕ) → changed f place (f place) other ≡ f other
      changed_itself f place other = elim (eqb_tells other place) [
        | inl h ↦ rw h.0 (ap f (sym h.1))
        | inr h ↦ rw h.0 refl
      ]

  -- an agent that waits at a node wakes though nothing has changed in front of it
  pub wakes : (node : ℕ) (came : Option ℕ) → configuration.position agent ≡ At node came
      → trial.strategies agent (configuration.history agent) ≡ Sleeps → configuration.woken agent ≤ trial.wakeups
      → turn_in trial configuration agent ≡ woken_in configuration agent
  wakes node came at says few = ap (done_in trial configuration agent) (acts node came Sleeps at says
      ∙ cond-false _ _ _ (le-ltb trial.wakeups (configuration.woken agent) few))

  -- or it has woken often enough, and the turn changes nothing
  pub sleeps : (node : ℕ) (came : Option ℕ) → configuration.position agent ≡ At node came
      → trial.strategies agent (configuration.history agent) ≡ Sleeps → trial.wakeups < configuration.woken agent
      → turn_in trial configuration agent ≡ configuration
  sleeps node came at says many = ap (done_in trial configuration agent) (acts node came Sleeps at says
      ∙ cond-true _ _ _ (lt-ltb trial.wakeups (configuration.woken agent) many))

  -- it arrives
  pub arrives : (node port : ℕ) → configuration.position agent ≡ Bound node port → trial.held node port ≡ false
      → doomed trial.world node port ≡ false →
      Becomes configuration (turn_in trial configuration agent) agent
      (At (trial.world.net.far node port).0 (Some (trial.world.net.far node port).1))
      (Heard (Here (trial.world.net.degree (trial.world.net.far node port).0) (Some (trial.world.net.far node port).1)
      (configuration.shown (trial.world.net.far node port).0))) 0 0 (configuration.accused agent) configuration.shown
      (changed configuration.reached (trial.world.net.far node port).0 true)
  arrives node port at free safe =
      let there : ℕ = (trial.world.net.far node port).0 in
      let label : ℕ = (trial.world.net.far node port).1 in
      let it : deed_in trial configuration agent ≡ Makes (Deliver agent) =
      (λ i. if within_true i then action_at trial.held trial.wakeups (at i) (configuration.woken agent)
      (trial.strategies agent (configuration.history agent)) agent else Rests)
      ∙ cond-false _ _ _ free in
      let is : turn_in trial configuration agent ≡ arrived_in trial.world configuration agent there label =
      ap (done_in trial configuration agent) it ∙ ap (delivered_in trial.world configuration agent) at
      ∙ cond-false _ _ _ safe in
      subst (λ (new : Configuration). Becomes configuration new agent (At there (Some label))
      (Heard (Here (trial.world.net.degree there) (Some label) (configuration.shown there))) 0 0
      (configuration.accused agent)
      configuration.shown (changed configuration.reached there true)) (sym is) (record {
        place = changed_same configuration.position agent _;
        news = changed_same configuration.history agent _;
        used = omega arith;
        accused = refl;
        moves = omega arith;
        shown = refl;
        reached = refl;
        other_place = λ k apart. changed_other configuration.position agent k _ apart;
        other_news = λ k apart. changed_other configuration.history agent k _ apart;
        other_used = λ k apart. refl;
        other_accused = λ k apart. refl;
      })
