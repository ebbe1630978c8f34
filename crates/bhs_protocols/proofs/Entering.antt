-- An agent that first says Enter has entered before it says anything else.
use Rattle.std.proofs.Common.{ℕ, ◌≡◌, ◌∙◌, true, List, [], ◌∷◌, refl, sym, ap, subst, nat_lt}
use Rattle.std.proofs.Common.{inl, inr, Option, Some}
use Rattle.std.proofs.lemmas.Bool.{cond-true}
use Rattle.std.proofs.lemmas.Bool.Decides.{eqb_tells}
use Rattle.bhs_model.specs.declared.commands.Command.{Command}
use Rattle.bhs_model.specs.declared.commands.Command.TheVariants.{Enter, Look, Write, Depart, Accuse, Leave, Bad}
use Rattle.bhs_model.specs.declared.events.Event.TheVariants.{Deliver}
use Rattle.bhs_model.specs.declared.replies.Reply.TheVariants.{No}
use Rattle.bhs_model.specs.Replying.{accepts, refusal}
use Rattle.bhs_model.specs.Standings.{standing_at}
use Rattle.bhs_model.specs.Worlds.{World, doomed}
use Rattle.bhs_model.specs.Runs.{Position, Before, At, Bound, After, changed, position_after}
use Rattle.bhs_model.proofs.StepLemmas.{changed_same, changed_other}
use Rattle.bhs_model.proofs.LegalLemmas.{either}
use Rattle.bhs_schedules.specs.declared.answers.Step.{Step}
use Rattle.bhs_schedules.specs.declared.answers.Step.TheVariants.{Says, Sleeps, Stops, Fails}
use Rattle.bhs_schedules.specs.Strategies.{Heard, History, Woke}
use Rattle.bhs_schedules.specs.Schedules.{Trial, Action, Makes, Wakes, Rests, action_at, position_of, under}
use Rattle.bhs_schedules.specs.Everywhere.{OnlyEnters, step_after}
use Rattle.bhs_protocols.specs.Configurations.{Configuration, blank, is_heard, told_in}
use Rattle.bhs_protocols.specs.Configurations.{refused_in, said_in, delivered_in, arrived_in, done_in}
use Rattle.bhs_protocols.specs.Configurations.{answer_at, turn_in, turns_in}
use Rattle.bhs_protocols.proofs.ConfigurationLemmas.{configurations_follow}

-- who has not entered has heard nothing
abbrev IsNewAt : Position → History → Type 0
IsNewAt Before history = history ≡ []
IsNewAt position history = Unit {0}

abbrev IsNew : Configuration → (agent : ℕ) → Type 0
IsNew configuration agent = IsNewAt (configuration.position agent) (configuration.history agent)

-- an agent stands somewhere else, and has another history
moved_new : (configuration : Configuration) (agent k : ℕ) (place : Position) (past : History) → IsNewAt place past
    → IsNew configuration k
    → IsNewAt (changed configuration.position agent place k) (changed configuration.history agent past k)
moved_new configuration agent k place past new was = elim (eqb_tells k agent) [
  | inl h ↦ subst (λ (n : ℕ). IsNewAt (changed configuration.position agent place n)
      (changed configuration.history agent past n)) (sym h.1)
      (subst (λ (p : Position). IsNewAt p (changed configuration.history agent past agent))
      (sym (changed_same configuration.position agent place))
      (subst (λ (x : History). IsNewAt place x) (sym (changed_same configuration.history agent past)) new))
  | inr h ↦ subst (λ (p : Position). IsNewAt p (changed configuration.history agent past k))
      (sym (changed_other configuration.position agent k place h.0))
      (subst (λ (x : History). IsNewAt (configuration.position k) x)
      (sym (changed_other configuration.history agent k past h.0)) was)
]

-- an agent has another history
heard_new : (configuration : Configuration) (agent k : ℕ) (past : History)
    → IsNewAt (configuration.position agent) past → IsNew configuration k
    → IsNewAt (configuration.position k) (changed configuration.history agent past k)
heard_new configuration agent k past new was = elim (eqb_tells k agent) [
  | inl h ↦ subst (λ (n : ℕ). IsNewAt (configuration.position n) (changed configuration.history agent past n))
      (sym h.1) (subst (λ (x : History). IsNewAt (configuration.position agent) x)
      (sym (changed_same configuration.history agent past)) new)
  | inr h ↦ subst (λ (x : History). IsNewAt (configuration.position k) x)
      (sym (changed_other configuration.history agent k past h.0)) was
]

-- An agent at a node stays inside the network after a command.
inside_after : (world : World) (node : ℕ) (came : Option ℕ) (command : Command) (past : History)
    → IsNewAt (position_after world (At node came) command) past
inside_after world node came Enter past = tt
inside_after world node came Look past = tt
inside_after world node came (Write expect put) past = tt
inside_after world node came (Depart port) past =
    either (λ (p : Position). IsNewAt p past) (nat_lt port (world.net.degree node)) (Bound node port) (At node came) tt
    tt
inside_after world node came (Accuse port) past =
    either (λ (p : Position). IsNewAt p past) (nat_lt port (world.net.degree node)) After (At node came) tt tt
inside_after world node came Leave past = tt
inside_after world node came Bad past = tt

said_inside : (world : World) (configuration : Configuration) (agent k node : ℕ) (came : Option ℕ) (command : Command)
    → configuration.position agent ≡ At node came → IsNew configuration k
    → IsNew (said_in world configuration agent command) k
said_inside world configuration agent k node came command at was =
    let place : Position = configuration.position agent in
    let told : History = Heard (answer_at world configuration.shown place command) ∷ configuration.history agent in
    let refused : History = Heard (No (refusal (standing_at place) command)) ∷ configuration.history agent in
    either (λ (it : Configuration). IsNew it k) (is_heard world configuration agent command)
    (told_in world configuration agent command) (refused_in configuration agent command)
    (moved_new configuration agent k (position_after world place command) told
    (subst (λ (p : Position). IsNewAt (position_after world p command) told) (sym at)
    (inside_after world node came command told)) was)
    (heard_new configuration agent k refused (subst (λ (p : Position). IsNewAt p refused) (sym at) tt) was)

entered : (world : World) (configuration : Configuration) (agent k : ℕ) → configuration.position agent ≡ Before
    → IsNew configuration k → IsNew (said_in world configuration agent Enter) k
entered world configuration agent k at was =
    let heard : is_heard world configuration agent Enter ≡ true =
    ap (λ (p : Position). accepts (standing_at p) (nat_lt (configuration.used agent) world.quota) Enter) at in
    subst (λ (it : Configuration). IsNew it k) (sym (cond-true (is_heard world configuration agent Enter)
    (told_in world configuration agent Enter) (refused_in configuration agent Enter) heard))
    (moved_new configuration agent k (position_after world (configuration.position agent) Enter) _ tt was)

delivered : (world : World) (configuration : Configuration) (agent k node port : ℕ) → IsNew configuration k
    → IsNew (delivered_in world configuration agent (Bound node port)) k
delivered world configuration agent k node port was =
    either (λ (it : Configuration). IsNew it k) (doomed world node port) configuration
    (arrived_in world configuration agent (world.net.far node port).0 (world.net.far node port).1) was
    (moved_new configuration agent k (At (world.net.far node port).0 (Some (world.net.far node port).1)) _ tt was)

module _ (trial : Trial) (first : (agent : ℕ) → trial.strategies agent [] ≡ Says Enter) where
  -- what an agent does that has heard nothing
  only_first : (agent : ℕ) (past : History) (step : Step) → past ≡ [] → trial.strategies agent past ≡ step
      → Says Enter ≡ step
  only_first agent past step none does = sym (first agent) ∙ ap (trial.strategies agent) (sym none) ∙ does

  own_new : (configuration : Configuration) (agent k : ℕ) (place : Position) (step : Step)
      → configuration.position agent ≡ place → trial.strategies agent (configuration.history agent) ≡ step
      → IsNewAt place (configuration.history agent) → IsNew configuration k
      → IsNew (done_in trial configuration agent
      (action_at trial.held trial.wakeups place (configuration.woken agent) step agent)) k
  own_new configuration agent k Before (Says command) at does none was =
      let is : Says Enter ≡ Says command = only_first agent _ (Says command) none does in
      let enters : Enter ≡ command = cc in
      subst (λ (c : Command). IsNew (said_in trial.world configuration agent c) k) enters
      (entered trial.world configuration agent k at was)
  own_new configuration agent k Before Sleeps at does none was =
      absurd (let is : Says Enter ≡ Sleeps = only_first agent _ Sleeps none does in cc)
  own_new configuration agent k Before Stops at does none was = was
  own_new configuration agent k Before Fails at does none was = was
  own_new configuration agent k (At node came) (Says command) at does none was =
      said_inside trial.world configuration agent k node came command at was
  own_new configuration agent k (At node came) Sleeps at does none was =
      either (λ (it : Action). IsNew (done_in trial configuration agent it) k)
      (nat_lt trial.wakeups (configuration.woken agent)) Rests Wakes was
      (heard_new configuration agent k (Woke ∷ configuration.history agent)
      (subst (λ (p : Position). IsNewAt p (Woke ∷ configuration.history agent)) (sym at) tt) was)
  own_new configuration agent k (At node came) Stops at does none was = was
  own_new configuration agent k (At node came) Fails at does none was = was
  own_new configuration agent k (Bound node port) step at does none was =
      either (λ (it : Action). IsNew (done_in trial configuration agent it) k) (trial.held node port) Rests
      (Makes (Deliver agent)) was
      (subst (λ (p : Position). IsNew (delivered_in trial.world configuration agent p) k) (sym at)
      (delivered trial.world configuration agent k node port was))
  own_new configuration agent k After step at does none was = was

  turn_new : (configuration : Configuration) (agent : ℕ) → ((k : ℕ) → IsNew configuration k)
      → (k : ℕ) → IsNew (turn_in trial configuration agent) k
  turn_new configuration agent were k =
      either (λ (it : Action). IsNew (done_in trial configuration agent it) k) (nat_lt agent trial.world.agents)
      (action_at trial.held trial.wakeups (configuration.position agent) (configuration.woken agent)
      (trial.strategies agent (configuration.history agent)) agent) Rests
      (own_new configuration agent k (configuration.position agent)
      (trial.strategies agent (configuration.history agent)) refl refl (were agent) (were k))
      (were k)

  turns_new : (schedule : List ℕ) (configuration : Configuration) → ((k : ℕ) → IsNew configuration k)
      → (k : ℕ) → IsNew (turns_in trial configuration schedule) k
  turns_new [] configuration were k = were k
  turns_new (agent ∷ schedule) configuration were k =
      turns_new schedule (turn_in trial configuration agent) (turn_new configuration agent were) k

  only_enters : (agent : ℕ) (place : Position) (past : History) → IsNewAt place past
      → OnlyEnters place (trial.strategies agent past)
  only_enters agent Before past none =
      subst (λ (step : Step). OnlyEnters Before step) (only_first agent past _ none refl) refl
  only_enters agent (At node came) past none = tt
  only_enters agent (Bound node port) past none = tt
  only_enters agent After past none = tt

  pub first_enters : (schedule : List ℕ) (agent : ℕ)
      → OnlyEnters (position_of trial (under trial schedule) agent) (step_after trial schedule agent)
  first_enters schedule agent =
      only_enters agent (position_of trial (under trial schedule) agent) ((under trial schedule).history agent)
      (subst (λ (it : Configuration). IsNew it agent) (sym (configurations_follow trial schedule))
      (turns_new schedule blank (λ k. refl) agent))
