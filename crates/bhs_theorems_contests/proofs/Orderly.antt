-- Agents that first say Enter, and wait once they have departed.
use Rattle.std.proofs.Common.{ℕ, ◌<◌, ◌≡◌, ◌∙◌, Bool, true, false, not, Option, Some, List, [], ◌∷◌}
use Rattle.std.proofs.Common.{nat_lt, refl, sym, ap, subst, if◌then◌else◌}
use Rattle.std.proofs.lemmas.Bool.{true≢false, false≢true, cond_both, and_from, lt-ltb}
use Rattle.std.proofs.lemmas.Bool.{ltb-true}
use Rattle.bhs_model.specs.declared.commands.Command.{Command}
use Rattle.bhs_model.specs.declared.commands.Command.TheVariants.{Enter, Look, Write, Depart, Accuse, Leave, Bad}
use Rattle.bhs_model.specs.declared.events.Event.{Event}
use Rattle.bhs_model.specs.declared.events.Event.TheVariants.{Tell, Deliver}
use Rattle.bhs_model.specs.declared.replies.Reply.{Reply}
use Rattle.bhs_model.specs.declared.replies.Reply.TheVariants.{Gone, No}
use Rattle.bhs_model.specs.declared.replies.Why.TheVariants as whys
use Rattle.bhs_model.specs.Views.{View, Nothing, Standing, standing, ports, used}
use Rattle.bhs_model.specs.Replying.{rep, answer, accepts}
use Rattle.bhs_model.specs.Standings.{standing_at}
use Rattle.bhs_model.specs.Worlds.{World}
use Rattle.bhs_model.specs.Runs.{State, Position, Before, At, Bound, After, glance, position_after, heard, arrives}
use Rattle.bhs_model.specs.Runs.{delivered, next, reply}
use Rattle.bhs_model.proofs.StepLemmas.{changed_same, next_heard, next_unheard, next_no_arrival, next_arrived}
use Rattle.bhs_model.proofs.StepLemmas.{answered_by_past, no_arrival_no_reply, by_cases}
use Rattle.bhs_model.proofs.LegalLemmas.{IsLegal, KnowsPorts, all_run, either}
use Rattle.bhs_schedules.specs.declared.answers.Step.{Step}
use Rattle.bhs_schedules.specs.declared.answers.Step.TheVariants.{Says, Sleeps, Stops, Fails}
use Rattle.bhs_schedules.specs.Strategies.{History, Heard, Strategy, hearing}
use Rattle.bhs_schedules.specs.Schedules.{Trial, Scene, state_of, position_of, Action, Makes, Wakes, Rests}
use Rattle.bhs_schedules.specs.Schedules.{action_at, deed, done, turn, under}
use Rattle.bhs_schedules.proofs.Closed.{under_each}
use Rattle.bhs_schedules.proofs.Turns.{run_more, own_deed}
use Rattle.bhs_protocols.proofs.ConfigurationLemmas.{open_turn}
use Rattle.bhs_theorems_isolation.specs.Met.{takes_commands}
use Rattle.bhs_theorems_contests.specs.Contests.{WaitersAreOrderly}
use Rattle.bhs_theorems_contests.proofs.Stuck.{stays_by}
use Rattle.bhs_attest.proofs.Deeds.{by_agent}

-- an agent has departed last, and was told so
record HasDeparted (strategy : Strategy) (history : History) : Type 0 where
  before : History
  port : ℕ
  says : strategy before ≡ Says (Depart port)
  is : history ≡ Heard Gone ∷ before

-- the last observation of an agent at this position
abbrev IsAsAt : Strategy → Position → History → Type 0
IsAsAt strategy Before history = history ≡ []
IsAsAt strategy (At node came) history = Unit {0}
IsAsAt strategy (Bound node port) history = HasDeparted strategy history
IsAsAt strategy After history = Unit {0}

abbrev IsAs : Trial → Scene → (agent : ℕ) → Type 0
IsAs trial scene agent = IsAsAt (trial.strategies agent) (position_of trial scene agent) (scene.history agent)

record AreAs (trial : Trial) (scene : Scene) : Type 0 where
  is_open : (state_of trial scene).closed ≡ false
  each : (agent : ℕ) → IsAs trial scene agent

-- who departs from a node is told Gone
gone_at : (world : World) (state : State) (agent node port : ℕ) (came : Option ℕ)
    → IsLegal world (state.past agent) (state.position agent) → state.position agent ≡ At node came
    → heard world state agent (Depart port) ≡ true → nat_lt port (world.net.degree node) ≡ true
    → reply world state (Tell agent (Depart port)) ≡ Some Gone
gone_at world state agent node port came legal at is_heard below =
    let past : View = state.past agent in
    let knows : KnowsPorts world past (At node came) =
    subst (λ (p : Position). KnowsPorts world past p) at legal.ports in
    answered_by_past world state agent (Depart port) is_heard
    ∙ ap (rep world.board) (changed_same state.past agent _)
    ∙ ap (λ (p : Position). Some (answer world.board (standing past) (ports past) (Depart port)
    (glance world state p (Depart port)))) at
    ∙ ap (λ (s : Standing). Some (answer world.board s (ports past) (Depart port) Nothing))
    (legal.standing ∙ ap standing_at at)
    ∙ ap (λ (b : Bool). Some (if b then Gone else No whys.Port)) (ap (nat_lt port) knows ∙ below)

-- where a command that is heard leaves an agent, and what it hears
told_as : (world : World) (strategy : Strategy) (history : History) (said : Option Reply) (position : Position)
    (command : Command) → takes_commands (standing_at position) ≡ true → (position ≡ Before → command ≡ Enter)
    → strategy history ≡ Says command
    → ((node port : ℕ) (came : Option ℕ) → position ≡ At node came → command ≡ Depart port
    → nat_lt port (world.net.degree node) ≡ true → said ≡ Some Gone)
    → IsAsAt strategy (position_after world position command) (hearing said history)
told_as world strategy history said Before Enter takes first says gone = tt
told_as world strategy history said Before Look takes first says gone = absurd (let no = first refl in cc)
told_as world strategy history said Before (Write expect put) takes first says gone =
    absurd (let no = first refl in cc)
told_as world strategy history said Before (Depart port) takes first says gone = absurd (let no = first refl in cc)
told_as world strategy history said Before (Accuse port) takes first says gone = absurd (let no = first refl in cc)
told_as world strategy history said Before Leave takes first says gone = absurd (let no = first refl in cc)
told_as world strategy history said Before Bad takes first says gone = absurd (let no = first refl in cc)
told_as world strategy history said (At node came) Enter takes first says gone = tt
told_as world strategy history said (At node came) Look takes first says gone = tt
told_as world strategy history said (At node came) (Write expect put) takes first says gone = tt
told_as world strategy history said (At node came) (Depart port) takes first says gone =
    cond_both (nat_lt port (world.net.degree node)) (Bound node port) (At node came)
    (λ (p : Position). IsAsAt strategy p (hearing said history))
    (λ below. record {
      before = history;
      port = port;
      says = says;
      is = ap (λ (r : Option Reply). hearing r history) (gone node port came refl refl below);
    })
    (λ beyond. tt)
told_as world strategy history said (At node came) (Accuse port) takes first says gone =
    either (λ (p : Position). IsAsAt strategy p (hearing said history)) (nat_lt port (world.net.degree node)) After
    (At node came) tt tt
told_as world strategy history said (At node came) Leave takes first says gone = tt
told_as world strategy history said (At node came) Bad takes first says gone = tt
told_as world strategy history said (Bound node back) command takes first says gone = absurd (false≢true takes)
told_as world strategy history said After command takes first says gone = absurd (false≢true takes)

-- whoever has not entered is heard when it enters
unheard_as : (world : World) (state : State) (agent : ℕ) (strategy : Strategy) (history after : History)
    (position : Position) (command : Command) → agent < world.agents → state.closed ≡ false
    → standing (state.past agent) ≡ standing_at position → takes_commands (standing_at position) ≡ true
    → (position ≡ Before → command ≡ Enter) → heard world state agent command ≡ false
    → IsAsAt strategy position after
unheard_as world state agent strategy history after Before command within open_still stands takes first unheard =
    absurd (true≢false (sym (and_from _ _ (lt-ltb agent world.agents within) (and_from _ _ (ap not open_still)
    (ap (λ (s : Standing). accepts s (nat_lt (used (state.past agent)) world.quota) command) stands
    ∙ ap (accepts (standing_at Before) (nat_lt (used (state.past agent)) world.quota)) (first refl)))) ∙ unheard))
unheard_as world state agent strategy history after (At node came) command within open_still stands takes first
    unheard = tt
unheard_as world state agent strategy history after (Bound node port) command within open_still stands takes first
    unheard = absurd (false≢true takes)
unheard_as world state agent strategy history after After command within open_still stands takes first unheard =
    absurd (false≢true takes)

module _ (trial : Trial) (enters : (agent : ℕ) → trial.strategies agent [] ≡ Says Enter) where
  -- ---- an own command

  said_as : (scene : Scene) (agent : ℕ) (position : Position) (command : Command) → agent < trial.world.agents
      → (state_of trial scene).closed ≡ false → position_of trial scene agent ≡ position
      → takes_commands (standing_at position) ≡ true → (position ≡ Before → command ≡ Enter)
      → trial.strategies agent (scene.history agent) ≡ Says command
      → IsAsAt (trial.strategies agent) ((next trial.world (state_of trial scene) (Tell agent command)).position agent)
      (hearing (reply trial.world (state_of trial scene) (Tell agent command)) (scene.history agent))
  said_as scene agent position command within open_still at takes first says =
      let world : World = trial.world in
      let state : State = state_of trial scene in
      let legal : IsLegal world (state.past agent) (state.position agent) = all_run world scene.events agent in
      let said : Option Reply = reply world state (Tell agent command) in
      by_cases (heard world state agent command) (IsAsAt (trial.strategies agent)
      ((next world state (Tell agent command)).position agent) (hearing said (scene.history agent)))
      (λ is_heard.
      let there : (next world state (Tell agent command)).position agent ≡ position_after world position command =
      ap (λ (s : State). s.position agent) (next_heard world state agent command is_heard)
      ∙ changed_same state.position agent _ ∙ ap (λ (p : Position). position_after world p command) at in
      subst (λ (p : Position). IsAsAt (trial.strategies agent) p (hearing said (scene.history agent))) (sym there)
      (told_as world (trial.strategies agent) (scene.history agent) said position command takes first says
      (λ node port came is departs below. ap (λ (c : Command). reply world state (Tell agent c)) departs
      ∙ gone_at world state agent node port came legal (at ∙ is)
      (ap (heard world state agent) (sym departs) ∙ is_heard) below)))
      (λ unheard.
      let there : (next world state (Tell agent command)).position agent ≡ position =
      ap (λ (s : State). s.position agent) (next_unheard world state agent command unheard) ∙ at in
      subst (λ (p : Position). IsAsAt (trial.strategies agent) p (hearing said (scene.history agent))) (sym there)
      (unheard_as world state agent (trial.strategies agent) (scene.history agent) _ position command within open_still
      (legal.standing ∙ ap standing_at at) takes first unheard))

  -- ---- an own delivery

  came_at : (scene : Scene) (agent node port : ℕ) → position_of trial scene agent ≡ Bound node port
      → IsAs trial scene agent
      → IsAsAt (trial.strategies agent) ((next trial.world (state_of trial scene) (Deliver agent)).position agent)
      (hearing (reply trial.world (state_of trial scene) (Deliver agent)) (scene.history agent))
  came_at scene agent node port at as_is =
      let world : World = trial.world in
      let state : State = state_of trial scene in
      by_cases (arrives world state agent) (IsAsAt (trial.strategies agent)
      ((next world state (Deliver agent)).position agent)
      (hearing (reply world state (Deliver agent)) (scene.history agent)))
      (λ arrival.
      let far = world.net.far node port in
      let there : (next world state (Deliver agent)).position agent ≡ At far.0 (Some far.1) =
      ap (λ (s : State). s.position agent) (next_arrived world state agent arrival)
      ∙ ap (λ (p : Position). (delivered world state agent p).position agent) at
      ∙ changed_same state.position agent (At far.0 (Some far.1)) in
      subst (λ (p : Position). IsAsAt (trial.strategies agent) p
      (hearing (reply world state (Deliver agent)) (scene.history agent))) (sym there) tt)
      (λ none. subst (λ (s : State). IsAsAt (trial.strategies agent) (s.position agent)
      (hearing (reply world state (Deliver agent)) (scene.history agent)))
      (sym (next_no_arrival world state agent none))
      (subst (λ (r : Option Reply). IsAsAt (trial.strategies agent) (state.position agent)
      (hearing r (scene.history agent))) (sym (no_arrival_no_reply world state agent none)) as_is))

  -- ---- an own turn

  by_event : (scene : Scene) (agent : ℕ) (event : Event)
      → IsAsAt (trial.strategies agent) ((next trial.world (state_of trial scene) event).position agent)
      (hearing (reply trial.world (state_of trial scene) event) (scene.history agent))
      → IsAs trial (done trial scene agent (Makes event)) agent
  by_event scene agent event as_is =
      subst (λ (s : State). IsAsAt (trial.strategies agent) (s.position agent)
      ((done trial scene agent (Makes event)).history agent)) (sym (run_more trial.world scene.events event))
      (subst (λ (h : History). IsAsAt (trial.strategies agent)
      ((next trial.world (state_of trial scene) event).position agent) h)
      (sym (changed_same scene.history agent _)) as_is)

  not_first : (scene : Scene) (agent : ℕ) (step : Step) → IsAsAt (trial.strategies agent) Before (scene.history agent)
      → trial.strategies agent (scene.history agent) ≡ step → Says Enter ≡ step
  not_first scene agent step as_is does =
      sym (enters agent) ∙ ap (trial.strategies agent) (sym as_is) ∙ does

  own_as : (scene : Scene) (agent : ℕ) (position : Position) (step : Step) → agent < trial.world.agents
      → (state_of trial scene).closed ≡ false → position_of trial scene agent ≡ position
      → trial.strategies agent (scene.history agent) ≡ step → IsAs trial scene agent
      → IsAsAt (trial.strategies agent) position (scene.history agent)
      → IsAs trial (done trial scene agent (action_at trial.held trial.wakeups position (scene.woken agent) step agent))
      agent
  own_as scene agent Before (Says command) within open_still at does same as_is =
      by_event scene agent (Tell agent command) (said_as scene agent Before command within open_still at refl
      (λ is. let one : Says Enter ≡ Says command = not_first scene agent (Says command) as_is does in cc) does)
  own_as scene agent Before Sleeps within open_still at does same as_is =
      absurd (let one : Says Enter ≡ Sleeps = not_first scene agent Sleeps as_is does in cc)
  own_as scene agent Before Stops within open_still at does same as_is = same
  own_as scene agent Before Fails within open_still at does same as_is = same
  own_as scene agent (At node came) (Says command) within open_still at does same as_is =
      by_event scene agent (Tell agent command) (said_as scene agent (At node came) command within open_still at refl
      (λ is. absurd (cc)) does)
  own_as scene agent (At node came) Sleeps within open_still at does same as_is =
      either (λ (it : Action). IsAs trial (done trial scene agent it) agent) (nat_lt trial.wakeups (scene.woken agent))
      Rests Wakes same
      (subst (λ (p : Position). IsAsAt (trial.strategies agent) p ((done trial scene agent Wakes).history agent))
      (sym at) tt)
  own_as scene agent (At node came) Stops within open_still at does same as_is = same
  own_as scene agent (At node came) Fails within open_still at does same as_is = same
  own_as scene agent (Bound node port) step within open_still at does same as_is =
      either (λ (it : Action). IsAs trial (done trial scene agent it) agent) (trial.held node port)
      Rests (Makes (Deliver agent)) same
      (by_event scene agent (Deliver agent) (came_at scene agent node port at same))
  own_as scene agent After step within open_still at does same as_is = same

  -- ---- every turn

  each_turn : (scene : Scene) (mover : ℕ) → AreAs trial scene → AreAs trial (turn trial scene mover)
  each_turn scene mover all = record {
    is_open = open_turn trial scene mover all.is_open;
    each = λ other. by_agent (IsAs trial (turn trial scene mover)) mover other
        (cond_both (nat_lt mover trial.world.agents) _ Rests
        (λ (it : Action). IsAs trial (done trial scene mover it) mover)
        (λ below. own_as scene mover (position_of trial scene mover) _ (ltb-true mover trial.world.agents below)
        all.is_open refl refl (all.each mover) (all.each mover))
        (λ beyond. all.each mover))
        (λ apart.
        let still = stays_by trial other (position_of trial scene other) (scene.history other) scene mover
        (deed trial scene mover) apart (own_deed trial scene mover) (record { is_at = refl; same = refl }) in
        subst (λ (p : Position). IsAsAt (trial.strategies other) p ((turn trial scene mover).history other))
        (sym still.is_at)
        (subst (λ (h : History). IsAsAt (trial.strategies other) (position_of trial scene other) h)
        (sym still.same) (all.each other)));
  }

  all_under : (schedule : List ℕ) → AreAs trial (under trial schedule)
  all_under schedule = under_each trial (AreAs trial) schedule (record { turned = each_turn })
      (record { is_open = refl; each = λ agent. refl })

pub waiters_are_orderly : WaitersAreOrderly
waiters_are_orderly trial enters waits = record {
  silent = λ schedule agent node port within at.
      let scene : Scene = under trial schedule in
      let gone : HasDeparted (trial.strategies agent) (scene.history agent) =
      subst (λ (p : Position). IsAsAt (trial.strategies agent) p (scene.history agent)) at
      ((all_under trial enters schedule).each agent) in
      ap (trial.strategies agent) gone.is ∙ waits agent gone.before gone.port gone.says;
  begins = λ schedule agent within at stops.
      let scene : Scene = under trial schedule in
      let none : scene.history agent ≡ [] =
      subst (λ (p : Position). IsAsAt (trial.strategies agent) p (scene.history agent)) at
      ((all_under trial enters schedule).each agent) in
      let both : Says Enter ≡ Stops = sym (enters agent) ∙ ap (trial.strategies agent) (sym none) ∙ stops in cc;
}
