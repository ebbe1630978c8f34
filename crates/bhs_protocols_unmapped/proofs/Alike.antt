-- A turn changes a configuration by the degrees of the agents' nodes and the targets of their links alone: two networks
-- that agree on these are indistinguishable.
use Rattle.std.proofs.Common.{ℕ, ◌<◌, ◌≡◌, Bool, true, false, ◌||◌, ◌==◌, Option, Some, None}
use Rattle.std.proofs.Common.{refl, sym, ap, ◌∙◌, subst, if◌then◌else◌, nat_lt, inl, inr}
use Rattle.std.specs.Prelude.{◌≢◌}
use Rattle.std.proofs.lemmas.Bool.{cond-true, cond-false, ltb-true, true≢false, eq-eqb}
use Rattle.std.proofs.lemmas.Bool.Decides.{eqb_tells}
use Rattle.bhs_model.specs.declared.commands.Command.{Command}
use Rattle.bhs_model.specs.declared.commands.Command.TheVariants.{Enter, Look, Write, Depart, Accuse, Leave, Bad}
use Rattle.bhs_model.specs.declared.events.Event.TheVariants.{Tell, Deliver, Close}
use Rattle.bhs_model.specs.Worlds.{World, doomed}
use Rattle.bhs_model.specs.Runs.{Position, Before, At, Bound, After, changed, position_after}
use Rattle.bhs_model.specs.Examples.{none_held}
use Rattle.bhs_model.proofs.StepLemmas.{by_cases, changed_same, changed_other}
use Rattle.bhs_model.proofs.LegalLemmas.{either}
use Rattle.bhs_schedules.specs.declared.answers.Step.{Step}
use Rattle.bhs_schedules.specs.declared.answers.Step.TheVariants.{Says, Sleeps, Stops, Fails}
use Rattle.bhs_schedules.specs.Strategies.{Strategies}
use Rattle.bhs_schedules.specs.Schedules.{Trial, Action, Makes, Wakes, Rests, action_at}
use Rattle.bhs_protocols.specs.Configurations.{Configuration, deed_in, is_heard, told_at, refused_in, said_in}
use Rattle.bhs_protocols.specs.Configurations.{arrived_in, woken_in}
use Rattle.bhs_protocols.specs.Configurations.{delivered_in, done_in, turn_in}
use Rattle.bhs_protocols.specs.Sizes.{Limits, played_on}

-- the ends that links lead to
abbrev pub Far : Type 0
Far = ℕ → ℕ → ℕ × ℕ

module _ (nodes : ℕ) (degree : ℕ → ℕ) (hole : ℕ) (terms : Limits) (strategies : Strategies) where
  -- a match on the network with these numbers of links and these ends
  abbrev pub over : Far → Trial
  over far = played_on (record { nodes = nodes; degree = degree; far = far }) terms strategies 0 hole

  same_deed : (one two : Far) (configuration : Configuration) (agent : ℕ)
      → ((k node port : ℕ) → configuration.position k ≡ Bound node port → one node port ≡ two node port) → (it : Action)
      → done_in (over one) configuration agent it ≡ done_in (over two) configuration agent it
  same_deed one two configuration agent agree (Makes (Tell other command)) = refl
  same_deed one two configuration agent agree (Makes (Deliver other)) = by_place (configuration.position other) refl
    where
      by_place : (position : Position) → configuration.position other ≡ position →
          delivered_in (over one).world configuration other position
          ≡ delivered_in (over two).world configuration other position
      by_place (Bound node port) at =
          ap (λ (end : ℕ × ℕ). if ((hole == end.0) || false) || false then configuration
          else arrived_in (over one).world configuration other end.0 end.1) (agree other node port at)
      by_place Before at = refl
      by_place (At node came) at = refl
      by_place After at = refl
  same_deed one two configuration agent agree (Makes Close) = refl
  same_deed one two configuration agent agree Wakes = refl
  same_deed one two configuration agent agree Rests = refl

  -- a turn makes the same of a configuration where the links on which agents are lead to the same ends
  pub same_turn : (one two : Far) (configuration : Configuration) (agent : ℕ)
      → ((k node port : ℕ) → configuration.position k ≡ Bound node port → one node port ≡ two node port)
      → turn_in (over one) configuration agent ≡ turn_in (over two) configuration agent
  same_turn one two configuration agent agree =
      same_deed one two configuration agent agree (deed_in (over one) configuration agent)

  -- ---- what becomes of an agent in its turn

  module _ (far : Far) (watched : ℕ) (configuration : Configuration) (agent : ℕ) where
    abbrev world : World
    world = (over far).world

    -- the agent is at this place then, and nobody else's position has changed
    pub record IsTurn (new : Configuration) (place : Position) : Type 0 where
      pub here : new.position agent ≡ place
      pub others : (k : ℕ) → k ≢ agent → new.position k ≡ configuration.position k

    -- It stays where it is, or enters at the home base, or ends, or departs, or arrives. Only an arrival at the watched
    -- node reaches it.
    pub data Kind (new : Configuration) : Type 0 where
      Stays : IsTurn new (configuration.position agent) → new.reached watched ≡ configuration.reached watched
          → Kind new
      Enters : IsTurn new (At 0 None) → new.reached watched ≡ configuration.reached watched
          → ((node port : ℕ) → configuration.position agent ≢ Bound node port) → Kind new
      Ends : IsTurn new After → new.reached watched ≡ configuration.reached watched
          → ((node port : ℕ) → configuration.position agent ≢ Bound node port) → Kind new
      Departs : (node port : ℕ) (came : Option ℕ) → configuration.position agent ≡ At node came → port < degree node
          → IsTurn new (Bound node port) → new.reached watched ≡ configuration.reached watched → Kind new
      Arrives : (node port : ℕ) → configuration.position agent ≡ Bound node port → hole ≢ (far node port).0
          → IsTurn new (At (far node port).0 (Some (far node port).1))
          → (new.reached watched ≡ true → configuration.reached watched ≡ false → watched ≡ (far node port).0)
          → Kind new

    changed_turn : (place : Position) (k : ℕ) → k ≢ agent
        → changed configuration.position agent place k ≡ configuration.position k
    changed_turn place k apart = elim (eqb_tells k agent) [
      | inl h ↦ absurd (apart h.1)
      | inr h ↦ changed_other configuration.position agent k place h.0
    ]

    turn_to : (new : Configuration) (place : Position) → new.position ≡ changed configuration.position agent place
        → IsTurn new place
    turn_to new place is = record {
      here = ap (λ (f : ℕ → Position). f agent) is ∙ changed_same configuration.position agent place;
      others = λ k apart. ap (λ (f : ℕ → Position). f k) is ∙ changed_turn place k apart;
    }

    no_turn : (new : Configuration) → new.position ≡ configuration.position → IsTurn new (configuration.position agent)
    no_turn new is = record {
      here = ap (λ (f : ℕ → Position). f agent) is;
      others = λ k apart. ap (λ (f : ℕ → Position). f k) is;
    }

    told_kind : (place : Position) (command : Command) → configuration.position agent ≡ place
        → ((node port : ℕ) → place ≢ Bound node port) → (new : Configuration)
        → new.position ≡ changed configuration.position agent (position_after world place command)
        → new.reached watched ≡ configuration.reached watched → Kind new
    told_kind place command at free new is reached = by_command place command at free is
      where
        stays : (place : Position) → configuration.position agent ≡ place
            → new.position ≡ changed configuration.position agent place → Kind new
        stays place at is = Stays (subst (IsTurn new) (sym at) (turn_to new place is)) reached

        off : (place : Position) → configuration.position agent ≡ place → ((node port : ℕ) → place ≢ Bound node port)
            → (node port : ℕ) → configuration.position agent ≢ Bound node port
        off place at free node port bound = free node port (sym at ∙ bound)

        by_command : (place : Position) (command : Command) → configuration.position agent ≡ place
            → ((node port : ℕ) → place ≢ Bound node port)
            → new.position ≡ changed configuration.position agent (position_after world place command) → Kind new
        by_command (Bound node port) command at free is = absurd (free node port refl)
        by_command Before Enter at free is = Enters (turn_to new (At 0 None) is) reached (off Before at free)
        by_command Before Look at free is = stays Before at is
        by_command Before (Write expect put) at free is = stays Before at is
        by_command Before (Depart port) at free is = stays Before at is
        by_command Before (Accuse port) at free is = stays Before at is
        by_command Before Leave at free is = Ends (turn_to new After is) reached (off Before at free)
        by_command Before Bad at free is = stays Before at is
        by_command After Enter at free is = Enters (turn_to new (At 0 None) is) reached (off After at free)
        by_command After Look at free is = stays After at is
        by_command After (Write expect put) at free is = stays After at is
        by_command After (Depart port) at free is = stays After at is
        by_command After (Accuse port) at free is = stays After at is
        by_command After Leave at free is = Ends (turn_to new After is) reached (off After at free)
        by_command After Bad at free is = stays After at is
        by_command (At node came) Enter at free is =
            Enters (turn_to new (At 0 None) is) reached (off (At node came) at free)
        by_command (At node came) Look at free is = stays (At node came) at is
        by_command (At node came) (Write expect put) at free is = stays (At node came) at is
        by_command (At node came) (Depart port) at free is = by_cases (nat_lt port (degree node)) (Kind new)
            (λ yes. Departs node port came at (ltb-true port (degree node) yes)
            (turn_to new (Bound node port) (is ∙ ap (changed configuration.position agent)
            (cond-true (nat_lt port (degree node)) (Bound node port) (At node came) yes))) reached)
            (λ none. stays (At node came) at (is ∙ ap (changed configuration.position agent)
            (cond-false (nat_lt port (degree node)) (Bound node port) (At node came) none)))
        by_command (At node came) (Accuse port) at free is = by_cases (nat_lt port (degree node)) (Kind new)
            (λ yes. Ends (turn_to new After (is ∙ ap (changed configuration.position agent)
            (cond-true (nat_lt port (degree node)) After (At node came) yes))) reached (off (At node came) at free))
            (λ none. stays (At node came) at (is ∙ ap (changed configuration.position agent)
            (cond-false (nat_lt port (degree node)) After (At node came) none)))
        by_command (At node came) Leave at free is = Ends (turn_to new After is) reached (off (At node came) at free)
        by_command (At node came) Bad at free is = stays (At node came) at is

    said_kind : (place : Position) (command : Command) → configuration.position agent ≡ place
        → ((node port : ℕ) → place ≢ Bound node port) → Kind (said_in world configuration agent command)
    said_kind place command at free = by_cases (is_heard world configuration agent command)
        (Kind (said_in world configuration agent command))
        (λ yes. subst Kind (sym (cond-true _ (told_at world configuration agent (configuration.position agent) command)
        (refused_in configuration agent command) yes))
        (told_kind place command at free (told_at world configuration agent (configuration.position agent) command)
        (ap (λ (p : Position). changed configuration.position agent (position_after world p command)) at) refl))
        (λ deaf. subst Kind (sym (cond-false _ (told_at world configuration agent
        (configuration.position agent) command)
        (refused_in configuration agent command) deaf))
        (Stays (no_turn (refused_in configuration agent command) refl) refl))

    delivered_kind : (node port : ℕ) → configuration.position agent ≡ Bound node port
        → Kind (delivered_in world configuration agent (Bound node port))
    delivered_kind node port at =
        let there : ℕ = (far node port).0 in
        let label : ℕ = (far node port).1 in
        by_cases (doomed world node port) (Kind (delivered_in world configuration agent (Bound node port)))
        (λ yes. subst Kind (sym (cond-true (doomed world node port) configuration
        (arrived_in world configuration agent there label) yes)) (Stays (no_turn configuration refl) refl))
        (λ none. subst Kind (sym (cond-false (doomed world node port) configuration
        (arrived_in world configuration agent there label) none))
        (Arrives node port at
        (λ same. true≢false (sym (ap (λ (b : Bool). (b || false) || false) (eq-eqb hole there same)) ∙ none))
        (turn_to (arrived_in world configuration agent there label) (At there (Some label)) refl)
        (comes there)))
      where
        comes : (there : ℕ) → changed configuration.reached there true watched ≡ true
            → configuration.reached watched ≡ false → watched ≡ there
        comes there now never = elim (eqb_tells watched there) [
          | inl h ↦ h.1
          | inr h ↦ absurd (true≢false (sym now
              ∙ changed_other configuration.reached there watched true h.0 ∙ never))
        ]

    rests_kind : Kind configuration
    rests_kind = Stays (no_turn configuration refl) refl

    wakes_kind : Kind (woken_in configuration agent)
    wakes_kind = Stays (no_turn (woken_in configuration agent) refl) refl

    free_before : (node port : ℕ) → Before ≢ Bound node port
    free_before node port same = cc

    free_at : (place : ℕ) (came : Option ℕ) (node port : ℕ) → At place came ≢ Bound node port
    free_at place came node port same = cc

    deed_kind : (place : Position) (woken : ℕ) (step : Step) → configuration.position agent ≡ place
        → Kind (done_in (over far) configuration agent (action_at none_held terms.wakeups place woken step agent))
    deed_kind (Bound node port) woken step at =
        subst (λ (p : Position). Kind (delivered_in world configuration agent p)) (sym at) (delivered_kind node port at)
    deed_kind After woken step at = rests_kind
    deed_kind Before woken (Says command) at = said_kind Before command at free_before
    deed_kind Before woken Sleeps at =
        either (λ (d : Action). Kind (done_in (over far) configuration agent d))
        (nat_lt terms.wakeups woken) Rests Wakes
        rests_kind wakes_kind
    deed_kind Before woken Stops at = rests_kind
    deed_kind Before woken Fails at = rests_kind
    deed_kind (At node came) woken (Says command) at = said_kind (At node came) command at (free_at node came)
    deed_kind (At node came) woken Sleeps at =
        either (λ (d : Action). Kind (done_in (over far) configuration agent d))
        (nat_lt terms.wakeups woken) Rests Wakes
        rests_kind wakes_kind
    deed_kind (At node came) woken Stops at = rests_kind
    deed_kind (At node came) woken Fails at = rests_kind

    -- case analysis: the kinds of turn
    pub turn_kind : Kind (turn_in (over far) configuration agent)
    turn_kind = either (λ (d : Action). Kind (done_in (over far) configuration agent d)) (nat_lt agent terms.agents)
        (action_at none_held terms.wakeups (configuration.position agent) (configuration.woken agent)
        (strategies agent (configuration.history agent)) agent) Rests
        (deed_kind (configuration.position agent) (configuration.woken agent) (strategies agent
        (configuration.history agent)) refl) rests_kind
