-- The past of an agent says what its position does.
use Rattle.std.proofs.Common.{arith, ℕ, ◌≡◌, ◌<◌, true, false, List, [], ◌∷◌, ◌==◌, nat_lt}
use Rattle.std.proofs.lemmas.Bool.{ltb-true}
use Rattle.bhs_model.specs.declared.commands.Command.{Command}
use Rattle.bhs_model.specs.declared.commands.Command.TheVariants.{Enter, Look, Write, Depart, Accuse, Bad}
use Rattle.bhs_model.specs.declared.events.Event.{Event}
use Rattle.bhs_model.specs.declared.events.Event.TheVariants.{Tell, Deliver, Close}
use Rattle.bhs_model.specs.Views.{View}
use Rattle.bhs_model.specs.Worlds.{World}
use Rattle.bhs_model.specs.Laws.{StaysInRange, Fits, PastsFitPositions}
use Rattle.bhs_model.specs.Runs.{Position, Before, At, Bound, After, State, initial, changed, position_after, heard}
use Rattle.bhs_model.specs.Runs.{arrives, delivered, next, run, run_from}
use Rattle.bhs_model.proofs.StepLemmas.{by_cases}
use Rattle.bhs_model.proofs.LegalLemmas.{IsLegal, either, all_run}

-- a position names nodes and ports of the network
abbrev pub InRange : World → Position → Type 0
InRange world (At node came) = node < world.net.nodes
InRange world (Bound node port) = (node < world.net.nodes) × (port < world.net.degree node)
InRange world position = Unit {0}

told_in_range : (world : World) (position : Position) (command : Command) → StaysInRange world → InRange world position
    → InRange world (position_after world position command)
told_in_range world position Enter range placed = range.home
told_in_range world (At node came) Look range placed = placed
told_in_range world (At node came) (Write expect put) range placed = placed
told_in_range world (At node came) (Depart port) range placed =
    by_cases (nat_lt port (world.net.degree node)) _
    (λ (is_port : nat_lt port (world.net.degree node) ≡ true). rw is_port
    (placed, ltb-true port (world.net.degree node) is_port))
    (λ (no_port : nat_lt port (world.net.degree node) ≡ false). rw no_port placed)
told_in_range world (At node came) (Accuse port) range placed =
    either (InRange world) (nat_lt port (world.net.degree node)) After (At node came) tt placed
told_in_range world (At node came) Bad range placed = placed
told_in_range world (Bound node p) Look range placed = placed
told_in_range world (Bound node p) (Write expect put) range placed = placed
told_in_range world (Bound node p) (Depart port) range placed = placed
told_in_range world (Bound node p) (Accuse port) range placed = placed
told_in_range world (Bound node p) Bad range placed = placed
told_in_range world position command range placed = grind arith

abbrev pub AllInRange : World → State → Type 0
AllInRange world state = (agent : ℕ) → InRange world (state.position agent)

-- where one agent's position changes
changed_in_range : (world : World) (state : State) (other : ℕ) (position : Position) → InRange world position
    → AllInRange world state → (agent : ℕ) → InRange world (changed state.position other position agent)
changed_in_range world state other position placed all agent =
    either (InRange world) (agent == other) position (state.position agent) placed (all agent)

arrival_in_range : (world : World) (state : State) (other : ℕ) (position : Position) → StaysInRange world
    → InRange world position → AllInRange world state → AllInRange world (delivered world state other position)
arrival_in_range world state other (Bound node port) range placed all =
    changed_in_range world state other _ (range.far node port placed.0 placed.1) all
arrival_in_range world state other Before range placed all = all
arrival_in_range world state other (At node came) range placed all = all
arrival_in_range world state other After range placed all = all

next_in_range : (world : World) (state : State) (event : Event) → StaysInRange world → AllInRange world state
    → AllInRange world (next world state event)
next_in_range world state (Tell other command) range all =
    either (AllInRange world) (heard world state other command) _ state
    (changed_in_range world state other _
    (told_in_range world (state.position other) command range (all other)) all) all
next_in_range world state (Deliver other) range all =
    either (AllInRange world) (arrives world state other) _ state
    (arrival_in_range world state other (state.position other) range (all other) all) all
next_in_range world state Close range all = all

run_in_range : (world : World) (state : State) (events : List Event) → StaysInRange world → AllInRange world state
    → AllInRange world (run_from world state events)
run_in_range world state [] range all = all
run_in_range world state (event ∷ events) range all =
    run_in_range world (next world state event) events range (next_in_range world state event range all)

-- The agent's view of its standing and its ports agrees with its position.
fits : (world : World) (view : View) (position : Position) → IsLegal world view position → InRange world position
    → Fits world view position
fits world view Before legal placed = legal.standing
fits world view (At node came) legal placed = (legal.standing, legal.ports, placed)
fits world view (Bound node port) legal placed = (legal.standing, placed.0, placed.1)
fits world view After legal placed = legal.standing

pub pasts_fit_positions_lemma : PastsFitPositions
pasts_fit_positions_lemma world events agent range =
    fits world ((run world events).past agent) ((run world events).position agent) (all_run world events agent)
    (run_in_range world initial events range (λ one. tt) agent)
