-- An agent's view agrees with its position: its standing, and the degree of its node.
use Rattle.std.proofs.Common.{arith, ◌≡◌, ℕ, Bool, true, false, nat_lt, List, [], ◌∷◌, refl, ap, ◌∙◌, inl, inr}
use Rattle.std.proofs.Common.{if◌then◌else◌}
use Rattle.std.proofs.lemmas.Bool.Decides.{eqb_tells}
use Rattle.bhs_model.specs.declared.commands.Command.{Command}
use Rattle.bhs_model.specs.declared.commands.Command.TheVariants.{Depart, Accuse, Bad}
use Rattle.bhs_model.specs.declared.events.Event.{Event}
use Rattle.bhs_model.specs.declared.events.Event.TheVariants.{Tell, Deliver, Close}
use Rattle.bhs_model.specs.Views.{View, Told, Standing, standing, standing_after, ports}
use Rattle.bhs_model.specs.Worlds.{World}
use Rattle.bhs_model.specs.Runs.{Position, Before, At, Bound, After, State, initial, glance, position_after, told}
use Rattle.bhs_model.specs.Runs.{delivered, heard, arrives, next, run, run_from}
use Rattle.bhs_model.specs.Standings.{standing_at}
use Rattle.bhs_model.proofs.StepLemmas.{by_cases}

-- at a node the past tells how many ports the node has
abbrev pub KnowsPorts : World → View → Position → Type 0
KnowsPorts world view (At node came) = ports view ≡ world.net.degree node
KnowsPorts world view position = Unit {0}

pub record IsLegal (world : World) (view : View) (position : Position) : Type 0 where
  pub standing : standing view ≡ standing_at position
  pub ports : KnowsPorts world view position

-- The standing after a command that is heard agrees with the position after that command.
pub standing_told : (world : World) (view : View) (position : Position) (command : Command)
    → KnowsPorts world view position → standing_after (standing_at position) (ports view) command ≡ standing_at
    (position_after world position command)
standing_told world view (At node came) (Depart port) knows =
    rw knows (by_cases (nat_lt port (world.net.degree node)) _
    (λ (h : nat_lt port (world.net.degree node) ≡ true). rw h refl)
    (λ (h : nat_lt port (world.net.degree node) ≡ false). rw h refl))
standing_told world view (At node came) (Accuse port) knows =
    rw knows (by_cases (nat_lt port (world.net.degree node)) _
    (λ (h : nat_lt port (world.net.degree node) ≡ true). rw h refl)
    (λ (h : nat_lt port (world.net.degree node) ≡ false). rw h refl))
standing_told world view position command knows = grind arith

-- The view's number of ports agrees with the position after that command.
pub ports_told : (world : World) (state : State) (view : View) (position : Position) (command : Command)
    → KnowsPorts world view position → KnowsPorts world (Told view command (glance world state position command))
    (position_after world position command)
ports_told world state view (At node came) (Depart port) knows =
    by_cases (nat_lt port (world.net.degree node)) _ (λ (h : nat_lt port (world.net.degree node) ≡ true). rw h tt)
    (λ (h : nat_lt port (world.net.degree node) ≡ false). rw h knows)
ports_told world state view (At node came) (Accuse port) knows =
    by_cases (nat_lt port (world.net.degree node)) _ (λ (h : nat_lt port (world.net.degree node) ≡ true). rw h tt)
    (λ (h : nat_lt port (world.net.degree node) ≡ false). rw h knows)
ports_told world state view (At node came) Bad knows = knows
ports_told world state view position command knows = grind arith

pub legal_told : (world : World) (state : State) (view : View) (position : Position) (command : Command)
    → IsLegal world view position → IsLegal world (Told view command (glance world state position command))
    (position_after world position command)
legal_told world state view position command legal = record {
  standing = ap (λ (s : Standing). standing_after s (ports view) command) legal.standing
      ∙ standing_told world view position command legal.ports;
  ports = ports_told world state view position command legal.ports;
}

-- each agent is legal
abbrev pub AllLegal : World → State → Type 0
AllLegal world state = (agent : ℕ) → IsLegal world (state.past agent) (state.position agent)

all_told : (world : World) (state : State) (agent : ℕ) (command : Command) → AllLegal world state
    → AllLegal world (told world state agent command)
all_told world state agent command legal other = elim (eqb_tells other agent) [
  | inl h ↦ rw h.0 (legal_told world state (state.past agent) (state.position agent) command (legal agent))
  | inr h ↦ rw h.0 (legal other)
]

all_delivered : (world : World) (state : State) (agent : ℕ) (position : Position) → AllLegal world state
    → AllLegal world (delivered world state agent position)
all_delivered world state agent Before legal other = legal other
all_delivered world state agent (At node came) legal other = legal other
all_delivered world state agent (Bound node port) legal other = elim (eqb_tells other agent) [
  | inl h ↦ rw h.0 (record { standing = refl; ports = refl })
  | inr h ↦ rw h.0 (legal other)
]
all_delivered world state agent After legal other = legal other

-- what holds of either of two values holds of the chosen one
pub either : {A : Type 0} (P : A → Type 0) (b : Bool) (x y : A) → P x → P y → P (if b then x else y)
either P true x y p q = p
either P false x y p q = q

pub all_next : (world : World) (state : State) (event : Event) → AllLegal world state
    → AllLegal world (next world state event)
all_next world state (Tell agent command) legal = either (AllLegal world) (heard world state agent command) _ _
    (all_told world state agent command legal) legal
all_next world state (Deliver agent) legal = either (AllLegal world) (arrives world state agent) _ _
    (all_delivered world state agent (state.position agent) legal) legal
all_next world state Close legal = legal

all_run_from : (world : World) (state : State) (events : List Event) → AllLegal world state
    → AllLegal world (run_from world state events)
all_run_from world state [] legal = legal
all_run_from world state (event ∷ events) legal =
    all_run_from world (next world state event) events (all_next world state event legal)

-- whatever happens, each agent is legal
pub all_run : (world : World) (events : List Event) → AllLegal world (run world events)
all_run world events = all_run_from world initial events (λ agent. record { standing = refl; ports = tt })
