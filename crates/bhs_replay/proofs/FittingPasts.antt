-- The pasts that fitting events lead to: their numbers have 16 bits, and their texts are UTF-8.
use Rattle.std.proofs.Common.{ℕ, ◌<◌, ◌^◌, ◌==◌, nat_lt, Option, Some, None}
use Rattle.std.specs.Prelude.{⊤}
use Rattle.bhs_model.specs.declared.commands.Command.{Command}
use Rattle.bhs_model.specs.declared.commands.Command.TheVariants.{Enter, Look, Write, Depart, Accuse, Leave}
use Rattle.bhs_model.specs.declared.events.Event.{Event}
use Rattle.bhs_model.specs.declared.events.Event.TheVariants.{Tell, Deliver, Close}
use Rattle.bhs_model.specs.Views.{View, Start, Told, Arrived, Glance, Nothing, Saw, Sight, Seen, LastWrite, Unwritten}
use Rattle.bhs_model.specs.Views.{WrittenBy}
use Rattle.bhs_model.specs.Worlds.{World}
use Rattle.bhs_model.specs.Runs.{Position, Before, At, Bound, After, State, initial, changed, sight_at, glance}
use Rattle.bhs_model.specs.Runs.{position_after, last_writes_after, told, arrived, delivered, heard, arrives, next}
use Rattle.bhs_model.proofs.LegalLemmas.{either}
use Rattle.bhs_wire.specs.ReplyNumbers.{LabelFits}
use Rattle.bhs_replay.specs.Played.{CommandIsText, EventIsText}

abbrev mutual
  pub ViewFits : View → Type 0
  ViewFits Start = ⊤
  ViewFits (Told view command glance) = ViewFits view × CommandIsText command × GlanceFits glance
  ViewFits (Arrived view sight) = ViewFits view × SightFits sight

  pub GlanceFits : Glance → Type 0
  GlanceFits Nothing = ⊤
  GlanceFits (Saw sight) = SightFits sight

  pub SightFits : Sight → Type 0
  SightFits (Seen ports came last_write) = (ports < 2 ^ 16) × LabelFits came × WriteFits last_write

  pub WriteFits : LastWrite → Type 0
  WriteFits Unwritten = ⊤
  WriteFits (WrittenBy view) = ViewFits view

abbrev pub PositionFits : Position → Type 0
PositionFits (At node came) = LabelFits came
PositionFits position = ⊤

-- the numbers of a network have 16 bits
pub record WorldFits (world : World) : Type 0 where
  pub ports : (node : ℕ) → world.net.degree node < 2 ^ 16
  pub labels : (node port : ℕ) → (world.net.far node port).1 < 2 ^ 16

pub record StateFits (state : State) : Type 0 where
  pub pasts : (agent : ℕ) → ViewFits (state.past agent)
  pub positions : (agent : ℕ) → PositionFits (state.position agent)
  pub writes : (node : ℕ) → WriteFits (state.last_write node)

pub initial_fits : StateFits initial
initial_fits = record { pasts = λ agent. tt; positions = λ agent. tt; writes = λ node. tt }

changed_fits : {A : Type 0} (P : A → Type 0) (f : ℕ → A) (place : ℕ) (value : A) → P value → ((k : ℕ) → P (f k))
    → (k : ℕ) → P (changed f place value k)
changed_fits P f place value here all k = either P (k == place) value (f k) here (all k)

module _ (world : World) (numbers : WorldFits world) where
  sight_fits : (state : State) (node : ℕ) (came : Option ℕ) → StateFits state → LabelFits came
      → SightFits (sight_at world state node came)
  sight_fits state node came fits label = (numbers.ports node, label, fits.writes node)

  glance_fits : (state : State) (position : Position) (command : Command) → StateFits state → PositionFits position
      → GlanceFits (glance world state position command)
  glance_fits state position Enter fits placed = sight_fits state world.home None fits tt
  glance_fits state (At node came) Look fits placed = sight_fits state node came fits placed
  glance_fits state (At node came) (Write expect put) fits placed = sight_fits state node came fits placed
  glance_fits state position command fits placed = tt

  position_fits : (position : Position) (command : Command) → PositionFits position
      → PositionFits (position_after world position command)
  position_fits position Enter placed = tt
  position_fits position Leave placed = tt
  position_fits (At node came) (Depart port) placed =
      either PositionFits (nat_lt port (world.net.degree node)) (Bound node port) (At node came) tt placed
  position_fits (At node came) (Accuse port) placed =
      either PositionFits (nat_lt port (world.net.degree node)) After (At node came) tt placed
  position_fits position command placed = placed

  writes_fit : (writes : ℕ → LastWrite) (position : Position) (command : Command) (past : View)
      → ((node : ℕ) → WriteFits (writes node)) → ViewFits past
      → (node : ℕ) → WriteFits (last_writes_after writes position command past node)
  writes_fit writes (At place came) (Write expect put) past all fits node =
      changed_fits WriteFits writes place (WrittenBy past) fits all node
  writes_fit writes position command past all fits node = all node

  told_fits : (state : State) (agent : ℕ) (command : Command) → StateFits state → CommandIsText command
      → StateFits (told world state agent command)
  told_fits state agent command fits text =
      let position = state.position agent in
      let seen = glance world state position command in
      let past : ViewFits (Told (state.past agent) command seen) =
      (fits.pasts agent, text, glance_fits state position command fits (fits.positions agent)) in
      record {
        pasts = changed_fits ViewFits state.past agent (Told (state.past agent) command seen) past fits.pasts;
        positions = changed_fits PositionFits state.position agent (position_after world position command)
            (position_fits position command (fits.positions agent)) fits.positions;
        writes = writes_fit state.last_write position command (Told (state.past agent) command seen) fits.writes past;
      }

  arrived_fits : (state : State) (agent node label : ℕ) → StateFits state → label < 2 ^ 16
      → StateFits (arrived world state agent node label)
  arrived_fits state agent node label fits small = record {
    pasts = changed_fits ViewFits state.past agent (Arrived (state.past agent) (sight_at world state node (Some label)))
        (fits.pasts agent, sight_fits state node (Some label) fits small) fits.pasts;
    positions = changed_fits PositionFits state.position agent (At node (Some label)) small fits.positions;
    writes = fits.writes;
  }

  delivered_fits : (state : State) (agent : ℕ) (position : Position) → StateFits state
      → StateFits (delivered world state agent position)
  delivered_fits state agent (Bound node port) fits =
      let far = world.net.far node port in arrived_fits state agent far.0 far.1 fits (numbers.labels node port)
  delivered_fits state agent Before fits = fits
  delivered_fits state agent (At node came) fits = fits
  delivered_fits state agent After fits = fits

  pub next_fits : (state : State) (event : Event) → StateFits state → EventIsText event
      → StateFits (next world state event)
  next_fits state (Tell agent command) fits text =
      either StateFits (heard world state agent command) (told world state agent command) state
      (told_fits state agent command fits text) fits
  next_fits state (Deliver agent) fits text =
      either StateFits (arrives world state agent) (delivered world state agent (state.position agent)) state
      (delivered_fits state agent (state.position agent) fits) fits
  next_fits state Close fits text = record { pasts = fits.pasts; positions = fits.positions; writes = fits.writes }
