-- A search of an unknown network by agents that are all alike. They know the number of nodes, and can tell how many
-- links the black hole has by how many ports the other nodes have together. An agent claims a port on the chart, goes
-- there, crosses it, writes a name on the whiteboard of the node behind if it has none, and comes back by the way it
-- went to report. Once the chart shows where the black hole is, it goes there and accuses it. While no port is free it
-- sleeps.
use Rattle.std.specs.Prelude.{ℕ, Bool, true, false, Option, Some, None, List, [], ◌∷◌, ◌++◌, if◌then◌else◌}
use Rattle.bhs_model.specs.declared.commands.Command.TheVariants.{Enter, Look, Write, Depart, Accuse}
use Rattle.bhs_model.specs.declared.replies.Reply.TheVariants.{Here, Written, Changed, Gone, Noted}
use Rattle.bhs_schedules.specs.declared.answers.Step.{Step}
use Rattle.bhs_schedules.specs.declared.answers.Step.TheVariants.{Says, Sleeps, Stops}
use Rattle.bhs_schedules.specs.Strategies.{Observation, Heard, Woke}
use Rattle.bhs_protocols.specs.Programs.{Program}
use Rattle.bhs_protocols_charts.specs.Charts.{Chart, ChartRow, claimed, new_row, with_state, reported, path, first_end}
use Rattle.bhs_protocols_charts.specs.Charts.{is_free, is_open, is_sure, name_of, row_named, text_of, chart_of}

-- The phase of an agent with its data. At the home base: the number of ports and the whiteboard's text. On a trip: the
-- claimed port, the remaining route, the route back, and the node that the agent has found.
pub data Charting : Type 0 where
  Begins : Charting
  Waits : (ports : ℕ) → (text : List ℕ) → Charting
  Looks : Charting
  Claims : (ports : ℕ) → (text : List ℕ) → (row port : ℕ) → Charting
  GoesOut : (row port : ℕ) → (ahead behind : List ℕ) → Charting
  Names : (row port ports : ℕ) → (behind : List ℕ) → Charting
  GoesBack : (row port : ℕ) → (found : Option ChartRow) → (behind : List ℕ) → Charting
  Reports : (row port : ℕ) → (found : Option ChartRow) → (ports : ℕ) → (text : List ℕ) → Charting
  GoesToAccuse : (port : ℕ) → (ahead : List ℕ) → Charting
  Ends : Charting

-- ---- what it decides at the home base

-- it goes to accuse the first port from which nobody has come back
abbrev pub accusing : Chart → Option (ℕ × ℕ) → Charting
accusing chart (Some end) = GoesToAccuse end.1 (path chart end.0)
accusing chart None = Ends

-- it claims the first free port, or waits
abbrev pub claiming : (ports : ℕ) → (text : List ℕ) → Option (ℕ × ℕ) → Charting
claiming ports text (Some end) = Claims ports text end.0 end.1
claiming ports text None = Waits ports text

abbrev pub decided : (nodes : ℕ) → (tells : ℕ → ℕ) → (ports : ℕ) → (text : List ℕ) → Charting
decided nodes tells ports text =
    if is_sure nodes tells (chart_of ports text)
    then accusing (chart_of ports text) (first_end is_open (chart_of ports text) 0)
    else claiming ports text (first_end is_free (chart_of ports text) 0)

-- ---- what it does

abbrev pub does_in : Charting → Step
does_in Begins = Says Enter
does_in (Waits ports text) = Sleeps
does_in Looks = Says Look
does_in (Claims ports text row port) =
    Says (Write text (text_of (with_state (chart_of ports text) row port claimed)))
does_in (GoesOut row port (next ∷ ahead) behind) = Says (Depart next)
does_in (Names row port ports behind) = Says (Write [] (name_of row port))
does_in (GoesBack row port found (next ∷ behind)) = Says (Depart next)
does_in (Reports row port found ports text) =
    Says (Write text (text_of (reported (chart_of ports text) row port found)))
does_in (GoesToAccuse port (next ∷ ahead)) = Says (Depart next)
does_in (GoesToAccuse port []) = Says (Accuse port)
does_in it = Stops

-- ---- what it holds after something has happened

-- The agent has crossed its claimed port to a node with this number of ports and this whiteboard.
abbrev pub crossed : (row port ports : ℕ) → (board behind : List ℕ) → Charting
crossed row port ports [] behind = Names row port ports behind
crossed row port ports (code ∷ board) behind = GoesBack row port (row_named ports (code ∷ board)) behind

-- The agent has arrived on its way out.
abbrev pub came_out : (row port ports : ℕ) → (board ahead behind : List ℕ) → Charting
came_out row port ports board [] behind = crossed row port ports board behind
came_out row port ports board (next ∷ ahead) behind = GoesOut row port (next ∷ ahead) behind

-- it has arrived on its way back
abbrev pub came_back : (row port : ℕ) → (found : Option ChartRow) → (ports : ℕ) → (board behind : List ℕ) → Charting
came_back row port found ports board [] = Reports row port found ports board
came_back row port found ports board (next ∷ behind) = GoesBack row port found (next ∷ behind)

abbrev pub after_in : (nodes : ℕ) → (tells : ℕ → ℕ) → Charting → Observation → Charting
after_in nodes tells Begins (Heard (Here ports came board)) = decided nodes tells ports board
after_in nodes tells (Waits ports text) Woke = Looks
after_in nodes tells Looks (Heard (Here ports came board)) = decided nodes tells ports board
after_in nodes tells (Claims ports text row port) (Heard Written) =
    GoesOut row port (path (chart_of ports text) row ++ port ∷ []) []
after_in nodes tells (Claims ports text row port) (Heard (Changed board)) = decided nodes tells ports board
after_in nodes tells (GoesOut row port (next ∷ ahead) behind) (Heard (Here ports (Some label) board)) =
    came_out row port ports board ahead (label ∷ behind)
after_in nodes tells (Names row port ports behind) (Heard Written) =
    GoesBack row port (Some (new_row row port ports)) behind
after_in nodes tells (Names row port ports behind) (Heard (Changed board)) =
    GoesBack row port (row_named ports board) behind
after_in nodes tells (GoesBack row port found (next ∷ behind)) (Heard (Here ports came board)) =
    came_back row port found ports board behind
after_in nodes tells (Reports row port found ports text) (Heard Written) =
    decided nodes tells ports (text_of (reported (chart_of ports text) row port found))
after_in nodes tells (Reports row port found ports text) (Heard (Changed board)) = Reports row port found ports board
after_in nodes tells (GoesToAccuse port (next ∷ ahead)) (Heard (Here ports came board)) = GoesToAccuse port ahead
after_in nodes tells (GoesToAccuse port []) (Heard Noted) = Ends
after_in nodes tells it item = it

-- ---- the program

-- The memory of an agent: its phase, and a flag between departure and arrival.
pub record Memory : Type 0 where
  pub duty : Charting
  pub has_departed : Bool

-- on a link it waits
abbrev pub does_now : Memory → Step
does_now memory = if memory.has_departed then Stops else does_in memory.duty

abbrev pub is_gone : Observation → Bool
is_gone (Heard Gone) = true
is_gone item = false

abbrev pub after_item : (nodes : ℕ) → (tells : ℕ → ℕ) → Memory → Observation → Memory
after_item nodes tells memory item =
    record { duty = after_in nodes tells memory.duty item; has_departed = is_gone item }

-- all agents are alike
abbrev pub charters : (nodes : ℕ) → (tells : ℕ → ℕ) → Program Memory
charters nodes tells = record {
  start = λ agent. record { duty = Begins; has_departed = false };
  after = after_item nodes tells;
  does = does_now;
}
