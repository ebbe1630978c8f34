-- What the program's values stand for.
use Rattle.std.specs.Prelude.{ℕ, ◌-◌, Bool, ◌&&◌, nat_lt, Option, Some, None, List, [], ◌∷◌, length, map}
use Rattle.std.specs.List.{list_all}
use Rattle.bhs_protocols_charts.specs.declared.charts.PortKind.{PortKind}
use Rattle.bhs_protocols_charts.specs.declared.charts.PortKind.TheVariants.{Free, Open}
use Rattle.bhs_protocols_charts.specs.declared.charts.FoundNode.{FoundNode}
use Rattle.bhs_model.specs.declared.commands.Command.TheVariants.{Depart, Write}
use Rattle.bhs_schedules.specs.declared.answers.Step.{Step}
use Rattle.bhs_schedules.specs.declared.answers.Step.TheVariants.{Says}
use Rattle.bhs_protocols_charts.specs.declared.memories.Told.{Told}
use Rattle.bhs_protocols_charts.specs.declared.memories.Told.TheVariants.{Links, Parity}
use Rattle.bhs_protocols_charts.specs.declared.memories.Memory.{Memory}
use Rattle.bhs_protocols_charts.specs.declared.memories.Report.{Report}
use Rattle.bhs_protocols_charts.specs.declared.memories.Memory.TheVariants as held
use Rattle.bhs_protocols_charts.specs.Charts.{Chart, ChartRow, new_row, is_free, is_open, chart_of, with_state, claimed}
use Rattle.bhs_protocols_charts.specs.Charts.{reported}
use Rattle.bhs_protocols_charts.specs.Charting.{Charting, Begins, Waits, Looks, Claims, GoesOut, Names, GoesBack}
use Rattle.bhs_protocols_charts.specs.Charting.{Reports, GoesToAccuse, Ends}
use Rattle.bhs_protocols_charts.specs.Told.{by_links, by_parity}

-- the ports of this kind, by their states
abbrev pub test_of : PortKind → (state : ℕ) → Bool
test_of Free = is_free
test_of Open = is_open

-- the row of a node that was found
abbrev pub row_found : FoundNode → ChartRow
row_found found = new_row found.father found.port found.ports

abbrev pub rows_found : Option FoundNode → Option ChartRow
rows_found None = None
rows_found (Some found) = Some (row_found found)

-- the row with these numbers and these characters for its states
abbrev pub row_read : (father port : ℕ) → (codes : List ℕ) → ChartRow
row_read father port codes = record { father = father; port = port; states = map (λ code. code - 32) codes }

abbrev pub is_small_state : (state : ℕ) → Bool
is_small_state state = nat_lt state 96

-- the numbers of a row have two characters each, and its states one
abbrev pub is_small : ChartRow → Bool
is_small row =
    nat_lt row.father 4096 && nat_lt row.port 4096 && nat_lt (length row.states) 4096
    && list_all is_small_state row.states

abbrev pub are_small : Chart → Bool
are_small chart = list_all is_small chart

-- how an agent that is told this can tell how many links the black hole has
abbrev pub tells_of : Told → (ports : ℕ) → ℕ
tells_of (Links links) = by_links links
tells_of Parity = by_parity

-- the phase of an agent with this report
abbrev pub report_of : Report → Charting
report_of it = Reports it.claim.row it.claim.port (rows_found it.found) it.seen.ports it.seen.text

-- what an agent with this memory holds
abbrev pub charting_of : Memory → Charting
charting_of held.Begins = Begins
charting_of (held.Waits seen) = Waits seen.ports seen.text
charting_of held.Looks = Looks
charting_of (held.Claims seen claim) = Claims seen.ports seen.text claim.row claim.port
charting_of (held.GoesOut claim ahead behind) = GoesOut claim.row claim.port ahead.items behind.items
charting_of (held.Names claim ports behind) = Names claim.row claim.port ports behind.items
charting_of (held.GoesBack claim found behind) = GoesBack claim.row claim.port (rows_found found) behind.items
charting_of (held.Reports it) = report_of it
charting_of (held.GoesToAccuse port ahead) = GoesToAccuse port ahead.items
charting_of held.Ends = Ends

-- the rows that it writes in characters
abbrev pub written_in : Charting → Chart
written_in (Claims ports text row port) = with_state (chart_of ports text) row port claimed
written_in (Names row port ports behind) = new_row row port 0 ∷ []
written_in (Reports row port found ports text) = reported (chart_of ports text) row port found
written_in it = []

abbrev pub is_written_small : Charting → Bool
is_written_small it = are_small (written_in it)

-- the first of the ports
abbrev pub next_in : (ports : List ℕ) → Option ℕ
next_in [] = None
next_in (port ∷ ports) = Some port

-- departs by the next port of the route, or takes another step at its end
abbrev pub departs : (next : Option ℕ) → (other : Step) → Step
departs (Some port) other = Says (Depart port)
departs None other = other

abbrev pub writes : (expect put : List ℕ) → Step
writes expect put = Says (Write expect put)
