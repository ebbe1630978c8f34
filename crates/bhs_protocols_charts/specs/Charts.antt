-- The chart that agents draw of an unknown network on the whiteboard of the home base: a row for each node that they
-- know. On the whiteboard of any other node they write by which port they came to it first.
use Rattle.std.specs.Prelude.{ℕ, zero, suc, ◌+◌, ◌-◌, ◌*◌, ◌/◌, ◌%◌, ◌==◌, Bool, not, ◌&&◌, Option, Some, None}
use Rattle.std.specs.Prelude.{List, [], ◌∷◌, ◌++◌, length, map, take, drop, replicate, slice_index_or, slice_set}
use Rattle.std.specs.Prelude.{if◌then◌else◌, sum_by, count_by}
use Rattle.std.specs.List.{list_any}

-- What is known of a node: the row of the node from which somebody first came to it, the port there, and the states of
-- its own ports. The first row is the home base's; it has no father.
pub record ChartRow : Type 0 where
  pub father : ℕ
  pub port : ℕ
  pub states : List ℕ

abbrev pub Chart : Type 0
Chart = List ChartRow

-- The state of a port: nobody has claimed it; the agent that claimed it has not come back; that agent has come back.
abbrev pub free : ℕ
free = 0

abbrev pub claimed : ℕ
claimed = 1

abbrev pub done : ℕ
done = 2

-- the row of a node with this number of ports, all of them free
abbrev pub new_row : (father port ports : ℕ) → ChartRow
new_row father port ports = record { father = father; port = port; states = replicate ports free }

abbrev pub row_at : Chart → (row : ℕ) → ChartRow
row_at chart row = slice_index_or chart row (new_row 0 0 0)

abbrev pub state_at : Chart → (row port : ℕ) → ℕ
state_at chart row port = slice_index_or (row_at chart row).states port free

-- ---- what agents do with it

-- the chart with another state of a port
abbrev pub with_state : Chart → (row port state : ℕ) → Chart
with_state chart row port state =
    slice_set chart row
    (record (row_at chart row) { states = slice_set (row_at chart row).states port state })

-- whether two rows are of the node behind the same port
abbrev pub is_same_name : (one other : ChartRow) → Bool
is_same_name one other = one.father == other.father && one.port == other.port

-- whether some row other than the home base's describes this node
abbrev pub has_row : Chart → ChartRow → Bool
has_row chart row = list_any (is_same_name row) (drop 1 chart)

-- the chart with a row for the node that was found
abbrev pub joined : Chart → (found : Option ChartRow) → Chart
joined chart None = chart
joined chart (Some row) = if has_row chart row then chart else chart ++ row ∷ []

-- the chart after an agent has come back from this port, behind which it found this
abbrev pub reported : Chart → (row port : ℕ) → (found : Option ChartRow) → Chart
reported chart row port found = joined (with_state chart row port done) found

-- the ports by which one goes from the home base to the node of a row; each row stands below its father's, so that
-- `fuel` steps suffice for the rows up to that number
abbrev pub path_to : Chart → (fuel row : ℕ) → List ℕ
path_to chart zero row = []
path_to chart (suc fuel) row =
    if row == 0 then [] else path_to chart fuel (row_at chart row).father ++ (row_at chart row).port ∷ []

abbrev pub path : Chart → (row : ℕ) → List ℕ
path chart row = path_to chart row row

-- the first state in the list that passes a test, where the first one has this number
abbrev pub first_port : (test : ℕ → Bool) → List ℕ → (port : ℕ) → Option ℕ
first_port test [] port = None
first_port test (state ∷ states) port = if test state then Some port else first_port test states (port + 1)

abbrev pub or_later : (row : ℕ) → Option ℕ → (later : Option (ℕ × ℕ)) → Option (ℕ × ℕ)
or_later row (Some port) later = Some (row, port)
or_later row None later = later

-- the first row and port whose state passes a test, where the first row has this number
abbrev pub first_end : (test : ℕ → Bool) → Chart → (row : ℕ) → Option (ℕ × ℕ)
first_end test [] row = None
first_end test (it ∷ chart) row = or_later row (first_port test it.states 0) (first_end test chart (row + 1))

abbrev pub is_free : (state : ℕ) → Bool
is_free state = state == free

abbrev pub is_open : (state : ℕ) → Bool
is_open state = not (state == done)

-- how many ports the nodes of the chart have together
abbrev pub ends_of : Chart → ℕ
ends_of chart = sum_by (λ row. length row.states) chart

-- and from how many of them nobody has come back
abbrev pub open_ends_of : Chart → ℕ
open_ends_of chart = sum_by (λ row. count_by is_open row.states) chart

-- Whether the chart shows where the black hole is: it has all nodes but one, and from as many ports nobody has come
-- back as the black hole has links. `tells` says how many that are, by how many ports the other nodes have together.
abbrev pub is_sure : (nodes : ℕ) → (tells : ℕ → ℕ) → Chart → Bool
is_sure nodes tells chart = length chart + 1 == nodes && open_ends_of chart == tells (ends_of chart)

-- ---- the texts

-- A number is two characters, by 64s and by ones, each above the code of a blank.
abbrev pub value : (by_64 ones : ℕ) → ℕ
value by_64 ones = (by_64 - 32) * 64 + (ones - 32)

-- The name on the whiteboard of a node other than the home base: its father's row, and the port there.
abbrev pub name_of : (father port : ℕ) → List ℕ
name_of father port =
    (32 + father / 64) ∷ (32 + father % 64) ∷ (32 + port / 64) ∷ (32 + port % 64) ∷ []

-- The row of a node with this number of ports, by the text on its whiteboard. A text of another length is the home
-- base's, which has a row from the beginning.
abbrev pub row_named : (ports : ℕ) → List ℕ → Option ChartRow
row_named ports (a ∷ b ∷ c ∷ d ∷ []) = Some (new_row (value a b) (value c d) ports)
row_named ports text = None

-- a row's name, the number of its ports, and a character for the state of each
abbrev pub row_text : ChartRow → List ℕ
row_text row =
    name_of row.father row.port ++ (32 + length row.states / 64) ∷ (32 + length row.states % 64)
    ∷ map (λ state. 32 + state) row.states

abbrev pub text_of : Chart → List ℕ
text_of [] = []
text_of (row ∷ chart) = row_text row ++ text_of chart

-- the rows in a text; each has a character at least, so that `fuel` for each character suffices
abbrev pub rows_in : (fuel : ℕ) → List ℕ → Chart
rows_in (suc fuel) (a ∷ b ∷ c ∷ d ∷ e ∷ f ∷ rest) =
    record {
      father = value a b;
      port = value c d;
      states = map (λ code. code - 32) (take (value e f) rest);
    }
    ∷ rows_in fuel (drop (value e f) rest)
rows_in fuel text = []

-- before anybody has claimed a port the home base's whiteboard is empty
abbrev pub or_blank : (ports : ℕ) → Chart → Chart
or_blank ports [] = new_row 0 0 ports ∷ []
or_blank ports (row ∷ chart) = row ∷ chart

-- the chart on the whiteboard of a home base with this number of ports
abbrev pub chart_of : (ports : ℕ) → List ℕ → Chart
chart_of ports text = or_blank ports (rows_in (length text) text)
