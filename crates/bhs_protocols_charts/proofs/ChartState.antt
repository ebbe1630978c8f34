-- Agents that draw a chart: what holds of the chart, of whiteboards and of each agent at each time, and what agents
-- owe.
use Rattle.std.proofs.Common.{ℕ, zero, suc, ◌+◌, ◌-◌, ◌*◌, ◌<◌, ◌≤◌, ◌≡◌, ◌⊎◌, Bool, true, false, Option, Some, None}
use Rattle.std.proofs.Common.{List, [], ◌∷◌, length, if◌then◌else◌}
use Rattle.std.specs.Prelude.{◌≢◌, bytes_eq, sum_by}
use Rattle.bhs_net.specs.Network.{Network, nodes_of, degree_of, far_of}
use Rattle.bhs_model.specs.Setups.{network_of}
use Rattle.bhs_model.specs.Worlds as worlds
use Rattle.bhs_model.specs.Runs.{Position, Before, At, Bound, After, is_bound}
use Rattle.bhs_schedules.specs.Schedules.{Trial}
use Rattle.bhs_protocols.specs.Configurations.{Configuration}
use Rattle.bhs_protocols.specs.Programs.{held_after}
use Rattle.bhs_protocols.specs.Sizes.{Limits}
use Rattle.bhs_protocols_unmapped.specs.Degrees.{ports_beside}
use Rattle.bhs_protocols_charts.specs.Charts.{Chart, ChartRow, claimed, done, new_row, row_at, state_at, is_sure}
use Rattle.bhs_protocols_charts.specs.Charts.{is_free}
use Rattle.bhs_protocols_charts.specs.Charts.{first_end, name_of, text_of, chart_of}
use Rattle.bhs_protocols_charts.specs.Charting.{Charting, Begins, Waits, Looks, Claims, GoesOut, Names, GoesBack}
use Rattle.bhs_protocols_charts.specs.Charting.{Reports}
use Rattle.bhs_protocols_charts.specs.Charting.{GoesToAccuse, Ends, charters}
use Rattle.bhs_protocols_charts.specs.ChartLaws.{CanSearch, chart_trial}
use Rattle.bhs_protocols_charts.proofs.Totals.{total}
use Rattle.bhs_protocols_charts.proofs.HoleEnds.{ArePlaces}
use Rattle.bhs_protocols_charts.proofs.ChartLists.{ports_at}
use Rattle.bhs_protocols_charts.proofs.ChartPaths.{HasPlaces, IsWay, IsWayOut}

-- a match that the theorem speaks of
pub record Game : Type 0 where
  pub net : Network
  pub terms : Limits
  pub tells : ℕ → ℕ
  pub home : ℕ
  pub hole : ℕ
  pub can : CanSearch net terms tells home hole

-- 1 for a port that somebody has claimed, also once it is done
abbrev pub taken_by : (state : ℕ) → ℕ
taken_by zero = 0
taken_by (suc state) = 1

-- how many ports have been claimed
abbrev pub taken : Chart → ℕ
taken chart = sum_by (λ row. sum_by taken_by row.states) chart

-- how often ports have changed their state
abbrev pub changes : Chart → ℕ
changes chart = sum_by (λ row. sum_by (λ state. state) row.states) chart

-- the port that an agent has claimed and has not yet come back from
abbrev pub held : Charting → Option (ℕ × ℕ)
held (GoesOut row port ahead behind) = Some (row, port)
held (Names row port ports behind) = Some (row, port)
held (GoesBack row port found behind) = Some (row, port)
held (Reports row port found ports text) = Some (row, port)
held it = None

-- ---- what agents owe

abbrev pub on_link : Position → ℕ
on_link (Bound node port) = 1
on_link position = 0

module _ (game : Game) where
  open game use {net, terms, tells, home, hole, can}

  abbrev pub trial : Trial
  trial = chart_trial net terms tells home hole

  abbrev pub graph : worlds.Network
  graph = network_of net

  abbrev pub n : ℕ
  n = nodes_of net

  abbrev pub ports : ℕ
  ports = ports_beside net hole

  abbrev pub mem : Configuration → (agent : ℕ) → Charting
  mem configuration agent = (held_after (charters n tells) agent (configuration.history agent)).duty

  abbrev pub has_left : Configuration → (agent : ℕ) → Bool
  has_left configuration agent = (held_after (charters n tells) agent (configuration.history agent)).has_departed

  abbrev pub degree : ℕ → ℕ
  degree = degree_of net

  abbrev pub far : ℕ → ℕ → ℕ × ℕ
  far = far_of net

  -- ---- the chart

  -- a node with a name: some row's port leads there, and somebody has come there
  pub record HasName (chart : Chart) (place : ℕ → ℕ) (shown : ℕ → List ℕ) (reached : ℕ → Bool) (node : ℕ) :
      Type 0 where
    pub father : ℕ
    pub port : ℕ
    pub within : father < length chart
    pub has : port < degree (place father)
    pub leads : (far (place father) port).0 ≡ node
    pub shows : shown node ≡ name_of father port
    pub seen : reached node ≡ true
    pub safe : node ≢ hole

  -- what the whiteboard of the home base shows
  abbrev pub IsShown : Chart → (text : List ℕ) → Type 0
  IsShown chart text = ((text ≡ []) × (chart ≡ new_row 0 0 (degree home) ∷ [])) ⊎ (text ≡ text_of chart)

  -- a port from which somebody has come back leads to the node of a row
  pub record LeadsToRow (chart : Chart) (place : ℕ → ℕ) (node : ℕ) : Type 0 where
    pub row : ℕ
    pub within : row < length chart
    pub is : node ≡ place row

  -- The chart is correct: each row describes the node at its place, whose whiteboard has the row's name. The agent that
  -- wrote a name arrived by the port that the name gives, and each port from which an agent has returned leads to the
  -- node of a row.
  pub record IsDrawn (chart : Chart) (place : ℕ → ℕ) (shown : ℕ → List ℕ) (reached : ℕ → Bool) : Type 0 where
    pub some : 0 < length chart
    pub places : HasPlaces graph home hole chart place
    pub apart : ArePlaces n hole place (length chart)
    pub ports_are : (i : ℕ) → i < length chart → ports_at chart i ≡ degree (place i)
    pub named : (i : ℕ) → 0 < i → i < length chart
        → shown (place i) ≡ name_of (row_at chart i).father (row_at chart i).port
    pub names : (node : ℕ) → node ≢ home → (shown node ≡ []) ⊎ HasName chart place shown reached node
    pub back : (i p : ℕ) → i < length chart → p < degree (place i) → state_at chart i p ≡ done
        → LeadsToRow chart place (far (place i) p).0
    pub states : (i p : ℕ) → i < length chart → p < degree (place i) → state_at chart i p ≤ done

  -- and the whiteboard of the home base shows it
  pub record IsCharted (chart : Chart) (place : ℕ → ℕ) (shown : ℕ → List ℕ) (reached : ℕ → Bool) : Type 0 where
    pub drawn : IsDrawn chart place shown reached
    pub text : IsShown chart (shown home)

  -- An earlier chart of the whiteboard: its rows are the first rows of the present one, up to the states of ports.
  pub record IsPast (old chart : Chart) : Type 0 where
    pub shorter : length old ≤ length chart
    pub father : (i : ℕ) → i < length old → (row_at old i).father ≡ (row_at chart i).father
    pub port : (i : ℕ) → i < length old → (row_at old i).port ≡ (row_at chart i).port
    pub ports_are : (i : ℕ) → i < length old → ports_at old i ≡ ports_at chart i

  -- ---- who has claimed what

  pub record Holds (chart : Chart) (place : ℕ → ℕ) (end : ℕ × ℕ) : Type 0 where
    pub within : end.0 < length chart
    pub has : end.1 < degree (place end.0)
    pub is : state_at chart end.0 end.1 ≡ claimed

  pub record Holder (holder : ℕ → Option (ℕ × ℕ)) (end : ℕ × ℕ) : Type 0 where
    pub agent : ℕ
    pub within : agent < terms.agents
    pub is : holder agent ≡ Some end

  -- Exactly the claimed ports are held by agents, each by one.
  pub record AreHeld (chart : Chart) (place : ℕ → ℕ) (holder : ℕ → Option (ℕ × ℕ)) : Type 0 where
    pub holds : (k : ℕ) → k < terms.agents → (end : ℕ × ℕ) → holder k ≡ Some end → Holds chart place end
    pub one : (k j : ℕ) → k < terms.agents → j < terms.agents → (end : ℕ × ℕ) → holder k ≡ Some end
        → holder j ≡ Some end → k ≡ j
    pub some : (i p : ℕ) → i < length chart → p < degree (place i) → state_at chart i p ≡ claimed
        → Holder holder (i, p)

  -- ---- where an agent is

  pub record IsAt (node : ℕ) (position : Position) : Type 0 where
    pub came : Option ℕ
    pub at : position ≡ At node came

  -- The agent travels on the first listed port's link.
  abbrev pub IsBound : (node : ℕ) → List ℕ → Position → Type 0
  IsBound node [] position = ⊥
  IsBound node (next ∷ rest) position = position ≡ Bound node next

  abbrev pub IsOn : (node : ℕ) → List ℕ → Position → Type 0
  IsOn node way position = IsAt node position ⊎ IsBound node way position

  -- Behind its claimed port the agent has found this node: one with a name, or the home base.
  pub record IsFound (shown : ℕ → List ℕ) (node : ℕ) (found : Option ChartRow) : Type 0 where
    pub father : ℕ
    pub port : ℕ
    pub elsewhere : node ≢ home
    pub is : found ≡ Some (new_row father port (degree node))
    pub shows : shown node ≡ name_of father port

  abbrev pub Found : (shown : ℕ → List ℕ) → (node : ℕ) → (found : Option ChartRow) → Type 0
  Found shown node found = ((node ≡ home) × (found ≡ None)) ⊎ IsFound shown node found

  pub record IsOut (target port : ℕ) (ahead behind : List ℕ) (position : Position) : Type 0 where
    pub node : ℕ
    pub safe : node ≢ hole
    pub on : IsOn node ahead position
    pub out : IsWayOut graph hole node ahead target port
    pub back : IsWay graph hole node behind home
    pub few : length ahead + length behind + 1 ≤ n

  pub record IsNaming (reached : ℕ → Bool) (node port_count : ℕ) (behind : List ℕ) (position : Position) :
      Type 0 where
    pub at : IsAt node position
    pub elsewhere : node ≢ home
    pub safe : node ≢ hole
    pub seen : reached node ≡ true
    pub count : port_count ≡ degree node
    pub back : IsWay graph hole node behind home
    pub few : length behind + 1 ≤ n

  pub record IsBack (behind : List ℕ) (position : Position) : Type 0 where
    pub node : ℕ
    pub on : IsOn node behind position
    pub back : IsWay graph hole node behind home
    pub some : 0 < length behind
    pub few : length behind + 1 ≤ n

  pub record IsAccusing (chart : Chart) (port : ℕ) (ahead : List ℕ) (position : Position) : Type 0 where
    pub all : length chart + 1 ≡ n
    pub node : ℕ
    pub target : ℕ
    pub on : IsOn node ahead position
    pub way : IsWay graph hole node ahead target
    pub has : port < degree target
    pub leads : (far target port).0 ≡ hole
    pub few : length ahead + 2 ≤ n

  pub record IsWaiting (woken : ℕ) (shown : List ℕ) (port_count : ℕ) (text : List ℕ) : Type 0 where
    pub count : port_count ≡ degree home
    pub none : first_end is_free (chart_of port_count text) 0 ≡ None
    pub unsure : is_sure n tells (chart_of port_count text) ≡ false
    pub fresh : 0 < woken → text ≡ shown

  -- the node behind a port
  abbrev pub behind_port : (place : ℕ → ℕ) → (row port : ℕ) → ℕ
  behind_port place row port = (far (place row) port).0

  -- The agent's position, according to its phase.
  abbrev pub IsPlaced : Chart → (place : ℕ → ℕ) → (shown : ℕ → List ℕ) → (reached : ℕ → Bool) → (woken : ℕ) → Charting
      → Position → Type 0
  IsPlaced chart place shown reached woken Begins position = position ≡ Before
  IsPlaced chart place shown reached woken (Waits count text) position =
      IsAt home position × IsWaiting woken (shown home) count text
  IsPlaced chart place shown reached woken Looks position = IsAt home position
  IsPlaced chart place shown reached woken (Claims count text row port) position =
      IsAt home position × (count ≡ degree home) × (first_end is_free (chart_of count text) 0 ≡ Some (row, port))
      × IsPast (chart_of count text) chart
  IsPlaced chart place shown reached woken (GoesOut row port ahead behind) position =
      IsOut (place row) port ahead behind position
  IsPlaced chart place shown reached woken (Names row port count behind) position =
      IsNaming reached (behind_port place row port) count behind position
  IsPlaced chart place shown reached woken (GoesBack row port found behind) position =
      Found shown (behind_port place row port) found × (behind_port place row port ≢ hole) × IsBack behind position
  IsPlaced chart place shown reached woken (Reports row port found count text) position =
      Found shown (behind_port place row port) found × (behind_port place row port ≢ hole) × IsAt home position
      × (count ≡ degree home) × IsPast (chart_of count text) chart × (row < length (chart_of count text))
  IsPlaced chart place shown reached woken (GoesToAccuse port ahead) position = IsAccusing chart port ahead position
  IsPlaced chart place shown reached woken Ends position = (position ≡ After) × (length chart + 1 ≡ n)

  -- it has accused a port that leads to the black hole
  pub record HasAccused (accused : Option (ℕ × ℕ)) : Type 0 where
    pub node : ℕ
    pub port : ℕ
    pub link : accused ≡ Some (node, port)
    pub leads : (far node port).0 ≡ hole

  abbrev pub Accuses : Charting → Option (ℕ × ℕ) → Type 0
  Accuses Ends accused = HasAccused accused
  Accuses it accused = accused ≡ None

  -- ---- what an agent owes

  -- moves: of its trip, and to accuse
  abbrev pub way_left : Charting → Position → ℕ
  way_left (GoesOut row port ahead behind) position = 2 * length ahead + length behind - on_link position + (n - 2)
  way_left (Names row port count behind) position = length behind + (n - 2)
  way_left (GoesBack row port found behind) position = length behind - on_link position + (n - 2)
  way_left (GoesToAccuse port ahead) position = length ahead - on_link position
  way_left Ends position = 0
  way_left it position = n - 2

  -- how often it may look before it has to wait until the whiteboard changes
  abbrev pub looks_left : (woken : ℕ) → ℕ
  looks_left woken = terms.wakeups + 1 - woken

  -- commands until the whiteboard of the home base changes, which shows this text
  abbrev pub commands_left : (woken : ℕ) → (text : List ℕ) → Charting → Position → ℕ
  commands_left woken shown Begins position = terms.wakeups + n
  commands_left woken shown (Waits count text) position = looks_left woken + (n - 1)
  commands_left woken shown Looks position = 1 + looks_left woken + (n - 1)
  commands_left woken shown (Claims count text row port) position =
      (if bytes_eq shown text then 0 else terms.wakeups + 2) + (n - 1)
  commands_left woken shown (GoesOut row port ahead behind) position =
      2 * length ahead + length behind + 1 - on_link position + (n - 1)
  commands_left woken shown (Names row port count behind) position = 1 + length behind + (n - 1)
  commands_left woken shown (GoesBack row port found behind) position = length behind - on_link position + (n - 1)
  commands_left woken shown (Reports row port found count text) position =
      (if bytes_eq shown text then 0 else 1) + (n - 1)
  commands_left woken shown (GoesToAccuse port ahead) position = length ahead + 1 - on_link position
  commands_left woken shown Ends position = 0

  -- a turn that is no counted command: to enter, to wake up, to arrive
  abbrev pub other_turns : Charting → Position → ℕ
  other_turns Begins position = 2
  other_turns (Waits count text) position = 1
  other_turns it position = on_link position

  abbrev pub turns_left : (woken : ℕ) → (text : List ℕ) → Charting → Position → ℕ
  turns_left woken shown it position = 2 * commands_left woken shown it position + other_turns it position

  -- what a change of the home base's whiteboard may cost an agent
  abbrev pub refill : ℕ
  refill = terms.wakeups + 3

  -- what the states of ports have paid for: moves, commands, and turns of all agents
  abbrev pub fares : Chart → ℕ
  fares chart = 2 * (n - 1) * taken chart

  abbrev pub paid : Chart → ℕ
  paid chart = (2 * n - 1) * taken chart + refill * changes chart

  abbrev pub shared : Chart → ℕ
  shared chart = terms.agents * (2 * refill * changes chart)

  -- and at most can
  abbrev pub most_paid : ℕ
  most_paid = (2 * n - 1) * ports + refill * (2 * ports)

  abbrev pub most_shared : ℕ
  most_shared = terms.agents * (2 * refill * (2 * ports))

  -- what agents owe together

  abbrev pub ways_left : Configuration → ℕ
  ways_left configuration = total (λ k. way_left (mem configuration k) (configuration.position k)) terms.agents

  abbrev pub commands_of : Configuration → (k : ℕ) → ℕ
  commands_of configuration k =
      commands_left (configuration.woken k) (configuration.shown home) (mem configuration k) (configuration.position k)

  abbrev pub turns_of : Configuration → (k : ℕ) → ℕ
  turns_of configuration k =
      turns_left (configuration.woken k) (configuration.shown home) (mem configuration k) (configuration.position k)

  -- ---- the invariant

  -- what holds of one agent
  pub record IsFit (chart : Chart) (place : ℕ → ℕ) (configuration : Configuration) (k : ℕ) : Type 0 where
    pub placed : IsPlaced chart place configuration.shown configuration.reached (configuration.woken k)
        (mem configuration k) (configuration.position k)
    pub waits : has_left configuration k ≡ is_bound (configuration.position k)
    pub accuses : Accuses (mem configuration k) (configuration.accused k)
    pub used : configuration.used k + commands_of configuration k ≤ paid chart + (n + terms.wakeups)

  pub record Inv (configuration : Configuration) (left : ℕ) : Type 0 where
    pub chart : Chart
    pub place : ℕ → ℕ
    pub charted : IsCharted chart place configuration.shown configuration.reached
    pub claims : AreHeld chart place (λ k. held (mem configuration k))
    pub fit : (k : ℕ) → k < terms.agents → IsFit chart place configuration k
    pub nobody : (k : ℕ) → terms.agents ≤ k → configuration.used k ≡ 0
    pub moves : configuration.moves + ways_left configuration ≤ fares chart + terms.agents * (n - 2)
    pub turns : total (turns_of configuration) terms.agents + (2 * most_paid + most_shared)
        ≤ left + (2 * paid chart + shared chart)
