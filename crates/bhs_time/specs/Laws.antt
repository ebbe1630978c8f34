-- The laws of time, each over every world, every oblivious schedule and every timed execution.
use Rattle.std.specs.Prelude.{ℕ, true, false, ◌≡◌, ◌<◌, ◌≤◌, Some, List}
use Rattle.bhs_model.specs.Views.{View, Start, Told, Arrived}
use Rattle.bhs_model.specs.Worlds.{World}
use Rattle.bhs_model.specs.Runs.{Position, Before, At, Bound, run, position_after, is_doomed, is_let_through}
use Rattle.bhs_model.specs.Twins.{SameButDoom, RevealsNothing}
use Rattle.bhs_model.specs.Runs.{initial}
use Rattle.bhs_model.specs.Draws.{Held, is_held, SlowInstead}
use Rattle.bhs_model.specs.Cuts.{node_reached}
use Rattle.bhs_model.specs.Laws.{IsPlaying, AreAnsweredAlike}
use Rattle.bhs_time.specs.TimedViews.{TimedView, Fresh, ToldAt, ArrivedAt, TimedSight, bare, bare_write, departed_at}
use Rattle.bhs_time.specs.Schedules.{Schedule, releases}
use Rattle.bhs_time.specs.TimedRuns.{TimedState, TimedAct, Passes, timed_run, timed_events, timed_next}

-- Clocks only stamp: without its turns a timed execution is the match that its events make, so the laws of the model
-- hold for it, and its replies are those of the model.
pub record IsTheMatch (world : World) (held : Held) (schedule : Schedule) (acts : List TimedAct) : Type 0 where
  pub state : (timed_run world held schedule acts).state ≡ run world (timed_events world held schedule acts)
  pub pasts : (agent : ℕ) →
      bare ((timed_run world held schedule acts).pasts agent) ≡ (timed_run world held schedule acts).state.past agent
  pub writes : (node : ℕ) →
      bare_write ((timed_run world held schedule acts).writes node) ≡
      (timed_run world held schedule acts).state.last_write node

abbrev pub ClocksOnlyStamp : Type 0
ClocksOnlyStamp = (world : World) (held : Held) (schedule : Schedule) (acts : List TimedAct) →
    IsTheMatch world held schedule acts

-- a turn is the first, from a turn on, that releases an agent which departed at that turn
pub record IsFirst (schedule : Schedule) (agent from turn : ℕ) : Type 0 where
  pub later : from ≤ turn
  pub released : releases schedule agent from turn ≡ true
  pub none_before : (earlier : ℕ) → from ≤ earlier → earlier < turn → releases schedule agent from earlier ≡ false

-- each arrival in this past was at the first turn from the departure on that releases the agent
abbrev pub IsPunctual : Schedule → (agent : ℕ) → TimedView → Type 0
IsPunctual schedule agent Fresh = Unit {0}
IsPunctual schedule agent (ToldAt before turn command glance) = IsPunctual schedule agent before
IsPunctual schedule agent (ArrivedAt before turn sight) =
    IsFirst schedule agent (departed_at before) turn × IsPunctual schedule agent before

-- While an agent is on a link that is neither destroying nor held, no turn since its departure has released it.
abbrev pub IsNotYetReleased : World → Held → Schedule → TimedState → (agent : ℕ) → Type 0
IsNotYetReleased world held schedule timed agent =
    timed.state.closed ≡ false → is_let_through world (timed.state.position agent) ≡ true →
    is_held held (timed.state.position agent) ≡ false →
    (earlier : ℕ) → departed_at (timed.pasts agent) ≤ earlier → earlier < timed.turn →
    releases schedule agent (departed_at (timed.pasts agent)) earlier ≡ false

-- Arrivals are by the words: an agent arrives at the first turn since its departure that releases it, neither sooner
-- nor later, whatever else happens.
pub record ArrivesByTheWords (world : World) (held : Held) (schedule : Schedule) (acts : List TimedAct)
    (agent : ℕ) : Type 0 where
  pub arrived : IsPunctual schedule agent ((timed_run world held schedule acts).pasts agent)
  pub waiting : IsNotYetReleased world held schedule (timed_run world held schedule acts) agent

abbrev pub ArrivalsAreByTheWords : Type 0
ArrivalsAreByTheWords = (world : World) (held : Held) (schedule : Schedule) (acts : List TimedAct) (agent : ℕ) →
    ArrivesByTheWords world held schedule acts agent

-- Equal waits: take two matches under one schedule, which may differ in everything else. If an agent with the same
-- timed view before arrives next in both, then it arrives at the same turn.
abbrev pub EqualWaits : Type 0
EqualWaits = (schedule : Schedule) (world : World) (held : Held) (acts : List TimedAct)
    (other : World) (still : Held) (others : List TimedAct) (agent : ℕ)
    (before : TimedView) (turn later : ℕ) (sight seen : TimedSight) →
    (timed_run world held schedule acts).pasts agent ≡ ArrivedAt before turn sight →
    (timed_run other still schedule others).pasts agent ≡ ArrivedAt before later seen →
    turn ≡ later

-- the position after an arrival from a position
abbrev pub reached : World → Position → Position
reached world (Bound node port) = let far = world.net.far node port in At far.0 (Some far.1)
reached world position = position

-- the position of an agent, by its past
abbrev pub stands : World → View → Position
stands world Start = Before
stands world (Told view command glance) = position_after world (stands world view) command
stands world (Arrived view sight) = reached world (stands world view)

-- How an agent stands in two matches, and how it stands one turn later: at the same place, and with the same timed
-- view, if the node at which it may arrive has the same last write with the same turns. It sees nothing else.
pub record GoesOnAlike (world : World) (held : Held) (schedule : Schedule) (here : TimedState)
    (other : World) (still : Held) (there : TimedState) (agent : ℕ) : Type 0 where
  pub positions : here.state.position agent ≡ there.state.position agent
  pub next_positions : (timed_next world held schedule here Passes).state.position agent
      ≡ (timed_next other still schedule there Passes).state.position agent
  pub next_pasts : ((node : ℕ) → node_reached world (here.state.position agent) ≡ Some node →
      here.writes node ≡ there.writes node) →
      (timed_next world held schedule here Passes).pasts agent ≡
      (timed_next other still schedule there Passes).pasts agent

-- Isolation in time. Two matches may differ in their other agents, in these agents' commands, and in black holes, dark
-- links and held links. If an agent has the same timed view in both matches, then it arrives with the next turn in both
-- or in neither, unless its link destroys or is held in only one of the matches.
abbrev pub IsolatedInTime : Type 0
IsolatedInTime = (world : World) (held : Held) (schedule : Schedule) (acts : List TimedAct)
    (other : World) (still : Held) (others : List TimedAct) (agent : ℕ) →
    world.net ≡ other.net → world.home ≡ other.home →
    (timed_run world held schedule acts).state.closed ≡ false → (timed_run other still schedule others).state.closed
    ≡ false →
    (timed_run world held schedule acts).turn ≡ (timed_run other still schedule others).turn →
    (timed_run world held schedule acts).pasts agent ≡ (timed_run other still schedule others).pasts agent →
    is_doomed world ((timed_run world held schedule acts).state.position agent)
    ≡ is_doomed other ((timed_run world held schedule acts).state.position agent) →
    is_held held ((timed_run world held schedule acts).state.position agent)
    ≡ is_held still ((timed_run world held schedule acts).state.position agent) →
    GoesOnAlike world held schedule (timed_run world held schedule acts) other still
    (timed_run other still schedule others) agent

-- Agents with equal timed views are answered alike: of the worlds only the quota and the size of a whiteboard count,
-- and the schedules may differ.
abbrev pub EqualPastsInTime : Type 0
EqualPastsInTime = (world : World) (held : Held) (schedule : Schedule) (acts : List TimedAct)
    (other : World) (still : Held) (slower : Schedule) (others : List TimedAct) (agent who : ℕ) →
    world.quota ≡ other.quota → world.board ≡ other.board →
    IsPlaying world (timed_events world held schedule acts) agent → IsPlaying other
    (timed_events other still slower others) who →
    (timed_run world held schedule acts).pasts agent ≡ (timed_run other still slower others).pasts who →
    AreAnsweredAlike world (timed_events world held schedule acts) agent other
    (timed_events other still slower others) who

-- Take two worlds that are equal but for what destroys. If no agent arrives in either match over a link that destroys
-- in the other, then the same acts lead to the same timed state: each agent has the same past with the same turns.
abbrev pub HolesDoNotShowInTime : Type 0
HolesDoNotShowInTime = (world other : World) (held : Held) (schedule : Schedule) (acts : List TimedAct) →
    SameButDoom world other →
    RevealsNothing world other initial (timed_events world held schedule acts) →
    RevealsNothing other world initial (timed_events other held schedule acts) →
    timed_run world held schedule acts ≡ timed_run other held schedule acts

-- A match with black holes and dark links, and the match in which those links are held for good instead, come to the
-- same timed state, whatever is said: each agent meets the same at the same turns.
abbrev pub HolesLookSlowInTime : Type 0
HolesLookSlowInTime = (world : World) (held : Held) (slow : World) (still : Held) (schedule : Schedule)
    (acts : List TimedAct) →
    SlowInstead world held slow still → timed_run world held schedule acts ≡ timed_run slow still schedule acts
