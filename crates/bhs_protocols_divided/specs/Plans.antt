-- Plans for two agents that search a network with a map. A plan gives each agent an itinerary, a list of actions, for
-- each stage of the search. A stage begins with a division of the unexplored nodes, and the sequence of divisions so
-- far determines it.
use Rattle.std.specs.Prelude.{ℕ, zero, suc, ◌+◌, ◌-◌, ◌*◌, ◌/◌, ◌==◌, ◌≡◌, ◌≢◌, ◌<◌, ◌≤◌, Bool, true, false, List, []}
use Rattle.std.specs.Prelude.{◌∷◌, if◌then◌else◌}
use Rattle.bhs_net.specs.Network as networks
use Rattle.bhs_model.specs.Worlds.{Network}
use Rattle.bhs_model.specs.Setups.{network_of}

-- A sequence of actions. `node` is where the agent stands before each step and after the last; a step departs by the
-- port `ahead` to the node `target`, whose port `behind` leads back. Either the agent walks there over a safe link, or
-- it explores a new node: it crosses the link, returns, and marks the link as safe.
pub record Itinerary : Type 0 where
  pub steps : ℕ
  pub node : (step : ℕ) → ℕ
  pub ahead : (step : ℕ) → ℕ
  pub target : (step : ℕ) → ℕ
  pub behind : (step : ℕ) → ℕ
  pub is_new : (step : ℕ) → Bool

-- The divisions so far, the newest first. A division is a pair (side, step): the agent of this side had completed all
-- steps before this one and had explored no node beyond.
abbrev pub Divisions : Type 0
Divisions = List (ℕ × ℕ)

pub record Plan : Type 0 where
  pub itinerary : Divisions → (side : ℕ) → Itinerary

abbrev pub one_of : Bool → ℕ
one_of true = 1
one_of false = 0

-- how many new nodes the first steps explore
abbrev pub news : Itinerary → (steps : ℕ) → ℕ
news it zero = 0
news it (suc step) = news it step + one_of (it.is_new step)

-- how many nodes the agent of a side has explored before a stage
abbrev pub explored : Plan → Divisions → (side : ℕ) → ℕ
explored plan [] side = 0
explored plan (last ∷ before) side = explored plan before side
    + news (plan.itinerary before side) (if side == last.0 then last.1 else (plan.itinerary before side).steps)

-- how many nodes the agent of a side has explored in all once it has explored the new node of this step
abbrev pub count_at : Plan → Divisions → (side step : ℕ) → ℕ
count_at plan divisions side step = explored plan divisions side + news (plan.itinerary divisions side) step + 1

-- How many nodes are unexplored when the agent of this side stands before this step and its partner has explored its
-- part.
abbrev pub left_at : Plan → Divisions → (side step : ℕ) → ℕ
left_at plan divisions side step =
    news (plan.itinerary divisions side) (plan.itinerary divisions side).steps
    - news (plan.itinerary divisions side) step

-- ---- properties of plans

-- An itinerary is a closed walk along links of the network. It walks over at most 2 (n - 2) links, as a tour of a tree
-- that misses one node of the partner's part.
pub record IsItinerary (net : Network) (n : ℕ) (it : Itinerary) : Type 0 where
  pub ahead : (step : ℕ) → step < it.steps → it.ahead step < net.degree (it.node step)
  pub behind : (step : ℕ) → step < it.steps → it.behind step < net.degree (it.target step)
  pub out : (step : ℕ) → step < it.steps
      → net.far (it.node step) (it.ahead step) ≡ (it.target step, it.behind step)
  pub back : (step : ℕ) → step < it.steps
      → net.far (it.target step) (it.behind step) ≡ (it.node step, it.ahead step)
  pub stays : (step : ℕ) → step < it.steps → it.is_new step ≡ true → it.node (step + 1) ≡ it.node step
  pub goes : (step : ℕ) → step < it.steps → it.is_new step ≡ false → it.node (step + 1) ≡ it.target step
  pub round : it.node it.steps ≡ it.node 0
  pub few : it.steps ≤ news it it.steps + 2 * (n - 2)

-- the agent of this side explores this node in this step
pub record Explores (plan : Plan) (divisions : Divisions) (side step node : ℕ) : Type 0 where
  pub below : side < 2
  pub within : step < (plan.itinerary divisions side).steps
  pub is_new : (plan.itinerary divisions side).is_new step ≡ true
  pub is : (plan.itinerary divisions side).target step ≡ node

-- some step of one of the agents explores this node
pub record IsLeft (plan : Plan) (divisions : Divisions) (node : ℕ) : Type 0 where
  pub side : ℕ
  pub step : ℕ
  pub explores : Explores plan divisions side step node

-- A sequence of divisions that can occur: each one is told at a step that explores a node, while at least two nodes are
-- unexplored.
abbrev pub IsStage : Plan → Divisions → Type 0
IsStage plan [] = Unit
IsStage plan (last ∷ before) =
    IsStage plan before × (last.0 < 2) × (last.1 < (plan.itinerary before last.0).steps)
    × ((plan.itinerary before last.0).is_new last.1 ≡ true) × (2 ≤ left_at plan before last.0 last.1)

-- The conditions on one stage: both itineraries begin at one node; exactly one step explores each unexplored node; and
-- an agent walks to such a node only after exploring it.
pub record IsPlanned (net : Network) (n : ℕ) (plan : Plan) (divisions : Divisions) : Type 0 where
  pub itineraries : (side : ℕ) → side < 2 → IsItinerary net n (plan.itinerary divisions side)
  pub root : (plan.itinerary divisions 0).node 0 ≡ (plan.itinerary divisions 1).node 0
  pub once : (side step other later node : ℕ) → Explores plan divisions side step node
      → Explores plan divisions other later node → (side ≡ other) × (step ≡ later)
  pub known : (side step other later node : ℕ) → side < 2 → step < (plan.itinerary divisions side).steps
      → (plan.itinerary divisions side).is_new step ≡ false → (plan.itinerary divisions side).target step ≡ node
      → Explores plan divisions other later node → (side ≡ other) × (later < step)

-- The stage after a division at this step of a side. Its unexplored nodes are those that this side would explore from
-- this step on. The agent of this side keeps the larger half of them and explores the node of this step first.
pub record IsDivided (plan : Plan) (divisions : Divisions) (side step : ℕ) : Type 0 where
  pub some : 0 < (plan.itinerary ((side, step) ∷ divisions) side).steps
  pub is_new : (plan.itinerary ((side, step) ∷ divisions) side).is_new 0 ≡ true
  pub node : (plan.itinerary ((side, step) ∷ divisions) side).node 0 ≡ (plan.itinerary divisions side).node step
  pub ahead : (plan.itinerary ((side, step) ∷ divisions) side).ahead 0 ≡ (plan.itinerary divisions side).ahead step
  pub target : (plan.itinerary ((side, step) ∷ divisions) side).target 0 ≡ (plan.itinerary divisions side).target step
  pub behind : (plan.itinerary ((side, step) ∷ divisions) side).behind 0 ≡ (plan.itinerary divisions side).behind step
  pub left : (other later node : ℕ) → Explores plan ((side, step) ∷ divisions) other later node
      → (was : ℕ) × (step ≤ was) × Explores plan divisions side was node
  pub all : (later node : ℕ) → step ≤ later → Explores plan divisions side later node
      → IsLeft plan ((side, step) ∷ divisions) node
  pub greater : left_at plan ((side, step) ∷ divisions) side 0
      ≡ left_at plan divisions side step - left_at plan divisions side step / 2
  pub lesser : left_at plan ((side, step) ∷ divisions) (1 - side) 0 ≡ left_at plan divisions side step / 2

-- a plan for a network of n nodes from this home base
pub record IsPlan (net : Network) (home n : ℕ) (plan : Plan) : Type 0 where
  pub three : 3 ≤ n
  pub size : net.nodes ≡ n
  pub at_home : home < n
  pub start : (plan.itinerary [] 0).node 0 ≡ home
  pub all : (node : ℕ) → node < n → node ≢ home → IsLeft plan [] node
  pub within : (side step node : ℕ) → Explores plan [] side step node → (node < n) × (node ≢ home)
  pub greater : left_at plan [] 0 0 ≡ n / 2
  pub lesser : left_at plan [] 1 0 ≡ (n - 1) / 2
  pub planned : (divisions : Divisions) → IsStage plan divisions → IsPlanned net n plan divisions
  pub divided : (divisions : Divisions) (side step : ℕ) → IsStage plan ((side, step) ∷ divisions)
      → IsDivided plan divisions side step

-- the network of a file has a plan from this home base
pub record HasPlan (net : networks.Network) (home : ℕ) : Type 0 where
  pub plan : Plan
  pub is : IsPlan (network_of net) home (networks.nodes_of net) plan

-- each network of a file has a plan from each home base
abbrev pub NetworksHavePlans : Type 0
NetworksHavePlans = (net : networks.Network) (home : ℕ) → networks.IsNetwork net → home < networks.nodes_of net
    → HasPlan net home
