-- How what several passes say is compared with what stands in a log.
use Rattle.std.specs.Prelude.{ℕ, ◌<◌, ◌≡◌, ◌⊎◌, Bool, true, false, not, Option, Some, None, List, [], ◌∷◌, ◌++◌, ◌==◌}
use Rattle.std.specs.Prelude.{nat_lt, if◌then◌else◌, length, map, filter, take, slice_get}
use Rattle.std.specs.List.{list_any, range_with_len, AllByRecursion}
use Rattle.bhs_net.specs.Network.{Network}
use Rattle.bhs_model.specs.declared.setups.Setup.{Setup}
use Rattle.bhs_match.specs.Matches.{Play, arrivals}
use Rattle.bhs_shared_match.specs.declared.model.Receipt.{Receipt}
use Rattle.bhs_shared_match.specs.Passes.{Passed}
use Rattle.bhs_shared_match.specs.Arrivals.{receipt_at}
use Rattle.bhs_shared_match.specs.Comparing.{HeardEntry, heard_in, receipted, IsFirstDifference}

-- an entry of the log for an agent, and the entry in its pass
pub record Compared (A : Type 0) : Type 0 where
  pub agent : ℕ
  pub logged : List A
  pub said : List A

-- nothing differs
abbrev pub Agree : {A : Type 0} → List (Compared A) → Type 0
Agree all = AllByRecursion (λ one. one.logged ≡ one.said) all

-- what is compared differs for no lesser agent, and for this one at no lesser index
pub record IsBefore {A : Type 0} (agent index : ℕ) (one : Compared A) : Type 0 where
  pub lesser : one.agent < agent → one.logged ≡ one.said
  pub same : one.agent ≡ agent → (k : ℕ) → k < index → slice_get one.logged k ≡ slice_get one.said k

-- Some comparison of this agent differs first at this index.
abbrev pub DiffersAt : {A : Type 0} → (agent index : ℕ) → List (Compared A) → Type 0
DiffersAt agent index [] = ⊥
DiffersAt agent index (one ∷ others) = ((one.agent ≡ agent) × IsFirstDifference one.logged one.said index)
    ⊎ DiffersAt agent index others

-- the least agent, and its least index, at which anything differs
pub record IsLeastDifference {A : Type 0} (all : List (Compared A)) (agent index : ℕ) : Type 0 where
  pub there : DiffersAt agent index all
  pub before : AllByRecursion (IsBefore agent index) all

-- the least difference, where one exists
abbrev pub IsLeast : {A : Type 0} → List (Compared A) → Option (ℕ × ℕ) → Type 0
IsLeast all None = Agree all
IsLeast all (Some found) = IsLeastDifference all found.0 found.1

-- whether this pair of agent and index comes before the other
abbrev pub precedes : (agent index : ℕ) → ℕ × ℕ → Bool
precedes agent index other = if nat_lt agent other.0 then true
    else (if agent == other.0 then nat_lt index other.1 else false)

-- the lesser of an optional difference and an agent's optional index
abbrev pub lesser : Option (ℕ × ℕ) → (agent : ℕ) → Option ℕ → Option (ℕ × ℕ)
lesser best agent None = best
lesser None agent (Some index) = Some (agent, index)
lesser (Some best) agent (Some index) = if precedes agent index best then Some (agent, index) else Some best

-- whether some pass belongs to the agent
abbrev pub has_pass : List Passed → (agent : ℕ) → Bool
has_pass passes agent = list_any (λ pass. pass.agent == agent) passes

-- the heard commands of a pass's agent, and its receipts with the kept commands
abbrev pub told_by : Play → Passed → Compared HeardEntry
told_by play pass = record {
  agent = pass.agent;
  logged = heard_in pass.agent play.log;
  said = receipted pass.receipts pass.commands;
}

-- the heard commands of an agent of whom nothing is said
abbrev pub told_by_none : Play → (agent : ℕ) → Compared HeardEntry
told_by_none play agent = record { agent = agent; logged = heard_in agent play.log; said = [] }

-- the agents without a pass, of the first of this number
abbrev pub without_pass : List Passed → (agents : ℕ) → List ℕ
without_pass passes agents = filter (λ agent. not (has_pass passes agent)) (range_with_len 0 agents)

-- the comparisons of commands: each pass, and each agent without a pass
abbrev pub commands_of : Play → List Passed → List (Compared HeardEntry)
commands_of play passes = map (told_by play) passes ++ map (told_by_none play) (without_pass passes play.setup.agents)

-- the arrivals of a pass's agent, as many as the pass has, and those of the pass
abbrev pub arrived_by : Play → Passed → Compared (Option Receipt)
arrived_by play pass = record {
  agent = pass.agent;
  logged = take (length pass.arrivals) (map (receipt_at play.log) (arrivals pass.agent play.log));
  said = map Some pass.arrivals;
}

-- the comparisons of arrivals
abbrev pub arrivals_of : Play → List Passed → List (Compared (Option Receipt))
arrivals_of play passes = map (arrived_by play) passes

-- whether a pass was taken out, of the passes that are left by agent
abbrev pub is_claimed : List (Option Passed) → (agent : ℕ) → Bool
is_claimed left agent = is_taken (slice_get left agent) where
  is_taken : Option (Option Passed) → Bool
  is_taken (Some None) = true
  is_taken place = false

-- whether an agent's pass was claimed and does not come back
abbrev pub is_missing : List (Option Passed) → List Passed → (agent : ℕ) → Bool
is_missing left passes agent = if is_claimed left agent then not (has_pass passes agent) else false

-- no agent's pass is missing
abbrev pub NoneMissing : (agents : ℕ) → List (Option Passed) → List Passed → Type 0
NoneMissing agents left passes = (agent : ℕ) → agent < agents → is_missing left passes agent ≡ false

-- the least agent whose pass is missing
pub record IsLeastMissing (left : List (Option Passed)) (passes : List Passed) (agent : ℕ) : Type 0 where
  pub there : is_missing left passes agent ≡ true
  pub before : (other : ℕ) → other < agent → is_missing left passes other ≡ false

-- The match has the given network and setup.
pub record IsOfWorld (net : Network) (setup : Setup) (play : Play) : Type 0 where
  pub same_net : play.net ≡ net
  pub same_setup : play.setup ≡ setup
