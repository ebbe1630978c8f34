-- What is printed of the schedules that were tried, or drawn.
use Rattle.std.specs.Prelude.{◌≡◌, ℕ, ◌<◌, Bool, true, false, List, [], ◌∷◌, ◌++◌, codes, decimal, Some, is_some}
use Rattle.std.specs.Prelude.{slice_get, nat_lt}
use Rattle.bhs_net.specs.Network.{nodes_of, degree_of}
use Rattle.bhs_stream.specs.Streams.{WriteAnswer}
use Rattle.bhs_deliveries.specs.Links.{held_in}
use Rattle.bhs_referee.specs.declared.verdicts.Verdict.{Verdict}
use Rattle.bhs_standings.specs.Tables.{outcome_text}
use Rattle.bhs_setups.specs.declared.lineups.Lineup.{Lineup}
use Rattle.bhs_setups.specs.declared.lineups.Ready.{Ready}
use Rattle.bhs_cli_words.specs.declared.orders.Exploration.{Exploration}
use Rattle.bhs_schedules.specs.declared.results.Bounds.{Bounds}
use Rattle.bhs_schedules.specs.declared.results.Finding.{Finding}
use Rattle.bhs_schedules.specs.declared.results.Finding.TheVariants.{Solves, Comes, Fails, Breaks, Endless, Exceeds}
use Rattle.bhs_schedules.specs.declared.results.Failure.{Failure}
use Rattle.bhs_schedules.specs.declared.results.Failure.TheVariants as failures
use Rattle.bhs_explore.specs.declared.sampler.SampleResult.{SampleResult}
use Rattle.bhs_explore.specs.declared.explorers.Explored.{Explored}
use Rattle.bhs_explore.specs.Answers.{Knowledge, is_held}
use Rattle.bhs_explore.specs.Counting.{is_excess, is_failure}
use Rattle.bhs_explore.specs.Questions.{IsAskedOnce, SomeMachinesAnswer}
use Rattle.bhs_explore.specs.Results.{IsTrueOf}
use Rattle.bhs_cli.specs.Fault.{status}
use Rattle.bhs_cli.specs.Showing.{Rests}
use Rattle.bhs_cli.specs.Showing.{Shows}
use Rattle.bhs_cli.specs.Summary.{IsAssembled}
use Rattle.bhs_cli_explore.specs.declared.discoveries.Discovery.{Discovery}
use Rattle.bhs_cli_explore.specs.declared.discoveries.Discovery.TheVariants as discoveries
use Rattle.bhs_cli.specs.declared.reporting.faults.Fault.{Fault}
use Rattle.bhs_cli.specs.declared.reporting.statuses.TheConstants.{DONE, FAILING, REFUSED_TEXT}

-- ---- the text

-- the text of a list of numbers: the first after this opening, each further one after a comma
abbrev pub items_text : (before : List ℕ) → List ℕ → List ℕ
items_text before [] = []
items_text before (number ∷ numbers) = (before ++ decimal number) ++ items_text (codes ",") numbers

-- a list of numbers, as JSON spells it
abbrev pub list_text : List ℕ → List ℕ
list_text numbers = (codes "[" ++ items_text (codes "") numbers) ++ codes "]"

-- a pair of numbers, as JSON spells it
abbrev pub pair_text : ℕ × ℕ → List ℕ
pair_text pair = codes "[" ++ (decimal pair.0 ++ (codes "," ++ (decimal pair.1 ++ codes "]")))

-- the text of a list of pairs: the first after this opening, each further one after a comma
abbrev pub pair_items : (before : List ℕ) → List (ℕ × ℕ) → List ℕ
pair_items before [] = []
pair_items before (pair ∷ pairs) = (before ++ pair_text pair) ++ pair_items (codes ",") pairs

-- a list of pairs of numbers, as JSON spells it
abbrev pub pairs_text : List (ℕ × ℕ) → List ℕ
pairs_text pairs = (codes "[" ++ pair_items (codes "") pairs) ++ codes "]"

-- the line of what every schedule comes to
abbrev pub solves_line : Bounds → List ℕ
solves_line bounds =
    (codes "{\"found\":\"solves\",\"moves\":" ++ (decimal bounds.moves
    ++ (codes ",\"lost\":" ++ (decimal bounds.lost
    ++ (codes ",\"turns\":" ++ decimal bounds.turns)))))
    ++ (codes ",\"naps\":" ++ (decimal bounds.wakeups
    ++ (codes ",\"commands\":" ++ (list_text bounds.commands.items ++ codes "}\n"))))

-- the word for yes or no, as JSON spells it
abbrev pub bool_text : Bool → List ℕ
bool_text true = codes "true"
bool_text false = codes "false"

-- the line of a round that may go on for ever
abbrev pub endless_line : (schedule cycle : List ℕ) → (is_fair : Bool) → List ℕ
endless_line schedule cycle is_fair =
    codes "{\"found\":\"endless\",\"schedule\":" ++ (list_text schedule
    ++ (codes ",\"round\":" ++ (list_text cycle
    ++ (codes ",\"fair\":" ++ (bool_text is_fair ++ codes "}\n")))))

-- the line of a schedule that solves
abbrev pub comes_line : Verdict → (schedule : List ℕ) → List ℕ
comes_line verdict schedule =
    codes "{\"found\":\"comes\",\"moves\":" ++ (decimal verdict.moves
    ++ (codes ",\"lost\":" ++ (decimal verdict.lost
    ++ (codes ",\"schedule\":" ++ (list_text schedule ++ codes "}\n")))))

-- the line of a schedule that fails
abbrev pub fails_line : Verdict → (schedule : List ℕ) → List ℕ
fails_line verdict schedule =
    codes "{\"found\":\"fails\",\"outcome\":\"" ++ (outcome_text verdict.outcome
    ++ (codes "\",\"moves\":" ++ (decimal verdict.moves
    ++ (codes ",\"lost\":" ++ (decimal verdict.lost
    ++ (codes ",\"schedule\":" ++ (list_text schedule ++ codes "}\n")))))))

-- the word for how an agent fails
abbrev pub failure_text : Failure → List ℕ
failure_text failures.Program = codes "program"
failure_text failures.Close = codes "close"
failure_text failures.Outside = codes "outside"
failure_text failures.Asleep = codes "asleep"

-- the line of a schedule under which an agent fails
abbrev pub breaks_line : (agent : ℕ) → Failure → (schedule : List ℕ) → List ℕ
breaks_line agent failure schedule =
    codes "{\"found\":\"breaks\",\"agent\":" ++ (decimal agent
    ++ (codes ",\"failure\":\"" ++ (failure_text failure
    ++ (codes "\",\"schedule\":" ++ (list_text schedule ++ codes "}\n")))))

-- the line of a finding
abbrev pub found_line : Finding → List ℕ
found_line (Solves bounds) = solves_line bounds
found_line (Comes verdict schedule) = comes_line verdict schedule.items
found_line (Fails verdict schedule) = fails_line verdict schedule.items
found_line (Breaks agent failure schedule) = breaks_line agent failure schedule.items
found_line (Endless schedule cycle is_fair) = endless_line schedule.items cycle.items is_fair
found_line (Exceeds agent commands) =
    codes "{\"found\":\"exceeds\",\"agent\":" ++ (decimal agent
    ++ (codes ",\"commands\":" ++ (decimal commands ++ codes "}\n")))

-- the line of how much was visited
abbrev pub counts_line : Explored → List ℕ
counts_line explored =
    codes "{\"states\":" ++ (decimal explored.states
    ++ (codes ",\"memories\":" ++ (decimal explored.memories
    ++ (codes ",\"stances\":" ++ (decimal explored.locals
    ++ (codes ",\"boards\":" ++ (decimal explored.boards ++ codes "}\n")))))))

-- the line of what was counted of drawn schedules
abbrev pub draws_line : SampleResult → List ℕ
draws_line drawn =
    (codes "{\"solved\":" ++ (decimal drawn.solved
    ++ (codes ",\"failed\":" ++ (decimal drawn.failed
    ++ (codes ",\"turns\":" ++ (decimal drawn.turns
    ++ (codes ",\"moves\":" ++ pairs_text drawn.moves.items)))))))
    ++ (codes ",\"lost\":" ++ (pairs_text drawn.lost.items
    ++ (codes ",\"memories\":" ++ (decimal drawn.memories
    ++ (codes ",\"stances\":" ++ (decimal drawn.locals ++ codes "}\n"))))))

-- a finding about every schedule, or about the schedules that were drawn
abbrev pub found_in : Discovery → Finding
found_in (discoveries.Tried explored) = explored.found
found_in (discoveries.Drawn drawn) = drawn.found

-- whether the schedules were drawn
abbrev pub is_drawn : Discovery → Bool
is_drawn (discoveries.Tried explored) = false
is_drawn (discoveries.Drawn drawn) = true

-- what was counted beside it
abbrev pub counted_line : Discovery → List ℕ
counted_line (discoveries.Tried explored) = counts_line explored
counted_line (discoveries.Drawn drawn) = draws_line drawn

abbrev pub discovery : Discovery → List ℕ
discovery found = found_line (found_in found) ++ counted_line found

-- the exit status of what was found
abbrev pub found_status : Finding → ℕ
found_status (Solves bounds) = DONE
found_status (Comes verdict schedule) = DONE
found_status (Fails verdict schedule) = FAILING
found_status (Breaks agent failure schedule) = FAILING
found_status (Endless schedule cycle is_fair) = FAILING
found_status (Exceeds agent commands) = REFUSED_TEXT

-- ---- what it is true of

-- these are the held links of the network
abbrev pub AreLinks : Ready → List (ℕ × ℕ) → Type 0
AreLinks ready links = (node port : ℕ) → node < nodes_of ready.game.net → port < degree_of ready.game.net node
    → is_held links node port ≡ held_in ready.held node port

-- what was answered of the agents of this match, with its held links and this number of spurious wake-ups
pub record IsOf (ready : Ready) (exploration : Exploration) (known : Knowledge) : Type 0 where
  pub net : known.net ≡ ready.game.net
  pub setup : known.setup ≡ ready.game.setup
  pub held : AreLinks ready known.held
  pub wakeups : known.wakeups ≡ exploration.wakeups

-- Of drawn schedules one is told that fails exactly if some were counted that fail, unless an agent wants more commands
-- than its quota.
abbrev pub IsCounted : Discovery → Type 0
IsCounted (discoveries.Tried explored) = Unit {0}
IsCounted (discoveries.Drawn drawn) = is_excess drawn.found ≡ false → is_failure drawn.found ≡ nat_lt 0 drawn.failed

-- What was found is true of all machines that answer as was noted in an exploration of this match, and there are such
-- machines, since each question was asked once. Schedules were drawn if the exploration has that.
pub record IsFound (ready : Ready) (exploration : Exploration) (found : Discovery) : Type 0 where
  pub known : Knowledge
  pub of : IsOf ready exploration known
  pub once : IsAskedOnce known
  pub some : SomeMachinesAnswer known
  pub kind : is_drawn found ≡ is_some exploration.drawing
  pub is_true : IsTrueOf known (found_in found)
  pub counted : IsCounted found

-- ---- the order

-- the calls of the output
module _ {O : Type 0} (takes : O → List ℕ → WriteAnswer → O → Type 0) (flushes : O → Bool → O → Type 0) where
  -- what was found is printed last and passed on, and told by the exit status
  pub record PrintsDiscovery (ready : Ready) (exploration : Exploration) (output' : O) (code : ℕ) : Type 0 where
    pub found : Discovery
    pub is_found : IsFound ready exploration found
    pub told : code ≡ found_status (found_in found)
    pub there : O
    pub printed : Shows takes flushes (discovery found) true there output'

  -- what the exit status says of an exploration of a match
  pub data ExploresMatch (ready : Ready) (exploration : Exploration) (output' : O) (code : ℕ) : Type 0 where
    -- every question was answered, and the finding is printed
    exploration_done : PrintsDiscovery ready exploration output' code → ExploresMatch ready exploration output' code
    -- a fault ended it
    exploration_ends : (fault : Fault) → code ≡ status fault → ExploresMatch ready exploration output' code

  -- an exploration of a match of the tournament that is named
  pub data Explores {I : Type 0} (exploration : Exploration) (input input' : I) (output output' : O) (code : ℕ) :
      Type 0 where
    explores_on : (lineup : Lineup) → IsAssembled lineup → (ready : Ready)
        → slice_get lineup.ready.items exploration.game ≡ Some ready
        → ExploresMatch ready exploration output' code → Explores exploration input input' output output' code
    -- a fault of the tournament: its file is refused or cannot be read, or it has no such match
    explores_nothing : (fault : Fault) → code ≡ status fault → Rests input input' output output'
        → Explores exploration input input' output output' code
