-- What the program does with its words: to its input and its output, call by call, and with which exit status.
use Rattle.std.specs.Prelude.{◌≡◌, ◌⊎◌, ℕ, Bool, IsTrue, List, Some, map}
use Rattle.std.specs.List.{list_any}
use Rattle.bhs_stream.specs.Streams.{Chunk, WriteAnswer}
use Rattle.bhs_cli_words.specs.CommandLine.{AreRefused, faults, is_asked, order_in}
use Rattle.bhs_cli_words.specs.declared.orders.Order.{Order}
use Rattle.bhs_cli_words.specs.declared.orders.Order.TheVariants as order
use Rattle.bhs_cli_results.specs.Appeals.{Appeals}
use Rattle.bhs_cli_results.specs.ContestTables.{TablesContest}
use Rattle.bhs_cli_attest.specs.Attesting.{AttestsReplay}
use Rattle.bhs_cli_explore.specs.Discoveries.{Explores}
use Rattle.bhs_cli_explore.specs.Holes.{ExploresHoles}
use Rattle.bhs_cli.specs.Fault.{IsOfFault}
use Rattle.bhs_cli_explore.specs.ModuleExploration.{ExploresModules}
use Rattle.bhs_cli.specs.Showing.{Rests}
use Rattle.bhs_cli_rehearse.specs.RehearsedTournaments.{RehearsesEither}
use Rattle.bhs_cli_rehearse.specs.InteractiveTournaments.{InteractsEither}
use Rattle.bhs_cli.specs.Parts.{IsRecovered}
use Rattle.bhs_cli_results.specs.Recovery.{RecoversContest}
use Rattle.bhs_cli_results.specs.Reports.{IsJudgement, IsTable, IsPast, IsTwinReplay, HasNoTwin}
use Rattle.bhs_cli.specs.Showing.{Prints, PrintsByLine, Reports}
use Rattle.bhs_cli.specs.Summary.{IsSummary}
use Rattle.bhs_cli_results.specs.declared.explain.OutputKind.{OutputKind}
use Rattle.bhs_cli.specs.declared.reporting.statuses.TheConstants.{DONE, FAILING, NO_MEMORY, REFUSED_WORDS}
use Rattle.bhs_cli_serve.specs.Contests.{Serves}

-- an exit status of the program: all was done, the words are refused, a schedule fails, or a fault came
abbrev pub IsStatus : ℕ → Type 0
IsStatus code = (code ≡ DONE) ⊎ (((code ≡ REFUSED_WORDS) ⊎ (code ≡ FAILING)) ⊎ IsOfFault code)

-- The past of an agent is printed, for a kind of output. No contract can say of which kind standard output is.
pub record Explains {O : Type 0} (takes : O → List ℕ → WriteAnswer → O → Type 0) (flushes : O → Bool → O → Type 0)
    (agent : ℕ) (output output' : O) (code : ℕ) : Type 0 where
  pub kind : OutputKind
  pub printed : Reports (PrintsByLine takes flushes) (IsPast kind agent) output output' code

-- the transition relations of written files, input and output
module _ {P I O : Type 0} (files : P → List ℕ → WriteAnswer → P → Type 0) (gives : I → Chunk → I → Type 0)
    (takes : O → List ℕ → WriteAnswer → O → Type 0) (flushes : O → Bool → O → Type 0) where
  -- a report that is printed at once, and one that is printed line by line
  abbrev pub Tells : (IsReport : List ℕ → Type 0) → (output output' : O) → ℕ → Type 0
  Tells = Reports (Prints takes flushes)

  abbrev pub TellsByLine : (IsReport : List ℕ → Type 0) → (output output' : O) → ℕ → Type 0
  TellsByLine = Reports (PrintsByLine takes flushes)

  -- the effect of an order, once memory suffices to begin
  abbrev pub Does : Order → (input input' : I) → (output output' : O) → ℕ → Type 0
  Does (order.Rehearse tournament prefix) input input' output output' code =
      RehearsesEither files gives takes flushes tournament prefix input input' output output' code
  Does (order.RehearseInteractively tournament prefix) input input' output output' code =
      InteractsEither files gives takes flushes tournament prefix input input' output output' code
  Does (order.Check name) input input' output output' code = (input' ≡ input) × Tells IsSummary output output' code
  Does (order.Judge replay) input input' output output' code = (input' ≡ input) × Tells IsJudgement output output' code
  Does (order.Appeal replay appeal) input input' output output' code =
      (input' ≡ input) × Appeals takes flushes appeal.game output output' code
  Does (order.Table entries) input input' output output' code =
      (input' ≡ input) × Tells (IsTable entries) output output' code
  Does (order.ContestTable name prefix) input input' output output' code =
      (input' ≡ input) × TablesContest takes flushes output output' code
  Does (order.Explain replay agent) input input' output output' code =
      (input' ≡ input) × Explains takes flushes agent output output' code
  Does (order.Twin replay node) input input' output output' code =
      (input' ≡ input) × (TellsByLine (IsTwinReplay node) output output' code ⊎ HasNoTwin node output output' code)
  Does (order.Recover part) input input' output output' code =
      (input' ≡ input) × TellsByLine IsRecovered output output' code
  Does (order.RecoverContest name prefix) input input' output output' code =
      (input' ≡ input) × RecoversContest files takes flushes output output' code
  Does (order.Explore name exploration) input input' output output' code =
      Explores takes flushes exploration input input' output output' code
  Does (order.ExploreModules name modules exploration) input input' output output' code =
      (input' ≡ input)
      × ExploresModules takes flushes (map (λ it. it.arguments) modules) exploration output output' code
  Does (order.ExploreAllHoles name modules exploration) input input' output output' code =
      (input' ≡ input)
      × ExploresHoles takes flushes (map (λ it. it.arguments) modules) exploration output output' code
  Does (order.Attest replay modules wakeups) input input' output output' code =
      (input' ≡ input) × AttestsReplay takes flushes (map (λ it. it.arguments) modules) wakeups output output' code
  Does (order.Serve name hosting) input input' output output' code =
      (input' ≡ input) × Serves files takes flushes hosting.port output output' code

  pub data Obeys (order : Order) (input input' : I) (output output' : O) (code : ℕ) : Type 0 where
    does : Does order input input' output output' code → Obeys order input input' output output' code
    -- memory ran out before the command began
    lacks_memory : code ≡ NO_MEMORY → Rests input input' output output' → Obeys order input input' output output' code

  -- how the program goes on these words
  pub data Runs (words : List (List ℕ)) (input input' : I) (output output' : O) (code : ℕ) : Type 0 where
    -- the words give an order
    obeys : (order : Order) → order_in words ≡ Some order → Obeys order input input' output output' code
        → Runs words input input' output output' code
    -- they ask for help
    helps : (text : List ℕ) → IsTrue (list_any is_asked (faults words)) → input' ≡ input
        → Prints takes flushes text output output' code → Runs words input input' output output' code
    -- they are refused
    refuses_words : AreRefused words → code ≡ REFUSED_WORDS → Rests input input' output output'
        → Runs words input input' output output' code
    -- memory ran out before the words were read
    lacks_room : code ≡ NO_MEMORY → Rests input input' output output' → Runs words input input' output output' code
