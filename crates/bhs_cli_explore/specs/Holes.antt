-- Explorations with --all-holes: each node other than the home base is the only black hole in turn.
use Rattle.std.specs.Prelude.{◌≡◌, ◌≢◌, ◌==◌, ◌<◌, ℕ, not, List, [], ◌∷◌, ◌++◌, codes, decimal, Option, Some, None}
use Rattle.std.specs.Prelude.{Bool, length, slice_get}
use Rattle.bhs_net.specs.Network.{nodes_of}
use Rattle.bhs_model.specs.declared.setups.Setup.{Setup}
use Rattle.bhs_model.specs.Setups.{nodes_where}
use Rattle.bhs_stream.specs.Streams.{WriteAnswer}
use Rattle.bhs_setups.specs.declared.lineups.Lineup.{Lineup}
use Rattle.bhs_setups.specs.declared.lineups.Ready.{Ready}
use Rattle.bhs_cli_words.specs.declared.orders.Exploration.{Exploration}
use Rattle.bhs_schedules.specs.declared.results.Bounds.{Bounds}
use Rattle.bhs_wasm.specs.Contents.{Contents}
use Rattle.bhs_wasm_team.specs.declared.agents.Roles.{Roles}
use Rattle.bhs_wasm_team.specs.declared.agents.TheConstants.{FUEL}
use Rattle.bhs_wasm_team.specs.Laws.{IsSolved, trial_in}
use Rattle.bhs_cli.specs.Fault.{status}
use Rattle.bhs_cli.specs.Showing.{Prints}
use Rattle.bhs_cli.specs.Summary.{IsAssembled}
use Rattle.bhs_cli.specs.declared.reporting.faults.Fault.{Fault}
use Rattle.bhs_cli.specs.declared.reporting.statuses.TheConstants.{DONE}
use Rattle.bhs_cli_explore.specs.Discoveries.{AreLinks}
use Rattle.bhs_cli_explore.specs.ModuleExploration.{AreFor, IsModuleReport, PrintsReport, arguments_of, programs_of}

-- ---- the matches

-- the setup with this node as its only black hole, and no dark link
abbrev pub with_hole : Setup → (hole : ℕ) → Setup
with_hole setup hole = record setup { holes = hole ∷ []; dark = [] }

-- the same for an optional node
abbrev pub setup_with : Setup → (hole : Option ℕ) → Setup
setup_with setup None = setup
setup_with setup (Some hole) = with_hole setup hole

-- a match with this node as its only black hole, if there is a node; its network and its held links stay
abbrev pub match_with : Ready → (hole : Option ℕ) → Ready
match_with ready hole = record ready { game = record ready.game { setup = setup_with ready.game.setup hole } }

-- the nodes of a match other than its home base, in order
abbrev pub other_nodes : Ready → List ℕ
other_nodes ready = nodes_where ready.game.net (λ node. not (node == ready.game.setup.home))

-- ---- the text

-- the line that names a black hole
abbrev pub hole_line : (hole : ℕ) → List ℕ
hole_line hole = codes "{\"hole\":" ++ (decimal hole ++ codes "}\n")

-- The text names the black hole, and then is the report of the match with it, of agents that run these programs with
-- these arguments. The exit status is the report's.
pub record IsHoleReport (ready : Ready) (exploration : Exploration) (programs : List (Option Contents))
    (arguments : List (List ℕ)) (hole : ℕ) (text : List ℕ) (code : ℕ) : Type 0 where
  pub roles : Roles
  pub have : arguments_of roles ≡ arguments
  pub run : programs_of roles ≡ programs
  pub report : List ℕ
  pub is_report : IsModuleReport (match_with ready (Some hole)) exploration roles arguments report code
  pub said : text ≡ hole_line hole ++ report

-- ---- what the exit status says

-- Under every schedule the match with this black hole is solved, within some bounds, by agents that run these programs
-- with these arguments. Its held links are those of the match.
pub record IsSolvedWith (ready : Ready) (exploration : Exploration) (programs : List (Option Contents))
    (arguments : List (List ℕ)) (hole : ℕ) : Type 0 where
  pub roles : Roles
  pub have : arguments_of roles ≡ arguments
  pub run : programs_of roles ≡ programs
  pub links : List (ℕ × ℕ)
  pub held : AreLinks ready links
  pub bounds : Bounds
  pub solved : IsSolved (trial_in ready.game.net (with_hole ready.game.setup hole) links exploration.wakeups roles FUEL)
      bounds

-- the match is so solved with each node other than its home base as the only black hole
abbrev pub AreAllSolved : Ready → Exploration → (programs : List (Option Contents)) → (arguments : List (List ℕ))
    → Type 0
AreAllSolved ready exploration programs arguments = (hole : ℕ) → hole < nodes_of ready.game.net
    → hole ≢ ready.game.setup.home → IsSolvedWith ready exploration programs arguments hole

-- ---- the order

-- the calls of the output, and what a text and an exit status are to say of a black hole
module _ {O : Type 0} (takes : O → List ℕ → WriteAnswer → O → Type 0) (flushes : O → Bool → O → Type 0)
    (IsReport : (hole : ℕ) → (text : List ℕ) → (code : ℕ) → Type 0) where
  -- The reports for these black holes are printed in order. The first whose exit status is not 0 is the last one, and
  -- gives the exit status. A fault may come before it, and ends the command.
  pub data TellsHoles (output' : O) (code : ℕ) : (holes : List ℕ) → (output : O) → Type 0 where
    -- all are printed
    all_told : code ≡ DONE → TellsHoles output' code [] output'
    -- the next report is printed, and its exit status is 0
    tells_on : (hole : ℕ) → (holes text : List ℕ) → (output there : O) → IsReport hole text DONE
        → Prints takes flushes text output there DONE → TellsHoles output' code holes there
        → TellsHoles output' code (hole ∷ holes) output
    -- the next report is printed, or a part of it, and the exit status is not 0
    tells_last : (hole : ℕ) → (holes text : List ℕ) → (done : ℕ) → (output : O) → IsReport hole text done
        → PrintsReport takes flushes text done output output' code → code ≢ DONE
        → TellsHoles output' code (hole ∷ holes) output
    -- a fault came before the next report
    tells_fault : (hole : ℕ) → (holes : List ℕ) → (fault : Fault) → code ≡ status fault
        → TellsHoles output' code (hole ∷ holes) output'

module _ {O : Type 0} (takes : O → List ℕ → WriteAnswer → O → Type 0) (flushes : O → Bool → O → Type 0) where
  -- An exploration with --all-holes of a match of the named tournament, whose agents run modules with these arguments:
  -- one for all agents, or one for each agent. If the exit status is 0 and no schedules were drawn, every schedule
  -- solves the match with each of these black holes, if agents run the modules of the reports.
  pub data ExploresHoles (arguments : List (List ℕ)) (exploration : Exploration) (output output' : O) (code : ℕ) :
      Type 0 where
    explores_holes : (lineup : Lineup) → IsAssembled lineup → (ready : Ready)
        → slice_get lineup.ready.items exploration.game ≡ Some ready
        → AreFor ready.game.setup.agents (length arguments) → (programs : List (Option Contents))
        → TellsHoles takes flushes (IsHoleReport ready exploration programs arguments) output' code (other_nodes ready)
        output → (code ≡ DONE → exploration.drawing ≡ None → AreAllSolved ready exploration programs arguments)
        → ExploresHoles arguments exploration output output' code
    -- a file is refused, or cannot be read, the tournament has no such match, or another number of agents, or memory
    -- ran out
    explores_no_holes : (fault : Fault) → code ≡ status fault → code ≢ DONE → output' ≡ output
        → ExploresHoles arguments exploration output output' code
