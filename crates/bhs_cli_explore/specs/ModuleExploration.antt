-- What is found of a match whose agents run modules, and what is printed of it.
use Rattle.std.specs.Prelude.{◌≡◌, ◌==◌, ℕ, Bool, true, false, List, ◌++◌, codes, decimal, Option, Some, None}
use Rattle.std.specs.Prelude.{slice_get, [], ◌∷◌, ◌⊎◌, if◌then◌else◌, is_some, length, map}
use Rattle.hex.specs.Hex.{encode_lower}
use Rattle.sha2.specs.Sha256.{sha256}
use Rattle.bhs_stream.specs.Streams.{WriteAnswer}
use Rattle.bhs_setups.specs.declared.lineups.Lineup.{Lineup}
use Rattle.bhs_setups.specs.declared.lineups.Ready.{Ready}
use Rattle.bhs_cli_words.specs.declared.orders.AgentModule.{AgentModule}
use Rattle.bhs_cli_words.specs.declared.orders.Exploration.{Exploration}
use Rattle.bhs_wasm.specs.Contents.{Contents, contents_of}
use Rattle.bhs_wasm_read.specs.Modules.{module_in}
use Rattle.bhs_wasm_team.specs.declared.agents.Roles.{Roles}
use Rattle.bhs_wasm_team.specs.declared.agents.TheConstants.{FUEL}
use Rattle.bhs_wasm_team.specs.declared.failures.FailureCause.{FailureCause}
use Rattle.bhs_wasm_team.specs.declared.failures.FailureCause.TheVariants as causes
use Rattle.bhs_wasm_team.specs.declared.failures.ModuleFailure.{ModuleFailure}
use Rattle.bhs_schedules.specs.declared.results.Finding.{Finding}
use Rattle.bhs_schedules.specs.declared.results.Finding.TheVariants.{Comes}
use Rattle.bhs_wasm_team.specs.Laws.{IsFoundOf}
use Rattle.bhs_wasm_team.specs.Roles.{all_roles}
use Rattle.bhs_cli_explore.specs.Discoveries.{AreLinks, IsCounted, discovery, found_in, found_status, is_drawn}
use Rattle.bhs_cli_explore.specs.Discoveries.{list_text}
use Rattle.bhs_cli.specs.Fault.{status}
use Rattle.bhs_cli.specs.Showing.{Prints}
use Rattle.bhs_cli.specs.Summary.{IsAssembled}
use Rattle.bhs_cli_explore.specs.declared.discoveries.Discovery.{Discovery}
use Rattle.bhs_cli_explore.specs.declared.modules.FileRoles.{FileRoles}
use Rattle.bhs_cli.specs.declared.reporting.faults.Fault.{Fault}
use Rattle.bhs_cli.specs.declared.reporting.statuses.TheConstants.{DONE}

-- ---- the text

-- the line of a module up to how an agent failed: the SHA-256 of its file, and its arguments
abbrev pub module_items : (file arguments : List ℕ) → List ℕ
module_items file arguments =
    codes "{\"module\":\"" ++ (encode_lower (sha256 file) ++ (codes "\",\"arguments\":" ++ list_text arguments))

-- the word for why an agent failed
abbrev pub cause_text : FailureCause → List ℕ
cause_text causes.Fuel = codes "fuel"
cause_text causes.Trap = codes "trap"
cause_text causes.Command = codes "command"

-- the end of the line: how the first agent that failed did, and in which function of the module
abbrev pub failure_items : Option ModuleFailure → List ℕ
failure_items None = codes "}\n"
failure_items (Some failure) =
    codes ",\"failure\":\"" ++ (cause_text failure.cause
    ++ (codes "\",\"function\":" ++ (decimal failure.function ++ codes "}\n")))

-- what the line of a module tells: its file, its arguments, and how the first agent that failed did
pub record ModuleLine : Type 0 where
  pub file : List ℕ
  pub arguments : List ℕ
  pub failure : Option ModuleFailure

abbrev pub module_line : ModuleLine → List ℕ
module_line line = module_items line.file line.arguments ++ failure_items line.failure

abbrev pub module_lines : List ModuleLine → List ℕ
module_lines [] = []
module_lines (line ∷ lines) = module_line line ++ module_lines lines

-- the report of an exploration: the finding, and a line for each module in the order of the command
abbrev pub module_discovery : Discovery → List ModuleLine → List ℕ
module_discovery found lines = discovery found ++ module_lines lines

-- ---- what it is true of

-- whether a finding speaks of one schedule alone
abbrev pub is_of_one : Finding → Bool
is_of_one (Comes verdict schedule) = true
is_of_one other = false

-- The finding on this match, with its held links, holds for agents in these roles. An exploration with a drawing draws
-- schedules. A search of all schedules reports a finding about all schedules.
pub record IsFoundOfModules (ready : Ready) (exploration : Exploration) (roles : Roles) (fuel : ℕ) (found : Discovery) :
    Type 0 where
  pub links : List (ℕ × ℕ)
  pub held : AreLinks ready links
  pub is_found : IsFoundOf ready.game.net ready.game.setup links exploration.wakeups roles fuel (found_in found)
  pub kind : is_drawn found ≡ is_some exploration.drawing
  pub all : is_drawn found ≡ false → is_of_one (found_in found) ≡ false
  pub counted : IsCounted found

-- the modules of all roles, in their order
abbrev pub programs_of : Roles → List (Option Contents)
programs_of roles = map (λ role. Some (contents_of role.program)) (all_roles roles)

-- The text tells what was found of agents in these roles, with these arguments of each role, and so does the exit
-- status. The files that its lines name by their SHA-256 are these roles' modules. How an agent failed is not proved.
pub record IsModuleReport (ready : Ready) (exploration : Exploration) (roles : Roles) (arguments : List (List ℕ))
    (text : List ℕ) (code : ℕ) : Type 0 where
  pub found : Discovery
  pub is_found : IsFoundOfModules ready exploration roles FUEL found
  pub lines : List ModuleLine
  pub have : map (λ line. line.arguments) lines ≡ arguments
  pub are : map (λ line. module_in line.file) lines ≡ programs_of roles
  pub said : text ≡ module_discovery found lines
  pub told : code ≡ found_status (found_in found)

-- ---- the modules that are given

-- the command names one module for all agents, or one for each agent
abbrev pub AreFor : (agents modules : ℕ) → Type 0
AreFor agents modules = (modules ≡ 1) ⊎ (modules ≡ agents)

-- the arguments of all roles, in their order
abbrev pub arguments_of : Roles → List (List ℕ)
arguments_of roles = map (λ role. role.arguments.items) (all_roles roles)

-- The command selects the match with this number, and gives one module for all agents or a module for each agent.
pub record IsWanted (lineup : Lineup) (game : ℕ) (modules : List AgentModule) (ready : Ready) : Type 0 where
  pub is_match : slice_get lineup.ready.items game ≡ Some ready
  pub enough : AreFor ready.game.setup.agents (length (map (λ it. it.arguments) modules))

-- the roles have the arguments of these modules, and so have the files, whose modules the roles run
pub record IsTeamOf (modules : List AgentModule) (team : FileRoles) : Type 0 where
  pub roles : arguments_of team.roles ≡ map (λ it. it.arguments) modules
  pub files : map (λ file. file.arguments.items) team.files.items ≡ map (λ it. it.arguments) modules
  pub are : map (λ file. module_in file.bytes.items) team.files.items ≡ programs_of team.roles

-- ---- the order

-- the calls of the output
module _ {O : Type 0} (takes : O → List ℕ → WriteAnswer → O → Type 0) (flushes : O → Bool → O → Type 0) where
  -- a text is printed; if that succeeds, its exit status is this one
  pub record PrintsReport (text : List ℕ) (done : ℕ) (output output' : O) (code : ℕ) : Type 0 where
    pub printed : ℕ
    pub prints : Prints takes flushes text output output' printed
    pub coded : code ≡ (if printed == DONE then done else printed)

  -- an exploration of a match of the named tournament, whose agents run modules with these arguments: one for all
  -- agents, or one for each agent in order
  pub data ExploresModules (arguments : List (List ℕ)) (exploration : Exploration) (output output' : O) (code : ℕ) :
      Type 0 where
    explores_modules : (lineup : Lineup) → IsAssembled lineup → (ready : Ready)
        → slice_get lineup.ready.items exploration.game ≡ Some ready
        → AreFor ready.game.setup.agents (length arguments)
        → (roles : Roles) → arguments_of roles ≡ arguments → (text : List ℕ) → (done : ℕ)
        → IsModuleReport ready exploration roles arguments text done
        → PrintsReport text done output output' code → ExploresModules arguments exploration output output' code
    -- a file is refused, or cannot be read, the tournament has no such match, or another number of agents, or the
    -- search ended in a fault
    explores_no_modules : (fault : Fault) → code ≡ status fault → output' ≡ output
        → ExploresModules arguments exploration output output' code
