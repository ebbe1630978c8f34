-- Contests of agents that run the files which `arena explore --module` told of: from a file's bytes to a verdict.
use Rattle.std.specs.Prelude.{ℕ, ◌<◌, ◌≡◌, ◌≢◌, List, [], Some, slice_get}
use Rattle.bhs_wasm.specs.Contents.{Contents}
use Rattle.bhs_match.specs.Decided.{AreAllDone}
use Rattle.bhs_match.specs.Matches.{Play}
use Rattle.bhs_model.specs.declared.commands.Command.TheVariants.{Enter}
use Rattle.bhs_referee.specs.declared.verdicts.Outcome.TheVariants.{Wrong}
use Rattle.bhs_referee.specs.Verdicts.{verdict_of}
use Rattle.bhs_schedules.specs.declared.answers.Step.TheVariants.{Says}
use Rattle.bhs_schedules.specs.declared.results.Bounds.{Bounds}
use Rattle.bhs_schedules.specs.declared.results.Finding.TheVariants as found
use Rattle.bhs_explore.specs.Answers.{is_held}
use Rattle.bhs_schedules.specs.Everywhere.{IsSolvedWithin}
use Rattle.bhs_schedules.specs.Strategies.{Strategies, Strategy}
use Rattle.bhs_wasm_read.specs.Modules.{module_in}
use Rattle.bhs_wasm_team.specs.declared.agents.Roles.{Roles}
use Rattle.bhs_wasm_team.specs.declared.agents.TheConstants.{FUEL}
use Rattle.bhs_wasm_team.specs.Agents.{strategy_of}
use Rattle.bhs_wasm_team.specs.Roles.{role_number}
use Rattle.bhs_cli_words.specs.declared.orders.Exploration.{Exploration}
use Rattle.bhs_setups.specs.declared.lineups.Ready.{Ready}
use Rattle.bhs_cli_explore.specs.Discoveries.{found_in}
use Rattle.bhs_cli_explore.specs.ModuleExploration.{IsModuleReport, ModuleLine, arguments_of}
use Rattle.bhs_theorems_isolation.specs.ContestMet.{Attended}
use Rattle.bhs_theorems_contests.specs.Contests.{IsPlayedIn, IsPlainMatch, IsWithin}

-- The strategy of an agent is what the bytes of a file say, run with these arguments: the file and the arguments of the
-- line of the agent's role.
pub record RunsItsFile (lines : List ModuleLine) (roles : Roles) (agent : ℕ) (strategy : Strategy) : Type 0 where
  pub line : ModuleLine
  pub own : slice_get lines (role_number roles agent) ≡ Some line
  pub program : Contents
  pub says : module_in line.file ≡ Some program
  pub runs : strategy ≡ strategy_of program line.arguments FUEL

-- Of a match with the same network and setup `arena explore --module` has reported that every schedule solves it within
-- these bounds.
pub record IsExplored (play : Play) (bounds : Bounds) : Type 0 where
  pub ready : Ready
  pub exploration : Exploration
  pub roles : Roles
  pub arguments : List (List ℕ)
  pub text : List ℕ
  pub code : ℕ
  pub report : IsModuleReport ready exploration roles arguments text code
  pub all : arguments_of roles ≡ arguments
  pub solves : found_in report.found ≡ found.Solves bounds
  pub net : ready.game.net ≡ play.net
  pub setup : ready.game.setup ≡ play.setup

-- Such a match as a contest: each of its agents was played by the file of its line, and first says Enter.
pub record IsModuleContest (play : Play) (bounds : Bounds) : Type 0 where
  pub explored : IsExplored play bounds
  pub strategies : Strategies
  pub runs : (agent : ℕ) → RunsItsFile explored.report.lines explored.roles agent (strategies agent)
  pub enters : (agent : ℕ) → strategies agent [] ≡ Says Enter
  pub clients : (agent : ℕ) → Attended
  pub played : (agent : ℕ) → agent < play.setup.agents
      → IsPlayedIn play explored.exploration.wakeups strategies agent (clients agent)
  pub plain : IsPlainMatch (is_held explored.report.is_found.links) play

-- If such a contest gave the match back settled, and all agents have ended or are lost, then it is solved within the
-- moves and lost agents that were told.
abbrev pub ModulesSolveContests : Type 0
ModulesSolveContests = (play : Play) (bounds : Bounds) → IsModuleContest play bounds → AreAllDone play
    → IsSolvedWithin bounds.moves bounds.lost (verdict_of play)

-- And whenever it ended, no accusation is wrong, and no more moves were made and no more agents lost.
abbrev pub ModulesAreNeverWrong : Type 0
ModulesAreNeverWrong = (play : Play) (bounds : Bounds) → IsModuleContest play bounds
    → ((verdict_of play).outcome ≢ Wrong) × IsWithin bounds.moves bounds.lost (verdict_of play)
