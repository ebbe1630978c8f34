-- Matches that `arena attest` has compared with the files of their agents: from a file's bytes to a verdict, without a
-- premise about clients.
use Rattle.std.specs.Prelude.{ℕ, ◌<◌, ◌≡◌, ◌≢◌, List, Some, slice_get}
use Rattle.bhs_match.specs.Decided.{AreAllDone}
use Rattle.bhs_match.specs.Matches.{Play, world_in}
use Rattle.bhs_model.specs.Draws.{Held}
use Rattle.bhs_model.specs.Marks.{events_of}
use Rattle.bhs_model.specs.Runs.{initial}
use Rattle.bhs_referee.specs.declared.verdicts.Outcome.TheVariants.{Wrong}
use Rattle.bhs_referee.specs.Verdicts.{verdict_of}
use Rattle.bhs_schedules.specs.declared.results.Bounds.{Bounds}
use Rattle.bhs_schedules.specs.Endings.{EveryScheduleCanRest}
use Rattle.bhs_schedules.specs.Everywhere.{IsSolvedWithin, EveryScheduleSolves}
use Rattle.bhs_schedules.specs.Strategies.{Strategies}
use Rattle.bhs_wasm_team.specs.declared.agents.Roles.{Roles}
use Rattle.bhs_wasm_team.specs.Roles.{role_number}
use Rattle.bhs_explore.specs.Answers.{is_held}
use Rattle.bhs_attest.specs.Laws.{AreOverFree, IsSchedule, trial_in}
use Rattle.bhs_cli.specs.declared.reporting.statuses.TheConstants.{DONE}
use Rattle.bhs_cli_explore.specs.ModuleExploration.{ModuleLine}
use Rattle.bhs_cli_attest.specs.Attesting.{IsAttestReport}
use Rattle.bhs_cli_attest.specs.Lines.{AgentLine}
use Rattle.bhs_theorems_contests.specs.Contests.{IsWithin}
use Rattle.bhs_theorems_contests.specs.ModuleContests.{IsExplored}

-- ---- logs that are schedules

-- Let the log of a match be a schedule of some strategies, and let every schedule solve the match within these moves
-- and lost agents. If all agents have ended or are lost, then the verdict is solved within these bounds.
abbrev pub LogsOfSchedulesAreSolved : Type 0
LogsOfSchedulesAreSolved = (play : Play) (held : Held) (wakeups : ℕ) (strategies : Strategies) (moves lost : ℕ)
    → IsSchedule (trial_in play held wakeups strategies) (events_of play.log) → AreAllDone play
    → EveryScheduleSolves (trial_in play held wakeups strategies) moves lost
    → IsSolvedWithin moves lost (verdict_of play)

-- And whenever such a match ended, no accusation is wrong, and no more moves were made and no more agents lost.
abbrev pub LogsOfSchedulesAreNeverWrong : Type 0
LogsOfSchedulesAreNeverWrong = (play : Play) (held : Held) (wakeups : ℕ) (strategies : Strategies) (moves lost : ℕ)
    → IsSchedule (trial_in play held wakeups strategies) (events_of play.log)
    → EveryScheduleSolves (trial_in play held wakeups strategies) moves lost
    → EveryScheduleCanRest (trial_in play held wakeups strategies)
    → ((verdict_of play).outcome ≢ Wrong) × IsWithin moves lost (verdict_of play)

-- ---- files

-- `arena attest` has compared an agent with the file and the arguments that `arena explore` names for its role.
pub record IsSameFile (explored : List ModuleLine) (roles : Roles) (attested : List AgentLine) (agent : ℕ) : Type 0
  where
    pub line : ModuleLine
    pub own : slice_get explored (role_number roles agent) ≡ Some line
    pub compared : AgentLine
    pub is : slice_get attested agent ≡ Some compared
    pub file : compared.file ≡ line.file
    pub arguments : compared.arguments ≡ line.arguments

-- Of this match `arena explore --module` has reported that every schedule solves it within these bounds, and
-- `arena attest` has attested its replay, with as many spurious wake-ups and the same files and arguments. No agent
-- arrived over a link that the exploration holds.
pub record IsAttestedMatch (play : Play) (bounds : Bounds) : Type 0 where
  pub explored : IsExplored play bounds
  pub arguments : List (List ℕ)
  pub text : List ℕ
  pub attested : IsAttestReport play explored.exploration.wakeups arguments text DONE
  pub same : (agent : ℕ) → agent < play.setup.agents
      → IsSameFile explored.report.lines explored.roles attested.lines agent
  pub free : AreOverFree (is_held explored.report.is_found.links) (world_in play) initial (events_of play.log)

-- If all agents of such a match have ended or are lost, then it is solved within the moves and lost agents that were
-- reported.
abbrev pub AttestedMatchesAreSolved : Type 0
AttestedMatchesAreSolved = (play : Play) (bounds : Bounds) → IsAttestedMatch play bounds → AreAllDone play
    → IsSolvedWithin bounds.moves bounds.lost (verdict_of play)

-- And whenever it ended, no accusation is wrong, and no more moves were made and no more agents lost.
abbrev pub AttestedMatchesAreNeverWrong : Type 0
AttestedMatchesAreNeverWrong = (play : Play) (bounds : Bounds) → IsAttestedMatch play bounds
    → ((verdict_of play).outcome ≢ Wrong) × IsWithin bounds.moves bounds.lost (verdict_of play)
