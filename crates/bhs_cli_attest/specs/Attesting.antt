-- Comparing a replay with the modules of its agents.
use Rattle.std.specs.Prelude.{ℕ, ◌≡◌, ◌==◌, Bool, true, List, ◌++◌, length, map, slice_get, Some, if◌then◌else◌}
use Rattle.std.specs.List.{AllByRecursion, range_with_len}
use Rattle.bhs_stream.specs.Streams.{WriteAnswer}
use Rattle.bhs_match.specs.Matches.{Play}
use Rattle.bhs_attest.specs.Laws.{HasEnded}
use Rattle.bhs_cli.specs.Fault.{status}
use Rattle.bhs_cli.specs.Filing.{IsReplayed}
use Rattle.bhs_cli.specs.declared.reporting.faults.Fault.{Fault}
use Rattle.bhs_cli.specs.declared.reporting.statuses.TheConstants.{DONE, FAILING}
use Rattle.bhs_cli_explore.specs.ModuleExploration.{AreFor, PrintsReport}
use Rattle.bhs_cli_attest.specs.Comparing.{IsCompared}
use Rattle.bhs_cli_attest.specs.Lines.{AgentLine, agent_lines, all_follow, last_line}

-- the index of an agent's module: 0 if all agents run one module, else the agent's number
abbrev pub module_number : (modules agent : ℕ) → ℕ
module_number modules agent = if modules == 1 then 0 else agent

-- the exit status by whether all agents follow their modules
abbrev pub attest_status : (is_attested : Bool) → ℕ
attest_status is_attested = if is_attested then DONE else FAILING

-- The line reports the comparison of its agent with the agent's module.
pub record IsLine (play : Play) (wakeups : ℕ) (arguments : List (List ℕ)) (line : AgentLine) : Type 0 where
  pub own : slice_get arguments (module_number (length arguments) line.agent) ≡ Some line.arguments
  pub compared : IsCompared play wakeups line.agent line.file line.arguments line.attestation

-- The report has a line for each agent in order. It stops at the first difference.
pub record IsAttestReport (play : Play) (wakeups : ℕ) (arguments : List (List ℕ)) (text : List ℕ) (code : ℕ) : Type 0
  where
    pub ended : HasEnded play
    pub lines : List AgentLine
    pub are : AllByRecursion (IsLine play wakeups arguments) lines
    pub agents : map (λ line. line.agent) lines ≡ range_with_len 0 (length lines)
    pub whole : all_follow lines ≡ true → length lines ≡ play.setup.agents
    pub said : text ≡ agent_lines lines ++ last_line (all_follow lines) play.setup.agents wakeups
    pub told : code ≡ attest_status (all_follow lines)

-- the calls of the output
module _ {O : Type 0} (takes : O → List ℕ → WriteAnswer → O → Type 0) (flushes : O → Bool → O → Type 0) where
  -- The effect of `arena attest`, whose modules have these arguments: one module runs all agents, or each agent has its
  -- own.
  pub data AttestsReplay (arguments : List (List ℕ)) (wakeups : ℕ) (output output' : O) (code : ℕ) : Type 0 where
    attests : (play : Play) → IsReplayed play → AreFor play.setup.agents (length arguments) → (text : List ℕ)
        → (done : ℕ) → IsAttestReport play wakeups arguments text done
        → PrintsReport takes flushes text done output output' code
        → AttestsReplay arguments wakeups output output' code
    -- a file is refused, or cannot be read, or the number of modules is wrong
    attests_nothing : (fault : Fault) → code ≡ status fault → output' ≡ output
        → AttestsReplay arguments wakeups output output' code
