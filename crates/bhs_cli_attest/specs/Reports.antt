-- The lines of the first agents of a replay.
use Rattle.std.specs.Prelude.{ℕ, ◌≡◌, Bool, true, List, length, map}
use Rattle.std.specs.List.{AllByRecursion, range_with_len}
use Rattle.bhs_match.specs.Matches.{Play}
use Rattle.bhs_cli_attest.specs.Attesting.{IsLine}
use Rattle.bhs_cli_attest.specs.Lines.{AgentLine, agent_line, agent_lines, all_follow, follows}

-- the text is the line of this agent, and the flag says whether it follows its module
pub record IsLineOf (play : Play) (wakeups : ℕ) (arguments : List (List ℕ)) (agent : ℕ) (text : List ℕ)
    (is_attested : Bool) : Type 0 where
  pub line : AgentLine
  pub own : line.agent ≡ agent
  pub is : IsLine play wakeups arguments line
  pub said : text ≡ agent_line line
  pub told : is_attested ≡ follows line.attestation

-- the text has the lines of the first agents, and the flag says whether all agents follow their modules
pub record AreLinesOf (play : Play) (wakeups : ℕ) (arguments : List (List ℕ)) (text : List ℕ) (is_attested : Bool) :
    Type 0 where
  pub lines : List AgentLine
  pub are : AllByRecursion (IsLine play wakeups arguments) lines
  pub agents : map (λ line. line.agent) lines ≡ range_with_len 0 (length lines)
  pub whole : all_follow lines ≡ true → length lines ≡ play.setup.agents
  pub said : text ≡ agent_lines lines
  pub told : is_attested ≡ all_follow lines
