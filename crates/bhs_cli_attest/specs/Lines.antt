-- The lines of a report: agents first, then a summary.
use Rattle.std.specs.Prelude.{ℕ, Bool, true, false, List, [], ◌∷◌, ◌++◌, ◌&&◌, codes, decimal, None}
use Rattle.bhs_model.specs.declared.events.Event.TheVariants.{Tell}
use Rattle.bhs_replay.specs.EventLine.{event_line}
use Rattle.bhs_schedules.specs.declared.answers.Step.{Step}
use Rattle.bhs_schedules.specs.declared.answers.Step.TheVariants.{Says, Sleeps, Stops, Fails}
use Rattle.bhs_attest.specs.declared.follow.Attestation.{Attestation}
use Rattle.bhs_attest.specs.declared.follow.Attestation.TheVariants.{Follows, Differs, Tires}
use Rattle.bhs_cli_explore.specs.ModuleExploration.{module_items}

-- an agent, the file of its module and the module's arguments, and what came of comparing them with a log
pub record AgentLine : Type 0 where
  pub agent : ℕ
  pub file : List ℕ
  pub arguments : List ℕ
  pub attestation : Attestation

-- what the module does where the log has another event; a command is spelled as a line of a replay
abbrev pub step_text : (agent : ℕ) → Step → List ℕ
step_text agent (Says command) = codes "\"says\",\"says\":" ++ event_line (Tell agent command) None
step_text agent Sleeps = codes "\"sleeps\""
step_text agent Stops = codes "\"stops\""
step_text agent Fails = codes "\"fails\""

-- the end of a line: how often the agent woke, or where it differs
abbrev pub outcome_text : (agent : ℕ) → Attestation → List ℕ
outcome_text agent (Follows wake_ups in_a_row) =
    codes ",\"wake_ups\":" ++ (decimal wake_ups ++ (codes ",\"in_a_row\":" ++ (decimal in_a_row ++ codes "}\n")))
outcome_text agent (Differs place step) =
    codes ",\"event\":" ++ (decimal place ++ (codes ",\"step\":" ++ (step_text agent step ++ codes "}\n")))
outcome_text agent (Tires place) = codes ",\"event\":" ++ (decimal place ++ codes ",\"step\":\"turns\"}\n")

abbrev pub agent_line : AgentLine → List ℕ
agent_line line =
    module_items line.file line.arguments
    ++ (codes ",\"agent\":" ++ (decimal line.agent ++ outcome_text line.agent line.attestation))

abbrev pub agent_lines : List AgentLine → List ℕ
agent_lines [] = []
agent_lines (line ∷ lines) = agent_line line ++ agent_lines lines

abbrev pub follows : Attestation → Bool
follows (Follows wake_ups in_a_row) = true
follows other = false

abbrev pub all_follow : List AgentLine → Bool
all_follow [] = true
all_follow (line ∷ lines) = follows line.attestation && all_follow lines

-- the last line: whether the replay is attested, of how many agents, and how often they might wake
abbrev pub last_line : Bool → (agents wakeups : ℕ) → List ℕ
last_line true agents wakeups =
    codes "{\"attested\":true,\"agents\":"
    ++ (decimal agents ++ (codes ",\"spurious_wakeups\":" ++ (decimal wakeups ++ codes "}\n")))
last_line false agents wakeups =
    codes "{\"attested\":false,\"agents\":"
    ++ (decimal agents ++ (codes ",\"spurious_wakeups\":" ++ (decimal wakeups ++ codes "}\n")))
