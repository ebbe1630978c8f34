-- Where an answer leads a session.
use Rattle.std.proofs.Common.{arith, ◌≡◌, ℕ, Bool, true, false, nat_lt, [], ◌∷◌}
use Rattle.std.specs.Prelude.{⊤}
use Rattle.bhs_model.specs.declared.commands.Command.{Command}
use Rattle.bhs_model.specs.Views.{View, Glance, Standing, Away, standing, standing_after, ports, used}
use Rattle.bhs_model.specs.Replying.{accepts, answer, hears, text}
use Rattle.bhs_session.specs.Phase.{Phase, Fresh, Ready, Awaits, Owes, Leaves, Finished, answered_by}
use Rattle.bhs_theorems_isolation.specs.Met.{Meeting, Hears, Refuses, Arrives, past_after, commands as commands_of}
use Rattle.bhs_theorems_isolation.specs.Met.{answer_to, takes_commands, IsDue}

-- ---- where an answer leads

-- the phase after an answer agrees with the agent's standing
abbrev pub Fits : Phase → Standing → Type 0
Fits Fresh stands = ⊥
Fits Ready stands = takes_commands stands ≡ true
Fits Awaits stands = stands ≡ Away
Fits (Owes text next) stands = ⊥
Fits (Leaves ended) stands = ⊥
Fits (Finished ended) stands = Unit {0}

pub heard_fits : (limit : ℕ) (stands : Standing) (room : Bool) (ports : ℕ) (command : Command) (glance : Glance)
    → takes_commands stands ≡ true → accepts stands room command ≡ true →
    Fits (answered_by true (answer limit stands ports command glance)) (standing_after stands ports command)
heard_fits limit stands room ports command glance takes allowed = grind arith

-- a command is heard exactly if the past and the quota allow it
abbrev pub IsJudged : (quota : ℕ) → View → Meeting → Type 0
IsJudged quota past (Hears command glance) = hears quota past command ≡ true
IsJudged quota past (Refuses command) = hears quota past command ≡ false
IsJudged quota past (Arrives sight) = ⊤

-- a meeting that a command makes, of an agent of which commands are taken
pub meeting_fits : (quota limit : ℕ) (old : View) (command : Command) (meeting : Meeting)
    → takes_commands (standing old) ≡ true →
    IsJudged quota old meeting → commands_of (meeting ∷ []) ≡ command ∷ [] →
    IsDue quota old meeting × Fits (answered_by true (answer_to limit old meeting)) (standing (past_after old meeting))
meeting_fits quota limit old command (Hears said glance) takes judged is =
    ((takes, judged), heard_fits limit (standing old) (nat_lt (used old) quota) (ports old) said glance takes judged)
meeting_fits quota limit old command (Refuses said) takes judged is = ((takes, judged), takes)
meeting_fits quota limit old command (Arrives sight) takes judged is = absurd (cc)
