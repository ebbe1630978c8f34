-- The input that a script feeds to a connection, and the connection's output.
use Rattle.std.specs.Prelude.{ℕ, Bool, true, false, ◌==◌, List, [], ◌∷◌, ◌++◌, map, if◌then◌else◌}
use Rattle.bhs_model.specs.declared.commands.Command.{Command}
use Rattle.bhs_wire.specs.Lines.{lines}
use Rattle.bhs_session.specs.Texts.{command_of}
use Rattle.bhs_rehearsal.specs.Stages.{Instruction, Feeds, EndsInput, Draws, Delivers, Closes}

-- ---- what it is fed

-- the connection's input before its end, with a flag for the end
pub record Fed : Type 0 where
  pub bytes : List ℕ
  pub has_ended : Bool

abbrev pub nothing_fed : Fed
nothing_fed = record { bytes = []; has_ended = false }

abbrev pub fed_more : Fed → List ℕ → Fed
fed_more fed bytes = record fed { bytes = fed.bytes ++ bytes }

abbrev pub at_end : Fed → Fed
at_end fed = record fed { has_ended = true }

-- bytes behind the end are not looked at
abbrev pub fed_by : (conn : ℕ) → Fed → Instruction → Fed
fed_by conn fed (Feeds other bytes) = if other == conn then (if fed.has_ended then fed else fed_more fed bytes) else fed
fed_by conn fed (EndsInput other) = if other == conn then at_end fed else fed
fed_by conn fed (Draws game word) = fed
fed_by conn fed (Delivers game agent) = fed
fed_by conn fed (Closes game) = fed

abbrev pub fed_to : (conn : ℕ) → Fed → List Instruction → Fed
fed_to conn fed [] = fed
fed_to conn fed (instruction ∷ script) = fed_to conn (fed_by conn fed instruction) script

-- the commands of all lines that a connection was fed
abbrev pub commands_fed : (conn : ℕ) → List Instruction → List Command
commands_fed conn script = map command_of (lines (fed_to conn nothing_fed script).bytes)

-- ---- what it is sent

-- the output of one instruction for a connection, concatenated
abbrev pub bytes_among : (conn : ℕ) → List (ℕ × List ℕ) → List ℕ
bytes_among conn [] = []
bytes_among conn (out ∷ outs) = (if out.0 == conn then out.1 else []) ++ bytes_among conn outs

-- all bytes that a connection is sent
abbrev pub bytes_to : (conn : ℕ) → List (List (ℕ × List ℕ)) → List ℕ
bytes_to conn [] = []
bytes_to conn (outs ∷ others) = bytes_among conn outs ++ bytes_to conn others
