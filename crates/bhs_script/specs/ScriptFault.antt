-- Reasons to refuse a script.
use Rattle.std.specs.Prelude.{◌≡◌, ℕ, List, Result, Err}
use Rattle.bhs_rehearsal.specs.Stages.{Instruction}
use Rattle.bhs_script.specs.declared.faults.ScriptFault.{ScriptFault}
use Rattle.bhs_script.specs.declared.faults.ScriptFault.TheVariants.{Line, Memory}

-- The reason for refusing a script with this meaning: memory ran out, or this line is invalid.
abbrev pub Refuses : Result (List Instruction) ℕ → ScriptFault → Type 0
Refuses instructions Memory = Unit {0}
Refuses instructions (Line line) = instructions ≡ Err line
