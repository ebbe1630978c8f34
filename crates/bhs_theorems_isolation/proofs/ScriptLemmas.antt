-- A script, one instruction more.
use Rattle.std.proofs.Common.{ℕ, List, [], ◌∷◌, refl, ap}
use Rattle.bhs_rehearsal.specs.Stages.{Stage, Instruction, step}
use Rattle.bhs_theorems_isolation.specs.ScriptLaws.{Grows}

pub grows : (stage : Stage) (script : List Instruction) (instruction : Instruction) → Grows stage script instruction
grows stage [] instruction = record { stands = refl; sends = refl }
grows stage (first ∷ script) instruction =
    let rest = grows (step stage first).stage script instruction in
    record {
      stands = rest.stands;
      sends = ap (λ (outs : List (List (ℕ × List ℕ))). (step stage first).outs ∷ outs)
          rest.sends;
    }
