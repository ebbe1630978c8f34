-- The output for an instruction's call.
use Rattle.std.specs.Prelude.{◌≡◌, ℕ, List, ◌++◌, Ok, Err}
use Rattle.std.specs.declared.result.Result.{Result}
use Rattle.bhs_rehearsal.specs.declared.faults.RehearsalFault.{RehearsalFault}
use Rattle.bhs_rehearsal.specs.declared.faults.RehearsalFault.TheVariants as rehearsals
use Rattle.bhs_script.specs.Transcript.{all_printed}

-- What is printed of a call is added to a text: nothing of a call that named no connection and no match. By `sent` the
-- call's answer gives what is sent. Only contracts of private functions cite it.
abbrev pub IsPushed : {T : Type 0} (sent : T → List (ℕ × List ℕ)) → Result T RehearsalFault → (text text' : List ℕ)
    → Type 0
IsPushed sent (Ok outs) text text' = text' ≡ text ++ all_printed (sent outs)
IsPushed sent (Err rehearsals.Conn) text text' = text' ≡ text
IsPushed sent (Err rehearsals.NoGame) text text' = text' ≡ text
IsPushed sent (Err rehearsals.Memory) text text' = ⊥
