use Rattle.std.proofs.Common.{rules}
use Rattle.std.proofs.lemmas.List.{length-map}
use Rattle.bhs_wasm_read.specs.Modules.{is_same}
use Rattle.bhs_wasm_read.specs.Types.{signature_of}
use Rattle.bhs_wasm_read.proofs.Lists.{position-mapped}
use Rattle.bhs_wasm_read.proofs.declarations.type_number.Goals as goal

pub returns-in-Some : goal.returns-in-Some
returns-in-Some c =
    rw (position-mapped signature_of (λ other. is_same other (signature_of c.args.own.now)) c.args.types.now)
    (rw (← c.first_equal.ensures) (rw c.in-Some.is (search rules)))

pub returns-in-None : goal.returns-in-None
returns-in-None c =
    rw (position-mapped signature_of (λ other. is_same other (signature_of c.args.own.now)) c.args.types.now)
    (rw (← c.first_equal.ensures) (rw c.in-None.is (rw (length-map c.args.types.now signature_of) (search rules))))
