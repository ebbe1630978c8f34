-- What a proof unfolds to compute what a literal line says, and the line of a literal reply.
use Rattle.std.specs.Prelude.{⊤}
use Rattle.std.specs.Str.{is_utf8, chars}
use Rattle.std.specs.Fmt.{digits}
use Rattle.serde_json.proofs.OnLiterals.{serde_json_on_literals}

unfoldable pub bhs_wire_on_literals : ⊤
unfolding is_utf8 chars digits serde_json_on_literals
bhs_wire_on_literals = tt
