use Rattle.std.proofs.Common.{◌≡◌, ◌^◌, ◌<◌, drop}
use Rattle.bhs_script.specs.Number.{read_on}
use Rattle.bhs_script.proofs.numbers.value_of.Given as goal

abbrev pub invariant-loop-digit : goal.invariant-loop-digit
invariant-loop-digit l = (read_on l.value (drop l.digit-index l.digits) ≡ read_on 0 l.digits) × (l.value < 2 ^ 32)
