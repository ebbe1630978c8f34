use Rattle.std.proofs.Common.{arith, sym}
use Rattle.bhs_script.proofs.NumberLemmas.{too_large_at}
use Rattle.bhs_script.proofs.numbers.value_of.Goals as goal

pub returns-then-value-from : goal.returns-then-value-from
returns-then-value-from c =
    rw (← c.loop-digit.invariant.0)
    (sym (too_large_at c.loop-digit.value c.args.digits.now c.loop-digit.digit-index (omega arith)
    (omega (arith, c.from.ensures, c.from-in-loop-digit.ensures))))
