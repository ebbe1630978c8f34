use Rattle.std.proofs.Common.{arith}
use Rattle.bhs_wasm_read.proofs.Bits.{below-more, fits-more}
use Rattle.bhs_wasm_read.proofs.bytes.Bytes.+unsigned.Goals as goal

pub overflow_mul-result : goal.overflow_mul-result
overflow_mul-result t c =
    omega (
      arith,
      fits-more c.args.bits c.in_ok-higher.higher 0
          (omega arith) (omega arith) c.in_ok-higher.ensures.fits (omega arith),
    )

pub overflow_add-result : goal.overflow_add-result
overflow_add-result t c =
    omega (
      arith,
      fits-more c.args.bits c.in_ok-higher.higher c.from-2.result
          (omega arith) (omega arith) c.in_ok-higher.ensures.fits (omega arith),
    )

pub returns-clause-fits : goal.returns-clause-fits
returns-clause-fits t c =
    below-more c.args.bits c.in_ok-higher.higher c.from-2.result (omega arith) c.in_ok-higher.ensures.fits (omega arith)
