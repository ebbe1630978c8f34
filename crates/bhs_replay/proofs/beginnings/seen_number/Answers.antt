use Rattle.std.proofs.Common.{◌++◌, ◌+◌, decimal, sym, ap, ◌∙◌, arith}
use Rattle.std.proofs.lemmas.Fmt.{decimal_digit}
use Rattle.bhs_replay.proofs.BeginningLemmas.{one_digit_more}
use Rattle.bhs_replay.proofs.beginnings.seen_number.Goals as goal

pub loop-digit-init : goal.loop-digit-init
loop-digit-init c = let first = c.in_ok-number.ensures in
    first.1 ∙ ap (λ digits. digits ++ c.in_ok-number.rest.now) (sym (decimal_digit c.in_ok-number.number first.0))

pub loop-digit-preserved : goal.loop-digit-preserved
loop-digit-preserved c =
    let digit = c.in-Some.ensures in
    let tens = c.in_ok-checked_mul.ensures in
    let sum = c.in_ok-number-2.ensures in
    c.loop-digit.invariant ∙ ap (λ rest. decimal c.loop-digit.number ++ rest) digit.1
    ∙ one_digit_more c.loop-digit.number c.in-Some.digit c.in_ok-number-2.number c.in-Some.more.now
    (omega (arith, c.if-number-eq0.false)) digit.0 (sum.1 ∙ ap (λ n. n + c.in-Some.digit) tens.1) (omega (arith, sum))
