use Rattle.std.proofs.Common.{◌++◌, ap, sym, ◌∙◌, arith}
use Rattle.std.proofs.lemmas.Fmt.{decimal_digit}
use Rattle.bhs_wire.proofs.replies.push_number.Goals as goal

pub returns-then-number-lt10-clause-number : goal.returns-then-number-lt10-clause-number
returns-then-number-lt10-clause-number c =
    c.in_ok-push.ensures.items ∙ ap (λ digits. c.args.text.now.items ++ digits)
    (sym (decimal_digit c.args.number (omega (arith, c.if-number-lt10.true))))
