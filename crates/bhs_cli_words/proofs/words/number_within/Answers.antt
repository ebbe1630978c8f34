use Rattle.std.proofs.Common.{◌∙◌, sym}
use Rattle.bhs_cli_words.proofs.NumberLemmas.{no_number}
use Rattle.bhs_cli_words.proofs.words.number_within.Goals as goal

pub returns-in_err-number-clause-number : goal.returns-in_err-number-clause-number
returns-in_err-number-clause-number c =
    c.from_residual.ensures
    ∙ no_number c.args.least c.args.most c.args.word.now c.parse.result c.ranges.most.fits
    (sym c.is_digits.ensures ∙ c.if-not-is_digits.false) c.parse.ensures.value.0
    (sym c.ok.ensures.value ∙ c.in_err-number.was)
