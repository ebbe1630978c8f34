use Rattle.std.proofs.Common.{rules}
use Rattle.bhs_cli_words.proofs.CommaLemmas.{in_front}
use Rattle.bhs_cli_words.proofs.words.+arguments_within.Goals as goal

pub returns : goal.returns
returns t c =
    in_front c.args.most c.args.word.now c.in-Some.first.now c.in-Some.others.now c.if-most-eq0.false (search rules)
    (search rules) (search rules) c.in-Some-number_within-2.number c.in-Some-2.numbers.items c.insert.new.self.items
    (search rules) (search rules) c.in_ok-insert.ensures.items
