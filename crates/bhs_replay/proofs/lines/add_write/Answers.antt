use Rattle.std.proofs.Common.{◌++◌, sym, ap, ◌∙◌}
use Rattle.std.proofs.lemmas.Result.{on_ok_weaker}
use Rattle.bhs_replay.proofs.LineLemmas.{write_line}
use Rattle.bhs_replay.proofs.lines.add_write.Goals as goal

pub returns : goal.returns
returns c = λ more. on_ok_weaker c.add_text-2.result (λ last.
    last ∙ c.in_ok-add-2.ensures _ ∙ c.in_ok-add_text.ensures _ ∙ c.in_ok-add.ensures _
    ∙ ap (λ line. c.args.text.now.items ++ line) (sym (write_line c.args.expect.now c.args.put.now more)))
    (c.add_text-2.ensures more)
