use Rattle.std.proofs.Common.{◌≡◌, ◌++◌, ◌∷◌, [], true, ap, sym, ◌∙◌, append_assoc}
use Rattle.std.proofs.lemmas.Result.{on_ok_weaker}
use Rattle.bhs_script.specs.Transcript.{begun_with}
use Rattle.bhs_script.proofs.PrintLemmas.{begun-ended}
use Rattle.bhs_script.proofs.output.push_lines.Goals as goal

pub returns-in-Some : goal.returns-in-Some
returns-in-Some c =
    let text = c.args.text.now.items in
    let beginning = c.args.number.now ++ 32 ∷ [] in
    let bytes = c.args.bytes.now in
    let line = c.in-Some.field-0.now in
    let whole : begun_with beginning true bytes ≡ beginning ++ bytes =
    ap (begun_with beginning true) c.in-Some.ensures.line.0 ∙ (begun-ended beginning line [] c.in-Some.ensures.line.1
    ∙ ap (λ all. beginning ++ all) (sym c.in-Some.ensures.line.0)) in
    on_ok_weaker c.push_begun.result (λ put. put ∙ (append_assoc text beginning bytes
    ∙ ap (λ more. text ++ more) (sym whole))) c.push_begun.ensures
