use Rattle.std.proofs.Common.{◌≡◌, ◌++◌, ◌∷◌, [], true, ap, sym, ◌∙◌, append_assoc, rules}
use Rattle.bhs_script.specs.Transcript.{begun_with}
use Rattle.bhs_script.proofs.PrintLemmas.{begun-ended, begun-last, put-line}
use Rattle.bhs_script.proofs.output.push_all_lines.Goals as goal

pub loop-line-preserved : goal.loop-line-preserved
loop-line-preserved c =
    let text = c.loop-line.text.items in
    let beginning = c.args.number.now ++ 32 ∷ [] in
    let line = c.in-Some.line.now in
    let more = c.in-Some.more.now in
    let put : c.push.new.self.items ≡ ((text ++ beginning) ++ line) ++ 10 ∷ [] =
    c.in_ok-push.ensures.items ∙ ap (λ items. items ++ 10 ∷ []) c.in_ok-push_begun.ensures in
    ap (λ items. items ++ begun_with beginning true more) put
    ∙ (put-line text beginning line (begun_with beginning true more)
    ∙ (ap (λ bytes. text ++ bytes)
    (sym (ap (begun_with beginning true) c.in-Some.ensures.0 ∙ begun-ended beginning line more c.in-Some.ensures.1))
    ∙ c.loop-line.invariant))

pub returns-in_ok-push_begun-2 : goal.returns-in_ok-push_begun-2
returns-in_ok-push_begun-2 c =
    let text = c.loop-line.text.items in
    let beginning = c.args.number.now ++ 32 ∷ [] in
    let after = c.loop-line.after.now in
    c.in_ok-push_begun-2.ensures
    ∙ (append_assoc text beginning after
    ∙ (ap (λ bytes. text ++ bytes) (sym (begun-last beginning after c.in_default.ensures (λ none. search rules)))
    ∙ c.loop-line.invariant))
