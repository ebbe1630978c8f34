use Rattle.std.proofs.Common.{List, ◌++◌, ap, ◌∙◌}
use Rattle.json.specs.Print.{print}
use Rattle.json.specs.Token.{Token}
use Rattle.serde_json.proofs.Texts.{print-outline}
use Rattle.bhs_replay.specs.Head.{head_data}
use Rattle.bhs_replay.specs.HeadTokens.{data_tokens}
use Rattle.bhs_replay.proofs.heads.head_line.Goals as goal

pub returns-clause-line : goal.returns-clause-line
returns-clause-line c =
    let head = head_data c.args.version c.args.net.now c.args.setup.now in
    let all = c.in_ok-write_head.ensures.ok
    ∙ ap (λ (tokens : List Token). tokens ++ data_tokens head) c.new-out.ensures.tokens in
    let before = c.write_head.ensures.before ∙ (c.new-out.ensures.before ∙ c.new.ensures.items) in
    let text = c.into_inner.ensures.items ∙ (ap (λ b. b ++ print c.write_head.new.out.tokens) before
    ∙ (ap print all ∙ print-outline head)) in
    ap (λ v. v.items) (rw c.unwrap.ensures at c.from_utf8.ensures.ok) ∙ text
