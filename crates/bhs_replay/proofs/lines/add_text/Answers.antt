use Rattle.std.proofs.Common.{List, [], ◌∷◌, ◌++◌, append_assoc, ap, ◌∙◌}
use Rattle.json.specs.Print.{print}
use Rattle.json.specs.Token.{Token}
use Rattle.bhs_wire.specs.Reply.{quoted_text}
use Rattle.bhs_replay.proofs.LineLemmas.{print-text}
use Rattle.bhs_replay.proofs.lines.add_text.Goals as goal

pub returns : goal.returns
returns c = λ more.
    let all = c.in_ok-written.ensures.ok ∙ ap (λ (t : List Token). t ++ Token.string c.args.added.now ∷ [])
    c.new-out.ensures.tokens in
    let before = c.string-written.ensures.room.0
    ∙ (c.new-out.ensures.before ∙ ap (λ v. v.items) c.replace.ensures.value) in
    ap (λ t. t ++ more) (c.into_inner.ensures.items
    ∙ (ap (λ b. b ++ print c.string-written.new.self.tokens) before
    ∙ ap (λ t. c.args.text.now.items ++ t) (ap print all ∙ print-text c.args.added.now)))
    ∙ append_assoc c.args.text.now.items (quoted_text c.args.added.now) more
