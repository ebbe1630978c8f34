use Rattle.std.proofs.Common.{◌++◌, ◌∷◌, [], ap, ◌∙◌, OnOk, Result, Ok, Err}
use Rattle.json.specs.Print.{print}
use Rattle.json.specs.Token.{string}
use Rattle.bhs_wire.proofs.PlainLemmas.{print-string}
use Rattle.bhs_wire.proofs.replies.push_escaped.Goals as goal

on_ok : {T E : Type 0} (answer : Result T E) {P Q : Type 0} → (P → Q) → OnOk answer P → OnOk answer Q
on_ok (Ok value) gives holds = gives holds
on_ok (Err error) gives holds = holds

pub returns-clause-quoted : goal.returns-clause-quoted
returns-clause-quoted c = on_ok c.string-written.result (λ written.
    let all = written ∙ ap (λ t. t ++ string c.args.quoted.now ∷ []) c.new-out.ensures.tokens in
    let before = c.string-written.ensures.room.0
    ∙ (c.new-out.ensures.before ∙ ap (λ v. v.items) c.replace.ensures.value) in
    c.into_inner.ensures.items ∙ (ap (λ b. b ++ print c.string-written.new.self.tokens) before
    ∙ ap (λ t. c.args.text.now.items ++ t) (ap print all ∙ print-string c.args.quoted.now)))
    c.string-written.ensures.ok
