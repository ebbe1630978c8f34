use Rattle.std.proofs.Common.{◌≡◌, ℕ, List, ◌++◌, ◌∷◌, [], ap, sym, ◌∙◌, append_assoc, rules}
use Rattle.bhs_wire.proofs.PlainLemmas.{quoted_text-plain}
use Rattle.bhs_wire.proofs.replies.push_quoted.Goals as goal

pub returns-clause-quoted : goal.returns-clause-quoted
returns-clause-quoted c =
    let before = c.args.text.now.items in
    let text = c.args.quoted.now in
    let put : c.extend_from_slice.new.self.items ≡ (before ++ 34 ∷ []) ++ text =
    c.in_ok-extend_from_slice.ensures.items ∙ (ap (λ (items : List ℕ). items ++ c.as_bytes-2.result.now)
    c.in_ok-push.ensures.items ∙ ap (λ (bytes : List ℕ). (before ++ 34 ∷ []) ++ bytes) c.as_bytes-2.ensures.value) in
    c.in_ok-push-2.ensures.items ∙ (ap (λ (items : List ℕ). items ++ 34 ∷ []) put
    ∙ (append_assoc (before ++ 34 ∷ []) text (34 ∷ []) ∙ (append_assoc before (34 ∷ []) (text ++ 34 ∷ [])
    ∙ ap (λ (more : List ℕ). before ++ more) (sym (quoted_text-plain text (search rules))))))
