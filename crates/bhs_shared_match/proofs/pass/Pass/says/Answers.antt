use Rattle.std.proofs.Common.{ap, ◌∙◌}
use Rattle.bhs_shared_match.specs.Passes.{Passed}
use Rattle.bhs_shared_match.proofs.LoopLemmas.{says_at, says_none}
use Rattle.bhs_shared_match.proofs.pass.Pass.says.Goals as goal

pub returns-in-Some-Some : goal.returns-in-Some-Some
returns-in-Some-Some c =
    let one = c.in-Some-Some.ensures.lookup in
    let two = c.in-Some-Some.ensures'.lookup in
    says_at c.args.self.now c.deref.result.now c.deref-2.result.now _ _ _ _ _
    (c.deref.ensures.value ∙ ap (λ (p : Passed). p.receipts) c.self.view_is)
    (c.deref-2.ensures.value ∙ ap (λ (p : Passed). p.commands) c.self.view_is)
    one.3.0 one.1 two.3.0 two.1 c.is_entry.ensures

pub returns-in_default-2 : goal.returns-in_default-2
returns-in_default-2 c =
    let past = c.in_default.ensures.lookup.3 in
    says_none c.args.self.now c.deref.result.now _ _
    (c.deref.ensures.value ∙ ap (λ (p : Passed). p.receipts) c.self.view_is) past
