use Rattle.std.proofs.Common.{length, sym, ap, ◌∙◌}
use Rattle.bhs_shared_match.specs.Passes.{Passed}
use Rattle.bhs_shared_match.specs.Comparing.{receipted}
use Rattle.bhs_shared_match.proofs.CompareLemmas.{receipted_length}
use Rattle.bhs_shared_match.proofs.pass.Pass.commands_heard.Goals as goal

pub returns : goal.returns
returns c =
    let long = receipted_length c.self.inside.receipts.items c.self.inside.commands.items c.self.invariant.0.1 in
    let whole = ap (λ (p : Passed). length (receipted p.receipts p.commands)) c.self.view_is in
    ap length c.as_slice.ensures.value ∙ sym long ∙ whole
