use Rattle.std.proofs.Common.{◌≡◌, true, subst, Option, Some, IfSome}
use Rattle.bhs_model.specs.declared.replies.Reply.{Reply}
use Rattle.bhs_shared_match.specs.Passes.{Passed}
use Rattle.bhs_shared_match.specs.Arrivals.{is_here, IsGiven}
use Rattle.bhs_shared_match.proofs.NewsLemmas.{given_is_news}
use Rattle.bhs_shared_match.proofs.shared_matches.SharedMatch.awaited.Goals as goal

pub returns-in-Some-2-clause-news : goal.returns-in-Some-2-clause-news
returns-in-Some-2-clause-news g c =
    let told = c.in_ok-reply.ensures in
    let here = subst (λ (said : Option Reply). IfSome said (λ reply. is_here reply ≡ true)) c.in-Some-2.is told.here in
    let given = subst (λ (said : Option Reply). IsGiven c.deref.result.now.play c.loop.pass said c.give.new.pass)
    c.in-Some-2.is told.given in
    given_is_news c.args.self.now _ _ c.args.pass.now _ _ told.legal here
    (subst (λ (pass : Passed). IsGiven c.deref.result.now.play pass (Some c.in-Some-2.reply) c.give.new.pass)
    c.loop.invariant.2 given)
