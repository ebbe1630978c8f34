use Rattle.std.proofs.Common.{◌≡◌, sym, ap, ◌∙◌, subst}
use Rattle.bhs_match.specs.Matches.{Play}
use Rattle.bhs_match.specs.Decided.{has_entered, has_entered_at}
use Rattle.bhs_match.proofs.games.Match.has_entered.Goals as goal

pub returns : goal.returns
returns c =
    let course = c.self.invariant.0.stands.state.agents c.args.agent in
    subst (λ (play : Play). c.has_entered_at.result ≡ has_entered play c.args.agent) c.self.view_is
    (c.has_entered_at.ensures ∙ ap (λ agent. has_entered_at agent.position) c.agent.ensures.agent
    ∙ sym (ap has_entered_at course.position))
