use Rattle.std.proofs.Common.{◌≡◌, sym, ap, ap₂, ◌∙◌, subst}
use Rattle.bhs_match.specs.Matches.{Play}
use Rattle.bhs_match.specs.Decided.{is_done, is_done_at}
use Rattle.bhs_match.proofs.games.Match.is_done.Goals as goal

pub returns : goal.returns
returns c =
    let course = c.self.invariant.0.stands.state.agents c.args.agent in
    subst (λ (play : Play). c.is_done_at.result ≡ is_done play c.args.agent) c.self.view_is
    (c.is_done_at.ensures ∙ ap (λ agent. is_done_at agent.position agent.lost) c.agent.ensures.agent
    ∙ sym (ap₂ is_done_at course.position course.lost))
