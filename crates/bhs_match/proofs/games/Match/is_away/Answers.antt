use Rattle.std.proofs.Common.{◌≡◌, ap, ◌∙◌, subst}
use Rattle.std.specs.Prelude.{is_some}
use Rattle.bhs_model.specs.Runs.{is_bound}
use Rattle.bhs_match.specs.Matches.{Play, state_of}
use Rattle.bhs_match.proofs.ApplyLemmas.{away_same}
use Rattle.bhs_match.proofs.games.Match.is_away.Goals as goal

pub returns : goal.returns
returns c =
    subst (λ (play : Play). c.is_some.result ≡ is_bound ((state_of play).position c.args.agent)) c.self.view_is
    (c.is_some.ensures ∙ ap (λ link. is_some link) c.link.ensures ∙ away_same c.self.inside.world _ c.args.agent
    c.self.invariant.0.stands)
