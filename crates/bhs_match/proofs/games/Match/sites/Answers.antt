use Rattle.std.proofs.Common.{◌≡◌, length, ap, ◌∙◌, subst}
use Rattle.bhs_match.specs.Matches.{Play}
use Rattle.bhs_match.proofs.ApplyLemmas.{count_sites}
use Rattle.bhs_match.proofs.games.Match.sites.Goals as goal

pub returns-clause-count : goal.returns-clause-count
returns-clause-count c =
    subst (λ (play : Play). length c.deref.result.now ≡ length play.log) c.self.view_is
    (ap length c.deref.ensures.value ∙ count_sites _ _ _ c.self.invariant.1.0)
