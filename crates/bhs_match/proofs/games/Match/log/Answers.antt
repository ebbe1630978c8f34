use Rattle.std.proofs.Common.{◌≤◌, length, subst}
use Rattle.bhs_match.specs.Matches.{Play, world_in, most_kept}
use Rattle.bhs_match.proofs.LawLemmas.{heard_in_log}
use Rattle.bhs_match.proofs.ApplyLemmas.{log_few}
use Rattle.bhs_match.proofs.games.Match.log.Goals as goal

pub returns-clause-heard : goal.returns-clause-heard
returns-clause-heard c =
    let play : Play = c.args.self.now in
    heard_in_log (world_in play) play.log (rw (← c.self.view_is) c.self.invariant.0.stands.replies)

pub returns-clause-bound : goal.returns-clause-bound
returns-clause-bound c =
    subst (λ (play : Play). length play.log ≤ most_kept play.setup.agents play.setup.quota) c.self.view_is
    (log_few _ _ _ _ c.self.invariant.0)
