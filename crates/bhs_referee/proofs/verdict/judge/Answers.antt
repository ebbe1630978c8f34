use Rattle.std.proofs.Common.{◌≤◌, List, length, sym, ap, ◌∙◌, subst}
use Rattle.bhs_net.specs.Network.{Network, nodes_of}
use Rattle.bhs_net.specs.declared.faults.TheConstants.{MAX_NODES}
use Rattle.bhs_model.specs.declared.marks.Kept.{Kept}
use Rattle.bhs_match.specs.Matches.{world_in}
use Rattle.bhs_referee.specs.Walks.{start, walk_from}
use Rattle.bhs_referee.proofs.FollowLemmas.{walk_given}
use Rattle.bhs_referee.proofs.VerdictLemmas.{verdict_same}
use Rattle.bhs_referee.proofs.verdict.judge.Goals as goal

pub walked-walk-requires-clause-sites : goal.walked-walk-requires-clause-sites
walked-walk-requires-clause-sites c = c.sites.ensures.count ∙ ap (λ (log : List Kept). length log)
    (sym c.log.ensures.log)

pub returns : goal.returns
returns c = verdict_same c.args.sealed.now _ _ c.walked-walk.result _ _
    (walk_given (world_in c.args.sealed.now) (nodes_of c.args.sealed.now.net) c.args.sealed.now.log c.sites.result.now
    c.walked-walk.result c.setup-setup.ensures.within.agents
    (subst (λ (net : Network). nodes_of net ≤ MAX_NODES) c.net-net.ensures c.nodes-nodes.ensures.network.labelled.many)
    c.sites.ensures.range c.sites.ensures.sites c.log.ensures.kept c.log.ensures.replies
    (c.walked-walk.ensures ∙ ap (λ (log : List Kept). walk_from start log c.sites.result.now) c.log.ensures.log))
    c.net-net.ensures c.setup-setup.ensures.setup c.outcome.ensures c.lost.ensures
