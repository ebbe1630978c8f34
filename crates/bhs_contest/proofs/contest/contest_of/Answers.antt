use Rattle.std.proofs.Common.{◌∙◌, subst}
use Rattle.bhs_contest.proofs.HostLemmas.{Hosts, hosts_more}
use Rattle.bhs_contest.proofs.contest.contest_of.Goals as goal

pub loop-one-preserved : goal.loop-one-preserved
loop-one-preserved c =
    let seed = c.args.lineup.seed in
    let schedule = c.args.lineup.schedule in
    let all = c.args.lineup.ready.items in
    let contest = c.loop-one.hosted.contest in
    let so_far = subst (Hosts seed schedule all c.loop-one.hosted.teams.items contest.shared_matches.items
    contest.dealers.items)
    c.in-Some.ensures.steps.0 c.loop-one.invariant.2 in
    let added = c.in_ok-add.ensures in (
      tt,
      tt,
      hosts_more seed schedule all _ _ _ _ _ _ _ _ so_far added.teams added.shared_matches added.dealers,
      added.keys ∙ c.loop-one.invariant.3,
    )
