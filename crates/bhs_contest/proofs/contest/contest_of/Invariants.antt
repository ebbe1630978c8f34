use Rattle.std.proofs.Common.{◌≡◌}
use Rattle.bhs_contest.proofs.HostLemmas.{Hosts}
use Rattle.bhs_contest.proofs.contest.contest_of.Given as goal

abbrev pub invariant-loop-one : goal.invariant-loop-one
invariant-loop-one l =
    (goal.iterator-loop-one).can_next l.one-iterator
    × (goal.iterator-loop-one).is_finite l.one-iterator
    × Hosts l.fn.lineup.seed l.fn.lineup.schedule l.fn.lineup.ready.items l.hosted.teams.items
    l.hosted.contest.shared_matches.items
    l.hosted.contest.dealers.items l.one-iterator.rest.items
    × (l.hosted.contest.keys ≡ l.fn.lineup.keys)
