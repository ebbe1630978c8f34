use Rattle.std.proofs.Common.{◌≡◌, [], replicate}
use Rattle.bhs_match.proofs.news.no_news.Given as goal

abbrev pub invariant-loop : goal.invariant-loop
invariant-loop l = l.news.items ≡ replicate l.counter (record { places = []; room = l.room })
