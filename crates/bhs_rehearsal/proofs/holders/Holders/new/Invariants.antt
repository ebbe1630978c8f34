use Rattle.std.proofs.Common.{◌≡◌, [], map, replicate}
use Rattle.bhs_rehearsal.proofs.HolderLemmas.{items_of}
use Rattle.bhs_rehearsal.proofs.holders.Holders.new.Given as goal

abbrev pub invariant-loop : goal.invariant-loop
invariant-loop l = map items_of l.rows.items ≡ replicate l.counter []
