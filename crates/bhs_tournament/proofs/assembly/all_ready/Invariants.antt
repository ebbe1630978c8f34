use Rattle.std.proofs.Common.{◌≡◌, ◌+◌, length, vec_len}
use Rattle.std.specs.List.{zip}
use Rattle.std.specs.Vec.Iter.{into_iter_items, into_iter_len}
use Rattle.std.specs.Iterator.Adapters.{zip_first, zip_second}
use Rattle.bhs_tournament.specs.Passes.{each_in, readied}
use Rattle.bhs_tournament.proofs.Passing.{then}
use Rattle.bhs_tournament.proofs.assembly.all_ready.Given as goal

abbrev pub invariant-loop-fixture : goal.invariant-loop-fixture
invariant-loop-fixture l =
    let fixtures = zip_first l.fixture-iterator in
    let games = zip_second l.fixture-iterator in
    (goal.iterator-loop-fixture).can_next l.fixture-iterator
    × (goal.iterator-loop-fixture).is_finite l.fixture-iterator
    × (into_iter_len fixtures ≡ length (into_iter_items fixtures))
    × (into_iter_len games ≡ length (into_iter_items games))
    × (vec_len l.all + length (into_iter_items fixtures) ≡ length l.fn.matches.items)
    × (then l.all.items (each_in readied (vec_len l.all)
    (zip (into_iter_items fixtures) (into_iter_items games))) ≡ each_in readied 0
    (zip l.fn.matches.items l.fn.games.items))
