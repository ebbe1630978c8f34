use Rattle.std.proofs.Common.{◌≡◌, drop, map}
use Rattle.bhs_files.specs.Names.{first_seen}
use Rattle.bhs_files.proofs.NamesLemmas.{after}
use Rattle.bhs_files.proofs.tournaments.Tournament.networks.Given as goal

abbrev pub invariant-loop-fixture : goal.invariant-loop-fixture
invariant-loop-fixture l = after (map (λ name. name.now) l.names.keys)
    (map (λ fixture. fixture.network) (drop l.fixture-index l.fixture-items)) ≡ first_seen
    (map (λ fixture. fixture.network) l.self.matches.items)
