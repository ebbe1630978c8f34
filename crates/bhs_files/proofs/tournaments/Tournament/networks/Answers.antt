use Rattle.std.proofs.Common.{ℕ, List, map, ap, ◌∙◌}
use Rattle.bhs_files.specs.Names.{is_among}
use Rattle.bhs_files.proofs.NamesLemmas.{starts, goes_on, ends, seen, name_of}
use Rattle.bhs_files.proofs.tournaments.Tournament.networks.Goals as goal

pub loop-fixture-init : goal.loop-fixture-init
loop-fixture-init c = rw (c.new-names.ensures.empty, c.deref-fixture-items.ensures.value)
    (starts (map name_of c.args.self.now.matches.items))

pub loop-fixture-preserved : goal.loop-fixture-preserved
loop-fixture-preserved c = goes_on c.deref-fixture-items.result.now c.loop-fixture.fixture-index c.fixture-item.result
    c.loop-fixture.names.keys c.insert.new.self.keys c.as_str.result _ c.loop-fixture-test.true c.fixture-item.is
    c.as_str.ensures c.in_ok-insert.ensures.keys c.loop-fixture.invariant

pub returns-clause-all : goal.returns-clause-all
returns-clause-all c = λ name. ap (λ (names : List (List ℕ)). is_among names name)
    (ends c.deref-fixture-items.result.now c.loop-fixture.fixture-index
    (map (λ name. name.now) c.loop-fixture.names.keys) _ c.loop-fixture-test.false c.loop-fixture.invariant)
    ∙ seen (map name_of c.args.self.now.matches.items) name
