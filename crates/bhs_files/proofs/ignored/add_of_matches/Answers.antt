use Rattle.std.proofs.Common.{◌≡◌, ◌++◌, Some, subst, sym}
use Rattle.toml.specs.View.{table_view}
use Rattle.bhs_files.specs.IgnoredKeys as specs
use Rattle.bhs_files.proofs.IgnoredLemmas.{gathers, has_gathered}
use Rattle.bhs_files.proofs.ignored.add_of_matches.Goals as goal

pub loop-number-preserved : goal.loop-number-preserved
loop-number-preserved c =
    let grown : c.add_ignored.new.found.items ≡ c.loop-number.found.items
    ++ specs.ignored_in_table c.args.top.version (Some c.loop-number.number) c.args.top.has_delays
    (table_view c.index-matches-number.result.now) = c.in_ok-add_ignored.ensures in
    rw grown (gathers c.args.top.version c.args.top.has_delays c.args.matches.now (λ one. table_view one.now)
    c.loop-number.number c.loop-number.found.items _ c.index-matches-number.result c.loop-number-test.true
    c.index-matches-number.is c.loop-number.invariant)

pub returns : goal.returns
returns c =
    has_gathered c.args.top.version c.args.top.has_delays c.args.matches.now (λ one. table_view one.now)
    c.loop-number.number c.loop-number.found.items _ c.loop-number-test.false c.loop-number.invariant
