use Rattle.std.proofs.Common.{◌≡◌, ◌++◌, map, drop}
use Rattle.toml.specs.View.{table_view}
use Rattle.bhs_files.specs.IgnoredKeys as specs
use Rattle.bhs_files.proofs.ignored.add_of_matches.Given as goal

abbrev pub invariant-loop-number : goal.invariant-loop-number
invariant-loop-number l =
    l.found.items ++ specs.ignored_in_matches l.top.version l.number l.top.has_delays
    (map (λ one. table_view one.now) (drop l.number l.matches))
    ≡ l.initial.found.items ++ specs.ignored_in_matches l.top.version 0 l.top.has_delays
    (map (λ one. table_view one.now) l.matches)
