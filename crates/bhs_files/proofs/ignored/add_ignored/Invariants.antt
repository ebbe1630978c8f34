use Rattle.std.proofs.Common.{◌≡◌, ◌++◌, map, filter, string_bytes}
use Rattle.toml.specs.View.{table_view}
use Rattle.bhs_files.specs.IgnoredKeys as specs
use Rattle.bhs_files.proofs.ignored.add_ignored.Given as goal

abbrev pub invariant-loop-key : goal.invariant-loop-key
invariant-loop-key l = l.found.items ≡ l.initial.found.items
    ++ map (specs.ignored_key l.place.version l.place.game (table_view l.table))
    (filter (specs.is_ignored l.place.version l.place.game l.place.has_delays)
    (map (λ key. string_bytes key.now) l.yielded))
