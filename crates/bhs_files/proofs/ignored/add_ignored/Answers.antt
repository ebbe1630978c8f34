use Rattle.std.proofs.Common.{◌≡◌, ◌++◌, map, filter, string_bytes, ap, ◌∙◌, rules}
use Rattle.std.proofs.lemmas.Map.Iter.{iter_end}
use Rattle.std.specs.Map.{keys_of}
use Rattle.std.specs.Map.Iter.{deref}
use Rattle.toml.specs.View.{table_view}
use Rattle.bhs_files.specs.IgnoredKeys as specs
use Rattle.bhs_files.proofs.TableKeys.{keys_as_bytes, texts_seen}
use Rattle.bhs_files.proofs.ignored.add_ignored.Goals as goal

pub returns : goal.returns
returns c =
    let all : map deref c.loop-key.yielded ≡ keys_of c.args.table.now.entries = search (rules, iter_end) in
    c.loop-key.invariant ∙ ap (λ keys. c.args.found.now.items
    ++ map (specs.ignored_key c.args.place.version c.args.place.game (table_view c.args.table.now))
    (filter (specs.is_ignored c.args.place.version c.args.place.game c.args.place.has_delays) keys))
    (texts_seen c.loop-key.yielded ∙ ap (map string_bytes) all ∙ keys_as_bytes c.args.table.now.entries)
