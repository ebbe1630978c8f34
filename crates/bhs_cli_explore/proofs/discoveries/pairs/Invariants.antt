use denote.Shadow.{shadow}
use denote.Text.{Utf8}
use Rattle.std.proofs.Common.{◌≡◌, ◌++◌, codes, drop, string_bytes}
use Rattle.bhs_cli_explore.specs.Discoveries.{pair_items}
use Rattle.bhs_cli_explore.proofs.discoveries.pairs.Given as goal

abbrev pub invariant-loop-pair : goal.invariant-loop-pair
invariant-loop-pair l = (string_bytes l.text ++ pair_items l.before (drop l.pair-index l.pairs)
    ≡ codes "[" ++ pair_items (codes "") l.pairs) × shadow (Utf8 l.before)
