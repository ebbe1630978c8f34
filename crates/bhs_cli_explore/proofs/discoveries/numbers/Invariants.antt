use denote.Shadow.{shadow}
use denote.Text.{Utf8}
use Rattle.std.proofs.Common.{◌≡◌, ◌++◌, codes, drop, string_bytes}
use Rattle.bhs_cli_explore.specs.Discoveries.{items_text}
use Rattle.bhs_cli_explore.proofs.discoveries.numbers.Given as goal

abbrev pub invariant-loop-number : goal.invariant-loop-number
invariant-loop-number l = (string_bytes l.text ++ items_text l.before (drop l.number-index l.numbers)
    ≡ codes "[" ++ items_text (codes "") l.numbers) × shadow (Utf8 l.before)
