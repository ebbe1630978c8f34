use Rattle.std.proofs.Common.{◌≡◌, ◌++◌, drop, string_bytes}
use Rattle.bhs_cli_serve.specs.LogLines.{numbers}
use Rattle.bhs_cli_serve.proofs.log_lines.numbers.Given as goal

abbrev pub invariant-loop-one : goal.invariant-loop-one
invariant-loop-one l = string_bytes l.text ++ numbers (drop l.one-index l.all) ≡ numbers l.all
