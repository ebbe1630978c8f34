use Rattle.std.proofs.Common.{◌≡◌, ◌++◌, drop, string_bytes}
use Rattle.bhs_cli_serve.specs.Recording.{lines_of}
use Rattle.bhs_cli_serve.proofs.parts.lines_of.Given as goal

abbrev pub invariant-loop-one : goal.invariant-loop-one
invariant-loop-one l = string_bytes l.text ++ lines_of (drop l.one-index l.found) ≡ lines_of l.found
