use Rattle.std.proofs.Common.{take}
use Rattle.std.specs.Prelude.{string_bytes}
use Rattle.bhs_cli_explore.proofs.ModuleLemmas.{HasLines}
use Rattle.bhs_cli_explore.proofs.modules.push_lines.Given as goal

abbrev pub invariant-loop-file : goal.invariant-loop-file
invariant-loop-file l = HasLines (take l.file-index l.files) (string_bytes l.fn.text) (string_bytes l.text)
