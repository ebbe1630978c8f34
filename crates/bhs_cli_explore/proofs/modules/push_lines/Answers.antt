use Rattle.std.proofs.Common.{◌∙◌, ◌++◌, ap, ℕ, List}
use Rattle.std.specs.Prelude.{string_bytes}
use Rattle.bhs_cli_explore.specs.ModuleExploration.{module_line}
use Rattle.bhs_cli_explore.specs.declared.modules.ModuleFile.{ModuleFile}
use Rattle.bhs_cli_explore.proofs.ModuleLemmas.{line_with, more_lines}
use Rattle.bhs_cli_explore.proofs.modules.push_lines.Goals as goal

pub loop-file-preserved : goal.loop-file-preserved
loop-file-preserved c =
    let before : List ℕ = string_bytes c.loop-file.text in
    more_lines c.args.files.now c.loop-file.file-index c.file-item.result c.failure_in.result
    (string_bytes c.args.text.now) before (string_bytes c.push_str.new.self) c.loop-file-test.true
    (c.in_ok-push_str.ensures.bytes
    ∙ ap (λ (end : List ℕ). before ++ end) (c.as_str.ensures.value ∙ (c.in_ok-line.ensures
    ∙ ap (λ (it : ModuleFile). module_line (line_with it c.failure_in.result)) c.file-item.is)))
    c.loop-file.invariant
