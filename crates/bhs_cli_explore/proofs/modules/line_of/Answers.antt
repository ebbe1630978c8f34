use Rattle.std.proofs.Common.{◌∙◌, ◌++◌, ap₂, ℕ, List}
use Rattle.bhs_cli_explore.specs.ModuleExploration.{module_items}
use Rattle.bhs_cli_explore.proofs.modules.line_of.Goals as goal

pub returns : goal.returns
returns c =
    c.in_ok-push_str.ensures.bytes
    ∙ ap₂ (λ (front end : List ℕ). front ++ end)
    (c.in_ok-line.ensures ∙ ap₂ module_items c.deref.ensures.value c.deref-2.ensures.value)
    (c.as_str.ensures.value ∙ c.in_ok-end.ensures)
