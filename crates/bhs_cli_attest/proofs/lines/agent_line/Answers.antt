use Rattle.std.proofs.Common.{◌∙◌, ◌++◌, ap, ap₂, codes, decimal, ℕ, List}
use Rattle.bhs_cli_attest.proofs.lines.agent_line.Goals as goal

pub returns : goal.returns
returns c =
    c.in_ok-push_str.ensures.bytes
    ∙ ap₂ (λ (front end : List ℕ). front ++ end) c.in_ok-line.ensures
    (c.as_str.ensures.value ∙ c.in_ok-rest.ensures.ok
    ∙ ap (λ (end : List ℕ). codes ",\"agent\":" ++ (decimal c.args.agent ++ end))
    (c.as_str-end.ensures.value ∙ c.in_ok-outcome.ensures))
