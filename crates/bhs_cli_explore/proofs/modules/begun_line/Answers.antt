use Rattle.std.proofs.Common.{◌∙◌, ◌++◌, ap₂, codes, ℕ, List}
use Rattle.std.proofs.lemmas.Result.{IfOk-weaker}
use Rattle.bhs_cli_explore.proofs.modules.begun_line.Goals as goal

pub returns : goal.returns
returns c =
    IfOk-weaker c.format.result _ _
    (λ line is. is
    ∙ ap₂ (λ (digest arguments : List ℕ).
    codes "{\"module\":\"" ++ (digest ++ (codes "\",\"arguments\":" ++ arguments)))
    (c.as_str-digest.ensures.value ∙ c.in_ok-digest.ensures)
    (c.as_str-arguments.ensures.value ∙ c.in_ok-arguments.ensures)) c.format.ensures.ok
