use Rattle.std.proofs.Common.{◌∙◌, ap}
use Rattle.std.specs.Prelude.{option_and_then}
use Rattle.std.proofs.lemmas.Result.{IfOk-weaker}
use Rattle.bhs_cli_words.specs.CommandLine.{order_by}
use Rattle.bhs_cli_words.proofs.FoundLemmas.{both_found}
use Rattle.bhs_cli_words.proofs.given.order_given.Goals as goal

pub returns-in-Some : goal.returns-in-Some
returns-in-Some c =
    IfOk-weaker c.order_named.result _ _
    (λ order is. ap (option_and_then order_by)
    (both_found _ _ _ _ _ c.in-Some.ensures.name c.in-Some.ensures.rows) ∙ is) c.order_named.ensures
