use Rattle.std.proofs.Common.{◌∙◌, refl}
use Rattle.std.proofs.lemmas.Result.{IfOk-weaker}
use Rattle.clap.specs.Words.{found_of}
use Rattle.bhs_cli_words.proofs.FoundLemmas.{text_found}
use Rattle.bhs_cli_words.proofs.given.text_given.Goals as goal

pub returns : goal.returns
returns c =
    IfOk-weaker c.text.result _ _
    (λ copy is. is ∙ text_found (found_of c.args.words.now) c.args.argument.now.id.now c.get_str.result
    c.unwrap_or.result _ c.get_str.ensures refl c.unwrap_or.ensures) c.text.ensures
