use Rattle.std.proofs.Common.{◌∙◌, ap, refl}
use Rattle.clap.specs.Words.{found_of}
use Rattle.bhs_cli_words.specs.Told.{number_by}
use Rattle.bhs_cli_words.proofs.FoundLemmas.{text_found}
use Rattle.bhs_cli_words.proofs.given.number_given.Goals as goal

pub returns : goal.returns
returns c =
    c.number_by.ensures
    ∙ ap (number_by c.args.argument.now.takes)
    (text_found (found_of c.args.words.now) c.args.argument.now.id.now c.get_str.result c.unwrap_or.result _
    c.get_str.ensures refl c.unwrap_or.ensures)
