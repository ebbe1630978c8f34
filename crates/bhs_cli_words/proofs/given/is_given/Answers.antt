use Rattle.std.proofs.Common.{◌∙◌, ap, refl, codes, ℕ, List}
use Rattle.std.specs.Str.{bytes_eq}
use Rattle.clap.specs.Words.{found_of}
use Rattle.bhs_cli_words.proofs.FoundLemmas.{text_found}
use Rattle.bhs_cli_words.proofs.given.is_given.Goals as goal

pub returns : goal.returns
returns c =
    c.eq.ensures
    ∙ ap (λ (text : List ℕ). bytes_eq text (codes "true"))
    (text_found (found_of c.args.words.now) c.args.argument.now.id.now c.get_str.result c.unwrap_or.result _
    c.get_str.ensures refl c.unwrap_or.ensures)
