use Rattle.std.proofs.Common.{◌∙◌, ap, codes}
use Rattle.std.proofs.lemmas.Result.{IfOk-weaker}
use Rattle.clap.specs.Words.{found_of}
use Rattle.bhs_cli_words.specs.CommandLine.{entries_in}
use Rattle.bhs_cli_words.proofs.FoundLemmas.{no_texts_found, texts_found}
use Rattle.bhs_cli_words.proofs.given.entries_given.Goals as goal

pub returns-in-Some : goal.returns-in-Some
returns-in-Some c =
    IfOk-weaker c.entries_in.result _ _
    (λ entries is. is ∙ ap entries_in (texts_found (found_of c.args.words.now) (codes "entry") c.in-Some.texts
    (rw c.in-Some.is at c.get_strs.ensures))) c.entries_in.ensures

pub returns-in-None : goal.returns-in-None
returns-in-None c =
    IfOk-weaker c.entries_in-in-None.result _ _
    (λ entries is. is ∙ ap entries_in (no_texts_found (found_of c.args.words.now) (codes "entry")
    (rw c.in-None.is at c.get_strs.ensures))) c.entries_in-in-None.ensures
