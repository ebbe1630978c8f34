use Rattle.std.proofs.Common.{◌∙◌, ◌==◌, ap, sym, codes, length, Bor, List, ℕ}
use Rattle.std.proofs.lemmas.List.{length-map}
use Rattle.clap.specs.Words.{found_of}
use Rattle.bhs_cli_words.proofs.FoundLemmas.{no_texts_found, texts_found}
use Rattle.bhs_cli_words.proofs.given.is_one_word.Goals as goal

pub returns-in-Some : goal.returns-in-Some
returns-in-Some c =
    ap (λ (n : ℕ). n == 1) (sym (length-map c.in-Some.texts.now (λ (text : Bor (List ℕ)). text.now)))
    ∙ ap (λ (texts : List (List ℕ)). length texts == 1) (texts_found (found_of c.args.words.now) (codes "entry")
    c.in-Some.texts (rw c.in-Some.is at c.get_strs.ensures))

pub returns-in-None : goal.returns-in-None
returns-in-None c =
    ap (λ (texts : List (List ℕ)). length texts == 1) (no_texts_found (found_of c.args.words.now) (codes "entry")
    (rw c.in-None.is at c.get_strs.ensures))
