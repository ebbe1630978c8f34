use Rattle.std.proofs.Common.{ℕ, ◌≡◌, ◌∙◌, codes, refl, sym, List, Option}
use Rattle.std.proofs.lemmas.Result.{IfOk-weaker}
use Rattle.clap.specs.Words.{Text, found_of}
use Rattle.bhs_cli_words.specs.CommandLine.{attesting_of}
use Rattle.bhs_cli_words.proofs.FoundLemmas.{no_texts_found, texts_found}
use Rattle.bhs_cli_words.proofs.given.attesting_given.Goals as goal

same_order : (one other : Text) (some words : List Text) (e f : Option ℕ) → one ≡ other → some ≡ words → e ≡ f
    → attesting_of one some e ≡ attesting_of other words f
same_order one other some words e f replays texts numbers = rw (replays, texts, numbers) refl

pub returns-in-Some-get_strs : goal.returns-in-Some-get_strs
returns-in-Some-get_strs c =
    IfOk-weaker c.attesting.result _ _
    (λ order is. is ∙ same_order _ _ _ _ _ _ c.in_ok-replay.ensures
    (texts_found (found_of c.args.words.now) (codes "module") c.in-Some-get_strs.texts
    (rw c.in-Some-get_strs.is at c.get_strs.ensures))
    (sym c.in-Some.is ∙ c.short_given.ensures)) c.attesting.ensures

pub returns-in-None : goal.returns-in-None
returns-in-None c =
    IfOk-weaker c.attesting-in-None.result _ _
    (λ order is. is ∙ same_order _ _ _ _ _ _ c.in_ok-replay.ensures
    (no_texts_found (found_of c.args.words.now) (codes "module") (rw c.in-None.is at c.get_strs.ensures))
    (sym c.in-Some.is ∙ c.short_given.ensures)) c.attesting-in-None.ensures
