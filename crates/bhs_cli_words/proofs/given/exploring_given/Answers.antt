use Rattle.std.proofs.Common.{◌≡◌, ◌∙◌, codes, refl, sym, Bool, List, Option}
use Rattle.std.proofs.lemmas.Result.{IfOk-weaker}
use Rattle.clap.specs.Words.{Text, found_of}
use Rattle.bhs_cli_words.specs.CommandLine.{exploring_of}
use Rattle.bhs_cli_words.specs.declared.orders.Exploration.{Exploration}
use Rattle.bhs_cli_words.proofs.FoundLemmas.{no_texts_found, texts_found}
use Rattle.bhs_cli_words.proofs.given.exploring_given.Goals as goal

same_order : (one other : Text) (some words : List Text) (b d : Bool) (e f : Option Exploration) → one ≡ other
    → some ≡ words → b ≡ d → e ≡ f → exploring_of one some b e ≡ exploring_of other words d f
same_order one other some words b d e f tournaments texts flags explorations =
    rw (tournaments, texts, flags, explorations) refl

pub returns-in-Some-get_strs : goal.returns-in-Some-get_strs
returns-in-Some-get_strs c =
    IfOk-weaker c.exploring.result _ _
    (λ order is. is ∙ same_order _ _ _ _ _ _ _ _ c.in_ok-tournament.ensures
    (texts_found (found_of c.args.words.now) (codes "module") c.in-Some-get_strs.texts
    (rw c.in-Some-get_strs.is at c.get_strs.ensures))
    c.is_given-is_all.ensures
    (sym c.in-Some.is ∙ c.in_ok-exploration.ensures)) c.exploring.ensures

pub returns-in-None : goal.returns-in-None
returns-in-None c =
    IfOk-weaker c.exploring-in-None.result _ _
    (λ order is. is ∙ same_order _ _ _ _ _ _ _ _ c.in_ok-tournament.ensures
    (no_texts_found (found_of c.args.words.now) (codes "module") (rw c.in-None.is at c.get_strs.ensures))
    c.is_given-is_all.ensures
    (sym c.in-Some.is ∙ c.in_ok-exploration.ensures)) c.exploring-in-None.ensures
