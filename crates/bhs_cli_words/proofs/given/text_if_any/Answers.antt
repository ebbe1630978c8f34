use Rattle.std.proofs.Common.{◌∙◌, ap, sym, Some, Bor, ℕ, List}
use Rattle.std.specs.Prelude.{option_map}
use Rattle.clap.specs.Words.{found_of}
use Rattle.clap.proofs.WalkLemmas.{first_value-rows}
use Rattle.bhs_cli_words.proofs.given.text_if_any.Goals as goal

pub returns-in_ok-text-in-Some : goal.returns-in_ok-text-in-Some
returns-in_ok-text-in-Some c =
    ap (λ (name : List ℕ). Some name) c.in_ok-text-in-Some.ensures
    ∙ sym (ap (option_map (λ (s : Bor (List ℕ)). s.now)) c.in-Some.is)
    ∙ (c.get_str.ensures ∙ first_value-rows (found_of c.args.words.now) c.args.argument.now.id.now)

pub returns-in-None : goal.returns-in-None
returns-in-None c =
    sym (ap (option_map (λ (s : Bor (List ℕ)). s.now)) c.in-None.is)
    ∙ (c.get_str.ensures ∙ first_value-rows (found_of c.args.words.now) c.args.argument.now.id.now)
