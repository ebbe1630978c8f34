use Rattle.std.proofs.Common.{◌≡◌}
use Rattle.bhs_cli_words.specs.Exploring.{modules_in}
use Rattle.bhs_cli_words.proofs.FoundLemmas.{joined, texts_from}
use Rattle.bhs_cli_words.proofs.words.modules_in.Given as goal

abbrev pub invariant-loop-word : goal.invariant-loop-word
invariant-loop-word l = joined l.modules.items (modules_in (texts_from l.word-index l.words)) ≡ modules_in
    (texts_from 0 l.words)
