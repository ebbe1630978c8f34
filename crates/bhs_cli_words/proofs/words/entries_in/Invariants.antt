use Rattle.std.proofs.Common.{◌≡◌}
use Rattle.bhs_cli_words.specs.CommandLine.{entries_in}
use Rattle.bhs_cli_words.proofs.FoundLemmas.{joined, texts_from}
use Rattle.bhs_cli_words.proofs.words.entries_in.Given as goal

abbrev pub invariant-loop-word : goal.invariant-loop-word
invariant-loop-word l = joined l.entries.items (entries_in (texts_from l.word-index l.words)) ≡ entries_in
    (texts_from 0 l.words)
