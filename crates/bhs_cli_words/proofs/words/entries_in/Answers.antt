use Rattle.std.proofs.Common.{◌∙◌, ◌+◌, ap, List}
use Rattle.bhs_cli_words.specs.CommandLine.{entries_in, entry_in}
use Rattle.bhs_cli_words.specs.declared.orders.TableEntry.{TableEntry}
use Rattle.bhs_cli_words.proofs.FoundLemmas.{joined, says_none, says_one, texts_from}
use Rattle.bhs_cli_words.proofs.words.entries_in.Goals as goal

pub returns-in-None : goal.returns-in-None
returns-in-None c =
    says_none entry_in c.args.words.now c.loop-word.word-index _ c.loop-word-test.true c.in_ok-entry.field-0
    c.in_ok-entry.ensures c.loop-word.entries.items c.loop-word.invariant c.in-None.is

pub loop-word-preserved : goal.loop-word-preserved
loop-word-preserved c =
    ap (λ (done : List TableEntry). joined done (entries_in (texts_from (c.loop-word.word-index + 1) c.args.words.now)))
    c.in_ok-push-in-Some.ensures.items
    ∙ says_one entry_in c.args.words.now c.loop-word.word-index _ c.loop-word-test.true c.in_ok-entry.field-0
    c.in_ok-entry.ensures c.loop-word.entries.items c.loop-word.invariant c.in-Some.entry c.in-Some.is
