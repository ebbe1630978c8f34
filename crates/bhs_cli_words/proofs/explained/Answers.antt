use Rattle.bhs_cli_words.proofs.AnswerLemmas.{asked_told, mistake_told}
use Rattle.bhs_cli_words.proofs.explained.Goals as goal

pub returns-then-use_stderr-clause-ok : goal.returns-then-use_stderr-clause-ok
returns-then-use_stderr-clause-ok c = mistake_told _ (c.use_stderr.ensures.0 c.if-use_stderr.true)

pub returns-else-use_stderr-clause-ok : goal.returns-else-use_stderr-clause-ok
returns-else-use_stderr-clause-ok c = asked_told _ c.use_stderr.result c.use_stderr.ensures c.if-use_stderr.false
