use Rattle.bhs_client.proofs.ReplyLemmas.{reply_on-line}
use Rattle.bhs_client.proofs.laws.replies_are_read.Goals as goal

pub returns : goal.returns
returns c = reply_on-line
