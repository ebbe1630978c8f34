use Rattle.bhs_cli_rehearse.proofs.AnsweredLemmas.{has_answered}
use Rattle.bhs_cli_rehearse.proofs.laws.known_answers.Goals as goal

pub returns : goal.returns
returns g c turns stage input input' output output' reads is_over progress interacts =
    has_answered g.R.Read.remaining g.W.Write.contents turns stage input output reads is_over progress input' output'
    interacts
