use Rattle.bhs_cli_rehearse.proofs.AnsweredLemmas.{is_transcribed}
use Rattle.bhs_cli_rehearse.proofs.laws.answers_are_transcripts.Goals as goal

pub returns : goal.returns
returns c games stage lines script mean = is_transcribed games lines script mean stage
