use Rattle.bhs_player.proofs.TranscriptLemmas.{clients_talk}
use Rattle.bhs_player.proofs.laws.clients_talk.Goals as goal

pub returns : goal.returns
returns g c = clients_talk g.R.Input.gives g.W.Output.takes g.W.Output.flushes
