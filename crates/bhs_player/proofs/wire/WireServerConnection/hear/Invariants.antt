use Rattle.bhs_player.proofs.TranscriptLemmas.{HasRead}
use Rattle.bhs_player.proofs.wire.WireServerConnection.hear.Given as goal

abbrev pub invariant-loop : goal.invariant-loop
invariant-loop g l = HasRead g.R.Input.gives l.initial.self l.self
