use Rattle.bhs_player.proofs.play.played.Goals as goal

pub returns-in-Chart-clause-broken : goal.returns-in-Chart-clause-broken
returns-in-Chart-clause-broken g c = rw c.in-Chart.is c.play-in-Chart.ensures.broken
