use Rattle.bhs_tournament.proofs.assembly.games.Goals as goal

pub returns : goal.returns
returns c = rw c.deref.ensures.value at c.games_on.ensures
