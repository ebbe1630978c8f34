use Rattle.bhs_tournament.proofs.assembly.ready.Goals as goal

pub returns : goal.returns
returns c = rw c.deref.ensures.value at c.with_held.ensures
