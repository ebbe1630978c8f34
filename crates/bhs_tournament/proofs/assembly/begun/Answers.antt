use Rattle.bhs_tournament.proofs.assembly.begun.Goals as goal

pub returns : goal.returns
returns c = rw (c.in_ok-net.ensures, c.in_ok-setup.ensures, c.excess.ensures) at c.started.ensures
