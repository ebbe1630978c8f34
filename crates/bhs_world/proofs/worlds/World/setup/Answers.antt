use Rattle.bhs_world.proofs.worlds.World.setup.Goals as goal

pub returns-clause-normal : goal.returns-clause-normal
returns-clause-normal c = rw (← c.self.view_is) c.self.invariant.0.ordered
