use Rattle.bhs_match.proofs.games.Match.setup.Goals as goal

pub returns-clause-normal : goal.returns-clause-normal
returns-clause-normal c = rw (← c.self.view_is) c.setup.ensures.normal
