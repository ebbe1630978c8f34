use Rattle.bhs_wire.proofs.FrontLemmas.{one_more}
use Rattle.bhs_wire.proofs.pieces.push_line.Goals as goal

pub returns-then-end-front-clause-front : goal.returns-then-end-front-clause-front
returns-then-end-front-clause-front c = one_more _ _ _ _ c.push_back.ensures.items

pub returns-clause-front : goal.returns-clause-front
returns-clause-front c = one_more _ _ _ _ c.push_back-2.ensures.items
