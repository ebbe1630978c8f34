use Rattle.bhs_wire.proofs.FrontLemmas.{one_more}
use Rattle.bhs_wire.proofs.pieces.push_first.Goals as goal

pub returns-in_ok-push_back-in-None-clause-front : goal.returns-in_ok-push_back-in-None-clause-front
returns-in_ok-push_back-in-None-clause-front c = one_more _ _ _ _ c.push_back.ensures.items
