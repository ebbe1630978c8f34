use Rattle.bhs_shared_match.proofs.NewLemmas.{passes_more}
use Rattle.bhs_shared_match.proofs.locked_match.empty_passes.Goals as goal

pub loop-agent-preserved : goal.loop-agent-preserved
loop-agent-preserved c = passes_more _ _ _ _ _ _ c.loop-agent.invariant c.in_ok-new.ensures c.in_ok-push.ensures.items
