use Rattle.std.proofs.Common.{rules}
use Rattle.bhs_model.proofs.NormalLemmas.{links_more}
use Rattle.bhs_model.proofs.destroyers.Destroyers.dark.Goals as goal

pub loop-node-preserved : goal.loop-node-preserved
loop-node-preserved c = rw (links_more c.args.net.now _ c.loop-node.node, ← c.loop-node.invariant) (search rules)
