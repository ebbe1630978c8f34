use Rattle.bhs_cli_explore.proofs.LinkLemmas.{HasBelow}
use Rattle.bhs_cli_explore.proofs.links.held_links.Given as goal

abbrev pub invariant-loop-node : goal.invariant-loop-node
invariant-loop-node l = HasBelow l.ready.game.net l.ready.held l.node l.links.items
