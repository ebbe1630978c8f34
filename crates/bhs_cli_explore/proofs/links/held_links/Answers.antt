use Rattle.bhs_cli_explore.proofs.LinkLemmas.{none_below}
use Rattle.bhs_cli_explore.proofs.links.held_links.Goals as goal

pub loop-node-init : goal.loop-node-init
loop-node-init c = rw c.new-links.ensures.items (none_below c.args.ready.now.game.net c.args.ready.now.held)
