use Rattle.bhs_cli_explore.proofs.LinkLemmas.{no_more}
use Rattle.bhs_cli_explore.proofs.links.add_links.Goals as goal

pub loop-port-init : goal.loop-port-init
loop-port-init c = no_more c.args.ready.now.held c.args.node c.args.links.now.items
