use Rattle.bhs_cli_explore.proofs.LinkLemmas.{HasMore}
use Rattle.bhs_cli_explore.proofs.links.add_links.Given as goal

abbrev pub invariant-loop-port : goal.invariant-loop-port
invariant-loop-port l = HasMore l.ready.held l.node l.port l.fn.links.items l.links.items
