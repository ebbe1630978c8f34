use Rattle.bhs_files.specs.Tournaments.{plan}
use Rattle.bhs_cli.proofs.FreshLemmas.{fresh}
use Rattle.bhs_cli.proofs.tournaments.check.assembled.Goals as goal

pub returns-in-Ok-clause-fresh : goal.returns-in-Ok-clause-fresh
returns-in-Ok-clause-fresh g c =
    fresh (plan c.args.tournament) c.deref.result.now c.in-Ok.lineup.ready.items c.in-Ok.ensures.matches
