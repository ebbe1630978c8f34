use Rattle.bhs_cli.proofs.TextLemmas.{tournament_is}
use Rattle.bhs_cli.proofs.tournaments.built_in_tournament.tournament.Goals as goal

pub returns : goal.returns
returns c = tournament_is c.read_tournament.result c.read_tournament.ensures
