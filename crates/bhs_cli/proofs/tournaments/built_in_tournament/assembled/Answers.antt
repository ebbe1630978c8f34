use Rattle.bhs_cli.proofs.TextLemmas.{one_name}
use Rattle.bhs_cli.proofs.tournaments.built_in_tournament.assembled.Goals as goal

pub assemble-requires : goal.assemble-requires
assemble-requires c = one_name c.in_ok-tournament.field-0 c.in_ok-tournament.ensures
