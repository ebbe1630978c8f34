use Rattle.bhs_protocols.proofs.SizeLemmas.{no_team_finds_on_two_sizes, no_team_solves_two_sizes}
use Rattle.bhs_protocols.proofs.laws.no_team_solves_two_sizes.Goals as goal

pub returns : goal.returns
returns c = record { finds = no_team_finds_on_two_sizes; solves = no_team_solves_two_sizes }
