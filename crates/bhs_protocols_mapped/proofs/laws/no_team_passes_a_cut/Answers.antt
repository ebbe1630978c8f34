use Rattle.bhs_protocols_mapped.proofs.CutLemmas.{no_team_passes_a_cut, no_team_looks_behind_a_cut}
use Rattle.bhs_protocols_mapped.proofs.laws.no_team_passes_a_cut.Goals as goal

pub returns : goal.returns
returns c = record { solves = no_team_passes_a_cut; finds = no_team_looks_behind_a_cut }
