use Rattle.bhs_protocols_charts.proofs.ExactlyLemmas.{exactly_four, exactly_four_find}
use Rattle.bhs_protocols_charts.proofs.laws.exactly_four.Goals as goal

pub returns : goal.returns
returns c = record { solves = exactly_four; finds = exactly_four_find }
