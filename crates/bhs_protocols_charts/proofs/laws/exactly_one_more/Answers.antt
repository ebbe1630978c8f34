use Rattle.bhs_protocols_charts.proofs.ExactlyLemmas.{exactly_one_more, exactly_one_more_finds}
use Rattle.bhs_protocols_charts.proofs.laws.exactly_one_more.Goals as goal

pub returns : goal.returns
returns c = record { solves = exactly_one_more; finds = exactly_one_more_finds }
