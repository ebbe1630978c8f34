use Rattle.bhs_protocols.proofs.HalvingLemmas.{ways_are_paid, last_ways_are_paid, moves_are, moves_are_few}
use Rattle.bhs_protocols.proofs.HalvingLemmas.{rounds_least, rounds_reach}
use Rattle.bhs_protocols.proofs.laws.halving_costs.Goals as goal

pub returns : goal.returns
returns c = record {
  paid = ways_are_paid;
  last = last_ways_are_paid;
  all = moves_are;
  few = moves_are_few;
  least = rounds_least;
  reach = rounds_reach;
}
