use Rattle.bhs_protocols_mapped.proofs.TourLemmas.{halves_attain_with_a_tour, halves_solve_with_a_tour, parts_attain}
use Rattle.bhs_protocols_mapped.proofs.TourLemmas.{parts_suffice}
use Rattle.bhs_protocols_mapped.proofs.laws.tours_suffice.Goals as goal

pub returns : goal.returns
returns c = record {
  parts = parts_suffice;
  moves = parts_attain;
  halves = halves_solve_with_a_tour;
  attained = halves_attain_with_a_tour;
}
