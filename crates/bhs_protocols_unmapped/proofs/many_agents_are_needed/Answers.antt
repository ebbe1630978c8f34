use Rattle.bhs_protocols_unmapped.proofs.UnmappedLemmas.{many_agents_are_needed_to_find, many_agents_are_needed}
use Rattle.bhs_protocols_unmapped.proofs.UnmappedLemmas.{many_agents_are_needed_to_find_with_links}
use Rattle.bhs_protocols_unmapped.proofs.UnmappedLemmas.{many_agents_are_needed_with_links}
use Rattle.bhs_protocols_unmapped.proofs.many_agents_are_needed.Goals as goal

pub returns : goal.returns
returns c = record {
  finds = many_agents_are_needed_to_find;
  solves = many_agents_are_needed;
  finds_with_links = many_agents_are_needed_to_find_with_links;
  solves_with_links = many_agents_are_needed_with_links;
}
