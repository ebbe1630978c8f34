use Rattle.bhs_model.specs.Setups.{nodes_where, links_where}
use Rattle.bhs_world.proofs.laws.equal_sets_are_one_setup.Goals as goal

pub returns : goal.returns
returns c = λ net one two same i. record {
  home = same.home i;
  holes = nodes_where net (λ node. same.nodes node i);
  dark = links_where net (λ node port. same.links node port i);
  agents = same.agents i;
  quota = same.quota i;
  board = same.board i;
}
