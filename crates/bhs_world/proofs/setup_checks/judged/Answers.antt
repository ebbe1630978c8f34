use Rattle.std.proofs.Common.{ℕ, List, [], rules, sym, ap, ◌∙◌, arith}
use Rattle.bhs_net.specs.Network.{nodes_of}
use Rattle.bhs_world.specs.Faults.{are_holes_fit}
use Rattle.bhs_world.proofs.JudgeLemmas.{all_fit}
use Rattle.bhs_world.proofs.setup_checks.judged.Goals as goal

pub returns-clause-fit : goal.returns-clause-fit
returns-clause-fit c = (
  search rules,
  all_fit _ _ c.nodes.ensures.network.labelled
      (omega (arith, c.if-setup-nodes.false, c.nodes.ensures.count))
      (ap (λ (holes : List ℕ). are_holes_fit (nodes_of c.args.net.now) c.args.setup.now.home [] holes)
      (sym c.nodes-2.ensures) ∙ sym c.if-not-mark_holes.ensures.fit) (search rules) (search rules) (search rules)
      (search rules) (search rules) (sym c.in_ok-are_fit.ensures.fit ∙ c.if-not-are_fit.false),
)
