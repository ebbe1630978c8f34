use Rattle.std.proofs.Common.{arith, refl, sym, ◌∙◌, []}
use Rattle.std.proofs.lemmas.List.{ext_get_or}
use Rattle.bhs_shared_match.proofs.networks.is_same_network.Goals as goal

pub returns : goal.returns
returns c =
    let same = sym c.nodes-nodes.ensures.count ∙ c.if-nodes.false ∙ c.nodes.ensures.count in (
      λ _. ext_get_or [] _ _ same (λ node below. c.loop-node.invariant node
          (omega (arith, below, c.loop-node-test.false, c.nodes-nodes.ensures.count))),
      λ _. refl,
    )
