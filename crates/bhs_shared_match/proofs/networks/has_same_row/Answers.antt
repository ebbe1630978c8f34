use Rattle.std.proofs.Common.{arith, refl, sym, ◌∙◌}
use Rattle.std.proofs.lemmas.List.{ext_get_or}
use Rattle.bhs_shared_match.proofs.networks.has_same_row.Goals as goal

pub returns : goal.returns
returns c =
    let same = sym c.degree-ports.ensures.count ∙ c.if-ports-degree.false ∙ c.degree.ensures.count in (
      λ _. ext_get_or (0, 0) _ _ same (λ port below. c.loop-port.invariant port
          (omega (arith, below, c.loop-port-test.false, c.degree-ports.ensures.count))),
      λ _. refl,
    )
