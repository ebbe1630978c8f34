use Rattle.std.proofs.Common.{◌≡◌, true, false, inr, sym, ◌∙◌}
use Rattle.bhs_shared_match.proofs.LoopLemmas.{other_at}
use Rattle.bhs_shared_match.proofs.differences.is_said.Goals as goal

not_both : false ≡ true → ⊥
not_both e = cc

pub returns-then-not-says : goal.returns-then-not-says
returns-then-not-says c =
    inr (other_at _ _ _ _ _ _ c.loop-pass-test.true c.pass-item.is (sym c.agent.ensures ∙ c.if-agent.false)
    (λ same. not_both (sym c.if-not-says.true ∙ c.says.ensures.1 same)))
