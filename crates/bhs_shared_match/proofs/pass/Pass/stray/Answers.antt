use Rattle.std.proofs.Common.{◌≡◌, Bool, true, false, sym, ap, ◌∙◌, arith}
use Rattle.bhs_shared_match.specs.Passes.{Passed}
use Rattle.bhs_shared_match.proofs.StrayLemmas.{one_more_in, strays_in, all_in, read_as}
use Rattle.bhs_shared_match.proofs.pass.Pass.stray.Goals as goal

not_both : {b : Bool} → b ≡ false → b ≡ true → ⊥
not_both e f = let h : false ≡ true = sym e ∙ f in cc

pub loop-index-preserved : goal.loop-index-preserved
loop-index-preserved c =
    one_more_in _ _ _ _ _ (c.deref-receipt-items.ensures.value ∙ ap (λ (p : Passed). p.arrivals) c.self.view_is)
    c.loop-index.invariant c.loop-index-test.true c.receipt-item.is
    (c.is_arrival.ensures.0 c.if-not-is_arrival.false)

pub returns-then-not-is_arrival : goal.returns-then-not-is_arrival
returns-then-not-is_arrival c =
    strays_in _ _ _ _ _ _ (read_as _ _ _ _ _ c.log-log.ensures.log c.news-places.ensures.places
    (ap (λ (p : Passed). p.agent) c.self.view_is))
    (c.deref-receipt-items.ensures.value ∙ ap (λ (p : Passed). p.arrivals) c.self.view_is) c.loop-index.invariant
    c.loop-index-test.true c.receipt-item.is
    (λ there. not_both c.if-not-is_arrival.true (c.is_arrival.ensures.1 there))

pub returns : goal.returns
returns c =
    all_in _ _ _ _ _ (read_as _ _ _ _ _ c.log-log.ensures.log c.news-places.ensures.places
    (ap (λ (p : Passed). p.agent) c.self.view_is))
    (c.deref-receipt-items.ensures.value ∙ ap (λ (p : Passed). p.arrivals) c.self.view_is) c.loop-index.invariant
    (omega (arith, c.loop-index-test.false))
