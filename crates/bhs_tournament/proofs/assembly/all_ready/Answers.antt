use Rattle.std.proofs.Common.{◌≡◌, ◌∙◌, ◌⊎◌, inl, inr, List, length, vec_len, ap, sym, arith}
use Rattle.std.specs.Vec.Iter.{into_iter_items}
use Rattle.std.specs.Iterator.Adapters.{zip_first, zip_second}
use Rattle.bhs_match.specs.Matches.{Play}
use Rattle.bhs_files.specs.declared.fixtures.Fixture.{Fixture}
use Rattle.bhs_tournament.proofs.Passing.{goes_beside, ends_beside}
use Rattle.bhs_tournament.proofs.assembly.all_ready.Goals as goal

pub loop-fixture-preserved : goal.loop-fixture-preserved
loop-fixture-preserved c =
    let steps = c.in-Some.ensures.steps in
    let first = ap (λ (fixtures : List Fixture). length fixtures) steps.0.0 in
    let second = ap (λ (games : List Play). length games) steps.1.0 in
    let more = goes_beside (vec_len c.loop-fixture.all) c.loop-fixture.all.items _ _ _ _ _ c.in-Some.fixture
    c.in-Some.game steps.0.0 steps.1.0 c.loop-fixture.invariant.5 c.in_ok-ready.field-0 c.push.new.self.items
    (rw c.len-number.ensures at c.in_ok-ready.ensures) c.in_ok-push.ensures.items in (
      (tt, tt),
      tt,
      omega (arith, steps.0.1, first, c.loop-fixture.invariant.2),
      omega
          (arith, steps.1.1, second, c.loop-fixture.invariant.3),
      omega
          (arith, first, c.loop-fixture.invariant.4, c.in_ok-push.ensures.len),
      rw c.in_ok-push.ensures.len more,
    )

pub returns : goal.returns
returns c =
    let fixtures = into_iter_items (zip_first c.loop-fixture.fixture-iterator) in
    let games = into_iter_items (zip_second c.loop-fixture.fixture-iterator) in
    let none : (length fixtures ≡ 0) ⊎ (length games ≡ 0) = elim c.in-None.ensures.steps [
      | inl h ↦ inl (sym c.loop-fixture.invariant.2 ∙ h.1.0)
      | inr h ↦ inr (sym c.loop-fixture.invariant.3 ∙ h.1.0)
    ] in
    ends_beside fixtures games (vec_len c.loop-fixture.all) c.loop-fixture.all.items _ none c.loop-fixture.invariant.5
