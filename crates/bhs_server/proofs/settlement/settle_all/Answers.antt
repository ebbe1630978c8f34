use Rattle.std.proofs.Common.{arith, ℕ, ◌≡◌, ◌∙◌, ap, subst, length, Option}
use Rattle.std.specs.Prelude.{slice_get, option_map}
use Rattle.rand_chacha.specs.ChaCha.{ChaCha}
use Rattle.bhs_server.specs.Settling.{HasFared, at_start}
use Rattle.bhs_server.proofs.PartLemmas.{next_settled}
use Rattle.bhs_server.proofs.settlement.settle_all.Goals as goal

pub loop-shared_match-preserved : goal.loop-shared_match-preserved
loop-shared_match-preserved c =
    let place : c.len-number.result ≡ length c.loop-shared_match.settled.items =
    omega (arith, c.len-number.ensures, c.loop-shared_match.settled.ok) in
    let dealer = c.copy_at-dealer.ensures
    ∙ ap (λ (number : ℕ). option_map at_start (slice_get c.args.dealers.now number)) place in
    let one = subst (λ (some : Option ChaCha). HasFared c.in-Some.shared_match some c.in_ok-settled_by.field-0) dealer
    c.in_ok-settled_by.ensures.fared in (
      tt,
      tt,
      rw c.in_ok-push.ensures.items
          (next_settled c.args.shared_matches.items c.loop-shared_match.shared_match-iterator.rest.items
          c.next.new.self.rest.items
          c.args.dealers.now c.in-Some.shared_match c.loop-shared_match.settled.items c.in_ok-settled_by.field-0
          c.args.sessions.items c.loop-shared_match.left.items _ _ c.len-number.result
          c.in-Some.ensures.steps.0 c.loop-shared_match.invariant.2 one place c.in_ok-own.ensures.own
          c.in_ok-own.ensures.others c.in_ok-settled_by.ensures.passes),
    )
