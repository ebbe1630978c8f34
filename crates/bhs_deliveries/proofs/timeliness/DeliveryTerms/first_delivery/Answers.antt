use Rattle.std.proofs.Common.{rules, ℕ, ◌-◌, sym, ap, ◌∙◌}
use Rattle.bhs_deliveries.specs.Timeliness.{first_delivery}
use Rattle.bhs_deliveries.proofs.DueLemmas.{none_due, delivery_here, delivery_later, over, next_at}
use Rattle.bhs_deliveries.proofs.timeliness.DeliveryTerms.first_delivery.Goals as goal

pub returns-then-nobody_waits : goal.returns-then-nobody_waits
returns-then-nobody_waits c = sym (none_due c.args.self.now c.args.dues.now c.args.from _ (search rules))

pub returns-in-Some : goal.returns-in-Some
returns-in-Some c =
    let found = sym c.delivered-delivered.ensures ∙ c.in-Some.is in
    sym (c.loop-turn.invariant.rest ∙ delivery_here c.args.self.now c.args.dues.now c.loop-turn.turn c.from-end.result
    c.in-Some.agent c.loop-turn-test.true found)
    ∙ ap (λ (end : ℕ). first_delivery c.args.self.now c.args.dues.now c.args.from (end - c.args.from))
    c.from-end.ensures

pub loop-turn-preserved : goal.loop-turn-preserved
loop-turn-preserved c = record {
  words = next_at c.args.self.now.dealer c.loop-turn.words c.next.new.self c.loop-turn.turn c.next.ensures.moved
      c.loop-turn.invariant.words;
  rest = c.loop-turn.invariant.rest ∙ delivery_later c.args.self.now c.args.dues.now c.loop-turn.turn
      c.from-end.result c.loop-turn-test.true (sym c.delivered-delivered.ensures ∙ search rules);
}

pub returns : goal.returns
returns c =
    sym (c.loop-turn.invariant.rest ∙ over c.args.self.now c.args.dues.now c.loop-turn.turn c.from-end.result
    c.loop-turn-test.false)
    ∙ ap (λ (end : ℕ). first_delivery c.args.self.now c.args.dues.now c.args.from (end - c.args.from))
    c.from-end.ensures
