use Rattle.std.proofs.Common.{◌≡◌, ℕ, true, false, get_or, ap, ◌∙◌, arith}
use Rattle.std.specs.Prelude.{unwrap_or}
use Rattle.bhs_match.proofs.ApplyLemmas.{most_is_small}
use Rattle.bhs_shared_match.proofs.OnePassLemmas.{begun_so_far, counts_skip}
use Rattle.bhs_shared_match.proofs.LoopLemmas.{untold, few_agents, index_short, step_on}
use Rattle.bhs_shared_match.proofs.PastLogLemmas.{begun_ending, ended_all}
use Rattle.bhs_shared_match.proofs.LoopLemmas.{ending_past, ending_within}
use Rattle.bhs_shared_match.proofs.differences.first_difference.Goals.{then-not-is_said, else-not-is_said}
use Rattle.bhs_shared_match.proofs.differences.first_difference.Goals.{then-index-commands_heard}
use Rattle.bhs_shared_match.proofs.differences.first_difference.Goals.{else-index-commands_heard}
use Rattle.bhs_shared_match.proofs.differences.first_difference.Goals as goal

pub loop-place-init : goal.loop-place-init
loop-place-init c = begun_so_far _ _ _

pub loop-place-preserved-in_default : goal.loop-place-preserved-in_default
loop-place-preserved-in_default c = counts_skip _ _ _ _ _ _ _ c.loop-place.invariant c.loop-place-test.true
    c.index-log-place.is (untold _ c.in_default.not-Tell)

pub bounds-heard-from : goal.bounds-heard-from
bounds-heard-from c =
    let few = few_agents c.args.play.now _ _ _ _ _ c.log-log.ensures.kept c.log-log.ensures.log
    c.setup-setup.ensures.within c.loop-place-test.true c.index-log-place.is c.in-Tell.is in
    omega (arith, few.0, c.from.ensures)

pub bounds-heard-from-in-loop-place : goal.bounds-heard-from-in-loop-place
bounds-heard-from-in-loop-place c =
    let few = few_agents c.args.play.now _ _ _ _ _ c.log-log.ensures.kept c.log-log.ensures.log
    c.setup-setup.ensures.within c.loop-place-test.true c.index-log-place.is c.in-Tell.is in
    omega (arith, few.0, c.from-in-loop-place.ensures)

pub overflow_add-heard : goal.overflow_add-heard
overflow_add-heard c =
    omega (
      arith,
      index_short _ _ _ _ _ c.from.result _ c.loop-place.invariant c.loop-place-test.true,
      c.log-log.ensures.bound,
      most_is_small c.args.play.now.net c.args.play.now.setup c.setup-setup.ensures.within,
    )

pub loop-place-preserved : goal.loop-place-preserved
loop-place-preserved c =
    let few = few_agents c.args.play.now _ _ _ _ _ c.log-log.ensures.kept c.log-log.ensures.log
    c.setup-setup.ensures.within c.loop-place-test.true c.index-log-place.is c.in-Tell.is in
    elim c.if-not-is_said.branch [
      | then-not-is_said w ↦ step_on _ _ _ _ _ _ _ _ _ _ _ _ _ false c.loop-place.invariant c.log-log.ensures.log
          c.loop-place-test.true c.index-log-place.is c.in-Tell.is few c.from.ensures c.from-in-loop-place.ensures
          w.if-not-is_said.true c.is_said.ensures (w.best-is ∙ w.lesser-best.ensures)
      | else-not-is_said w ↦ step_on _ _ _ _ _ _ _ _ _ _ _ _ _ true c.loop-place.invariant c.log-log.ensures.log
          c.loop-place-test.true c.index-log-place.is c.in-Tell.is few c.from.ensures c.from-in-loop-place.ensures
          w.if-not-is_said.false c.is_said.ensures w.best-is
    ]

pub loop-pass-init : goal.loop-pass-init
loop-pass-init c = begun_ending _ _ _ _ _ _ c.loop-place.invariant c.log-log.ensures.log c.loop-place-test.false

pub loop-pass-preserved : goal.loop-pass-preserved
loop-pass-preserved c =
    let from : c.from-in-loop-pass.result ≡ c.pass-item.result.agent = c.from-in-loop-pass.ensures ∙ c.agent.ensures in
    let count : c.unwrap_or-index.result ≡ get_or c.loop-place.heard c.pass-item.result.agent 0 =
    c.unwrap_or-index.ensures ∙ ap (λ o. unwrap_or o 0) c.copied.ensures ∙ c.get.ensures.lookup.4 (omega arith) 0
    ∙ ap (λ (a : ℕ). get_or c.loop-place.heard a 0) from in
    elim c.if-index-commands_heard.branch [
      | then-index-commands_heard w ↦ ending_past _ _ _ _ _ _ _ _ _ _ c.loop-pass.invariant
          c.loop-pass-test.true c.pass-item.is
          w.agent-then-index-commands_heard.ensures count c.commands_heard.ensures w.if-index-commands_heard.true
          (w.best-is ∙ w.lesser-best-then-index-commands_heard.ensures)
      | else-index-commands_heard w ↦ ending_within _ _ _ _ _ _ _ _ _ _ c.loop-pass.invariant
          c.loop-pass-test.true c.pass-item.is
          c.agent.ensures count c.commands_heard.ensures w.if-index-commands_heard.false w.best-is
    ]

pub returns : goal.returns
returns c = ended_all _ _ _ _ _ c.loop-pass.invariant c.loop-pass-test.false
