use Rattle.std.proofs.Common.{◌∙◌, Option, sym, ap, subst}
use Rattle.bhs_model.specs.declared.commands.Command.{Command}
use Rattle.bhs_model.specs.declared.events.Event.TheVariants.{Tell}
use Rattle.bhs_schedules.specs.declared.answers.Step.TheVariants.{Says}
use Rattle.bhs_agents.specs.declared.searchers.AgentNews.{AgentNews}
use Rattle.bhs_attest.specs.Turns.{IsHeard}
use Rattle.bhs_attest.proofs.TurnLemmas.{waits_refused}
use Rattle.bhs_attest.proofs.turns.speak.Goals as goal

pub returns-in-Some : goal.returns-in-Some
returns-in-Some c =
    let said = c.in_ok-try_clone-in-Says.field-0 in
    waits_refused c.args.agent c.args.wake_ups.now c.args.game.now c.happen.new.game c.args.command.now said
    c.args.step.now c.in-Some.news
    (c.in-Says.is ∙ ap (λ (command : Command). Says command) (sym c.in_ok-try_clone-in-Says.ensures))
    c.in_ok-is_kept-in-Says.ensures.happens
    (subst (λ (news : Option AgentNews). IsHeard c.args.game.now (Tell c.args.agent said) news) c.in-Some.is
    c.in_ok-is_kept-in-Says.ensures.heard)
    (sym c.in_ok-is_kept-in-Says.ensures.kept ∙ c.if-is_kept.false)
