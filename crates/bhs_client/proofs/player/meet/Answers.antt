use Rattle.std.proofs.Common.{◌<◌, ◌≤◌, refl, rules, subst, sym}
use Rattle.bhs_wire.proofs.Reading.{on_err}
use Rattle.bhs_schedules.specs.declared.answers.Step.{Step}
use Rattle.bhs_client.specs.Talks.{Says, speaks, sleeps, sleeps_on, silent, unheard, asleep}
use Rattle.bhs_client.proofs.player.meet.Goals as goal

pub returns-in_err-hear-in-Says-clause-broken : goal.returns-in_err-hear-in-Says-clause-broken
returns-in_err-hear-in-Says-clause-broken g c =
    let said = subst (λ (it : Step). Says g.C.ServerConnection.says c.args.key.now it c.args.connection.now
    c.say.new.connection) (sym c.in-Says.is) c.in_ok-say-in-Says.ensures.said in
    on_err c.from_residual-in_err-hear-in-Says.result
    (unheard c.say.new.connection c.hear.new.connection said c.in_err-hear-in-Says.ensures.broken)

pub returns-in_err-hear-in-Stops-clause-broken : goal.returns-in_err-hear-in-Stops-clause-broken
returns-in_err-hear-in-Stops-clause-broken g c =
    let said = subst (λ (it : Step). Says g.C.ServerConnection.says c.args.key.now it c.args.connection.now
    c.args.connection.now) (sym c.in-Stops.is) refl in
    on_err c.from_residual-in_err-hear-in-Stops.result
    (unheard c.args.connection.now c.hear-in-Stops.new.connection said c.in_err-hear-in-Stops.ensures.broken)

pub returns-in_ok-hear-in-Says-clause-met : goal.returns-in_ok-hear-in-Says-clause-met
returns-in_ok-hear-in-Says-clause-met g c =
    let said = subst (λ (it : Step). Says g.C.ServerConnection.says c.args.key.now it c.args.connection.now
    c.say.new.connection) (sym c.in-Says.is) c.in_ok-say-in-Says.ensures.said in
    speaks c.in_ok-hear-in-Says.field-0 c.say.new.connection c.hear.new.connection said
    c.in_ok-hear-in-Says.ensures.heard

pub returns-in_ok-hear-in-Stops-clause-met : goal.returns-in_ok-hear-in-Stops-clause-met
returns-in_ok-hear-in-Stops-clause-met g c =
    let said = subst (λ (it : Step). Says g.C.ServerConnection.says c.args.key.now it c.args.connection.now
    c.args.connection.now) (sym c.in-Stops.is) refl in
    speaks c.in_ok-hear-in-Stops.field-0 c.args.connection.now c.hear-in-Stops.new.connection said
    c.in_ok-hear-in-Stops.ensures.heard

pub returns-in-Fails-clause-broken : goal.returns-in-Fails-clause-broken
returns-in-Fails-clause-broken g c = silent

pub returns-then-wake_ups-from-clause-met : goal.returns-then-wake_ups-from-clause-met
returns-then-wake_ups-from-clause-met g c =
    let few : c.args.wake_ups.now.in_a_row ≤ c.args.wake_ups.now.limit = search rules in sleeps c.in-Sleeps.is few

pub returns-in_err-hear_close-in-Sleeps-clause-broken : goal.returns-in_err-hear_close-in-Sleeps-clause-broken
returns-in_err-hear_close-in-Sleeps-clause-broken g c =
    on_err c.from_residual-in_err-hear_close-in-Sleeps.result
    (asleep c.hear_close.new.connection c.in-Sleeps.is c.in_err-hear_close-in-Sleeps.ensures.broken)

pub returns-in_ok-hear_close-in-Sleeps-clause-met : goal.returns-in_ok-hear_close-in-Sleeps-clause-met
returns-in_ok-hear_close-in-Sleeps-clause-met g c =
    let many : c.args.wake_ups.now.limit < c.args.wake_ups.now.in_a_row = search rules in
    sleeps_on c.hear_close.new.connection c.in-Sleeps.is many c.in_ok-hear_close-in-Sleeps.ensures.heard
