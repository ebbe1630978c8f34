use Rattle.std.proofs.Common.{List, true, false, length, option_map, refl, sym, ap, ◌∙◌}
use Rattle.bhs_model.specs.declared.marks.Kept.{Kept}
use Rattle.bhs_world.specs.Tables.{keeps_next}
use Rattle.bhs_match.specs.Matches.{Play, world_in}
use Rattle.bhs_wire.specs.LentReply.{reply_of}
use Rattle.bhs_replay.proofs.EventSteps.{after_is, kept_by, goes_so, is_answered, on_spelled}
use Rattle.bhs_replay.proofs.steps.play_event.Goals as goal

pub returns-then-closed-clause-err : goal.returns-then-closed-clause-err
returns-then-closed-clause-err c = λ line spells.
    after_is c.args.game.now line c.args.event (length c.log-before.result.now) true _ _
    (ap (λ (log : List Kept). length log) c.log-before.ensures.log) (c.if-closed.ensures) refl refl
    ∙ on_spelled c.args.game.now line (c.args.event, option_map reply_of c.args.reply) spells

pub returns-then-is_none-clause-err : goal.returns-then-is_none-clause-err
returns-then-is_none-clause-err c = λ line spells.
    let play : Play = c.args.game.now in
    let kept = kept_by (keeps_next (world_in play) play.log c.args.event) (length play.log)
    c.apply-answer.result.place true c.is_none.result c.apply-answer.ensures.place c.is_none.ensures
    c.if-is_none.true in
    after_is play line c.args.event (length c.log-before.result.now) false false _
    (ap (λ (log : List Kept). length log) c.log-before.ensures.log) c.if-closed.ensures kept refl
    ∙ on_spelled play line (c.args.event, option_map reply_of c.args.reply) spells

pub returns-then-is_same-clause-ok : goal.returns-then-is_same-clause-ok
returns-then-is_same-clause-ok c = λ line spells.
    let play : Play = c.args.game.now in
    let answer = c.apply-answer.ensures in
    let typed = c.each_reply_is_typed.ensures in
    let kept = kept_by (keeps_next (world_in play) play.log c.args.event) (length play.log)
    c.apply-answer.result.place false c.is_none.result answer.place c.is_none.ensures c.if-is_none.false in
    let same = is_answered play line c.args.event (option_map reply_of c.args.reply)
    (option_map reply_of c.reply_in-answered.result) (c.reply_in-answered.ensures ∙ answer.reply) kept
    c.each_event_is_typed.ensures typed.numbers typed.texts spells c.is_same.result c.is_same.ensures in
    goes_so play line c.args.event c.apply-answer.new.self c.apply-answer.result.mark answer.log kept
    answer.same.0 answer.same.1
    ∙ after_is play line c.args.event (length c.log-before.result.now) false true true
    (ap (λ (log : List Kept). length log) c.log-before.ensures.log) c.if-closed.ensures kept
    (sym c.if-is_same.true ∙ same)
    ∙ on_spelled play line (c.args.event, option_map reply_of c.args.reply) spells

pub returns-clause-err : goal.returns-clause-err
returns-clause-err c = λ line spells.
    let play : Play = c.args.game.now in
    let answer = c.apply-answer.ensures in
    let typed = c.each_reply_is_typed.ensures in
    let kept = kept_by (keeps_next (world_in play) play.log c.args.event) (length play.log)
    c.apply-answer.result.place false c.is_none.result answer.place c.is_none.ensures c.if-is_none.false in
    let same = is_answered play line c.args.event (option_map reply_of c.args.reply)
    (option_map reply_of c.reply_in-answered.result) (c.reply_in-answered.ensures ∙ answer.reply) kept
    c.each_event_is_typed.ensures typed.numbers typed.texts spells c.is_same.result c.is_same.ensures in
    after_is play line c.args.event (length c.log-before.result.now) false true false
    (ap (λ (log : List Kept). length log) c.log-before.ensures.log) c.if-closed.ensures kept
    (sym c.if-is_same.false ∙ same)
    ∙ on_spelled play line (c.args.event, option_map reply_of c.args.reply) spells
