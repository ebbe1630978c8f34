use Rattle.std.proofs.Common.{List, ℕ, length, Some, None, ap, ◌∙◌}
use Rattle.bhs_model.specs.Marks.{read_if}
use Rattle.bhs_model.specs.declared.marks.Kept.{Kept}
use Rattle.bhs_wire.specs.LentReply.{reply_of}
use Rattle.bhs_rehearsal.specs.Games.{delivered}
use Rattle.bhs_rehearsal.specs.Rehearsing.{game_of}
use Rattle.bhs_rehearsal.specs.Takings.{after_draw, mark_at}
use Rattle.bhs_rehearsal.proofs.PlayedLemmas.{one_delivered, told_drawn}
use Rattle.bhs_rehearsal.proofs.instructions.deliver_in.Goals as goal

pub returns-in_ok-push_reply-in-Some-clause-drawn : goal.returns-in_ok-push_reply-in-Some-clause-drawn
returns-in_ok-push_reply-in-Some-clause-drawn c =
    let log = c.deliver.new.game.log in
    let told = told_drawn _ (after_draw (game_of c.args.ready.now) (delivered (game_of c.args.ready.now) c.args.agent))
    c.args.text.now.items
    (one_delivered c.args.ready.now.game c.deliver.new.game c.args.ready.now.held c.args.agent
    (Some (reply_of c.in-Some.reply)) c.deliver.ensures.played
    (c.in-Some.ensures ∙ ap (λ (before : List Kept). read_if log (mark_at log (length before)))
    c.log-before.ensures.log)) in
    (told.0, ap (λ (text : List ℕ). (Some c.args.agent, text)) c.in_ok-push_reply-in-Some.ensures.sent ∙ told.1)

pub returns-in-None-clause-drawn : goal.returns-in-None-clause-drawn
returns-in-None-clause-drawn c =
    let log = c.deliver.new.game.log in
    told_drawn _ (after_draw (game_of c.args.ready.now) (delivered (game_of c.args.ready.now) c.args.agent))
    c.args.text.now.items
    (one_delivered c.args.ready.now.game c.deliver.new.game c.args.ready.now.held c.args.agent None
    c.deliver.ensures.played
    (c.in-None.ensures ∙ ap (λ (before : List Kept). read_if log (mark_at log (length before)))
    c.log-before.ensures.log))
