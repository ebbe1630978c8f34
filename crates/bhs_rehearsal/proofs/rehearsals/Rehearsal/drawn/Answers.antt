use Rattle.std.proofs.Common.{sym, ◌∙◌}
use Rattle.bhs_rehearsal.proofs.StageLemmas.{silent_lemma, told_lemma}
use Rattle.bhs_rehearsal.proofs.rehearsals.Rehearsal.drawn.Goals as goal

pub returns-in_default : goal.returns-in_default
returns-in_default c =
    let told = rw (c.in_default.is, c.empty_text-text.ensures.same) at c.in_ok-agent.ensures in
    silent_lemma c.args.self.now c.keep.new.self c.args.game _ c.empty_text-text.result.items c.delivered.new.text.items
    told.0 (c.keep.ensures ∙ told.1)

pub returns-in-Some-holder : goal.returns-in-Some-holder
returns-in-Some-holder c =
    let told = rw (c.in-Some.is, c.empty_text-text.ensures.same, c.empty_text-text.ensures.text)
    at c.in_ok-agent.ensures in
    told_lemma c.args.self.now c.delivered.new.self c.tells_arrival.new.self c.args.game c.in-Some.agent
    c.in-Some-holder.conn _ c.delivered.new.text.items c.tells_arrival.result told.0 told.1
    (sym c.in-Some-holder.is ∙ c.holder.ensures.place) c.tells_arrival.ensures
