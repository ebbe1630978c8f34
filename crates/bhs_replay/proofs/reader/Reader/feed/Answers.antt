use Rattle.std.proofs.lemmas.Result.{on_ok_weaker, IfErr-weaker}
use Rattle.bhs_replay.proofs.FeedLemmas.{fault_is, fed_none, fed_on, fed_fault, fed_whole, fed_past}
use Rattle.bhs_replay.proofs.reader.Reader.feed.Goals as goal

pub loop-end-init : goal.loop-end-init
loop-end-init c = λ text stands. fed_none text c.args.piece.now c.args.self.now stands

pub loop-end-preserved : goal.loop-end-preserved
loop-end-preserved c = λ text stands.
    fed_on text c.args.piece.now c.loop-end.after.now c.in-Some.end.now c.in-Some.more.now c.loop-end.self
    (c.loop-end.invariant text stands) c.in-Some.ensures.0 c.in-Some.ensures.1 c.take_line.new.self
    c.in_ok-take_line.ensures.ok c.in_ok-take_line.ensures.clear

pub returns-in_err-take_line-clause-err : goal.returns-in_err-take_line-clause-err
returns-in_err-take_line-clause-err c = λ text stands.
    fault_is c.from_residual.result c.in_err-take_line.field-0.0 _ c.from_residual.ensures.1
    (fed_fault text c.args.piece.now c.loop-end.after.now c.in-Some.end.now c.in-Some.more.now c.loop-end.self
    (c.loop-end.invariant text stands) c.in-Some.ensures.0 c.in-Some.ensures.1
    c.in_err-take_line.field-0.0 c.in_err-take_line.ensures.err)

pub returns-clause-ok : goal.returns-clause-ok
returns-clause-ok c = λ text stands.
    on_ok_weaker c.hold.result (λ holds. fed_whole text c.args.piece.now c.loop-end.after.now c.loop-end.self
    (c.loop-end.invariant text stands) c.in_default.ensures c.hold.new.self holds) c.hold.ensures.ok

pub returns-clause-err : goal.returns-clause-err
returns-clause-err c = λ text stands.
    IfErr-weaker c.hold.result _ _ (λ fault found. fed_past text c.args.piece.now c.loop-end.after.now c.loop-end.self
    (c.loop-end.invariant text stands) c.in_default.ensures fault found) c.hold.ensures.err
