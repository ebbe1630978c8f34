use Rattle.std.proofs.lemmas.Result.{on_ok_weaker}
use Rattle.bhs_rehearsal.specs.Rehearsing.{sent_all, sent_once}
use Rattle.bhs_rehearsal.specs.Stages.{EndsInput, Draws, Delivers, Closes}
use Rattle.bhs_cli_rehearse.proofs.PlayLemmas.{prints_call}
use Rattle.bhs_cli_rehearse.proofs.play.obey_lent.Goals as goal

pub returns-in-End-clause-text : goal.returns-in-End-clause-text
returns-in-End-clause-text c =
    rw c.in-End.is (on_ok_weaker c.push_once-in-End.result (λ pushed.
    (prints_call sent_once c.args.rehearsal.now c.end-sent.new.self (EndsInput c.in-End.conn) c.args.text.now.items
    c.push_once-in-End.new.text.items c.end-sent.result c.end-sent.ensures pushed).0) c.push_once-in-End.ensures.text)

pub returns-in-Draw-clause-text : goal.returns-in-Draw-clause-text
returns-in-Draw-clause-text c =
    rw c.in-Draw.is (on_ok_weaker c.push_once-in-Draw.result (λ pushed.
    (prints_call sent_once c.args.rehearsal.now c.draw-sent.new.self (Draws c.in-Draw.game c.in-Draw.word)
    c.args.text.now.items c.push_once-in-Draw.new.text.items c.draw-sent.result c.draw-sent.ensures pushed).0)
    c.push_once-in-Draw.ensures.text)

pub returns-in-Deliver-clause-text : goal.returns-in-Deliver-clause-text
returns-in-Deliver-clause-text c =
    rw c.in-Deliver.is (on_ok_weaker c.push_once-in-Deliver.result (λ pushed.
    (prints_call sent_once c.args.rehearsal.now c.deliver-sent.new.self (Delivers c.in-Deliver.game c.in-Deliver.agent)
    c.args.text.now.items c.push_once-in-Deliver.new.text.items c.deliver-sent.result c.deliver-sent.ensures pushed).0)
    c.push_once-in-Deliver.ensures.text)

pub returns-in-Close-clause-text : goal.returns-in-Close-clause-text
returns-in-Close-clause-text c =
    rw c.in-Close.is (on_ok_weaker c.push_all.result (λ pushed.
    (prints_call sent_all c.args.rehearsal.now c.close.new.self (Closes c.in-Close.game) c.args.text.now.items
    c.push_all.new.text.items c.close.result c.close.ensures pushed).0) c.push_all.ensures)
