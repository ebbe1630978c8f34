use Rattle.std.proofs.Common.{◌≡◌, ◌++◌, Some, [], OnOk, map, unwrap_or, subst, rules}
use Rattle.std.proofs.lemmas.Result.{on_ok_weaker}
use Rattle.bhs_wire.specs.Lines.{found_in, left_by}
use Rattle.bhs_rehearsal.specs.Connections.{Connection, Says}
use Rattle.bhs_rehearsal.specs.Rehearsing.{seen_item}
use Rattle.bhs_rehearsal.proofs.ReceiveLemmas.{none_held, received_whole}
use Rattle.bhs_rehearsal.proofs.connections.Connection.receive.Goals as goal

pub returns-in-Some-clause-queued : goal.returns-in-Some-clause-queued
returns-in-Some-clause-queued c =
    let inside = c.self.inside in
    let bytes = c.args.bytes.now in
    let before : Connection = record {
      seat = inside.seat;
      unfinished = unwrap_or inside.lines (Some []);
      queue = map seen_item inside.queue.items;
      ended = inside.ended;
    } in
    subst (λ (old : Connection). OnOk c.queue_line.result
    (record before { queue = map seen_item c.queue_line.new.queue.items } ≡ record old {
      unfinished = left_by old.unfinished bytes;
      queue = old.queue ++ map Says (found_in old.unfinished bytes);
    })) c.self.view_is
    (on_ok_weaker c.queue_line.result (λ queued. received_whole before bytes c.in-Some.line.now
    (map seen_item c.queue_line.new.queue.items) (none_held inside.lines (search rules)) c.in-Some.ensures.line queued)
    c.queue_line.ensures)
