use Rattle.bhs_replay.proofs.BeginningLemmas.{changed_line, here_line}
use Rattle.bhs_replay.proofs.sights.seen_board.Goals as goal

pub returns-in_default : goal.returns-in_default
returns-in_default c =
    changed_line c.in_ok-board.board.now c.args.line.now c.in_ok-board.line.now c.in_ok-board.ensures
    c.in_ok-rest.rest.now c.in_ok-rest.ensures

pub returns : goal.returns
returns c =
    here_line c.in_ok-board.board.now c.args.line.now c.in_ok-board.line.now c.in_ok-board.ensures
    c.in_ok-ports.ports c.in_ok-came.came c.in-Some.line.now c.in_ok-came.line.now c.in_ok-line.line.now
    c.in_ok-ports.line.now c.in_ok-rest-2.rest.now c.in-Some.ensures c.in_ok-came.ensures c.in_ok-line.ensures
    c.in_ok-ports.ensures c.in_ok-rest-2.ensures
