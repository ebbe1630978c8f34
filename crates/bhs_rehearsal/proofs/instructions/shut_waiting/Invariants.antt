-- Loop invariant: the connections before the index are closed if they waited; the others are unchanged.
use Rattle.std.proofs.Common.{◌≡◌, ◌++◌, take, drop}
use Rattle.bhs_rehearsal.specs.Stages.{shut_in}
use Rattle.bhs_rehearsal.specs.Rehearsing.{game_of}
use Rattle.bhs_rehearsal.proofs.instructions.shut_waiting.Given as goal

abbrev pub invariant-loop-connection : goal.invariant-loop-connection
invariant-loop-connection l =
    take l.connection-index l.connections ++ shut_in l.number (game_of l.ready) (drop l.connection-index l.connections)
    ≡ shut_in l.number (game_of l.ready) l.fn.connections
