-- Loop invariant: the reports collected so far, followed by those to the remaining connections, are all reports.
use Rattle.std.proofs.Common.{◌≡◌, ◌++◌, map, drop}
use Rattle.bhs_rehearsal.specs.Stages.{told_over}
use Rattle.bhs_rehearsal.specs.Rehearsing.{game_of, seen_out}
use Rattle.bhs_rehearsal.proofs.instructions.told_over.Given as goal

abbrev pub invariant-loop-conn : goal.invariant-loop-conn
invariant-loop-conn l =
    map seen_out l.outs.items ++ told_over l.number (game_of l.ready) l.conn (drop l.conn l.connections)
    ≡ told_over l.number (game_of l.ready) 0 l.connections
