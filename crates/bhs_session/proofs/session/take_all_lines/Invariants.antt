-- As many turns were taken as lines were asked for: all that was read was taken, and what is held is the rest.
use Rattle.std.proofs.Common.{◌≡◌, ℕ, ◌-◌, List}
use Rattle.bhs_wire.specs.Lines.{lines, held_of}
use Rattle.bhs_session.specs.Phase.{between}
use Rattle.bhs_session.specs.Session.{Session, fresh}
use Rattle.bhs_session.proofs.session.take_all_lines.Given as goal

abbrev pub invariant-loop : goal.invariant-loop
invariant-loop g l = (read : List ℕ) × (written : List ℕ)
    × Session g.R.Input.gives g.W.Output.takes g.P.Port.calls l.initial.reader
    (fresh l.initial.writer l.initial.port l.fn.turns) l.reader
    (record {
      output = l.writer;
      port = l.port;
      turns = l.fn.turns - l.counter;
      read = read;
      taken = lines read;
      written = written;
      phase = between l.has_entered;
    })
    × (l.lines ≡ held_of read)
