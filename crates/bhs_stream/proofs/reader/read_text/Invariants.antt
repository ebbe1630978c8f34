-- A read a turn brought the text so far.
use Rattle.std.proofs.Common.{◌≤◌, length, vec_items}
use Rattle.bhs_stream.specs.Reading.{Gathers}
use Rattle.bhs_stream.proofs.reader.read_text.Given as goal

abbrev pub invariant-loop : goal.invariant-loop
invariant-loop g l = Gathers g.R.Input.gives l.initial.reader l.counter (vec_items l.text) l.reader
    × (length (vec_items l.text) ≤ l.limit)
