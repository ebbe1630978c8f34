use Rattle.std.proofs.Common.{◌≡◌, ◌≤◌, ◌∙◌, ◌+◌, ◌++◌, ℕ, List, [], None, length, take, refl, sym, ap, subst}
use Rattle.std.proofs.Common.{arith, rules, vec_items}
use Rattle.std.proofs.Common.{append_assoc, append-nil, length-take-le}
use Rattle.bhs_stream.specs.Reading.{Gathers, begins, goes_on, IsPiece}
use Rattle.bhs_stream.specs.declared.reader.TheConstants.{BUFFER}
use Rattle.bhs_stream.proofs.ChunkLemmas.{chunk_by-take}
use Rattle.bhs_player.proofs.wire.WireServerConnection.hear.Goals as goal

pub loop-init : goal.loop-init
loop-init g c = record { writer = refl; reads = 0; bytes = []; gathered = begins; held = append-nil _ }

pub loop-preserved : goal.loop-preserved
loop-preserved g c =
    let it = c.loop.invariant in
    let gives = g.R.Input.gives in
    let buffer = c.read_some.new.buffer in
    let count = c.in-Ok.count in
    let piece = take count buffer in
    let none : c.in_ok-line.field-0 ≡ None = search rules in
    let as_before = c.in_ok-line.ensures.none none in
    let full : length buffer ≡ BUFFER = search rules in
    let long : length piece ≡ count = length-take-le count buffer c.in-Ok.ensures.bound in
    let bound : count ≤ length buffer = c.in-Ok.ensures.bound in
    let is_piece : IsPiece piece = (omega (arith, long), omega (arith, long, full, bound)) in
    let items : c.extend_from_slice.new.self.items ≡ c.held_line.new.self.held.items ++ piece = search rules in
    record {
      writer = c.held_line.ensures.same.1 ∙ it.writer;
      reads = it.reads + 1;
      bytes = it.bytes ++ piece;
      gathered = goes_on it.reads it.bytes piece c.held_line.new.self.reader c.read_some.new.self
          (subst (λ reader. Gathers gives c.args.self.now.reader it.reads it.bytes reader)
          (sym c.held_line.ensures.same.0) it.gathered)
          is_piece
          (subst (λ chunk. gives c.held_line.new.self.reader chunk c.read_some.new.self)
          (chunk_by-take count buffer (omega arith) c.in-Ok.ensures.bound) c.in-Ok.ensures.gives);
      held = sym (append_assoc c.args.self.now.held.items it.bytes piece)
          ∙ ap (λ (front : List ℕ). front ++ piece) (it.held ∙ ap (λ held. vec_items held) (sym as_before))
          ∙ sym items;
    }
