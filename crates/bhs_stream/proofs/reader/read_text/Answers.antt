use Rattle.std.proofs.Common.{ℕ, ◌≤◌, ◌<◌, ◌++◌, ◌≡◌, List, length, take, arith, rules, refl, sym, subst, length-append}
use Rattle.std.proofs.Common.{length-take-le}
use Rattle.bhs_stream.specs.Streams.{Chunk, chunk_by}
use Rattle.bhs_stream.specs.Reading.{Gathers, begins, goes_on, Overruns, IsPiece}
use Rattle.bhs_stream.specs.declared.reader.TheConstants.{BUFFER}
use Rattle.bhs_stream.proofs.ChunkLemmas.{chunk_by-take}
use Rattle.bhs_stream.proofs.reader.read_text.Goals as goal

is_piece : (count : ℕ) (buffer : List ℕ) → 0 < count → count ≤ length buffer → length buffer ≡ BUFFER
    → IsPiece (take count buffer)
is_piece count buffer some within full =
    let long : length (take count buffer) ≡ count = length-take-le count buffer within in (omega arith, omega arith)

overruns : {I : Type 0} (gives : I → Chunk → I → Type 0) (old here next : I) (limit turns reads count : ℕ)
    (bytes buffer : List ℕ)
    → Gathers gives old reads bytes here → length bytes ≤ limit → reads < turns → 0 < count → count ≤ length buffer
    → length buffer ≡ BUFFER
    → gives here (chunk_by (take count buffer)) next → Overruns gives old limit turns (bytes ++ take count buffer) next
overruns gives old here next limit turns reads count bytes buffer gathered fits left some within full given = record {
  bytes = bytes;
  piece = take count buffer;
  is_piece = is_piece count buffer some within full;
  closes = record {
    reads = reads;
    before = here;
    gathered = gathered;
    turn_left = left;
    fits = fits;
    last = subst (λ chunk. gives here chunk next) (chunk_by-take count buffer some within) given;
  };
  joined = refl;
}

pub loop-init : goal.loop-init
loop-init g c =
    let gives = g.R.Input.gives in (
      subst (λ items. Gathers gives c.args.reader.now 0 items c.args.reader.now) (sym c.new-text.ensures.items)
          begins,
      search rules,
    )

pub returns-then-count-limit-clause-fault : goal.returns-then-count-limit-clause-fault
returns-then-count-limit-clause-fault g c =
    let (gathered, within) = c.loop.invariant in
    let full : length c.read_some.new.buffer ≡ BUFFER = search rules in
    let buffer = c.read_some.new.buffer in
    let count = c.in-Ok.count in
    let fits = length-take-le count buffer c.in-Ok.ensures.bound in
    let joined = length-append c.loop.text.items (take count buffer) in (
      _,
      omega arith,
      overruns g.R.Input.gives _ _ _ c.args.limit c.args.turns c.loop.counter count c.loop.text.items buffer gathered
          within (search rules) (omega arith)
          c.in-Ok.ensures.bound full c.in-Ok.ensures.gives,
    )

pub returns-then-is_err-clause-fault : goal.returns-then-is_err-clause-fault
returns-then-is_err-clause-fault g c =
    let (gathered, within) = c.loop.invariant in
    let full : length c.read_some.new.buffer ≡ BUFFER = search rules in
    let buffer = c.read_some.new.buffer in
    let count = c.in-Ok.count in
    let fits = length-take-le count buffer c.in-Ok.ensures.bound in
    let joined = length-append c.loop.text.items (take count buffer) in (
      _,
      omega arith,
      overruns g.R.Input.gives _ _ _ c.args.limit c.args.turns c.loop.counter count c.loop.text.items buffer gathered
          within (search rules) (omega arith)
          c.in-Ok.ensures.bound full c.in-Ok.ensures.gives,
    )

pub loop-preserved : goal.loop-preserved
loop-preserved g c =
    let (gathered, within) = c.loop.invariant in
    let full : length c.read_some.new.buffer ≡ BUFFER = search rules in
    let buffer = c.read_some.new.buffer in
    let count = c.in-Ok.count in
    let gives = g.R.Input.gives in
    let more = goes_on c.loop.counter c.loop.text.items (take count buffer) c.loop.reader c.read_some.new.self gathered
    (is_piece count buffer (omega arith) c.in-Ok.ensures.bound full)
    (subst (λ chunk. gives c.loop.reader chunk c.read_some.new.self)
    (chunk_by-take count buffer (omega arith) c.in-Ok.ensures.bound) c.in-Ok.ensures.gives) in
    let items : c.extend_from_slice.new.self.items ≡ c.loop.text.items ++ take count buffer = search rules in
    let fits = length-take-le count buffer c.in-Ok.ensures.bound in
    let joined = length-append c.loop.text.items (take count buffer) in
    rw items (more, omega arith)
