use Rattle.std.proofs.Common.{ℕ, ◌≤◌, ◌<◌, ◌≡◌, List, length, take, arith, rules, refl, subst, length-take-le}
use Rattle.bhs_stream.specs.Streams.{Chunk, Bytes, End, chunk_by}
use Rattle.bhs_stream.specs.Reading.{IsPiece}
use Rattle.bhs_stream.specs.declared.reader.TheConstants.{BUFFER}
use Rattle.bhs_stream.proofs.ChunkLemmas.{chunk_by-take}
use Rattle.bhs_replay.specs.declared.faults.ReplayFault.{ReplayFault}
use Rattle.bhs_replay.proofs.FeedLemmas.{fault_is}
use Rattle.bhs_replay.proofs.ReadLemmas.{at_start, one_read_more, read_fails, turns_end, has_read, stops_at_fault}
use Rattle.bhs_replay.proofs.read.read_all.Goals as goal

is_piece : (count : ℕ) (buffer : List ℕ) → 0 < count → count ≤ length buffer → length buffer ≡ BUFFER
    → IsPiece (take count buffer)
is_piece count buffer some within full =
    let long : length (take count buffer) ≡ count = length-take-le count buffer within in (omega arith, omega arith)

at_count : {I : Type 0} (gives : I → Chunk → I → Type 0) (here next : I) (count : ℕ) (buffer : List ℕ) → 0 < count
    → count ≤ length buffer → gives here (chunk_by (take count buffer)) next
    → gives here (Bytes (take count buffer)) next
at_count gives here next count buffer some within given =
    subst (λ chunk. gives here chunk next) (chunk_by-take count buffer some within) given

at_none : {I : Type 0} (gives : I → Chunk → I → Type 0) (here next : I) (count : ℕ) (buffer : List ℕ) → count ≡ 0
    → gives here (chunk_by (take count buffer)) next → gives here End next
at_none gives here next count buffer none given =
    subst (λ (n : ℕ). gives here (chunk_by (take n buffer)) next) none given

pub loop-init : goal.loop-init
loop-init g c = at_start g.R.Input.gives c.args.reader.now c.args.replay.now c.requires

pub returns-in_default-clause-err : goal.returns-in_default-clause-err
returns-in_default-clause-err g c =
    read_fails g.R.Input.gives c.args.reader.now c.loop.reader c.read_some.new.self c.loop.counter c.args.turns
    c.loop.replay c.loop.invariant (search rules) c.in_default.ensures.gives

pub returns-then-count-eq0-clause-ok : goal.returns-then-count-eq0-clause-ok
returns-then-count-eq0-clause-ok g c =
    let given = at_none g.R.Input.gives c.loop.reader c.read_some.new.self c.in-Ok.count c.read_some.new.buffer
    c.if-count-eq0.true c.in-Ok.ensures.gives in
    has_read g.R.Input.gives c.args.reader.now c.loop.reader c.read_some.new.self c.loop.counter c.args.turns
    c.loop.replay c.loop.invariant (search rules) given

pub returns-in_err-feed-clause-err : goal.returns-in_err-feed-clause-err
returns-in_err-feed-clause-err g c =
    let full : length c.read_some.new.buffer ≡ BUFFER = search rules in
    let buffer : List ℕ = c.read_some.new.buffer in
    let count : ℕ = c.in-Ok.count in
    let so_far = c.loop.invariant in
    let found : ReplayFault = c.in_err-feed.field-0.0 in
    let given = at_count g.R.Input.gives c.loop.reader c.read_some.new.self count buffer (omega arith)
    c.in-Ok.ensures.bound c.in-Ok.ensures.gives in
    let met = c.in_err-feed.ensures.err so_far.bytes so_far.stands in
    fault_is c.from_residual.result found _ c.from_residual.ensures.1
    (stops_at_fault g.R.Input.gives c.args.reader.now c.loop.reader c.read_some.new.self c.loop.counter c.args.turns
    c.loop.replay so_far (take count buffer) found
    (is_piece count buffer (omega arith) c.in-Ok.ensures.bound full) (search rules) given met)

pub loop-preserved : goal.loop-preserved
loop-preserved g c =
    let full : length c.read_some.new.buffer ≡ BUFFER = search rules in
    let buffer : List ℕ = c.read_some.new.buffer in
    let count : ℕ = c.in-Ok.count in
    let so_far = c.loop.invariant in
    let given = at_count g.R.Input.gives c.loop.reader c.read_some.new.self count buffer (omega arith)
    c.in-Ok.ensures.bound c.in-Ok.ensures.gives in
    let stands = c.in_ok-feed.ensures.ok so_far.bytes so_far.stands in
    one_read_more g.R.Input.gives c.args.reader.now c.loop.reader c.read_some.new.self c.loop.counter c.args.turns
    c.loop.replay so_far (take count buffer) c.feed.new.self
    (is_piece count buffer (omega arith) c.in-Ok.ensures.bound full) given stands

pub returns-clause-err : goal.returns-clause-err
returns-clause-err g c =
    turns_end g.R.Input.gives c.args.reader.now c.loop.reader c.loop.reader c.loop.counter c.args.turns c.loop.replay
    c.loop.invariant (omega arith) refl
