-- What a chain of reads or writes does to known bytes, for callers whose input is a `Read` or whose output is a
-- `Write`.
use Rattle.std.proofs.Common.{◌≡◌, drop, ℕ, ◌+◌, ◌<◌, ◌≤◌, inl, inr, List, [], ◌++◌, length, take, sym, subst, ap, ◌∙◌}
use Rattle.std.proofs.Common.{arith, length-append, take-add, take_all, le_refl, append-nil}
use Rattle.std.specs.declared.option.Option.{Option}
use Rattle.std.specs.Io.KnownBytes.{Consumes, Appends, IsAtEnd}
use Rattle.std.proofs.KnownBytes.{Consumes-nil, Consumes-trans, Consumes-kept, Appends-nil, Appends-trans, Appends-kept}
use Rattle.bhs_stream.specs.declared.reader.ReadFault.{ReadFault}
use Rattle.bhs_stream.specs.declared.reader.ReadFault.TheVariants as faults
use Rattle.bhs_stream.specs.Known.{AppendsPart, GivenBy, StoppedBy}
use Rattle.bhs_stream.specs.Streams.{Chunk, End, known_gives, known_takes}
use Rattle.bhs_stream.specs.Reading.{Gathers, begins, goes_on, Closes, EndsBy}
use Rattle.bhs_stream.specs.Sending as sending
use Rattle.std.proofs.lemmas.List.{take-append-le}
use Rattle.bhs_stream.proofs.PutsLemmas.{offered-short}

module _ {R : Type 0} (remaining : R → Option (List ℕ)) where
  pub Consumes-from_gathers : (old new : R) (reads : ℕ) (bytes : List ℕ) → Gathers (known_gives remaining) old reads
      bytes new → Consumes (remaining old) (remaining new) bytes
  Consumes-from_gathers old new reads bytes begins = Consumes-nil (remaining old)
  Consumes-from_gathers old new reads bytes (goes_on some before piece here next gathered is_piece given) =
      Consumes-trans _ _ _ before piece (Consumes-from_gathers old here some before gathered) given

  pub Consumes-from_closes : (old new : R) (limit turns : ℕ) (text : List ℕ) → Closes (known_gives remaining) old limit
      turns text End new
      → Consumes (remaining old) (remaining new) text × IsAtEnd (remaining new)
  Consumes-from_closes old new limit turns text closes = (
    subst (Consumes (remaining old) (remaining new)) (append-nil text)
        (Consumes-trans _ _ _ text [] (Consumes-from_gathers old closes.before closes.reads text closes.gathered)
        closes.last.0),
    closes.last.1,
  )

-- this number of reads gives this number of bytes
pub GivenBy-from_gathers : {I : Type 0} (gives : I → Chunk → I → Type 0) (old new : I) (reads : ℕ) (bytes : List ℕ)
    → Gathers gives old reads bytes new → GivenBy reads bytes
GivenBy-from_gathers gives old new reads bytes begins = (omega arith, omega arith)
GivenBy-from_gathers gives old new reads bytes (goes_on some before piece here next gathered is_piece given) =
    let rest = GivenBy-from_gathers gives old here some before gathered in
    let long = length-append before piece in
    let least = rest.0 in let most = rest.1 in let some = is_piece.0 in let full = is_piece.1 in
    (omega arith, omega arith)

-- the bytes that were read when a fault ended the reading
pub StoppedBy-from_ends : {R : Type 0} (remaining : R → Option (List ℕ)) (old new : R) (limit turns : ℕ)
    (fault : ReadFault) → EndsBy (known_gives remaining) old limit turns fault new
    → (bytes : List ℕ) × Consumes (remaining old) (remaining new) bytes × StoppedBy fault limit turns bytes
StoppedBy-from_ends remaining old new limit turns faults.Read (bytes, closes) = (
  bytes,
  Consumes-kept _ _ _ bytes (Consumes-from_gathers remaining old closes.before closes.reads bytes closes.gathered)
      closes.last,
  (
    closes.fits,
    (
      closes.reads,
      closes.turn_left,
      GivenBy-from_gathers (known_gives remaining) old closes.before
          closes.reads bytes closes.gathered,
    ),
  ),
)
StoppedBy-from_ends remaining old new limit turns faults.Text (whole, long, over) =
    let close = over.closes in
    let all = goes_on close.reads over.bytes over.piece close.before new close.gathered over.is_piece close.last in
    let given = GivenBy-from_gathers (known_gives remaining) old new (close.reads + 1) (over.bytes ++ over.piece) all in
    let joined = length-append over.bytes over.piece in let fits = close.fits in let full = over.is_piece.1 in (
      (over.bytes ++ over.piece),
      Consumes-from_gathers remaining old new (close.reads + 1) (over.bytes ++ over.piece) all,
      (
        subst (λ (bytes : List ℕ). limit < length bytes) over.joined long,
        omega arith,
        (close.reads + 1, let left = close.turn_left in omega arith, given),
      ),
    )
StoppedBy-from_ends remaining old new limit turns faults.Memory (whole, fits, over) =
    let close = over.closes in
    let all = goes_on close.reads over.bytes over.piece close.before new close.gathered over.is_piece close.last in
    let given = GivenBy-from_gathers (known_gives remaining) old new (close.reads + 1) (over.bytes ++ over.piece) all in
    let joined = length-append over.bytes over.piece in let some = over.is_piece.0 in (
      (over.bytes ++ over.piece),
      Consumes-from_gathers remaining old new (close.reads + 1) (over.bytes ++ over.piece) all,
      (
        omega arith,
        subst (λ (bytes : List ℕ). length bytes ≤ limit) over.joined fits,
        (close.reads + 1, let left = close.turn_left in omega arith, given),
      ),
    )
StoppedBy-from_ends remaining old new limit turns faults.Turns (bytes, fits, gathered) = (
  bytes,
  Consumes-from_gathers remaining old new turns bytes gathered,
  (fits, GivenBy-from_gathers (known_gives remaining) old new turns bytes gathered),
)

module _ {W : Type 0} (contents : W → Option (List ℕ)) (bytes : List ℕ) where
  pub Appends-from_puts : (old new : W) (sent : ℕ) → sending.Puts (known_takes contents) old bytes sent new
      → Appends (contents old) (contents new) (take sent bytes)
  Appends-from_puts old new sent sending.begins = Appends-nil (contents old)
  Appends-from_puts old new sent (sending.goes_on before count offered here next puts is_offered more within took) =
      let same : take count (drop before bytes) ≡ take count offered = ap (take count) is_offered.front
      ∙ take-append-le count offered is_offered.rest within in
      subst (Appends (contents old) (contents new)) (sym (take-add before count bytes))
      (Appends-trans _ _ _ _ _ (Appends-from_puts old here before puts)
      (subst (Appends (contents here) (contents new)) (sym same) took))

  pub Appends-from_all : (old new : W) → sending.PutsAll (known_takes contents) old bytes new
      → Appends (contents old) (contents new) bytes
  Appends-from_all old new puts = subst (Appends (contents old) (contents new))
      (take_all (length bytes) bytes (le_refl _)) (Appends-from_puts old new (length bytes) puts)

  pub AppendsPart-from_part : (old new : W) → sending.PutsPart (known_takes contents) old bytes new
      → AppendsPart (contents old) (contents new) bytes
  AppendsPart-from_part old new part =
      let front = Appends-from_puts old part.before part.sent part.puts in
      record {
        count = part.sent;
        short = offered-short bytes part.sent part.offered part.is_offered;
        grown = elim part.last [
          | inl refused ↦ Appends-kept _ _ _ (take part.sent bytes) front refused
          | inr none ↦ subst (Appends (contents old) (contents new)) (append-nil (take part.sent bytes))
              (Appends-trans _ _ _ _ _ front none)
        ];
      }
