-- What a call brought, as a chunk.
use Rattle.std.proofs.Common.{◌≡◌, ℕ, ◌<◌, ◌≤◌, List, [], ◌∷◌, length, take, arith, refl, length-take-le}
use Rattle.bhs_stream.specs.Streams.{Bytes, chunk_by}

pub chunk_by-some : (bytes : List ℕ) → 0 < length bytes → chunk_by bytes ≡ Bytes bytes
chunk_by-some [] some = absurd (omega (arith, some))
chunk_by-some (byte ∷ more) some = refl

pub chunk_by-take : (count : ℕ) (buffer : List ℕ) → 0 < count → count ≤ length buffer
    → chunk_by (take count buffer) ≡ Bytes (take count buffer)
chunk_by-take count buffer some within =
    let long : length (take count buffer) ≡ count = length-take-le count buffer within in
    chunk_by-some (take count buffer) (omega arith)
