-- The sequence of writes of a text.
use Rattle.std.specs.Prelude.{◌≡◌, ℕ, ◌+◌, ◌<◌, ◌≤◌, ◌⊎◌, List, ◌++◌, length, drop}
use Rattle.bhs_stream.specs.Streams.{WriteAnswer, Takes, Refuses}

-- A non-empty prefix of the remaining bytes.
pub record IsOffered (bytes : List ℕ) (sent : ℕ) (offered : List ℕ) : Type 0 where
  pub rest : List ℕ
  pub front : drop sent bytes ≡ offered ++ rest
  pub some : 0 < length offered

-- by writes of what was left, each of which took at least one byte, this number of bytes went out
pub data Puts {O : Type 0} (takes : O → List ℕ → WriteAnswer → O → Type 0) (start : O) (bytes : List ℕ) : (sent : ℕ)
    → O → Type 0 where
  begins : Puts takes start bytes 0 start
  goes_on : (sent count : ℕ) (offered : List ℕ) (here next : O) → Puts takes start bytes sent here
      → IsOffered bytes sent offered → 0 < count → count ≤ length offered
      → takes here offered (Takes count) next → Puts takes start bytes (sent + count) next

-- all went out
abbrev pub PutsAll : {O : Type 0} → (O → List ℕ → WriteAnswer → O → Type 0) → O → List ℕ → O → Type 0
PutsAll takes old bytes new = Puts takes old bytes (length bytes) new

-- bytes were left, and the next write, the last one, failed or took none
pub record PutsPart {O : Type 0} (takes : O → List ℕ → WriteAnswer → O → Type 0) (old : O) (bytes : List ℕ)
    (new : O) : Type 0 where
  pub sent : ℕ
  pub before : O
  pub offered : List ℕ
  pub puts : Puts takes old bytes sent before
  pub is_offered : IsOffered bytes sent offered
  pub last : takes before offered Refuses new ⊎ takes before offered (Takes 0) new
