-- Where a reader stands.
use Rattle.std.specs.Prelude.{ℕ, ◌≡◌, true, ◌&&◌, if◌then◌else◌, List, [], ◌∷◌, ◌++◌, length, Option, Some, None}
use Rattle.std.specs.Prelude.{Result, Ok, Err}
use Rattle.bhs_match.specs.Matches.{Play, state_of}
use Rattle.bhs_wire.specs.Lines.{rest}
use Rattle.bhs_stream.specs.Streams.{Chunk, End}
use Rattle.bhs_stream.specs.Reading.{Closes}
use Rattle.bhs_replay.specs.declared.faults.ReplayFault.{ReplayFault}
use Rattle.bhs_replay.specs.declared.faults.ReplayFault.TheVariants as fault
use Rattle.bhs_replay.specs.declared.reader.Playing.{Playing}
use Rattle.bhs_replay.specs.declared.reader.Reader.{Reader}
use Rattle.bhs_replay.specs.Stages.{ReadState, Opens, Leads, ended}
use Rattle.bhs_replay.specs.Reading.{stage_of}

abbrev pub stage_at : Playing → ReadState
stage_at playing = stage_of playing.game playing.is_over

abbrev pub stage_by : Option Playing → ReadState
stage_by None = Opens
stage_by (Some playing) = stage_at playing

abbrev pub stage_in : Reader → ReadState
stage_in reader = stage_by reader.playing

-- the end line came
abbrev pub IsOver : Option Playing → Type 0
IsOver None = ⊥
IsOver (Some playing) = playing.is_over ≡ true

-- the reader stands behind this text
pub record Stands (text : List ℕ) (reader : Reader) : Type 0 where
  pub leads : Leads (ended text) (stage_in reader)
  pub line : rest text ≡ reader.line.items
  pub quiet : IsOver reader.playing → reader.line.items ≡ []

-- reads brought a whole text, and the reader stands behind it
pub record IsReadBy {I : Type 0} (gives : I → Chunk → I → Type 0) (old : I) (turns : ℕ) (reader : Reader)
    (new : I) : Type 0 where
  pub text : List ℕ
  pub closes : Closes gives old (length text) turns text End new
  pub stands : Stands text reader

-- it holds bytes more of an unfinished line, and none behind the end line
pub record Holds (old : Reader) (bytes : List ℕ) (new : Reader) : Type 0 where
  pub playing : new.playing ≡ old.playing
  pub line : new.line.items ≡ old.line.items ++ bytes
  pub quiet : IsOver old.playing → bytes ≡ []

-- bytes stand behind the end line
abbrev pub IsPast : Reader → List ℕ → Type 0
IsPast reader [] = ⊥
IsPast reader (byte ∷ bytes) = IsOver reader.playing

abbrev pub finished_by : Option Playing → Result Play ReplayFault
finished_by None = Err fault.Head
finished_by (Some playing) = if playing.is_over && (state_of playing.game).closed then Ok playing.game
    else Err fault.End

-- the result for a text that ends here
abbrev pub finished : Reader → Result Play ReplayFault
finished reader = finished_by reader.playing
