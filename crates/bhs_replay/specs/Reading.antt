-- Where a reader stands in a text, and how it stops.
use Rattle.std.specs.Prelude.{ℕ, ◌≤◌, ◌≡◌, ◌⊎◌, Bool, if◌then◌else◌, List, ◌++◌, length, Option, Some, None}
use Rattle.bhs_model.specs.Marks.{events_of}
use Rattle.bhs_match.specs.Matches.{Play}
use Rattle.bhs_stream.specs.Streams.{Chunk, Bytes, End, Fails}
use Rattle.bhs_stream.specs.Reading.{Gathers, Closes}
use Rattle.bhs_replay.specs.declared.faults.ReplayFault.{ReplayFault}
use Rattle.bhs_replay.specs.declared.faults.ReplayFault.TheVariants as fault
use Rattle.bhs_replay.specs.Stages.{ReadState, Opens, Goes, Ends, Wrong, Comes}

-- the stage of a match, before or behind the end line
abbrev pub stage_of : Play → (is_over : Bool) → ReadState
stage_of play is_over = if is_over then Ends play.net play.setup (events_of play.log) else Goes play.net play.setup
    (events_of play.log)

-- nothing is wrong yet
abbrev pub IsSound : ReadState → Type 0
IsSound (Wrong found) = ⊥
IsSound stage = Unit {0}

-- the fault of a text that ends here
abbrev pub fault_at_end : ReadState → Option ReplayFault
fault_at_end Opens = Some fault.Head
fault_at_end (Goes net setup events) = Some fault.End
fault_at_end (Ends net setup events) = None
fault_at_end (Wrong found) = Some found

-- the whole text is that of a match: reads brought it, and the last one brought its end
pub record ReadsWhole {I : Type 0} (gives : I → Chunk → I → Type 0) (old : I) (turns : ℕ) (play : Play)
    (new : I) : Type 0 where
  pub text : List ℕ
  pub closes : Closes gives old (length text) turns text End new
  pub comes : Comes text (Ends play.net play.setup (events_of play.log))

-- the bytes that reads brought, in which nothing was wrong
pub record ReadsSound {I : Type 0} (gives : I → Chunk → I → Type 0) (old : I) (reads : ℕ) (bytes : List ℕ)
    (here : I) : Type 0 where
  pub stage : ReadState
  pub gathered : Gathers gives old reads bytes here
  pub comes : Comes bytes stage
  pub sound : IsSound stage

-- the reads stopped where nothing was wrong: the last one brought this
pub record StopsSound {I : Type 0} (gives : I → Chunk → I → Type 0) (old : I) (turns : ℕ) (chunk : Chunk)
    (new : I) : Type 0 where
  pub bytes : List ℕ
  pub stage : ReadState
  pub closes : Closes gives old (length bytes) turns bytes chunk new
  pub comes : Comes bytes stage
  pub sound : IsSound stage

-- the reads brought a text whose end is its first fault
pub record EndsShort {I : Type 0} (gives : I → Chunk → I → Type 0) (old : I) (turns : ℕ) (found : ReplayFault)
    (new : I) : Type 0 where
  pub text : List ℕ
  pub stage : ReadState
  pub closes : Closes gives old (length text) turns text End new
  pub comes : Comes text stage
  pub short : fault_at_end stage ≡ Some found

-- the last read brought the first fault, whatever would have followed it
pub record MeetsFault {I : Type 0} (gives : I → Chunk → I → Type 0) (old : I) (turns : ℕ) (found : ReplayFault)
    (new : I) : Type 0 where
  pub bytes : List ℕ
  pub piece : List ℕ
  pub stage : ReadState
  pub closes : Closes gives old (length bytes) turns bytes (Bytes piece) new
  pub comes : Comes bytes stage
  pub sound : IsSound stage
  pub wrong : Comes (bytes ++ piece) (Wrong found)

-- how the reads of a text decide which fault is answered
abbrev pub StopsBy : {I : Type 0} → (I → Chunk → I → Type 0) → (old : I) → (turns : ℕ) → ReplayFault
    → (new : I) → Type 0
StopsBy gives old turns fault.Read new = StopsSound gives old turns Fails new
StopsBy gives old turns fault.Turns new = (bytes : List ℕ) × ReadsSound gives old turns bytes new
StopsBy gives old turns fault.Memory new = (bytes : List ℕ) × (reads : ℕ) × (reads ≤ turns)
    × Gathers gives old reads bytes new
StopsBy gives old turns found new = EndsShort gives old turns found new ⊎ MeetsFault gives old turns found new
