-- How a text is read, line by line.
use Rattle.std.specs.Prelude.{ℕ, ◌+◌, ◌-◌, ◌≡◌, Bool, not, ◌&&◌, ◌||◌, ◌==◌, nat_le, bytes_eq, if◌then◌else◌, List, []}
use Rattle.std.specs.Prelude.{◌∷◌, ◌++◌, length, slice_index, slice_range, codes, Option, Some, None}
use Rattle.std.specs.List.{list_all}
use Rattle.bhs_net.specs.Network.{Network}
use Rattle.bhs_model.specs.declared.setups.Setup.{Setup}
use Rattle.bhs_model.specs.declared.events.Event.{Event}
use Rattle.bhs_model.specs.declared.replies.Reply.{Reply}
use Rattle.bhs_model.specs.Setups.{world_of}
use Rattle.bhs_model.specs.Runs.{run, reply}
use Rattle.bhs_model.specs.Kept.{keeps, lost}
use Rattle.bhs_wire.specs.Lines.{is_line_feed, grown, rest}
use Rattle.bhs_replay.specs.declared.faults.ReplayFault.{ReplayFault}
use Rattle.bhs_replay.specs.declared.faults.ReplayFault.TheVariants as fault
use Rattle.bhs_replay.specs.EventLine.{event_line}
use Rattle.bhs_replay.specs.Spelling.{spelled}
use Rattle.bhs_replay.specs.Replay.{end_line}
use Rattle.bhs_replay.specs.Opening.{IsHead}

-- ---- lines

-- the lines that end in the bytes, where this line is unfinished before them
abbrev pub ended_after : List ℕ → List ℕ → List (List ℕ)
ended_after line [] = []
ended_after line (byte ∷ bytes) = (if is_line_feed byte then line ∷ [] else []) ++ ended_after (grown line byte) bytes

-- the lines of a text that have ended
abbrev pub ended : List ℕ → List (List ℕ)
ended = ended_after []

abbrev pub is_digit : ℕ → Bool
is_digit byte = nat_le 48 byte && nat_le byte 57

-- no zero stands before other digits
abbrev pub starts_plain : List ℕ → Bool
starts_plain digits = length digits == 1 || not (slice_index digits 0 == 48)

-- a number in plain decimal
abbrev pub is_plain : List ℕ → Bool
is_plain digits = list_all is_digit digits && starts_plain digits

-- whether this is the end line of some number, however large
abbrev pub is_end_line : List ℕ → Bool
is_end_line line =
    nat_le 9 (length line) && (bytes_eq (slice_range line 0 7) (codes "{\"end\":")
    && (slice_index line (length line - 1) == 125 && is_plain (slice_range line 7 (length line - 1))))

-- ---- what the lines of a text come to

pub data ReadState : Type 0 where
  -- no line has ended
  Opens : ReadState
  -- The first line was the head of this match, and the lines after it spelled these events.
  Goes : Network → Setup → List Event → ReadState
  -- and then the end line came
  Ends : Network → Setup → List Event → ReadState
  -- this is the first fault
  Wrong : ReplayFault → ReadState

-- the number of the line behind the head and the lines of these events
abbrev pub next_number : List Event → ℕ
next_number events = length events + 2

-- A line that spells an event. If the canonical line of that event and the match's reply is another, then the reply is
-- wrong.
abbrev pub after_event : Network → Setup → List Event → (line : List ℕ) → Event → ReadState
after_event net setup events line event =
    let world = world_of net setup in
    if (run world events).closed then Wrong (fault.Line (next_number events))
    else (if not (keeps world (run world events) (lost world events) event)
    then Wrong (fault.Event (next_number events))
    else (if bytes_eq line (event_line event (reply world (run world events) event))
    then Goes net setup (events ++ event ∷ [])
    else Wrong (fault.Differs (next_number events))))

-- a line that spells no event
abbrev pub after_other : Network → Setup → List Event → (line : List ℕ) → ReadState
after_other net setup events line =
    if (run (world_of net setup) events).closed && bytes_eq line (end_line (length events)) then Ends net setup events
    else Wrong (if is_end_line line then fault.End else fault.Line (next_number events))

abbrev pub after_spelled : Network → Setup → List Event → (line : List ℕ) → Option (Event × Option Reply) → ReadState
after_spelled net setup events line (Some found) = after_event net setup events line found.0
after_spelled net setup events line None = after_other net setup events line

-- what a line behind the head leads to
abbrev pub after_line : Network → Setup → List Event → (line : List ℕ) → ReadState
after_line net setup events line = after_spelled net setup events line (spelled line)

-- what a line leads to
pub data Follows : ReadState → List ℕ → ReadState → Type 0 where
  opens : (line : List ℕ) (net : Network) (setup : Setup) → IsHead line net setup
      → Follows Opens line (Goes net setup [])
  no_head : (line : List ℕ) → ((net : Network) (setup : Setup) → ¬ IsHead line net setup)
      → Follows Opens line (Wrong fault.Head)
  goes : (line : List ℕ) (net : Network) (setup : Setup) (events : List Event) (to : ReadState) → to
      ≡ after_line net setup events line → Follows (Goes net setup events) line to
  goes_past : (line : List ℕ) (net : Network) (setup : Setup) (events : List Event)
      → Follows (Ends net setup events) line (Wrong fault.End)
  stays : (line : List ℕ) (found : ReplayFault) → Follows (Wrong found) line (Wrong found)

-- what the lines of a text lead to
pub data Leads : List (List ℕ) → ReadState → Type 0 where
  begins : Leads [] Opens
  follows : (lines : List (List ℕ)) (line : List ℕ) (from to : ReadState) → Leads lines from → Follows from line to
      → Leads (lines ++ line ∷ []) to

-- bytes without a line feed behind the lines: nothing may stand behind the end line
abbrev pub with_rest : List ℕ → ReadState → ReadState
with_rest [] stage = stage
with_rest (byte ∷ bytes) (Ends net setup events) = Wrong fault.End
with_rest (byte ∷ bytes) stage = stage

-- what the bytes of a text, as far as they came, lead to
pub record Comes (bytes : List ℕ) (stage : ReadState) : Type 0 where
  pub lines : ReadState
  pub leads : Leads (ended bytes) lines
  pub same : stage ≡ with_rest (rest bytes) lines
