-- What is written to the parts of replays.
use Rattle.std.specs.Prelude.{ℕ, List, [], ◌∷◌, ◌++◌, codes}
use Rattle.bhs_shared_match.specs.declared.copies.Copied.{Copied}
use Rattle.bhs_replay.specs.EventLine.{event_line}
use Rattle.bhs_replay.specs.Replay.{end_line}

-- the line of an event and its reply, with its line feed
abbrev pub full_line : Copied → List ℕ
full_line one = event_line one.event one.reply ++ codes "\n"

-- the lines of events, in their order
abbrev pub lines_of : List Copied → List ℕ
lines_of [] = []
lines_of (one ∷ others) = full_line one ++ lines_of others

-- the end line of a replay with this number of events, with its line feed
abbrev pub full_end_line : ℕ → List ℕ
full_end_line events = end_line events ++ codes "\n"
