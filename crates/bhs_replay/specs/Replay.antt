-- The text of a match that has ended.
use Rattle.std.specs.Prelude.{ℕ, Bool, List, [], ◌∷◌, ◌++◌, codes, decimal, length, map, Option}
use Rattle.bhs_net.specs.Network.{Network}
use Rattle.bhs_model.specs.declared.setups.Setup.{Setup}
use Rattle.bhs_model.specs.declared.events.Event.{Event}
use Rattle.bhs_model.specs.declared.replies.Reply.{Reply}
use Rattle.bhs_model.specs.declared.marks.Kept.{Kept}
use Rattle.bhs_model.specs.Cuts.{at_places}
use Rattle.bhs_model.specs.Setups.{world_of}
use Rattle.bhs_model.specs.InOrder.{replies}
use Rattle.bhs_model.specs.Marks.{events_of, read_if}
use Rattle.bhs_match.specs.Matches.{Play}
use Rattle.bhs_replay.specs.declared.heads.Version.{Version}
use Rattle.bhs_replay.specs.Head.{head_line, version_of}
use Rattle.bhs_replay.specs.EventLine.{event_line}

-- the last line, which says how many events there are
abbrev pub end_line : ℕ → List ℕ
end_line count = codes "{\"end\":" ++ (decimal count ++ codes "}")

-- the lines of these events with their replies
abbrev pub event_lines : List Event → List (Option Reply) → List (List ℕ)
event_lines (event ∷ events) (reply ∷ others) = event_line event reply ∷ event_lines events others
event_lines events others = []

-- the lines behind the head
abbrev pub body_lines : Network → Setup → List Event → List (List ℕ)
body_lines net setup events = event_lines events (replies (world_of net setup) events) ++ end_line (length events) ∷ []

-- lines, each with its line feed
abbrev pub with_feeds : List (List ℕ) → List ℕ
with_feeds [] = []
with_feeds (line ∷ lines) = (line ++ 10 ∷ []) ++ with_feeds lines

-- the text of a match of these events, in a version
abbrev pub replay : Version → Network → Setup → List Event → List ℕ
replay version net setup events = with_feeds (head_line version net setup ∷ body_lines net setup events)

-- the canonical text of a match
abbrev pub replay_of : Play → List ℕ
replay_of play = replay (version_of play.net play.setup) play.net play.setup (events_of play.log)

-- The text of a match with this network and setup that consists of a subset of another log's events, each with the
-- reply that it had in that log.
abbrev pub replay_of_part : Network → Setup → List Kept → (places : List Bool) → List ℕ
replay_of_part net setup log places =
    let events = at_places (events_of log) places in
    let answers = at_places (map (λ one. read_if log one.mark) log) places in
    with_feeds (head_line (version_of net setup) net setup ∷ (event_lines events answers
    ++ end_line (length events) ∷ []))
