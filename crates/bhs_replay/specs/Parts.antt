-- What a part of a replay comes to: the lines of a match that was cut off, the last of them perhaps torn.
use Rattle.std.specs.Prelude.{ℕ, ◌≡◌, not, List, [], ◌∷◌, ◌++◌, length, if◌then◌else◌}
use Rattle.bhs_net.specs.Network.{Network}
use Rattle.bhs_model.specs.declared.setups.Setup.{Setup}
use Rattle.bhs_model.specs.declared.events.Event.{Event}
use Rattle.bhs_model.specs.declared.events.Event.TheVariants.{Close}
use Rattle.bhs_model.specs.Setups.{world_of}
use Rattle.bhs_model.specs.Runs.{run}
use Rattle.bhs_model.specs.Marks.{events_of}
use Rattle.bhs_match.specs.Matches.{Play}
use Rattle.bhs_stream.specs.Streams.{Chunk, End}
use Rattle.bhs_stream.specs.Reading.{Closes}
use Rattle.bhs_replay.specs.Reading.{IsSound}
use Rattle.bhs_replay.specs.Stages.{ReadState, Goes, Ends, Leads, Comes, ended}

-- the events followed by a Close, unless the match was closed already
abbrev pub closed_events : Network → Setup → List Event → List Event
closed_events net setup events =
    if not (run (world_of net setup) events).closed then events ++ Close ∷ [] else events

-- the match of the lines so far, closed where they stop
abbrev pub IsClosedAt : ReadState → Play → Type 0
IsClosedAt (Goes net setup events) play =
    (play.net ≡ net) × (play.setup ≡ setup) × (events_of play.log ≡ closed_events net setup events)
IsClosedAt (Ends net setup events) play =
    (play.net ≡ net) × (play.setup ≡ setup) × (events_of play.log ≡ closed_events net setup events)
IsClosedAt stage play = ⊥

-- the match is that of the whole lines of a text, closed where they stop: what stands behind the last line feed counts
-- for nothing
pub record IsPartOf (text : List ℕ) (play : Play) : Type 0 where
  pub stage : ReadState
  pub leads : Leads (ended text) stage
  pub closed : IsClosedAt stage play

-- Some text describes this match.
abbrev pub IsOfPart : Play → Type 0
IsOfPart play = (text : List ℕ) × IsPartOf text play

-- reads brought a whole text, and the match is that of its whole lines, closed where they stop
pub record ReadsPart {I : Type 0} (gives : I → Chunk → I → Type 0) (old : I) (turns : ℕ) (play : Play)
    (new : I) : Type 0 where
  pub text : List ℕ
  pub closes : Closes gives old (length text) turns text End new
  pub part : IsPartOf text play

-- Each front of a replay, cut anywhere, is a part: its whole lines lead to a stage at which nothing is wrong.
abbrev pub FrontsAreParts : Type 0
FrontsAreParts = (front more : List ℕ) (net : Network) (setup : Setup) (events : List Event)
    → Comes (front ++ more) (Ends net setup events) → (stage : ReadState) × Leads (ended front) stage × IsSound stage
