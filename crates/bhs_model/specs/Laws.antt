-- The laws of the model, each over every world and every list of events.
use Rattle.std.specs.Prelude.{ℕ, Bool, true, false, ◌≡◌, ◌<◌, ◌↔◌, IsTrue, ◌||◌, Some, List, [], ◌∷◌, ◌++◌}
use Rattle.std.specs.Prelude.{if◌then◌else◌, slice_get}
use Rattle.bhs_model.specs.declared.commands.Command.{Command}
use Rattle.bhs_model.specs.declared.events.Event.{Event}
use Rattle.bhs_model.specs.declared.events.Event.TheVariants.{Tell}
use Rattle.bhs_model.specs.Views.{View, Outside, Present, Away, Ended, standing, ports}
use Rattle.bhs_model.specs.Replying.{rep, reps}
use Rattle.bhs_model.specs.Worlds.{World, doomed}
use Rattle.bhs_model.specs.Runs.{Position, Before, At, Bound, After, run, past, heard, next, reply}
use Rattle.bhs_model.specs.InOrder.{replies, replies_to}
use Rattle.bhs_model.specs.Kept.{keeps, kept, lost, lost_after}
use Rattle.bhs_model.specs.KeptReplies.{kept_replies}
use Rattle.bhs_model.specs.Twins.{Twins}
use Rattle.bhs_model.specs.Draws.{Held, Act, played, pool, SlowInstead}
use Rattle.bhs_model.specs.Arenas.{Happening, events_of, arena, arena_replies}
use Rattle.bhs_model.specs.Cuts.{at_places, Footprint, needs, footprints, is_closed, has_place, HasAllOf, IsWithin, cut}

-- The agent belongs to the match, and the match has not ended.
pub record IsPlaying (world : World) (events : List Event) (agent : ℕ) : Type 0 where
  pub in_range : agent < world.agents
  pub open_match : (run world events).closed ≡ false

-- two agents are answered alike: the replies to their newest steps are equal, the same commands are
-- heard from both, and what is not heard is refused alike
pub record AreAnsweredAlike (one : World) (events : List Event) (agent : ℕ)
    (two : World) (others : List Event) (other : ℕ) : Type 0 where
  pub newest_reply : rep one.board (past one events agent) ≡ rep two.board (past two others other)
  pub hearing : (command : Command) →
      heard one (run one events) agent command ≡ heard two (run two others) other command
  pub refusals : (command : Command) → heard one (run one events) agent command ≡ false →
      reply one (run one events) (Tell agent command) ≡ reply two (run two others) (Tell other command)

-- Agents with equal pasts are answered alike, in whatever networks, among however many agents, and
-- whatever destroys: of the world only the quota and the size of a whiteboard count.
abbrev pub EqualPasts : Type 0
EqualPasts = (one two : World) (events others : List Event) (agent other : ℕ) →
    one.quota ≡ two.quota → one.board ≡ two.board →
    IsPlaying one events agent → IsPlaying two others other →
    past one events agent ≡ past two others other →
    AreAnsweredAlike one events agent two others other

-- What an agent is answered to the kept events, and so until the match ends, is a function of its past:
-- the replies to its steps, in order.
abbrev pub RepliesAreOfPasts : Type 0
RepliesAreOfPasts = (world : World) (events : List Event) (agent : ℕ) →
    replies_to world agent (kept world events) ≡ reps world.board (past world events agent)

-- What one event more adds to a list of events.
pub record AddsOne (world : World) (events : List Event) (event : Event) : Type 0 where
  pub state : run world (events ++ event ∷ []) ≡ next world (run world events) event
  pub answers : replies world (events ++ event ∷ [])
      ≡ replies world events ++ reply world (run world events) event ∷ []
  pub log : kept world (events ++ event ∷ [])
      ≡ kept world events ++ (if keeps world (run world events) (lost world events) event then event ∷ [] else [])
  pub victims : lost world (events ++ event ∷ [])
      ≡ lost_after world (run world events) (lost world events) event

abbrev pub EventsAdd : Type 0
EventsAdd = (world : World) (events : List Event) (event : Event) → AddsOne world events event

-- What is not kept changes nothing: the kept events lead to the same pasts, positions, last writes and pool,
-- the same agents are lost, keeping twice is keeping once, and each kept event was answered, among all events, what the
-- kept events alone give at its place.
pub record KeepsAll (world : World) (events : List Event) : Type 0 where
  pub state : run world (kept world events) ≡ run world events
  pub lost : lost world (kept world events) ≡ lost world events
  pub once : kept world (kept world events) ≡ kept world events
  pub answers : kept_replies world events ≡ replies world (kept world events)

abbrev pub KeptSuffice : Type 0
KeptSuffice = (world : World) (events : List Event) → KeepsAll world events

-- No agent can tell twins apart: the matches stand alike, and each agent has the same past and the same
-- answers.
pub record LookAlike (world : World) (events : List Event) (other : World) (others : List Event) :
    Type 0 where
  pub states : run world events ≡ run other others
  pub pasts : (agent : ℕ) → past world events agent ≡ past other others agent
  pub replies : (agent : ℕ) → replies_to world agent events ≡ replies_to other agent others

abbrev pub TwinsLookAlike : Type 0
TwinsLookAlike = (world : World) (events : List Event) (other : World) (others : List Event) →
    Twins world events other others → LookAlike world events other others

-- A set of places is closed exactly if, with each of its places, it has each earlier one that this
-- place needs.
abbrev pub HasWhatIsAsked : List Footprint → List Bool → Type 0
HasWhatIsAsked footprints places = (early late : ℕ) (one other : Footprint) → early < late →
    slice_get footprints early ≡ Some one → slice_get footprints late ≡ Some other → needs one other ≡ true →
    has_place places late ≡ true → has_place places early ≡ true

abbrev pub ClosedMeans : Type 0
ClosedMeans = (footprints : List Footprint) (places : List Bool) →
    IsTrue (is_closed footprints places) ↔ HasWhatIsAsked footprints places

-- A closed set of places can stand alone: by themselves its events are answered as they are among all.
abbrev pub ClosedSetsStandAlone : Type 0
ClosedSetsStandAlone = (world : World) (events : List Event) (places : List Bool) →
    is_closed (footprints world events) places ≡ true →
    replies world (at_places events places) ≡ at_places (replies world events) places

-- The cut of an agent is closed, contains all places of the agent, and is the least such set.
pub record IsLeastCut (world : World) (events : List Event) (agent : ℕ) (places : List Bool) :
    Type 0 where
  pub closed : is_closed (footprints world events) places ≡ true
  pub own : HasAllOf agent (footprints world events) places
  pub least : (others : List Bool) →
      is_closed (footprints world events) others ≡ true → HasAllOf agent (footprints world events) others →
      IsWithin places others

abbrev pub CutsAreLeast : Type 0
CutsAreLeast = (world : World) (events : List Event) (agent : ℕ) →
    IsLeastCut world events agent (cut agent (footprints world events))

-- The events in an agent's cut suffice: without the other events, the agent has the same past, the same position and
-- the same replies as with all events.
pub record IsGivenAll (world : World) (events chosen : List Event) (agent : ℕ) : Type 0 where
  pub past : past world chosen agent ≡ past world events agent
  pub position : (run world chosen).position agent ≡ (run world events).position agent
  pub answers : replies_to world agent chosen ≡ replies_to world agent events

abbrev pub CutsSuffice : Type 0
CutsSuffice = (world : World) (events : List Event) (agent : ℕ) →
    IsGivenAll world events (at_places events (cut agent (footprints world events))) agent

-- A match with a black hole, and the match where the links into it are only slow, are twins, whatever is
-- said and drawn; and their pools are equal, so that each word picks alike.
pub record LooksSlow (world : World) (held : Held) (slow : World) (still : Held) (acts : List Act) :
    Type 0 where
  pub twins : Twins world (played world held acts) slow (played slow still acts)
  pub pools : pool (run world (played world held acts)) ≡ pool (run slow (played slow still acts))

-- each match with a black hole has such a slow match beside it
abbrev pub HasSlowTwin : Type 0
HasSlowTwin = (world : World) (held : Held) →
    SlowInstead world held
    (record world { holes = []; dark = [] }) (λ node port. held node port || doomed world node port)

abbrev pub HoleLooksSlow : Type 0
HoleLooksSlow = (world : World) (held : Held) (slow : World) (still : Held) (acts : List Act) →
    SlowInstead world held slow still → LooksSlow world held slow still acts

-- the home base is a node, and each port leads to a node
pub record StaysInRange (world : World) : Type 0 where
  pub home : world.home < world.net.nodes
  pub far : (node port : ℕ) → node < world.net.nodes → port < world.net.degree node →
      (world.net.far node port).0 < world.net.nodes

-- the past of an agent says what its position does: what it is doing, and how many ports its node has
abbrev pub Fits : World → View → Position → Type 0
Fits world view Before = standing view ≡ Outside
Fits world view (At node came) =
    (standing view ≡ Present) × (ports view ≡ world.net.degree node) × (node < world.net.nodes)
Fits world view (Bound node port) =
    (standing view ≡ Away) × (node < world.net.nodes) × (port < world.net.degree node)
Fits world view After = standing view ≡ Ended

abbrev pub PastsFitPositions : Type 0
PastsFitPositions = (world : World) (events : List Event) (agent : ℕ) → StaysInRange world →
    Fits world (past world events agent) ((run world events).position agent)

-- A match among others stands as its own events left it, and is answered as if it were alone.
pub record StandsApart (worlds : ℕ → World) (happenings : List Happening) (game : ℕ) : Type 0 where
  pub state : arena worlds happenings game ≡ run (worlds game) (events_of game happenings)
  pub answers : arena_replies worlds game happenings ≡ replies (worlds game) (events_of game happenings)

abbrev pub MatchesAreApart : Type 0
MatchesAreApart = (worlds : ℕ → World) (happenings : List Happening) (game : ℕ) →
    StandsApart worlds happenings game

-- For every list of events over all matches, what an agent is answered until its match ends is a function
-- of its past.
abbrev pub AmongMatches : Type 0
AmongMatches = (worlds : ℕ → World) (happenings : List Happening) (game agent : ℕ) →
    replies_to (worlds game) agent (kept (worlds game) (events_of game happenings))
    ≡ reps (worlds game).board ((arena worlds happenings game).past agent)
