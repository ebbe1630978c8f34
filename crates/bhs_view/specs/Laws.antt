-- The laws of matches that have ended.
use Rattle.std.specs.Prelude.{ℕ, ◌≡◌, Bool, true, None, List, map, take}
use Rattle.bhs_net.specs.Network.{IsNetwork}
use Rattle.bhs_model.specs.Runs.{past}
use Rattle.bhs_model.specs.InOrder.{replies, replies_to}
use Rattle.bhs_model.specs.Kept.{kept}
use Rattle.bhs_model.specs.Marks.{events_of, read_if}
use Rattle.bhs_model.specs.Cuts.{at_places, footprints, is_closed, cut}
use Rattle.bhs_model.specs.Draws.{Held, Act, played, SlowInstead}
use Rattle.bhs_model.specs.Laws.{IsPlaying, AreAnsweredAlike, IsLeastCut, IsGivenAll, LookAlike}
use Rattle.bhs_world.specs.Faults.{IsWithinLimits}
use Rattle.bhs_match.specs.Matches.{Play, world_in, state_of}
use Rattle.bhs_match.specs.Laws.{IsLogOf}
use Rattle.bhs_view.specs.Twins.{twin_fault, IsTwin}

-- a match that has ended, as a `Sealed` shows it
pub record IsEnded (play : Play) : Type 0 where
  pub network : IsNetwork play.net
  pub within : IsWithinLimits play.net play.setup
  pub closed : (state_of play).closed ≡ true
  pub kept : kept (world_in play) (events_of play.log) ≡ events_of play.log
  pub replies : map (λ one. read_if play.log one.mark) play.log ≡ replies (world_in play) (events_of play.log)

-- The cut of an agent in a match is the least closed set of places with all its own, and by itself it gives the agent
-- the past, the position and the answers that it had. Each closed set is answered by itself as it was.
pub record CutTellsAll (play : Play) (agent : ℕ) : Type 0 where
  pub least : IsLeastCut (world_in play) (events_of play.log) agent
      (cut agent (footprints (world_in play) (events_of play.log)))
  pub given : IsGivenAll (world_in play) (events_of play.log)
      (at_places (events_of play.log) (cut agent (footprints (world_in play) (events_of play.log)))) agent
  pub alone : (places : List Bool) → is_closed (footprints (world_in play) (events_of play.log)) places ≡ true →
      replies (world_in play) (at_places (events_of play.log) places)
      ≡ at_places (map (λ one. read_if play.log one.mark) play.log) places

abbrev pub CutsTellAll : Type 0
CutsTellAll = (play : Play) (agent : ℕ) → IsEnded play → CutTellsAll play agent

-- Two agents, of two matches of equal quota and whiteboards, that have equal pasts at some places of the logs before a
-- Close, are answered alike there, whatever else differs.
abbrev pub EqualPastsAreAnsweredAlike : Type 0
EqualPastsAreAnsweredAlike = (one two : Play) (place other_place agent other : ℕ) →
    one.setup.quota ≡ two.setup.quota → one.setup.board ≡ two.setup.board →
    IsPlaying (world_in one) (take place (events_of one.log)) agent →
    IsPlaying (world_in two) (take other_place (events_of two.log)) other →
    past (world_in one) (take place (events_of one.log)) agent
    ≡ past (world_in two) (take other_place (events_of two.log)) other →
    AreAnsweredAlike (world_in one) (take place (events_of one.log)) agent (world_in two)
    (take other_place (events_of two.log)) other

-- A match and its twin look alike: each agent has the same past and was answered the same.
abbrev pub TwinsLookAlike : Type 0
TwinsLookAlike = (whole twin : Play) (node : ℕ) → IsEnded whole → twin_fault whole node ≡ None
    → IsTwin whole node twin →
    LookAlike (world_in whole) (events_of whole.log) (world_in twin) (events_of twin.log)

-- A match with black holes and dark links, and one without in which the doomed links are held as well, played by the
-- same commands and words: each agent was answered the same until the close.
abbrev pub HolesLookSlow : Type 0
HolesLookSlow = (fast slow : Play) (held still : Held) (acts : List Act) (agent : ℕ) →
    SlowInstead (world_in fast) held (world_in slow) still →
    IsLogOf (world_in fast) (played (world_in fast) held acts) fast.log →
    IsLogOf (world_in slow) (played (world_in slow) still acts) slow.log →
    replies_to (world_in fast) agent (events_of fast.log) ≡ replies_to (world_in slow) agent (events_of slow.log)
