-- A match that threads share, as those see it who share it.
use Rattle.std.specs.Prelude.{ℕ, ◌≡◌, ◌≢◌, ◌≤◌, ◌⊎◌, true, Some, None, List, [], ◌∷◌, ◌++◌, length}
use Rattle.bhs_net.specs.Network.{Network}
use Rattle.bhs_model.specs.declared.setups.Setup.{Setup}
use Rattle.bhs_model.specs.declared.replies.Reply.{Reply}
use Rattle.bhs_model.specs.declared.replies.Reply.TheVariants.{Here, Over}
use Rattle.bhs_time.specs.declared.kinds.ScheduleKind.{ScheduleKind}
use Rattle.bhs_match.specs.Matches.{Play, state_of}
use Rattle.bhs_shared_match.specs.declared.model.Tally.{Tally}
use Rattle.bhs_shared_match.specs.Tallies.{IsLegalHistory}
use Rattle.bhs_shared_match.specs.Passes.{Passed}
use Rattle.bhs_shared_match.specs.Arrivals.{arrival_of}
use Rattle.bhs_shared_match.specs.Deciding.{WasSeen}

-- The parameters of a shared match: its number, the network and the setup, the links over which no turn lets an agent
-- arrive, each as the node and the port by which it is left, and how turns choose whom they deliver.
pub record Given : Type 0 where
  pub game : ℕ
  pub net : Network
  pub setup : Setup
  pub held : List (ℕ × ℕ)
  pub schedule : ScheduleKind

-- The pass has another match number, or an agent number that the match does not have.
abbrev pub IsOfOtherMatch : Given → Passed → Type 0
IsOfOtherMatch given pass = (pass.game ≢ given.game) ⊎ (given.setup.agents ≤ pass.agent)

-- a pass has one arrival more, with this reply: in some legal history it is the agent's first arrival that the pass had
-- not been told
pub record GainsArrival (pass : Passed) (said : Reply) (pass' : Passed) : Type 0 where
  pub place : ℕ
  pub gains : pass' ≡ record pass { arrivals = pass.arrivals ++ record { place = place; reply = said } ∷ [] }
  pub play : Play
  pub tallies : List Tally
  pub legal : IsLegalHistory play tallies
  pub next : arrival_of play pass.agent (length pass.arrivals) ≡ Some (record { place = place; reply = said })

-- a match is closed, and the pass was told of all arrivals of its agent
pub record IsOverFor (pass : Passed) (play : Play) : Type 0 where
  pub closed : (state_of play).closed ≡ true
  pub all_told : arrival_of play pass.agent (length pass.arrivals) ≡ None

-- The meaning of news: an arrival, whose receipt the pass gets; or the end of the match, which changes nothing. The end
-- is reported when the match was seen closed and the pass had all arrivals of its agent; and to a pass of another
-- match.
abbrev pub IsNews : Given → Passed → Reply → Passed → Type 0
IsNews given pass (Here ports came board) pass' = GainsArrival pass (Here ports came board) pass'
IsNews given pass Over pass' =
    (pass' ≡ pass) × (IsOfOtherMatch given pass ⊎ WasSeen given.net given.setup (IsOverFor pass))
IsNews given pass said pass' = ⊥
