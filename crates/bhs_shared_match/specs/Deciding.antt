-- Observations made under the lock of a match.
use Rattle.std.specs.Prelude.{◌≡◌, List}
use Rattle.bhs_net.specs.Network.{Network}
use Rattle.bhs_model.specs.declared.setups.Setup.{Setup}
use Rattle.bhs_match.specs.Matches.{Play}
use Rattle.bhs_shared_match.specs.declared.model.Tally.{Tally}
use Rattle.bhs_shared_match.specs.Tallies.{IsLegalHistory}

-- The observation holds of some legal history of a match with this network and setup. A lock's contract can say no
-- more: tests alone show that it is the history under this lock.
pub record WasSeen (net : Network) (setup : Setup) (IsSo : Play → Type 0) : Type 0 where
  pub play : Play
  pub tallies : List Tally
  pub legal : IsLegalHistory play tallies
  pub same_net : play.net ≡ net
  pub same_setup : play.setup ≡ setup
  pub is_so : IsSo play
