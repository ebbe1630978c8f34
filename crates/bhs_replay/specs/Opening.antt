-- When a line is a match's head.
use Rattle.std.specs.Prelude.{ℕ, ◌≡◌, ◌≢◌, List, [], Option, Some, None}
use Rattle.bhs_net.specs.Network.{Network, nodes_of, Makes}
use Rattle.bhs_model.specs.declared.setups.Setup.{Setup}
use Rattle.bhs_model.specs.Setups.{normal, IsNormal}
use Rattle.bhs_world.specs.Faults.{first_fault}
use Rattle.bhs_match.specs.Matches.{Play}
use Rattle.bhs_replay.specs.declared.heads.Version.{Version}
use Rattle.bhs_replay.specs.Head.{head_line, links_of, CanSay}
use Rattle.bhs_replay.specs.HeadReading.{HeadFields}

-- a line is the head of this network and this setup, in one of the versions: its links make the network, and the setup
-- has no fault and is in normal form
pub record IsHead (line : List ℕ) (net : Network) (setup : Setup) : Type 0 where
  pub version : Version
  pub can_say : CanSay version net setup
  pub spelled : line ≡ head_line version net setup
  pub made : Makes (nodes_of net) (links_of net) net
  pub fits : first_fault net setup ≡ None
  pub normal : IsNormal net setup

-- the match that a line opens, if it opens one
abbrev pub OpensAs : List ℕ → Option Play → Type 0
OpensAs line None = (net : Network) (setup : Setup) → ¬ IsHead line net setup
OpensAs line (Some play) = IsHead line play.net play.setup × (play.log ≡ [])

-- the match that nodes, links and a setup make, if they make one
abbrev pub Starts : HeadFields → Option Play → Type 0
Starts says None = (net : Network) → Makes says.nodes says.links net → first_fault net says.setup ≢ None
Starts says (Some play) =
    Makes says.nodes says.links play.net × (first_fault play.net says.setup ≡ None)
    × (play ≡ record { net = play.net; setup = normal play.net says.setup; log = [] })
