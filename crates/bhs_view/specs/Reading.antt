-- Queries about a match that has ended.
use Rattle.std.specs.Prelude.{ℕ, ◌≡◌, ◌<◌, ◌≤◌, true, Option, IfSome, List, length, map}
use Rattle.std.specs.List.{All}
use Rattle.bhs_net.specs.Network.{Network, IsNetwork, nodes_of}
use Rattle.bhs_model.specs.declared.marks.Kept.{Kept}
use Rattle.bhs_model.specs.declared.setups.Setup.{Setup}
use Rattle.bhs_model.specs.InOrder.{replies}
use Rattle.bhs_model.specs.Kept.{kept}
use Rattle.bhs_model.specs.Marks.{events_of, read_if}
use Rattle.bhs_model.specs.Setups.{IsNormal}
use Rattle.bhs_model.specs.Sites.{sites}
use Rattle.bhs_world.specs.Faults.{IsWithinLimits}
use Rattle.bhs_match.specs.Matches.{Play, world_in, state_of, most_kept}

-- The network, setup, log and sites of a match that has ended. Only contracts of private functions cite it.
pub record IsRead (play : Play) (net_read : Network) (setup_read : Setup) (log_read : List Kept)
    (sites_read : List (Option ℕ)) : Type 0 where
  pub net : net_read ≡ play.net
  pub setup : setup_read ≡ play.setup
  pub log : log_read ≡ play.log
  pub network : IsNetwork play.net
  pub within : IsWithinLimits play.net play.setup
  pub normal : IsNormal play.net play.setup
  pub closed : (state_of play).closed ≡ true
  pub kept : kept (world_in play) (events_of play.log) ≡ events_of play.log
  pub replies : map (λ one. read_if play.log one.mark) play.log ≡ replies (world_in play) (events_of play.log)
  pub bound : length play.log ≤ most_kept play.setup.agents play.setup.quota
  pub sites : sites_read ≡ sites (world_in play) (events_of play.log)
  pub count : length sites_read ≡ length play.log
  pub range : All (λ site. IfSome site (λ node. node < nodes_of play.net)) sites_read
