-- The limits of the earlier versions of files and replays.
use Rattle.std.specs.Prelude.{Bool, ◌&&◌, nat_le}
use Rattle.bhs_net.specs.Network.{Network, nodes_of}
use Rattle.bhs_model.specs.declared.limits.TheConstants.{SMALL_NODES, SMALL_QUOTA, SMALL_BOARD}
use Rattle.bhs_model.specs.declared.setups.Setup.{Setup}

-- whether a network has no more nodes, and a match on it no larger quota and whiteboards, than those versions can say
abbrev pub is_small : Network → Setup → Bool
is_small net setup = nat_le (nodes_of net) SMALL_NODES && nat_le setup.quota SMALL_QUOTA
    && nat_le setup.board SMALL_BOARD
