-- Which setups make a world.
use Rattle.std.specs.Prelude.{ℕ, ◌<◌, ◌≤◌, ◌≢◌, Bool, true, not, ◌&&◌, Option, Some, None, List, [], ◌∷◌, ◌++◌, ◌==◌}
use Rattle.std.specs.Prelude.{nat_lt, nat_le, ◌≡◌, if◌then◌else◌}
use Rattle.bhs_net.specs.Network.{Network, nodes_of, degree_of, far_of}
use Rattle.bhs_model.specs.Worlds.{is_hole, is_dark}
use Rattle.bhs_model.specs.declared.limits.TheConstants.{MAX_AGENTS, MAX_QUOTA, MAX_BOARD}
use Rattle.bhs_model.specs.declared.setups.Setup.{Setup}
use Rattle.bhs_world.specs.declared.faults.SetupFault.{SetupFault}
use Rattle.bhs_world.specs.declared.faults.SetupFault.TheVariants.{Home, Hole, Agents, Quota, Board, Dark}

-- the limits of a setup on a network
pub record IsWithinLimits (net : Network) (setup : Setup) : Type 0 where
  pub home : setup.home < nodes_of net
  pub holes : (node : ℕ) → is_hole setup.holes node ≡ true → (node < nodes_of net) × (node ≢ setup.home)
  pub some_agents : 1 ≤ setup.agents
  pub agents : setup.agents ≤ MAX_AGENTS
  pub some_quota : 1 ≤ setup.quota
  pub quota : setup.quota ≤ MAX_QUOTA
  pub board : setup.board ≤ MAX_BOARD
  pub dark : (node port : ℕ) → is_dark (far_of net) setup.dark node port ≡ true → port < degree_of net node

-- whether a number lies in the closed interval from `least` to `most`
abbrev pub is_within : (least most n : ℕ) → Bool
is_within least most n = nat_le least n && nat_le n most

-- whether a black hole is a node other than home
abbrev pub is_hole_fit : (nodes home hole : ℕ) → Bool
is_hole_fit nodes home hole = nat_lt hole nodes && not (hole == home)

-- Whether each black hole is a node other than the home base and occurs only once, counting the preceding holes too.
abbrev pub are_holes_fit : (nodes home : ℕ) → (before holes : List ℕ) → Bool
are_holes_fit nodes home before [] = true
are_holes_fit nodes home before (hole ∷ holes) =
    (is_hole_fit nodes home hole && not (is_hole before hole)) && are_holes_fit nodes home (before ++ hole ∷ []) holes

-- whether an end names an existing port
abbrev pub is_port_of : Network → ℕ × ℕ → Bool
is_port_of net end = nat_lt end.1 (degree_of net end.0)

-- whether each of these ends names an existing port and its link occurs once, also among the ends before them
abbrev pub are_links_fit : Network → (before ends : List (ℕ × ℕ)) → Bool
are_links_fit net before [] = true
are_links_fit net before (end ∷ ends) =
    (is_port_of net end && not (is_dark (far_of net) before end.0 end.1)) && are_links_fit net (before ++ end ∷ []) ends

-- the first fault of a setup for this network; None within the limits
abbrev pub first_fault : Network → Setup → Option SetupFault
first_fault net setup =
    if not (nat_lt setup.home (nodes_of net)) then Some Home
    else (if not (are_holes_fit (nodes_of net) setup.home [] setup.holes) then Some Hole
    else (if not (is_within 1 MAX_AGENTS setup.agents) then Some Agents
    else (if not (is_within 1 MAX_QUOTA setup.quota) then Some Quota
    else (if not (nat_le setup.board MAX_BOARD) then Some Board
    else (if not (are_links_fit net [] setup.dark) then Some Dark
    else None)))))
