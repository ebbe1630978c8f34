-- The built-in tournament: one match of two agents on a triangle, with the black hole at node 2.
use Rattle.std.specs.Prelude.{[], ◌∷◌, codes, replicate}
use Rattle.bhs_net.specs.Network.{Network}
use Rattle.bhs_time.specs.declared.kinds.ScheduleKind.TheVariants.{Adaptive}
use Rattle.bhs_files.specs.Tournaments.{Planned, Plan}
use Rattle.bhs_tournament.specs.Lineups.{ready_of}
use Rattle.bhs_setups.specs.Lineups.{Contest}

-- three nodes, each joined to the others: per node the far ends of its ports
abbrev pub triangle : Network
triangle =
    ((1, 0) ∷ (2, 1) ∷ [])
    ∷ ((0, 0) ∷ (2, 0) ∷ [])
    ∷ ((1, 1) ∷ (0, 1) ∷ [])
    ∷ []

-- the match, as its file describes it
abbrev pub fixture : Planned
fixture = record {
  version = 2;
  team = codes "red";
  network = codes "tri.toml";
  home = 0;
  holes = 2 ∷ [];
  dark = [];
  quota = 10;
  board = 8;
  keys = codes "ka" ∷ codes "kb" ∷ [];
  held = [];
}

abbrev pub plan : Plan
plan = record { seed = replicate 32 0; schedule = Adaptive; matches = fixture ∷ [] }

-- the match before anything happens, and its keys
abbrev pub built_in : Contest
built_in = record {
  seed = replicate 32 0;
  schedule = Adaptive;
  matches = ready_of triangle fixture ∷ [];
  keys = (codes "ka", (0, 0)) ∷ (codes "kb", (0, 1)) ∷ [];
}
