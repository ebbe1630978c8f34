-- An agent that does not know how many nodes a ring has cannot search it.
use Rattle.std.specs.Prelude.{ℕ, ◌≢◌, ◌==◌, ◌<◌, ◌≤◌, [], ◌∷◌, if◌then◌else◌}
use Rattle.bhs_model.specs.Worlds.{Network}
use Rattle.bhs_model.specs.Examples.{none_held}
use Rattle.bhs_schedules.specs.Strategies.{Strategies}
use Rattle.bhs_schedules.specs.Schedules.{Trial}
use Rattle.bhs_protocols.specs.LastWord.{SolvesFor, FindsFor}
use Rattle.bhs_protocols.specs.StandardRings.{next_node, node_before}

-- the standard ring of n nodes by its rule
abbrev pub ring_net : (n : ℕ) → Network
ring_net n = record {
  nodes = n;
  degree = λ node. 2;
  far = λ node port. if port == 0 then (next_node n node, 1) else (node_before n node, 0);
}

-- how many agents play, how many commands each may use, how many bytes a whiteboard holds, and how often a
-- sleeper may wake although nothing has changed
pub record Limits : Type 0 where
  pub agents : ℕ
  pub quota : ℕ
  pub board : ℕ
  pub wakeups : ℕ

abbrev pub played_on : Network → Limits → Strategies → (home hole : ℕ) → Trial
played_on net terms strategies home hole = record {
  world = record {
    net = net;
    home = home;
    holes = hole ∷ [];
    dark = [];
    agents = terms.agents;
    quota = terms.quota;
    board = terms.board;
  };
  held = none_held;
  wakeups = terms.wakeups;
  strategies = strategies;
}

-- a team solves the standard ring of n nodes, whichever node but the home base is the black hole
abbrev pub SolvesSize : (n : ℕ) → Limits → Strategies → Type 0
SolvesSize n terms strategies =
    (hole : ℕ) → 0 < hole → hole < n → SolvesFor (played_on (ring_net n) terms strategies 0 hole)

-- a team finds the black hole there, in the sense of the literature
abbrev pub FindsSize : (n : ℕ) → Limits → Strategies → Type 0
FindsSize n terms strategies =
    (hole : ℕ) → 0 < hole → hole < n → FindsFor (played_on (ring_net n) terms strategies 0 hole) hole

-- No team finds the black holes of rings of two sizes, if it is the same team and is not told which of the two it is.
abbrev pub NoTeamFindsOnTwoSizes : Type 0
NoTeamFindsOnTwoSizes = (n size : ℕ) (terms : Limits) (strategies : Strategies) → 3 ≤ n → 3 ≤ size → n ≢ size
    → FindsSize n terms strategies → FindsSize size terms strategies → ⊥

-- So no team solves them.
abbrev pub NoTeamSolvesTwoSizes : Type 0
NoTeamSolvesTwoSizes = (n size : ℕ) (terms : Limits) (strategies : Strategies) → 3 ≤ n → 3 ≤ size → n ≢ size
    → SolvesSize n terms strategies → SolvesSize size terms strategies → ⊥
