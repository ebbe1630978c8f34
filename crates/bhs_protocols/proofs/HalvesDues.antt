-- The search by halves, in numbers: how far each agent is to explore, what whiteboards show, and how many moves and
-- turns are still owed.
use Rattle.std.specs.Prelude.{ℕ, zero, suc, ◌+◌, ◌-◌, ◌==◌, Bool, true, false, Option, if◌then◌else◌, nat_lt}
use Rattle.bhs_model.specs.Runs.{Position}
use Rattle.bhs_protocols.specs.declared.halves.Memory.{Memory}
use Rattle.bhs_protocols.specs.declared.halves.Phase.{Phase}
use Rattle.bhs_protocols.specs.declared.halves.Phase.TheVariants.{Begins, GoesOut, Leaves, Tries, Turns, Returns}
use Rattle.bhs_protocols.specs.declared.halves.Phase.TheVariants.{Writes, GoesHome, NearsHome, Follows, Passes, Tells}
use Rattle.bhs_protocols.specs.declared.halves.Phase.TheVariants.{ComesHome, NearsBack, Ends}
use Rattle.bhs_protocols.specs.Halves.{target_by, theirs_by}

-- An agent's memory, position and accusation.
pub record Seat : Type 0 where
  pub memory : Memory
  pub position : Position
  pub accused : Option (ℕ × ℕ)

-- The mark at the last safe node of a side may tell of a division of which the agent does not know yet. By that mark:
-- how far the agent is to explore, and how many nodes of the other side were safe at the division.
abbrev pub part : (n : ℕ) → Memory → (mark : ℕ) → ℕ
part n m mark = target_by n m.mine m.target mark

abbrev pub told : Memory → (mark : ℕ) → ℕ
told m mark = theirs_by m.theirs mark

-- the mark at a node of a side, with so many safe nodes, and this mark at the last one
abbrev pub mark_at : (mine mark node : ℕ) → ℕ
mark_at mine mark node = if nat_lt node mine then 1 else (if node == mine then mark else 0)

-- the mark beside it, of the other side: on the home base alone
abbrev pub beside : (theirs mark node : ℕ) → ℕ
beside theirs mark zero = mark_at theirs mark 0
beside theirs mark (suc node) = 0

-- how many nodes of its side an agent has come to
abbrev pub come : (mine : ℕ) → Phase → ℕ
come mine (Turns port) = mine + 1
come mine Returns = mine + 1
come mine (Writes port) = mine + 1
come mine phase = mine

-- ---- moves

-- moves made since an agent was last at its last safe node, to explore the next one
abbrev pub spent : Phase → ℕ
spent Tries = 1
spent (Turns port) = 1
spent Returns = 2
spent (Writes port) = 2
spent phase = 0

-- moves to its last safe node
abbrev pub back : (mine : ℕ) → Phase → ℕ
back mine (GoesOut steps port) = mine - steps
back mine (Leaves steps) = mine - (steps + 1)
back mine (ComesHome steps port) = mine + steps
back mine (NearsBack steps) = mine + (steps - 1)
back mine phase = 0

-- what is left of the moves that are owed for ways, on the way to the other side's last safe node
abbrev pub ways_due : (ways mine : ℕ) → Phase → ℕ
ways_due ways mine (GoesHome steps port) = ways - (mine - steps)
ways_due ways mine (NearsHome steps) = ways - (mine - (steps - 1))
ways_due ways mine (Follows steps port) = ways - (mine + steps)
ways_due ways mine (Passes steps) = ways - (mine + (steps + 1))
ways_due ways mine (Tells steps port) = ways - (mine + steps)
ways_due ways mine Ends = 0
ways_due ways mine phase = ways

-- all that is owed, with so many moves for nodes and for ways
abbrev pub owing : (nodes ways mine : ℕ) → Phase → ℕ
owing nodes ways mine phase = (nodes - spent phase) + back mine phase + ways_due ways mine phase

-- the move into the black hole: that is in the part of one agent
abbrev pub last : (part distance : ℕ) → ℕ
last part distance = if nat_lt part distance then 0 else 1

-- ---- turns

-- turns of an agent before its next move, and its accusation
abbrev pub paces : Phase → ℕ
paces Begins = 2
paces (Leaves steps) = 2
paces Tries = 2
paces Returns = 2
paces (NearsHome steps) = 2
paces (Passes steps) = 2
paces (NearsBack steps) = 2
paces Ends = 0
paces phase = 1

-- its commands besides departures and writes: its accusation
abbrev pub tasks : Phase → ℕ
tasks Ends = 0
tasks phase = 1

-- a write that will fail
abbrev pub miss : Bool → ℕ
miss true = 0
miss false = 1
