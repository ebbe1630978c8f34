-- The smallest search: two agents on a ring of three nodes, without whiteboards. Each goes to the next node of its side
-- and comes back. Who comes back knows that the black hole is on the other side, and accuses the link there.
use Rattle.std.specs.Prelude.{ℕ, ◌-◌, ◌≡◌, ◌≤◌, Some, [], ◌∷◌}
use Rattle.bhs_net.specs.Network.{Network, nodes_of}
use Rattle.bhs_model.specs.declared.commands.Command.TheVariants.{Enter, Depart, Accuse}
use Rattle.bhs_model.specs.declared.replies.Reply.TheVariants.{Here, Gone, Noted}
use Rattle.bhs_model.specs.declared.setups.Setup.{Setup}
use Rattle.bhs_model.specs.Setups.{world_of}
use Rattle.bhs_model.specs.Worlds.{World}
use Rattle.bhs_model.specs.Examples.{triangle, none_held}
use Rattle.bhs_referee.specs.declared.verdicts.Outcome.TheVariants.{Solved}
use Rattle.bhs_schedules.specs.declared.answers.Step.{Step}
use Rattle.bhs_schedules.specs.declared.answers.Step.TheVariants.{Says, Stops}
use Rattle.bhs_schedules.specs.Strategies.{Observation, Heard, History, Strategies}
use Rattle.bhs_schedules.specs.Schedules.{Trial, under, verdict}
use Rattle.bhs_protocols.specs.Invariants.{CostBounds, IsSolved}
use Rattle.bhs_protocols.specs.AllRings.{IsSetOn}

-- ---- the search

-- what an agent is about
pub data Phase : Type 0 where
  Begins : Phase
  -- at the home base, to explore the next node of its side
  Departs : Phase
  -- on its way there
  Goes : Phase
  -- there, to go back by this port
  Turns : (port : ℕ) → Phase
  -- on its way back
  ComesBack : Phase
  -- at the home base again, to accuse the link of the other side
  Accuses : Phase
  Ends : Phase

-- what an agent of this side does: its side is its number, and its port of the home base
abbrev pub does_in : (side : ℕ) → Phase → Step
does_in side Begins = Says Enter
does_in side Departs = Says (Depart side)
does_in side (Turns port) = Says (Depart port)
does_in side Accuses = Says (Accuse (1 - side))
does_in side phase = Stops

-- the phase after an observation
abbrev pub next_phase : Phase → Observation → Phase
next_phase Begins (Heard (Here ports came board)) = Departs
next_phase Departs (Heard Gone) = Goes
next_phase Goes (Heard (Here ports (Some label) board)) = Turns label
next_phase (Turns port) (Heard Gone) = ComesBack
next_phase ComesBack (Heard (Here ports came board)) = Accuses
next_phase Accuses (Heard Noted) = Ends
next_phase phase item = phase

-- and after a whole history
abbrev pub phase_after : History → Phase
phase_after [] = Begins
phase_after (item ∷ history) = next_phase (phase_after history) item

abbrev pub explorers : Strategies
explorers agent history = does_in agent (phase_after history)

-- ---- what is proved of it

-- the match of both agents, where no link is held
abbrev pub triangle_trial : World → (wakeups : ℕ) → Trial
triangle_trial world wakeups = record { world = world; held = none_held; wakeups = wakeups; strategies = explorers }

-- one agent is lost after a move, and the other makes two; they have two turns and six
abbrev pub triangle_bounds : CostBounds
triangle_bounds = record { moves = 3; lost = 1; commands = λ agent. 3; turns = 8 }

-- They solve each ring of three nodes that a file can name, however its ports are numbered, from each home base and
-- with each black hole.
abbrev pub TriangleIsSolved : Type 0
TriangleIsSolved = (net : Network) (setup : Setup) (hole wakeups : ℕ) → IsSetOn net setup hole → nodes_of net ≡ 3
    → 3 ≤ setup.quota → IsSolved (triangle_trial (world_of net setup) wakeups) triangle_bounds

-- On the triangle, whose node 2 is the black hole, agent 1 goes there and is destroyed, and then agent 0 takes its six
-- turns.
abbrev pub ThreeMovesAreMade : Type 0
ThreeMovesAreMade = verdict (triangle_trial triangle 0) (under (triangle_trial triangle 0)
    (1 ∷ 1 ∷ 1 ∷ 0 ∷ 0 ∷ 0 ∷ 0 ∷ 0 ∷ 0 ∷ [])) ≡ record { outcome = Solved; moves = 3; lost = 1 }
