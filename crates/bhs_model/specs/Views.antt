-- What an agent has met: its causal past, a tree of commands. It names no node and no agent, and holds no
-- text of a whiteboard.
use Rattle.std.specs.Prelude.{ℕ, ◌+◌, Bool, true, false, Option, if◌then◌else◌, nat_lt}
use Rattle.bhs_model.specs.declared.commands.Command.{Command}
use Rattle.bhs_model.specs.declared.commands.Command.TheVariants.{Enter, Depart, Accuse, Leave}

mutual
  -- the past of an agent, its newest step outermost
  pub data View : Type 0 where
    -- nothing has happened to it
    Start : View
    -- it said a command that was heard, and caught a glance of its node
    Told : View → Command → Glance → View
    -- it arrived at a node
    Arrived : View → Sight → View

  -- what a command shows of the node
  pub data Glance : Type 0 where
    Nothing : Glance
    Saw : Sight → Glance

  -- a node as an agent sees it: how many ports it has, the label of the link by which the agent came
  -- (None if it entered there), and what the whiteboard shows
  pub data Sight : Type 0 where
    Seen : ℕ → Option ℕ → LastWrite → Sight

  -- The last writer of a whiteboard: nobody, or an agent whose past, up to and including that write, is this one. A
  -- failed write counts.
  pub data LastWrite : Type 0 where
    Unwritten : LastWrite
    WrittenBy : View → LastWrite

-- the standing of an agent
pub data Standing : Type 0 where
  -- it has not entered
  Outside : Standing
  -- it is at a node
  Present : Standing
  -- it is on a link
  Away : Standing
  -- The agent has ended by its own command.
  Ended : Standing

-- how many ports the node has that is seen
abbrev pub ports_seen : Sight → ℕ
ports_seen (Seen ports came last_write) = ports

-- how many ports the node had that the agent saw last
abbrev pub ports : View → ℕ
ports Start = 0
ports (Told view command Nothing) = ports view
ports (Told view command (Saw sight)) = ports_seen sight
ports (Arrived view sight) = ports_seen sight

-- the standing after a heard command, at a node with this number of ports
abbrev pub standing_after : Standing → ℕ → Command → Standing
standing_after standing ports Enter = Present
standing_after standing ports Leave = Ended
standing_after Present ports (Depart port) = if nat_lt port ports then Away else Present
standing_after Present ports (Accuse port) = if nat_lt port ports then Ended else Present
standing_after standing ports command = standing

-- what the agent is doing
abbrev pub standing : View → Standing
standing Start = Outside
standing (Told view command glance) = standing_after (standing view) (ports view) command
standing (Arrived view sight) = Present

-- whether a heard command counts against the quota
abbrev pub counts : Command → Bool
counts Enter = false
counts Leave = false
counts command = true

-- how many commands the agent has used of its quota
abbrev pub used : View → ℕ
used Start = 0
used (Told view command glance) = if counts command then used view + 1 else used view
used (Arrived view sight) = used view
