-- What an agent is answered: a function of its past, of its quota and of how much a whiteboard holds.
use Rattle.std.specs.Prelude.{ℕ, Bool, true, false, Option, Some, None, List, [], ◌++◌, length, if◌then◌else◌, nat_lt}
use Rattle.std.specs.Prelude.{nat_le, bytes_eq, option_to_list}
use Rattle.bhs_model.specs.declared.commands.Command.{Command}
use Rattle.bhs_model.specs.declared.commands.Command.TheVariants.{Enter, Write, Depart, Accuse, Leave, Bad}
use Rattle.bhs_model.specs.declared.replies.Reply.{Reply}
use Rattle.bhs_model.specs.declared.replies.Reply.TheVariants.{Here, Written, Changed, Gone, Noted, Bye, No}
use Rattle.bhs_model.specs.declared.replies.Why.{Why}
use Rattle.bhs_model.specs.declared.replies.Why.TheVariants.{Outside as NotEntered, Twice, Ended as HasEnded, Spent}
use Rattle.bhs_model.specs.declared.replies.Why.TheVariants.{Away as OnLink, Line, Port, Long}
use Rattle.bhs_model.specs.Views.{View, Start, Told, Arrived, Glance, Nothing, Saw, Sight, Seen, LastWrite, Unwritten}
use Rattle.bhs_model.specs.Views.{WrittenBy, Standing, Outside, Away, Ended, ports, standing, used}

-- what a whiteboard shows after a write: the new text, where it showed the expected one and the new one
-- fits; else what it showed
abbrev pub swapped : (limit : ℕ) → (shown expect put : List ℕ) → List ℕ
swapped limit shown expect put =
    if nat_le (length put) limit then (if bytes_eq shown expect then put else shown) else shown

abbrev mutual
  -- what a whiteboard shows: nothing, or what its last write left
  pub text : (limit : ℕ) → LastWrite → List ℕ
  text limit Unwritten = []
  text limit (WrittenBy view) = text_left limit view

  -- what is left on the whiteboard by a past that ends in a write
  pub text_left : (limit : ℕ) → View → List ℕ
  text_left limit (Told view (Write expect put) (Saw (Seen ports came last_write))) =
      swapped limit (text limit last_write) expect put
  text_left limit view = []

-- "you are here"
abbrev pub here : (limit : ℕ) → Sight → Reply
here limit (Seen ports came last_write) = Here ports came (text limit last_write)

-- the answer to a write on a whiteboard that shows this text
abbrev pub write_answer : (limit : ℕ) → (shown expect put : List ℕ) → Reply
write_answer limit shown expect put =
    if nat_le (length put) limit then (if bytes_eq shown expect then Written else Changed shown) else No Long

-- the answer to a command that looks at the node. Only an agent that is on a link sees nothing.
abbrev pub sight_answer : (limit : ℕ) → Command → Glance → Reply
sight_answer limit (Write expect put) (Saw (Seen ports came last_write)) =
    write_answer limit (text limit last_write) expect put
sight_answer limit command (Saw sight) = here limit sight
sight_answer limit command Nothing = No OnLink

-- the answer to a heard command, by the standing before it, how many ports the node has, and the glance
abbrev pub answer : (limit : ℕ) → Standing → ℕ → Command → Glance → Reply
answer limit standing ports Leave glance = Bye
answer limit Away ports command glance = No OnLink
answer limit standing ports Bad glance = No Line
answer limit standing ports (Depart port) glance = if nat_lt port ports then Gone else No Port
answer limit standing ports (Accuse port) glance = if nat_lt port ports then Noted else No Port
answer limit standing ports command glance = sight_answer limit command glance

-- the reply to the newest step of a past
abbrev pub rep : (limit : ℕ) → View → Option Reply
rep limit Start = None
rep limit (Told view command glance) = Some (answer limit (standing view) (ports view) command glance)
rep limit (Arrived view sight) = Some (here limit sight)

-- the replies to all steps of a past, oldest first
abbrev pub reps : (limit : ℕ) → View → List Reply
reps limit Start = []
reps limit (Told view command glance) =
    reps limit view ++ option_to_list (rep limit (Told view command glance))
reps limit (Arrived view sight) = reps limit view ++ option_to_list (rep limit (Arrived view sight))

-- whether an agent in this standing is heard; room says that its quota is not used up
abbrev pub accepts : Standing → (room : Bool) → Command → Bool
accepts Outside room Enter = true
accepts Outside room command = false
accepts Ended room command = false
accepts standing room Enter = false
accepts standing room Leave = true
accepts standing room command = room

-- whether an agent with this past is heard
abbrev pub hears : (quota : ℕ) → View → Command → Bool
hears quota view command = accepts (standing view) (nat_lt (used view) quota) command

-- the reason to refuse a command of an agent with this standing
abbrev pub refusal : Standing → Command → Why
refusal Outside command = NotEntered
refusal standing Enter = Twice
refusal Ended command = HasEnded
refusal standing command = Spent
