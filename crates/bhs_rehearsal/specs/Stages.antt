-- A rehearsal: what a script makes of the matches and connections, and what it sends to each connection.
use Rattle.std.specs.Prelude.{ℕ, ◌+◌, Bool, true, false, ◌&&◌, ◌==◌, nat_lt, Option, Some, None, List, [], ◌∷◌}
use Rattle.std.specs.Prelude.{◌++◌, length, map, replicate, if◌then◌else◌, slice_index_or, slice_set}
use Rattle.std.specs.List.{list_any, position}
use Rattle.bhs_model.specs.declared.events.Event.{Event}
use Rattle.bhs_model.specs.declared.events.Event.TheVariants.{Deliver, Close}
use Rattle.bhs_model.specs.declared.replies.Reply.{Reply}
use Rattle.bhs_model.specs.declared.replies.Reply.TheVariants.{Over}
use Rattle.bhs_wire.specs.declared.commands.First.{First}
use Rattle.bhs_wire.specs.declared.denials.Denial.{Denial}
use Rattle.bhs_wire.specs.declared.denials.Denial.TheVariants as denials
use Rattle.bhs_wire.specs.Lines.{said_by, found_in, left_by}
use Rattle.bhs_setups.specs.KeyTable.{Seat, seat_at}
use Rattle.bhs_session.specs.Texts.{denial_text}
use Rattle.bhs_session.specs.Port.{Enters, Tells, News, Answers}
use Rattle.bhs_session.specs.Phase.{Phase, Fresh, Awaits}
use Rattle.bhs_session.specs.Machine.{Ask, Asks, Denies, Rests, ask, hear, owed_text}
use Rattle.bhs_rehearsal.specs.Games.{Game, state_of, played, reply_to, is_away, drawn, delivered}
use Rattle.bhs_rehearsal.specs.Connections.{Item, Says, Ends, Connection, unfed, shut, taken, after}

-- the matches of a rehearsal, the keys that let agents enter them, and the connections
pub record Stage : Type 0 where
  pub games : List Game
  pub keys : List Seat
  pub connections : List Connection

-- no match is there
abbrev no_game : Game
no_game = record {
  net = [];
  setup = record { home = 0; holes = []; dark = []; agents = 0; quota = 0; board = 0 };
  held = [];
  log = [];
}

-- the match of a number
abbrev pub game_at : Stage → (game : ℕ) → Game
game_at stage game = slice_index_or stage.games game no_game

-- the connection of a number
abbrev pub connection_at : Stage → (conn : ℕ) → Connection
connection_at stage conn = slice_index_or stage.connections conn unfed

-- the stage with another match, or another connection, in the place of a number
abbrev pub with_game : Stage → (game : ℕ) → Game → Stage
with_game stage game new = record stage { games = slice_set stage.games game new }

abbrev pub with_connection : Stage → (conn : ℕ) → Connection → Stage
with_connection stage conn new = record stage { connections = slice_set stage.connections conn new }

-- whether the connection plays this agent of this match
abbrev pub has_seat : (seat : ℕ × ℕ) → Connection → Bool
has_seat seat connection = sits seat connection.seat where
  sits : (seat : ℕ × ℕ) → Option (ℕ × ℕ) → Bool
  sits seat None = false
  sits seat (Some other) = (other.0 == seat.0) && (other.1 == seat.1)

-- ---- one connection's move

-- what the first item of a connection that was not let in comes to
pub data EntryResult : Type 0 where
  -- there is none
  Waits : EntryResult
  -- it is let in, to play this agent of this match
  Sits : (seat : ℕ × ℕ) → EntryResult
  -- it is denied
  IsDenied : Denial → EntryResult
  -- its input has ended
  Goes : EntryResult

-- whom a key lets in: nobody knows it, or a match of it; it was used before; or the agent is played from now on
abbrev pub let_in : Stage → Option (ℕ × ℕ) → EntryResult
let_in stage None = IsDenied denials.Key
let_in stage (Some seat) =
    if nat_lt seat.0 (length stage.games)
    then (if list_any (has_seat seat) stage.connections then IsDenied denials.Taken else Sits seat)
    else IsDenied denials.Key

-- what comes of that which a session asks for its first line. It asks for a key or denies the client: nothing else
-- comes
abbrev pub entry_of : Stage → Ask → EntryResult
entry_of stage (Asks (Enters key)) = let_in stage (seat_at key stage.keys)
entry_of stage (Asks (Tells command)) = Waits
entry_of stage (Asks News) = Waits
entry_of stage (Denies denial) = IsDenied denial
entry_of stage Rests = Waits

abbrev pub entry_by : Stage → First → EntryResult
entry_by stage first = entry_of stage (ask Fresh first)

abbrev pub entry : Stage → List Item → EntryResult
entry stage [] = Waits
entry stage (Says line ∷ items) = entry_by stage (said_by line)
entry stage (Ends ∷ items) = Goes

-- a stage, and the text that a connection gets on the way to it
pub record Moved : Type 0 where
  pub stage : Stage
  pub text : List ℕ

-- the connection's items are taken, as of one that plays this agent
abbrev pub plays : Stage → (conn : ℕ) → (seat : ℕ × ℕ) → Moved
plays stage conn seat =
    let connection = connection_at stage conn in
    let done = taken (game_at stage seat.0) seat.1 connection.queue in
    record {
      stage = with_connection (with_game stage seat.0 done.game) conn
          (after (record connection { seat = Some seat }) done);
      text = done.text;
    }

-- the connection takes no more, and is sent a text
abbrev pub shuts : Stage → (conn : ℕ) → (text : List ℕ) → Moved
shuts stage conn text = record { stage = with_connection stage conn (shut (connection_at stage conn)); text = text }

abbrev pub enters : Stage → (conn : ℕ) → EntryResult → Moved
enters stage conn Waits = record { stage = stage; text = [] }
enters stage conn (Sits seat) = plays stage conn seat
enters stage conn (IsDenied denial) = shuts stage conn (denial_text denial)
enters stage conn Goes = shuts stage conn []

abbrev pub moves_in : Stage → (conn : ℕ) → Option (ℕ × ℕ) → Moved
moves_in stage conn None = enters stage conn (entry stage (connection_at stage conn).queue)
moves_in stage conn (Some seat) = plays stage conn seat

-- A connection takes as many of its items as it can. The line that admits its agent acts as the command Enter.
abbrev pub moves : Stage → (conn : ℕ) → Moved
moves stage conn = moves_in stage conn (connection_at stage conn).seat

-- ---- scripts

-- what a script may say
pub data Instruction : Type 0 where
  -- these bytes are fed to a connection
  Feeds : (conn : ℕ) → (bytes : List ℕ) → Instruction
  -- a connection's input ends
  EndsInput : (conn : ℕ) → Instruction
  -- a word is drawn in a match
  Draws : (game word : ℕ) → Instruction
  -- an agent of a match is delivered, unless its link is held
  Delivers : (game agent : ℕ) → Instruction
  -- a match is ended
  Closes : (game : ℕ) → Instruction

-- the stage after an instruction, and the texts sent, each with the number of its connection
pub record Stepped : Type 0 where
  pub stage : Stage
  pub outs : List (ℕ × List ℕ)

-- nothing is sent if there is no text
abbrev pub sent_to : (conn : ℕ) → (text : List ℕ) → List (ℕ × List ℕ)
sent_to conn [] = []
sent_to conn (byte ∷ text) = (conn, byte ∷ text) ∷ []

abbrev pub stepped : (conn : ℕ) → Moved → Stepped
stepped conn moved = record { stage = moved.stage; outs = sent_to conn moved.text }

abbrev pub nothing : Stage → Stepped
nothing stage = record { stage = stage; outs = [] }

-- bytes for a connection whose input has ended are not looked at
abbrev pub feeds : Stage → (conn : ℕ) → (bytes : List ℕ) → Stepped
feeds stage conn bytes =
    let connection = connection_at stage conn in
    if connection.ended then nothing stage
    else stepped conn (moves (with_connection stage conn (record connection {
      unfinished = left_by connection.unfinished bytes;
      queue = connection.queue ++ map Says (found_in connection.unfinished bytes);
    })) conn)

-- an unfinished line is no line
abbrev pub ends : Stage → (conn : ℕ) → Stepped
ends stage conn =
    let connection = connection_at stage conn in
    if connection.ended then nothing stage
    else stepped conn (moves (with_connection stage conn (record connection {
      unfinished = Some [];
      queue = connection.queue ++ Ends ∷ [];
      ended = true;
    })) conn)

-- where news lead the machine of a session
abbrev pub news : Reply → Phase
news reply = hear Awaits (Answers reply)

-- Reports an arrival to the agent's connection, which then takes as many of its items as it can.
abbrev pub tells_arrival : Stage → Option Reply → Option ℕ → Stepped
tells_arrival stage None holder = nothing stage
tells_arrival stage (Some reply) None = nothing stage
tells_arrival stage (Some reply) (Some conn) =
    let moved = moves stage conn in
    record { stage = moved.stage; outs = sent_to conn (owed_text (news reply) ++ moved.text) }

abbrev pub delivers : Stage → (game : ℕ) → Option Event → Stepped
delivers stage game (Some (Deliver agent)) =
    tells_arrival (with_game stage game (played (game_at stage game) (Deliver agent)))
    (reply_to (game_at stage game) (Deliver agent)) (position (has_seat (game, agent)) stage.connections)
delivers stage game event = nothing stage

-- whether a connection waits for its agent to arrive in this match
abbrev pub waits_in : (number : ℕ) → Game → Connection → Bool
waits_in number game connection = waits connection.seat where
  waits : Option (ℕ × ℕ) → Bool
  waits None = false
  waits (Some seat) = (seat.0 == number) && is_away game seat.1

-- the connections after a match's end; waiting ones are closed
abbrev pub shut_in : (number : ℕ) → Game → List Connection → List Connection
shut_in number game connections =
    map (λ connection. if waits_in number game connection then shut connection else connection) connections

-- each that waited is told, in order of connection
abbrev pub told_over : (number : ℕ) → Game → (conn : ℕ) → List Connection → List (ℕ × List ℕ)
told_over number game conn [] = []
told_over number game conn (connection ∷ others) =
    (if waits_in number game connection then sent_to conn (owed_text (news Over)) else [])
    ++ told_over number game (conn + 1) others

-- only the first close does something
abbrev pub closes : Stage → (game : ℕ) → Stepped
closes stage game =
    let old = game_at stage game in
    if (state_of old).closed then nothing stage
    else record {
      stage = record (with_game stage game (played old Close)) { connections = shut_in game old stage.connections };
      outs = told_over game old 0 stage.connections;
    }

-- An instruction with the number of no connection or match has no effect.
abbrev pub step : Stage → Instruction → Stepped
step stage (Feeds conn bytes) = if nat_lt conn (length stage.connections) then feeds stage conn bytes else nothing stage
step stage (EndsInput conn) = if nat_lt conn (length stage.connections) then ends stage conn else nothing stage
step stage (Draws game word) =
    if nat_lt game (length stage.games) then delivers stage game (drawn (game_at stage game) word) else nothing stage
step stage (Delivers game agent) =
    if nat_lt game (length stage.games) then delivers stage game (delivered (game_at stage game) agent)
    else nothing stage
step stage (Closes game) = if nat_lt game (length stage.games) then closes stage game else nothing stage

-- how a rehearsal begins
abbrev pub begun : (games : List Game) → (keys : List Seat) → (connections : ℕ) → Stage
begun games keys connections = record { games = games; keys = keys; connections = replicate connections unfed }

-- the stage after a script
abbrev pub stands_after : Stage → List Instruction → Stage
stands_after stage [] = stage
stands_after stage (instruction ∷ script) = stands_after (step stage instruction).stage script

-- what a script sends: of each instruction the texts, each with the number of its connection
abbrev pub sends : Stage → List Instruction → List (List (ℕ × List ℕ))
sends stage [] = []
sends stage (instruction ∷ script) =
    (step stage instruction).outs ∷ sends (step stage instruction).stage script
