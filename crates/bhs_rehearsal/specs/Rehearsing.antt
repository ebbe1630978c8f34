-- A rehearsal, and the effects of its calls.
use Rattle.std.specs.Prelude.{ℕ, ◌≡◌, ◌<◌, Bool, true, false, nat_lt, Option, Some, None, List, [], ◌∷◌}
use Rattle.std.specs.Prelude.{length, map, if◌then◌else◌, Vec, Ok, Err}
use Rattle.std.specs.declared.alloc.Global.{Global}
use Rattle.std.specs.declared.result.Result.{Result}
use Rattle.bhs_model.specs.Marks.{events_of}
use Rattle.bhs_wire.specs.Lines.{seen}
use Rattle.bhs_setups.specs.KeyTable.{Seat}
use Rattle.bhs_setups.specs.declared.lineups.Ready.{Ready}
use Rattle.bhs_setups.specs.declared.lineups.Lineup.{Lineup}
use Rattle.bhs_rehearsal.specs.Games.{Game}
use Rattle.bhs_rehearsal.specs.Connections.{Item, Says, Ends, Connection}
use Rattle.bhs_rehearsal.specs.Stages.{Stage, Instruction, Feeds, EndsInput, Draws, Delivers, Closes, begun}
use Rattle.bhs_rehearsal.specs.Stages.{step}
use Rattle.bhs_rehearsal.specs.declared.items.Item.{Item as ItemOfCode}
use Rattle.bhs_rehearsal.specs.declared.items.Item.TheVariants as items
use Rattle.bhs_rehearsal.specs.declared.outs.Out.{Out}
use Rattle.bhs_rehearsal.specs.declared.faults.RehearsalFault.{RehearsalFault}
use Rattle.bhs_rehearsal.specs.declared.faults.RehearsalFault.TheVariants.{Conn, NoGame, Memory}

-- ---- values of the code, without where they lie in memory

-- a match with its held links
abbrev pub game_of : Ready → Game
game_of ready = record {
  net = ready.game.net;
  setup = ready.game.setup;
  held = ready.held;
  log = events_of ready.game.log;
}

abbrev pub team_of : Ready → List ℕ
team_of ready = ready.team

-- an item of a connection
abbrev pub seen_item : ItemOfCode → Item
seen_item (items.Says line) = Says (seen line)
seen_item items.Ends = Ends

-- the text sent to a connection
abbrev pub seen_out : Out → ℕ × List ℕ
seen_out out = (out.conn, out.bytes.items)

-- the texts sent to at most one connection, and to several
abbrev pub sent_once : Option Out → List (ℕ × List ℕ)
sent_once None = []
sent_once (Some out) = seen_out out ∷ []

abbrev pub sent_all : Vec Out Global → List (ℕ × List ℕ)
sent_all outs = map seen_out outs.items

-- matches, keys and connections
abbrev pub stage_of : List Ready → List Seat → List Connection → Stage
stage_of ready keys connections = record { games = map game_of ready; keys = keys; connections = connections }

-- the matches of a lineup, and the initial stage of its rehearsal
abbrev pub games_of : Lineup → List Game
games_of lineup = map game_of lineup.ready.items

abbrev pub first_stage : Lineup → (conns : ℕ) → Stage
first_stage lineup conns = begun (games_of lineup) lineup.keys conns

-- ---- the value of a rehearsal

pub record Rehearsing : Type 0 where
  pub stage : Stage
  -- the names of the teams, by match
  pub teams : List (List ℕ)
  -- whether memory ran out in a call
  pub has_failed : Bool

-- a rehearsal as `new` makes it of a lineup, with this number of connections
abbrev pub made_of : Lineup → (connections : ℕ) → Rehearsing
made_of lineup connections = record {
  stage = first_stage lineup connections;
  teams = map team_of lineup.ready.items;
  has_failed = false;
}

-- where a connection plays, there is the match
abbrev pub IsSeated : (games : ℕ) → Option (ℕ × ℕ) → Type 0
IsSeated games None = Unit {0}
IsSeated games (Some seat) = seat.0 < games

-- ---- its calls

-- why an instruction names nothing: there is no such connection, or no such match
abbrev pub fault_of : Stage → Instruction → Option RehearsalFault
fault_of stage (Feeds conn bytes) = if nat_lt conn (length stage.connections) then None else Some Conn
fault_of stage (EndsInput conn) = if nat_lt conn (length stage.connections) then None else Some Conn
fault_of stage (Draws game word) = if nat_lt game (length stage.games) then None else Some NoGame
fault_of stage (Delivers game agent) = if nat_lt game (length stage.games) then None else Some NoGame
fault_of stage (Closes game) = if nat_lt game (length stage.games) then None else Some NoGame

-- the rehearsal on another stage
abbrev pub on_stage : Rehearsing → Stage → Rehearsing
on_stage old stage = record old { stage = stage }

-- a call that is carried out: it sends what the instruction sends, and leaves the stage that the instruction leaves
pub record Obeys (old : Rehearsing) (instruction : Instruction) (sent : List (ℕ × List ℕ))
    (new : Rehearsing) : Type 0 where
  pub works : old.has_failed ≡ false
  pub names : fault_of old.stage instruction ≡ None
  pub outs : sent ≡ (step old.stage instruction).outs
  pub stands : new ≡ on_stage old (step old.stage instruction).stage

-- a call that names nothing: it changes nothing
pub record Refuses (old : Rehearsing) (instruction : Instruction) (fault : RehearsalFault)
    (new : Rehearsing) : Type 0 where
  pub works : old.has_failed ≡ false
  pub names : fault_of old.stage instruction ≡ Some fault
  pub same : new ≡ old

-- What a call makes of a rehearsal. By `sent` the call's answer gives what is sent. A rehearsal that has failed, or
-- fails now for want of memory, has failed for good.
abbrev pub Follows : {T : Type 0} (sent : T → List (ℕ × List ℕ)) → Rehearsing → Instruction → Result T RehearsalFault
    → Rehearsing → Type 0
Follows sent old instruction (Ok outs) new = Obeys old instruction (sent outs) new
Follows sent old instruction (Err Conn) new = Refuses old instruction Conn new
Follows sent old instruction (Err NoGame) new = Refuses old instruction NoGame new
Follows sent old instruction (Err Memory) new = new.has_failed ≡ true
