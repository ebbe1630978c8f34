-- The laws of rehearsals, over the definitions alone.
use Rattle.std.specs.Prelude.{ℕ, ◌≡◌, ◌≢◌, ◌<◌, Bool, false, ◌||◌, ◌==◌, Option, Some, None, List, [], ◌∷◌, ◌++◌}
use Rattle.std.specs.Prelude.{length, map, if◌then◌else◌}
use Rattle.bhs_setups.specs.KeyTable.{Seat}
use Rattle.bhs_net.specs.Network.{degree_of}
use Rattle.bhs_model.specs.Worlds.{doomed}
use Rattle.bhs_model.specs.Twins.{SameButDoom, Twins}
use Rattle.bhs_deliveries.specs.Links.{held_in}
use Rattle.bhs_rehearsal.specs.Games.{Game, world_in, state_of, is_away}
use Rattle.bhs_setups.specs.declared.lineups.Lineup.{Lineup}
use Rattle.bhs_rehearsal.specs.Connections.{Connection}
use Rattle.bhs_rehearsal.specs.Rehearsing.{first_stage}
use Rattle.bhs_theorems_isolation.specs.Clients.{bytes_among, bytes_to}
use Rattle.bhs_rehearsal.specs.Stages.{Stage, game_at, connection_at, moves, Instruction, Feeds, EndsInput, Draws}
use Rattle.bhs_rehearsal.specs.Stages.{Delivers}
use Rattle.bhs_rehearsal.specs.Stages.{Closes, Stepped, nothing, sent_to, step, begun, stands_after, sends}

-- ---- scripts grow by instructions

-- One more instruction leads from the stage of the script to the next, and sends what it sends there.
pub record Grows (start : Stage) (script : List Instruction) (instruction : Instruction) : Type 0 where
  pub stands : stands_after start (script ++ instruction ∷ []) ≡ (step (stands_after start script) instruction).stage
  pub sends : sends start (script ++ instruction ∷ [])
      ≡ sends start script ++ (step (stands_after start script) instruction).outs ∷ []

abbrev pub ScriptsGrow : Type 0
ScriptsGrow = (start : Stage) (script : List Instruction) (instruction : Instruction) →
    Grows start script instruction

-- ---- cutting

-- two scripts lead to the same stage and send each connection the same bytes
pub record DoAlike (stage : Stage) (one two : List Instruction) : Type 0 where
  pub stands : stands_after stage one ≡ stands_after stage two
  pub sends : (conn : ℕ) → bytes_to conn (sends stage one) ≡ bytes_to conn (sends stage two)

-- pieces of bytes, joined
abbrev pub joined : List (List ℕ) → List ℕ
joined [] = []
joined (piece ∷ pieces) = piece ++ joined pieces

-- feeds pieces to a connection, in order
abbrev pub fed : (conn : ℕ) → List (List ℕ) → List Instruction
fed conn pieces = map (Feeds conn) pieces

-- bytes may as well be fed in two pieces
abbrev pub TwoPiecesDoAlike : Type 0
TwoPiecesDoAlike =
    (stage : Stage) (conn : ℕ) (bytes more : List ℕ) →
    DoAlike stage (Feeds conn (bytes ++ more) ∷ []) (Feeds conn bytes ∷ Feeds conn more ∷ [])

-- in a script the bytes that are fed to a connection may be cut otherwise
abbrev pub CutsDoAlike : Type 0
CutsDoAlike =
    (stage : Stage) (conn : ℕ) (earlier later : List Instruction) (piece other : List ℕ)
    (pieces others : List (List ℕ)) →
    joined (piece ∷ pieces) ≡ joined (other ∷ others) →
    DoAlike stage (earlier ++ (fed conn (piece ∷ pieces) ++ later)) (earlier ++ (fed conn (other ∷ others) ++ later))

-- ---- what an instruction leaves alone

-- whether a connection plays an agent of this match
abbrev pub plays_in : (game : ℕ) → Connection → Bool
plays_in game connection = seated connection.seat where
  seated : Option (ℕ × ℕ) → Bool
  seated None = false
  seated (Some seat) = seat.0 == game

-- nothing happens but to one connection and to the match that it plays in
pub record IsOfConnection (stage : Stage) (conn : ℕ) (new : Stepped) : Type 0 where
  pub connections : (other : ℕ) → other ≢ conn → connection_at new.stage other ≡ connection_at stage other
  pub games : (game : ℕ) → plays_in game (connection_at new.stage conn) ≡ false →
      game_at new.stage game ≡ game_at stage game
  pub keys : new.stage.keys ≡ stage.keys
  pub outs : (other : ℕ) → other ≢ conn → bytes_among other new.outs ≡ []

-- nothing happens but to one match and to the connections that play in it
pub record IsOfGame (stage : Stage) (game : ℕ) (new : Stepped) : Type 0 where
  pub games : (other : ℕ) → other ≢ game → game_at new.stage other ≡ game_at stage other
  pub connections : (conn : ℕ) → plays_in game (connection_at stage conn) ≡ false →
      connection_at new.stage conn ≡ connection_at stage conn
  pub keys : new.stage.keys ≡ stage.keys
  pub outs : (conn : ℕ) → plays_in game (connection_at stage conn) ≡ false → bytes_among conn new.outs ≡ []

-- The instructions of a client concern its connection only.
abbrev pub ClientsKeepToThemselves : Type 0
ClientsKeepToThemselves =
    (stage : Stage) (conn : ℕ) (bytes : List ℕ) →
    IsOfConnection stage conn (step stage (Feeds conn bytes)) × IsOfConnection stage conn (step stage (EndsInput conn))

-- a draw, a delivery and a close are of their match
abbrev pub MatchesKeepToThemselves : Type 0
MatchesKeepToThemselves =
    (stage : Stage) (game word agent : ℕ) →
    IsOfGame stage game (step stage (Draws game word)) × IsOfGame stage game (step stage (Closes game))
    × IsOfGame stage game (step stage (Delivers game agent))

-- ---- what is left to take

-- whether a connection's agent is on a link
abbrev pub awaits_arrival : Stage → Connection → Bool
awaits_arrival stage connection = seated connection.seat where
  seated : Option (ℕ × ℕ) → Bool
  seated None = false
  seated (Some seat) = is_away (game_at stage seat.0) seat.1

-- all items were taken but those of connections whose agents are on a link, and no two connections play one agent
pub record IsSettled (stage : Stage) : Type 0 where
  pub all_taken : (conn : ℕ) → awaits_arrival stage (connection_at stage conn) ≡ false →
      (connection_at stage conn).queue ≡ []
  pub one_each : (conn other : ℕ) (seat : ℕ × ℕ) →
      (connection_at stage conn).seat ≡ Some seat → (connection_at stage other).seat ≡ Some seat → conn ≡ other

-- an instruction leads from a settled stage to a settled one
abbrev pub SettledStagesSettle : Type 0
SettledStagesSettle = (stage : Stage) (instruction : Instruction) → IsSettled stage →
    IsSettled (step stage instruction).stage

-- The same holds for the stage after each script, from the initial stage.
abbrev pub ScriptsSettle : Type 0
ScriptsSettle =
    (games : List Game) (keys : List Seat) (connections : ℕ) (script : List Instruction) →
    IsSettled (stands_after (begun games keys connections) script)

-- in a settled stage no connection can take anything
abbrev pub SettledConnectionsRest : Type 0
SettledConnectionsRest = (stage : Stage) (conn : ℕ) → IsSettled stage →
    moves stage conn ≡ record { stage = stage; text = [] }

-- These connections, in order, take as many of their items as they can.
abbrev pub moves_in_turn : Stage → (conns : List ℕ) → Stepped
moves_in_turn stage [] = nothing stage
moves_in_turn stage (conn ∷ conns) =
    let moved = moves stage conn in
    let others = moves_in_turn moved.stage conns in
    record { stage = others.stage; outs = sent_to conn moved.text ++ others.outs }

-- so after each instruction of a script nothing more comes of taking the items of every connection in turn
abbrev pub AllItemsAreTaken : Type 0
AllItemsAreTaken =
    (games : List Game) (keys : List Seat) (connections : ℕ) (script : List Instruction) (conns : List ℕ) →
    moves_in_turn (stands_after (begun games keys connections) script) conns
    ≡ nothing (stands_after (begun games keys connections) script)

-- ---- matches side by side

-- what each connection plays
abbrev pub seats_of : Stage → List (Option (ℕ × ℕ))
seats_of stage = map (λ connection. connection.seat) stage.connections

-- two stages are the same but for a match, whatever it is and however it stands, and for what the connections that
-- play in it have sent
pub record SameBut (game : ℕ) (one two : Stage) : Type 0 where
  pub keys : one.keys ≡ two.keys
  pub count : length one.games ≡ length two.games
  pub games : (other : ℕ) → other ≢ game → game_at one other ≡ game_at two other
  pub seats : seats_of one ≡ seats_of two
  pub connections : (conn : ℕ) → plays_in game (connection_at one conn) ≡ false →
      connection_at one conn ≡ connection_at two conn

-- two scripts, each on its stage, are heard alike by the connections that do not play in the match after them, and
-- leave stages that are the same but for the match
pub record HeardAlike (game : ℕ) (one : Stage) (script : List Instruction) (two : Stage)
    (other_script : List Instruction) : Type 0 where
  pub stands : SameBut game (stands_after one script) (stands_after two other_script)
  pub sends : (conn : ℕ) → plays_in game (connection_at (stands_after one script) conn) ≡ false →
      bytes_to conn (sends one script) ≡ bytes_to conn (sends two other_script)

-- whoever plays elsewhere is sent the same, whatever the match is
abbrev pub MatchesAreHeardApart : Type 0
MatchesAreHeardApart =
    (game : ℕ) (one two : Stage) (script : List Instruction) → SameBut game one two →
    HeardAlike game one script two script

-- Whether an instruction concerns a match: a draw, a delivery, a close, or an instruction for a connection that plays
-- in it.
abbrev pub is_of_match : (game : ℕ) → Stage → Instruction → Bool
is_of_match game stage (Feeds conn bytes) = plays_in game (connection_at stage conn)
is_of_match game stage (EndsInput conn) = plays_in game (connection_at stage conn)
is_of_match game stage (Draws other word) = other == game
is_of_match game stage (Delivers other agent) = other == game
is_of_match game stage (Closes other) = other == game

-- the script without the instructions that concern a match
abbrev pub without : (game : ℕ) → Stage → List Instruction → List Instruction
without game stage [] = []
without game stage (instruction ∷ script) =
    let rest = without game (step stage instruction).stage script in
    if is_of_match game stage instruction then rest else instruction ∷ rest

-- whoever plays elsewhere is sent the same, with and without what is said and done in the match
abbrev pub OtherMatchesAreNotHeard : Type 0
OtherMatchesAreNotHeard =
    (game : ℕ) (stage : Stage) (script : List Instruction) →
    HeardAlike game stage script stage (without game stage script)

-- ---- the silence of black holes and dark links

-- these links are held where the match holds a link or destroys on it
abbrev pub HoldsAsWell : Game → (held : List (ℕ × ℕ)) → Type 0
HoldsAsWell game held =
    (node port : ℕ) → port < degree_of game.net node →
    held_in held node port ≡ (held_in game.held node port || doomed (world_in game) node port)

-- a match that stands the same, and is slow where the other one destroys: it destroys nobody, and the links that would
-- destroy are held in it as well. The logs of both meet the twin condition
pub record IsSlowFor (game slow : Game) : Type 0 where
  pub worlds : SameButDoom (world_in game) (world_in slow)
  pub harmless : (node port : ℕ) → doomed (world_in slow) node port ≡ false
  pub held_too : HoldsAsWell game slow.held
  pub stands : state_of game ≡ state_of slow
  pub twins : Twins (world_in game) game.log (world_in slow) slow.log

-- they can be held, whatever match it is
abbrev pub LinksCanBeHeld : Type 0
LinksCanBeHeld = (game : Game) → (held : List (ℕ × ℕ)) × HoldsAsWell game held

-- a match without black holes and dark links, where these links are held
abbrev pub slow_of : Game → (held : List (ℕ × ℕ)) → Game
slow_of game held = record game { setup = record game.setup { holes = []; dark = [] }; held = held }

-- a match that begins, and the same one without black holes and dark links, where those links are held as well
abbrev pub SlowMatchesBegin : Type 0
SlowMatchesBegin =
    (game : Game) (held : List (ℕ × ℕ)) → game.log ≡ [] → HoldsAsWell game held → IsSlowFor game (slow_of game held)

-- two stages are the same but for one match, which is slow in the second
pub record IsSlowStageFor (game : ℕ) (one two : Stage) : Type 0 where
  pub keys : one.keys ≡ two.keys
  pub count : length one.games ≡ length two.games
  pub there : game < length one.games
  pub games : (other : ℕ) → other ≢ game → game_at one other ≡ game_at two other
  pub slow : IsSlowFor (game_at one game) (game_at two game)
  pub connections : one.connections ≡ two.connections

-- no client can tell black holes and dark links from links that are slow: each script sends the same, instruction by
-- instruction
abbrev pub HoleSoundsSlow : Type 0
HoleSoundsSlow =
    (game : ℕ) (one two : Stage) (script : List Instruction) → IsSlowStageFor game one two →
    (sends one script ≡ sends two script) × IsSlowStageFor game (stands_after one script) (stands_after two script)

-- ---- two lineups

-- a match of a lineup, as a rehearsal begins it
abbrev pub first_game : Lineup → (game : ℕ) → Game
first_game lineup game = game_at (first_stage lineup 0) game

-- Two lineups are the same but for one match: in the second it has no black holes and no dark links, and each link
-- into a black hole, and each dark link in both directions, is held as well.
pub record IsSlowLineupFor (game : ℕ) (one two : Lineup) : Type 0 where
  pub keys : one.keys ≡ two.keys
  pub count : length one.ready.items ≡ length two.ready.items
  pub there : game < length one.ready.items
  pub begins : (first_game one game).log ≡ []
  pub games : (other : ℕ) → other ≢ game → first_game one other ≡ first_game two other
  pub slow : first_game two game ≡ slow_of (first_game one game) (first_game two game).held
  pub held_too : HoldsAsWell (first_game one game) (first_game two game).held

-- Rehearsals of both send the same, instruction by instruction, and stand alike after each.
abbrev pub SlowLineupsSoundAlike : Type 0
SlowLineupsSoundAlike =
    (game : ℕ) (one two : Lineup) (conns : ℕ) (script : List Instruction) → IsSlowLineupFor game one two →
    (sends (first_stage one conns) script ≡ sends (first_stage two conns) script)
    × IsSlowStageFor game (stands_after (first_stage one conns) script) (stands_after (first_stage two conns) script)
