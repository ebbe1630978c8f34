-- What a move makes of one connection and of its match, and what it makes of them where more bytes were fed.
use Rattle.std.proofs.Common.{◌≡◌, ◌∙◌, ℕ, zero, suc, ◌<◌, Bool, true, false, ◌||◌, nat_lt, Option, Some, None}
use Rattle.std.proofs.Common.{List, [], ◌∷◌, ◌++◌, length, map, set, refl, sym, ap, subst, if◌then◌else◌}
use Rattle.std.specs.List.{list_any}
use Rattle.std.proofs.lemmas.Bool.{ltb-true, ltb-false}
use Rattle.std.proofs.lemmas.List.{set-set, set-get_or, set_past, get_or_past, get_or-set_same}
use Rattle.bhs_wire.specs.Lines.{found_in, left_by, said_by}
use Rattle.bhs_wire.specs.declared.commands.First.{First}
use Rattle.bhs_wire.specs.declared.commands.First.TheVariants as firsts
use Rattle.bhs_setups.specs.KeyTable.{seat_at}
use Rattle.bhs_session.specs.Texts.{denial_text}
use Rattle.bhs_rehearsal.specs.Games.{Game}
use Rattle.bhs_rehearsal.specs.Connections.{Item, Says, Ends, Connection, unfed, shut, TakenItems, taken, after}
use Rattle.bhs_rehearsal.specs.Stages.{Stage, game_at, connection_at, with_game, with_connection, has_seat, EntryResult}
use Rattle.bhs_rehearsal.specs.Stages.{Waits, Sits, IsDenied, Goes, let_in, entry_by, entry, Moved, plays, shuts}
use Rattle.bhs_rehearsal.specs.Stages.{enters, moves_in, moves}
use Rattle.bhs_theorems_isolation.proofs.CuttingLemmas.{by_bool, and_then, taken-append, taken_nobody, cond_alike}
use Rattle.bhs_model.proofs.LegalLemmas.{either}

abbrev pub seat_of : Connection → Option (ℕ × ℕ)
seat_of connection = connection.seat

-- a connection that has this seat, and was fed nothing
abbrev pub bare : Option (ℕ × ℕ) → Connection
bare own = record unfed { seat = own }

-- the matches and the connection after a move, with the output
pub record Turn : Type 0 where
  pub games : List Game
  pub connection : Connection
  pub text : List ℕ

-- the stage with this connection in its place, after the move
abbrev pub placed : Stage → (conn : ℕ) → Turn → Moved
placed stage conn turn = record {
  stage = record stage { games = turn.games; connections = set stage.connections conn turn.connection };
  text = turn.text;
}

abbrev pub plays_turn : Stage → (seat : ℕ × ℕ) → Connection → Turn
plays_turn stage seat connection =
    let done = taken (game_at stage seat.0) seat.1 connection.queue in
    record {
      games = set stage.games seat.0 done.game;
      connection = after (record connection { seat = Some seat }) done;
      text = done.text;
    }

abbrev pub enters_turn : Stage → Connection → EntryResult → Turn
enters_turn stage connection Waits = record { games = stage.games; connection = connection; text = [] }
enters_turn stage connection (Sits seat) = plays_turn stage seat connection
enters_turn stage connection (IsDenied denial) =
    record { games = stage.games; connection = shut connection; text = denial_text denial }
enters_turn stage connection Goes = record { games = stage.games; connection = shut connection; text = [] }

abbrev pub turn_in : Stage → (conn : ℕ) → Connection → Option (ℕ × ℕ) → Turn
turn_in stage conn connection None = enters_turn stage connection
    (entry (with_connection stage conn connection) connection.queue)
turn_in stage conn connection (Some seat) = plays_turn stage seat connection

-- a connection keeps the seat that it plays
pub seat_after : (connection : Connection) (seat : ℕ × ℕ) (done : TakenItems)
    → (after (record connection { seat = Some seat }) done).seat ≡ Some seat
seat_after connection seat done =
    either (λ (new : Connection). new.seat ≡ Some seat) done.is_done _ _ refl refl

-- the move of a connection that stands so
abbrev pub turn_of : Stage → (conn : ℕ) → Connection → Turn
turn_of stage conn connection = turn_in stage conn connection connection.seat

-- case analysis of a turn: nothing is taken, or an agent plays
by_enters : (P : Turn → Type 0) (stage : Stage) (connection : Connection) →
    ((new : Connection) (text : List ℕ) → P (record { games = stage.games; connection = new; text = text })) →
    ((seat : ℕ × ℕ) → P (plays_turn stage seat connection)) → (how : EntryResult) → P (enters_turn stage connection how)
by_enters P stage connection stays plays Waits = stays connection []
by_enters P stage connection stays plays (Sits seat) = plays seat
by_enters P stage connection stays plays (IsDenied denial) = stays (shut connection) (denial_text denial)
by_enters P stage connection stays plays Goes = stays (shut connection) []

pub by_turn : (P : Turn → Type 0) (stage : Stage) (conn : ℕ) (connection : Connection) →
    ((new : Connection) (text : List ℕ) → P (record { games = stage.games; connection = new; text = text })) →
    ((seat : ℕ × ℕ) → P (plays_turn stage seat connection)) → (own : Option (ℕ × ℕ))
    → P (turn_in stage conn connection own)
by_turn P stage conn connection stays plays None =
    by_enters P stage connection stays plays (entry (with_connection stage conn connection) connection.queue)
by_turn P stage conn connection stays plays (Some seat) = plays seat

-- ---- it is the move

module _ (stage : Stage) (conn : ℕ) (connection : Connection) (within : conn < length stage.connections) where
  placed_at : connection_at (with_connection stage conn connection) conn ≡ connection
  placed_at = get_or-set_same stage.connections conn connection _ within

  plays-placed : (seat : ℕ × ℕ) → plays (with_connection stage conn connection) conn seat ≡ placed stage conn
      (plays_turn stage seat connection)
  plays-placed seat =
      let moved : Connection → List Connection → Moved = λ (one : Connection) (connections : List Connection). record {
        stage = record stage {
          games = set stage.games seat.0 (taken (game_at stage seat.0) seat.1 one.queue).game;
          connections = connections;
        };
        text = (taken (game_at stage seat.0) seat.1 one.queue).text;
      } in
      let new : Connection → Connection = λ (one : Connection). after (record one { seat = Some seat })
      (taken (game_at stage seat.0) seat.1 one.queue) in
      ap (λ (one : Connection). moved one (set (set stage.connections conn connection) conn (new one))) placed_at
      ∙ ap (λ (connections : List Connection). moved connection connections)
      (set-set stage.connections conn connection (new connection))

  shuts-placed : (text : List ℕ) → shuts (with_connection stage conn connection) conn text
      ≡ placed stage conn (record { games = stage.games; connection = shut connection; text = text })
  shuts-placed text =
      let moved : List Connection → Moved = λ (connections : List Connection). record
      { stage = record stage { connections = connections }; text = text } in
      ap (λ (one : Connection). moved (set (set stage.connections conn connection) conn (shut one))) placed_at
      ∙ ap moved (set-set stage.connections conn connection (shut connection))

  enters-placed : (entry : EntryResult) → enters (with_connection stage conn connection) conn entry ≡ placed stage conn
      (enters_turn stage connection entry)
  enters-placed Waits = refl
  enters-placed (Sits seat) = plays-placed seat
  enters-placed (IsDenied denial) = shuts-placed (denial_text denial)
  enters-placed Goes = shuts-placed []

  moves_in-placed : (seat : Option (ℕ × ℕ)) → moves_in (with_connection stage conn connection) conn seat ≡ placed stage
      conn (turn_in stage conn connection seat)
  moves_in-placed None =
      ap (λ (one : Connection). enters (with_connection stage conn connection) conn
      (entry (with_connection stage conn connection) one.queue)) placed_at
      ∙ enters-placed (entry (with_connection stage conn connection) connection.queue)
  moves_in-placed (Some seat) = plays-placed seat

  pub moves-placed : moves (with_connection stage conn connection) conn ≡ placed stage conn
      (turn_of stage conn connection)
  moves-placed =
      ap (λ (one : Connection). moves_in (with_connection stage conn connection) conn one.seat) placed_at
      ∙ moves_in-placed connection.seat

-- the move of the connection in its present state
pub moves_itself : (stage : Stage) (conn : ℕ) → conn < length stage.connections
    → moves stage conn ≡ placed stage conn (turn_of stage conn (connection_at stage conn))
moves_itself stage conn within =
    ap (λ (connections : List Connection). moves (record stage { connections = connections }) conn)
    (sym (set-get_or stage.connections conn unfed))
    ∙ moves-placed stage conn (connection_at stage conn) within

-- ---- more bytes

-- the connection after it was fed bytes
abbrev pub grown : Connection → (bytes : List ℕ) → Connection
grown connection bytes = record connection {
  unfinished = left_by connection.unfinished bytes;
  queue = connection.queue ++ map Says (found_in connection.unfinished bytes);
}

-- and after its input ended
abbrev pub ending : Connection → Connection
ending connection = record connection { unfinished = Some []; queue = connection.queue ++ Ends ∷ []; ended = true }

abbrev pub sent_behind : (text : List ℕ) → Turn → Turn
sent_behind text turn = record turn { text = text ++ turn.text }

-- what feeding more comes to after a turn
abbrev pub then_fed : Stage → (conn : ℕ) → Turn → (bytes : List ℕ) → Turn
then_fed stage conn turn bytes =
    if turn.connection.ended then turn
    else sent_behind turn.text (turn_of (placed stage conn turn).stage conn (grown turn.connection bytes))

-- an open connection
abbrev pub open_one : Option (ℕ × ℕ) → Option (List ℕ) → List Item → Connection
open_one seat unfinished queue = record { seat = seat; unfinished = unfinished; queue = queue; ended = false }

-- The replaced match is found at its number. A number without a match changes nothing.
pub played_at : (stage : Stage) (seat : ℕ × ℕ) (items : List Item) →
    game_at (with_game stage seat.0 (taken (game_at stage seat.0) seat.1 items).game)
    seat.0 ≡ (taken (game_at stage seat.0) seat.1 items).game
played_at stage seat items =
    let new = (taken (game_at stage seat.0) seat.1 items).game in
    by_bool (nat_lt seat.0 (length stage.games)) (λ (below : Bool). game_at (with_game stage seat.0 new) seat.0 ≡ new)
    (λ below. get_or-set_same stage.games seat.0 new _ (ltb-true seat.0 (length stage.games) below))
    (λ past_end.
    let past = ltb-false seat.0 (length stage.games) past_end in
    let nobody : (game_at stage seat.0).setup.agents ≡ 0 =
    ap (λ (game : Game). game.setup.agents) (get_or_past stage.games seat.0 _ past) in
    ap (λ (games : List Game). game_at (record stage { games = games }) seat.0) (set_past stage.games seat.0 new past)
    ∙ sym (taken_nobody (game_at stage seat.0) seat.1 items nobody))

plays_more : (stage : Stage) (conn : ℕ) (seat : ℕ × ℕ) (old : Option (ℕ × ℕ)) (unfinished : Option (List ℕ))
    (queue : List Item) (bytes : List ℕ)
    (game : Game) (is_done : Bool) (left : List Item) (text : List ℕ) →
    let done : TakenItems = record { game = game; is_done = is_done; left = left; text = text } in
    let old_one = open_one old unfinished queue in
    let whole : TakenItems = and_then done seat.1 (map Says (found_in unfinished bytes)) in
    let turn : Turn = record {
      games = set stage.games seat.0 game;
      connection = after
          (record old_one { seat = Some seat }) done;
      text = text;
    } in
    let all : Turn = record {
      games = set stage.games seat.0 whole.game;
      connection = after
          (record (grown old_one bytes) { seat = Some seat }) whole;
      text = whole.text;
    } in
    game_at (with_game stage seat.0 game) seat.0 ≡ game → all ≡ then_fed stage conn turn bytes
plays_more stage conn seat old unfinished queue bytes game true left text found = refl
plays_more stage conn seat old unfinished queue bytes game false left text found =
    let more = left ++ map Says (found_in unfinished bytes) in
    let old_one = open_one old unfinished queue in
    let turn : Game → List Game → Turn = λ (start : Game) (games : List Game). record {
      games = games;
      connection = after (record (grown old_one bytes) { seat = Some seat }) (taken start seat.1 more);
      text = text ++ (taken start seat.1 more).text;
    } in
    let games_after : Game → List Game = λ (start : Game). set stage.games seat.0 (taken start seat.1 more).game in
    ap (λ (start : Game). turn start (games_after start)) (sym found)
    ∙ ap (λ (games : List Game). turn (game_at (with_game stage seat.0 game) seat.0) games)
    (sym (set-set stage.games seat.0 game (taken (game_at (with_game stage seat.0 game) seat.0) seat.1 more).game))

plays_grown : (stage : Stage) (conn : ℕ) (seat : ℕ × ℕ) (old : Option (ℕ × ℕ)) (unfinished : Option (List ℕ))
    (queue : List Item) (bytes : List ℕ) →
    plays_turn stage seat (grown (open_one old unfinished queue) bytes) ≡ then_fed stage conn
    (plays_turn stage seat (open_one old unfinished queue)) bytes
plays_grown stage conn seat old unfinished queue bytes =
    let done = taken (game_at stage seat.0) seat.1 queue in
    ap (λ (whole : TakenItems). let turn : Turn = record {
      games = set stage.games seat.0 whole.game;
      connection = after (record (grown (open_one old unfinished queue) bytes) { seat = Some seat }) whole;
      text = whole.text;
    } in turn) (taken-append (game_at stage seat.0) seat.1 queue (map Says (found_in unfinished bytes)))
    ∙ plays_more stage conn seat old unfinished queue bytes done.game done.is_done done.left done.text
    (played_at stage seat queue)

-- ---- whom a first line lets in does not turn on the other lines

list_any-set_alike : (p : Connection → Bool) (connections : List Connection) (conn : ℕ) (one other : Connection)
    → p one ≡ p other →
    list_any p (set connections conn one) ≡ list_any p (set connections conn other)
list_any-set_alike p [] conn one other same = refl
list_any-set_alike p (first ∷ connections) zero one other same = ap (λ (is : Bool). is || list_any p connections) same
list_any-set_alike p (first ∷ connections) (suc conn) one other same =
    ap (λ (is : Bool). p first || is) (list_any-set_alike p connections conn one other same)

-- an entry is taken from the matches alone
enters_alike : (stage : Stage) (connections : List Connection) (connection : Connection) (entry : EntryResult) →
    enters_turn (record stage { connections = connections }) connection entry ≡ enters_turn stage connection entry
enters_alike stage connections connection Waits = refl
enters_alike stage connections connection (Sits seat) = refl
enters_alike stage connections connection (IsDenied denial) = refl
enters_alike stage connections connection Goes = refl

module _ (stage : Stage) (conn : ℕ) (unfinished : Option (List ℕ)) (queue : List Item) (bytes : List ℕ) where
  let_in_grown : (seat : Option (ℕ × ℕ)) →
      enters_turn stage (grown (open_one None unfinished queue) bytes)
      (let_in (with_connection stage conn (grown (open_one None unfinished queue) bytes)) seat)
      ≡ then_fed stage conn (enters_turn stage (open_one None unfinished queue)
      (let_in (with_connection stage conn (open_one None unfinished queue)) seat)) bytes
  let_in_grown None = refl
  let_in_grown (Some seat) =
      let below = nat_lt seat.0 (length stage.games) in
      let old_one = open_one None unfinished queue in
      let Grows : EntryResult → EntryResult → Type 0 = λ (how before : EntryResult).
      enters_turn stage (grown old_one bytes) how ≡ then_fed stage conn (enters_turn stage old_one before) bytes in
      cond_alike Grows below below _ _ _ _ refl
      (λ is. cond_alike Grows _ _ _ _ _ _
      (list_any-set_alike (has_seat seat) stage.connections conn (grown old_one bytes) old_one refl) (λ used. refl)
      (λ unused. plays_grown stage conn seat None unfinished queue bytes))
      (λ past. refl)

  entry_by_grown : (first : First) →
      enters_turn stage (grown (open_one None unfinished queue) bytes)
      (entry_by (with_connection stage conn (grown (open_one None unfinished queue) bytes)) first)
      ≡ then_fed stage conn (enters_turn stage (open_one None unfinished queue)
      (entry_by (with_connection stage conn (open_one None unfinished queue)) first)) bytes
  entry_by_grown (firsts.Enter key) = let_in_grown (seat_at key stage.keys)
  entry_by_grown (firsts.Tell command) = refl

enters_grown : (stage : Stage) (conn : ℕ) (unfinished : Option (List ℕ)) (queue : List Item) (bytes : List ℕ) →
    turn_of stage conn (grown (open_one None unfinished queue) bytes) ≡ then_fed stage conn
    (turn_of stage conn (open_one None unfinished queue)) bytes
enters_grown stage conn unfinished [] bytes =
    let old_one = open_one None unfinished [] in
    let more = map Says (found_in unfinished bytes) in
    ap (λ (connections : List Connection). enters_turn stage (grown old_one bytes)
    (entry (record stage { connections = connections }) more))
    (sym (set-set stage.connections conn old_one (grown old_one bytes)))
    ∙ sym (enters_alike stage (set stage.connections conn old_one) (grown old_one bytes)
    (entry (with_connection (with_connection stage conn old_one) conn (grown old_one bytes)) more))
enters_grown stage conn unfinished (Says line ∷ queue) bytes =
    entry_by_grown stage conn unfinished (Says line ∷ queue) bytes (said_by line)
enters_grown stage conn unfinished (Ends ∷ queue) bytes = refl

turn_of_open : (stage : Stage) (conn : ℕ) (seat : Option (ℕ × ℕ)) (unfinished : Option (List ℕ)) (queue : List Item)
    (bytes : List ℕ) →
    turn_of stage conn (grown (open_one seat unfinished queue) bytes) ≡ then_fed stage conn
    (turn_of stage conn (open_one seat unfinished queue)) bytes
turn_of_open stage conn None unfinished queue bytes = enters_grown stage conn unfinished queue bytes
turn_of_open stage conn (Some seat) unfinished queue bytes =
    plays_grown stage conn seat (Some seat) unfinished queue bytes

pub turn_of-grown : (stage : Stage) (conn : ℕ) (connection : Connection) (bytes : List ℕ) → connection.ended ≡ false →
    turn_of stage conn (grown connection bytes) ≡ then_fed stage conn (turn_of stage conn connection) bytes
turn_of-grown stage conn connection bytes still =
    let same : open_one connection.seat connection.unfinished connection.queue ≡ connection =
    ap (λ (ended : Bool). record connection { ended = ended }) (sym still) in
    subst (λ (one : Connection). turn_of stage conn (grown one bytes) ≡ then_fed stage conn
    (turn_of stage conn one) bytes) same
    (turn_of_open stage conn connection.seat connection.unfinished connection.queue bytes)
