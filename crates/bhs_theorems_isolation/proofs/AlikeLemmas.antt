-- Simulation between two stages that differ in one match, for each instruction. The state of that match in both stages,
-- and which connections are compared, are parameters: a compared connection is equal in both stages and gets equal
-- output.
use Rattle.std.proofs.Common.{◌≡◌, ◌≢◌, ◌∙◌, ℕ, zero, suc, ◌+◌, ◌<◌, Bool, not, ◌&&◌, ◌||◌, cond, nat_lt}
use Rattle.std.proofs.Common.{◌==◌, Option, Some, None, List, [], ◌∷◌, ◌++◌, length, map, set, get_or, refl, sym, ap}
use Rattle.std.proofs.Common.{ap₂, subst, subst₂, arith}
use Rattle.std.specs.List.{list_any, prefix_len, position}
use Rattle.std.proofs.lemmas.Bool.{ltb-true}
use Rattle.std.proofs.lemmas.List.{get_or-set_same, length-set, length-map, map-set}
use Rattle.std.proofs.lemmas.List.Quantifiers.{position-Some}
use Rattle.bhs_model.specs.declared.events.Event.{Event}
use Rattle.bhs_model.specs.declared.events.Event.TheVariants.{Tell, Deliver, Close}
use Rattle.bhs_model.specs.declared.replies.Reply.{Reply}
use Rattle.bhs_model.specs.declared.replies.Reply.TheVariants.{Over}
use Rattle.bhs_wire.specs.Lines.{said_by}
use Rattle.bhs_wire.specs.declared.commands.First.{First}
use Rattle.bhs_wire.specs.declared.commands.First.TheVariants as firsts
use Rattle.bhs_wire.specs.declared.denials.Denial.TheVariants as denials
use Rattle.bhs_setups.specs.KeyTable.{Seat, seat_at}
use Rattle.bhs_session.specs.Texts.{text_of, denial_text}
use Rattle.bhs_rehearsal.specs.Games.{Game, state_of, played, reply_to, is_away}
use Rattle.bhs_rehearsal.specs.Connections.{Item, Says, Ends, Connection, unfed, shut, TakenItems, taken}
use Rattle.bhs_rehearsal.specs.Stages.{Stage, game_at, connection_at, with_game, with_connection, has_seat, EntryResult}
use Rattle.bhs_rehearsal.specs.Stages.{Waits, Sits, IsDenied, Goes, let_in, entry_by, entry, Moved, moves, Closes}
use Rattle.bhs_rehearsal.specs.Stages.{Stepped, sent_to, stepped, nothing, tells_arrival, delivers, waits_in, told_over}
use Rattle.bhs_rehearsal.specs.Stages.{step}
use Rattle.bhs_theorems_isolation.specs.ScriptLaws.{seats_of}
use Rattle.bhs_theorems_isolation.specs.Clients.{bytes_among}
use Rattle.bhs_theorems_isolation.proofs.CuttingLemmas.{by_same, cond_alike}
use Rattle.bhs_theorems_isolation.proofs.TurnLemmas.{Turn, placed, plays_turn, enters_turn, turn_in, turn_of}
use Rattle.bhs_theorems_isolation.proofs.TurnLemmas.{moves-placed}
use Rattle.bhs_theorems_isolation.proofs.TurnLemmas.{moves_itself, bare, seat_of, seat_after}
use Rattle.bhs_theorems_isolation.proofs.ApartLemmas.{sent_elsewhere, shut_if, shut_at, seat-shut_if, seats_shut}
use Rattle.bhs_theorems_isolation.proofs.StepCases.{client_step, seat-has_seat, event_step, close_step}

-- ---- what seats alone decide

by_seats : {A : Type 0} (f : List Connection → A)
    → ((connections : List Connection) → f connections ≡ f (map bare (map seat_of connections))) →
    (one two : List Connection) → map seat_of one ≡ map seat_of two → f one ≡ f two
by_seats f seats_do one two same =
    seats_do one ∙ ap (λ (seats : List (Option (ℕ × ℕ))). f (map bare seats)) same ∙ sym (seats_do two)

list_any-bare : (seat : ℕ × ℕ) (connections : List Connection)
    → list_any (has_seat seat) connections ≡ list_any (has_seat seat) (map bare (map seat_of connections))
list_any-bare seat [] = refl
list_any-bare seat (connection ∷ connections) =
    ap (λ (rest : Bool). has_seat seat connection || rest) (list_any-bare seat connections)

prefix_len-bare : (seat : ℕ × ℕ) (connections : List Connection) →
    prefix_len (λ (connection : Connection). not (has_seat seat connection)) connections ≡ prefix_len
    (λ (connection : Connection). not (has_seat seat connection)) (map bare (map seat_of connections))
prefix_len-bare seat [] = refl
prefix_len-bare seat (connection ∷ connections) =
    ap (λ (rest : ℕ). cond (not (has_seat seat connection)) (1 + rest) 0) (prefix_len-bare seat connections)

position-bare : (seat : ℕ × ℕ) (connections : List Connection)
    → position (has_seat seat) connections ≡ position (has_seat seat) (map bare (map seat_of connections))
position-bare seat connections =
    ap₂ (λ (place count : ℕ). cond (nat_lt place count) (Some place) None) (prefix_len-bare seat connections)
    (sym (length-map (map seat_of connections) bare ∙ length-map connections seat_of))

told-bare : (number : ℕ) (game : Game) (conn : ℕ) (connections : List Connection) →
    told_over number game conn connections ≡ told_over number game conn (map bare (map seat_of connections))
told-bare number game conn [] = refl
told-bare number game conn (connection ∷ connections) =
    ap (λ (rest : List (ℕ × List ℕ)). cond (waits_in number game connection) (sent_to conn (text_of Over)) [] ++ rest)
    (told-bare number game (conn + 1) connections)

pub count_by_seats : (one two : List Connection) → map seat_of one ≡ map seat_of two → length one ≡ length two
count_by_seats one two same = sym (length-map one seat_of) ∙ ap length same ∙ length-map two seat_of

let_in_alike : (one two : Stage) → length one.games ≡ length two.games → seats_of one ≡ seats_of two
    → (seat : Option (ℕ × ℕ)) → let_in one seat ≡ let_in two seat
let_in_alike one two count seats None = refl
let_in_alike one two count seats (Some seat) =
    ap₂ (λ (below used : Bool). cond below (cond used (IsDenied denials.Taken) (Sits seat)) (IsDenied denials.Key))
    (ap (nat_lt seat.0) count)
    (by_seats (list_any (has_seat seat)) (list_any-bare seat) one.connections two.connections seats)

entry_by_alike : (one two : Stage) → one.keys ≡ two.keys → length one.games ≡ length two.games
    → seats_of one ≡ seats_of two → (first : First) → entry_by one first ≡ entry_by two first
entry_by_alike one two keys count seats (firsts.Enter key) =
    ap (λ (known : List Seat). let_in one (seat_at key known)) keys
    ∙ let_in_alike one two count seats (seat_at key two.keys)
entry_by_alike one two keys count seats (firsts.Tell command) = refl

entry_alike : (one two : Stage) → one.keys ≡ two.keys → length one.games ≡ length two.games
    → seats_of one ≡ seats_of two → (items : List Item) → entry one items ≡ entry two items
entry_alike one two keys count seats [] = refl
entry_alike one two keys count seats (Says line ∷ items) = entry_by_alike one two keys count seats (said_by line)
entry_alike one two keys count seats (Ends ∷ items) = refl

-- ---- who waits, in matches in which the same agents are on a link

waits_by : (number : ℕ) (one two : Game) → ((agent : ℕ) → is_away one agent ≡ is_away two agent)
    → (own : Option (ℕ × ℕ)) → waits_in number one (bare own) ≡ waits_in number two (bare own)
waits_by number one two away None = refl
waits_by number one two away (Some seat) = ap (λ (is : Bool). (seat.0 == number) && is) (away seat.1)

told_alike : (number : ℕ) (one two : Game) → ((agent : ℕ) → is_away one agent ≡ is_away two agent)
    → (conn : ℕ) (connections : List Connection) →
    told_over number one conn connections ≡ told_over number two conn connections
told_alike number one two away conn [] = refl
told_alike number one two away conn (connection ∷ connections) =
    ap₂ (λ (waits : Bool) (others : List (ℕ × List ℕ)). cond waits (sent_to conn (text_of Over)) [] ++ others)
    (waits_by number one two away connection.seat) (told_alike number one two away (conn + 1) connections)

-- ---- one place of two lists

-- A relation between two lists, place by place, is preserved when both lists change at one place, if the new items are
-- related.
set_both : {A : Type 0} (P : ℕ → A → A → Type 0) (one two : List A) (none : A) (place : ℕ) (new other : A)
    → length one ≡ length two → ((k : ℕ) → P k (get_or one k none) (get_or two k none)) → P place new other →
    (k : ℕ) → P k (get_or (set one place new) k none) (get_or (set two place other) k none)
set_both P [] [] none place new other count all here k = all k
set_both P [] (second ∷ two) none place new other count all here k = absurd (omega arith)
set_both P (first ∷ one) [] none place new other count all here k = absurd (omega arith)
set_both P (first ∷ one) (second ∷ two) none zero new other count all here zero = here
set_both P (first ∷ one) (second ∷ two) none zero new other count all here (suc k) = all (suc k)
set_both P (first ∷ one) (second ∷ two) none (suc place) new other count all here zero = all zero
set_both P (first ∷ one) (second ∷ two) none (suc place) new other count all here (suc k) =
    set_both (λ (later : ℕ). P (suc later)) one two none place new other (omega arith) (λ later. all (suc later)) here k

-- ---- what is alike

-- the match with this number in a list
abbrev pub game_in : List Game → (game : ℕ) → Game
game_in games game = game_at (record { games = games; keys = []; connections = [] }) game

-- what taking comes to in two matches. If the connection is heard, the same is left and sent
pub record TakenAlike (Match : Game → Game → Type 0) (IsHeard : Type 0) (one two : TakenItems) : Type 0 where
  pub game : Match one.game two.game
  pub same : IsHeard → (one.is_done ≡ two.is_done) × (one.left ≡ two.left) × (one.text ≡ two.text)

-- The permitted difference of two stages with equally many matches: the states of one match, and the agents that play
-- in it. Which of these agents' connections are compared is a parameter; connections elsewhere are always compared. The
-- difference is preserved when lines are taken.
pub record Difference : Type 1 where
  pub total : ℕ
  pub game : ℕ
  pub Match : Game → Game → Type 0
  pub Heard : Option (ℕ × ℕ) → Type 0
  pub outside : Heard None
  pub elsewhere : (seat : ℕ × ℕ) → seat.0 ≢ game → Heard (Some seat)
  pub takes : (agent : ℕ) (one two : Game) (items : List Item) → Match one two
      → TakenAlike Match (Heard (Some (game, agent))) (taken one agent items) (taken two agent items)

-- two matches of a number
pub record GamesAlike (by : Difference) (number : ℕ) (one two : Game) : Type 0 where
  pub other : number ≢ by.game → one ≡ two
  pub itself : number ≡ by.game → by.Match one two

pub record StagesAlike (by : Difference) (one two : Stage) : Type 0 where
  pub keys : one.keys ≡ two.keys
  pub count : length one.games ≡ by.total
  pub other_count : length two.games ≡ by.total
  pub games : (number : ℕ) → GamesAlike by number (game_at one number) (game_at two number)
  pub seats : seats_of one ≡ seats_of two
  pub connections : (conn : ℕ) → by.Heard (connection_at one conn).seat
      → connection_at one conn ≡ connection_at two conn

-- two moves of one connection, on the two stages
record TurnsAlike (by : Difference) (one two : Turn) : Type 0 where
  count : length one.games ≡ by.total
  other_count : length two.games ≡ by.total
  games : (number : ℕ) → GamesAlike by number (game_in one.games number) (game_in two.games number)
  seat : one.connection.seat ≡ two.connection.seat
  same : by.Heard one.connection.seat → (one.connection ≡ two.connection) × (one.text ≡ two.text)

-- two steps. If everyone is heard, they send the same
pub record StepsAlike (by : Difference) (one two : Stepped) : Type 0 where
  pub stage : StagesAlike by one.stage two.stage
  pub outs : (conn : ℕ) → by.Heard (connection_at one.stage conn).seat
      → bytes_among conn one.outs ≡ bytes_among conn two.outs
  pub all : ((seat : Option (ℕ × ℕ)) → by.Heard seat) → one.outs ≡ two.outs

pub games_apart : (by : Difference) (number : ℕ) (one two : Game) → number ≢ by.game → one ≡ two
    → GamesAlike by number one two
games_apart by number one two apart same = record { other = λ again. same; itself = λ here. absurd (apart here) }

pub games_here : (by : Difference) (number : ℕ) (one two : Game) → number ≡ by.game → by.Match one two
    → GamesAlike by number one two
games_here by number one two here alike = record { other = λ apart. absurd (apart here); itself = λ again. alike }

-- ---- turns and steps

module _ (by : Difference) (one two : Stage) (are : StagesAlike by one two) where
  same_games : length one.games ≡ length two.games
  same_games = are.count ∙ sym are.other_count

  same_count : length one.connections ≡ length two.connections
  same_count = count_by_seats one.connections two.connections are.seats

  taken_alike : (seat : ℕ × ℕ) (first second : Game) (items : List Item) → GamesAlike by seat.0 first second →
      TakenAlike (GamesAlike by seat.0) (by.Heard (Some seat)) (taken first seat.1 items)
      (taken second seat.1 items)
  taken_alike seat first second items alike =
      by_same seat.0 by.game
      (λ here.
      let done = by.takes seat.1 first second items (alike.itself here) in
      record {
        game = games_here by seat.0 _ _ here done.game;
        same = λ heard. done.same (subst by.Heard (ap (λ (number : ℕ). Some (number, seat.1)) here) heard);
      })
      (λ apart.
      subst (λ (other : Game). TakenAlike (GamesAlike by seat.0) (by.Heard (Some seat)) (taken first seat.1 items)
      (taken other seat.1 items)) (alike.other apart)
      (record { game = games_apart by seat.0 _ _ apart refl; same = λ heard. (refl, refl, refl) }))

  plays_alike : (seat : ℕ × ℕ) (connection : Connection)
      → TurnsAlike by (plays_turn one seat connection) (plays_turn two seat connection)
  plays_alike seat connection =
      let mine : Connection = record connection { seat = Some seat } in
      let done = taken (game_at one seat.0) seat.1 connection.queue in
      let other = taken (game_at two seat.0) seat.1 connection.queue in
      let alike = taken_alike seat (game_at one seat.0) (game_at two seat.0) connection.queue (are.games seat.0) in
      record {
        count = length-set one.games seat.0 done.game ∙ are.count;
        other_count = length-set two.games seat.0 other.game ∙ are.other_count;
        games = set_both (GamesAlike by) one.games two.games _ seat.0 done.game other.game same_games are.games
            alike.game;
        seat = seat_after connection seat done ∙ sym (seat_after connection seat other);
        same = λ heard.
            let same = alike.same (subst by.Heard (seat_after connection seat done) heard) in (
              ap₂ (λ (is_done : Bool) (left : List Item). cond is_done (shut mine) (record mine { queue = left }))
                  same.0 same.1,
              same.2,
            );
      }

  stays_alike : (new : Connection) (text : List ℕ) → TurnsAlike by
      (record { games = one.games; connection = new; text = text })
      (record { games = two.games; connection = new; text = text })
  stays_alike new text =
      record {
        count = are.count;
        other_count = are.other_count;
        games = are.games;
        seat = refl;
        same = λ heard. (refl, refl);
      }

  enters_alike : (connection : Connection) (how : EntryResult)
      → TurnsAlike by (enters_turn one connection how) (enters_turn two connection how)
  enters_alike connection Waits = stays_alike connection []
  enters_alike connection (Sits seat) = plays_alike seat connection
  enters_alike connection (IsDenied denial) = stays_alike (shut connection) (denial_text denial)
  enters_alike connection Goes = stays_alike (shut connection) []

  turn_in_alike : (conn : ℕ) (connection : Connection) (own : Option (ℕ × ℕ))
      → TurnsAlike by (turn_in one conn connection own) (turn_in two conn connection own)
  turn_in_alike conn connection None =
      let seats : seats_of (with_connection one conn connection) ≡ seats_of (with_connection two conn connection) =
      map-set seat_of one.connections conn connection
      ∙ ap (λ (all : List (Option (ℕ × ℕ))). set all conn connection.seat) are.seats
      ∙ sym (map-set seat_of two.connections conn connection) in
      let how = entry (with_connection one conn connection) connection.queue in
      subst (λ (other : EntryResult). TurnsAlike by (enters_turn one connection how)
      (enters_turn two connection other))
      (entry_alike (with_connection one conn connection) (with_connection two conn connection) are.keys same_games seats
      connection.queue) (enters_alike connection how)
  turn_in_alike conn connection (Some seat) = plays_alike seat connection

  pub nothing_alike : StepsAlike by (nothing one) (nothing two)
  nothing_alike = record { stage = are; outs = λ conn heard. refl; all = λ every. refl }

  -- the connection in its place after its move, with the same text before what is sent
  placed_alike : (conn : ℕ) (connection : Connection) (before : List ℕ) → conn < length one.connections →
      let turn = turn_of one conn connection in
      let other_turn = turn_of two conn connection in
      StepsAlike by
      (record { stage = (placed one conn turn).stage; outs = sent_to conn (before ++ turn.text) })
      (record { stage = (placed two conn other_turn).stage; outs = sent_to conn (before ++ other_turn.text) })
  placed_alike conn connection before within =
      let turn = turn_of one conn connection in
      let other_turn = turn_of two conn connection in
      let turns = turn_in_alike conn connection connection.seat in
      record {
        stage = record {
          keys = are.keys;
          count = turns.count;
          other_count = turns.other_count;
          games = turns.games;
          seats = map-set seat_of one.connections conn turn.connection
              ∙ ap₂ (λ (seats : List (Option (ℕ × ℕ))) (own : Option (ℕ × ℕ)). set seats conn own) are.seats turns.seat
              ∙ sym (map-set seat_of two.connections conn other_turn.connection);
          connections = set_both (λ (place : ℕ) (first second : Connection). by.Heard first.seat → first ≡ second)
              one.connections two.connections unfed conn turn.connection other_turn.connection same_count
              are.connections (λ heard. (turns.same heard).0);
        };
        outs = λ other heard.
            by_same other conn
            (λ here.
            let mine : connection_at (placed one conn turn).stage other ≡ turn.connection =
            ap (λ (place : ℕ). connection_at (placed one conn turn).stage place) here
            ∙ get_or-set_same one.connections conn turn.connection unfed within in
            ap (λ (text : List ℕ). bytes_among other (sent_to conn (before ++ text)))
            (turns.same (subst (λ (it : Connection). by.Heard it.seat) mine heard)).1)
            (λ apart. sent_elsewhere other conn (before ++ turn.text) apart
            ∙ sym (sent_elsewhere other conn (before ++ other_turn.text) apart));
        all = λ every. ap (λ (text : List ℕ). sent_to conn (before ++ text))
            (turns.same (every turn.connection.seat)).1;
      }

  -- ---- a client that is heard

  client_at : (conn : ℕ) (new : Connection) (ended : Bool)
      → StepsAlike by (client_step one conn new ended) (client_step two conn new ended)
  client_at conn new ended =
      cond_alike (StepsAlike by) (nat_lt conn (length one.connections)) (nat_lt conn (length two.connections)) _ _ _ _
      (ap (nat_lt conn) same_count)
      (λ below. cond_alike (StepsAlike by) ended ended _ _ _ _ refl (λ is. nothing_alike) (λ goes_on.
      let within = ltb-true conn (length one.connections) below in
      subst (λ (moved : Moved). StepsAlike by (stepped conn (moves (with_connection one conn new) conn))
      (stepped conn moved))
      (sym (moves-placed two conn new (subst (λ (count : ℕ). conn < count) same_count within)))
      (subst (λ (moved : Moved). StepsAlike by (stepped conn moved)
      (stepped conn (placed two conn (turn_of two conn new)))) (sym (moves-placed one conn new within))
      (placed_alike conn new [] within))))
      (λ past. nothing_alike)

  pub client_alike : (conn : ℕ) (feeds : Connection → Connection) → by.Heard (connection_at one conn).seat →
      StepsAlike by
      (client_step one conn (feeds (connection_at one conn)) (connection_at one conn).ended)
      (client_step two conn (feeds (connection_at two conn)) (connection_at two conn).ended)
  client_alike conn feeds heard =
      let old = connection_at one conn in
      subst (λ (it : Connection). StepsAlike by (client_step one conn (feeds old) old.ended)
      (client_step two conn (feeds it) it.ended)) (are.connections conn heard) (client_at conn (feeds old) old.ended)

  -- ---- an arrival

  pub put_alike : (number : ℕ) (new other : Game) → GamesAlike by number new other
      → StagesAlike by (with_game one number new) (with_game two number other)
  put_alike number new other alike = record {
    keys = are.keys;
    count = length-set one.games number new ∙ are.count;
    other_count = length-set two.games number other ∙ are.other_count;
    games = set_both (GamesAlike by) one.games two.games _ number new other same_games are.games alike;
    seats = are.seats;
    connections = are.connections;
  }

  -- The report goes to a compared connection.
  told_arrival : (reply : Option Reply) (holder : Option ℕ) → ((conn : ℕ) → holder ≡ Some conn
      → (conn < length one.connections) × by.Heard (connection_at one conn).seat) →
      StepsAlike by (tells_arrival one reply holder) (tells_arrival two reply holder)
  told_arrival None holder holds = nothing_alike
  told_arrival (Some reply) None holds = nothing_alike
  told_arrival (Some reply) (Some conn) holds =
      let within = (holds conn refl).0 in
      let old = connection_at one conn in
      let tells : Moved → Stepped = λ (moved : Moved). record
      { stage = moved.stage; outs = sent_to conn (text_of reply ++ moved.text) } in
      let second : moves two conn ≡ placed two conn (turn_of two conn old) =
      moves_itself two conn (subst (λ (count : ℕ). conn < count) same_count within)
      ∙ ap (λ (it : Connection). placed two conn (turn_of two conn it)) (sym (are.connections conn (holds conn refl).1))
      in
      subst (λ (moved : Moved). StepsAlike by (tells (moves one conn)) (tells moved)) (sym second)
      (subst (λ (moved : Moved). StepsAlike by (tells moved)
      (tells (placed two conn (turn_of two conn old)))) (sym (moves_itself one conn within))
      (placed_alike conn old (text_of reply) within))

module _ (by : Difference) (one two : Stage) (are : StagesAlike by one two) where
  -- the same event, of another match or where it comes to the same in both
  pub delivers_alike : (number : ℕ) (event : Option Event) →
      ((agent : ℕ) → by.Heard (Some (number, agent))) →
      ((agent : ℕ) → event ≡ Some (Deliver agent) → let old = game_at one number in let other = game_at two number in
      GamesAlike by number (played old (Deliver agent)) (played other (Deliver agent))
      × (reply_to old (Deliver agent) ≡ reply_to other (Deliver agent))) →
      StepsAlike by (delivers one number event) (delivers two number event)
  delivers_alike number None heard alike = nothing_alike by one two are
  delivers_alike number (Some (Tell agent command)) heard alike = nothing_alike by one two are
  delivers_alike number (Some Close) heard alike = nothing_alike by one two are
  delivers_alike number (Some (Deliver agent)) heard alike =
      let old = game_at one number in
      let other = game_at two number in
      let both = alike agent refl in
      let first = with_game one number (played old (Deliver agent)) in
      let second = with_game two number (played other (Deliver agent)) in
      let holder = position (has_seat (number, agent)) in
      subst₂ (λ (reply : Option Reply) (found : Option ℕ). StepsAlike by
      (tells_arrival first (reply_to old (Deliver agent)) (holder one.connections)) (tells_arrival second reply found))
      both.1 (by_seats holder (position-bare (number, agent)) one.connections two.connections are.seats)
      (told_arrival by first second (put_alike by one two are number _ _ both.0) (reply_to old (Deliver agent))
      (holder one.connections) (λ conn is.
      let found = position-Some (has_seat (number, agent)) one.connections conn unfed is in
      (found.0, subst by.Heard (sym (seat-has_seat (number, agent) (connection_at one conn) found.1)) (heard agent))))

  -- the event that is chosen in a match, depending on its state
  pub events_alike : (chosen : Game → Option Event) (number : ℕ) →
      (number ≡ by.game → StepsAlike by (delivers one number (chosen (game_at one number)))
      (delivers two number (chosen (game_at two number)))) →
      StepsAlike by (event_step one number (chosen (game_at one number)))
      (event_step two number (chosen (game_at two number)))
  events_alike chosen number here =
      let old = game_at one number in
      cond_alike (StepsAlike by) (nat_lt number (length one.games)) (nat_lt number (length two.games)) _ _ _ _
      (ap (nat_lt number) (same_games by one two are))
      (λ below. by_same number by.game here (λ apart.
      let same = (are.games number).other apart in
      subst (λ (other : Game). StepsAlike by (delivers one number (chosen old)) (delivers two number (chosen other)))
      same
      (delivers_alike number (chosen old) (λ agent. by.elsewhere (number, agent) apart)
      (λ agent is. (
        games_apart by number _ _ apart (ap (λ (it : Game). played it (Deliver agent)) same),
        ap (λ (it : Game). reply_to it (Deliver agent)) same,
      )))))
      (λ past. nothing_alike by one two are)

  -- ---- a close

  close_alike : (number : ℕ) → let old = game_at one number in let other = game_at two number in
      ((agent : ℕ) → is_away old agent ≡ is_away other agent)
      → GamesAlike by number (played old Close) (played other Close) →
      StepsAlike by (close_step one number) (close_step two number)
  close_alike number away new =
      let old = game_at one number in
      let other = game_at two number in
      let put = put_alike by one two are number (played old Close) (played other Close) new in
      let told : told_over number old 0 one.connections ≡ told_over number other 0 two.connections =
      by_seats (told_over number old 0) (told-bare number old 0) one.connections two.connections are.seats
      ∙ told_alike number old other away 0 two.connections in
      record {
        stage = record {
          keys = are.keys;
          count = put.count;
          other_count = put.other_count;
          games = put.games;
          seats = sym (seats_shut number old one.connections) ∙ are.seats ∙ seats_shut number other two.connections;
          connections = λ conn heard.
              let before = connection_at one conn in
              let own = ap (λ (it : Connection). it.seat) (shut_at number old one.connections conn)
              ∙ seat-shut_if number old before in
              shut_at number old one.connections conn
              ∙ ap (λ (waits : Bool). cond waits (shut before) before) (waits_by number old other away before.seat)
              ∙ ap (shut_if number other) (are.connections conn (subst by.Heard own heard))
              ∙ sym (shut_at number other two.connections conn);
        };
        outs = λ conn heard. ap (bytes_among conn) told;
        all = λ every. told;
      }

  pub closed_alike : (number : ℕ) → let old = game_at one number in let other = game_at two number in
      (state_of old).closed ≡ (state_of other).closed → ((agent : ℕ) → is_away old agent ≡ is_away other agent)
      → GamesAlike by number (played old Close) (played other Close) →
      StepsAlike by (step one (Closes number)) (step two (Closes number))
  closed_alike number same away new =
      cond_alike (StepsAlike by) (nat_lt number (length one.games)) (nat_lt number (length two.games)) _ _ _ _
      (ap (nat_lt number) (same_games by one two are))
      (λ below. cond_alike (StepsAlike by) (state_of (game_at one number)).closed (state_of (game_at two number)).closed
      _ _ _ _ same (λ closed. nothing_alike by one two are) (λ goes_on. close_alike number away new))
      (λ past. nothing_alike by one two are)

  -- of any match
  pub closes_alike : (number : ℕ)
      → (number ≡ by.game → StepsAlike by (step one (Closes number)) (step two (Closes number))) →
      StepsAlike by (step one (Closes number)) (step two (Closes number))
  closes_alike number here =
      by_same number by.game here
      (λ apart.
      let same = (are.games number).other apart in
      closed_alike number (ap (λ (it : Game). (state_of it).closed) same)
      (λ agent. ap (λ (it : Game). is_away it agent) same)
      (games_apart by number _ _ apart (ap (λ (it : Game). played it Close) same)))
