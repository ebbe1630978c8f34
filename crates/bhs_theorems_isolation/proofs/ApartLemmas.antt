-- What an instruction leaves alone.
use Rattle.std.proofs.Common.{◌≡◌, ◌≢◌, ◌∙◌, ℕ, zero, suc, ◌+◌, ◌<◌, Bool, true, false, cond, ◌==◌, Option}
use Rattle.std.proofs.Common.{Some, None, List, [], ◌∷◌, ◌++◌, length, map, get_or, refl, sym, ap, ap₂}
use Rattle.std.proofs.Common.{append_assoc, append-nil, arith}
use Rattle.std.proofs.lemmas.Bool.{cond-true, cond-false, eqb-false, eq-eqb, ne_eqb}
use Rattle.std.proofs.Math.ListN.{get_or-map}
use Rattle.std.proofs.lemmas.List.{get_or-set_same, get_or-set_other}
use Rattle.bhs_model.specs.declared.replies.Reply.TheVariants.{Over}
use Rattle.bhs_session.specs.Texts.{text_of}
use Rattle.bhs_rehearsal.specs.Games.{Game, is_away}
use Rattle.bhs_rehearsal.specs.Connections.{Connection, unfed, shut, taken}
use Rattle.bhs_rehearsal.specs.Stages.{Stage, game_at, connection_at}
use Rattle.bhs_rehearsal.specs.Stages.{sent_to, stepped, nothing, waits_in, shut_in, told_over}
use Rattle.bhs_theorems_isolation.specs.ScriptLaws.{plays_in, IsOfConnection, ClientsKeepToThemselves}
use Rattle.bhs_theorems_isolation.specs.Clients.{bytes_among}
use Rattle.bhs_theorems_isolation.proofs.CuttingLemmas.{by_bool, and_false}
use Rattle.bhs_theorems_isolation.proofs.TurnLemmas.{Turn, by_turn, placed, plays_turn, turn_of}
use Rattle.bhs_theorems_isolation.proofs.TurnLemmas.{grown, ending, bare, seat_of, seat_after}
use Rattle.bhs_theorems_isolation.proofs.FeedLemmas.{bytes_among-sent_to}
use Rattle.bhs_theorems_isolation.proofs.StepCases.{client_step, by_client}

-- ---- what is sent

pub sent_elsewhere : (other conn : ℕ) (text : List ℕ) → other ≢ conn → bytes_among other (sent_to conn text) ≡ []
sent_elsewhere other conn text apart = bytes_among-sent_to other conn text
    ∙ cond-false (conn == other) text [] (ne_eqb conn other (λ same. apart (sym same)))

pub bytes_among-append : (conn : ℕ) (one two : List (ℕ × List ℕ)) → bytes_among conn (one ++ two) ≡ bytes_among conn one
    ++ bytes_among conn two
bytes_among-append conn [] two = refl
bytes_among-append conn (out ∷ one) two =
    ap (λ (rest : List ℕ). cond (out.0 == conn) out.1 [] ++ rest) (bytes_among-append conn one two)
    ∙ sym (append_assoc (cond (out.0 == conn) out.1 []) (bytes_among conn one) (bytes_among conn two))

-- ---- a client

nothing_of_connection : (stage : Stage) (conn : ℕ) → IsOfConnection stage conn (nothing stage)
nothing_of_connection stage conn = record {
  connections = λ other. λ apart. refl;
  games = λ game. λ elsewhere. refl;
  keys = refl;
  outs = λ other. λ apart. refl;
}

-- a turn changes no match but that of the connection
abbrev KeepsGames : Stage → Turn → Type 0
KeepsGames stage turn = (game : ℕ) → plays_in game turn.connection ≡ false
    → game_at (record stage { games = turn.games }) game ≡ game_at stage game

keeps_playing : (stage : Stage) (seat : ℕ × ℕ) (connection : Connection)
    → KeepsGames stage (plays_turn stage seat connection)
keeps_playing stage seat connection game elsewhere =
    let done = taken (game_at stage seat.0) seat.1 connection.queue in
    let there : (seat.0 == game) ≡ false =
    sym (ap (λ (own : Option (ℕ × ℕ)). plays_in game (bare own)) (seat_after connection seat done)) ∙ elsewhere in
    get_or-set_other stage.games seat.0 game done.game _ (λ same. eqb-false seat.0 game there (sym same))

turn_of_connection : (stage : Stage) (conn : ℕ) (connection : Connection) → conn < length stage.connections →
    IsOfConnection stage conn (stepped conn (placed stage conn (turn_of stage conn connection)))
turn_of_connection stage conn connection within =
    let turn = turn_of stage conn connection in
    record {
      connections = λ other. λ apart. get_or-set_other stage.connections conn other turn.connection _ apart;
      games = λ game. λ elsewhere.
          by_turn (KeepsGames stage) stage conn connection (λ new text other away. refl)
          (λ seat. keeps_playing stage seat connection) connection.seat game
          (ap (plays_in game) (sym (get_or-set_same stage.connections conn turn.connection unfed within)) ∙ elsewhere);
      keys = refl;
      outs = λ other. λ apart. sent_elsewhere other conn turn.text apart;
    }

client_of_connection : (stage : Stage) (conn : ℕ) (connection : Connection) (ended : Bool)
    → IsOfConnection stage conn (client_step stage conn connection ended)
client_of_connection stage conn connection ended = by_client (IsOfConnection stage conn) stage conn connection ended
    (λ idle. nothing_of_connection stage conn) (λ within goes_on. turn_of_connection stage conn connection within)

pub clients_lemma : ClientsKeepToThemselves
clients_lemma stage conn bytes =
    let old = connection_at stage conn in (
      client_of_connection stage conn (grown old bytes) old.ended,
      client_of_connection stage conn (ending old) old.ended,
    )

-- ---- a close

-- who plays elsewhere doesn't wait here
waits_by : (number : ℕ) (game : Game) (own : Option (ℕ × ℕ)) → plays_in number (bare own) ≡ false
    → waits_in number game (bare own) ≡ false
waits_by number game None elsewhere = refl
waits_by number game (Some seat) elsewhere = and_false (seat.0 == number) (is_away game seat.1) elsewhere

waits_elsewhere : (number : ℕ) (game : Game) (connection : Connection) → plays_in number connection ≡ false
    → waits_in number game connection ≡ false
waits_elsewhere number game connection elsewhere = waits_by number game connection.seat elsewhere

abbrev pub shut_if : (number : ℕ) → Game → Connection → Connection
shut_if number game connection = cond (waits_in number game connection) (shut connection) connection

pub seat-shut_if : (number : ℕ) (game : Game) (connection : Connection)
    → (shut_if number game connection).seat ≡ connection.seat
seat-shut_if number game connection =
    by_bool (waits_in number game connection)
    (λ (waits : Bool). (cond waits (shut connection) connection).seat ≡ connection.seat)
    (λ waits. refl) (λ stays. refl)

pub seats_shut : (number : ℕ) (game : Game) (connections : List Connection)
    → map seat_of connections ≡ map seat_of (shut_in number game connections)
seats_shut number game [] = refl
seats_shut number game (connection ∷ connections) =
    ap₂ (λ (own : Option (ℕ × ℕ)) (others : List (Option (ℕ × ℕ))). own ∷ others)
    (sym (seat-shut_if number game connection)) (seats_shut number game connections)

pub shut_at : (number : ℕ) (game : Game) (connections : List Connection) (conn : ℕ) →
    get_or (shut_in number game connections) conn unfed ≡ shut_if number game (get_or connections conn unfed)
shut_at number game connections conn = get_or-map (shut_if number game) connections conn unfed

pub not_shut : (number : ℕ) (game : Game) (connections : List Connection) (conn : ℕ)
    → plays_in number (get_or connections conn unfed) ≡ false →
    get_or (shut_in number game connections) conn unfed ≡ get_or connections conn unfed
not_shut number game connections conn elsewhere =
    let connection = get_or connections conn unfed in
    shut_at number game connections conn
    ∙ cond-false (waits_in number game connection) (shut connection) connection
    (waits_elsewhere number game connection elsewhere)

-- The reported connection has this number or a greater one.
told_later : (number : ℕ) (game : Game) (connections : List Connection) (first conn : ℕ) → conn < first
    → bytes_among conn (told_over number game first connections) ≡ []
told_later number game [] first conn earlier = refl
told_later number game (connection ∷ connections) first conn earlier =
    let apart : conn ≢ first = λ same. absurd (omega (arith, same)) in
    bytes_among-append conn (cond (waits_in number game connection) (sent_to first (text_of Over)) [])
    (told_over number game (first + 1) connections)
    ∙ ap₂ (λ (one two : List ℕ). one ++ two)
    (by_bool (waits_in number game connection)
    (λ (waits : Bool). bytes_among conn (cond waits (sent_to first (text_of Over)) []) ≡ [])
    (λ waits. sent_elsewhere conn first (text_of Over) apart) (λ stays. refl))
    (told_later number game connections (first + 1) conn (omega arith))

-- Exactly the waiting connections are told that the match is over.
pub told_at : (number : ℕ) (game : Game) (connections : List Connection) (first conn : ℕ) →
    bytes_among (first + conn) (told_over number game first connections) ≡ cond
    (waits_in number game (get_or connections conn unfed)) (text_of Over) []
told_at number game [] first conn = refl
told_at number game (connection ∷ connections) first zero =
    let same : (first == first + 0) ≡ true = eq-eqb first (first + 0) (omega arith) in
    bytes_among-append (first + 0) (cond (waits_in number game connection) (sent_to first (text_of Over)) [])
    (told_over number game (first + 1) connections)
    ∙ ap₂ (λ (one two : List ℕ). one ++ two)
    (by_bool (waits_in number game connection)
    (λ (waits : Bool). bytes_among (first + 0) (cond waits (sent_to first (text_of Over)) []) ≡ cond waits
    (text_of Over) [])
    (λ waits. bytes_among-sent_to (first + 0) first (text_of Over) ∙ cond-true _ _ _ same) (λ stays. refl))
    (told_later number game connections (first + 1) (first + 0) (omega arith))
    ∙ append-nil _
told_at number game (connection ∷ connections) first (suc conn) =
    let apart : first + suc conn ≢ first = λ same. absurd (omega (arith, same)) in
    let later : (first + 1) + conn ≡ first + suc conn = omega arith in
    bytes_among-append (first + suc conn) (cond (waits_in number game connection) (sent_to first (text_of Over))
    []) (told_over number game (first + 1) connections)
    ∙ ap₂ (λ (one two : List ℕ). one ++ two)
    (by_bool (waits_in number game connection)
    (λ (waits : Bool). bytes_among (first + suc conn) (cond waits (sent_to first (text_of Over)) []) ≡ [])
    (λ waits. sent_elsewhere (first + suc conn) first (text_of Over) apart) (λ stays. refl))
    (ap (λ (number_of : ℕ). bytes_among number_of (told_over number game (first + 1) connections)) (sym later)
    ∙ told_at number game connections (first + 1) conn)

pub told_elsewhere : (number : ℕ) (game : Game) (connections : List Connection) (conn : ℕ)
    → plays_in number (get_or connections conn unfed) ≡ false →
    bytes_among conn (told_over number game 0 connections) ≡ []
told_elsewhere number game connections conn elsewhere =
    ap (λ (other : ℕ). bytes_among other (told_over number game 0 connections)) (omega arith)
    ∙ told_at number game connections 0 conn
    ∙ cond-false _ _ _ (waits_elsewhere number game (get_or connections conn unfed) elsewhere)
