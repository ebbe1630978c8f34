-- Case analysis of an instruction: it has no effect, or exactly one.
use Rattle.std.proofs.Common.{ℕ, ◌<◌, ◌≤◌, ◌≡◌, ◌⊎◌, inl, inr, Bool, true, false, cond, nat_lt, Option, Some, None}
use Rattle.std.proofs.Common.{◌++◌, length, sym, subst, refl, arith}
use Rattle.std.specs.List.{position}
use Rattle.std.proofs.lemmas.Bool.{cond_both, ltb-true, ltb-false}
use Rattle.std.proofs.lemmas.List.Quantifiers.{position-Some}
use Rattle.bhs_model.specs.declared.events.Event.{Event}
use Rattle.bhs_model.specs.declared.events.Event.TheVariants.{Tell, Deliver, Close}
use Rattle.bhs_model.specs.declared.replies.Reply.{Reply}
use Rattle.bhs_session.specs.Texts.{text_of}
use Rattle.bhs_rehearsal.specs.Games.{state_of, played, reply_to}
use Rattle.bhs_rehearsal.specs.Connections.{Connection, unfed}
use Rattle.bhs_rehearsal.specs.Stages.{Stage, game_at, connection_at, with_game, with_connection, has_seat, Moved}
use Rattle.bhs_rehearsal.specs.Stages.{moves, Closes, Stepped, sent_to, stepped, nothing, tells_arrival, delivers}
use Rattle.bhs_rehearsal.specs.Stages.{shut_in, told_over, step}
use Rattle.bhs_theorems_isolation.proofs.TurnLemmas.{placed, turn_of, moves-placed, moves_itself, bare}
use Rattle.std.proofs.lemmas.Bool.Decides.{nat_tests}

-- a client's connection then stands so, and moves
abbrev pub client_step : Stage → (conn : ℕ) → Connection → (ended : Bool) → Stepped
client_step stage conn connection ended =
    cond (nat_lt conn (length stage.connections))
    (cond ended (nothing stage) (stepped conn (moves (with_connection stage conn connection) conn))) (nothing stage)

-- A connection that does not exist or whose input has ended: no effect.
pub by_client : (P : Stepped → Type 0) (stage : Stage) (conn : ℕ) (connection : Connection) (ended : Bool)
    → ((length stage.connections ≤ conn) ⊎ (ended ≡ true) → P (nothing stage)) →
    (conn < length stage.connections → ended ≡ false
    → P (stepped conn (placed stage conn (turn_of stage conn connection)))) →
    P (client_step stage conn connection ended)
by_client P stage conn connection ended idle moved =
    cond_both (nat_lt conn (length stage.connections)) _ _ P
    (λ below. cond_both ended _ _ P (λ is. idle (inr is)) (λ goes_on.
    let within = ltb-true conn (length stage.connections) below in
    subst (λ (by_move : Moved). P (stepped conn by_move)) (sym (moves-placed stage conn connection within))
    (moved within goes_on)))
    (λ past. idle (inl (ltb-false conn (length stage.connections) past)))

-- who has a seat
seat_is : (seat : ℕ × ℕ) (own : Option (ℕ × ℕ)) → has_seat seat (bare own) ≡ true → own ≡ Some seat
seat_is seat own has = grind (arith, nat_tests)

pub seat-has_seat : (seat : ℕ × ℕ) (connection : Connection) → has_seat seat connection ≡ true
    → connection.seat ≡ Some seat
seat-has_seat seat connection has = seat_is seat connection.seat has

-- ---- a delivery

abbrev pub event_step : Stage → (game : ℕ) → Option Event → Stepped
event_step stage game event = cond (nat_lt game (length stage.games)) (delivers stage game event) (nothing stage)

-- the match after the delivery of an agent, in its place
abbrev pub drawn_in : Stage → (game agent : ℕ) → Stage
drawn_in stage game agent = with_game stage game (played (game_at stage game) (Deliver agent))

-- it is not answered, or nobody plays the agent
abbrev pub IsUntold : Stage → (game agent : ℕ) → Type 0
IsUntold stage game agent = (reply_to (game_at stage game) (Deliver agent) ≡ None)
    ⊎ (position (has_seat (game, agent)) stage.connections ≡ None)

-- the answer is told to who plays the agent, whose connection then moves
abbrev pub arrival_step : Stage → (conn : ℕ) → Reply → Stepped
arrival_step stage conn reply =
    let turn = turn_of stage conn (connection_at stage conn) in
    record { stage = (placed stage conn turn).stage; outs = sent_to conn (text_of reply ++ turn.text) }

by_arrival : (P : Stepped → Type 0) (stage : Stage) (seat : ℕ × ℕ) (replied : Option Reply) (holder : Option ℕ)
    → position (has_seat seat) stage.connections ≡ holder →
    ((replied ≡ None) ⊎ (holder ≡ None) → P (nothing stage)) →
    ((conn : ℕ) (reply : Reply) → replied ≡ Some reply → conn < length stage.connections
    → (connection_at stage conn).seat ≡ Some seat → P (arrival_step stage conn reply)) →
    P (tells_arrival stage replied holder)
by_arrival P stage seat None holder is untold told = untold (inl refl)
by_arrival P stage seat (Some reply) None is untold told = untold (inr refl)
by_arrival P stage seat (Some reply) (Some conn) is untold told =
    let found = position-Some (has_seat seat) stage.connections conn unfed is in
    subst (λ (moved : Moved). P (record { stage = moved.stage; outs = sent_to conn (text_of reply ++ moved.text) }))
    (sym (moves_itself stage conn found.0))
    (told conn reply refl found.0 (seat-has_seat seat (connection_at stage conn) found.1))

by_delivers : (P : Stepped → Type 0) (stage : Stage) (game : ℕ) (event : Option Event) → P (nothing stage) →
    ((agent : ℕ) → IsUntold stage game agent → P (nothing (drawn_in stage game agent))) →
    ((agent conn : ℕ) (reply : Reply) → reply_to (game_at stage game) (Deliver agent) ≡ Some reply
    → conn < length stage.connections → (connection_at stage conn).seat ≡ Some (game, agent)
    → P (arrival_step (drawn_in stage game agent) conn reply)) →
    P (delivers stage game event)
by_delivers P stage game None none untold told = none
by_delivers P stage game (Some (Tell agent command)) none untold told = none
by_delivers P stage game (Some Close) none untold told = none
by_delivers P stage game (Some (Deliver agent)) none untold told =
    let holder = position (has_seat (game, agent)) stage.connections in
    by_arrival P (drawn_in stage game agent) (game, agent) (reply_to (game_at stage game) (Deliver agent)) holder refl
    (untold agent) (told agent)

pub by_event : (P : Stepped → Type 0) (stage : Stage) (game : ℕ) (event : Option Event) → P (nothing stage) →
    ((agent : ℕ) → game < length stage.games → IsUntold stage game agent → P (nothing (drawn_in stage game agent))) →
    ((agent conn : ℕ) (reply : Reply) → game < length stage.games
    → reply_to (game_at stage game) (Deliver agent) ≡ Some reply → conn < length stage.connections
    → (connection_at stage conn).seat ≡ Some (game, agent)
    → P (arrival_step (drawn_in stage game agent) conn reply)) →
    P (event_step stage game event)
by_event P stage game event none untold told =
    cond_both (nat_lt game (length stage.games)) _ _ P
    (λ below.
    let within = ltb-true game (length stage.games) below in
    by_delivers P stage game event none (λ agent. untold agent within)
    (λ agent conn reply. told agent conn reply within))
    (λ past. none)

-- the close of a match that is open
abbrev pub close_step : Stage → (game : ℕ) → Stepped
close_step stage game =
    let old = game_at stage game in
    record {
      stage = record (with_game stage game (played old Close)) { connections = shut_in game old stage.connections };
      outs = told_over game old 0 stage.connections;
    }

pub by_close : (P : Stepped → Type 0) (stage : Stage) (game : ℕ) → P (nothing stage) →
    (game < length stage.games → (state_of (game_at stage game)).closed ≡ false → P (close_step stage game)) →
    P (step stage (Closes game))
by_close P stage game none done =
    cond_both (nat_lt game (length stage.games)) _ _ P
    (λ below. cond_both (state_of (game_at stage game)).closed _ _ P (λ is_closed. none)
    (done (ltb-true game (length stage.games) below)))
    (λ past. none)
