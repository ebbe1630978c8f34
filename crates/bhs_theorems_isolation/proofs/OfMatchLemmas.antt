-- What is said and done in a match changes nothing but that match and who plays in it.
use Rattle.std.proofs.Common.{◌≡◌, ◌≢◌, ◌∙◌, ℕ, zero, suc, Bool, true, false, Option, Some, None}
use Rattle.std.proofs.Common.{List, [], ◌∷◌, ◌++◌, map, get_or, refl, sym, ap, subst}
use Rattle.std.proofs.lemmas.Bool.{eqb-true, eq-eqb}
use Rattle.std.proofs.lemmas.List.{get_or-set_other, length-set}
use Rattle.std.proofs.Math.Seq.{map-set_same}
use Rattle.bhs_model.specs.declared.events.Event.{Event}
use Rattle.bhs_model.specs.declared.events.Event.TheVariants.{Close}
use Rattle.bhs_session.specs.Texts.{text_of}
use Rattle.bhs_rehearsal.specs.Games.{Game, played, drawn, delivered}
use Rattle.bhs_rehearsal.specs.Connections.{Connection, unfed, taken}
use Rattle.bhs_rehearsal.specs.Stages.{Stage, game_at, connection_at, with_game, Instruction, Feeds, EndsInput, Draws}
use Rattle.bhs_rehearsal.specs.Stages.{Delivers, Closes, Stepped, sent_to, nothing, step, stands_after}
use Rattle.bhs_theorems_isolation.specs.ScriptLaws.{plays_in, seats_of, IsOfConnection, IsOfGame, SameBut, is_of_match}
use Rattle.bhs_theorems_isolation.specs.ScriptLaws.{MatchesKeepToThemselves}
use Rattle.bhs_theorems_isolation.specs.Clients.{bytes_among}
use Rattle.bhs_theorems_isolation.proofs.CuttingLemmas.{by_bool, by_same}
use Rattle.bhs_theorems_isolation.proofs.TurnLemmas.{placed, plays_turn, turn_in, turn_of, grown}
use Rattle.bhs_theorems_isolation.proofs.TurnLemmas.{ending, bare, seat_of, seat_after}
use Rattle.bhs_theorems_isolation.proofs.ApartLemmas.{sent_elsewhere, not_shut, seats_shut, told_elsewhere}
use Rattle.bhs_theorems_isolation.proofs.ApartLemmas.{clients_lemma}
use Rattle.bhs_theorems_isolation.proofs.StepCases.{client_step, by_client, event_step, drawn_in, by_event, by_close}

-- ---- stages that agree except for a match

pub same_itself : (game : ℕ) (stage : Stage) → SameBut game stage stage
same_itself game stage = record {
  keys = refl;
  count = refl;
  games = λ other apart. refl;
  seats = refl;
  connections = λ conn elsewhere. refl;
}

-- what a connection plays, by its place
pub seats_at : (one two : List Connection) → map seat_of one ≡ map seat_of two →
    (conn : ℕ) → (get_or one conn unfed).seat ≡ (get_or two conn unfed).seat
seats_at [] [] same conn = refl
seats_at [] (other ∷ two) same conn = absurd (cc)
seats_at (first ∷ one) [] same conn = absurd (cc)
seats_at (first ∷ one) (other ∷ two) same zero = cc
seats_at (first ∷ one) (other ∷ two) same (suc conn) =
    let rest : map seat_of one ≡ map seat_of two = cc in
    seats_at one two rest conn

plays_by_seats : (one two : Stage) → seats_of one ≡ seats_of two → (game conn : ℕ)
    → plays_in game (connection_at one conn) ≡ plays_in game (connection_at two conn)
plays_by_seats one two same game conn =
    ap (λ (own : Option (ℕ × ℕ)). plays_in game (bare own)) (seats_at one.connections two.connections same conn)

-- An agent of the match plays in both stages.
pub plays_in_both : (game : ℕ) (one two : Stage) → SameBut game one two → (conn : ℕ)
    → plays_in game (connection_at one conn) ≡ plays_in game (connection_at two conn)
plays_in_both game one two same conn = plays_by_seats one two same.seats game conn

pub same_back : (game : ℕ) (one two : Stage) → SameBut game one two → SameBut game two one
same_back game one two same = record {
  keys = sym same.keys;
  count = sym same.count;
  games = λ other apart. sym (same.games other apart);
  seats = sym same.seats;
  connections = λ conn elsewhere. sym (same.connections conn (plays_in_both game one two same conn ∙ elsewhere));
}

pub same_through : (game : ℕ) (one two three : Stage) → SameBut game one two → SameBut game two three
    → SameBut game one three
same_through game one two three first second = record {
  keys = first.keys ∙ second.keys;
  count = first.count ∙ second.count;
  games = λ other apart. first.games other apart ∙ second.games other apart;
  seats = first.seats ∙ second.seats;
  connections = λ conn elsewhere. first.connections conn elsewhere
      ∙ second.connections conn (sym (plays_in_both game one two first conn) ∙ elsewhere);
}

-- Agents of the match have seats there.
seat_by : (game : ℕ) (own : Option (ℕ × ℕ)) → plays_in game (bare own) ≡ true → (agent : ℕ)
    × (own ≡ Some (game, agent))
seat_by game None here = absurd (cc)
seat_by game (Some seat) here = (seat.1, ap (λ (number : ℕ). Some (number, seat.1)) (eqb-true seat.0 game here))

pub seat_in : (game : ℕ) (connection : Connection) → plays_in game connection ≡ true → (agent : ℕ)
    × (connection.seat ≡ Some (game, agent))
seat_in game connection here = seat_by game connection.seat here

-- nothing happens but to the match and to who plays in it, and nothing is sent to anyone else
pub record IsOfMatch (game : ℕ) (stage : Stage) (new : Stepped) : Type 0 where
  pub same : SameBut game stage new.stage
  pub outs : (conn : ℕ) → plays_in game (connection_at stage conn) ≡ false → bytes_among conn new.outs ≡ []

nothing_of_match : (game : ℕ) (stage : Stage) → IsOfMatch game stage (nothing stage)
nothing_of_match game stage = record { same = same_itself game stage; outs = λ conn elsewhere. refl }

-- ---- a move in the match

-- A connection with a seat elsewhere does not play in this match.
plays_elsewhere : (stage : Stage) (game conn other agent : ℕ) → (connection_at stage conn).seat ≡ Some (game, agent)
    → plays_in game (connection_at stage other) ≡ false → other ≢ conn
plays_elsewhere stage game conn other agent seated elsewhere same =
    let here = eq-eqb game game refl in
    let there = ap (λ (own : Option (ℕ × ℕ)). plays_in game (bare own)) (sym seated)
    ∙ ap (λ (place : ℕ). plays_in game (connection_at stage place)) (sym same) ∙ elsewhere in
    cc

module _ (stage : Stage) (game conn agent : ℕ) (connection : Connection) (before : List ℕ)
    (seated : (connection_at stage conn).seat ≡ Some (game, agent)) where
  playing_of_match : let turn = plays_turn stage (game, agent) connection in
      IsOfMatch game stage
      (record { stage = (placed stage conn turn).stage; outs = sent_to conn (before ++ turn.text) })
  playing_of_match =
      let done = taken (game_at stage game) agent connection.queue in
      let turn = plays_turn stage (game, agent) connection in
      record {
        same = record {
          keys = refl;
          count = sym (length-set stage.games game done.game);
          games = λ other apart. sym (get_or-set_other stage.games game other done.game _ apart);
          seats = sym (map-set_same seat_of stage.connections conn turn.connection unfed
              (seat_after connection (game, agent) done ∙ sym seated));
          connections = λ other elsewhere.
              sym (get_or-set_other stage.connections conn other turn.connection unfed
              (plays_elsewhere stage game conn other agent seated elsewhere));
        };
        outs = λ other elsewhere. sent_elsewhere other conn (before ++ turn.text)
            (plays_elsewhere stage game conn other agent seated elsewhere);
      }

  turn_of_match : connection.seat ≡ Some (game, agent) → let turn = turn_of stage conn connection in
      IsOfMatch game stage
      (record { stage = (placed stage conn turn).stage; outs = sent_to conn (before ++ turn.text) })
  turn_of_match own =
      subst (λ (seat : Option (ℕ × ℕ)). let turn = turn_in stage conn connection seat in IsOfMatch game stage
      (record { stage = (placed stage conn turn).stage; outs = sent_to conn (before ++ turn.text) })) (sym own)
      playing_of_match

client_of_match : (game : ℕ) (stage : Stage) (conn : ℕ) (connection : Connection) (ended : Bool)
    → connection.seat ≡ (connection_at stage conn).seat → plays_in game (connection_at stage conn) ≡ true →
    IsOfMatch game stage (client_step stage conn connection ended)
client_of_match game stage conn connection ended as_before here =
    let seated = seat_in game (connection_at stage conn) here in
    by_client (IsOfMatch game stage) stage conn connection ended (λ idle. nothing_of_match game stage)
    (λ within goes_on. turn_of_match stage game conn seated.0 connection [] seated.1 (as_before ∙ seated.1))

-- ---- a draw, a delivery and a close

game_same : (stage : Stage) (game : ℕ) (new : Game) → SameBut game stage (with_game stage game new)
game_same stage game new = record {
  keys = refl;
  count = sym (length-set stage.games game new);
  games = λ other apart. sym (get_or-set_other stage.games game other new _ apart);
  seats = refl;
  connections = λ conn elsewhere. refl;
}

event_of_match : (game : ℕ) (stage : Stage) (event : Option Event) → IsOfMatch game stage (event_step stage game event)
event_of_match game stage event =
    by_event (IsOfMatch game stage) stage game event (nothing_of_match game stage)
    (λ agent below untold. record { same = game_same stage game _; outs = λ conn elsewhere. refl })
    (λ agent conn reply below answered within seated.
    let between = drawn_in stage game agent in
    let old = connection_at stage conn in
    let turned = turn_of_match between game conn agent old (text_of reply) seated seated in
    record {
      same = same_through game stage between (placed between conn (turn_of between conn old)).stage
          (game_same stage game _) turned.same;
      outs = turned.outs;
    })

closes_of_match : (game : ℕ) (stage : Stage) → IsOfMatch game stage (step stage (Closes game))
closes_of_match game stage =
    let old = game_at stage game in
    by_close (IsOfMatch game stage) stage game (nothing_of_match game stage) (λ below goes_on. record {
      same = record {
        keys = refl;
        count = sym (length-set stage.games game (played old Close));
        games = λ other apart. sym (get_or-set_other stage.games game other (played old Close) _ apart);
        seats = seats_shut game old stage.connections;
        connections = λ conn elsewhere. sym (not_shut game old stage.connections conn elsewhere);
      };
      outs = λ conn elsewhere. told_elsewhere game old stage.connections conn elsewhere;
    })

is_of_game : (game : ℕ) (stage : Stage) (new : Stepped) → IsOfMatch game stage new → IsOfGame stage game new
is_of_game game stage new of_match = record {
  games = λ other apart. sym (of_match.same.games other apart);
  connections = λ conn elsewhere. sym (of_match.same.connections conn elsewhere);
  keys = sym of_match.same.keys;
  outs = of_match.outs;
}

pub matches_lemma : MatchesKeepToThemselves
matches_lemma stage game word agent = (
  is_of_game game stage _ (event_of_match game stage (drawn (game_at stage game) word)),
  is_of_game game stage _ (closes_of_match game stage),
  is_of_game game stage _ (event_of_match game stage (delivered (game_at stage game) agent)),
)

-- ---- every instruction of the match

pub of_match : (game : ℕ) (stage : Stage) (instruction : Instruction) → is_of_match game stage instruction ≡ true
    → IsOfMatch game stage (step stage instruction)
of_match game stage (Feeds conn bytes) here =
    let old = connection_at stage conn in client_of_match game stage conn (grown old bytes) old.ended refl here
of_match game stage (EndsInput conn) here =
    let old = connection_at stage conn in client_of_match game stage conn (ending old) old.ended refl here
of_match game stage (Draws other word) here =
    subst (λ (number : ℕ). IsOfMatch number stage (step stage (Draws other word))) (eqb-true other game here)
    (event_of_match other stage (drawn (game_at stage other) word))
of_match game stage (Delivers other agent) here =
    subst (λ (number : ℕ). IsOfMatch number stage (step stage (Delivers other agent))) (eqb-true other game here)
    (event_of_match other stage (delivered (game_at stage other) agent))
of_match game stage (Closes other) here =
    subst (λ (number : ℕ). IsOfMatch number stage (step stage (Closes other))) (eqb-true other game here)
    (closes_of_match other stage)

-- ---- who doesn't play in the match after an instruction didn't before

client_before : (game : ℕ) (stage : Stage) (mover conn : ℕ) (new : Stepped) → IsOfConnection stage mover new →
    (plays_in game (connection_at stage mover) ≡ true → IsOfMatch game stage new) →
    plays_in game (connection_at new.stage conn) ≡ false → plays_in game (connection_at stage conn) ≡ false
client_before game stage mover conn new of_one of_its elsewhere =
    by_same conn mover
    (λ is. by_bool (plays_in game (connection_at stage conn))
    (λ (here : Bool). plays_in game (connection_at stage conn) ≡ false)
    (λ here. plays_in_both game stage new.stage
    (of_its (ap (λ (place : ℕ). plays_in game (connection_at stage place)) (sym is) ∙ here)).same conn ∙ elsewhere)
    (λ away. away))
    (λ apart. ap (plays_in game) (sym (of_one.connections conn apart)) ∙ elsewhere)

pub elsewhere_before : (game : ℕ) (stage : Stage) (instruction : Instruction) (conn : ℕ) →
    plays_in game (connection_at (step stage instruction).stage conn) ≡ false
    → plays_in game (connection_at stage conn) ≡ false
elsewhere_before game stage (Feeds mover bytes) conn elsewhere =
    client_before game stage mover conn _ (clients_lemma stage mover bytes).0 (of_match game stage (Feeds mover bytes))
    elsewhere
elsewhere_before game stage (EndsInput mover) conn elsewhere =
    client_before game stage mover conn _ (clients_lemma stage mover []).1 (of_match game stage (EndsInput mover))
    elsewhere
elsewhere_before game stage (Draws number word) conn elsewhere =
    plays_by_seats stage (step stage (Draws number word)).stage
    (event_of_match number stage (drawn (game_at stage number) word)).same.seats game conn
    ∙ elsewhere
elsewhere_before game stage (Delivers number agent) conn elsewhere =
    plays_by_seats stage (step stage (Delivers number agent)).stage
    (event_of_match number stage (delivered (game_at stage number) agent)).same.seats game conn
    ∙ elsewhere
elsewhere_before game stage (Closes number) conn elsewhere =
    plays_by_seats stage (step stage (Closes number)).stage
    (closes_of_match number stage).same.seats game conn ∙ elsewhere

pub elsewhere_at_first : (game : ℕ) (stage : Stage) (script : List Instruction) (conn : ℕ) →
    plays_in game (connection_at (stands_after stage script) conn) ≡ false
    → plays_in game (connection_at stage conn) ≡ false
elsewhere_at_first game stage [] conn elsewhere = elsewhere
elsewhere_at_first game stage (instruction ∷ script) conn elsewhere =
    elsewhere_before game stage instruction conn
    (elsewhere_at_first game (step stage instruction).stage script conn elsewhere)
