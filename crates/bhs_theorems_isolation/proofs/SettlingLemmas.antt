-- Each instruction settles a settled stage.
use Rattle.std.proofs.Common.{inl, inr, ◌≡◌, ◌∙◌, ℕ, zero, suc, ◌<◌, ◌≤◌, Bool, true, false, cond, nat_lt, Option, Some}
use Rattle.std.proofs.Common.{None, List, [], ◌∷◌, ◌++◌, length, replicate, get_or, refl, sym, ap, subst, arith}
use Rattle.std.specs.List.{position, position_or_len}
use Rattle.std.proofs.lemmas.Bool.{ltb-false}
use Rattle.std.proofs.lemmas.List.{get_or-set_same}
use Rattle.std.proofs.lemmas.List.Sums.{fails_before_first}
use Rattle.bhs_model.specs.declared.events.Event.{Event}
use Rattle.bhs_model.specs.declared.events.Event.TheVariants.{Deliver, Close}
use Rattle.bhs_setups.specs.KeyTable.{Seat}
use Rattle.bhs_rehearsal.specs.Games.{Game, played, is_away, drawn, delivered}
use Rattle.bhs_rehearsal.specs.Connections.{Connection, unfed}
use Rattle.bhs_rehearsal.specs.Stages.{Stage, game_at, connection_at, with_game, has_seat, Moved, sent_to, Instruction}
use Rattle.bhs_rehearsal.specs.Stages.{Feeds, EndsInput, Draws, Delivers, Closes, Stepped, nothing, waits_in, shut_in}
use Rattle.bhs_rehearsal.specs.Stages.{step, begun, stands_after}
use Rattle.bhs_theorems_isolation.specs.ScriptLaws.{awaits_arrival, IsSettled, SettledStagesSettle, ScriptsSettle}
use Rattle.bhs_theorems_isolation.specs.ScriptLaws.{moves_in_turn}
use Rattle.bhs_theorems_isolation.specs.ScriptLaws.{AllItemsAreTaken}
use Rattle.bhs_theorems_isolation.proofs.TurnLemmas.{grown, ending}
use Rattle.bhs_theorems_isolation.proofs.ApartLemmas.{shut_at, seat-shut_if}
use Rattle.bhs_theorems_isolation.proofs.AwayLemmas.{alike-delivered, alike-unanswered, away-closed}
use Rattle.bhs_theorems_isolation.proofs.SettledLemmas.{SettledBut, awaits_kept, has_own, seat_within, rest_lemma}
use Rattle.bhs_theorems_isolation.proofs.SettledLemmas.{turn_settles}
use Rattle.bhs_theorems_isolation.proofs.StepCases.{client_step, by_client, event_step, drawn_in, by_event, by_close}
use Rattle.bhs_model.proofs.LegalLemmas.{either}

-- ---- a client

settled_but : (stage : Stage) (conn : ℕ) → IsSettled stage → SettledBut stage conn
settled_but stage conn settled = record {
  others_taken = λ other apart. settled.all_taken other;
  one_each = settled.one_each;
}

client_settles : (stage : Stage) (conn : ℕ) (connection : Connection) (ended : Bool) → IsSettled stage
    → connection.seat ≡ (connection_at stage conn).seat → IsSettled (client_step stage conn connection ended).stage
client_settles stage conn connection ended settled as_before =
    by_client (λ (done : Stepped). IsSettled done.stage) stage conn connection ended (λ idle. settled)
    (λ within goes_on. turn_settles stage conn connection within (settled_but stage conn settled) as_before)

-- ---- a draw

-- whom nobody plays
pub nobody_plays : (connections : List Connection) (seat : ℕ × ℕ) → position (has_seat seat) connections ≡ None
    → (conn : ℕ) → (get_or connections conn unfed).seat ≡ Some seat → ⊥
nobody_plays connections seat none conn theirs =
    let all : length connections ≤ position_or_len (has_seat seat) connections =
    passed (position_or_len (has_seat seat) connections) (length connections) _ refl none in
    let fails : has_seat seat (get_or connections conn unfed) ≡ false =
    fails_before_first (has_seat seat) connections conn unfed
    (omega (arith, all, seat_within connections conn seat theirs)) in
    let has = has_own seat (get_or connections conn unfed) theirs in
    cc where
      passed : (place count : ℕ) (below : Bool) → nat_lt place count ≡ below
          → cond below (Some place) None ≡ None → count ≤ place
      passed place count true is some = absurd (cc)
      passed place count false is some = ltb-false place count is

module _ (stage : Stage) (game agent : ℕ) (within : game < length stage.games) (settled : IsSettled stage) where
  abbrev new_game : Game
  new_game = played (game_at stage game) (Deliver agent)

  found_again : game_at (drawn_in stage game agent) game ≡ new_game
  found_again = get_or-set_same stage.games game new_game _ within

  -- where the draw moves no agent that is played
  draw_settles : ((conn : ℕ) (other : ℕ) → (connection_at stage conn).seat ≡ Some (game, other)
      → is_away new_game other ≡ is_away (game_at stage game) other) → IsSettled (drawn_in stage game agent)
  draw_settles same = record {
    all_taken = λ conn stays. settled.all_taken conn
        (sym (awaits_kept stage game new_game stage.connections (connection_at stage conn) found_again (same conn))
        ∙ stays);
    one_each = settled.one_each;
  }

  -- where it moves the agent of this connection
  draw_settles_but : (conn : ℕ) → (connection_at stage conn).seat ≡ Some (game, agent)
      → SettledBut (drawn_in stage game agent) conn
  draw_settles_but conn mine = record {
    others_taken = λ other apart stays. settled.all_taken other
        (sym (awaits_kept stage game new_game stage.connections (connection_at stage other) found_again
        (λ number theirs. (alike-delivered (game_at stage game) agent number
        (λ same. apart (settled.one_each other conn (game, agent) (theirs ∙ ap (λ (one : ℕ). Some (game, one)) same)
        mine))).away)) ∙ stays);
    one_each = settled.one_each;
  }

-- ---- a close

close_settles : (stage : Stage) (game : ℕ) → game < length stage.games → IsSettled stage →
    let old = game_at stage game in
    IsSettled (record (with_game stage game (played old Close)) { connections = shut_in game old stage.connections })
close_settles stage game within settled =
    let old = game_at stage game in
    let connections = shut_in game old stage.connections in
    let new : Stage = record (with_game stage game (played old Close)) { connections = connections } in
    let seat_at : (conn : ℕ) → (connection_at new conn).seat ≡ (connection_at stage conn).seat = λ conn.
    ap (λ (one : Connection). one.seat) (shut_at game old stage.connections conn)
    ∙ seat-shut_if game old (connection_at stage conn) in
    record {
      all_taken = λ conn.
          subst (λ (one : Connection). awaits_arrival new one ≡ false → one.queue ≡ [])
          (sym (shut_at game old stage.connections conn))
          (either (λ (one : Connection). awaits_arrival new one ≡ false → one.queue ≡ [])
          (waits_in game old (connection_at stage conn)) _ (connection_at stage conn) (λ stays. refl)
          (λ stays. settled.all_taken conn
          (sym (awaits_kept stage game (played old Close) connections (connection_at stage conn)
          (get_or-set_same stage.games game (played old Close) _ within) (λ agent theirs. away-closed old agent))
          ∙ stays)));
      one_each = λ conn other seat mine theirs. settled.one_each conn other seat (sym (seat_at conn) ∙ mine)
          (sym (seat_at other) ∙ theirs);
    }

-- ---- every instruction

event_settles : (stage : Stage) (game : ℕ) (event : Option Event) → IsSettled stage
    → IsSettled (event_step stage game event).stage
event_settles stage game event settled =
    by_event (λ (done : Stepped). IsSettled done.stage) stage game event settled
    (λ agent below untold. draw_settles stage game agent below settled (λ conn other theirs. elim untold [
      | inl unanswered ↦ (alike-unanswered (game_at stage game) agent other unanswered).away
      | inr nobody ↦ (alike-delivered (game_at stage game) agent other
          (λ same. nobody_plays stage.connections (game, agent) nobody conn
          (theirs ∙ ap (λ (one : ℕ). Some (game, one)) same))).away
    ]))
    (λ agent conn reply below answered there mine. turn_settles (drawn_in stage game agent) conn
    (connection_at stage conn) there (draw_settles_but stage game agent below settled conn mine) refl)

closes_settle : (stage : Stage) (game : ℕ) → IsSettled stage → IsSettled (step stage (Closes game)).stage
closes_settle stage game settled = by_close (λ (done : Stepped). IsSettled done.stage) stage game settled
    (λ below goes_on. close_settles stage game below settled)

pub settle_lemma : SettledStagesSettle
settle_lemma stage (Feeds conn bytes) settled =
    let old = connection_at stage conn in client_settles stage conn (grown old bytes) old.ended settled refl
settle_lemma stage (EndsInput conn) settled =
    let old = connection_at stage conn in
    client_settles stage conn (ending old) old.ended settled refl
settle_lemma stage (Draws game word) settled = event_settles stage game (drawn (game_at stage game) word) settled
settle_lemma stage (Delivers game agent) settled =
    event_settles stage game (delivered (game_at stage game) agent) settled
settle_lemma stage (Closes game) settled = closes_settle stage game settled

-- ---- from the start

pub fresh_at : (count conn : ℕ) → get_or (replicate count unfed) conn unfed ≡ unfed
fresh_at zero conn = refl
fresh_at (suc count) zero = refl
fresh_at (suc count) (suc conn) = fresh_at count conn

begun_settled : (games : List Game) (keys : List Seat) (connections : ℕ) → IsSettled (begun games keys connections)
begun_settled games keys connections = record {
  all_taken = λ conn stays. ap (λ (one : Connection). one.queue) (fresh_at connections conn);
  one_each = λ conn other seat mine theirs. absurd
      (let never = sym (ap (λ (one : Connection). one.seat) (fresh_at connections conn)) ∙ mine in cc);
}

script_settles : (stage : Stage) (script : List Instruction) → IsSettled stage → IsSettled (stands_after stage script)
script_settles stage [] settled = settled
script_settles stage (instruction ∷ script) settled =
    script_settles (step stage instruction).stage script (settle_lemma stage instruction settled)

pub scripts_lemma : ScriptsSettle
scripts_lemma games keys connections script =
    script_settles (begun games keys connections) script (begun_settled games keys connections)

-- ---- every connection in turn

turns_rest : (stage : Stage) → IsSettled stage → (conns : List ℕ) → moves_in_turn stage conns ≡ nothing stage
turns_rest stage settled [] = refl
turns_rest stage settled (conn ∷ conns) =
    ap (λ (moved : Moved). let others = moves_in_turn moved.stage conns in
    record { stage = others.stage; outs = sent_to conn moved.text ++ others.outs })
    (rest_lemma stage conn settled)
    ∙ turns_rest stage settled conns

pub all_taken_lemma : AllItemsAreTaken
all_taken_lemma games keys connections script conns = turns_rest (stands_after (begun games keys connections) script)
    (scripts_lemma games keys connections script) conns
