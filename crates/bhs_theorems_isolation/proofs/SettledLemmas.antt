-- Settled stages, and what keeps a stage settled.
use Rattle.std.proofs.Common.{inl, inr, ◌≡◌, ◌≢◌, ◌∙◌, ℕ, ◌<◌, Bool, true, false, ◌&&◌, nat_lt, Option, Some, None}
use Rattle.std.proofs.Common.{List, [], ◌∷◌, length, set, get_or, refl, sym, ap, ap₂, subst}
use Rattle.std.specs.List.{list_any}
use Rattle.std.proofs.lemmas.Bool.{cond_both, eq-eqb, cases_lt}
use Rattle.std.proofs.lemmas.List.{set-get_or, get_or_past, get_or-set_same, get_or-set_other}
use Rattle.std.proofs.lemmas.List.Folds.{list_any_at}
use Rattle.bhs_wire.specs.Lines.{said_by}
use Rattle.bhs_wire.specs.declared.commands.First.{First}
use Rattle.bhs_wire.specs.declared.commands.First.TheVariants as firsts
use Rattle.bhs_setups.specs.KeyTable.{seat_at}
use Rattle.bhs_session.specs.Texts.{denial_text}
use Rattle.bhs_rehearsal.specs.Games.{Game, is_away}
use Rattle.bhs_rehearsal.specs.Connections.{Item, Says, Ends, Connection, unfed, shut, TakenItems, taken, after}
use Rattle.bhs_rehearsal.specs.Stages.{Stage, game_at, connection_at, with_game, with_connection, has_seat, EntryResult}
use Rattle.bhs_rehearsal.specs.Stages.{Waits, Sits, IsDenied, Goes, let_in, entry_by, entry, Moved, plays, enters}
use Rattle.bhs_rehearsal.specs.Stages.{moves_in}
use Rattle.bhs_theorems_isolation.specs.ScriptLaws.{awaits_arrival, IsSettled, SettledConnectionsRest}
use Rattle.bhs_theorems_isolation.proofs.CuttingLemmas.{by_same}
use Rattle.bhs_theorems_isolation.proofs.TurnLemmas.{Turn, placed, plays_turn, enters_turn, turn_in, turn_of, played_at}
use Rattle.bhs_theorems_isolation.proofs.TurnLemmas.{bare, seat_after}
use Rattle.bhs_theorems_isolation.proofs.AwayLemmas.{taken_alike, taken_up, taken_rests}
use Rattle.bhs_model.proofs.LegalLemmas.{either}

-- ---- who awaits an arrival

-- in a stage with another match in a place, who plays there awaits as that match says, and the others as before
awaits_by : (stage : Stage) (game : ℕ) (new : Game) (connections : List Connection) (own : Option (ℕ × ℕ)) →
    game_at (with_game stage game new) game ≡ new →
    ((agent : ℕ) → own ≡ Some (game, agent) → is_away new agent ≡ is_away (game_at stage game) agent) →
    awaits_arrival (record (with_game stage game new) { connections = connections }) (bare own) ≡ awaits_arrival stage
    (bare own)
awaits_by stage game new connections None found same = refl
awaits_by stage game new connections (Some own) found same =
    by_same own.0 game
    (λ is.
    ap (λ (number : ℕ). is_away (game_at (with_game stage game new) number) own.1) is
    ∙ ap (λ (one : Game). is_away one own.1) found
    ∙ same own.1 (ap (λ (number : ℕ). Some (number, own.1)) is)
    ∙ ap (λ (number : ℕ). is_away (game_at stage number) own.1) (sym is))
    (λ apart. ap (λ (one : Game). is_away one own.1) (get_or-set_other stage.games game own.0 new _ apart))

pub awaits_kept : (stage : Stage) (game : ℕ) (new : Game) (connections : List Connection) (connection : Connection) →
    game_at (with_game stage game new) game ≡ new →
    ((agent : ℕ) → connection.seat ≡ Some (game, agent) → is_away new agent ≡ is_away (game_at stage game) agent) →
    awaits_arrival (record (with_game stage game new) { connections = connections }) connection ≡ awaits_arrival
    stage connection
awaits_kept stage game new connections connection found same =
    awaits_by stage game new connections connection.seat found same

-- ---- one connection in its place

placed_each : (P : ℕ → Connection → Type 0) (connections : List Connection) (conn : ℕ) (new : Connection)
    → conn < length connections → P conn new →
    ((other : ℕ) → other ≢ conn → P other (get_or connections other unfed)) → (other : ℕ)
    → P other (get_or (set connections conn new) other unfed)
placed_each P connections conn new within mine others other =
    by_same other conn
    (λ is.
    subst (λ (number : ℕ). P number (get_or (set connections conn new) number unfed)) (sym is)
    (subst (λ (one : Connection). P conn one) (sym (get_or-set_same connections conn new unfed within)) mine))
    (λ apart.
    subst (λ (one : Connection). P other one) (sym (get_or-set_other connections conn other new unfed apart))
    (others other apart))

-- the stage is settled but for a connection
pub record SettledBut (stage : Stage) (conn : ℕ) : Type 0 where
  pub others_taken : (other : ℕ) → other ≢ conn → awaits_arrival stage (connection_at stage other) ≡ false
      → (connection_at stage other).queue ≡ []
  pub one_each : (one other : ℕ) (seat : ℕ × ℕ) → (connection_at stage one).seat ≡ Some seat
      → (connection_at stage other).seat ≡ Some seat → one ≡ other

-- nobody else plays what the connection plays
abbrev IsAlone : Stage → (conn : ℕ) → Option (ℕ × ℕ) → Type 0
IsAlone stage conn own = (other : ℕ) → other ≢ conn → (seat : ℕ × ℕ) → own ≡ Some seat
    → (connection_at stage other).seat ≡ Some seat → ⊥

placed_settles : (stage : Stage) (conn : ℕ) (turn : Turn) → conn < length stage.connections → SettledBut stage conn →
    (awaits_arrival (placed stage conn turn).stage turn.connection ≡ false → turn.connection.queue ≡ []) →
    ((other : ℕ) → other ≢ conn → awaits_arrival (placed stage conn turn).stage
    (connection_at stage other) ≡ awaits_arrival stage (connection_at stage other)) →
    IsAlone stage conn turn.connection.seat →
    IsSettled (placed stage conn turn).stage
placed_settles stage conn turn within but own_taken same alone =
    let new = (placed stage conn turn).stage in
    record {
      all_taken = placed_each (λ (other : ℕ) (one : Connection). awaits_arrival new one ≡ false → one.queue ≡ [])
          stage.connections conn turn.connection within
          own_taken (λ other apart stays. but.others_taken other apart (sym (same other apart) ∙ stays));
      one_each = λ one other seat mine theirs.
          placed_each (λ (first : ℕ) (is : Connection). is.seat ≡ Some seat → (connection_at new other).seat ≡ Some seat
          → first ≡ other) stage.connections conn turn.connection within
          (λ own again. placed_each (λ (second : ℕ) (is : Connection). is.seat ≡ Some seat → conn ≡ second)
          stage.connections conn turn.connection within
          (λ it. refl) (λ second apart it. absurd (alone second apart seat own it)) other again)
          (λ first away_from its again. placed_each
          (λ (second : ℕ) (is : Connection). is.seat ≡ Some seat → first ≡ second) stage.connections conn
          turn.connection within
          (λ own. absurd (alone first away_from seat own its))
          (λ second apart it. but.one_each first second seat its it) other again)
          one mine theirs;
    }

-- ---- a turn

module _ (stage : Stage) (conn : ℕ) (connection : Connection) (within : conn < length stage.connections)
    (but : SettledBut stage conn) where
  plays_settles : (seat : ℕ × ℕ) → IsAlone stage conn (Some seat)
      → IsSettled (placed stage conn (plays_turn stage seat connection)).stage
  plays_settles seat alone =
      let turn = plays_turn stage seat connection in
      let done = taken (game_at stage seat.0) seat.1 connection.queue in
      let found = played_at stage seat connection.queue in
      let new = (placed stage conn turn).stage in
      placed_settles stage conn turn within but
      (cond_both done.is_done _ _ (λ (one : Connection). awaits_arrival new one ≡ false → one.queue ≡ [])
      (λ is_done stays. refl)
      (λ goes_on stays. taken_up (game_at stage seat.0) seat.1 connection.queue goes_on
      (ap (λ (one : Game). is_away one seat.1) (sym found) ∙ stays)))
      (λ other apart. awaits_kept stage seat.0 done.game new.connections (connection_at stage other) found
      (λ agent theirs. (taken_alike (game_at stage seat.0) seat.1 connection.queue agent
      (λ same. alone other apart seat refl (theirs ∙ ap (λ (number : ℕ). Some (seat.0, number)) same))).away))
      (λ other apart own mine theirs. alone other apart own (sym (seat_after connection seat done) ∙ mine) theirs)

  -- a connection that is not let in, and takes or waits for nothing
  stays_settles : (new : Connection) (text : List ℕ) → new.queue ≡ [] → new.seat ≡ None →
      IsSettled (placed stage conn (record { games = stage.games; connection = new; text = text })).stage
  stays_settles new text none outside =
      placed_settles stage conn (record { games = stage.games; connection = new; text = text }) within but
      (λ stays. none) (λ other apart. refl) (λ other apart seat mine theirs. absurd
      (let never = sym outside ∙ mine in cc))

-- ---- an entry

-- who is let in plays what nobody played
abbrev IsFree : Stage → (seat : ℕ × ℕ) → Type 0
IsFree stage seat = list_any (has_seat seat) stage.connections ≡ false

-- what an entry says: one that waits has no items
abbrev EntrySays : Stage → List Item → EntryResult → Type 0
EntrySays stage items Waits = items ≡ []
EntrySays stage items (Sits seat) = IsFree stage seat
EntrySays stage items how = Unit {0}

let_in_says : (stage : Stage) (items : List Item) (seat : Option (ℕ × ℕ)) → EntrySays stage items (let_in stage seat)
let_in_says stage items None = tt
let_in_says stage items (Some seat) =
    either (EntrySays stage items) (nat_lt seat.0 (length stage.games)) _ _
    (cond_both (list_any (has_seat seat) stage.connections) _ _ (EntrySays stage items) (λ used. tt)
    (λ unused. unused)) tt

first_says : (stage : Stage) (items : List Item) (first : First) → EntrySays stage items (entry_by stage first)
first_says stage items (firsts.Enter key) = let_in_says stage items (seat_at key stage.keys)
first_says stage items (firsts.Tell command) = tt

entry_says : (stage : Stage) (items : List Item) → EntrySays stage items (entry stage items)
entry_says stage [] = refl
entry_says stage (Says line ∷ items) = first_says stage (Says line ∷ items) (said_by line)
entry_says stage (Ends ∷ items) = tt

pub has_own : (seat : ℕ × ℕ) (connection : Connection) → connection.seat ≡ Some seat
    → has_seat seat connection ≡ true
has_own seat connection mine =
    ap (λ (own : Option (ℕ × ℕ)). has_seat seat (bare own)) mine
    ∙ ap₂ (λ (game agent : Bool). game && agent) (eq-eqb seat.0 seat.0 refl) (eq-eqb seat.1 seat.1 refl)

-- A connection with a seat exists.
pub seat_within : (connections : List Connection) (conn : ℕ) (seat : ℕ × ℕ)
    → (get_or connections conn unfed).seat ≡ Some seat → conn < length connections
seat_within connections conn seat theirs = elim (cases_lt conn (length connections)) [
  | inl below ↦ below
  | inr past ↦ absurd (let never = ap (λ (it : Connection). it.seat) (sym (get_or_past connections conn unfed past))
      ∙ theirs in cc)
]

-- nobody plays a free seat
free_alone : (connections : List Connection) (seat : ℕ × ℕ) → list_any (has_seat seat) connections ≡ false → (other : ℕ)
    → (get_or connections other unfed).seat ≡ Some seat → ⊥
free_alone connections seat free other theirs =
    let used : list_any (has_seat seat) connections ≡ true =
    list_any_at (has_seat seat) connections other unfed (seat_within connections other seat theirs)
    (has_own seat (get_or connections other unfed) theirs) in
    cc

module _ (stage : Stage) (conn : ℕ) (connection : Connection) (within : conn < length stage.connections)
    (but : SettledBut stage conn) where
  enters_settles : connection.seat ≡ None → (how : EntryResult)
      → EntrySays (with_connection stage conn connection) connection.queue how →
      IsSettled (placed stage conn (enters_turn stage connection how)).stage
  enters_settles outside Waits none = stays_settles stage conn connection within but connection [] none outside
  enters_settles outside (Sits seat) free =
      plays_settles stage conn connection within but seat (λ other apart own mine theirs.
      let same : own ≡ seat = cc in
      free_alone (set stage.connections conn connection) seat free other
      (ap (λ (one : Connection). one.seat) (get_or-set_other stage.connections conn other connection unfed apart)
      ∙ theirs ∙ ap Some same))
  enters_settles outside (IsDenied denial) says = stays_settles stage conn connection within but (shut connection)
      (denial_text denial) refl outside
  enters_settles outside Goes says = stays_settles stage conn connection within but (shut connection) [] refl outside

  turn_in_settles : connection.seat ≡ (connection_at stage conn).seat → (own : Option (ℕ × ℕ)) → connection.seat ≡ own
      → IsSettled (placed stage conn (turn_in stage conn connection own)).stage
  turn_in_settles as_before None outside = enters_settles outside
      (entry (with_connection stage conn connection) connection.queue)
      (entry_says (with_connection stage conn connection) connection.queue)
  turn_in_settles as_before (Some seat) seated =
      plays_settles stage conn connection within but seat
      (λ other apart own mine theirs. apart (sym (but.one_each conn other own (sym as_before ∙ seated ∙ mine) theirs)))

  -- whoever moves, the stage is settled then
  pub turn_settles : connection.seat ≡ (connection_at stage conn).seat
      → IsSettled (placed stage conn (turn_of stage conn connection)).stage
  turn_settles as_before = turn_in_settles as_before connection.seat refl

-- ---- in a settled stage nobody moves

module _ (stage : Stage) (conn : ℕ) (settled : IsSettled stage) where
  rests_playing : (seat : ℕ × ℕ) → (connection_at stage conn).seat ≡ Some seat
      → plays stage conn seat ≡ record { stage = stage; text = [] }
  rests_playing seat seated =
      let old = connection_at stage conn in
      let moved : TakenItems → Moved = λ (done : TakenItems). record {
        stage = with_connection (with_game stage seat.0 done.game) conn (after (record old { seat = Some seat }) done);
        text = done.text;
      } in
      let waiting : awaits_arrival stage old ≡ is_away (game_at stage seat.0) seat.1 =
      ap (λ (own : Option (ℕ × ℕ)). awaits_arrival stage (record old { seat = own })) seated in
      ap moved (taken_rests (game_at stage seat.0) seat.1 old.queue (λ stays. settled.all_taken conn (waiting ∙ stays)))
      ∙ ap₂ (λ (games : List Game) (connections : List Connection). let still : Moved = record
      { stage = record stage { games = games; connections = connections }; text = [] } in still)
      (set-get_or stage.games seat.0 _)
      (ap (λ (own : Option (ℕ × ℕ)). set stage.connections conn (record old { seat = own })) (sym seated)
      ∙ set-get_or stage.connections conn unfed)

  rests_in : (own : Option (ℕ × ℕ)) → (connection_at stage conn).seat ≡ own
      → moves_in stage conn own ≡ record { stage = stage; text = [] }
  rests_in None outside =
      let none : (connection_at stage conn).queue ≡ [] =
      settled.all_taken conn (ap (λ (own : Option (ℕ × ℕ)). awaits_arrival stage
      (record (connection_at stage conn) { seat = own })) outside) in
      ap (λ (items : List Item). enters stage conn (entry stage items)) none
  rests_in (Some seat) seated = rests_playing seat seated

pub rest_lemma : SettledConnectionsRest
rest_lemma stage conn settled = rests_in stage conn settled (connection_at stage conn).seat refl
