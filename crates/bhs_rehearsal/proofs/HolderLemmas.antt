-- Who plays an agent, looked up in rows.
use Rattle.std.proofs.Common.{◌≡◌, ◌≢◌, ℕ, ◌<◌, ◌==◌, Bool, true, false, Option, Some, None, List, [], ◌∷◌, length, map}
use Rattle.std.proofs.Common.{slice_set, slice_index_or, get_or, if◌then◌else◌, refl, sym, ap, ◌∙◌, arith, subst}
use Rattle.std.proofs.Common.{Vec, Global, ◌+◌, ◌||◌, cond, ap₂, add-zero, zero-add, replicate, zero, suc}
use Rattle.std.specs.List.{All, list_any, position, position_from}
use Rattle.std.proofs.lemmas.Iterator.Adapters.{position_from-zero}
use Rattle.std.proofs.lemmas.Bool.Decides.{nat_tests}
use Rattle.std.proofs.lemmas.List.{get_or-set_same, get_or-set_other, get_or-map, map-set, length-map, set-get_or}
use Rattle.std.proofs.Math.Seq.{map-set_same}
use Rattle.bhs_rehearsal.specs.Games.{Game}
use Rattle.bhs_rehearsal.specs.Connections.{Connection, unfed, shut}
use Rattle.bhs_rehearsal.specs.Stages.{has_seat, waits_in, shut_in}
use Rattle.bhs_rehearsal.specs.Rehearsing.{IsSeated}
use Rattle.bhs_rehearsal.specs.Holders.{AreHeld, held_at, same_seat}

-- one row is changed, at one agent
held_at-set : (rows : List (List (Option ℕ))) (row : List (Option ℕ)) (seat : ℕ × ℕ) (conn : ℕ)
    → seat.0 < length rows
    → ((agent : ℕ) → slice_index_or row agent None ≡ (if seat.1 == agent then Some conn
    else slice_index_or (slice_index_or rows seat.0 []) agent None))
    → (other : ℕ × ℕ) → held_at (slice_set rows seat.0 row) other
    ≡ (if same_seat seat other then Some conn else held_at rows other)
held_at-set rows row seat conn within changed other = by_game (seat.0 == other.0) refl where
  by_game : (same : Bool) → (seat.0 == other.0) ≡ same → held_at (slice_set rows seat.0 row) other
      ≡ (if same_seat seat other then Some conn else held_at rows other)
  by_game true is =
      let game : other.0 ≡ seat.0 = grind (arith, nat_tests) in
      rw (is, game) (rw (get_or-set_same rows seat.0 row [] within) (changed other.1))
  by_game false is =
      let game : other.0 ≢ seat.0 = grind (arith, nat_tests) in
      rw is (ap (λ (row : List (Option ℕ)). slice_index_or row other.1 None)
      (get_or-set_other rows seat.0 other.0 row [] game))

-- the same, of rows as they lie in memory
abbrev pub items_of : Vec (Option ℕ) Global → List (Option ℕ)
items_of row = row.items

pub held_at-row : (rows : List (Vec (Option ℕ) Global)) (one new : Vec (Option ℕ) Global) (seat : ℕ × ℕ) (conn : ℕ)
    (old : List (List (Option ℕ)))
    → map items_of rows ≡ old → seat.0 < length old → one ≡ get_or rows seat.0 one
    → ((agent : ℕ) → slice_index_or new.items agent None ≡ (if seat.1 == agent then Some conn
    else slice_index_or one.items agent None))
    → (other : ℕ × ℕ) → held_at (map items_of (slice_set rows seat.0 new)) other
    ≡ (if same_seat seat other then Some conn else held_at old other)
held_at-row rows one new seat conn old is within read changed other =
    let here : seat.0 < length (map items_of rows) =
    subst (λ (now : List (List (Option ℕ))). seat.0 < length now) (sym is) within in
    let at : one.items ≡ slice_index_or (map items_of rows) seat.0 [] =
    ap items_of read ∙ sym (get_or-map items_of rows seat.0 one [] (omega (arith, length-map rows items_of))) in
    subst (λ (now : List (List (Option ℕ))). held_at (map items_of (slice_set rows seat.0 new)) other
    ≡ (if same_seat seat other then Some conn else held_at now other)) is
    (ap (λ (now : List (List (Option ℕ))). held_at now other) (map-set items_of rows seat.0 new)
    ∙ held_at-set (map items_of rows) new.items seat conn here
    (λ agent. changed agent ∙ ap (λ (row : List (Option ℕ)). if seat.1 == agent then Some conn
    else slice_index_or row agent None) at) other)

pub same_rows : (rows : List (Vec (Option ℕ) Global)) (one new : Vec (Option ℕ) Global) (game : ℕ)
    (old : List (List (Option ℕ)))
    → map items_of rows ≡ old → one ≡ get_or rows game one → new.items ≡ one.items
    → map items_of (slice_set rows game new) ≡ old
same_rows rows one new game old is read same = map-set_same items_of rows game new one (same ∙ ap items_of read) ∙ is

-- ---- the first connection that has a seat

-- the first place that is true, counted from a number
abbrev first_true : (i : ℕ) → List Bool → Option ℕ
first_true i [] = None
first_true i (true ∷ tests) = Some i
first_true i (false ∷ tests) = first_true (i + 1) tests

position_from-first : {A : Type 0} (test : A → Bool) (i : ℕ) (items : List A)
    → position_from test i items ≡ first_true i (map test items)
position_from-first test i [] = refl
position_from-first test i (item ∷ items) = by (test item) (position_from-first test (i + 1) items) where
  by : (passes : Bool) → position_from test (i + 1) items ≡ first_true (i + 1) (map test items)
      → cond passes (Some i) (position_from test (i + 1) items) ≡ first_true i (passes ∷ map test items)
  by true is = refl
  by false is = is

position-first : {A : Type 0} (test : A → Bool) (items : List A) → position test items
    ≡ first_true 0 (map test items)
position-first test items = position_from-zero test items ∙ position_from-first test 0 items

first_true-set : (i n : ℕ) (tests : List Bool) → n < length tests → first_true i tests ≡ None
    → first_true i (slice_set tests n true) ≡ Some (i + n)
first_true-set i n [] within none = absurd (omega arith)
first_true-set i n (true ∷ tests) within none = cc
first_true-set i zero (false ∷ tests) within none = ap Some (sym (add-zero i))
first_true-set i (suc n) (false ∷ tests) within none =
    first_true-set (i + 1) n tests (omega arith) none ∙ ap Some (omega arith)

none_true : {A : Type 0} (test : A → Bool) (i : ℕ) (items : List A) → list_any test items ≡ false
    → first_true i (map test items) ≡ None
none_true test i [] none = refl
none_true test i (item ∷ items) none = by (test item) none (none_true test (i + 1) items) where
  by : (passes : Bool) → (passes || list_any test items) ≡ false
      → (list_any test items ≡ false → first_true (i + 1) (map test items) ≡ None)
      → first_true i (passes ∷ map test items) ≡ None
  by true is others = cc
  by false is others = others is

-- ---- the rows, as connections change

abbrev seat_of : Connection → Option (ℕ × ℕ)
seat_of connection = connection.seat

seats_only : (seat : ℕ × ℕ) (connections : List Connection) → map (has_seat seat) connections
    ≡ map (λ (one : Option (ℕ × ℕ)). has_seat seat (record unfed { seat = one })) (map seat_of connections)
seats_only seat [] = refl
seats_only seat (connection ∷ connections) =
    ap (λ (tests : List Bool). has_seat seat connection ∷ tests) (seats_only seat connections)

same_seats : (rows : List (List (Option ℕ))) (old new : List Connection) → map seat_of new ≡ map seat_of old
    → AreHeld rows old → AreHeld rows new
same_seats rows old new same held = record {
  each = λ seat.
      held.each seat ∙ position-first (has_seat seat) old ∙ ap (first_true 0) (seats_only seat old
      ∙ ap (map (λ (one : Option (ℕ × ℕ)). has_seat seat (record unfed { seat = one }))) (sym same)
      ∙ sym (seats_only seat new)) ∙ sym (position-first (has_seat seat) new);
}

seat-shut : (waits : Bool) (connection : Connection)
    → (if waits then shut connection else connection).seat ≡ connection.seat
seat-shut true connection = refl
seat-shut false connection = refl

seats-shut : (number : ℕ) (game : Game) (connections : List Connection)
    → map seat_of (shut_in number game connections) ≡ map seat_of connections
seats-shut number game [] = refl
seats-shut number game (connection ∷ connections) =
    ap₂ (λ (seat : Option (ℕ × ℕ)) (seats : List (Option (ℕ × ℕ))). seat ∷ seats)
    (seat-shut (waits_in number game connection) connection) (seats-shut number game connections)

-- those that wait are shut
pub held-shut : (rows : List (List (Option ℕ))) (number : ℕ) (game : Game) (connections : List Connection)
    → AreHeld rows connections → AreHeld rows (shut_in number game connections)
held-shut rows number game connections held =
    same_seats rows connections _ (seats-shut number game connections) held

no_rows : (games game : ℕ) → slice_index_or (replicate {A = List (Option ℕ)} games []) game [] ≡ []
no_rows zero game = refl
no_rows (suc games) zero = refl
no_rows (suc games) (suc game) = no_rows games game

nobody : (seat : ℕ × ℕ) (i count : ℕ) → first_true i (map (has_seat seat) (replicate count unfed)) ≡ None
nobody seat i zero = refl
nobody seat i (suc count) = nobody seat (i + 1) count

-- nobody plays at first
pub held-first : (games count : ℕ) → AreHeld (replicate games []) (replicate count unfed)
held-first games count = record {
  each = λ seat.
      ap (λ (row : List (Option ℕ)). slice_index_or row seat.1 None) (no_rows games seat.0)
      ∙ sym (position-first (has_seat seat) (replicate count unfed) ∙ nobody seat 0 count);
}

pub none_seated : (games count : ℕ) → All (λ connection. IsSeated games connection.seat) (replicate count unfed)
none_seated games zero k d within = absurd (omega arith)
none_seated games (suc count) zero d within = tt
none_seated games (suc count) (suc k) d within = none_seated games count k d (omega arith)

-- which connections have a seat
abbrev tests_of : (seat : ℕ × ℕ) → List Connection → List Bool
tests_of seat connections = map (has_seat seat) connections

-- a connection that had no seat takes one that nobody had
taken_by : (connections : List Connection) (conn : ℕ) (one new : Connection) (seat other : ℕ × ℕ)
    → conn < length connections → one ≡ get_or connections conn one → one.seat ≡ None → new.seat ≡ Some seat
    → list_any (has_seat seat) connections ≡ false → (same : Bool) → same_seat seat other ≡ same
    → (if same then Some conn else position (has_seat other) connections)
    ≡ position (has_seat other) (slice_set connections conn new)
taken_by connections conn one new seat other within read none sits free same is =
    by same is ∙ sym (position-first (has_seat other) (slice_set connections conn new)
    ∙ ap (first_true 0) (map-set (has_seat other) connections conn new
    ∙ ap (slice_set (tests_of other connections) conn) (tested ∙ is)))
  where
    tested : has_seat other new ≡ same_seat seat other
    tested = ap (λ (one : Option (ℕ × ℕ)). has_seat other (record unfed { seat = one })) sits

    before : get_or (tests_of other connections) conn false ≡ false
    before = get_or-map (has_seat other) connections conn one false within ∙ ap (has_seat other) (sym read)
        ∙ ap (λ (one : Option (ℕ × ℕ)). has_seat other (record unfed { seat = one })) none

    by : (same : Bool) → same_seat seat other ≡ same
        → (if same then Some conn else position (has_seat other) connections)
        ≡ first_true 0 (slice_set (tests_of other connections) conn same)
    by true is =
        let game : seat.0 ≡ other.0 = grind (arith, nat_tests) in
        let agent : seat.1 ≡ other.1 = grind (arith, nat_tests) in
        let one : seat ≡ other = ap₂ (λ (game agent : ℕ). (game, agent)) game agent in
        let nobody : list_any (has_seat other) connections ≡ false =
        subst (λ (taken : ℕ × ℕ). list_any (has_seat taken) connections ≡ false) one free in
        sym (first_true-set 0 conn (tests_of other connections)
        (omega (arith, length-map connections (has_seat other))) (none_true (has_seat other) 0 connections nobody)
        ∙ ap Some (zero-add conn))
    by false is =
        position-first (has_seat other) connections
        ∙ ap (first_true 0) (sym (ap (slice_set (tests_of other connections) conn) (sym before)
        ∙ set-get_or (tests_of other connections) conn false))

pub held-taken : (rows new_rows : List (List (Option ℕ))) (connections : List Connection) (conn : ℕ)
    (one new : Connection) (seat : ℕ × ℕ)
    → conn < length connections → one ≡ get_or connections conn one → one.seat ≡ None → new.seat ≡ Some seat
    → list_any (has_seat seat) connections ≡ false
    → ((other : ℕ × ℕ) → held_at new_rows other ≡ (if same_seat seat other then Some conn else held_at rows other))
    → AreHeld rows connections → AreHeld new_rows (slice_set connections conn new)
held-taken rows new_rows connections conn one new seat within read none sits free changed held = record {
  each = λ other.
      changed other
      ∙ ap (λ (holder : Option ℕ). if same_seat seat other then Some conn else holder) (held.each other)
      ∙ taken_by connections conn one new seat other within read none sits free (same_seat seat other) refl;
}
