-- What an event more makes of a log, and of what the definitions say of it.
use Rattle.std.proofs.Common.{◌≡◌, ℕ, zero, suc, ◌+◌, Bool, Option, Some, None, List, [], ◌∷◌, ◌++◌, length, map, refl}
use Rattle.std.proofs.Common.{sym, ap, arith}
use Rattle.std.specs.Prelude.{slice_get, IsSome, IfSome, option_and_then, unwrap_or}
use Rattle.std.specs.List.{AllByRecursion}
use Rattle.bhs_model.specs.declared.events.Event.{Event}
use Rattle.bhs_model.specs.declared.marks.Mark.{Mark}
use Rattle.bhs_model.specs.declared.marks.Mark.TheVariants.{Here, Written, Changed, Gone, Noted, Bye, Over, No}
use Rattle.bhs_model.specs.declared.marks.Kept.{Kept}
use Rattle.bhs_model.specs.declared.replies.Reply.TheVariants as replies
use Rattle.bhs_model.specs.Worlds.{World}
use Rattle.bhs_model.specs.Runs.{State, next, run_from, reply}
use Rattle.bhs_model.specs.InOrder.{replies_from}
use Rattle.bhs_model.specs.Kept.{lost, lost_from, lost_after}
use Rattle.bhs_model.specs.Places.{written_after, written_from, named, names_from}
use Rattle.bhs_model.specs.Marks.{events_of, put_of, put_at, text_at, read_if, board_of}
use Rattle.bhs_world.specs.Tables.{Shows, IsNamed}

-- one event more

pub run_from_more : (world : World) (state : State) (events : List Event) (event : Event)
    → run_from world state (events ++ event ∷ []) ≡ next world (run_from world state events) event
run_from_more world state [] event = refl
run_from_more world state (first ∷ events) event = run_from_more world (next world state first) events event

pub lost_from_more : (world : World) (state : State) (lost : ℕ → Bool) (events : List Event) (event : Event)
    → lost_from world state lost (events ++ event ∷ []) ≡ lost_after world (run_from world state events)
    (lost_from world state lost events) event
lost_from_more world state lost [] event = refl
lost_from_more world state lost (first ∷ events) event =
    lost_from_more world (next world state first) (lost_after world state lost first) events event

pub replies_from_more : (world : World) (state : State) (events : List Event) (event : Event)
    → replies_from world state (events ++ event ∷ []) ≡ replies_from world state events
    ++ reply world (run_from world state events) event ∷ []
replies_from_more world state [] event = refl
replies_from_more world state (first ∷ events) event =
    ap (λ rest. reply world state first ∷ rest) (replies_from_more world (next world state first) events event)

pub written_from_more : (world : World) (state : State) (place last : ℕ) (written : ℕ → Option ℕ) (events : List Event)
    (event : Event) → last ≡ place + length events →
    written_from world state place written (events ++ event ∷ []) ≡ written_after world (run_from world state events)
    last (written_from world state place written events) event
written_from_more world state place last written [] event is =
    let same : place ≡ last = omega arith in
    ap (λ (at : ℕ). written_after world state at written event) same
written_from_more world state place last written (first ∷ events) event is =
    written_from_more world (next world state first) (place + 1) last (written_after world state place written first)
    events event (omega arith)

pub names_from_more : (world : World) (state : State) (place : ℕ) (written : ℕ → Option ℕ) (events : List Event)
    (event : Event) →
    names_from world state place written (events ++ event ∷ [])
    ≡ names_from world state place written events ++ named world (run_from world state events)
    (written_from world state place written events) event ∷ []
names_from_more world state place written [] event = refl
names_from_more world state place written (first ∷ events) event =
    ap (λ rest. named world state written first ∷ rest)
    (names_from_more world (next world state first) (place + 1)
    (written_after world state place written first) events event)

pub events_count : (log : List Kept) → length (events_of log) ≡ length log
events_count [] = refl
events_count (first ∷ log) = ap (λ n. suc n) (events_count log)

pub events_more : (log : List Kept) (kept : Kept) → events_of (log ++ kept ∷ []) ≡ events_of log ++ kept.event ∷ []
events_more [] kept = refl
events_more (first ∷ log) kept = ap (λ rest. first.event ∷ rest) (events_more log kept)

-- what stands in a list stands in a longer one

pub slice_get_end : {A : Type 0} (xs : List A) (y : A) → slice_get (xs ++ y ∷ []) (length xs) ≡ Some y
slice_get_end [] y = refl
slice_get_end (first ∷ xs) y = slice_get_end xs y

pub put_at_more : (log : List Kept) (kept : Kept) (place : ℕ) (put : List ℕ) → put_at log place ≡ Some put
    → put_at (log ++ kept ∷ []) place ≡ Some put
put_at_more [] kept place put found = cc
put_at_more (first ∷ log) kept zero put found = found
put_at_more (first ∷ log) kept (suc place) put found = put_at_more log kept place put found

pub put_at_end : (log : List Kept) (kept : Kept) → put_at (log ++ kept ∷ []) (length log) ≡ put_of kept.event
put_at_end log kept = ap (option_and_then (λ (kept : Kept). put_of kept.event)) (slice_get_end log kept)

pub shows_more : (log : List Kept) (kept : Kept) (board : Option ℕ) (shown : List ℕ) → Shows log board shown
    → Shows (log ++ kept ∷ []) board shown
shows_more log kept None shown shows = shows
shows_more log kept (Some place) shown shows = put_at_more log kept place shown shows

-- what a whiteboard shows is the text of the place that it names
pub text_shown : (log : List Kept) (board : Option ℕ) (shown : List ℕ) → Shows log board shown
    → text_at log board ≡ shown
text_shown log None shown shows = sym shows
text_shown log (Some place) shown shows = ap (λ (found : Option (List ℕ)). unwrap_or found []) shows

-- a whiteboard names a Write, or nothing
abbrev pub NamesWrite : List Kept → Option ℕ → Type 0
NamesWrite log board = IfSome board (λ place. IsSome (put_at log place))

pub shows_named : (log : List Kept) (board : Option ℕ) (shown : List ℕ) → Shows log board shown → NamesWrite log board
shows_named log None shown shows = tt
shows_named log (Some place) shown shows = rw shows refl

-- a text that is put by a Write of the log is put by the same one of a longer log
pub put_at_same : (log : List Kept) (kept : Kept) (place : ℕ) → IsSome (put_at log place)
    → put_at (log ++ kept ∷ []) place ≡ put_at log place
put_at_same [] kept place named = cc
put_at_same (first ∷ log) kept zero named = refl
put_at_same (first ∷ log) kept (suc place) named = put_at_same log kept place named

pub text_same : (log : List Kept) (kept : Kept) (board : Option ℕ) → NamesWrite log board
    → text_at (log ++ kept ∷ []) board ≡ text_at log board
text_same log kept None named = refl
text_same log kept (Some place) named = ap (λ (found : Option (List ℕ)). unwrap_or found [])
    (put_at_same log kept place named)

pub read_same : (log : List Kept) (kept : Kept) (mark : Option Mark) → IsNamed log mark
    → read_if (log ++ kept ∷ []) mark ≡ read_if log mark
read_same log kept None named = refl
read_same log kept (Some (Here ports came board)) named = ap (λ (shown : List ℕ). Some (replies.Here ports came shown))
    (text_same log kept board named)
read_same log kept (Some (Changed board)) named =
    ap (λ (shown : List ℕ). Some (replies.Changed shown)) (text_same log kept board named)
read_same log kept (Some Written) named = refl
read_same log kept (Some Gone) named = refl
read_same log kept (Some Noted) named = refl
read_same log kept (Some Bye) named = refl
read_same log kept (Some Over) named = refl
read_same log kept (Some (No why)) named = refl

pub names_more : (log : List Kept) (kept : Kept) (board : Option ℕ) → NamesWrite log board
    → NamesWrite (log ++ kept ∷ []) board
names_more log kept None named = tt
names_more log kept (Some place) named = rw (put_at_same log kept place named) named

pub named_more : (log : List Kept) (kept : Kept) (mark : Option Mark) → IsNamed log mark
    → IsNamed (log ++ kept ∷ []) mark
named_more log kept mark named = names_more log kept (option_and_then board_of mark) named

-- the marks of a log are read alike in a longer one
pub reads_same : (log : List Kept) (kept : Kept) (marked : List Kept) → AllByRecursion (λ one. IsNamed log one.mark)
    marked → map (λ one. read_if (log ++ kept ∷ []) one.mark) marked ≡ map (λ one. read_if log one.mark) marked
reads_same log kept [] named = refl
reads_same log kept (one ∷ marked) named = rw (read_same log kept one.mark named.0)
    (ap (λ rest. read_if log one.mark ∷ rest) (reads_same log kept marked named.1))

pub all_named_more : (log : List Kept) (kept : Kept) (marked : List Kept) → AllByRecursion (λ one. IsNamed log one.mark)
    marked → AllByRecursion (λ one. IsNamed (log ++ kept ∷ []) one.mark) marked
all_named_more log kept [] named = tt
all_named_more log kept (one ∷ marked) named =
    (named_more log kept one.mark named.0, all_named_more log kept marked named.1)

pub all_append : {A : Type 0} (P : A → Type 0) (xs : List A) (y : A) → AllByRecursion P xs → P y
    → AllByRecursion P (xs ++ y ∷ [])
all_append P [] y all last = (last, tt)
all_append P (x ∷ xs) y all last = (all.0, all_append P xs y all.1 last)

pub map_more : {A B : Type 0} (f : A → B) (xs : List A) (y : A) → map f (xs ++ y ∷ []) ≡ map f xs ++ f y ∷ []
map_more f [] y = refl
map_more f (x ∷ xs) y = ap (λ rest. f x ∷ rest) (map_more f xs y)
