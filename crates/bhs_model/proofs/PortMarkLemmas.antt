-- Marks of ports.
use Rattle.std.proofs.Common.{◌⊎◌, ◌≡◌, ℕ, ◌<◌, ◌≤◌, Bool, true, false, ◌||◌, List, [], length, get_or, sym, ap, ◌∙◌}
use Rattle.std.proofs.Common.{subst, inl, inr, arith, ◌==◌, length-set, get_or-set_same, get_or-set_other, Vec, Global}
use Rattle.std.proofs.Common.{◌++◌, ◌-◌, take, take_all, append-nil, length-append}
use Rattle.std.proofs.Common.{Result, Ok, Err, OnOk, is_ok}
use Rattle.std.proofs.Math.Bool.{cond, or-true, or-false}
use Rattle.std.proofs.Math.ListN.{set, replicate, get_or-append, get_or-eq_default}
use Rattle.std.proofs.Math.Seq.{get_or-append_right}
use Rattle.std.proofs.lemmas.Bool.Decides.{eqb_tells}
use Rattle.std.proofs.lemmas.List.{length-map, length-replicate, get_or-replicate, map-set}
use Rattle.std.proofs.lemmas.List as lists
use Rattle.bhs_net.specs.Network.{Network, degree_of}
use Rattle.bhs_model.specs.Worlds.{names}
use Rattle.bhs_model.specs.PortMarks.{marks_of, row_at, mark_at, unmarked, marked_at, HasMoreRoom}

lt_or_ge : (a b : ℕ) → (a < b) ⊎ (b ≤ a)
lt_or_ge a b = grind arith

-- only nodes have ports
pub node_of_port : (net : Network) (node port : ℕ) → port < degree_of net node → node < length net
node_of_port net node port is = elim (lt_or_ge node (length net)) [
  | inl lt ↦ lt
  | inr le ↦ absurd (let none = ap length (get_or-eq_default net [] le) in omega arith)
]

pub unset : (n port : ℕ) → get_or (replicate n false) port false ≡ false
unset n port = elim (lt_or_ge port n) [
  | inl lt ↦ get_or-replicate n port false false lt
  | inr le ↦ get_or-eq_default (replicate n false) false (let same = length-replicate n false in omega arith)
]

pub none_at : (nodes node port : ℕ) → mark_at (unmarked nodes) node port ≡ false
none_at nodes node port = ap (λ (row : List Bool). get_or row port false) (elim (lt_or_ge node nodes) [
  | inl lt ↦ get_or-replicate nodes node [] [] lt
  | inr le ↦ get_or-eq_default (unmarked nodes) [] (rw (length-replicate {A = List Bool} nodes []) le)
])

row_same : (marks : List (List Bool)) (node port : ℕ) → node < length marks
    → row_at (marked_at marks node port) node ≡ set (row_at marks node) port true
row_same marks node port within = get_or-set_same marks node (set (row_at marks node) port true) [] within

-- a mark that is set in one row
pub mark_in_row : (row : List Bool) (port other : ℕ) → port < length row
    → get_or (set row port true) other false ≡ (get_or row other false || (port == other))
mark_in_row row port other within = elim (eqb_tells port other) [
  | inl h ↦ rw h.0 (subst (λ (k : ℕ). get_or (set row port true) k false ≡ true) h.1
      (get_or-set_same row port true false within) ∙ sym (or-true (get_or row other false)))
  | inr h ↦ rw h.0 (get_or-set_other row port other true false (λ same. h.1 (sym same))
      ∙ sym (or-false (get_or row other false)))
]

pub mark_after : (marks : List (List Bool)) (node port at by : ℕ) → node < length marks
    → port < length (row_at marks node) →
    mark_at (marked_at marks node port) at by ≡ (mark_at marks at by || names at by (node, port))
mark_after marks node port at by within has = elim (eqb_tells node at) [
  | inl h ↦ rw h.0 (subst (λ (k : ℕ). mark_at (marked_at marks node port) k by ≡ (mark_at marks k by || (port == by)))
      h.1
      (ap (λ (row : List Bool). get_or row by false) (row_same marks node port within)
      ∙ mark_in_row (row_at marks node) port by has))
  | inr h ↦ rw h.0 (ap (λ (row : List Bool). get_or row by false)
      (get_or-set_other marks node at (set (row_at marks node) port true) [] (λ same. h.1 (sym same)))
      ∙ sym (or-false (mark_at marks at by)))
]

pub length_after : (marks : List (List Bool)) (node port at : ℕ) → node < length marks
    → length (row_at (marked_at marks node port) at) ≡ length (row_at marks at)
length_after marks node port at within = elim (eqb_tells node at) [
  | inl h ↦ subst (λ (k : ℕ). length (row_at (marked_at marks node port) k) ≡ length (row_at marks k)) h.1
      (ap length (row_same marks node port within) ∙ length-set (row_at marks node) port true)
  | inr h ↦ ap length (get_or-set_other marks node at (set (row_at marks node) port true) [] (λ same. h.1 (sym same)))
]

-- a row that is looked up in memory
row_read : (rows : List (Vec Bool Global)) (node : ℕ) (row : Vec Bool Global) → node < length rows
    → row ≡ get_or rows node row → row_at (marks_of rows) node ≡ row.items
row_read rows node row within read = lists.get_or-map (λ (row : Vec Bool Global). row.items) rows node row [] within
    ∙ ap (λ (row : Vec Bool Global). row.items) (sym read)

-- a mark that is set in a row in memory
pub set_in_row : (rows : List (Vec Bool Global)) (node port : ℕ) (row new : Vec Bool Global) → node < length rows
    → row ≡ get_or rows node row → new.items ≡ set row.items port true →
    marks_of (set rows node new) ≡ marked_at (marks_of rows) node port
set_in_row rows node port row new within read is =
    map-set (λ (row : Vec Bool Global). row.items) rows node new
    ∙ ap (λ (items : List Bool). set (marks_of rows) node items)
    (is ∙ ap (λ (items : List Bool). set items port true)
    (sym (row_read rows node row within read)))

-- a row that is made longer
longer_same : (row : List Bool) (more port : ℕ)
    → get_or (row ++ replicate more false) port false ≡ get_or row port false
longer_same row more port = elim (lt_or_ge port (length row)) [
  | inl lt ↦ get_or-append row (replicate more false) false port lt
  | inr le ↦ get_or-append_right row (replicate more false) port false le ∙ unset more (port - length row)
      ∙ sym (get_or-eq_default row false le)
]

pub longer_row : (marks : List (List Bool)) (node more : ℕ) → node < length marks
    → HasMoreRoom marks (set marks node (row_at marks node ++ replicate more false))
longer_row marks node more within = record {
  rows = length-set marks node _;
  same = λ at by. elim (eqb_tells node at) [
    | inl h ↦ subst (λ (k : ℕ). mark_at late k by ≡ mark_at marks k by) h.1
        (ap (λ (row : List Bool). get_or row by false) (get_or-set_same marks node longer [] within)
        ∙ longer_same (row_at marks node) more by)
    | inr h ↦ ap (λ (row : List Bool). get_or row by false)
        (get_or-set_other marks node at longer [] (λ same. h.1 (sym same)))
  ];
  room = λ at. elim (eqb_tells node at) [
    | inl h ↦ subst (λ (k : ℕ). length (row_at marks k) ≤ length (row_at late k)) h.1
        (let is = ap length (get_or-set_same marks node longer [] within) in
        let size = length-append (row_at marks node) (replicate more false) in omega arith)
    | inr h ↦ let is = ap length (get_or-set_other marks node at longer [] (λ same. h.1 (sym same))) in omega arith
  ];
}
  where
    longer : List Bool
    longer = row_at marks node ++ replicate more false

    late : List (List Bool)
    late = set marks node longer

-- a row in memory that is made longer, or stays as it is where memory was refused
pub grown : (ok : Bool) (row new : List Bool) (long size : ℕ) → length row ≤ long
    → new ≡ cond ok (take long row ++ replicate (long - size) false) row
    → (more : ℕ) × (new ≡ row ++ replicate more false)
grown true row new long size le is = (
  long - size,
  is ∙ ap (λ (kept : List Bool). kept ++ replicate (long - size) false) (take_all long row le),
)
grown false row new long size le is = (0, is ∙ sym (append-nil row))

-- room for a port, where a row was made as long
pub has_room : {T E : Type 0} (result : Result T E) (port size long old : ℕ) (row : List Bool) → port < long
    → length row ≡ size → size ≡ cond (is_ok result) long old → OnOk result (port < length row)
has_room (Ok x) port size long old row lt same is = omega arith
has_room (Err e) port size long old row lt same is = tt

pub row_set : (rows : List (Vec Bool Global)) (node : ℕ) (new : Vec Bool Global) → node < length rows
    → row_at (marks_of (set rows node new)) node ≡ new.items
row_set rows node new within =
    ap (λ (marks : List (List Bool)). get_or marks node [])
    (map-set (λ (row : Vec Bool Global). row.items) rows node new)
    ∙ get_or-set_same (marks_of rows) node new.items []
    (let same = length-map rows (λ (row : Vec Bool Global). row.items) in omega arith)

pub more_room : (rows : List (Vec Bool Global)) (node more : ℕ) (row new : Vec Bool Global) → node < length rows
    → row ≡ get_or rows node row → new.items ≡ row.items ++ replicate more false
    → HasMoreRoom (marks_of rows) (marks_of (set rows node new))
more_room rows node more row new within read is =
    subst (λ (late : List (List Bool)). HasMoreRoom (marks_of rows) late)
    (sym (map-set (λ (row : Vec Bool Global). row.items) rows node new
    ∙ ap (λ (items : List Bool). set (marks_of rows) node items)
    (is ∙ ap (λ (items : List Bool). items ++ replicate more false)
    (sym (row_read rows node row within read)))))
    (longer_row (marks_of rows) node more
    (let same = length-map rows (λ (row : Vec Bool Global). row.items) in omega arith))
