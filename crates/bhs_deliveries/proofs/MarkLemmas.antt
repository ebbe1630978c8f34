-- Marks tell the links that pairs name.
use Rattle.std.proofs.Common.{◌≡◌, ℕ, ◌+◌, ◌<◌, ◌≤◌, Bool, true, false, not, ◌||◌, Some, None, List, [], length}
use Rattle.std.proofs.Common.{take, get_or, refl, sym, ap, ◌∙◌, arith, length-set}
use Rattle.std.proofs.Math.Bool.{cond}
use Rattle.std.specs.List.{position_or_len}
use Rattle.std.proofs.lemmas.Bool.{ltb-true, ltb-false}
use Rattle.std.proofs.lemmas.List.{length-replicate}
use Rattle.std.proofs.lemmas.List.Folds.{list_any_more}
use Rattle.std.proofs.lemmas.List.Sums.{fails_before_first}
use Rattle.bhs_net.specs.Network.{Network, degree_of}
use Rattle.bhs_model.specs.PortMarks.{row_at, unmarked, marked_at, HasMoreRoom}
use Rattle.bhs_model.proofs.PortMarkLemmas.{node_of_port, none_at, mark_after}
use Rattle.bhs_deliveries.specs.Links.{names, is_port_of, first_strange}
use Rattle.bhs_deliveries.specs.Marking.{AreMarksOf}

none_fails : (test : Bool) (n : ℕ) → cond test (Some n) None ≡ None → test ≡ false
none_fails true n is = cc
none_fails false n is = refl

not_false : (b : Bool) → not b ≡ false → b ≡ true
not_false true is = refl
not_false false is = cc

-- If no pair is strange, then each pair is a port.
pub all_ports : (net : Network) (pairs : List (ℕ × ℕ)) (i : ℕ) (d : ℕ × ℕ) → first_strange net pairs ≡ None
    → i < length pairs → (get_or pairs i d).1 < degree_of net (get_or pairs i d).0
all_ports net pairs i d none within =
    let test : (ℕ × ℕ) → Bool = λ (pair : ℕ × ℕ). not (is_port_of net pair) in
    let over : length pairs ≤ position_or_len test pairs = ltb-false _ _ (none_fails _ _ none) in
    ltb-true _ _ (not_false _ (fails_before_first test pairs i d (omega arith)))

-- a row for each node, with marks at the links that the pairs name
pub record IsMarked (net : Network) (pairs : List (ℕ × ℕ)) (marks : List (List Bool)) : Type 0 where
  pub rows : length marks ≡ length net
  pub marked : AreMarksOf pairs marks

pub none_marked : (net : Network) → IsMarked net [] (unmarked (length net))
none_marked net = record {
  rows = length-replicate (length net) [];
  marked = λ node port. none_at (length net) node port;
}

-- a pair that is marked next is a port of a node, which has a row
pub has_row : (net : Network) (pairs : List (ℕ × ℕ)) (i : ℕ) (marks : List (List Bool)) → first_strange net pairs ≡ None
    → i < length pairs → IsMarked net (take i pairs) marks → (get_or pairs i (0, 0)).0 < length marks
has_row net pairs i marks none within marked =
    let at = node_of_port net _ _ (all_ports net pairs i (0, 0) none within) in
    let s = marked.rows in omega arith

-- one more pair is marked, after room was made
pub one_marked : (net : Network) (pairs : List (ℕ × ℕ)) (i : ℕ) (marks room : List (List Bool))
    → i < length pairs → IsMarked net (take i pairs) marks → HasMoreRoom marks room
    → (get_or pairs i (0, 0)).0 < length marks
    → (get_or pairs i (0, 0)).1 < length (row_at room (get_or pairs i (0, 0)).0) →
    IsMarked net (take (i + 1) pairs) (marked_at room (get_or pairs i (0, 0)).0 (get_or pairs i (0, 0)).1)
one_marked net pairs i marks room within marked more node port =
    let pair : ℕ × ℕ = get_or pairs i (0, 0) in
    let at : pair.0 < length room = let s = more.rows in omega arith in
    record {
      rows = length-set room pair.0 _ ∙ more.rows ∙ marked.rows;
      marked = λ at' by. mark_after room pair.0 pair.1 at' by at port
          ∙ ap (λ (mark : Bool). mark || names at' by pair) (more.same at' by ∙ marked.marked at' by)
          ∙ sym (list_any_more (names at' by) pairs i (0, 0) within);
    }
