-- Marks tell what destroys.
use Rattle.std.proofs.Common.{◌≡◌, ℕ, ◌<◌, Bool, false, ◌||◌, List, [], ◌∷◌, ◌++◌, length, sym, ap, ◌∙◌, arith}
use Rattle.std.proofs.Common.{length-set}
use Rattle.std.proofs.Math.ListN.{replicate}
use Rattle.std.specs.List.{list_any}
use Rattle.std.proofs.lemmas.List.{length-replicate}
use Rattle.bhs_net.specs.Network.{Network, nodes_of, degree_of, far_of, HasPort}
use Rattle.bhs_model.specs.Worlds.{names, is_dark}
use Rattle.bhs_model.specs.PortMarks.{marked_at, row_at, unmarked, HasMoreRoom}
use Rattle.bhs_model.specs.Destroyers.{Signs, no_signs, AreSignsOf}
use Rattle.bhs_model.proofs.PortMarkLemmas.{node_of_port, unset, none_at, mark_after, length_after}

pub no_signs_are : (net : Network) → AreSignsOf net [] [] (no_signs net)
no_signs_are net = record {
  nodes = length-replicate (nodes_of net) false;
  rows = length-replicate (nodes_of net) [];
  marked_nodes = λ node. unset (nodes_of net) node;
  marked_ports = λ node port. none_at (nodes_of net) node port;
}

-- more room changes nothing that is signed
pub more_signs : (net : Network) (holes : List ℕ) (dark : List (ℕ × ℕ)) (signs : Signs) (ports : List (List Bool))
    → HasMoreRoom signs.ports ports → AreSignsOf net holes dark signs
    → AreSignsOf net holes dark (record { nodes = signs.nodes; ports = ports })
more_signs net holes dark signs ports more are = record {
  nodes = are.nodes;
  rows = more.rows ∙ are.rows;
  marked_nodes = are.marked_nodes;
  marked_ports = λ k p. more.same k p ∙ are.marked_ports k p;
}

-- a test of some item, where an item more stands at the end
pub any_more : {A : Type 0} (test : A → Bool) (items : List A) (item : A)
    → list_any test (items ++ item ∷ []) ≡ (list_any test items || test item)
any_more test [] item = or_last (test item)
  where
    or_last : (b : Bool) → (b || false) ≡ b
    or_last b = grind arith
any_more test (one ∷ items) item = ap (λ (rest : Bool). test one || rest) (any_more test items item)
    ∙ grouped (test one) (list_any test items) (test item)
  where
    grouped : (a b c : Bool) → (a || (b || c)) ≡ ((a || b) || c)
    grouped a b c = grind arith

pub link_signed : (net : Network) (holes : List ℕ) (dark : List (ℕ × ℕ)) (signs : Signs) (node port : ℕ)
    → port < degree_of net node → HasPort net (far_of net node port) → port < length (row_at signs.ports node)
    → (far_of net node port).1 < length (row_at signs.ports (far_of net node port).0)
    → AreSignsOf net holes dark signs → AreSignsOf net holes (dark ++ (node, port) ∷ []) (record {
      nodes = signs.nodes;
      ports = marked_at (marked_at signs.ports node port) (far_of net node port).0 (far_of net node port).1;
    })
link_signed net holes dark signs node port has has_far by room are =
    let far = far_of net node port in
    let once = marked_at signs.ports node port in
    let at : node < length signs.ports = let s = are.rows in let p = node_of_port net node port has in omega arith in
    let rows : length once ≡ length signs.ports = length-set signs.ports node _ in
    let row : length (row_at once far.0) ≡ length (row_at signs.ports far.0) =
    length_after signs.ports node port far.0 at in
    let far_at : far.0 < length once = let s = are.rows in
    let p = node_of_port net far.0 far.1 has_far in omega arith in
    let far_by : far.1 < length (row_at once far.0) = omega arith in
    record {
      nodes = are.nodes;
      rows = length-set once far.0 _ ∙ rows ∙ are.rows;
      marked_nodes = are.marked_nodes;
      marked_ports = λ k p.
          mark_after once far.0 far.1 k p far_at far_by
          ∙ ap (λ (b : Bool). b || names k p far)
          (mark_after signs.ports node port k p at by ∙ ap (λ (b : Bool). b || names k p (node, port))
          (are.marked_ports k p))
          ∙ grouped (is_dark (far_of net) dark k p) (names k p (node, port)) (names k p far)
          ∙ sym (any_more (λ (end : ℕ × ℕ). names k p end || names k p (far_of net end.0 end.1)) dark (node, port));
    }
  where
    grouped : (a b c : Bool) → ((a || b) || c) ≡ (a || (b || c))
    grouped a b c = grind arith

-- the same, for lists that are those marks
pub no_signs_made : (net : Network) (nodes : List Bool) (ports : List (List Bool))
    → nodes ≡ replicate (nodes_of net) false → ports ≡ unmarked (nodes_of net)
    → AreSignsOf net [] [] (record { nodes = nodes; ports = ports })
no_signs_made net nodes ports same_nodes same_ports = rw (same_nodes, same_ports) (no_signs_are net)

-- a link that is signed, after room was made for its marks
pub link_added : (net : Network) (holes : List ℕ) (dark : List (ℕ × ℕ)) (signs : Signs) (nodes : List Bool)
    (one two ports : List (List Bool)) (node port : ℕ) (far : ℕ × ℕ) → port < degree_of net node
    → HasPort net (far_of net node port) → far ≡ far_of net node port → AreSignsOf net holes dark signs
    → nodes ≡ signs.nodes → HasMoreRoom signs.ports one → port < length (row_at one node) → HasMoreRoom one two
    → far.1 < length (row_at two far.0) → ports ≡ marked_at (marked_at two node port) far.0 far.1
    → AreSignsOf net holes (dark ++ (node, port) ∷ []) (record { nodes = nodes; ports = ports })
link_added net holes dark signs nodes one two ports node port far has has_far is_far are same_nodes more by more' room
    same_ports =
    rw (same_nodes, same_ports, is_far)
    (link_signed net holes dark (record { nodes = signs.nodes; ports = two }) node port has has_far
    (let kept = more'.room node in omega arith) (rw (← is_far) room)
    (more_signs net holes dark (record { nodes = signs.nodes; ports = one }) two more'
    (more_signs net holes dark signs one more are)))
