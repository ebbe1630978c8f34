-- A setup that is judged fit is within the limits, and so is its normal form.
use Rattle.std.proofs.Common.{suc, ◌≡◌, ◌≢◌, inl, inr, ℕ, ◌+◌, ◌<◌, ◌≤◌, Bool, true, false, not, ◌&&◌, ◌||◌, List, []}
use Rattle.std.proofs.Common.{◌∷◌, ◌++◌, ◌==◌, length, take, drop, get_or, None, refl, sym, ap, ap₂, ◌∙◌, subst, arith}
use Rattle.std.proofs.Common.{nat_lt}
use Rattle.std.proofs.Math.Seq.{drop-cons}
use Rattle.std.proofs.Math.ListN.{replicate, get_or-eq_default}
use Rattle.std.proofs.lemmas.List.{take_more, length-replicate, get_or-replicate}
use Rattle.std.proofs.lemmas.Bool.{and_parts, or_cases, eqb-true, eq-eqb, ltb-true, true≢false, false≢true}
use Rattle.bhs_net.specs.Network.{Network, nodes_of, degree_of, far_of, IsPortLabelled}
use Rattle.bhs_model.specs.declared.limits.TheConstants.{MAX_AGENTS, MAX_QUOTA, MAX_BOARD}
use Rattle.bhs_model.specs.declared.setups.Setup.{Setup}
use Rattle.bhs_model.specs.Worlds.{is_hole, names, is_dark}
use Rattle.bhs_model.specs.Setups.{normal, IsNormal, nodes_where, links_where}
use Rattle.bhs_model.specs.Destroyers.{Signs, AreSignsOf}
use Rattle.bhs_model.specs.PortMarks.{mark_at}
use Rattle.bhs_model.proofs.SameDoomLemmas.{same_holes, same_dark, is_named}
use Rattle.bhs_state.specs.Agents.{AgentState, newcomer}
use Rattle.bhs_state.specs.Boards.{Whiteboard}
use Rattle.bhs_world.specs.Tables.{agent_at, board_at, untouched}
use Rattle.bhs_world.specs.Steps.{IsPlaced, IsSound}
use Rattle.bhs_world.proofs.ListLemmas.{lt_tells}
use Rattle.bhs_world.specs.Faults.{is_hole_fit, are_holes_fit, is_port_of, are_links_fit, IsWithinLimits}

next_is : (i : ℕ) → i + 1 ≡ suc i
next_is i = omega arith

pub one_less : {X : Type 0} (xs : List X) (i : ℕ) (d : X) → i < length xs → drop i xs ≡ get_or xs i d ∷ drop (i + 1) xs
one_less xs i d within = drop-cons xs i d within ∙ ap (λ (n : ℕ). get_or xs i d ∷ drop n xs) (sym (next_is i))

-- black holes, one by one

pub hole_passes : (nodes home : ℕ) (holes : List ℕ) (i : ℕ) (whole : Bool) → i < length holes
    → is_hole_fit nodes home (get_or holes i 0) ≡ true → is_hole (take i holes) (get_or holes i 0) ≡ false →
    whole ≡ are_holes_fit nodes home (take i holes) (drop i holes)
    → whole ≡ are_holes_fit nodes home (take (i + 1) holes) (drop (i + 1) holes)
hole_passes nodes home holes i whole within fit new is =
    is ∙ ap (λ rest. are_holes_fit nodes home (take i holes) rest) (one_less holes i 0 within)
    ∙ ap₂ (λ a b. (a && not b) && are_holes_fit nodes home (take i holes ++ get_or holes i 0 ∷ []) (drop (i + 1) holes))
    fit new
    ∙ ap (λ before. are_holes_fit nodes home before (drop (i + 1) holes)) (sym (take_more holes i 0 within))

pub link_passes : (net : Network) (ends : List (ℕ × ℕ)) (i : ℕ) (whole : Bool) → i < length ends
    → is_port_of net (get_or ends i (0, 0)) ≡ true → is_dark (far_of net) (take i ends) (get_or ends i (0, 0)).0
    (get_or ends i (0, 0)).1 ≡ false →
    whole ≡ are_links_fit net (take i ends) (drop i ends) → whole ≡ are_links_fit net (take (i + 1) ends)
    (drop (i + 1) ends)
link_passes net ends i whole within fit new is =
    is ∙ ap (λ rest. are_links_fit net (take i ends) rest) (one_less ends i (0, 0) within)
    ∙ ap₂ (λ a b. (a && not b) && are_links_fit net (take i ends ++ get_or ends i (0, 0) ∷ []) (drop (i + 1) ends)) fit
    new
    ∙ ap (λ before. are_links_fit net before (drop (i + 1) ends)) (sym (take_more ends i (0, 0) within))

-- Black holes and dark links that pass the checks are within the limits.

not_true : (b : Bool) → not b ≡ true → b ≡ false
not_true false is = refl
not_true true is = cc

pub hole_within : (nodes home hole : ℕ) → is_hole_fit nodes home hole ≡ true → (hole < nodes) × (hole ≢ home)
hole_within nodes home hole fit =
    let parts = and_parts (nat_lt hole nodes) _ fit in
    (ltb-true hole nodes parts.0, λ same. true≢false (sym (eq-eqb hole home same) ∙ not_true (hole == home) parts.1))

pub holes_within : (nodes home : ℕ) (before holes : List ℕ) → are_holes_fit nodes home before holes ≡ true → (node : ℕ)
    → is_hole holes node ≡ true → (node < nodes) × (node ≢ home)
holes_within nodes home before [] fit node is = absurd (false≢true is)
holes_within nodes home before (hole ∷ holes) fit node is =
    let parts = and_parts (is_hole_fit nodes home hole && not (is_hole before hole))
    (are_holes_fit nodes home (before ++ hole ∷ []) holes) fit in
    elim (or_cases (hole == node) (is_hole holes node) is) [
      | inl here ↦ subst (λ (k : ℕ). (k < nodes) × (k ≢ home)) (eqb-true hole node here)
          (hole_within nodes home hole (and_parts (is_hole_fit nodes home hole) (not (is_hole before hole)) parts.0).0)
      | inr there ↦ holes_within nodes home (before ++ hole ∷ []) holes parts.1 node there
    ]

pub links_within : (net : Network) (before ends : List (ℕ × ℕ)) → IsPortLabelled net
    → are_links_fit net before ends ≡ true → (node port : ℕ) → is_dark (far_of net) ends node port ≡ true
    → port < degree_of net node
links_within net before [] labelled fit node port is = absurd (false≢true is)
links_within net before (end ∷ ends) labelled fit node port is =
    let parts = and_parts (is_port_of net end && not (is_dark (far_of net) before end.0 end.1))
    (are_links_fit net (before ++ end ∷ []) ends) fit in
    let has : end.1 < degree_of net end.0 = ltb-true end.1 (degree_of net end.0)
    (and_parts (is_port_of net end) (not (is_dark (far_of net) before end.0 end.1)) parts.0).0 in
    elim (or_cases (names node port end || names node port (far_of net end.0 end.1))
    (is_dark (far_of net) ends node port) is) [
      | inl here ↦ elim (or_cases (names node port end) (names node port (far_of net end.0 end.1)) here) [
        | inl near ↦ subst (λ (e : ℕ × ℕ). e.1 < degree_of net e.0) (is_named node port end near) has
        | inr far ↦ subst (λ (e : ℕ × ℕ). e.1 < degree_of net e.0) (is_named node port (far_of net end.0 end.1) far)
            (labelled.within end.0 end.1 has)
      ]
      | inr there ↦ links_within net (before ++ end ∷ []) ends labelled parts.1 node port there
    ]

-- A setup within the limits has the same black holes and dark links as its normal form.

pub normal_holes : (net : Network) (setup : Setup) → IsWithinLimits net setup → (node : ℕ)
    → is_hole (normal net setup).holes node ≡ is_hole setup.holes node
normal_holes net setup within node = same_holes net setup.holes (λ k is. (within.holes k is).0) node

pub normal_dark : (net : Network) (setup : Setup) → IsPortLabelled net → IsWithinLimits net setup → (node port : ℕ)
    → is_dark (far_of net) (normal net setup).dark node port ≡ is_dark (far_of net) setup.dark node port
normal_dark net setup labelled within node port = same_dark net setup.dark labelled within.dark node port

pub normal_within : (net : Network) (setup : Setup) → IsPortLabelled net → IsWithinLimits net setup
    → IsWithinLimits net (normal net setup)
normal_within net setup labelled within = record {
  home = within.home;
  holes = λ node is. within.holes node (sym (normal_holes net setup within node) ∙ is);
  some_agents = within.some_agents;
  agents = within.agents;
  some_quota = within.some_quota;
  quota = within.quota;
  board = within.board;
  dark = λ node port is. within.dark node port (sym (normal_dark net setup labelled within node port) ∙ is);
}

pub normal_once : (net : Network) (setup : Setup) → IsPortLabelled net → IsWithinLimits net setup
    → IsNormal net (normal net setup)
normal_once net setup labelled within = record {
  same = λ i. record setup {
    holes = nodes_where net (λ node. normal_holes net setup within node i);
    dark = links_where net (λ node port. normal_dark net setup labelled within node port i);
  };
}

pub normal_signs : (net : Network) (setup : Setup) (signs : Signs) → IsPortLabelled net → IsWithinLimits net setup
    → AreSignsOf net setup.holes setup.dark signs → AreSignsOf net (normal net setup).holes
    (normal net setup).dark signs
normal_signs net setup signs labelled within are = record {
  nodes = are.nodes;
  rows = are.rows;
  marked_nodes = λ node. are.marked_nodes node ∙ sym (normal_holes net setup within node);
  marked_ports = λ node port. are.marked_ports node port ∙ sym (normal_dark net setup labelled within node port);
}

-- the same, for marks and lists as the code goes about them
pub link_marked : (net : Network) (holes : List ℕ) (ends lent : List (ℕ × ℕ)) (i : ℕ) (signs new : Signs) (whole : Bool)
    → lent ≡ ends → i < length lent → true ≡ is_port_of net (get_or lent i (0, 0)) →
    false ≡ mark_at signs.ports (get_or lent i (0, 0)).0 (get_or lent i (0, 0)).1
    → AreSignsOf net holes (take i ends) signs
    → AreSignsOf net holes (take i ends ++ get_or lent i (0, 0) ∷ []) new →
    whole ≡ are_links_fit net (take i ends) (drop i ends) →
    AreSignsOf net holes (take (i + 1) ends) new × (whole ≡ are_links_fit net (take (i + 1) ends) (drop (i + 1) ends))
link_marked net holes ends lent i signs new whole same within fit unmarked are after is =
    let lt : i < length ends = subst (λ (list : List (ℕ × ℕ)). i < length list) same within in
    let at : get_or lent i (0, 0) ≡ get_or ends i (0, 0) = ap (λ (list : List (ℕ × ℕ)). get_or list i (0, 0)) same in (
      rw (take_more ends i (0, 0) lt, ← at) after,
      link_passes net ends i whole lt (ap (is_port_of net) (sym at) ∙ sym fit)
          (ap (λ (end : ℕ × ℕ). is_dark (far_of net) (take i ends) end.0 end.1) (sym at) ∙ sym (are.marked_ports _ _)
          ∙ sym unmarked) is,
    )

pub all_fit : (net : Network) (setup : Setup) → IsPortLabelled net → setup.home < nodes_of net
    → are_holes_fit (nodes_of net) setup.home [] setup.holes ≡ true →
    1 ≤ setup.agents → setup.agents ≤ MAX_AGENTS → 1 ≤ setup.quota → setup.quota ≤ MAX_QUOTA → setup.board ≤ MAX_BOARD
    → are_links_fit net [] setup.dark ≡ true → IsWithinLimits net setup
all_fit net setup labelled home holes some_agents agents some_quota quota board links = record {
  home = home;
  holes = holes_within (nodes_of net) setup.home [] setup.holes holes;
  some_agents = some_agents;
  agents = agents;
  some_quota = some_quota;
  quota = quota;
  board = board;
  dark = links_within net [] setup.dark labelled links;
}

-- the agents and the whiteboards of a new world

pub new_agents : (agents : List AgentState) (count : ℕ) → agents ≡ replicate count newcomer → length agents ≡ count
new_agents agents count is = ap length is ∙ length-replicate count newcomer

pub new_boards : (boards : List Whiteboard) (count limit : ℕ)
    → boards ≡ replicate count (record { limit = limit; last = None }) → length boards ≡ count
new_boards boards count limit is = ap length is ∙ length-replicate count (record { limit = limit; last = None })

pub new_limits : (boards : List Whiteboard) (count limit : ℕ)
    → boards ≡ replicate count (record { limit = limit; last = None }) → (node : ℕ) → node < length boards
    → (board_at boards node).limit ≡ limit
new_limits boards count limit is node within =
    let lt : node < count = let same = new_boards boards count limit is in omega arith in
    ap (λ (all : List Whiteboard). (board_at all node).limit) is ∙ ap (λ (board : Whiteboard). board.limit)
    (get_or-replicate count node (record { limit = limit; last = None }) untouched lt)

at_all : {X : Type 0} (n i : ℕ) (x : X) → get_or (replicate n x) i x ≡ x
at_all n i x = elim (lt_tells i n) [
  | inl h ↦ get_or-replicate n i x x h.1
  | inr h ↦ get_or-eq_default (replicate n x) x (let same = length-replicate n x in let le = h.1 in omega arith)
]

pub new_places : (net : Network) (agents : List AgentState) (count : ℕ) → agents ≡ replicate count newcomer
    → (agent : ℕ)
    → IsPlaced net (agent_at agents agent).position
new_places net agents count is agent = subst (λ (course : AgentState). IsPlaced net course.position)
    (sym (ap (λ (all : List AgentState). agent_at all agent) is ∙ at_all count agent newcomer)) tt

-- a new world is sound
pub new_sound : (net : Network) (given setup : Setup) (agents : List AgentState) (boards : List Whiteboard) (count : ℕ)
    → IsPortLabelled net → IsWithinLimits net given → setup ≡ normal net given → count ≡ nodes_of net →
    agents ≡ replicate setup.agents newcomer → boards ≡ replicate count (record { limit = setup.board; last = None }) →
    IsSound (record { net = net; setup = setup; agents = agents; boards = boards; closed = false })
new_sound net given setup agents boards count labelled within is counted is_agents is_boards = record {
  within = rw is (normal_within net given labelled within);
  ordered = rw is (normal_once net given labelled within);
  agents = new_agents agents setup.agents is_agents;
  boards = new_boards boards count setup.board is_boards ∙ counted;
  limits = new_limits boards count setup.board is_boards;
  places = new_places net agents setup.agents is_agents;
}
