-- The numbers of a head have 16 bits.
use Rattle.std.proofs.Common.{zero, suc, ◌≡◌, ◌≢◌, ℕ, ◌<◌, ◌≤◌, ◌==◌, Bool, true, false, if◌then◌else◌, List, [], ◌∷◌}
use Rattle.std.proofs.Common.{refl, sym, subst, ap, ◌∙◌, inl, inr, arith}
use Rattle.std.specs.Prelude.{map}
use Rattle.std.specs.List.{list_any}
use Rattle.std.proofs.lemmas.Bool.{or_left, or_right, eqb-true, eq-eqb, false≢true, cases_lt}
use Rattle.std.proofs.lemmas.List.{get_or_past}
use Rattle.bhs_net.specs.Links.{End}
use Rattle.bhs_net.specs.Network.{Network, nodes_of, row_of, degree_of, far_of, IsNetwork, IsPortLabelled}
use Rattle.bhs_model.specs.declared.setups.Setup.{Setup}
use Rattle.bhs_model.specs.Worlds.{is_hole, names, is_dark}
use Rattle.bhs_model.specs.Setups.{links_where}
use Rattle.bhs_model.proofs.PortMarkLemmas.{node_of_port}
use Rattle.bhs_model.proofs.SameDoomLemmas.{listed_out, named, is_named}
use Rattle.bhs_world.specs.Faults.{IsWithinLimits}
use Rattle.bhs_replay.specs.Head.{link_from}
use Rattle.bhs_replay.proofs.HeadReads.{AllOf, IsSmall, IsSmallEnd, IsSmallLink, HeadFits}

-- ---- there are at most as many different numbers below a limit as the limit says

abbrev IsBelow : (count limit : ℕ) → (ℕ → ℕ) → Type 0
IsBelow count limit f = (i : ℕ) → i < count → f i < limit

abbrev IsApart : ℕ → (ℕ → ℕ) → Type 0
IsApart count f = (i j : ℕ) → i < count → j < count → f i ≡ f j → i ≡ j

-- the last number in place of the one at the limit
swapped : (f : ℕ → ℕ) (last limit i : ℕ) → ℕ
swapped f last limit i = if f i == limit then f last else f i

swapped-at : (f : ℕ → ℕ) (last limit i : ℕ) (b : Bool) → (f i == limit) ≡ b
    → swapped f last limit i ≡ (if b then f last else f i)
unfolding swapped
swapped-at f last limit i b is = rw is refl

below_less : (a limit : ℕ) → a < suc limit → a ≢ limit → a < limit
below_less a limit lt differ = grind arith

not_eq : (a b : ℕ) → (a == b) ≡ false → a ≢ b
not_eq a b is same = false≢true (sym is ∙ eq-eqb a b same)

swapped-below : (f : ℕ → ℕ) (last limit i : ℕ) (b : Bool) → (f i == limit) ≡ b → IsBelow (suc last) (suc limit) f
    → IsApart (suc last) f → i < last → swapped f last limit i < limit
swapped-below f last limit i true is below apart lt =
    let at : f i ≡ limit = eqb-true (f i) limit is in
    let other : f last ≢ limit = λ same. let twice : i ≡ last = apart i last (omega arith) (omega arith)
    (at ∙ sym same) in omega arith in
    subst (λ (k : ℕ). k < limit) (sym (swapped-at f last limit i true is))
    (below_less (f last) limit (below last (omega arith)) other)
swapped-below f last limit i false is below apart lt =
    subst (λ (k : ℕ). k < limit) (sym (swapped-at f last limit i false is))
    (below_less (f i) limit (below i (omega arith)) (not_eq (f i) limit is))

swapped-apart : (f : ℕ → ℕ) (last limit i j : ℕ) (b d : Bool) → (f i == limit) ≡ b → (f j == limit) ≡ d
    → IsApart (suc last) f → i < last → j < last → swapped f last limit i ≡ swapped f last limit j → i ≡ j
swapped-apart f last limit i j true true is js apart lt ltj same =
    apart i j (omega arith) (omega arith) (eqb-true (f i) limit is ∙ sym (eqb-true (f j) limit js))
swapped-apart f last limit i j true false is js apart lt ltj same =
    absurd (let twice : last ≡ j = apart last j (omega arith) (omega arith)
    (sym (swapped-at f last limit i true is) ∙ same ∙ swapped-at f last limit j false js) in omega arith)
swapped-apart f last limit i j false true is js apart lt ltj same =
    absurd (let twice : i ≡ last = apart i last (omega arith) (omega arith)
    (sym (swapped-at f last limit i false is) ∙ same ∙ swapped-at f last limit j true js) in omega arith)
swapped-apart f last limit i j false false is js apart lt ltj same =
    apart i j (omega arith) (omega arith) (sym (swapped-at f last limit i false is) ∙ same
    ∙ swapped-at f last limit j false js)

few_below : (count limit : ℕ) (f : ℕ → ℕ) → IsBelow count limit f → IsApart count f → count ≤ limit
few_below zero limit f below apart = omega arith
few_below (suc last) zero f below apart = absurd (let none = below 0 (omega arith) in omega arith)
few_below (suc last) (suc limit) f below apart =
    let fewer = few_below last limit (swapped f last limit)
    (λ i lt. swapped-below f last limit i _ refl below apart lt)
    (λ i j lt ltj same. swapped-apart f last limit i j _ _ refl refl apart lt ltj same)
    in omega arith

-- a node has no more ports than there are nodes
degree_small : (net : Network) (node : ℕ) → IsPortLabelled net → degree_of net node ≤ nodes_of net
degree_small net node labelled =
    few_below (degree_of net node) (nodes_of net) (λ port. (far_of net node port).0)
    (λ port has. node_of_port net _ _ (labelled.within node port has))
    (λ port other has others same. labelled.simple node port other has others same)

-- ---- so its numbers are small

module _ (net : Network) (network : IsNetwork net) where
  node_small : (node : ℕ) → node < nodes_of net → IsSmall node
  node_small node lt = let many = network.labelled.many in omega arith

  end_small : (end : ℕ × ℕ) → end.1 < degree_of net end.0 → IsSmallEnd end
  end_small end has =
      let few = degree_small net end.0 network.labelled in
      let many = network.labelled.many in
      (node_small end.0 (node_of_port net end.0 end.1 has), omega arith)

  link_small : (end : ℕ × ℕ) → end.1 < degree_of net end.0 → IsSmallLink (link_from net end)
  link_small end has =
      let near = end_small end has in
      let far = end_small (far_of net end.0 end.1) (network.labelled.within end.0 end.1 has) in
      (near.0, (near.1, (far.0, far.1)))

  holes_small : (holes : List ℕ) → ((node : ℕ) → is_hole holes node ≡ true → node < nodes_of net) → AllOf IsSmall holes
  holes_small [] within = tt
  holes_small (hole ∷ holes) within = (
    node_small hole (within hole (or_left _ _ (eq-eqb hole hole refl))),
    holes_small holes
        (λ node is. within node (or_right (hole == node) _ is)),
  )

  ends_small : (ends : List (ℕ × ℕ)) → ((node port : ℕ) → is_dark (far_of net) ends node port ≡ true
      → port < degree_of net node) → AllOf IsSmallEnd ends
  ends_small [] within = tt
  ends_small (end ∷ ends) within = (
    end_small end (within end.0 end.1 (or_left _ _ (or_left _ _ (named end.0 end.1)))),
    ends_small ends
        (λ node port is. within node port (or_right _ _ is)),
  )

  all_links : (ends : List (ℕ × ℕ)) → ((end : ℕ × ℕ) → list_any (names end.0 end.1) ends ≡ true
      → end.1 < degree_of net end.0) → AllOf IsSmallLink (map (link_from net) ends)
  all_links [] within = tt
  all_links (end ∷ ends) within = (
    link_small end (within end (or_left _ _ (named end.0 end.1))),
    all_links ends
        (λ other is. within other (or_right _ _ is)),
  )

  has_port : (end : ℕ × ℕ) → list_any (names end.0 end.1) (links_where net (λ node port. true)) ≡ true
      → end.1 < degree_of net end.0
  has_port end listed =
      let found = listed_out net (λ node port. true) (names end.0 end.1) listed in
      subst (λ (e : ℕ × ℕ). e.1 < degree_of net e.0) (is_named end.0 end.1 (found.0, found.1) found.4) found.2

  pub head_fits : (setup : Setup) → IsWithinLimits net setup → HeadFits net setup
  head_fits setup within =
      let agents = within.agents in
      let quota = within.quota in
      let board = within.board in
      let many = network.labelled.many in
      record {
        agents = omega arith;
        board = omega arith;
        home = node_small setup.home within.home;
        quota = omega arith;
        nodes = omega arith;
        holes = holes_small setup.holes (λ node is. (within.holes node is).0);
        dark = ends_small setup.dark within.dark;
        links = all_links (links_where net (λ node port. true)) has_port;
      }

  pub ports_small : (node : ℕ) → IsSmall (degree_of net node)
  ports_small node =
      let few = degree_small net node network.labelled in
      let many = network.labelled.many in
      omega arith

  -- no end stands behind the last port of a node
  none_past : (node port : ℕ) → degree_of net node ≤ port → far_of net node port ≡ (0, 0)
  none_past node port past = get_or_past (row_of net node) port (0, 0) past

  pub label_small : (node port : ℕ) → IsSmall (far_of net node port).1
  label_small node port = elim (cases_lt port (degree_of net node)) [
    | inl has ↦ (end_small (far_of net node port) (network.labelled.within node port has)).1
    | inr past ↦ let zero_label = ap (λ (end : End). end.1) (none_past node port past) in omega arith
  ]
