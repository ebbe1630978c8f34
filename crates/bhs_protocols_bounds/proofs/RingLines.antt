-- A ring is a line from the home base: the nodes by how many steps they are from it on side 0.
use Rattle.std.proofs.Common.{ℕ, zero, suc, ◌+◌, ◌-◌, ◌<◌, ◌≤◌, ◌≡◌, ◌⊎◌, refl, sym, ap, ◌∙◌, subst, inl, inr, arith}
use Rattle.std.specs.Prelude.{◌≢◌}
use Rattle.std.proofs.lemmas.Bool.{cases_lt}
use Rattle.std.proofs.lemmas.Bool.Decides.{eqb_tells}
use Rattle.bhs_model.specs.Worlds.{World}
use Rattle.bhs_protocols.specs.Rings.{Ways, IsRing}
use Rattle.bhs_protocols.proofs.RingLemmas.{few_values}
use Rattle.bhs_protocols_bounds.proofs.Lines.{Line, AreNext, IsLine}
use Rattle.bhs_protocols_bounds.proofs.Placing.{IsNet}

module _ (world : World) (n : ℕ) (ways : Ways) (ring : IsRing world n ways) where
  pub steps_to : (node : ℕ) → (node < n) ⊎ (n ≤ node) → ℕ
  steps_to node (inl below) = (ring.all node below).0
  steps_to node (inr over) = 0

  abbrev pub ring_line : Line
  ring_line = record { number = λ node. steps_to node (cases_lt node n); at = ways.node 0 }

  record IsSteps (node steps : ℕ) : Type 0 where
    below : steps < n
    is : ways.node 0 steps ≡ node

  steps_are : (node : ℕ) → node < n → IsSteps node (steps_to node (cases_lt node n))
  unfolding steps_to
  steps_are node inside = by_case (cases_lt node n)
    where
      by_case : (it : (node < n) ⊎ (n ≤ node)) → IsSteps node (steps_to node it)
      by_case (inl below) = record { below = (ring.all node below).1; is = (ring.all node below).2 }
      by_case (inr over) = absurd (omega (arith, over, inside))

  -- a node of the ring that is reached by a link, with its number
  record Leads (start port : ℕ) : Type 0 where
    steps : ℕ
    below : steps < n
    next : AreNext n start steps
    is : (world.net.far (ways.node 0 start) port).0 ≡ ways.node 0 steps

  port_is : (a q : ℕ) → a < 2 → q < 2 → (q ≡ a) ⊎ (q ≡ 1 - a)
  port_is a q small small_too = elim (eqb_tells q a) [
    | inl h ↦ inl h.1
    | inr h ↦ inr (let apart : q ≡ a → ⊥ = h.1 in omega (arith, small, small_too, apart))
  ]

  three : 3 ≤ n
  three = ring.three

  leads : (s q : ℕ) → s < n → q < 2 → Leads s q
  leads zero q inside small = elim (port_is 0 q (omega arith) small) [
    | inl h ↦ record {
      steps = 1;
      below = let t = three in omega (arith, t);
      next = record { either = inr (inl (omega arith)) };
      is = ap (λ (p : ℕ). (world.net.far (ways.node 0 0) p).0) (h ∙ sym (ring.first 0 (omega arith)))
          ∙ ap (λ (e : ℕ × ℕ). e.0) (ring.out 0 0 (omega arith) (let t = three in omega (arith, t)));
    }
    | inr h ↦ record {
      steps = n - 1;
      below = let t = three in omega (arith, t);
      next = record { either = inr (inr (inl (refl, let t = three in omega (arith, t)))) };
      is = ap (λ (p : ℕ). (world.net.far (ways.node 0 0) p).0) (h ∙ sym (ring.first 1 (omega arith)))
          ∙ ap (λ (v : ℕ). (world.net.far v (ways.ahead 1 0)).0) (ring.home 0 ∙ sym (ring.home 1))
          ∙ ap (λ (e : ℕ × ℕ). e.0) (ring.out 1 0 (omega arith) (let t = three in omega (arith, t)))
          ∙ ring.around 1 (n - 1) (let t = three in omega (arith, t)) (omega arith) (let t = three in omega (arith, t));
    }
  ]
  leads (suc s) q inside small = elim (cases_lt (suc s + 1) n) [
    | inl room ↦ elim (port_is (ways.ahead 0 (suc s)) q (ring.port 0 (suc s) (omega arith) inside) small) [
      | inl h ↦ record {
        steps = suc s + 1;
        below = room;
        next = record { either = inr (inl refl) };
        is = ap (λ (p : ℕ). (world.net.far (ways.node 0 (suc s)) p).0) h
            ∙ ap (λ (e : ℕ × ℕ). e.0) (ring.out 0 (suc s) (omega arith) room);
      }
      | inr h ↦ back s q inside h
    ]
    | inr ends ↦
        let last : suc s ≡ n - 1 = omega (arith, ends, inside) in
        let t : 3 ≤ n = three in
        let same : ways.node 0 (suc s) ≡ ways.node 1 1 =
        ap (ways.node 0) last
        ∙ sym (ring.around 1 (n - 1) (omega (arith, t)) (omega arith) (omega (arith, t))) in
        elim (port_is (ways.ahead 1 1) q (ring.port 1 1 (omega arith) (omega (arith, t))) small) [
          | inl h ↦ record {
            steps = n - 2;
            below = omega (arith, t);
            next = record { either = inl (omega (arith, last, t)) };
            is = ap (λ (v : ℕ). (world.net.far v q).0) same
                ∙ ap (λ (p : ℕ). (world.net.far (ways.node 1 1) p).0) h
                ∙ ap (λ (e : ℕ × ℕ). e.0) (ring.out 1 1 (omega arith) (omega (arith, t)))
                ∙ ring.around 2 (n - 2) (omega (arith, t)) (omega arith) (omega (arith, t));
          }
          | inr h ↦ record {
            steps = 0;
            below = omega (arith, t);
            next = record { either = inr (inr (inr (refl, omega (arith, last, t)))) };
            is = ap (λ (v : ℕ). (world.net.far v q).0) same
                ∙ ap (λ (p : ℕ). (world.net.far (ways.node 1 1) p).0) h
                ∙ ap (λ (e : ℕ × ℕ). e.0) (ring.back 1 0 (omega arith) (omega (arith, t)))
                ∙ ring.home 1 ∙ sym (ring.home 0);
          }
        ]
  ]
    where
      back : (s q : ℕ) → suc s < n → q ≡ 1 - ways.ahead 0 (suc s) → Leads (suc s) q
      back s q inside h =
          let sum : s + 1 ≡ suc s = omega arith in
          record {
            steps = s;
            below = omega (arith, inside);
            next = record { either = inl (omega arith) };
            is = ap (λ (p : ℕ). (world.net.far (ways.node 0 (suc s)) p).0) h
                ∙ ap (λ (k : ℕ). (world.net.far (ways.node 0 k) (1 - ways.ahead 0 k)).0) (sym sum)
                ∙ ap (λ (e : ℕ × ℕ). e.0) (ring.back 0 s (omega arith) (omega (arith, inside)));
          }

  -- the same seen from a node
  record LeadsFrom (node port : ℕ) : Type 0 where
    within : (world.net.far node port).0 < n
    next : AreNext n (steps_to node (cases_lt node n))
        (steps_to (world.net.far node port).0 (cases_lt (world.net.far node port).0 n))

  -- numbers without this one
  squeezed_by : (s k : ℕ) → (k < s) ⊎ (s ≤ k) → ℕ
  squeezed_by s k (inl low) = k
  squeezed_by s k (inr high) = k - 1

  squeezed : (s k : ℕ) → ℕ
  squeezed s k = squeezed_by s k (cases_lt k s)

  record IsSqueezed (s k it : ℕ) : Type 0 where
    either : ((k < s) × (it ≡ k)) ⊎ ((s ≤ k) × (it ≡ k - 1))

  squeezed_is : (s k : ℕ) → IsSqueezed s k (squeezed s k)
  unfolding squeezed squeezed_by
  squeezed_is s k = by_case (cases_lt k s)
    where
      by_case : (it : (k < s) ⊎ (s ≤ k)) → IsSqueezed s k (squeezed_by s k it)
      by_case (inl low) = record { either = inl (low, refl) }
      by_case (inr high) = record { either = inr (high, refl) }

  squeezed_below : (s k : ℕ) → k < n → k ≢ s → s < n → squeezed s k < n - 1
  squeezed_below s k below apart inside =
      let t : 3 ≤ n = three in
      elim (squeezed_is s k).either [
        | inl h ↦ let low : k < s = h.0 in let e : squeezed s k ≡ k = h.1 in omega (arith, low, e, inside)
        | inr h ↦ let high : s ≤ k = h.0 in let e : squeezed s k ≡ k - 1 = h.1 in
            omega (arith, high, e, below, apart, t)
      ]

  unsqueezed : (s x y : ℕ) → x ≢ s → y ≢ s → squeezed s x ≡ squeezed s y → x ≡ y
  unsqueezed s x y apart apart_too same = elim (squeezed_is s x).either [
    | inl h ↦ elim (squeezed_is s y).either [
      | inl g ↦ sym h.1 ∙ same ∙ g.1
      | inr g ↦
          let a : x < s = h.0 in let b : squeezed s x ≡ x = h.1 in
          let c : s ≤ y = g.0 in let d : squeezed s y ≡ y - 1 = g.1 in
          omega (arith, a, b, c, d, same, apart_too)
    ]
    | inr h ↦ elim (squeezed_is s y).either [
      | inl g ↦
          let a : s ≤ x = h.0 in let b : squeezed s x ≡ x - 1 = h.1 in
          let c : y < s = g.0 in let d : squeezed s y ≡ y = g.1 in
          omega (arith, a, b, c, d, same, apart)
      | inr g ↦
          let a : s ≤ x = h.0 in let b : squeezed s x ≡ x - 1 = h.1 in
          let c : s ≤ y = g.0 in let d : squeezed s y ≡ y - 1 = g.1 in
          omega (arith, a, b, c, d, same, apart, apart_too)
    ]
  ]

  not_it : (s : ℕ) → n ≤ ways.node 0 s → (k : ℕ) → k < n → steps_to k (cases_lt k n) ≢ s
  not_it s over k below same =
      let it : IsSteps k (steps_to k (cases_lt k n)) = steps_are k below in
      let e : ways.node 0 s ≡ k = ap (ways.node 0) (sym same) ∙ it.is in
      omega (arith, over, e, below)

  node_below : (s : ℕ) → s < n → ways.node 0 s < n
  node_below s inside = elim (cases_lt (ways.node 0 s) n) [
    | inl h ↦ h
    | inr over ↦
        let t : 3 ≤ n = three in
        let few : n ≤ n - 1 = few_values (λ k. squeezed s (steps_to k (cases_lt k n))) n (n - 1)
        (λ k below.
        let it : IsSteps k (steps_to k (cases_lt k n)) = steps_are k below in
        squeezed_below s (steps_to k (cases_lt k n)) it.below (not_it s over k below) inside)
        (λ i j less below same.
        let below_too : i < n = omega (arith, less, below) in
        let one : IsSteps i (steps_to i (cases_lt i n)) = steps_are i below_too in
        let other : IsSteps j (steps_to j (cases_lt j n)) = steps_are j below in
        let equal : steps_to i (cases_lt i n) ≡ steps_to j (cases_lt j n) =
        unsqueezed s (steps_to i (cases_lt i n)) (steps_to j (cases_lt j n)) (not_it s over i below_too)
        (not_it s over j below) same in
        let nodes : i ≡ j = sym one.is ∙ ap (ways.node 0) equal ∙ other.is in
        omega (arith, nodes, less)) in
        absurd (omega (arith, few, t))
  ]

  leads_from : (node port : ℕ) → node < n → port < world.net.degree node → LeadsFrom node port
  leads_from node port inside there =
      let from : IsSteps node (steps_to node (cases_lt node n)) = steps_are node inside in
      let x : ℕ = steps_to node (cases_lt node n) in
      let degree : world.net.degree node ≡ 2 =
      ap world.net.degree (sym from.is) ∙ ring.two 0 x (omega arith) from.below in
      let to : Leads x port = leads x port from.below (omega (arith, there, degree)) in
      let target : ℕ = (world.net.far node port).0 in
      let is : target ≡ ways.node 0 to.steps =
      ap (λ (v : ℕ). (world.net.far v port).0) (sym from.is) ∙ to.is in
      let within : target < n = subst (λ (v : ℕ). v < n) (sym is) (node_below to.steps to.below) in
      let other : IsSteps target (steps_to target (cases_lt target n)) = steps_are target within in
      let same : to.steps ≡ steps_to target (cases_lt target n) =
      ring.apart to.steps (steps_to target (cases_lt target n)) to.below other.below (sym is ∙ sym other.is) in
      record { within = within; next = subst (AreNext n x) same to.next }

  pub ring_line_is : IsLine world.net n ring_line
  ring_line_is = record {
    size = ring.size;
    numbers = λ node inside. (steps_are node inside).below;
    nodes = node_below;
    there = λ k inside.
        let below : ways.node 0 k < n = node_below k inside in
        let it : IsSteps (ways.node 0 k) (steps_to (ways.node 0 k) (cases_lt (ways.node 0 k) n)) =
        steps_are (ways.node 0 k) below in
        ring.apart (steps_to (ways.node 0 k) (cases_lt (ways.node 0 k) n)) k it.below inside it.is;
    back = λ node inside. (steps_are node inside).is;
    within = λ node port inside there. (leads_from node port inside there).within;
    next = λ node port inside there. (leads_from node port inside there).next;
  }

  pub ring_net : IsNet world
  ring_net = record {
    home = subst (λ (v : ℕ). v < world.net.nodes) (ring.home 0) (let b : ways.node 0 0 < n = node_below 0
        (let t = three in omega (arith, t)) in let size : world.net.nodes ≡ n = ring.size in omega (arith, b, size));
    within = λ node port inside there.
        let size : world.net.nodes ≡ n = ring.size in
        let below : (world.net.far node port).0 < n =
        (leads_from node port (omega (arith, inside, size)) there).within in
        omega (arith, below, size);
  }
