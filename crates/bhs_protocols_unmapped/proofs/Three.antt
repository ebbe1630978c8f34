-- The three shapes are good.
use Rattle.std.proofs.Common.{ℕ, ◌+◌, ◌-◌, ◌<◌, ◌≤◌, ◌≡◌, ◌==◌}
use Rattle.std.proofs.Common.{refl, sym, ap, ◌∙◌, subst, if◌then◌else◌, nat_lt, inl, inr, arith}
use Rattle.std.specs.Prelude.{◌≢◌}
use Rattle.std.proofs.lemmas.Bool.{cond-true, cond-false, lt-ltb, cases_lt, eq-eqb, ne_eqb}
use Rattle.std.proofs.lemmas.Bool.Decides.{eqb_tells}
use Rattle.bhs_protocols_unmapped.proofs.Rims.{beside, beside_below, by_role, next_is, before_is}
use Rattle.bhs_protocols_unmapped.proofs.Cycle.{not_below}
use Rattle.bhs_protocols_unmapped.proofs.Shapes.{Shape, IsShape, IsThird, degrees, leads}
use Rattle.bhs_protocols_unmapped.proofs.Shapes.{degrees_three, degrees_hub, degrees_hole}
use Rattle.bhs_protocols_unmapped.proofs.Shapes.{leads_hole, leads_hub, leads_third}

module _ (d rim : ℕ) (four : 4 ≤ d) (wide : d + 4 ≤ rim) where
  -- ---- third links

  to_hub : (shape : Shape) (node : ℕ) → node < d → shape.third node ≡ (rim, node) → IsThird d rim shape node
  to_hub shape node below is = record {
    has = subst (λ (e : ℕ × ℕ). e.1 < degrees d rim shape.holes e.0) (sym is)
        (subst (λ (n : ℕ). node < n) (sym (degrees_hub d rim shape.holes (rim) four wide refl)) below);
    back = ap (λ (e : ℕ × ℕ). leads d rim shape e.0 e.1) is ∙ leads_hub d rim shape (rim) node refl;
    apart = λ same. let it : rim ≡ node = sym (ap (λ (e : ℕ × ℕ). e.0) is) ∙ same in omega (arith, it, below);
    off = λ role small same.
        let near : beside rim node role < rim =
        beside_below rim node role (omega (arith, four, wide)) (omega (arith, below)) small in
        let it : beside rim node role ≡ rim = same ∙ ap (λ (e : ℕ × ℕ). e.0) is in omega (arith, it, near);
  }

  to_hole : (shape : Shape) (node port : ℕ) → node < d + 4 → port < shape.holes → shape.third node ≡ (rim + 1, port)
      → shape.back port ≡ node → IsThird d rim shape node
  to_hole shape node port below has is back = record {
    has = subst (λ (e : ℕ × ℕ). e.1 < degrees d rim shape.holes e.0) (sym is)
        (subst (λ (n : ℕ). port < n) (sym (degrees_hole d rim shape.holes (rim + 1) refl)) has);
    back = ap (λ (e : ℕ × ℕ). leads d rim shape e.0 e.1) is ∙ leads_hole d rim shape (rim + 1) port refl
        ∙ (λ i. (back i, 2));
    apart = λ same. let it : rim + 1 ≡ node = sym (ap (λ (e : ℕ × ℕ). e.0) is) ∙ same in
        omega (arith, it, below, four, wide);
    off = λ role small same.
        let near : beside rim node role < rim =
        beside_below rim node role (omega (arith, four, wide)) (omega (arith, below, four, wide)) small in
        let it : beside rim node role ≡ rim + 1 = same ∙ ap (λ (e : ℕ × ℕ). e.0) is in omega (arith, it, near);
  }

  -- two nodes on are no neighbours
  two_on : (node there role : ℕ) → there < d + 4 → there ≡ node + 2 → role < 2 → beside rim node role ≢ there
  two_on node there role below is small = by_role (λ (r : ℕ). beside rim node r ≢ there) role small
      (λ same. elim (next_is rim node) [
        | inl h ↦ omega (arith, h.0, is, below, four, wide)
        | inr h ↦ omega (arith, h.1, same, is)
      ])
      (λ same. elim (before_is rim node) [
        | inl h ↦ omega (arith, h.0, h.1, same, is, four, wide)
        | inr h ↦ omega (arith, h.1, same, is)
      ])

  two_back : (node there role : ℕ) → node < d + 4 → node ≡ there + 2 → role < 2 → beside rim node role ≢ there
  two_back node there role below is small = by_role (λ (r : ℕ). beside rim node r ≢ there) role small
      (λ same. elim (next_is rim node) [
        | inl h ↦ omega (arith, h.0, h.1, same, is, four, wide)
        | inr h ↦ omega (arith, h.1, same, is)
      ])
      (λ same. elim (before_is rim node) [
        | inl h ↦ omega (arith, h.0, is)
        | inr h ↦ omega (arith, h.1, same, is)
      ])

  to_node : (shape : Shape) (node there : ℕ) → node < d + 4 → there < d + 4 → shape.third node ≡ (there, 2)
      → shape.third there ≡ (node, 2) → there ≢ node → ((role : ℕ) → role < 2 → beside rim node role ≢ there)
      → IsThird d rim shape node
  to_node shape node there below below_too is back apart off = record {
    has = subst (λ (e : ℕ × ℕ). e.1 < degrees d rim shape.holes e.0) (sym is)
        (subst (λ (n : ℕ). 2 < n) (sym (degrees_three d rim shape.holes there four wide below_too)) (omega arith));
    back = ap (λ (e : ℕ × ℕ). leads d rim shape e.0 e.1) is
        ∙ leads_third d rim shape there 2 (omega (arith, below_too, four, wide)) refl ∙ back;
    apart = λ same. apart (sym (ap (λ (e : ℕ × ℕ). e.0) is) ∙ same);
    off = λ role small same. off role small (same ∙ ap (λ (e : ℕ × ℕ). e.0) is);
  }

  -- ---- star: the black hole has links to the four wide nodes

  abbrev pub star : Shape
  star = record {
    holes = 4;
    third = λ node. if nat_lt node d then (rim, node) else (rim + 1, node - d);
    back = λ port. d + port;
  }

  pub star_spoke : (node : ℕ) → node < d → star.third node ≡ (rim, node)
  star_spoke node below = cond-true (nat_lt node d) (rim, node) (rim + 1, node - d) (lt-ltb node d below)

  pub star_hole : (node : ℕ) → d ≤ node → star.third node ≡ (rim + 1, node - d)
  star_hole node after = cond-false (nat_lt node d) (rim, node) (rim + 1, node - d) (not_below node d after)

  pub star_is : IsShape d rim star
  star_is = record {
    third = λ node below. elim (cases_lt node d) [
      | inl h ↦ to_hub star node h (star_spoke node h)
      | inr h ↦ to_hole star node (node - d) below (let it : node - d < 4 = omega (arith, below, h) in it)
          (star_hole node h) (let it : d + (node - d) ≡ node = omega (arith, h) in it)
    ];
    spoke = star_spoke;
    hole = λ port small. let it : d + port < d + 4 = omega (arith, small) in it;
    hole_back = λ port small. star_hole (d + port) (omega arith)
        ∙ (let it : d + port - d ≡ port = omega arith in λ i. (rim + 1, it i));
    two = omega arith;
    most = omega arith;
  }

  -- ---- twin: the black hole has links to two of the wide nodes, and a link joins the other two

  abbrev pub twin : (a b e f : ℕ) → Shape
  twin a b e f = record {
    holes = 2;
    third = λ node. if nat_lt node d then (rim, node)
        else (if node == a then (b, 2)
        else (if node == b then (a, 2) else (if node == e then (rim + 1, 0) else (rim + 1, 1))));
    back = λ port. if port == 0 then e else f;
  }

  pub record IsTwin (a b e f : ℕ) : Type 0 where
    pub a_on : d ≤ a
    pub b_is : b ≡ a + 2
    pub b_below : b < d + 4
    pub e_on : d ≤ e
    pub e_below : e < d + 4
    pub f_on : d ≤ f
    pub f_below : f < d + 4
    pub e_a : e ≢ a
    pub e_b : e ≢ b
    pub f_a : f ≢ a
    pub f_b : f ≢ b
    pub f_e : f ≢ e
    pub covers : (node : ℕ) → d ≤ node → node < d + 4 → node ≢ a → node ≢ b → node ≢ e → node ≡ f

  module _ (a b e f : ℕ) (is : IsTwin a b e f) where
    abbrev shape : Shape
    shape = twin a b e f

    pub twin_spoke : (node : ℕ) → node < d → shape.third node ≡ (rim, node)
    twin_spoke node below = cond-true (nat_lt node d) (rim, node) _ (lt-ltb node d below)

    pub twin_a : shape.third a ≡ (b, 2)
    twin_a = cond-false (nat_lt a d) (rim, a) _ (not_below a d is.a_on)
        ∙ cond-true (a == a) (b, 2) _ (eq-eqb a a refl)

    pub b_on : d ≤ b
    b_on = let it : b ≡ a + 2 = is.b_is in let on : d ≤ a = is.a_on in omega (arith, it, on)

    pub a_b : b ≢ a
    a_b same = let it : b ≡ a + 2 = is.b_is in omega (arith, it, same)

    pub twin_b : shape.third b ≡ (a, 2)
    twin_b = cond-false (nat_lt b d) (rim, b) _ (not_below b d b_on)
        ∙ cond-false (b == a) (b, 2) _ (ne_eqb b a a_b)
        ∙ cond-true (b == b) (a, 2) _ (eq-eqb b b refl)

    pub twin_e : shape.third e ≡ (rim + 1, 0)
    twin_e = cond-false (nat_lt e d) (rim, e) _ (not_below e d is.e_on)
        ∙ cond-false (e == a) (b, 2) _ (ne_eqb e a is.e_a)
        ∙ cond-false (e == b) (a, 2) _ (ne_eqb e b is.e_b)
        ∙ cond-true (e == e) (rim + 1, 0) (rim + 1, 1) (eq-eqb e e refl)

    pub twin_f : shape.third f ≡ (rim + 1, 1)
    twin_f = cond-false (nat_lt f d) (rim, f) _ (not_below f d is.f_on)
        ∙ cond-false (f == a) (b, 2) _ (ne_eqb f a is.f_a)
        ∙ cond-false (f == b) (a, 2) _ (ne_eqb f b is.f_b)
        ∙ cond-false (f == e) (rim + 1, 0) (rim + 1, 1) (ne_eqb f e is.f_e)

    a_below : a < d + 4
    a_below = let it : b ≡ a + 2 = is.b_is in let below : b < d + 4 = is.b_below in omega (arith, it, below)

    back_e : (port : ℕ) → port ≡ 0 → shape.back port ≡ e
    back_e port zeroth = cond-true (port == 0) e f (eq-eqb port 0 zeroth)

    back_f : (port : ℕ) → port ≢ 0 → shape.back port ≡ f
    back_f port off = cond-false (port == 0) e f (ne_eqb port 0 off)

    third : (node : ℕ) → node < d + 4 → IsThird d rim shape node
    third node below = elim (cases_lt node d) [
      | inl h ↦ to_hub shape node h (twin_spoke node h)
      | inr h ↦ elim (eqb_tells node a) [
        | inl k ↦ subst (IsThird d rim shape) (sym k.1)
            (to_node shape a b a_below is.b_below twin_a twin_b a_b
            (λ role small. two_on a b role is.b_below is.b_is small))
        | inr k ↦ elim (eqb_tells node b) [
          | inl m ↦ subst (IsThird d rim shape) (sym m.1)
              (to_node shape b a is.b_below a_below twin_b twin_a (λ same. a_b (sym same))
              (λ role small. two_back b a role is.b_below is.b_is small))
          | inr m ↦ elim (eqb_tells node e) [
            | inl o ↦ subst (IsThird d rim shape) (sym o.1)
                (to_hole shape e 0 is.e_below (omega arith) twin_e (back_e 0 refl))
            | inr o ↦ subst (IsThird d rim shape) (sym (is.covers node h below k.1 m.1 o.1))
                (to_hole shape f 1 is.f_below (omega arith) twin_f (back_f 1 (λ same. omega (arith, same))))
          ]
        ]
      ]
    ]

    pub twin_is : IsShape d rim shape
    twin_is = record {
      third = third;
      spoke = twin_spoke;
      hole = λ port small. elim (eqb_tells port 0) [
        | inl h ↦ subst (λ (v : ℕ). v < d + 4) (sym (back_e port h.1)) is.e_below
        | inr h ↦ subst (λ (v : ℕ). v < d + 4) (sym (back_f port h.1)) is.f_below
      ];
      hole_back = λ port small. elim (eqb_tells port 0) [
        | inl h ↦ ap shape.third (back_e port h.1) ∙ twin_e ∙ (λ i. (rim + 1, sym h.1 i))
        | inr h ↦ let off : port ≢ 0 = h.1 in let first : 1 ≡ port = omega (arith, small, off) in
            ap shape.third (back_f port h.1) ∙ twin_f ∙ (λ i. (rim + 1, first i))
      ];
      two = omega arith;
      most = omega arith;
    }

    -- the third links of a and b do not lead into the black hole
    pub not_a : (node : ℕ) → (shape.third node).0 ≡ rim + 1 → node ≢ a
    not_a node into same =
        let below : b < d + 4 = is.b_below in
        let it : b ≡ rim + 1 = sym (ap (λ (q : ℕ × ℕ). q.0) (ap shape.third same ∙ twin_a)) ∙ into in
        omega (arith, it, below, four, wide)

    pub not_b : (node : ℕ) → (shape.third node).0 ≡ rim + 1 → node ≢ b
    not_b node into same =
        let it : a ≡ rim + 1 = sym (ap (λ (q : ℕ × ℕ). q.0) (ap shape.third same ∙ twin_b)) ∙ into in
        omega (arith, it, a_below, four, wide)

  pub left_is : IsTwin d (d + 2) (d + 1) (d + 3)
  left_is = record {
    a_on = omega arith;
    b_is = refl;
    b_below = omega arith;
    e_on = omega arith;
    e_below = omega arith;
    f_on = omega arith;
    f_below = omega arith;
    e_a = λ same. omega (arith, same);
    e_b = λ same. omega (arith, same);
    f_a = λ same. omega (arith, same);
    f_b = λ same. omega (arith, same);
    f_e = λ same. omega (arith, same);
    covers = λ node after before not_a not_b not_e.
        let one : node ≢ d = not_a in let two : node ≢ d + 2 = not_b in let three : node ≢ d + 1 = not_e in
        let it : node ≡ d + 3 = omega (arith, after, before, one, two, three) in it;
  }

  pub right_is : IsTwin (d + 1) (d + 3) d (d + 2)
  right_is = record {
    a_on = omega arith;
    b_is = (let it : d + 3 ≡ d + 1 + 2 = omega arith in it);
    b_below = omega arith;
    e_on = omega arith;
    e_below = omega arith;
    f_on = omega arith;
    f_below = omega arith;
    e_a = λ same. omega (arith, same);
    e_b = λ same. omega (arith, same);
    f_a = λ same. omega (arith, same);
    f_b = λ same. omega (arith, same);
    f_e = λ same. omega (arith, same);
    covers = λ node after before not_a not_b not_e.
        let one : node ≢ d + 1 = not_a in let two : node ≢ d + 3 = not_b in let three : node ≢ d = not_e in
        let it : node ≡ d + 2 = omega (arith, after, before, one, two, three) in it;
  }
