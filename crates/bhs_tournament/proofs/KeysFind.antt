-- Each agent's key finds the agent, and no other key finds any.
use Rattle.std.proofs.Common.{◌≡◌, ℕ, zero, suc, ◌+◌, ◌-◌, ◌≤◌, ◌⊎◌, Bool, true, false, cond, ◌||◌, List, [], ◌∷◌, ◌++◌}
use Rattle.std.proofs.Common.{slice_get, Some, Result, Ok, Err, inl, inr, refl, sym, ap, subst, ◌∙◌, append_assoc}
use Rattle.std.proofs.Common.{arith}
use Rattle.std.specs.List.{list_any}
use Rattle.std.specs.Cmp.Lexicographic.{bytes_decides}
use Rattle.std.proofs.lemmas.List.{append-nil}
use Rattle.std.proofs.lemmas.Option.{option_and_then_some}
use Rattle.bhs_files.specs.declared.faults.FileFault.{FileFault}
use Rattle.bhs_files.specs.declared.faults.FileFault.TheVariants.{KeyTwice}
use Rattle.bhs_setups.specs.KeyTable.{Seat, same_key, seat_at}
use Rattle.bhs_tournament.specs.KeyTable.{seats_of_match, seats_from, distinct, key_table, key_of, LetsIn}

-- This seat belongs to the list.
abbrev Has : List Seat → Seat → Type 0
Has [] seat = ⊥
Has (x ∷ xs) seat = (x ≡ seat) ⊎ Has xs seat

Has-first : (xs ys : List Seat) (s : Seat) → Has xs s → Has (xs ++ ys) s
Has-first [] ys s h = elim h [ ]
Has-first (x ∷ xs) ys s (inl e) = inl e
Has-first (x ∷ xs) ys s (inr h) = inr (Has-first xs ys s h)

Has-last : (xs ys : List Seat) (s : Seat) → Has ys s → Has (xs ++ ys) s
Has-last [] ys s h = h
Has-last (x ∷ xs) ys s h = inr (Has-last xs ys s h)

Has-either : (xs ys : List Seat) (s : Seat) → Has (xs ++ ys) s → Has xs s ⊎ Has ys s
Has-either [] ys s h = inr h
Has-either (x ∷ xs) ys s (inl e) = inl (inl e)
Has-either (x ∷ xs) ys s (inr h) = elim (Has-either xs ys s h) [ inl a ↦ inl (inr a) | inr b ↦ inr b ]

-- ---- the seats of a tournament belong to its agents

in_match : (game first : ℕ) (keys : List (List ℕ)) (i agent : ℕ) (key : List ℕ) → slice_get keys i ≡ Some key
    → agent ≡ first + i → Has (seats_of_match game first keys) (key, (game, agent))
in_match game first [] i agent key e n = absurd cc
in_match game first (k ∷ keys) zero agent key e n =
    let a : first ≡ agent = omega arith in
    let b : k ≡ key = cc in
    inl (λ i. (b i, (game, a i)))
in_match game first (k ∷ keys) (suc i) agent key e n = inr (in_match game (first + 1) keys i agent key e (omega arith))

in_tournament : (first : ℕ) (matches : List (List (List ℕ))) (i game agent : ℕ) (keys : List (List ℕ)) (key : List ℕ)
    → slice_get matches i ≡ Some keys → slice_get keys agent ≡ Some key → game ≡ first + i
    → Has (seats_from first matches) (key, (game, agent))
in_tournament first [] i game agent keys key e f n = absurd cc
in_tournament first (ks ∷ matches) zero game agent keys key e f n =
    let a : first ≡ game = omega arith in
    let same : keys ≡ ks = cc in
    let found : slice_get ks agent ≡ Some key = rw (← same) f in
    Has-first (seats_of_match first 0 ks) (seats_from (first + 1) matches) (key, (game, agent))
    (subst (λ (g : ℕ). Has (seats_of_match first 0 ks) (key, (g, agent))) a
    (in_match first 0 ks agent agent key found (omega arith)))
in_tournament first (ks ∷ matches) (suc i) game agent keys key e f n =
    Has-last (seats_of_match first 0 ks) (seats_from (first + 1) matches) (key, (game, agent))
    (in_tournament (first + 1) matches i game agent keys key e f (omega arith))

of_match : (game first : ℕ) (keys : List (List ℕ)) (s : Seat) → Has (seats_of_match game first keys) s → (s.1.0 ≡ game)
    × (first ≤ s.1.1) × (slice_get keys (s.1.1 - first) ≡ Some s.0)
of_match game first [] s h = elim h [ ]
of_match game first (k ∷ keys) s (inl e) =
    let z : first - first ≡ 0 = omega arith in
    subst (λ (y : Seat). (y.1.0 ≡ game) × (first ≤ y.1.1) × (slice_get (k ∷ keys) (y.1.1 - first) ≡ Some y.0)) e
    (refl, omega arith, rw z refl)
of_match game first (k ∷ keys) s (inr h) =
    let r = of_match game (first + 1) keys s h in
    let z : s.1.1 - first ≡ suc (s.1.1 - (first + 1)) = omega (arith, r.1) in
    (r.0, omega (arith, r.1), rw z r.2)

of_tournament : (first : ℕ) (matches : List (List (List ℕ))) (s : Seat) → Has (seats_from first matches) s
    → (first ≤ s.1.0) × (key_of matches (s.1.0 - first) s.1.1 ≡ Some s.0)
of_tournament first [] s h = elim h [ ]
of_tournament first (keys ∷ matches) s h =
    elim (Has-either (seats_of_match first 0 keys) (seats_from (first + 1) matches) s h) [
      | inl a ↦
          let r = of_match first 0 keys s a in
          let z : s.1.0 - first ≡ 0 = omega (arith, r.0) in
          let n : s.1.1 - 0 ≡ s.1.1 = omega arith in
          (omega (arith, r.0), rw z (rw n at r.2))
      | inr b ↦
          let r = of_tournament (first + 1) matches s b in
          let z : s.1.0 - first ≡ suc (s.1.0 - (first + 1)) = omega (arith, r.0) in
          (omega (arith, r.0), rw z r.1)
    ]

-- ---- distinct seats are all found

passes : (b : Bool) (fault : FileFault) (r : Result (List Seat) FileFault) (found : List Seat)
    → cond b (Err fault) r ≡ Ok found → (b ≡ false) × (r ≡ Ok found)
passes true fault r found e = absurd cc
passes false fault r found e = (refl, e)

distinct_is : (earlier seats found : List Seat) → distinct earlier seats ≡ Ok found → found ≡ earlier ++ seats
distinct_is earlier [] found e =
    let s : found ≡ earlier = cc in
    s ∙ sym (append-nil earlier)
distinct_is earlier (s ∷ seats) found e =
    let p = passes (list_any (λ other. same_key s.0 other.0) earlier) (KeyTwice s.1.0 s.1.1)
    (distinct (earlier ++ s ∷ []) seats) found e in
    distinct_is (earlier ++ s ∷ []) seats found p.1 ∙ append_assoc earlier (s ∷ []) seats

neither : (a b : Bool) → (a || b) ≡ false → (a ≡ false) × (b ≡ false)
neither true b e = absurd cc
neither false b e = (refl, e)

seat_at-append : (key : List ℕ) (earlier others : List Seat) → list_any (λ other. same_key key other.0) earlier ≡ false
    → seat_at key (earlier ++ others) ≡ seat_at key others
seat_at-append key [] others h = refl
seat_at-append key (s ∷ earlier) others h =
    let p = neither (same_key key s.0) (list_any (λ other. same_key key other.0) earlier) h in
    rw p.0 (seat_at-append key earlier others p.1)

found_at : (earlier seats found : List Seat) (s : Seat) → distinct earlier seats ≡ Ok found → Has seats s
    → seat_at s.0 (earlier ++ seats) ≡ Some s.1
found_at earlier [] found s e h = elim h [ ]
found_at earlier (x ∷ seats) found s e (inl same) =
    let p = passes (list_any (λ other. same_key x.0 other.0) earlier) (KeyTwice x.1.0 x.1.1)
    (distinct (earlier ++ x ∷ []) seats) found e in
    let itself : same_key x.0 x.0 ≡ true = (bytes_decides x.0 x.0).1 refl in
    let here : seat_at x.0 (earlier ++ x ∷ seats) ≡ Some x.1 = seat_at-append x.0 earlier (x ∷ seats) p.0
    ∙ ap (λ b. cond b (Some x.1) (seat_at x.0 seats)) itself in
    subst (λ (y : Seat). seat_at y.0 (earlier ++ x ∷ seats) ≡ Some y.1) same here
found_at earlier (x ∷ seats) found s e (inr h) =
    let p = passes (list_any (λ other. same_key x.0 other.0) earlier) (KeyTwice x.1.0 x.1.1)
    (distinct (earlier ++ x ∷ []) seats) found e in
    ap (seat_at s.0) (sym (append_assoc earlier (x ∷ []) seats)) ∙ found_at (earlier ++ x ∷ []) seats found s p.1 h

seat_has : (key : List ℕ) (seats : List Seat) (seat : ℕ × ℕ) → seat_at key seats ≡ Some seat → Has seats (key, seat)
seat_has key [] seat e = absurd cc
seat_has key (s ∷ seats) seat e = by (same_key key s.0) refl e (seat_has key seats seat)
  where
    by : (b : Bool) → same_key key s.0 ≡ b → cond b (Some s.1) (seat_at key seats) ≡ Some seat
        → (seat_at key seats ≡ Some seat → Has seats (key, seat)) → Has (s ∷ seats) (key, seat)
    by true same e rest =
        let a : s.0 ≡ key = sym ((bytes_decides key s.0).0 same) in
        let b : s.1 ≡ seat = cc in
        inl (λ i. (a i, b i))
    by false same e rest = inr (rest e)

pub lets_in : (matches : List (List (List ℕ))) (found : List Seat) → key_table matches ≡ Ok found → LetsIn matches found
lets_in matches found e =
    let is : found ≡ seats_from 0 matches = distinct_is [] (seats_from 0 matches) found e in
    record {
      finds = λ game agent key h.
          let has : Has (seats_from 0 matches) (key, (game, agent)) =
          option_and_then_some (λ keys. slice_get keys agent) (slice_get matches game) key h
          (λ keys p q. in_tournament 0 matches game game agent keys key p q (omega arith)) in
          ap (seat_at key) is ∙ found_at [] (seats_from 0 matches) found (key, (game, agent)) e has;
      only = λ key seat h.
          let r = of_tournament 0 matches (key, seat)
          (seat_has key (seats_from 0 matches) seat (ap (seat_at key) (sym is) ∙ h)) in
          let n : seat.0 - 0 ≡ seat.0 = omega arith in
          rw n at r.1;
    }
