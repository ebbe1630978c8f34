-- Loop invariant: adding the keys of a tournament in order.
use Rattle.std.proofs.Common.{◌≡◌, ℕ, ◌+◌, ◌<◌, Bool, true, false, cond, List, [], ◌∷◌, ◌++◌, length, map, drop}
use Rattle.std.proofs.Common.{get_or, Result, Ok, Err, refl, sym, ap, ◌∙◌}
use Rattle.std.proofs.lemmas.List.{drop_more}
use Rattle.bhs_files.specs.declared.fixtures.Fixture.{Fixture}
use Rattle.bhs_files.specs.declared.faults.FileFault.{FileFault}
use Rattle.bhs_files.specs.declared.faults.FileFault.TheVariants.{KeyTwice}
use Rattle.bhs_files.specs.Reading.{◌>>=◌, Fails}
use Rattle.bhs_files.proofs.Failing.{fails_with}
use Rattle.bhs_setups.specs.KeyTable.{Seat, has_key}
use Rattle.bhs_tournament.specs.KeyTable.{seats_of_match, seats_from, distinct}

abbrev pub key_list : Fixture → List (List ℕ)
key_list fixture = fixture.keys.items

-- seats one after the other
pub distinct-append : (earlier first others : List Seat)
    → distinct earlier (first ++ others) ≡ (distinct earlier first >>= λ found. distinct found others)
distinct-append earlier [] others = refl
distinct-append earlier (s ∷ first) others = by (has_key s.0 earlier) (distinct-append (earlier ++ s ∷ []) first others)
  where
    by : (b : Bool) → distinct (earlier ++ s ∷ [])
        (first ++ others) ≡ (distinct (earlier ++ s ∷ []) first >>= λ found. distinct found others)
        → cond b (Err (KeyTwice s.1.0 s.1.1))
        (distinct (earlier ++ s ∷ []) (first ++ others)) ≡ (cond b (Err (KeyTwice s.1.0 s.1.1))
        (distinct (earlier ++ s ∷ []) first) >>= λ found. distinct found others)
    by true h = refl
    by false h = h

module _ (ms : List Fixture) (i : ℕ) (done : List Seat) (total : Result (List Seat) FileFault) where
  first : (x : Fixture) → i < length ms → x ≡ get_or ms i x
      → distinct done (seats_from i (map key_list (drop i ms))) ≡ (distinct done (seats_of_match i 0 (key_list x)) >>=
      λ found. distinct found (seats_from (i + 1) (map key_list (drop (i + 1) ms))))
  first x lt is = rw (drop_more ms i x lt, ← is)
      (distinct-append done (seats_of_match i 0 (key_list x)) (seats_from (i + 1) (map key_list (drop (i + 1) ms))))

  pub goes_on : (x : Fixture) (more : List Seat) → i < length ms → x ≡ get_or ms i x
      → distinct done (seats_of_match i 0 (key_list x)) ≡ Ok more
      → distinct done (seats_from i (map key_list (drop i ms))) ≡ total
      → distinct more (seats_from (i + 1) (map key_list (drop (i + 1) ms))) ≡ total
  goes_on x more lt is added so_far = ap (λ (r : Result (List Seat) FileFault). r >>= λ found. distinct found
      (seats_from (i + 1) (map key_list (drop (i + 1) ms)))) (sym added) ∙ sym (first x lt is) ∙ so_far

  pub stops : (x : Fixture) (fault : FileFault) → i < length ms → x ≡ get_or ms i x
      → Fails fault (distinct done (seats_of_match i 0 (key_list x)))
      → distinct done (seats_from i (map key_list (drop i ms))) ≡ total → Fails fault total
  stops x fault lt is failed so_far =
      fails_with fault (distinct done (seats_of_match i 0 (key_list x))) total
      (λ (h : distinct done (seats_of_match i 0 (key_list x)) ≡ Err fault).
      sym so_far ∙ first x lt is ∙ ap (λ (r : Result (List Seat) FileFault). r >>= λ found. distinct found
      (seats_from (i + 1) (map key_list (drop (i + 1) ms)))) h) failed
