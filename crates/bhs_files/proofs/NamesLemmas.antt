-- Loop invariant: collecting the distinct names in order.
use Rattle.std.proofs.Common.{◌≡◌, ℕ, ◌+◌, ◌<◌, ◌≤◌, Bool, true, false, not, cond, ◌&&◌, ◌||◌, List, [], ◌∷◌, ◌++◌}
use Rattle.std.proofs.Common.{length, map, drop, get_or, filter, nat_eq, Bor, refl, sym, ap, ◌∙◌, append_assoc}
use Rattle.std.specs.List.{list_any}
use Rattle.std.specs.Cmp.Lexicographic.{pointwise, bytes_decides}
use Rattle.std.proofs.lemmas.Bool.{false≢true}
use Rattle.std.proofs.lemmas.List.{append-nil, map_push, drop_more}
use Rattle.std.proofs.Math.ListN.{drop_of_length-le}
use Rattle.std.proofs.lemmas.List.Folds.{list_any-append}
use Rattle.indexmap.specs.IndexSet.{insert_key}
use Rattle.bhs_files.specs.declared.fixtures.Fixture.{Fixture}
use Rattle.bhs_files.specs.Names.{same_name, first_seen, is_among}

-- the names seen so far, followed by the new names among the rest
abbrev pub after : List (List ℕ) → List (List ℕ) → List (List ℕ)
after seen rest = seen ++ filter (λ name. not (is_among seen name)) (first_seen rest)

-- appends a name unless it is present
abbrev pub with_name : List (List ℕ) → List ℕ → List (List ℕ)
with_name seen name = cond (is_among seen name) seen (seen ++ name ∷ [])

module _ (p q r : List ℕ → Bool) (both : (x : List ℕ) → r x ≡ (q x && p x)) where
  one : (x : List ℕ) (a : Bool) (kept rest : List (List ℕ)) → filter p kept ≡ rest
      → filter p (cond a (x ∷ kept) kept) ≡ cond (a && p x) (x ∷ rest) rest
  one x true kept rest h = ap (λ (zs : List (List ℕ)). cond (p x) (x ∷ zs) zs) h
  one x false kept rest h = h

  -- two filters are one
  filter-filter : (xs : List (List ℕ)) → filter p (filter q xs) ≡ filter r xs
  filter-filter [] = refl
  filter-filter (x ∷ xs) = one x (q x) (filter q xs) (filter r xs) (filter-filter xs)
      ∙ ap (λ b. cond b (x ∷ filter r xs) (filter r xs)) (sym (both x))

filter-all : (xs : List (List ℕ)) → filter (λ _. true) xs ≡ xs
filter-all [] = refl
filter-all (x ∷ xs) = ap (λ (zs : List (List ℕ)). x ∷ zs) (filter-all xs)

-- before the first, all names are new
pub starts : (names : List (List ℕ)) → after [] names ≡ first_seen names
starts names = filter-all (first_seen names)

-- Seen names differ from unseen names.
other_than_seen : (seen : List (List ℕ)) (name x : List ℕ) → is_among seen name ≡ true
    → not (is_among seen x) ≡ (not (same_name x name) && not (is_among seen x))
other_than_seen seen name x h = by (same_name x name) refl
  where
    by : (b : Bool) → same_name x name ≡ b → not (is_among seen x) ≡ (not b && not (is_among seen x))
    by true e = ap (λ (y : List ℕ). not (is_among seen y)) ((bytes_decides x name).0 e) ∙ ap not h
    by false e = refl

either : (a b : Bool) → not (a || (b || false)) ≡ (not b && not a)
either true true = refl
either true false = refl
either false true = refl
either false false = refl

new_after : (seen : List (List ℕ)) (name x : List ℕ)
    → not (is_among (seen ++ name ∷ []) x) ≡ (not (same_name x name) && not (is_among seen x))
new_after seen name x = ap not (list_any-append (same_name x) seen (name ∷ []))
    ∙ either (is_among seen x) (same_name x name)

-- one name more
sees : (seen : List (List ℕ)) (name : List ℕ) (rest : List (List ℕ))
    → after seen (name ∷ rest) ≡ after (with_name seen name) rest
sees seen name rest = by (is_among seen name) refl
  where
    by : (b : Bool) → is_among seen name ≡ b
        → seen ++ cond (not b) (name ∷ filter (λ x. not (is_among seen x))
        (filter (λ x. not (same_name x name)) (first_seen rest)))
        (filter (λ x. not (is_among seen x)) (filter (λ x. not (same_name x name)) (first_seen rest)))
        ≡ after (cond b seen (seen ++ name ∷ [])) rest
    by true e = ap (λ (xs : List (List ℕ)). seen ++ xs)
        (filter-filter (λ x. not (is_among seen x)) (λ x. not (same_name x name)) (λ x. not (is_among seen x))
        (λ x. other_than_seen seen name x e) (first_seen rest))
    by false e = ap (λ (xs : List (List ℕ)). seen ++ (name ∷ xs))
        (filter-filter (λ x. not (is_among seen x)) (λ x. not (same_name x name))
        (λ x. not (is_among (seen ++ name ∷ []) x)) (λ x. new_after seen name x) (first_seen rest))
        ∙ sym (append_assoc seen (name ∷ []) (filter (λ x. not (is_among (seen ++ name ∷ []) x)) (first_seen rest)))

pub has_name : (ks : List (Bor (List ℕ))) (k : Bor (List ℕ))
    → list_any (λ (y : Bor (List ℕ)). pointwise nat_eq k.now y.now) ks ≡ is_among (map (λ y. y.now) ks) k.now
has_name [] k = refl
has_name (y ∷ ks) k = ap (λ b. pointwise nat_eq k.now y.now || b) (has_name ks k)

-- the members of the set after an insertion
inserts : (ks : List (Bor (List ℕ))) (k : Bor (List ℕ))
    → map (λ y. y.now) (insert_key (λ x y. pointwise nat_eq x.now y.now) ks k) ≡ with_name (map (λ y. y.now) ks) k.now
inserts ks k = by (list_any (λ (y : Bor (List ℕ)). pointwise nat_eq k.now y.now) ks)
    ∙ ap (λ b. cond b (map (λ (y : Bor (List ℕ)). y.now) ks) (map (λ (y : Bor (List ℕ)). y.now) ks ++ k.now ∷ []))
    (has_name ks k)
  where
    by : (b : Bool) → map (λ (y : Bor (List ℕ)). y.now) (cond b ks (ks ++ k ∷ [])) ≡ cond b
        (map (λ (y : Bor (List ℕ)). y.now) ks) (map (λ (y : Bor (List ℕ)). y.now) ks ++ k.now ∷ [])
    by true = refl
    by false = map_push (λ (y : Bor (List ℕ)). y.now) ks k

abbrev pub name_of : Fixture → List ℕ
name_of fixture = fixture.network

pub goes_on : (fs : List Fixture) (i : ℕ) (x : Fixture) (old new : List (Bor (List ℕ))) (k : Bor (List ℕ))
    (total : List (List ℕ)) → i < length fs → x ≡ get_or fs i x → k.now ≡ x.network
    → new ≡ insert_key (λ x y. pointwise nat_eq x.now y.now) old k
    → after (map (λ y. y.now) old) (map name_of (drop i fs)) ≡ total
    → after (map (λ y. y.now) new) (map name_of (drop (i + 1) fs)) ≡ total
goes_on fs i x old new k total lt is same added so_far =
    let e : after (map (λ y. y.now) old) (map name_of (drop i fs)) ≡ after (with_name (map (λ y. y.now) old) x.network)
    (map name_of (drop (i + 1) fs)) =
    ap (λ (l : List Fixture). after (map (λ y. y.now) old) (map name_of l)) (drop_more fs i x lt)
    ∙ ap (λ (y : Fixture). after (map (λ y. y.now) old) (name_of y ∷ map name_of (drop (i + 1) fs))) (sym is)
    ∙ sees (map (λ y. y.now) old) x.network (map name_of (drop (i + 1) fs)) in
    let n : map (λ y. y.now) new ≡ with_name (map (λ y. y.now) old) x.network =
    ap (map (λ (y : Bor (List ℕ)). y.now)) added ∙ inserts old k ∙ ap (with_name (map (λ y. y.now) old)) same in
    ap (λ (ns : List (List ℕ)). after ns (map name_of (drop (i + 1) fs))) n ∙ sym e ∙ so_far

-- A filter that keeps the name preserves its membership.
keeps : (name other : List ℕ) (xs : List (List ℕ)) → same_name name other ≡ false
    → is_among (filter (λ x. not (same_name x other)) xs) name ≡ is_among xs name
keeps name other [] apart = refl
keeps name other (x ∷ xs) apart = by (same_name x other) refl (keeps name other xs apart)
  where
    passed : (a : Bool) → same_name name x ≡ a → same_name x other ≡ true → is_among xs name ≡ (a || is_among xs name)
    passed true e same = absurd (false≢true (sym apart ∙ ap (λ (y : List ℕ). same_name y other)
        ((bytes_decides name x).0 e) ∙ same))
    passed false e same = refl

    by : (b : Bool) → same_name x other ≡ b → is_among (filter (λ y. not (same_name y other)) xs)
        name ≡ is_among xs name
        → is_among (cond (not b) (x ∷ filter (λ y. not (same_name y other)) xs)
        (filter (λ y. not (same_name y other)) xs)) name ≡ (same_name name x || is_among xs name)
    by true e rest = rest ∙ passed (same_name name x) refl e
    by false e rest = ap (λ b. same_name name x || b) rest

-- The collected names and the list have the same members.
pub seen : (names : List (List ℕ)) (name : List ℕ) → is_among (first_seen names) name ≡ is_among names name
seen [] name = refl
seen (x ∷ names) name = by (same_name name x) refl (seen names name)
  where
    by : (b : Bool) → same_name name x ≡ b → is_among (first_seen names) name ≡ is_among names name
        → (b || is_among (filter (λ y. not (same_name y x)) (first_seen names)) name) ≡ (b || is_among names name)
    by true e rest = refl
    by false e rest = keeps name x (first_seen names) e ∙ rest

pub ends : (fs : List Fixture) (i : ℕ) (names total : List (List ℕ)) → length fs ≤ i
    → after names (map name_of (drop i fs)) ≡ total → names ≡ total
ends fs i names total le so_far =
    let e : after names (map name_of (drop i fs)) ≡ names =
    ap (λ (l : List Fixture). after names (map name_of l)) (drop_of_length-le fs le) ∙ append-nil names in
    sym e ∙ so_far
