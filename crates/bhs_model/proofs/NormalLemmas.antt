-- The normal form of a setup.
use Rattle.std.proofs.Common.{append_assoc, ◌≡◌, ℕ, ◌+◌, Bool, true, false, List, [], ◌∷◌, ◌++◌, refl, sym, ap, ◌∙◌}
use Rattle.std.proofs.Common.{arith}
use Rattle.std.specs.Prelude.{map, filter}
use Rattle.std.specs.List.{flat_map, range_with_len}
use Rattle.std.proofs.lemmas.Grind.{flat_map-append}
use Rattle.std.proofs.lemmas.List.Elements.{filter-append}
use Rattle.std.proofs.lemmas.List.FromFn.{map-range_with_len_more}
use Rattle.bhs_net.specs.Network.{Network}
use Rattle.bhs_model.specs.Setups.{links_at}

map_same : (xs : List ℕ) → map (λ (x : ℕ). x) xs ≡ xs
map_same [] = refl
map_same (x ∷ xs) = ap (λ (rest : List ℕ). x ∷ rest) (map_same xs)

zero_more : (n : ℕ) → 0 + n ≡ n
zero_more n = omega arith

none_more : {X : Type 0} (xs : List X) → xs ++ [] ≡ xs
none_more [] = refl
none_more (x ∷ xs) = ap (λ rest. x ∷ rest) (none_more xs)

-- one number more
pub range_more : (n : ℕ) → range_with_len 0 (n + 1) ≡ range_with_len 0 n ++ n ∷ []
range_more n = sym (map_same (range_with_len 0 (n + 1))) ∙ map-range_with_len_more (λ (x : ℕ). x) 0 n n (zero_more n)
    ∙ ap (λ (before : List ℕ). before ++ n ∷ []) (map_same (range_with_len 0 n))

-- one item more, which passes the test or does not
pub kept_last : {X : Type 0} (test : X → Bool) (xs : List X) (x : X) → test x ≡ true
    → filter test (xs ++ x ∷ []) ≡ filter test xs ++ x ∷ []
kept_last test xs x passes = filter-append test xs (x ∷ []) ∙ rw passes refl

pub left_last : {X : Type 0} (test : X → Bool) (xs : List X) (x : X) → test x ≡ false
    → filter test (xs ++ x ∷ []) ≡ filter test xs
left_last test xs x fails = filter-append test xs (x ∷ []) ∙ rw fails (none_more (filter test xs))

pub links_more : (net : Network) (test : ℕ → ℕ → Bool) (node : ℕ)
    → flat_map (links_at net test) (range_with_len 0 (node + 1)) ≡ flat_map (links_at net test) (range_with_len 0 node)
    ++ links_at net test node
links_more net test node = ap (flat_map (links_at net test)) (range_more node)
    ∙ flat_map-append (links_at net test) (range_with_len 0 node) (node ∷ [])
    ∙ ap (λ (last : List (ℕ × ℕ)). flat_map (links_at net test) (range_with_len 0 node) ++ last)
    (none_more (links_at net test node))

-- one port more
pub ends_more : (node port : ℕ) → map {B = ℕ × ℕ} (λ (port : ℕ). (node, port)) (range_with_len 0 (port + 1)) ≡ map
    {B = ℕ × ℕ} (λ (port : ℕ). (node, port)) (range_with_len 0 port) ++ (node, port) ∷ []
ends_more node port = map-range_with_len_more {X = ℕ × ℕ} (λ (port : ℕ). (node, port)) 0 port port (zero_more port)

-- one item more, in memory
pub added : {X : Type 0} (test : X → Bool) (xs more before pushed after start : List X) (x : X) → more ≡ xs ++ x ∷ []
    → before ≡ start ++ filter test xs → test x ≡ true → pushed ≡ before ++ x ∷ [] → after ≡ pushed
    → after ≡ start ++ filter test more
added test xs more before pushed after start x is_more was passes is_pushed is_after =
    is_after ∙ is_pushed ∙ ap (λ b. b ++ x ∷ []) was ∙ append_assoc start (filter test xs) (x ∷ [])
    ∙ ap (λ last. start ++ last) (sym (kept_last test xs x passes) ∙ ap (filter test) (sym is_more))

pub passed : {X : Type 0} (test : X → Bool) (xs more before after start : List X) (x : X) → more ≡ xs ++ x ∷ []
    → before ≡ start ++ filter test xs → test x ≡ false → after ≡ before → after ≡ start ++ filter test more
passed test xs more before after start x is_more was fails is_after =
    is_after ∙ was ∙ ap (λ last. start ++ last) (sym (left_last test xs x fails) ∙ ap (filter test) (sym is_more))
