-- Gathering the ignored keys of matches one after the other, as a loop does.
use Rattle.std.proofs.Common.{◌≡◌, ℕ, ◌+◌, ◌<◌, ◌≤◌, Bool, Some, List, [], ◌∷◌, ◌++◌, length, map, drop, get_or}
use Rattle.std.proofs.Common.{refl, sym, ap, ◌∙◌, append_assoc}
use Rattle.std.proofs.lemmas.List.{append-nil, drop_all, drop_more}
use Rattle.toml.specs.Data.{Members}
use Rattle.bhs_files.specs.declared.ignored.IgnoredKey.{IgnoredKey}
use Rattle.bhs_files.specs.IgnoredKeys.{ignored_in_matches, ignored_in_table}

module _ {T : Type 0} (version : ℕ) (has_delays : Bool) (ts : List T) (view : T → Members) (i : ℕ)
    (found total : List IgnoredKey) where
  -- the keys that remain to be collected
  abbrev left : (i : ℕ) → List IgnoredKey
  left i = ignored_in_matches version i has_delays (map view (drop i ts))

  pub gathers : (x : T) → i < length ts → x ≡ get_or ts i x → found ++ left i ≡ total
      → (found ++ ignored_in_table version (Some i) has_delays (view x)) ++ left (i + 1) ≡ total
  gathers x below is so_far =
      let e : found ++ left i ≡ (found ++ ignored_in_table version (Some i) has_delays (view x)) ++ left (i + 1) =
      rw (drop_more ts i x below, ← is)
      (sym (append_assoc found (ignored_in_table version (Some i) has_delays (view x)) (left (i + 1)))) in
      sym e ∙ so_far

  pub has_gathered : length ts ≤ i → found ++ left i ≡ total → found ≡ total
  has_gathered past so_far =
      sym (append-nil found) ∙ ap (λ rest. found ++ ignored_in_matches version i has_delays (map view rest))
      (sym (drop_all i ts past)) ∙ so_far
