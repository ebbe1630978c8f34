-- Loop invariant: reading the matches in order.
use Rattle.std.proofs.Common.{◌≡◌, ℕ, ◌+◌, ◌<◌, ◌≤◌, List, [], ◌∷◌, ◌++◌, length, map, drop, get_or, Result, Ok, Err}
use Rattle.std.proofs.Common.{refl, sym, ap, ◌∙◌, append_assoc}
use Rattle.std.proofs.lemmas.List.{append-nil, drop_more}
use Rattle.std.proofs.Math.ListN.{drop_of_length-le}
use Rattle.toml.specs.Data.{Members}
use Rattle.bhs_files.specs.declared.faults.FileFault.{FileFault}
use Rattle.bhs_files.specs.Tournaments.{Planned, match_in, matches_in}
use Rattle.bhs_files.specs.Reading.{◌>>=◌, Fails}
use Rattle.bhs_files.proofs.Failing.{fails_with}

-- the matches read so far, followed by the result for the remaining ones
abbrev pub then : List Planned → Result (List Planned) FileFault → Result (List Planned) FileFault
then done rest = rest >>= λ others. Ok (done ++ others)

regroup : (done : List Planned) (p : Planned) (rest : Result (List Planned) FileFault)
    → then done (rest >>= λ others. Ok (p ∷ others)) ≡ then (done ++ p ∷ []) rest
regroup done p (Ok others) = ap (λ (ps : List Planned). Ok ps) (sym (append_assoc done (p ∷ []) others))
regroup done p (Err fault) = refl

module _ {T : Type 0} (version : ℕ) (ts : List T) (view : T → Members) (i : ℕ) (done : List Planned)
    (total : Result (List Planned) FileFault) where
  pub goes_on : (x : T) (p : Planned) → i < length ts → x ≡ get_or ts i x → match_in version i (view x) ≡ Ok p
      → then done (matches_in version i (map view (drop i ts))) ≡ total
      → then (done ++ p ∷ []) (matches_in version (i + 1) (map view (drop (i + 1) ts))) ≡ total
  unfolding matches_in
  goes_on x p lt is read so_far =
      let e : then done (matches_in version i (map view (drop i ts))) ≡ then (done ++ p ∷ [])
      (matches_in version (i + 1) (map view (drop (i + 1) ts))) =
      rw (drop_more ts i x lt, ← is, read)
      (regroup done p (matches_in version (i + 1) (map view (drop (i + 1) ts)))) in
      sym e ∙ so_far

  pub stops : (x : T) (fault : FileFault) → i < length ts → x ≡ get_or ts i x
      → Fails fault (match_in version i (view x)) → then done (matches_in version i (map view (drop i ts))) ≡ total
      → Fails fault total
  unfolding matches_in
  stops x fault lt is failed so_far =
      fails_with fault (match_in version i (view x)) total (λ (h : match_in version i (view x) ≡ Err fault).
      let e : then done (matches_in version i (map view (drop i ts))) ≡ Err fault =
      rw (drop_more ts i x lt, ← is, h) refl in
      sym so_far ∙ e) failed

  pub ends : length ts ≤ i → then done (matches_in version i (map view (drop i ts))) ≡ total → total ≡ Ok done
  unfolding matches_in
  ends le so_far =
      let e : then done (matches_in version i (map view (drop i ts))) ≡ Ok done =
      rw (drop_of_length-le ts le) (ap (λ (ps : List Planned). Ok ps) (append-nil done)) in
      sym so_far ∙ e
