-- Lines that are taken in order.
use Rattle.std.proofs.Common.{◌≡◌, ◌∙◌, ℕ, suc, ◌+◌, ◌<◌, ◌≤◌, List, [], ◌∷◌, ◌++◌, length, map, take, drop, get_or}
use Rattle.std.proofs.Common.{sym, ap, append_assoc, take-append-drop, take_all}
use Rattle.std.proofs.lemmas.List.{take_more, map-append}
use Rattle.std.proofs.Math.Seq.{drop-cons}
use Rattle.bhs_wire.specs.declared.pieces.Raw.{Raw}
use Rattle.bhs_wire.specs.Lines.{Line, lines, seen}
use Rattle.bhs_session.specs.Session.{IsNext}

module _ (read : List ℕ) (taken : List Line) (found : List Raw) (i : ℕ) where
  -- The line at the index is the session's next line.
  pub IsNext-at : (x : Raw) → i < length found → x ≡ get_or found i x → lines read ≡ taken ++ map seen found
      → IsNext read (taken ++ map seen (take i found)) (seen x)
  IsNext-at x within is whole =
      let rest : drop i found ≡ x ∷ drop (suc i) found = drop-cons found i x within
      ∙ ap (λ (y : Raw). y ∷ drop (suc i) found) (sym is) in
      let parts : map seen found ≡ map seen (take i found) ++ (seen x ∷ map seen (drop (suc i) found)) =
      ap (map seen) (sym (take-append-drop i found)) ∙ map-append seen (take i found) (drop i found)
      ∙ ap (λ (xs : List Raw). map seen (take i found) ++ map seen xs) rest in (
        map seen (drop (suc i) found),
        whole ∙ ap (λ (xs : List Line). taken ++ xs) parts
            ∙ sym (append_assoc taken (map seen (take i found)) (seen x ∷ map seen (drop (suc i) found))),
      )

  -- at the end all lines were taken
  pub taken-all : length found ≤ i → lines read ≡ taken ++ map seen found
      → taken ++ map seen (take i found) ≡ lines read
  taken-all past whole = ap (λ (xs : List Raw). taken ++ map seen xs) (take_all i found past) ∙ sym whole

-- one more line
module _ (taken : List Line) (found : List Raw) (i : ℕ) where
  pub taken-more : (x : Raw) → i < length found → x ≡ get_or found i x
      → taken ++ map seen (take (i + 1) found) ≡ (taken ++ map seen (take i found)) ++ seen x ∷ []
  taken-more x within is =
      ap (λ (xs : List Raw). taken ++ map seen xs)
      (take_more found i x within ∙ ap (λ (y : Raw). take i found ++ y ∷ []) (sym is))
      ∙ ap (λ (xs : List Line). taken ++ xs) (map-append seen (take i found) (x ∷ []))
      ∙ sym (append_assoc taken (map seen (take i found)) (seen x ∷ []))
