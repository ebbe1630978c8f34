use Rattle.std.proofs.Common.{◌≡◌, ℕ, ◌+◌, ◌-◌, ◌<◌, ⊎_elim, refl, sym, ap, ◌∙◌, arith, List, [], ◌∷◌, ◌++◌, length}
use Rattle.std.proofs.Common.{subst, get_or, length-append}
use Rattle.std.proofs.Math.ListN.{get_or-append}
use Rattle.std.proofs.lemmas.List.{get_or-append_right}
use Rattle.std.specs.BTreeMap.{BTreeMap}
use Rattle.bhs_net.specs.Links.{End}
use Rattle.bhs_net.specs.Network.{Network, row_of}
use Rattle.bhs_net.specs.Listing.{IsRowOf, AreRowsOf}
use Rattle.bhs_net.proofs.Places.{below_or_at}

pub AreRowsOf-none : (far_ends : BTreeMap End End) → AreRowsOf far_ends 0 []
AreRowsOf-none far_ends = record { size = refl; rows = λ node h. absurd (omega arith) }

row_at_end : (net : Network) (row : List End) → row_of (net ++ row ∷ []) (length net) ≡ row
row_at_end net row = get_or-append_right net (row ∷ []) (length net) (length net) [] refl (omega arith)
    ∙ ap (λ k. get_or (row ∷ []) k []) (let z : length net - length net ≡ 0 = omega arith in z)

pub AreRowsOf-more : (far_ends : BTreeMap End End) (nodes : ℕ) (net : Network) (row : List End)
    → AreRowsOf far_ends nodes net → IsRowOf far_ends nodes row → AreRowsOf far_ends (nodes + 1) (net ++ row ∷ [])
AreRowsOf-more far_ends nodes net row rows is_row = record {
  size = let s = rows.size in simp length-append (omega arith);
  rows = λ node h. ⊎_elim
      (λ below. let lt : node < length net = let s = rows.size in omega arith in
      subst (λ (r : List End). IsRowOf far_ends node r) (sym (get_or-append net (row ∷ []) [] node lt))
      (rows.rows node below))
      (λ at. let here : row_of (net ++ row ∷ []) node ≡ row = ap (λ k. row_of (net ++ row ∷ []) k) (at ∙ sym rows.size)
      ∙ row_at_end net row in
      subst (λ (r : List End). IsRowOf far_ends node r) (sym here)
      (subst (λ k. IsRowOf far_ends k row) (sym at) is_row))
      (below_or_at node nodes h);
}
