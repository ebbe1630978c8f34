-- Ways through a network by ports, and the paths of a chart.
use Rattle.std.proofs.Common.{ℕ, zero, suc, ◌<◌, ◌≤◌, ◌≡◌, ◌==◌, List, [], ◌∷◌, ◌++◌, length}
use Rattle.std.proofs.Common.{refl, sym, ap, ◌∙◌, subst, arith}
use Rattle.std.specs.Prelude.{◌≢◌}
use Rattle.std.proofs.lemmas.Bool.{cond-false, ne_eqb}
use Rattle.std.proofs.lemmas.List.{length_push}
use Rattle.bhs_model.specs.Worlds.{Network}
use Rattle.bhs_protocols_charts.specs.Charts.{Chart, row_at, path, path_to}

-- these ports lead from one node to the other, past nodes that are not the hole
abbrev pub IsWay : Network → (hole node : ℕ) → (ports : List ℕ) → (target : ℕ) → Type 0
IsWay net hole node [] target = node ≡ target
IsWay net hole node (port ∷ ports) target =
    (port < net.degree node) × ((net.far node port).0 ≢ hole) × IsWay net hole (net.far node port).0 ports target

-- and by the last port on, wherever that leads
abbrev pub IsWayOut : Network → (hole node : ℕ) → (ports : List ℕ) → (place port : ℕ) → Type 0
IsWayOut net hole node [] place port = ⊥
IsWayOut net hole node (next ∷ []) place port = (node ≡ place) × (next ≡ port)
IsWayOut net hole node (next ∷ more ∷ ports) place port =
    (next < net.degree node) × ((net.far node next).0 ≢ hole)
    × IsWayOut net hole (net.far node next).0 (more ∷ ports) place port

pub way_on : (net : Network) (hole node : ℕ) (ports more : List ℕ) (middle target : ℕ)
    → IsWay net hole node ports middle → IsWay net hole middle more target → IsWay net hole node (ports ++ more) target
way_on net hole node [] more middle target way on = subst (λ (k : ℕ). IsWay net hole k more target) (sym way) on
way_on net hole node (port ∷ ports) more middle target way on =
    (way.0, way.1, way_on net hole (net.far node port).0 ports more middle target way.2 on)

pub way_out : (net : Network) (hole node : ℕ) (ports : List ℕ) (place port : ℕ) → IsWay net hole node ports place
    → IsWayOut net hole node (ports ++ port ∷ []) place port
way_out net hole node [] place port way = (way, refl)
way_out net hole node (next ∷ []) place port way = (way.0, way.1, (way.2, refl))
way_out net hole node (next ∷ more ∷ ports) place port way =
    (way.0, way.1, way_out net hole (net.far node next).0 (more ∷ ports) place port way.2)

-- Each row except the first is reached from an earlier row, by a port that does not lead to the black hole.
pub record HasPlaces (net : Network) (home hole : ℕ) (chart : Chart) (place : ℕ → ℕ) : Type 0 where
  pub start : place 0 ≡ home
  pub early : (i : ℕ) → 0 < i → i < length chart → (row_at chart i).father < i
  pub port : (i : ℕ) → 0 < i → i < length chart
      → (row_at chart i).port < net.degree (place (row_at chart i).father)
  pub there : (i : ℕ) → 0 < i → i < length chart
      → (net.far (place (row_at chart i).father) (row_at chart i).port).0 ≡ place i
  pub safe : (i : ℕ) → i < length chart → place i ≢ hole

-- the path of a row with a father
pub path_on : (chart : Chart) (fuel row : ℕ) → path_to chart (suc fuel) (suc row)
    ≡ path_to chart fuel (row_at chart (suc row)).father ++ (row_at chart (suc row)).port ∷ []
path_on chart fuel row = cond-false (suc row == 0) [] (path_to chart fuel (row_at chart (suc row)).father
    ++ (row_at chart (suc row)).port ∷ []) (ne_eqb (suc row) 0 (omega arith))

-- so its path leads to its place, by at most so many ports as there are rows before it
module _ (net : Network) (home hole : ℕ) (chart : Chart) (place : ℕ → ℕ)
    (has : HasPlaces net home hole chart place) where
  path_to_leads : (fuel row : ℕ) → row ≤ fuel → row < length chart
      → IsWay net hole home (path_to chart fuel row) (place row)
  path_to_leads zero zero enough within = sym has.start
  path_to_leads zero (suc row) enough within = absurd (omega arith)
  path_to_leads (suc fuel) zero enough within = sym has.start
  path_to_leads (suc fuel) (suc row) enough within =
      let father : ℕ = (row_at chart (suc row)).father in
      let port : ℕ = (row_at chart (suc row)).port in
      let early : father < suc row = has.early (suc row) (omega arith) within in
      let there : (net.far (place father) port).0 ≡ place (suc row) = has.there (suc row) (omega arith) within in
      subst (λ (ports : List ℕ). IsWay net hole home ports (place (suc row))) (sym (path_on chart fuel row))
      (way_on net hole home (path_to chart fuel father) (port ∷ []) (place father) (place (suc row))
      (path_to_leads fuel father (omega arith) (omega arith))
      (has.port (suc row) (omega arith) within, (λ same. has.safe (suc row) within (sym there ∙ same)), there))

  path_to_short : (fuel row : ℕ) → row ≤ fuel → row < length chart → length (path_to chart fuel row) ≤ row
  path_to_short zero zero enough within = omega arith
  path_to_short zero (suc row) enough within = absurd (omega arith)
  path_to_short (suc fuel) zero enough within = omega arith
  path_to_short (suc fuel) (suc row) enough within =
      let father : ℕ = (row_at chart (suc row)).father in
      let early : father < suc row = has.early (suc row) (omega arith) within in
      omega (
        arith,
        ap (λ (ports : List ℕ). length ports) (path_on chart fuel row),
        length_push (path_to chart fuel father) (row_at chart (suc row)).port,
        path_to_short fuel father (omega arith) (omega arith),
      )

  pub path_leads : (row : ℕ) → row < length chart → IsWay net hole home (path chart row) (place row)
  path_leads row within = path_to_leads row row (omega arith) within

  pub path_short : (row : ℕ) → row < length chart → length (path chart row) ≤ row
  path_short row within = path_to_short row row (omega arith) within
