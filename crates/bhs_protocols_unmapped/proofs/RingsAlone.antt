-- Each node of a network of a file has two links at least. So where none has more, the network is a ring, and the
-- search by halves solves it.
use Rattle.std.proofs.Common.{ℕ, zero, suc, ◌<◌, ◌≤◌, [], ◌∷◌, refl, sym, ap, ◌∙◌, subst, arith}
use Rattle.std.specs.Prelude.{◌≢◌}
use Rattle.bhs_net.specs.Paths.{Path, IsPath, Without}
use Rattle.bhs_net.specs.Network.{Network, IsNetwork, Leads, nodes_of, degree_of, far_of}
use Rattle.bhs_net.proofs.Walks.{Leads-back, Leads-to}
use Rattle.bhs_model.specs.declared.setups.Setup.{Setup}
use Rattle.bhs_model.specs.Setups.{world_of}
use Rattle.bhs_protocols.specs.Invariants.{IsSolved}
use Rattle.bhs_protocols.specs.Halving.{most_moves, most_commands}
use Rattle.bhs_protocols.specs.Halves.{halves_trial}
use Rattle.bhs_protocols.specs.HalvesLaws.{halves_bounds}
use Rattle.bhs_protocols.proofs.AloneLemmas.{IsThird, third}
use Rattle.bhs_protocols.proofs.HalvesRings.{halves_solve_all_rings}
use Rattle.bhs_protocols_unmapped.specs.Unmapped.{HalvesSolveNetworks}

-- the last step of a path to another node
record IsLastStep (Step : ℕ → ℕ → Type 0) (node : ℕ) : Type 0 where
  before : ℕ
  step : Step before node

last_step : (Step : ℕ → ℕ → Type 0) (start node : ℕ) → start ≢ node → IsPath Step start node → IsLastStep Step node
last_step Step start node apart path = by_steps path.0 path.1
  where
    by_steps : (steps : ℕ) → Path Step start node steps → IsLastStep Step node
    by_steps zero same = absurd (apart same)
    by_steps (suc steps) walk = record { before = walk.0; step = walk.2 }

module _ (net : Network) (is : IsNetwork net) (node : ℕ) (within : node < nodes_of net) where
  three : 3 ≤ nodes_of net
  three = is.labelled.few

  pub two_links : 2 ≤ degree_of net node
  two_links =
      let start : IsThird node node = third node node in
      let one : IsLastStep (Leads net) node =
      last_step (Leads net) start.it node start.first
      (is.connected start.it node (omega (arith, start.small, three)) within) in
      let back : Leads net node one.before = Leads-back net is.labelled one.before node one.step in
      let loop : (far_of net node back.0).0 ≢ node = is.labelled.no_loop node back.0 back.1 in
      let apart : node ≢ one.before = λ same. loop (back.2 ∙ sym same) in
      let begin : IsThird node one.before = third node one.before in
      let other : IsLastStep (Without one.before (Leads net)) node =
      last_step (Without one.before (Leads net)) begin.it node begin.first
      (is.biconnected one.before (Leads-to net is.labelled node one.before back) begin.it node
      (omega (arith, begin.small, three)) within begin.second apart) in
      let back_too : Leads net node other.before = Leads-back net is.labelled other.before node other.step.0 in
      let ports : back.0 ≢ back_too.0 = λ same.
      other.step.1 (sym back_too.2 ∙ sym (ap (λ (port : ℕ). (far_of net node port).0) same) ∙ back.2) in
      omega (arith, back.1, back_too.1, ports)

pub halves_solve_networks : HalvesSolveNetworks
halves_solve_networks n wakeups net home hole is nodes greatest home_within hole_within apart =
    let setup : Setup =
    record { home = home; holes = hole ∷ []; dark = []; agents = 2; quota = most_commands n; board = 4 } in
    let solved : IsSolved (halves_trial (world_of net setup) wakeups (nodes_of net)) (halves_bounds (nodes_of net)) =
    halves_solve_all_rings net setup hole wakeups (record {
      network = is;
      two = λ node within.
          let least : 2 ≤ degree_of net node = two_links net is node within in
          let most : degree_of net node ≤ 2 = greatest.most node in
          omega (arith, least, most);
      home = subst (λ (k : ℕ). home < k) (sym nodes) home_within;
      within = subst (λ (k : ℕ). hole < k) (sym nodes) hole_within;
      not_home = apart;
      holes = refl;
      dark = refl;
      agents = refl;
    }) (omega arith) (subst (λ (k : ℕ). most_commands k ≤ most_commands n) (sym nodes) (omega arith)) in
    let same : IsSolved (halves_trial (world_of net setup) wakeups n) (halves_bounds n) =
    subst (λ (k : ℕ). IsSolved (halves_trial (world_of net setup) wakeups k) (halves_bounds k)) nodes solved in
    record { moves = most_moves n; lost = 1; solves = same.solves; rests = same.rests }
