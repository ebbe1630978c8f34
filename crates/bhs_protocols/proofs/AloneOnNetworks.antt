-- One agent alone fails on each network of a file.
use Rattle.std.proofs.Common.{ℕ, ◌<◌, ◌≤◌, ◌≡◌, List, [], length, sym, ap, ◌∙◌, nat_lt, arith}
use Rattle.std.proofs.Math.ListN.{get_or-eq_default}
use Rattle.std.proofs.lemmas.Bool.{lt-ltb, ltb-true, true≢false}
use Rattle.bhs_net.specs.Links.{End}
use Rattle.bhs_net.specs.Network.{Network, IsNetwork, nodes_of, degree_of, far_of}
use Rattle.bhs_model.specs.declared.setups.Setup.{Setup}
use Rattle.bhs_model.specs.Setups.{world_of}
use Rattle.bhs_model.proofs.StepLemmas.{by_cases}
use Rattle.bhs_protocols.specs.Alone.{HasThree, OneAloneFailsOnNetworks}
use Rattle.bhs_protocols.proofs.AloneLemmas.{one_alone_fails}

-- Only nodes have ports.
pub is_node : (net : Network) (node port : ℕ) → port < degree_of net node → node < nodes_of net
is_node net node port has = by_cases (nat_lt node (nodes_of net)) (node < nodes_of net)
    (λ yes. ltb-true node (nodes_of net) yes)
    (λ none.
    let far : (node < nodes_of net) → ⊥ = λ h. true≢false (sym (lt-ltb node (nodes_of net) h) ∙ none) in
    let beyond : nodes_of net ≤ node = omega (arith, far) in
    let empty : degree_of net node ≡ 0 = ap (λ (row : List End). length row) (get_or-eq_default net [] beyond) in
    absurd (omega (arith, has, empty)))

-- a network has three nodes, and no link leads back to its own node
has_three : (net : Network) (setup : Setup) → IsNetwork net → setup.home < nodes_of net → HasThree (world_of net setup)
has_three net setup is home = record {
  three = is.labelled.few;
  home = home;
  leads = λ port below. is_node net (far_of net setup.home port).0 (far_of net setup.home port).1
      (is.labelled.within setup.home port below);
  away = is.labelled.no_loop setup.home;
}

pub one_alone_fails_on_networks : OneAloneFailsOnNetworks
one_alone_fails_on_networks net setup wakeups strategies hole schedule is home within not_home rest =
    one_alone_fails (world_of net setup) wakeups strategies hole schedule
    (has_three net setup is home) within not_home rest
