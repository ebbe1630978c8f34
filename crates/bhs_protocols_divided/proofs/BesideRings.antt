-- The upper bound for networks with a plan, compared with the lower bound for rings.
use Rattle.std.proofs.Common.{ℕ, zero, suc, ◌+◌, ap, ◌-◌, ◌*◌, ◌<◌, ◌≤◌, ◌≡◌, [], ◌∷◌, refl, sym, subst, inl, inr}
use Rattle.std.proofs.Common.{arith}
use Rattle.std.proofs.lemmas.Bool.Decides.{eqb_tells}
use Rattle.bhs_net.specs.Network as networks
use Rattle.bhs_model.specs.Setups.{network_of, world_of}
use Rattle.bhs_model.specs.Worlds.{World}
use Rattle.bhs_model.specs.Examples.{none_held}
use Rattle.bhs_protocols.specs.Invariants.{IsSolved}
use Rattle.bhs_protocols.specs.LastWord.{searched}
use Rattle.bhs_protocols.specs.Programs.{strategies_by}
use Rattle.bhs_protocols.specs.Halving.{rounds, doubled}
use Rattle.bhs_protocols.specs.Quotas.{largest_quota}
use Rattle.bhs_protocols.specs.Rings.{IsSearch}
use Rattle.bhs_protocols.specs.StandardRings.{standard_ring, standard_ways}
use Rattle.bhs_protocols.proofs.HalvingLemmas.{rounds_within, rounds_least, rounds_reach, doubled_within}
use Rattle.bhs_protocols.proofs.StandardLemmas.{standard_rings}
use Rattle.bhs_protocols.proofs.StandardNetworks.{standard_rings_are_networks}
use Rattle.bhs_protocols_bounds.specs.Bound.{least_moves}
use Rattle.bhs_protocols_bounds.proofs.BoundLemmas.{every_team_moves}
use Rattle.bhs_protocols_divided.specs.Plans.{IsPlan, HasPlan}
use Rattle.bhs_protocols_divided.specs.Dividing.{dividers}
use Rattle.bhs_protocols_divided.specs.DividingLaws.{most_moves, most_commands, divided_bounds}
use Rattle.bhs_protocols_divided.specs.DividedBound.{HasTeam, IsOrderNLogN}
use Rattle.bhs_protocols_divided.proofs.DividingTheorem.{dividers_solve}
use Rattle.bhs_protocols_divided.proofs.NetworksPlanned.{networks_have_plans}

has_team : (net : networks.Network) (home : ℕ) → networks.IsNetwork net → home < networks.nodes_of net
    → HasTeam net home
has_team net home is here =
    let it : HasPlan net home = networks_have_plans net home is here in
    record {
      plan = it.plan;
      solves = λ setup wakeups from two room enough hole below not_home.
          let world : World = record (world_of net setup) { holes = hole ∷ []; dark = [] } in
          let solved : IsSolved (searched (world_of net setup) none_held wakeups (strategies_by (dividers it.plan))
          hole)
          (divided_bounds (networks.nodes_of net)) =
          dividers_solve world (networks.nodes_of net) hole wakeups it.plan (record {
            is = subst (λ (k : ℕ). IsPlan (network_of net) k (networks.nodes_of net) it.plan) (sym from) it.is;
            within = below;
            not_home = not_home;
            holes = refl;
            dark = refl;
            agents = two;
          }) room enough in
          (1, solved.solves, solved.rests);
    }

twice : (k m : ℕ) → 2 ≤ k → 2 * m ≤ k * m
twice zero m two = absurd (omega (arith, two))
twice (suc zero) m two = absurd (omega (arith, two))
twice (suc (suc k)) m two = omega arith

up_to : (k d m : ℕ) → k * m ≤ (k + d) * m
up_to k d m = omega arith

few_enough : (n : ℕ) → n ≤ 1025 → most_commands n ≤ largest_quota
few_enough n few =
    let few_rounds : rounds (n - 1) ≤ 10 = rounds_least (n - 1) 10 (omega (arith, few)) in
    let more : rounds (n - 1) * (n - 2) ≤ (rounds (n - 1) + (10 - rounds (n - 1))) * (n - 2) =
    up_to (rounds (n - 1)) (10 - rounds (n - 1)) (n - 2) in
    let ten : rounds (n - 1) + (10 - rounds (n - 1)) ≡ 10 = omega (arith, few_rounds) in
    let all : (rounds (n - 1) + (10 - rounds (n - 1))) * (n - 2) ≡ 10 * (n - 2) = ap (λ (k : ℕ). k * (n - 2)) ten in
    omega (arith, few, few_rounds, more, all)

too_many : (n : ℕ) → 1026 ≤ n → largest_quota < most_commands n
too_many n large =
    let reach : n - 1 ≤ doubled (rounds (n - 1)) = rounds_reach (n - 1) in
    let never : (rounds (n - 1) ≤ 10) → ⊥ = λ h.
    let below : doubled (rounds (n - 1)) ≤ doubled 10 = doubled_within (rounds (n - 1)) 10 h in
    omega (arith, below, reach, large) in
    let many : 11 ≤ rounds (n - 1) = omega (arith, never) in
    let more : 11 * (n - 2) ≤ (11 + (rounds (n - 1) - 11)) * (n - 2) = up_to 11 (rounds (n - 1) - 11) (n - 2) in
    let all : (11 + (rounds (n - 1) - 11)) * (n - 2) ≡ rounds (n - 1) * (n - 2) =
    ap (λ (k : ℕ). k * (n - 2)) (omega (arith, many)) in
    omega (arith, large, more, all)

between : (n : ℕ) → 3 ≤ n → most_moves n ≤ 7 * least_moves n
between n three = elim (eqb_tells n 3) [
  | inl h ↦ subst (λ (k : ℕ). most_moves k ≤ 7 * least_moves k) (sym h.1) (omega arith)
  | inr h ↦
      let three_of : rounds 3 ≤ rounds (n - 1) = rounds_within 3 (n - 1) (omega (arith, three, h.1)) in
      let two_of : rounds 3 ≡ 2 = refl in
      let more : 2 * (n - 2) ≤ rounds (n - 1) * (n - 2) =
      twice (rounds (n - 1)) (n - 2) (omega (arith, three_of, two_of)) in
      omega (arith, more, three)
]

pub is_order_n_log_n : IsOrderNLogN
is_order_n_log_n = record {
  networks = has_team;
  members = standard_rings_are_networks;
  rings = λ n hole wakeups moves setup held strategies set within.
      let search : IsSearch (world_of (standard_ring n) setup) n hole (n - hole) (standard_ways n) =
      standard_rings n hole setup set in
      every_team_moves (world_of (standard_ring n) setup) n wakeups moves (standard_ways n) held strategies search.ring
      search.agents within;
  quotas = λ n. (few_enough n, too_many n);
  between = between;
}
