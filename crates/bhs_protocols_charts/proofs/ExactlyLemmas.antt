-- How many agents suffice on the networks of a file, by the search by a chart; and that no smaller team does.
use Rattle.std.proofs.Common.{ℕ, ◌+◌, ◌-◌, ◌*◌, ◌<◌, ◌≤◌, ◌≡◌, sym, ◌∙◌, subst, arith}
use Rattle.std.proofs.Common.{mul-le-mul_left}
use Rattle.std.specs.Prelude.{◌≢◌}
use Rattle.bhs_net.specs.Network.{Network, IsNetwork, nodes_of, degree_of, ports_of}
use Rattle.bhs_model.specs.Setups.{network_of}
use Rattle.bhs_model.specs.Examples.{none_held}
use Rattle.bhs_schedules.specs.Strategies.{Strategies}
use Rattle.bhs_protocols.specs.Invariants.{IsSolved}
use Rattle.bhs_protocols.specs.LastWord.{SolvesFor, FindsFor}
use Rattle.bhs_protocols.specs.Programs.{strategies_by}
use Rattle.bhs_protocols.specs.Sizes.{Limits, played_on}
use Rattle.bhs_protocols.proofs.FindsLemmas.{solver_finds}
use Rattle.bhs_protocols_unmapped.specs.Degrees.{ports_beside}
use Rattle.bhs_protocols_unmapped.proofs.Degrees.{all_ports, parity}
use Rattle.bhs_protocols_unmapped.proofs.RingsAlone.{two_links}
use Rattle.bhs_protocols_unmapped.proofs.UnmappedLemmas.{many_agents_are_needed_to_find, many_agents_are_needed}
use Rattle.bhs_protocols_unmapped.proofs.UnmappedLemmas.{many_agents_are_needed_to_find_with_links}
use Rattle.bhs_protocols_unmapped.proofs.UnmappedLemmas.{many_agents_are_needed_with_links}
use Rattle.bhs_protocols_charts.specs.Charting.{charters}
use Rattle.bhs_protocols_charts.specs.ChartLaws.{CanChart, CanSearch, chart_trial, chart_bounds, chart_commands}
use Rattle.bhs_protocols_charts.specs.ChartLaws.{chart_moves}
use Rattle.bhs_protocols_charts.specs.Exactly.{chart_limits, LinksSuffice, ThreeLinksSuffice}
use Rattle.bhs_protocols_charts.specs.Exactly.{RegularNetworksSuffice, ExactlyFour, ExactlyFourFind, ExactlyOneMore}
use Rattle.bhs_protocols_charts.specs.Exactly.{ExactlyOneMoreFinds}
use Rattle.bhs_protocols_charts.specs.Told.{by_links, by_parity, by_degree}
use Rattle.bhs_protocols_charts.proofs.ChartLemmas.{charters_solve}
use Rattle.bhs_protocols_charts.proofs.PortCounts.{IsEven, even_ports, few_beside}

-- more ports cost more commands
commands_grow : (nodes few ports wakeups : ℕ) → few ≤ ports
    → chart_commands nodes few wakeups ≤ chart_commands nodes ports wakeups
commands_grow nodes few ports wakeups most =
    omega (
      arith,
      mul-le-mul_left (2 * nodes - 1) most,
      mul-le-mul_left (wakeups + 3) (let twice : 2 * few ≤ 2 * ports = omega (arith, most) in twice),
    )

-- what all laws below say of a network, a home base and a black hole
solved : (net : Network) (terms : Limits) (tells : ℕ → ℕ) (home hole nodes ports : ℕ) → IsNetwork net
    → nodes_of net ≡ nodes → home < nodes → hole < nodes → hole ≢ home
    → tells (ports_beside net hole) ≡ degree_of net hole → degree_of net hole < terms.agents
    → ports_beside net hole ≤ ports → CanChart nodes ports terms
    → SolvesFor (played_on (network_of net) terms (strategies_by (charters nodes tells)) home hole)
solved net terms tells home hole nodes ports is size home_within hole_within apart told agents few can =
    subst (λ (n : ℕ). SolvesFor (played_on (network_of net) terms (strategies_by (charters n tells)) home hole)) size
    (record {
      moves = chart_moves (nodes_of net) (ports_beside net hole) terms.agents;
      lost = degree_of net hole;
      solves = it.solves;
      rests = it.rests;
    })
  where
    search : CanSearch net terms tells home hole
    search = record {
      network = is;
      start = subst (λ (n : ℕ). home < n) (sym size) home_within;
      within = subst (λ (n : ℕ). hole < n) (sym size) hole_within;
      apart = apart;
      told = told;
      agents = agents;
      enough = record {
        board = omega (arith, size, few, can.board);
        quota = subst (λ (n : ℕ). chart_commands n (ports_beside net hole) terms.wakeups ≤ terms.quota) (sym size)
            (omega (arith, commands_grow nodes (ports_beside net hole) ports terms.wakeups few, can.quota));
      };
    }

    it : IsSolved (chart_trial net terms tells home hole) (chart_bounds net terms hole)
    it = charters_solve net terms tells home hole search

-- ---- how many agents suffice

pub links_suffice : LinksSuffice
links_suffice nodes degree links terms more can net home hole is size greatest all home_within hole_within apart =
    let within : hole < nodes_of net = subst (λ (n : ℕ). hole < n) (sym size) hole_within in
    let ports : degree_of net hole + ports_beside net hole ≡ ports_of net = all_ports net hole within in
    let most : degree_of net hole ≤ degree = greatest.most hole in
    solved net terms (by_links links) home hole nodes (2 * links) is size home_within hole_within apart
    (omega (arith, ports, all)) (omega (arith, most, more)) (omega (arith, ports, all)) can

pub three_links_suffice : ThreeLinksSuffice
three_links_suffice nodes terms more can net home hole is size greatest home_within hole_within apart =
    let within : hole < nodes_of net = subst (λ (n : ℕ). hole < n) (sym size) hole_within in
    let even : IsEven (ports_of net) = even_ports net is.labelled in
    let most : degree_of net hole ≤ 3 = greatest.most hole in
    solved net terms by_parity home hole nodes (3 * (nodes - 1)) is size home_within hole_within apart
    (sym (parity (degree_of net hole) (ports_beside net hole) even.half (two_links net is hole within) most
    (all_ports net hole within ∙ even.is)))
    (omega (arith, most, more))
    (subst (λ (n : ℕ). ports_beside net hole ≤ 3 * (n - 1)) size
    (few_beside net is.labelled hole 3 within (λ node low. greatest.most node))) can

pub regular_networks_suffice : RegularNetworksSuffice
regular_networks_suffice nodes degree terms more can net home hole is size all home_within hole_within apart =
    let within : hole < nodes_of net = subst (λ (n : ℕ). hole < n) (sym size) hole_within in
    let here : degree_of net hole ≡ degree = all hole hole_within in
    solved net terms (by_degree degree) home hole nodes (degree * (nodes - 1)) is size home_within hole_within apart
    (sym here) (omega (arith, here, more))
    (subst (λ (n : ℕ). ports_beside net hole ≤ degree * (n - 1)) size
    (few_beside net is.labelled hole degree within (λ node low.
    let same : degree_of net node ≡ degree = all node (subst (λ (n : ℕ). node < n) size low) in
    omega (arith, same)))) can

-- ---- exactly so many

-- who solves finds
finds : (net : Network) (terms : Limits) (strategies : Strategies) (home hole : ℕ)
    → SolvesFor (played_on (network_of net) terms strategies home hole)
    → FindsFor (played_on (network_of net) terms strategies home hole) hole
finds net terms strategies home hole =
    solver_finds (played_on (network_of net) terms strategies home hole).world none_held terms.wakeups strategies hole

can_chart : (nodes ports agents wakeups : ℕ) → CanChart nodes ports (chart_limits nodes ports agents wakeups)
can_chart nodes ports agents wakeups = record { board = omega arith; quota = omega arith }

pub exactly_four : ExactlyFour
exactly_four wakeups = record {
  does = three_links_suffice 8 (chart_limits 8 21 4 wakeups) (omega arith) (can_chart 8 21 4 wakeups);
  least = λ others strategies fewer. many_agents_are_needed 3 others strategies (omega arith) (omega arith)
      (omega (arith, fewer));
}

pub exactly_four_find : ExactlyFourFind
exactly_four_find wakeups = record {
  does = λ net home hole is size greatest home_within hole_within apart.
      finds net (chart_limits 8 21 4 wakeups) (strategies_by (charters 8 by_parity)) home hole
      ((exactly_four wakeups).does net home hole is size greatest home_within hole_within apart);
  least = λ others strategies fewer. many_agents_are_needed_to_find 3 others strategies (omega arith) (omega arith)
      (omega (arith, fewer));
}

pub exactly_one_more : ExactlyOneMore
exactly_one_more degree wakeups three fits = record {
  does = links_suffice (2 * degree + 2) degree (4 * degree)
      (chart_limits (2 * degree + 2) (2 * (4 * degree)) (degree + 1) wakeups) (omega arith)
      (can_chart (2 * degree + 2) (2 * (4 * degree)) (degree + 1) wakeups);
  least = λ others strategies fewer. many_agents_are_needed_with_links degree others strategies three fits
      (omega (arith, fewer));
}

pub exactly_one_more_finds : ExactlyOneMoreFinds
exactly_one_more_finds degree wakeups three fits = let solve = exactly_one_more degree wakeups three fits in record {
  does = λ net home hole is size greatest all home_within hole_within apart.
      finds net (chart_limits (2 * degree + 2) (2 * (4 * degree)) (degree + 1) wakeups)
      (strategies_by (charters (2 * degree + 2) (by_links (4 * degree)))) home hole
      (solve.does net home hole is size greatest all home_within hole_within apart);
  least = λ others strategies fewer. many_agents_are_needed_to_find_with_links degree others strategies three fits
      (omega (arith, fewer));
}
