-- A team that finds the black hole on all networks of the family loses one agent after the other, and in the end more
-- than it has.
use Rattle.std.proofs.Common.{ℕ, zero, suc, ◌+◌, ◌*◌, ◌<◌, ◌≤◌, ◌≡◌, List}
use Rattle.std.proofs.Common.{[], ◌++◌, refl, sym, ap, ◌∙◌, subst, inl, inr, arith}
use Rattle.std.proofs.lemmas.Bool.{cases_lt}
use Rattle.bhs_net.specs.declared.faults.TheConstants.{MAX_NODES}
use Rattle.bhs_net.specs.Network.{far_of}
use Rattle.bhs_model.specs.Worlds as worlds
use Rattle.bhs_model.specs.Setups.{network_of}
use Rattle.bhs_model.specs.Examples.{none_held}
use Rattle.bhs_schedules.specs.Strategies.{Strategies}
use Rattle.bhs_schedules.specs.Schedules.{Trial}
use Rattle.bhs_protocols.specs.Configurations.{Configuration}
use Rattle.bhs_protocols.specs.LastWord.{SomeoneHasAccused, FindsFor}
use Rattle.bhs_protocols.specs.Sizes.{Limits, played_on}
use Rattle.bhs_protocols.proofs.FindsLemmas.{never_accused, solver_finds}
use Rattle.bhs_protocols_unmapped.specs.Unmapped.{FindsWithLinks, ManyAgentsAreNeededToFind, ManyAgentsAreNeeded}
use Rattle.bhs_protocols_unmapped.specs.Unmapped.{ManyAgentsAreNeededToFindWithLinks, ManyAgentsAreNeededWithLinks}
use Rattle.bhs_protocols_unmapped.proofs.Cycle.{Member, IsMember, leads}
use Rattle.bhs_protocols_unmapped.proofs.Alike.{Far, over}
use Rattle.bhs_protocols_unmapped.proofs.Game as game
use Rattle.bhs_protocols_unmapped.proofs.Game.{degrees}
use Rattle.bhs_protocols_unmapped.proofs.Rows.{net_of, size, degree_is, far_is, degrees_cycle, degrees_hub}
use Rattle.bhs_protocols_unmapped.proofs.Rows.{degrees_beyond, ports_are}
use Rattle.bhs_protocols_unmapped.proofs.Joined.{is_network}

module _ (d : ℕ) (three : 3 ≤ d) (fits : 2 * d + 2 ≤ MAX_NODES) (terms : Limits) (strategies : Strategies)
    (few : terms.agents ≤ d) (finds : FindsWithLinks (2 * d + 2) d (4 * d) terms strategies) where
  abbrev far : Member → Far
  far member = far_of (net_of d member)

  cycle_far : (member : Member) → IsMember d member → (node port : ℕ) → node < 2 * d → port < 3
      → far member node port ≡ leads d member node port
  cycle_far member is node port below small =
      far_is d member node port (omega (arith, below))
      (subst (λ (n : ℕ). port < n) (sym (degrees_cycle d node below)) small)

  abbrev match_on : Member → Trial
  match_on member = over (2 * d + 2) (degrees d) (2 * d + 1) terms strategies (far member)

  abbrev State : ℕ → Member → List ℕ → Type 0
  State = game.State d three terms strategies few far cycle_far

  few_links : (member : Member) (node : ℕ) → degrees d node ≤ d
  few_links member node = elim (cases_lt node (2 * d)) [
    | inl h ↦ let is : degrees d node ≡ 3 = degrees_cycle d node h in omega (arith, is, three)
    | inr h ↦ elim (cases_lt node (2 * d + 2)) [
      | inl k ↦ let is : degrees d node ≡ d = degrees_hub d node h k in omega (arith, is)
      | inr k ↦ let is : degrees d node ≡ 0 = degrees_beyond d node k in omega (arith, is)
    ]
  ]

  -- The network of this file equals the network of the game.
  same_network : (member : Member) → network_of (net_of d member)
      ≡ (record { nodes = 2 * d + 2; degree = degrees d; far = far member })
  same_network member i = record {
    nodes = size d member i;
    degree = λ node. degree_is d member node i;
    far = far_of (net_of d member);
  }

  found : (hole : ℕ) → 0 < hole → hole < 2 * d + 2 → (member : Member) → IsMember d member
      → FindsFor (over (2 * d + 2) (degrees d) hole terms strategies (far member)) hole
  found hole not_home within member is =
      subst (λ (net : worlds.Network). FindsFor (played_on net terms strategies 0 hole) hole) (same_network member)
      (finds (net_of d member) 0 hole (is_network d three fits member is) (size d member)
      (record {
        most = λ node. subst (λ (n : ℕ). n ≤ d) (sym (degree_is d member node)) (few_links member node);
        attained = (2 * d, degree_is d member (2 * d) ∙ degrees_hub d (2 * d) (omega arith) (omega arith));
      })
      (ports_are d member) (omega arith) within (λ same. omega (arith, same, not_home)))

  -- where the safe hub was not reached, nobody has accused: it can be the black hole too
  silent : (count : ℕ) (member : Member) (schedule : List ℕ) → State count member schedule
      → SomeoneHasAccused (match_on member) schedule → ⊥
  silent count member schedule state it =
      never_accused (match_on member).world none_held terms.wakeups strategies (2 * d + 1) (2 * d)
      (found (2 * d + 1) (omega arith) (omega arith) member state.is)
      (found (2 * d) (omega (arith, three)) (omega arith) member state.is)
      (λ same. omega (arith, same)) schedule it
      (ap (λ (p : Configuration). p.reached (2 * d)) (state.plays member state.is (λ node port was. refl))
      ∙ state.stands.unreached)

  -- Induction on the game's rounds: some agent departs by a port that may lead into the black hole, and the adversary
  -- destroys it, until more agents are lost than the team has.
  lost_all : (rounds count : ℕ) (member : Member) (schedule : List ℕ) → terms.agents < count + rounds
      → State count member schedule → ⊥
  lost_all zero count member schedule left state =
      let lost : count ≤ terms.agents =
      game.enough d count terms.agents member state.known state.configuration state.is state.stands in
      omega (arith, left, lost)
  lost_all (suc rounds) count member schedule left state =
      let said = (found (2 * d + 1) (omega arith) (omega arith) member state.is).accuses schedule in
      elim (game.walk d three terms strategies few far cycle_far said.0 count member schedule state) [
        | inl last ↦ silent count member (schedule ++ said.0) last said.1
        | inr grown ↦ lost_all rounds (count + 1) grown.member grown.schedule (omega (arith, left)) grown.state
      ]

  pub impossible : ⊥
  impossible = lost_all (terms.agents + 1) 0 game.first_member [] (omega arith)
      (game.first_state d three terms strategies few far cycle_far)

pub many_agents_are_needed_to_find_with_links : ManyAgentsAreNeededToFindWithLinks
many_agents_are_needed_to_find_with_links degree terms strategies three fits few finds =
    impossible degree three fits terms strategies few finds

-- who solves finds
pub many_agents_are_needed_with_links : ManyAgentsAreNeededWithLinks
many_agents_are_needed_with_links degree terms strategies three fits few solves =
    impossible degree three fits terms strategies few
    (λ net home hole is nodes degrees_are links_are home_within hole_within apart.
    solver_finds (played_on (network_of net) terms strategies home hole).world none_held terms.wakeups strategies hole
    (solves net home hole is nodes degrees_are links_are home_within hole_within apart))

-- A team that finds or solves without the number of links also does when told the number of links.

pub many_agents_are_needed_to_find : ManyAgentsAreNeededToFind
many_agents_are_needed_to_find degree terms strategies three fits few finds =
    many_agents_are_needed_to_find_with_links degree terms strategies three fits few
    (λ net home hole is nodes degrees_are links_are. finds net home hole is nodes degrees_are)

pub many_agents_are_needed : ManyAgentsAreNeeded
many_agents_are_needed degree terms strategies three fits few solves =
    many_agents_are_needed_with_links degree terms strategies three fits few
    (λ net home hole is nodes degrees_are links_are. solves net home hole is nodes degrees_are)
