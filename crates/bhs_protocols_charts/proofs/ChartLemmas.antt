-- Agents that draw a chart solve the match.
use Rattle.std.proofs.Common.{ℕ, zero, suc, ◌+◌, ◌-◌, ◌*◌, ◌<◌, ◌≤◌, ◌≡◌, None}
use Rattle.std.proofs.Common.{[], ◌∷◌, refl, sym, ap, inl, arith}
use Rattle.std.specs.Prelude.{nat_lt}
use Rattle.std.proofs.Math.Nat.{mul-le-mul_left}
use Rattle.std.proofs.lemmas.Bool.{ltb-true, ltb-false}
use Rattle.bhs_model.proofs.StepLemmas.{by_cases}
use Rattle.bhs_protocols.specs.Configurations.{Configuration, blank}
use Rattle.bhs_protocols.specs.Invariants.{IsInvariant}
use Rattle.bhs_protocols.specs.Programs.{held_after}
use Rattle.bhs_protocols.proofs.Principle.{invariants_solve}
use Rattle.bhs_protocols_charts.specs.Charts.{new_row, state_at}
use Rattle.bhs_protocols_charts.specs.Charting.{charters}
use Rattle.bhs_protocols_charts.specs.ChartLaws.{ChartersSolve, chart_bounds, chart_commands, chart_moves, chart_turns}
use Rattle.bhs_protocols_charts.proofs.Totals.{total_constant}
use Rattle.bhs_protocols_charts.proofs.ChartLists.{new_ports, new_states, ports_at}
use Rattle.bhs_protocols_charts.proofs.ChartState.{Game, Inv, IsDrawn, trial as trial_of, n as size, degree, ports}
use Rattle.bhs_protocols_charts.proofs.ChartCounts.{taken_few, paid_few}
use Rattle.bhs_protocols_charts.proofs.ChartRest.{any_turn}
use Rattle.bhs_protocols_charts.proofs.ChartSettles.{fails_never, none_some, settled}

module _ (game : Game) where
  open game use {net, terms, tells, home, hole, can}

  -- ---- the beginning

  all_free : (i p : ℕ) → i < 1 → state_at (new_row 0 0 (degree game home) ∷ []) i p ≡ 0
  all_free zero p lt = new_states 0 0 (degree game home) p
  all_free (suc i) p lt = absurd (omega (arith, lt))

  row_ports : (i : ℕ) → i < 1 → ports_at (new_row 0 0 (degree game home) ∷ []) i ≡ degree game home
  row_ports zero lt = new_ports 0 0 (degree game home)
  row_ports (suc i) lt = absurd (omega (arith, lt))

  blank_drawn : IsDrawn game (new_row 0 0 (degree game home) ∷ []) (λ i. home) blank.shown blank.reached
  blank_drawn = record {
    some = omega arith;
    places = record {
      start = refl;
      early = λ i some lt. absurd (omega (arith, some, lt));
      port = λ i some lt. absurd (omega (arith, some, lt));
      there = λ i some lt. absurd (omega (arith, some, lt));
      safe = λ i lt same. can.apart (sym same);
    };
    apart = record {
      within = λ i lt. can.start;
      safe = λ i lt same. can.apart (sym same);
      apart = λ i j lt low same. omega (arith, lt, low);
    };
    ports_are = row_ports;
    named = λ i some lt. absurd (omega (arith, some, lt));
    names = λ node other. inl refl;
    back = λ i p lt has is. let none = all_free i p lt in absurd (omega (arith, none, is));
    states = λ i p lt has. let none = all_free i p lt in omega (arith, none);
  }

  pub begins : Inv game blank (chart_turns (size game) (ports game) terms.agents terms.wakeups)
  begins =
      let moves = total_constant (size game - 2) terms.agents in
      let turns = total_constant (2 * (terms.wakeups + size game) + 2) terms.agents in
      let order : terms.agents * (2 * (terms.wakeups + size game) + 2)
      ≡ terms.agents * (2 * (size game + terms.wakeups) + 2) = ap (λ (k : ℕ). terms.agents * k) (omega arith) in
      record {
        chart = new_row 0 0 (degree game home) ∷ [];
        place = λ i. home;
        charted = record { drawn = blank_drawn; text = inl (refl, refl) };
        claims = record {
          holds = λ k lt end is. absurd (none_some None end refl is);
          one = λ k j lt low end is too. absurd (none_some None end refl is);
          some = λ i p lt has is. let none = all_free i p lt in absurd (omega (arith, none, is));
        };
        fit = λ k lt. record { placed = refl; waits = refl; accuses = refl; used = omega arith };
        nobody = λ k beyond. refl;
        moves = omega (arith, moves);
        turns = omega (arith, turns, order);
      }

  -- ---- what they cost

  moves_few : (configuration : Configuration) (left : ℕ) → Inv game configuration left
      → configuration.moves ≤ chart_moves (size game) (ports game) terms.agents
  moves_few configuration left inv =
      let most = mul-le-mul_left (2 * (size game - 1)) (taken_few game inv.charted.drawn) in
      let moves = inv.moves in
      omega (arith, most, moves)

  commands_few : (configuration : Configuration) (left k : ℕ) → Inv game configuration left
      → configuration.used k ≤ chart_commands (size game) (ports game) terms.wakeups
  commands_few configuration left k inv = by_cases (nat_lt k terms.agents)
      (configuration.used k ≤ chart_commands (size game) (ports game) terms.wakeups)
      (λ yes.
      let used = (inv.fit k (ltb-true k terms.agents yes)).used in
      let few = paid_few game inv.charted.drawn in
      omega (arith, used, few))
      (λ none. let unused = inv.nobody k (ltb-false k terms.agents none) in omega (arith, unused))

  pub is_invariant : IsInvariant (trial_of game) (chart_bounds net terms hole) (Inv game)
  is_invariant = record {
    first = λ agent. refl;
    begins = begins;
    goes_on = λ configuration left agent within moves inv. any_turn game inv agent within moves;
    moves = moves_few;
    commands = λ configuration left agent inv. commands_few configuration left agent inv;
    fine = λ configuration left agent within inv.
        fails_never (held_after (charters (size game) tells) agent (configuration.history agent));
    settles = λ configuration left still inv. settled game inv still;
  }

pub charters_solve : ChartersSolve
charters_solve net terms tells home hole can =
    let game : Game = record { net = net; terms = terms; tells = tells; home = home; hole = hole; can = can } in
    invariants_solve (trial_of game) (chart_bounds net terms hole) (Inv game) (is_invariant game)
