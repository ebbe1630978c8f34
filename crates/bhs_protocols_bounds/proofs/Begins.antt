-- How the adversary begins: an agent is on a link to the first node that it would reach, and the other one goes to a
-- link to the other neighbour of the home base.
use Rattle.std.proofs.Common.{ℕ, ◌+◌, ◌-◌, ◌<◌, ◌≤◌, ◌≡◌, ◌⊎◌, true, false, Some, None, List, [], ◌∷◌, refl, sym, ap}
use Rattle.std.proofs.Common.{◌∙◌, subst, inl, inr, nat_lt, arith}
use Rattle.std.specs.Prelude.{◌≢◌}
use Rattle.std.proofs.lemmas.Bool.{true≢false, ne_eqb, ltb-true}
use Rattle.std.proofs.lemmas.Bool.Decides.{eqb_tells}
use Rattle.bhs_model.specs.Worlds.{World}
use Rattle.bhs_model.specs.Draws.{Held}
use Rattle.bhs_model.specs.Runs.{Bound}
use Rattle.bhs_model.proofs.StepLemmas.{by_cases, changed_other}
use Rattle.bhs_schedules.specs.Strategies.{Strategies}
use Rattle.bhs_schedules.specs.Schedules.{Trial}
use Rattle.bhs_protocols.specs.Configurations.{Configuration, blank, deed_in, turn_in, turns_in}
use Rattle.bhs_protocols.specs.LastWord.{SomeoneHasAccused, Finds}
use Rattle.bhs_protocols.specs.Rings.{Ways, IsRing}
use Rattle.bhs_protocols.proofs.FindsLemmas.{accused_in}
use Rattle.bhs_protocols.proofs.LastWordLemmas.{own_in}
use Rattle.bhs_protocols_bounds.proofs.Holeless.{free, hidden, IsReachable, IsPlayed, played, goes_on}
use Rattle.bhs_protocols_bounds.proofs.Places.{IsOnLinkTo, runs, reachable_runs}
use Rattle.bhs_protocols_bounds.proofs.Accusing.{no_agent, nobody_accused}
use Rattle.bhs_protocols_bounds.proofs.Lines.{Line, AreNext, IsLine, IsFront}
use Rattle.bhs_protocols_bounds.proofs.Mirror.{mirror, mirror_line, turned, turned_is, IsTurned}
use Rattle.bhs_protocols_bounds.proofs.MoveCounts.{both_moved}
use Rattle.bhs_protocols_bounds.proofs.Placing.{IsNet, IsPlacedAt, ArePlaced, reachable_placed}
use Rattle.bhs_protocols_bounds.proofs.Stages.{IsStage}
use Rattle.bhs_protocols_bounds.proofs.Phases.{Steps, untouched}
use Rattle.bhs_protocols_bounds.proofs.Order.{done_reaches, in_order}
use Rattle.bhs_protocols_bounds.proofs.RingLines.{ring_line, ring_line_is}

module _ (world : World) (held : Held) (wakeups : ℕ) (strategies : Strategies) (n : ℕ) (net : IsNet world)
    (finds : Finds world held wakeups strategies) (two : world.agents ≡ 2) (three : 3 ≤ n) where
  abbrev empty : Trial
  empty = free world held wakeups strategies

  -- no node but the home base was reached
  abbrev IsUnexplored : Configuration → Type 0
  IsUnexplored configuration = (node : ℕ) → node ≢ world.home → configuration.reached node ≡ false

  -- An agent is on a link to the first new node.
  record FirstArrival : Type 0 where
    configuration : Configuration
    reachable : IsReachable world held wakeups strategies configuration
    unexplored : IsUnexplored configuration
    agent : ℕ
    within : agent < 2
    start : ℕ
    port : ℕ
    on : configuration.position agent ≡ Bound start port
    away : (world.net.far start port).0 ≢ world.home

  first_arrival : (schedule : List ℕ) (configuration : Configuration)
      → IsReachable world held wakeups strategies configuration → IsUnexplored configuration → (node : ℕ)
      → node ≢ world.home → (turns_in empty configuration schedule).reached node ≡ true → FirstArrival
  first_arrival [] configuration reachable unexplored node apart was =
      absurd (true≢false (sym was ∙ unexplored node apart))
  first_arrival (agent ∷ schedule) configuration reachable unexplored node apart was =
      let next : Configuration = turn_in empty configuration agent in
      let on : IsUnexplored next → FirstArrival =
      λ still. first_arrival schedule next
      (goes_on world held wakeups strategies configuration (agent ∷ []) reachable) still node apart was in
      elim (done_reaches world held wakeups strategies n net finds two configuration agent
      (deed_in empty configuration agent) (own_in empty configuration agent)) [
        | inl same ↦ on (λ v away. same v ∙ unexplored v away)
        | inr arrival ↦
            let target : ℕ = (world.net.far arrival.start arrival.port).0 in
            elim (eqb_tells target world.home) [
              | inl h ↦ on (λ v away. arrival.reached v
                  ∙ changed_other configuration.reached target v true
                  (ne_eqb v target (λ same. away (same ∙ h.1)))
                  ∙ unexplored v away)
              | inr h ↦ by_cases (nat_lt agent world.agents) FirstArrival
                  (λ yes. record {
                    configuration = configuration;
                    reachable = reachable;
                    unexplored = unexplored;
                    agent = agent;
                    within = subst (λ (k : ℕ). agent < k) two (ltb-true agent world.agents yes);
                    start = arrival.start;
                    port = arrival.port;
                    on = arrival.on;
                    away = h.1;
                  })
                  (λ none. on (λ v away. ap (λ (p : Configuration). p.reached v)
                  (no_agent world held wakeups strategies finds empty configuration agent none)
                  ∙ unexplored v away))
            ]
      ]

  module _ (line : Line) (is : IsLine world.net n line) (home_first : line.number world.home ≡ 0) where
    home_below : world.home < n
    home_below = subst (λ (m : ℕ). world.home < m) is.size net.home

    away_from_home : (k : ℕ) → 0 < k → k < n → line.at k ≢ world.home
    away_from_home k some below same =
        let number : line.number (line.at k) ≡ k = is.there k below in
        let there : line.number (line.at k) ≡ line.number world.home = ap line.number same in
        omega (arith, number, there, home_first, some)

    -- with the black hole next to the home base somebody accuses in the end, so another node is reached before
    some_arrival : FirstArrival
    some_arrival =
        let hole : ℕ = line.at 1 in
        let other : ℕ = line.at 2 in
        let hole_below : hole < world.net.nodes =
        subst (λ (m : ℕ). hole < m) (sym is.size) (is.nodes 1 (omega (arith, three))) in
        let other_below : other < world.net.nodes =
        subst (λ (m : ℕ). other < m) (sym is.size) (is.nodes 2 (omega (arith, three))) in
        let not_home : hole ≢ world.home = away_from_home 1 (omega arith) (omega (arith, three)) in
        let other_not_home : other ≢ world.home = away_from_home 2 (omega arith) (omega (arith, three)) in
        let apart : hole ≢ other = λ same.
        let one_is : line.number hole ≡ 1 = is.there 1 (omega (arith, three)) in
        let two_is : line.number other ≡ 2 = is.there 2 (omega (arith, three)) in
        let equal : line.number hole ≡ line.number other = ap line.number same in
        omega (arith, one_is, two_is, equal) in
        let trial : Trial = hidden world held wakeups strategies hole in
        let found = (finds hole hole_below not_home).accuses [] in
        let said : SomeoneHasAccused trial found.0 = found.1 in
        let it : IsPlayed world held wakeups strategies hole blank found.0 =
        played world held wakeups strategies hole found.0 blank refl in
        let configuration : Configuration = turns_in empty blank it.other in
        let accused : configuration.accused said.agent ≡ Some said.link =
        ap (λ (p : Configuration). p.accused said.agent) it.same ∙ accused_in trial found.0 said in
        let reachable : IsReachable world held wakeups strategies configuration =
        record { schedule = it.other; leads = refl } in
        let start : IsReachable world held wakeups strategies blank = record { schedule = []; leads = refl } in
        by_cases (configuration.reached other) FirstArrival
        (λ was. first_arrival it.other blank start (λ v away. refl) other other_not_home was)
        (λ none.
        let silent : configuration.accused said.agent ≡ None =
        nobody_accused world held wakeups strategies finds configuration hole other said.agent reachable
        (record {
          below = hole_below;
          not_home = not_home;
          never = ap (λ (p : Configuration). p.reached hole) it.same ∙ it.never;
        })
        (record { below = other_below; not_home = other_not_home; never = none }) apart said.within in
        absurd (let both : None ≡ Some said.link = sym silent ∙ accused in cc))

    -- if that agent's link leads to the last node of the line, the other one goes on to the first
    begins_at : (it : FirstArrival) → line.number (world.net.far it.start it.port).0 ≡ n - 1
        → (world.net.far it.start it.port).0 < n → IsStage world held wakeups strategies n (n - 1) 2
    begins_at it last below =
        let configuration : Configuration = it.configuration in
        let target : ℕ = (world.net.far it.start it.port).0 in
        let c : ℕ = 1 - it.agent in
        let within : it.agent < 2 = it.within in
        let twice : it.agent ≡ 1 - c = omega (arith, within) in
        let differ : 1 - c ≢ c = λ same. omega (arith, same) in
        let there : IsOnLinkTo world configuration it.agent (line.at (n - 1)) = record {
          start = it.start;
          port = it.port;
          on = it.on;
          to = sym (is.back target below) ∙ ap line.at last;
        } in
        let there_too : IsOnLinkTo world configuration (1 - c) (line.at (n - 1)) =
        subst (λ (j : ℕ). IsOnLinkTo world configuration j (line.at (n - 1))) twice there in
        let front : IsFront world n configuration line 1 = record {
          safe = λ node inside low.
              let number : line.number node ≡ line.number world.home = omega (arith, low, home_first) in
              inl (sym (is.back node inside) ∙ ap line.at number ∙ is.back world.home home_below);
          explored = λ node inside safe. elim safe [
            | inl h ↦ let first : line.number node ≡ line.number world.home = ap line.number h in
                omega (arith, first, home_first)
            | inr h ↦ elim (eqb_tells node world.home) [
              | inl e ↦ let first : line.number node ≡ line.number world.home = ap line.number e.1 in
                  omega (arith, first, home_first)
              | inr e ↦ absurd (true≢false (sym h ∙ it.unexplored node e.1))
            ]
          ];
        } in
        let steps : Steps world held wakeups strategies n net configuration line c 1 =
        in_order world held wakeups strategies n net finds two configuration line 1 c 1 is (omega arith) (omega arith)
        (omega (arith, three)) (omega arith) it.reachable front there_too in
        let end : Configuration = runs world held wakeups strategies configuration c steps.count in
        let reachable : IsReachable world held wakeups strategies end =
        reachable_runs world held wakeups strategies configuration c steps.count it.reachable in
        let still : end.position (1 - c) ≡ Bound there_too.start there_too.port =
        untouched world held wakeups strategies n net steps.count configuration c (1 - c) differ ∙ there_too.on in
        record {
          configuration = end;
          line = line;
          front = 1;
          agent = c;
          line_is = is;
          spread = record {
            some = omega arith;
            two_new = omega (arith, three);
            within = omega arith;
            reachable = reachable;
            front_is = steps.goes.front;
            here = record {
              start = steps.goes.on.start;
              port = steps.goes.on.port;
              on = steps.goes.on.on;
              to = steps.goes.on.to;
            };
            there = record { start = there_too.start; port = there_too.port; on = still; to = there_too.to };
          };
          left = omega (arith, three);
          moves = both_moved world held wakeups strategies end (1 - c) c there_too.start steps.goes.on.start
              there_too.port steps.goes.on.port differ reachable still steps.goes.on.on;
        }

  -- the line from the home base, or its mirror, has that node at its end
  pub begins : (line : Line) → IsLine world.net n line → line.number world.home ≡ 0
      → IsStage world held wakeups strategies n (n - 1) 2
  begins line is home_first =
      let it : FirstArrival = some_arrival line is home_first in
      let configuration : Configuration = it.configuration in
      let target : ℕ = (world.net.far it.start it.port).0 in
      let home : world.home < n = home_below line is home_first in
      let placed : ArePlaced world configuration =
      reachable_placed world held wakeups strategies net configuration it.reachable in
      let here : IsPlacedAt world configuration.reached (Bound it.start it.port) =
      subst (IsPlacedAt world configuration.reached) it.on (placed.each it.agent) in
      let inside : it.start < n = subst (λ (m : ℕ). it.start < m) is.size here.0 in
      let from_home : it.start ≡ world.home = elim here.1 [
        | inl h ↦ h
        | inr h ↦ elim (eqb_tells it.start world.home) [
          | inl e ↦ e.1
          | inr e ↦ absurd (true≢false (sym h ∙ it.unexplored it.start e.1))
        ]
      ] in
      let below : target < n = is.within it.start it.port inside here.2 in
      let next : AreNext n (line.number it.start) (line.number target) =
      is.next it.start it.port inside here.2 in
      let first : line.number it.start ≡ 0 = ap line.number from_home ∙ home_first in
      let not_first : line.number target ≢ 0 = λ zero_is. it.away
      (sym (is.back target below) ∙ ap line.at (zero_is ∙ sym home_first) ∙ is.back world.home home) in
      elim (side (line.number it.start) (line.number target) first not_first next.either) [
        | inl last ↦ begins_at line is home_first it last below
        | inr one ↦
            let other : Line = mirror n 1 line in
            let other_is : IsLine world.net n other =
            mirror_line world.net n 1 line (omega arith) (omega (arith, three)) is in
            let home_still : other.number world.home ≡ 0 =
            ap (turned n 1) home_first ∙ first_stays (turned n 1 0) (turned_is n 1 0 (omega (arith, three))) in
            begins_at other other_is home_still it
            (ap (turned n 1) one ∙ last_is (turned n 1 1) (turned_is n 1 1 (omega (arith, three)))) below
      ]
    where
      side : (x y : ℕ) → x ≡ 0 → y ≢ 0
          → (x ≡ y + 1) ⊎ (y ≡ x + 1) ⊎ ((x ≡ 0) × (y + 1 ≡ n)) ⊎ ((y ≡ 0) × (x + 1 ≡ n)) → (y ≡ n - 1) ⊎ (y ≡ 1)
      side x y first not_first either = elim either [
        | inl h ↦ absurd (omega (arith, h, first))
        | inr rest ↦ elim rest [
          | inl h ↦ inr (omega (arith, h, first))
          | inr others ↦ elim others [
            | inl h ↦ inl (let last : y + 1 ≡ n = h.1 in omega (arith, last))
            | inr h ↦ absurd (not_first h.0)
          ]
        ]
      ]

      first_stays : (it : ℕ) → IsTurned n 1 0 it → it ≡ 0
      first_stays it is = elim is.either [
        | inl h ↦ let sum : it + 0 + 1 ≡ 1 = h.1 in omega (arith, sum)
        | inr h ↦ absurd (let high : 1 ≤ 0 = h.0 in omega (arith, high))
      ]

      last_is : (it : ℕ) → IsTurned n 1 1 it → it ≡ n - 1
      last_is it is = elim is.either [
        | inl h ↦ absurd (let low : 1 < 1 = h.0 in omega (arith, low))
        | inr h ↦ let sum : it + 1 + 1 ≡ n + 1 = h.1 in omega (arith, sum)
      ]

pub begins_on_ring : (world : World) (n wakeups : ℕ) (ways : Ways) (held : Held) (strategies : Strategies)
    → IsNet world → IsRing world n ways → world.agents ≡ 2 → Finds world held wakeups strategies
    → IsStage world held wakeups strategies n (n - 1) 2
begins_on_ring world n wakeups ways held strategies net ring two finds =
    let line : Line = ring_line world n ways ring in
    let is : IsLine world.net n line = ring_line_is world n ways ring in
    let three : 3 ≤ n = ring.three in
    begins world held wakeups strategies n net finds two three line is
    (ap line.number (sym (ring.home 0)) ∙ is.there 0 (omega (arith, three)))
