-- While the other waits on a link to the last new node, an agent explores the nodes before it in order.
use Rattle.std.proofs.Common.{ℕ, zero, suc, ◌+◌, ◌-◌, ◌<◌, ◌≤◌, ◌≡◌, ◌⊎◌, true, Some, None, refl, sym, ap, ◌∙◌, subst}
use Rattle.std.proofs.Common.{inl, inr, arith}
use Rattle.std.specs.Prelude.{◌≢◌}
use Rattle.std.proofs.lemmas.Bool.{cases_lt}
use Rattle.std.proofs.lemmas.Bool.Decides.{eqb_tells}
use Rattle.bhs_model.specs.declared.events.Event.TheVariants.{Tell, Deliver, Close}
use Rattle.bhs_model.specs.Worlds.{World}
use Rattle.bhs_model.specs.Draws.{Held}
use Rattle.bhs_model.specs.Runs.{Position, Before, At, Bound, After, changed}
use Rattle.bhs_model.proofs.StepLemmas.{changed_same, changed_other}
use Rattle.bhs_schedules.specs.Strategies.{Strategies}
use Rattle.bhs_schedules.specs.Schedules.{Trial, Action, Makes, Wakes, Rests}
use Rattle.bhs_schedules.proofs.Turns.{IsOwn}
use Rattle.bhs_protocols.specs.Configurations.{Configuration, deed_in, done_in, delivered_in, turn_in}
use Rattle.bhs_protocols.proofs.LastWordLemmas.{ended_rests, own_in}
use Rattle.bhs_protocols.specs.LastWord.{Finds}
use Rattle.bhs_protocols_bounds.proofs.Holeless.{free, IsReachable, reached_said}
use Rattle.bhs_protocols_bounds.proofs.Places.{IsSafe, IsNew, IsOnLinkTo, runs, reachable_runs}
use Rattle.bhs_protocols_bounds.proofs.Accusing.{nobody_accused, AccusesAlone, accuses_alone}
use Rattle.bhs_protocols_bounds.proofs.Lines.{Line, AreNext, IsLine, IsFront, IsShort, Goes, number_of}
use Rattle.bhs_protocols_bounds.proofs.Placing.{IsNet, IsPlacedAt, ArePlaced, reachable_placed}
use Rattle.bhs_protocols_bounds.proofs.Stages.{new_at}
use Rattle.bhs_protocols_bounds.proofs.Phases.{InOrder, Steps, untouched}

module _ (world : World) (held : Held) (wakeups : ℕ) (strategies : Strategies) (n : ℕ) (net : IsNet world)
    (finds : Finds world held wakeups strategies) (two : world.agents ≡ 2) where
  abbrev empty : Trial
  empty = free world held wakeups strategies

  abbrev after : Configuration → (agent count : ℕ) → Configuration
  after configuration agent count = runs world held wakeups strategies configuration agent count

  -- an arrival
  pub record Arrives (configuration : Configuration) (agent : ℕ) (new : Configuration) : Type 0 where
    pub start : ℕ
    pub port : ℕ
    pub on : configuration.position agent ≡ Bound start port
    pub reached : (node : ℕ) → new.reached node ≡ changed configuration.reached (world.net.far start port).0 true node

  -- what a turn reaches
  pub done_reaches : (configuration : Configuration) (agent : ℕ) (it : Action) → IsOwn agent it
      → ((node : ℕ) → (done_in empty configuration agent it).reached node ≡ configuration.reached node)
      ⊎ Arrives configuration agent (done_in empty configuration agent it)
  done_reaches configuration agent (Makes (Tell other command)) own =
      inl (λ node. reached_said empty.world configuration other command node)
  done_reaches configuration agent (Makes (Deliver other)) own =
      by_place (configuration.position other) (ap configuration.position (sym own))
    where
      by_place : (position : Position) → configuration.position agent ≡ position →
          ((node : ℕ) → (delivered_in empty.world configuration other position).reached node
          ≡ configuration.reached node)
          ⊎ Arrives configuration agent (delivered_in empty.world configuration other position)
      by_place (Bound start port) at =
          inr (record { start = start; port = port; on = at; reached = λ node. refl })
      by_place Before at = inl (λ node. refl)
      by_place (At place came) at = inl (λ node. refl)
      by_place After at = inl (λ node. refl)
  done_reaches configuration agent (Makes Close) own = inl (λ node. refl)
  done_reaches configuration agent Wakes own = inl (λ node. refl)
  done_reaches configuration agent Rests own = inl (λ node. refl)

  module _ (line : Line) (is : IsLine world.net n line) (agent last : ℕ) (within : agent < 2) (short_of : last + 2 ≤ n)
    where
      home_below : world.home < n
      home_below = subst (λ (m : ℕ). world.home < m) is.size net.home

      record IsUnder (configuration : Configuration) (front : ℕ) : Type 0 where
        reachable : IsReachable world held wakeups strategies configuration
        some : 1 ≤ front
        front_is : IsFront world n configuration line front
        not_over : front ≤ last
        there : IsOnLinkTo world configuration (1 - agent) (line.at (n - 1))
        off : IsOnLinkTo world configuration agent (line.at (n - 1)) → ⊥

      -- where an agent's link leads
      record IsLink (start port front : ℕ) : Type 0 where
        start_below : start < n
        low : line.number start < front
        target_below : (world.net.far start port).0 < n
        high : line.number (world.net.far start port).0 ≤ front
        next : (line.number (world.net.far start port).0 ≡ last)
            → line.number start + 1 ≡ line.number (world.net.far start port).0

      link_is : (configuration : Configuration) (front start port : ℕ) → IsUnder configuration front
          → configuration.position agent ≡ Bound start port → IsLink start port front
      link_is configuration front start port it on =
          let placed : ArePlaced world configuration =
          reachable_placed world held wakeups strategies net configuration it.reachable in
          let here : IsPlacedAt world configuration.reached (Bound start port) =
          subst (IsPlacedAt world configuration.reached) on (placed.each agent) in
          let size : world.net.nodes ≡ n = is.size in
          let below : start < n = subst (λ (m : ℕ). start < m) size here.0 in
          let target : ℕ = (world.net.far start port).0 in
          let target_below : target < n = is.within start port below here.2 in
          let low : line.number start < front = it.front_is.explored start below here.1 in
          let not_last : line.number target + 1 ≢ n = λ e. it.off (record {
            start = start;
            port = port;
            on = on;
            to = sym (is.back target target_below) ∙ ap line.at (minus (line.number target) e);
          }) in
          let not_over : front ≤ last = it.not_over in
          let some : 1 ≤ front = it.some in
          let next : AreNext n (line.number start) (line.number target) = is.next start port below here.2 in
          record {
            start_below = below;
            low = low;
            target_below = target_below;
            high = highest (line.number start) (line.number target) low not_last not_over next.either;
            next = λ e. beside (line.number start) (line.number target) low not_last not_over some e next.either;
          }
        where
          minus : (k : ℕ) → k + 1 ≡ n → k ≡ n - 1
          minus k e = omega (arith, e)

          highest : (x y : ℕ) → x < front → y + 1 ≢ n → front ≤ last
              → (x ≡ y + 1) ⊎ (y ≡ x + 1) ⊎ ((x ≡ 0) × (y + 1 ≡ n)) ⊎ ((y ≡ 0) × (x + 1 ≡ n)) → y ≤ front
          highest x y low not_last over either = elim either [
            | inl h ↦ omega (arith, h, low)
            | inr rest ↦ elim rest [
              | inl h ↦ omega (arith, h, low)
              | inr others ↦ elim others [
                | inl h ↦ absurd (not_last h.1)
                | inr h ↦ let e : y ≡ 0 = h.0 in omega (arith, e)
              ]
            ]
          ]

          beside : (x y : ℕ) → x < front → y + 1 ≢ n → front ≤ last → 1 ≤ front → y ≡ last
              → (x ≡ y + 1) ⊎ (y ≡ x + 1) ⊎ ((x ≡ 0) × (y + 1 ≡ n)) ⊎ ((y ≡ 0) × (x + 1 ≡ n)) → x + 1 ≡ y
          beside x y low not_last over some e either = elim either [
            | inl h ↦ absurd (omega (arith, h, low, over, e))
            | inr rest ↦ elim rest [
              | inl h ↦ omega (arith, h)
              | inr others ↦ elim others [
                | inl h ↦ absurd (not_last h.1)
                | inr h ↦ absurd (let z : y ≡ 0 = h.0 in omega (arith, z, e, over, some))
              ]
            ]
          ]

      -- the front after a turn
      record IsFrontAfter (configuration : Configuration) (front : ℕ) : Type 0 where
        new : ℕ
        front_is : IsFront world n (turn_in empty configuration agent) line new
        more : front ≤ new
        not_over : new ≤ last

      front_after : (configuration : Configuration) (front : ℕ) → IsUnder configuration front
          → ((start port : ℕ) → configuration.position agent ≡ Bound start port
          → line.number (world.net.far start port).0 ≢ last) → IsFrontAfter configuration front
      front_after configuration front it not_there =
          let next : Configuration = turn_in empty configuration agent in
          let over : front ≤ last = it.not_over in
          elim (done_reaches configuration agent (deed_in empty configuration agent)
          (own_in empty configuration agent)) [
            | inl same ↦ record {
              new = front;
              front_is = record {
                safe = λ node below low. elim (it.front_is.safe node below low) [
                  | inl h ↦ inl h
                  | inr h ↦ inr (same node ∙ h)
                ];
                explored = λ node below safe. elim safe [
                  | inl h ↦ it.front_is.explored node below (inl h)
                  | inr h ↦ it.front_is.explored node below (inr (sym (same node) ∙ h))
                ];
              };
              more = omega arith;
              not_over = it.not_over;
            }
            | inr arrival ↦
                let target : ℕ = (world.net.far arrival.start arrival.port).0 in
                let link : IsLink arrival.start arrival.port front =
                link_is configuration front arrival.start arrival.port it arrival.on in
                let differs : line.number target ≢ last = not_there arrival.start arrival.port arrival.on in
                let inside : target < n = link.target_below in
                let high : line.number target ≤ front = link.high in
                elim (cases_lt (line.number target) front) [
                  | inl low ↦ record {
                    new = front;
                    front_is = record {
                      safe = λ node below small.
                          still_safe configuration next target node arrival.reached (it.front_is.safe node below small);
                      explored = λ node below safe. elim
                          (was_safe configuration next target node arrival.reached safe) [
                            | inl h ↦ subst (λ (v : ℕ). line.number v < front) (sym h) low
                            | inr h ↦ it.front_is.explored node below h
                          ];
                    };
                    more = omega arith;
                    not_over = it.not_over;
                  }
                  | inr up ↦
                      let is_front : line.number target ≡ front = omega (arith, up, high) in
                      record {
                        new = front + 1;
                        front_is = record {
                          safe = λ node below small. elim (cases_lt (line.number node) front) [
                            | inl h ↦
                                still_safe configuration next target node arrival.reached
                                (it.front_is.safe node below h)
                            | inr h ↦
                                let same : line.number node ≡ line.number target =
                                omega (arith, h, small, is_front) in
                                let is_target : node ≡ target =
                                sym (is.back node below) ∙ ap line.at same ∙ is.back target inside in
                                inr (arrival.reached node ∙ ap (changed configuration.reached target true) is_target
                                ∙ changed_same configuration.reached target true)
                          ];
                          explored = λ node below safe. elim
                              (was_safe configuration next target node arrival.reached safe) [
                                | inl h ↦ subst (λ (v : ℕ). line.number v < front + 1) (sym h) (omega (arith, is_front))
                                | inr h ↦
                                    let low : line.number node < front = it.front_is.explored node below h in
                                    omega (arith, low)
                              ];
                        };
                        more = omega arith;
                        not_over = omega (arith, over, differs, is_front);
                      }
                ]
          ]
        where
          still_safe : (old new : Configuration) (target node : ℕ)
              → ((v : ℕ) → new.reached v ≡ changed old.reached target true v) → IsSafe world old node
              → IsSafe world new node
          still_safe old new target node reached safe = elim safe [
            | inl h ↦ inl h
            | inr h ↦ elim (eqb_tells node target) [
              | inl e ↦ inr (reached node ∙ ap (changed old.reached target true) e.1
                  ∙ changed_same old.reached target true)
              | inr e ↦ inr (reached node ∙ changed_other old.reached target node true e.0 ∙ h)
            ]
          ]

          was_safe : (old new : Configuration) (target node : ℕ)
              → ((v : ℕ) → new.reached v ≡ changed old.reached target true v) → IsSafe world new node
              → (node ≡ target) ⊎ IsSafe world old node
          was_safe old new target node reached safe = elim safe [
            | inl h ↦ inr (inl h)
            | inr h ↦ elim (eqb_tells node target) [
              | inl e ↦ inl e.1
              | inr e ↦ inr (inr (sym (changed_other old.reached target node true e.0) ∙ sym (reached node) ∙ h))
            ]
          ]

      abbrev GoesTo : Configuration → (count : ℕ) → Type 0
      GoesTo configuration count = Goes world held wakeups strategies n configuration line agent last count

      -- Case analysis: the agent's link leads to the front, or elsewhere.
      decide : (configuration : Configuration) (front : ℕ) → IsUnder configuration front → GoesTo configuration 0
          ⊎ ((start port : ℕ) → configuration.position agent ≡ Bound start port
          → line.number (world.net.far start port).0 ≢ last)
      decide configuration front it = by_place (configuration.position agent) refl
        where
          by_place : (position : Position) → configuration.position agent ≡ position → GoesTo configuration 0
              ⊎ ((start port : ℕ) → configuration.position agent ≡ Bound start port
              → line.number (world.net.far start port).0 ≢ last)
          by_place (Bound start port) at = elim (eqb_tells (line.number (world.net.far start port).0) last) [
            | inl h ↦
                let target : ℕ = (world.net.far start port).0 in
                let link : IsLink start port front = link_is configuration front start port it at in
                let is_last : line.number target ≡ last = h.1 in
                let high : line.number target ≤ front = link.high in
                let low : line.number start < front = link.low in
                let over : front ≤ last = it.not_over in
                let same : front ≡ last = omega (arith, high, over, is_last) in
                inl (record {
                  front = subst (λ (k : ℕ). IsFront world n configuration line k) same it.front_is;
                  on = record {
                    start = start;
                    port = port;
                    on = at;
                    from = link.next is_last ∙ is_last;
                    to = sym (is.back target link.target_below) ∙ ap line.at is_last;
                  };
                  short = λ i least.
                      let zero_is : 0 ≡ i = omega (arith, least) in
                      subst (λ (j : ℕ). IsShort world line last ((after configuration agent j).position agent)) zero_is
                      (subst (IsShort world line last) (sym at) (omega (arith, low, over), omega (arith, is_last)));
                })
            | inr h ↦ inr (λ s p on e. h.1 (ap (number_of world line) (sym at ∙ on) ∙ e))
          ]
          by_place Before at = inr (λ s p on e. absurd (let same : Before ≡ Bound s p = sym at ∙ on in cc))
          by_place (At node came) at =
              inr (λ s p on e. absurd (let same : At node came ≡ Bound s p = sym at ∙ on in cc))
          by_place After at = inr (λ s p on e. absurd (let same : After ≡ Bound s p = sym at ∙ on in cc))

      short_or_after : (configuration : Configuration) (front : ℕ) → IsUnder configuration front
          → IsShort world line last (configuration.position agent) ⊎ (configuration.position agent ≡ After)
      short_or_after configuration front it =
          by_place (configuration.position agent) refl
          ((reachable_placed world held wakeups strategies net configuration it.reachable).each agent)
        where
          by_place : (position : Position) → configuration.position agent ≡ position
              → IsPlacedAt world configuration.reached position → IsShort world line last position ⊎ (position ≡ After)
          by_place Before at placed = inl tt
          by_place (At node came) at placed =
              let size : world.net.nodes ≡ n = is.size in
              let low : line.number node < front =
              it.front_is.explored node (subst (λ (m : ℕ). node < m) size placed.0) placed.1 in
              let over : front ≤ last = it.not_over in
              inl (omega (arith, low, over))
          by_place (Bound start port) at placed =
              let link : IsLink start port front = link_is configuration front start port it at in
              let low : line.number start < front = link.low in
              let high : line.number (world.net.far start port).0 ≤ front = link.high in
              let over : front ≤ last = it.not_over in
              inl (omega (arith, low, over), omega (arith, high, over))
          by_place After at placed = inr refl

      -- nobody has accused yet
      silent : (configuration : Configuration) (front : ℕ) (link : ℕ × ℕ) → IsUnder configuration front
          → configuration.accused agent ≡ Some link → ⊥
      silent configuration front link it accused =
          let over : front ≤ last = it.not_over in
          let first : line.number (line.at last) ≡ last = is.there last (omega (arith, short_of)) in
          let final : line.number (line.at (n - 1)) ≡ n - 1 = is.there (n - 1) (omega (arith, short_of)) in
          let none : configuration.accused agent ≡ None =
          nobody_accused world held wakeups strategies finds configuration (line.at last) (line.at
          (n - 1)) agent it.reachable
          (new_at world held wakeups strategies n configuration line front last is home_below it.front_is (omega
          (arith, short_of))
          over)
          (new_at world held wakeups strategies n configuration line front (n - 1) is home_below it.front_is (omega
          (arith, short_of))
          (omega (arith, over, short_of)))
          (λ same. let e : line.number (line.at last) ≡ line.number (line.at (n - 1)) = ap line.number same in
          omega (arith, e, first, final, short_of)) (omega (arith, within, two)) in
          absurd (let both : None ≡ Some link = sym none ∙ accused in cc)

      -- in a run that ends in an accusation
      walk : (left : ℕ) (configuration : Configuration) (front : ℕ) (link : ℕ × ℕ) → IsUnder configuration front
          → (after configuration agent left).accused agent ≡ Some link
          → ((i : ℕ) → i ≤ left → IsOnLinkTo world (after configuration agent i) agent (line.at (n - 1)) → ⊥)
          → Steps world held wakeups strategies n net configuration line agent last
      walk zero configuration front link it accused off = elim (decide configuration front it) [
        | inl goes ↦ record { count = 0; goes = goes }
        | inr away ↦ absurd (silent configuration front link it accused)
      ]
      walk (suc left) configuration front link it accused off = elim (decide configuration front it) [
        | inl goes ↦ record { count = 0; goes = goes }
        | inr away ↦
            let next : Configuration = turn_in empty configuration agent in
            let f : IsFrontAfter configuration front = front_after configuration front it away in
            let there : IsOnLinkTo world configuration (1 - agent) (line.at (n - 1)) = it.there in
            let more : front ≤ f.new = f.more in
            let some : 1 ≤ front = it.some in
            let under : IsUnder next f.new = record {
              reachable = reachable_runs world held wakeups strategies configuration agent 1 it.reachable;
              some = omega (arith, more, some);
              front_is = f.front_is;
              not_over = f.not_over;
              there = record {
                start = there.start;
                port = there.port;
                on = untouched world held wakeups strategies n net 1 configuration agent (1 - agent)
                    (λ same. omega (arith, same, within)) ∙ there.on;
                to = there.to;
              };
              off = off 1 (omega arith);
            } in
            let rest : Steps world held wakeups strategies n net next line agent last =
            walk left next f.new link under accused (λ i least. off (suc i) (omega (arith, least))) in
            let start : IsShort world line last (configuration.position agent) =
            elim (short_or_after configuration front it) [
              | inl h ↦ h
              | inr h ↦ absurd (subst (IsShort world line last)
                  (ap (λ (p : Configuration). p.position agent) (ended_rests empty configuration agent h) ∙ h)
                  (rest.goes.short 0 (omega arith)))
            ] in
            record {
              count = suc rest.count;
              goes = record {
                front = rest.goes.front;
                on = rest.goes.on;
                short = all_short configuration next rest.count start rest.goes.short refl;
              };
            }
      ]
        where
          all_short : (configuration next : Configuration) (count : ℕ)
              → IsShort world line last (configuration.position agent)
              → ((i : ℕ) → i ≤ count → IsShort world line last ((after next agent i).position agent))
              → next ≡ turn_in empty configuration agent → (i : ℕ) → i ≤ suc count
              → IsShort world line last ((after configuration agent i).position agent)
          all_short configuration next count start short same zero least = start
          all_short configuration next count start short same (suc i) least =
              subst (λ (p : Configuration). IsShort world line last ((after p agent i).position agent)) same
              (short i (omega (arith, least)))

  pub in_order : InOrder world held wakeups strategies n net
  in_order configuration line front agent last is some further short_of within reachable front_is there =
      let home : world.home < n = subst (λ (m : ℕ). world.home < m) is.size net.home in
      let new : IsNew world configuration (line.at (n - 1)) =
      new_at world held wakeups strategies n configuration line front (n - 1) is home front_is (omega (arith, short_of))
      (omega (arith, short_of, further)) in
      let alone : AccusesAlone world held wakeups strategies finds configuration agent (line.at (n - 1)) =
      accuses_alone world held wakeups strategies finds configuration agent (line.at (n - 1)) reachable new
      (λ k small apart.
      let is_other : 1 - agent ≡ k = other_is k (omega (arith, small, two)) apart in
      subst (λ (j : ℕ). IsOnLinkTo world configuration j (line.at (n - 1))) is_other there) in
      walk line is agent last within short_of alone.turns configuration front alone.link (record {
        reachable = reachable;
        some = some;
        front_is = front_is;
        not_over = further;
        there = there;
        off = alone.off 0 (omega arith);
      }) alone.accused alone.off
    where
      other_is : (k : ℕ) → k < 2 → k ≢ agent → 1 - agent ≡ k
      other_is k small apart = omega (arith, within, small, apart)
