-- If each of two agents advanced to the same new node from its side without going far back, then both could be on links
-- to that node, a contradiction: what two agents do alone they can also do one after the other.
use Rattle.std.proofs.Common.{ℕ, zero, suc, ◌+◌, ◌-◌, ◌<◌, ◌≤◌, ◌≡◌, ◌⊎◌, Bool, true, false, ◌||◌, refl, sym, ap, ◌∙◌}
use Rattle.std.proofs.Common.{subst, inl, inr, arith, nat_lt, Option}
use Rattle.std.specs.Prelude.{◌≢◌}
use Rattle.std.proofs.lemmas.Bool.{cases_lt, lt-ltb, le-ltb}
use Rattle.std.proofs.lemmas.Bool.Decides.{eqb_tells}
use Rattle.bhs_model.specs.Worlds.{World}
use Rattle.bhs_model.specs.Draws.{Held}
use Rattle.bhs_model.specs.Runs.{Position, Before, At, Bound, After}
use Rattle.bhs_schedules.specs.Strategies.{Strategies}
use Rattle.bhs_protocols.specs.Configurations.{Configuration}
use Rattle.bhs_protocols.specs.LastWord.{Finds}
use Rattle.bhs_protocols_bounds.proofs.Places.{IsOnLinkTo, IsNew, runs, reachable_runs}
use Rattle.bhs_protocols_bounds.proofs.Apart.{IsApart, stay_apart}
use Rattle.bhs_protocols_bounds.proofs.Accusing.{not_all}
use Rattle.bhs_protocols_bounds.proofs.Lines.{Line, IsLine, IsShort, IsSpread, Goes, GoesBelow}
use Rattle.bhs_protocols_bounds.proofs.Mirror.{mirror, mirror_line, turned, turned_is, IsTurned}
use Rattle.bhs_protocols_bounds.proofs.Placing.{IsNet, IsPlacedAt, ArePlaced, reachable_placed}
use Rattle.bhs_protocols_bounds.proofs.Stages.{new_at}
use Rattle.bhs_protocols_bounds.proofs.Phases.{OneGoesFar, untouched}

module _ (world : World) (held : Held) (wakeups : ℕ) (strategies : Strategies) (n : ℕ) (net : IsNet world) where
  abbrev after : Configuration → (agent count : ℕ) → Configuration
  after configuration agent count = runs world held wakeups strategies configuration agent count

  -- Case analysis: an agent's run goes below a number, or stays above.
  pub StaysAbove : Configuration → Line → (agent count bound : ℕ) → Type 0
  StaysAbove configuration line agent count bound = (i : ℕ) → i ≤ count → (node : ℕ) (came : Option ℕ)
      → (after configuration agent i).position agent ≡ At node came → bound ≤ line.number node

  at_now : (configuration : Configuration) (line : Line) (agent count bound : ℕ) (position : Position)
      → (after configuration agent count).position agent ≡ position
      → GoesBelow world held wakeups strategies configuration line agent count bound
      ⊎ ((node : ℕ) (came : Option ℕ) → (after configuration agent count).position agent ≡ At node came
      → bound ≤ line.number node)
  at_now configuration line agent count bound (At node came) is = elim (cases_lt (line.number node) bound) [
    | inl h ↦ inl (record {
      turn = count;
      within = omega arith;
      node = node;
      came = came;
      stands = is;
      low = h;
    })
    | inr h ↦ inr (λ other way at. let same : At node came ≡ At other way = sym is ∙ at in
        subst (λ (v : ℕ). bound ≤ line.number v) (let e : node ≡ other = cc in e) h)
  ]
  at_now configuration line agent count bound Before is =
      inr (λ other way at. absurd (let same : Before ≡ At other way = sym is ∙ at in cc))
  at_now configuration line agent count bound (Bound node port) is =
      inr (λ other way at. absurd (let same : Bound node port ≡ At other way = sym is ∙ at in cc))
  at_now configuration line agent count bound After is =
      inr (λ other way at. absurd (let same : After ≡ At other way = sym is ∙ at in cc))

  pub below_or_not : (count : ℕ) (configuration : Configuration) (line : Line) (agent bound : ℕ)
      → GoesBelow world held wakeups strategies configuration line agent count bound ⊎ StaysAbove configuration line
      agent count bound
  unfolding StaysAbove
  below_or_not zero configuration line agent bound =
      elim (at_now configuration line agent 0 bound (configuration.position agent) refl) [
        | inl h ↦ inl h
        | inr h ↦ inr (λ i least node came at. h node came
            (let zero_is : 0 ≡ i = omega (arith, least) in
            ap (λ (j : ℕ). (after configuration agent j).position agent) zero_is ∙ at))
      ]
  below_or_not (suc count) configuration line agent bound = elim (below_or_not count configuration line agent bound) [
    | inl h ↦ inl (record {
      turn = h.turn;
      within = let within = h.within in omega (arith, within);
      node = h.node;
      came = h.came;
      stands = h.stands;
      low = h.low;
    })
    | inr old ↦
        elim (at_now configuration line agent (suc count) bound ((after configuration agent
        (suc count)).position agent) refl) [
          | inl h ↦ inl h
          | inr h ↦ inr (λ i least node came at. elim (cases_lt i (suc count)) [
            | inl e ↦ old i (omega (arith, e)) node came at
            | inr e ↦ h node came
                (let last : suc count ≡ i = omega (arith, least, e) in
                ap (λ (j : ℕ). (after configuration agent j).position agent) last ∙ at)
          ])
        ]
  ]

  pub above_none : (configuration : Configuration) (line : Line) (agent count bound : ℕ) → bound ≡ 0
      → StaysAbove configuration line agent count bound
  unfolding StaysAbove
  above_none configuration line agent count bound none i least node came at = omega (arith, none)

  pub not_below : (configuration : Configuration) (line : Line) (agent count bound lower : ℕ)
      → StaysAbove configuration line agent count bound → lower ≤ bound
      → GoesBelow world held wakeups strategies configuration line agent count lower → ⊥
  unfolding StaysAbove
  not_below configuration line agent count bound lower above less it =
      let high : bound ≤ line.number it.node = above it.turn it.within it.node it.came it.stands in
      let low : line.number it.node < lower = it.low in
      omega (arith, high, low, less)

  module _ (finds : Finds world held wakeups strategies) (two : world.agents ≡ 2) where
    or_false : (a b : Bool) → a ≡ false → b ≡ false → (a || b) ≡ false
    or_false true b none off = cc
    or_false false b none off = off

    or_true : (a b : Bool) → (a ≡ true) ⊎ (b ≡ true) → (a || b) ≡ true
    or_true true b some = refl
    or_true false true some = refl
    or_true false false some = elim some [
      | inl h ↦ h
      | inr h ↦ h
    ]

    placed_at : (reached : ℕ → Bool) (position : Position) (node : ℕ) (came : Option ℕ) → position ≡ At node came
        → IsPlacedAt world reached position → node < world.net.nodes
    placed_at reached position node came at placed =
        let there : IsPlacedAt world reached (At node came) = subst (IsPlacedAt world reached) at placed in there.0

    lower : (line : Line) (last : ℕ) (position : Position) (node : ℕ) (came : Option ℕ) → position ≡ At node came
        → IsShort world line last position → line.number node < last
    lower line last position node came at short = subst (IsShort world line last) at short

    -- if neither goes far, both are on links to one new node
    both_die : (configuration : Configuration) (line : Line) (front agent last last_too count count_too bound : ℕ)
        → IsLine world.net n line → IsSpread world held wakeups strategies n configuration line front agent
        → front < last
        → last + 1 < n → bound ≤ front → last_too + last + 1 ≡ n + front
        → Goes world held wakeups strategies n configuration line agent last count
        → Goes world held wakeups strategies n configuration (mirror n front line) (1 - agent) last_too count_too
        → StaysAbove configuration line agent count bound
        → StaysAbove configuration (mirror n front line) (1 - agent) count_too (front - bound) → ⊥
    unfolding StaysAbove
    both_die configuration line front agent last last_too count count_too bound is it further inside least sum first
        second
        high high_too =
        let other : Line = mirror n front line in
        let c : ℕ = 1 - agent in
        let within : agent < 2 = it.within in
        let different : agent ≢ c = λ same. omega (arith, same, within) in
        let zone : ℕ → Bool = λ v. nat_lt (line.number v) bound || nat_lt last (line.number v) in
        let home : world.home < n = subst (λ (m : ℕ). world.home < m) is.size net.home in
        let size : world.net.nodes ≡ n = is.size in
        let some : 1 ≤ front = it.some in
        let mirrored : IsLine world.net n other =
        mirror_line world.net n front line some (omega (arith, further, inside)) is in
        let out : (i : ℕ) → i ≤ count → (node : ℕ) (came : Option ℕ)
        → (after configuration agent i).position agent ≡ At node came → zone node ≡ false =
        λ i small node came at.
        let low : line.number node < last =
        lower line last ((after configuration agent i).position agent) node came at (first.short i small) in
        let above : bound ≤ line.number node = high i small node came at in
        or_false (nat_lt (line.number node) bound) (nat_lt last (line.number node))
        (le-ltb (line.number node) bound above) (le-ltb last (line.number node) (omega (arith, low))) in
        let in_zone : (i : ℕ) → i ≤ count_too → (node : ℕ) (came : Option ℕ)
        → (after configuration c i).position c ≡ At node came → zone node ≡ true =
        λ i small node came at.
        let p : Configuration = after configuration c i in
        let placed : ArePlaced world p =
        reachable_placed world held wakeups strategies net p
        (reachable_runs world held wakeups strategies configuration c i it.reachable) in
        let below : node < world.net.nodes =
        placed_at p.reached (p.position c) node came at (placed.each c) in
        let number : line.number node < n = is.numbers node (omega (arith, below, size)) in
        let turn : ℕ = turned n front (line.number node) in
        let low : turn < last_too = lower other last_too (p.position c) node came at (second.short i small) in
        let above : front - bound ≤ turn = high_too i small node came at in
        or_true (nat_lt (line.number node) bound) (nat_lt last (line.number node))
        (sides (line.number node) turn (turned_is n front (line.number node) number) low above) in
        let apart_is : IsApart world held wakeups strategies zone configuration agent c count count_too =
        stay_apart world held wakeups strategies zone configuration agent c count count_too (line.at (n - 1)) different
        it.there out in_zone in
        let one : Configuration = after configuration agent count in
        let two_too : Configuration = after configuration c count_too in
        let both : Configuration = after one c count_too in
        let meets : turned n front last_too ≡ last =
        turned_to (turned n front last_too) (turned_is n front last_too (omega (arith, sum, further))) in
        let new_one : IsNew world one (line.at last) =
        new_at world held wakeups strategies n one line last last is home first.front (omega (arith, inside))
        (omega arith) in
        let new_two : IsNew world two_too (other.at last_too) =
        new_at world held wakeups strategies n two_too other last_too last_too mirrored home second.front
        (omega (arith, sum, further)) (omega arith) in
        let never : two_too.reached (line.at last) ≡ false =
        subst (λ (k : ℕ). two_too.reached (line.at k) ≡ false) meets new_two.never in
        let reachable = reachable_runs world held wakeups strategies one c count_too
        (reachable_runs world held wakeups strategies configuration agent count it.reachable) in
        let here : IsOnLinkTo world both agent (line.at last) = record {
          start = first.on.start;
          port = first.on.port;
          on = untouched world held wakeups strategies n net count_too one c agent different ∙ first.on.on;
          to = first.on.to;
        } in
        let there : IsOnLinkTo world both c (line.at last) = record {
          start = second.on.start;
          port = second.on.port;
          on = apart_is.position ∙ second.on.on;
          to = second.on.to ∙ ap line.at meets;
        } in
        not_all world held wakeups strategies finds both (line.at last) reachable (record {
          below = new_one.below;
          not_home = new_one.not_home;
          never = apart_is.new (line.at last) new_one.never never;
        }) (λ k small. elim (eqb_tells k agent) [
          | inl h ↦ subst (λ (j : ℕ). IsOnLinkTo world both j (line.at last)) (sym h.1) here
          | inr h ↦
              let differs : k ≢ agent = h.1 in
              let is_c : 1 - agent ≡ k = one_of_two k agent within (omega (arith, small, two)) differs in
              subst (λ (j : ℕ). IsOnLinkTo world both j (line.at last)) is_c there
        ])
      where
        one_of_two : (k agent : ℕ) → agent < 2 → k < 2 → k ≢ agent → 1 - agent ≡ k
        one_of_two k agent within small differs = omega (arith, within, small, differs)

        sides : (number turn : ℕ) → IsTurned n front number turn → turn < last_too → front - bound ≤ turn
            → (nat_lt number bound ≡ true) ⊎ (nat_lt last number ≡ true)
        sides number turn is low above = elim is.either [
          | inl h ↦
              let total : turn + number + 1 ≡ front = h.1 in
              inl (lt-ltb number bound (omega (arith, total, above)))
          | inr h ↦
              let total : turn + number + 1 ≡ n + front = h.1 in
              inr (lt-ltb last number (omega (arith, total, low, sum)))
        ]

        turned_to : (turn : ℕ) → IsTurned n front last_too turn → turn ≡ last
        turned_to turn is = elim is.either [
          | inl h ↦ absurd (let low : last_too < front = h.0 in omega (arith, low, sum, inside))
          | inr h ↦ let total : turn + last_too + 1 ≡ n + front = h.1 in omega (arith, total, sum)
        ]

    -- Hence one of the two agents goes far back.
    pub one_goes_far : OneGoesFar world held wakeups strategies n net
    unfolding StaysAbove
    one_goes_far configuration line front agent last last_too count count_too bound is it further inside least sum first
        second =
        let other : Line = mirror n front line in
        let c : ℕ = 1 - agent in
        elim (below_or_not count configuration line agent bound) [
          | inl h ↦ inl h
          | inr high ↦ elim (below_or_not count_too configuration other c (front - bound)) [
            | inl h ↦ inr h
            | inr high_too ↦ absurd
                (both_die configuration line front agent last last_too count count_too bound is it further
                inside least sum first second high high_too)
          ]
        ]
