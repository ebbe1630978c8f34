-- A phase with two target places among the new nodes, at equal distances from opposite borders. Each agent advances to
-- its nearer place, then to the farther one. The adversary chooses the agent to release, and how far, by how far each
-- agent walks back before its first target.
use Rattle.std.proofs.Common.{ℕ, zero, suc, ◌+◌, ◌-◌, ◌*◌, ◌<◌, ◌≤◌, ◌≡◌, ◌⊎◌, refl, sym, ap, subst, inl}
use Rattle.std.proofs.Common.{inr}
use Rattle.std.proofs.Common.{arith}
use Rattle.std.proofs.lemmas.Bool.{cases_lt}
use Rattle.bhs_model.specs.Worlds.{World}
use Rattle.bhs_model.specs.Draws.{Held}
use Rattle.bhs_schedules.specs.Strategies.{Strategies}
use Rattle.bhs_protocols.specs.Configurations.{Configuration}
use Rattle.bhs_protocols_bounds.proofs.Places.{runs, runs_more}
use Rattle.bhs_protocols_bounds.proofs.Placing.{IsNet}
use Rattle.bhs_protocols_bounds.proofs.Lines.{Line, IsLine, IsSpread, Goes, GoesBelow}
use Rattle.bhs_protocols_bounds.proofs.Mirror.{mirror, mirror_line, mirror_spread}
use Rattle.bhs_protocols_bounds.proofs.Costs.{cost, cost_below}
use Rattle.bhs_protocols_bounds.proofs.Stages.{IsStage}
use Rattle.bhs_protocols_bounds.proofs.Phases.{InOrder, OneGoesFar, Steps, composed, in_part, spread_on}
use Rattle.bhs_protocols_bounds.proofs.Meeting.{StaysAbove, below_or_not, above_none, not_below}

module _ (world : World) (held : Held) (wakeups : ℕ) (strategies : Strategies) (n : ℕ) (net : IsNet world) where
  abbrev after : Configuration → (agent count : ℕ) → Configuration
  after configuration agent count = runs world held wakeups strategies configuration agent count

  abbrev Spread : Configuration → Line → ℕ → ℕ → Type 0
  Spread configuration line front agent = IsSpread world held wakeups strategies n configuration line front agent

  abbrev GoesTo : Configuration → Line → ℕ → ℕ → ℕ → Type 0
  GoesTo configuration line agent last count =
      Goes world held wakeups strategies n configuration line agent last count

  abbrev Below : Configuration → Line → ℕ → ℕ → ℕ → Type 0
  Below configuration line agent count bound =
      GoesBelow world held wakeups strategies configuration line agent count bound

  abbrev Above : Configuration → Line → ℕ → ℕ → ℕ → Type 0
  Above configuration line agent count bound =
      StaysAbove world held wakeups strategies n net configuration line agent count bound

  -- over how many explored nodes an agent comes back
  record IsDeep (configuration : Configuration) (line : Line) (agent count front depth : ℕ) : Type 0 where
    small : depth ≤ front
    far : (depth ≡ 0) ⊎ Below configuration line agent count (front + 1 - depth)
    above : Above configuration line agent count (front - depth)

  record Deepest (configuration : Configuration) (line : Line) (agent count front : ℕ) : Type 0 where
    depth : ℕ
    is : IsDeep configuration line agent count front depth

  deepest : (left depth : ℕ) (configuration : Configuration) (line : Line) (agent count front : ℕ)
      → left + depth ≡ front → (depth ≡ 0) ⊎ Below configuration line agent count (front + 1 - depth)
      → Deepest configuration line agent count front
  deepest zero depth configuration line agent count front sum far = record {
    depth = depth;
    is = record {
      small = omega (arith, sum);
      far = far;
      above = above_none world held wakeups strategies n net configuration line agent count (front - depth)
          (omega (arith, sum));
    };
  }
  deepest (suc left) depth configuration line agent count front sum far =
      elim (below_or_not world held wakeups strategies n net count configuration line agent (front - depth)) [
        | inl h ↦
            let same : front - depth ≡ front + 1 - suc depth = omega (arith, sum) in
            deepest left (suc depth) configuration line agent count front (omega (arith, sum))
            (inr (subst (Below configuration line agent count) same h))
        | inr h ↦ record { depth = depth; is = record { small = omega (arith, sum); far = far; above = h } }
      ]

  module _ (in_order : InOrder world held wakeups strategies n net)
      (one_goes_far : OneGoesFar world held wakeups strategies n net)
    where
      -- an agent goes on to one number, and then to another
      record TwoWays (configuration : Configuration) (line : Line) (front agent one other : ℕ) : Type 0 where
        first : Steps world held wakeups strategies n net configuration line agent one
        spread : Spread (after configuration agent first.count) line one agent
        second : Steps world held wakeups strategies n net (after configuration agent first.count) line agent other
        whole : GoesTo configuration line agent other (first.count + second.count)
        deep : Deepest configuration line agent first.count front
        paid : configuration.moves + one + 2 * deep.depth ≤ (after configuration agent first.count).moves + front

      two_ways : (configuration : Configuration) (line : Line) (front agent one other : ℕ) → IsLine world.net n line
          → Spread configuration line front agent → front ≤ one → one ≤ other → other + 2 ≤ n
          → TwoWays configuration line front agent one other
      two_ways configuration line front agent one other is it further more short_of =
          let short : one + 2 ≤ n = omega (arith, more, short_of) in
          let first : Steps world held wakeups strategies n net configuration line agent one =
          in_order configuration line front agent one is it.some further short it.within it.reachable it.front_is
          it.there in
          let middle : Configuration = after configuration agent first.count in
          let spread : Spread middle line one agent =
          spread_on world held wakeups strategies n net configuration line front agent one first.count it further short
          first.goes in
          let second : Steps world held wakeups strategies n net middle line agent other =
          in_order middle line one agent other is spread.some more short_of spread.within spread.reachable
          spread.front_is spread.there in
          let deep : Deepest configuration line agent first.count front =
          deepest front 0 configuration line agent first.count front (omega arith) (inl refl) in
          record {
            first = first;
            spread = spread;
            second = second;
            whole = composed world held wakeups strategies n net configuration line agent one other first.count
                second.count more first.goes second.goes;
            deep = deep;
            paid = paid_for configuration.moves (after configuration agent first.count).moves deep.depth deep.is.small
                (costs first deep.depth deep.is.far);
          }
        where
          costs : (first : Steps world held wakeups strategies n net configuration line agent one) (depth : ℕ)
              → (depth ≡ 0) ⊎ Below configuration line agent first.count (front + 1 - depth) →
              (depth ≡ 0) × (configuration.moves + one ≤ (after configuration agent first.count).moves + front)
              ⊎ (configuration.moves + front + one + 2
              ≤ (after configuration agent first.count).moves + 2 * (front + 1 - depth))
          costs first depth far = elim far [
            | inl h ↦ inl (
              h,
              cost world n line is one (omega (arith, more, short_of)) held wakeups strategies net configuration agent
                  front first.count it.reachable (omega (arith, further, more, short_of)) it.here first.goes,
            )
            | inr h ↦ inr (cost_below world n line is one (omega (arith, more, short_of)) held wakeups strategies net
                configuration agent front first.count (front + 1 - depth) it.reachable
                (omega (arith, further, more, short_of)) it.here first.goes h)
          ]

          paid_for : (before later depth : ℕ) → depth ≤ front →
              (depth ≡ 0) × (before + one ≤ later + front)
              ⊎ (before + front + one + 2 ≤ later + 2 * (front + 1 - depth))
              → before + one + 2 * depth ≤ later + front
          paid_for before later depth small either = elim either [
            | inl h ↦ let none : depth ≡ 0 = h.0 in let spent = h.1 in omega (arith, none, spent)
            | inr h ↦ omega (arith, h, small)
          ]

      -- who comes back far only after the first number
      comes_back : (configuration : Configuration) (line : Line) (front agent one other bound : ℕ)
          → IsLine world.net n line → other + 2 ≤ n → one ≤ other
          → (it : TwoWays configuration line front agent one other)
          → bound ≤ front - it.deep.depth
          → Below configuration line agent (it.first.count + it.second.count) bound →
          configuration.moves + 2 * one + other + 2 + 2 * it.deep.depth
          ≤ (after configuration agent (it.first.count + it.second.count)).moves + front + 2 * bound
      comes_back configuration line front agent one other bound is short_of more it least low =
          let middle : Configuration = after configuration agent it.first.count in
          let late : Below middle line agent it.second.count bound =
          elim (in_part world held wakeups strategies n net configuration line agent it.first.count it.second.count
          bound low) [
            | inl h ↦ absurd (not_below world held wakeups strategies n net configuration line agent it.first.count
                (front - it.deep.depth) bound
                it.deep.is.above least h)
            | inr h ↦ h
          ] in
          let second : middle.moves + one + other + 2 ≤ (after middle agent it.second.count).moves + 2 * bound =
          cost_below world n line is other short_of held wakeups strategies net middle agent one it.second.count bound
          it.spread.reachable (omega (arith, more, short_of)) it.spread.here it.second.goes late in
          let same : (after middle agent it.second.count).moves
          ≡ (after configuration agent (it.first.count + it.second.count)).moves =
          ap (λ (p : Configuration). p.moves)
          (sym (runs_more world held wakeups strategies configuration agent it.first.count it.second.count)) in
          let first = it.paid in
          omega (arith, second, same, first)

      -- where the agent is then
      stage_at : (configuration : Configuration) (line : Line) (front agent last count new least : ℕ)
          → IsLine world.net n line → Spread configuration line front agent → front ≤ last → last + 2 ≤ n
          → last + new ≡ n → GoesTo configuration line agent last count
          → least ≤ (after configuration agent count).moves
          → IsStage world held wakeups strategies n new least
      stage_at configuration line front agent last count new least is it further short_of sum goes enough = record {
        configuration = after configuration agent count;
        line = line;
        front = last;
        agent = agent;
        line_is = is;
        spread = spread_on world held wakeups strategies n net configuration line front agent last count it further
            short_of goes;
        left = sum;
        moves = enough;
      }

      -- of x + y - 1 new nodes y or x are left
      pub two_places : (x y moves : ℕ) → 2 ≤ x → x < y
          → IsStage world held wakeups strategies n (x + y - 1) moves →
          IsStage world held wakeups strategies n y (moves + n + 1 - y)
          ⊎ IsStage world held wakeups strategies n x (moves + 2 * n + 1 - y)
      two_places x y moves two less stage =
          let spread = stage.spread in
          let m : ℕ = stage.front in
          let left : m + (x + y - 1) ≡ n = stage.left in
          let some : 1 ≤ m = spread.some in
          let had : moves ≤ stage.configuration.moves = stage.moves in
          let p : ℕ = m + x - 1 in
          let q : ℕ = m + y - 1 in
          let c : ℕ = 1 - stage.agent in
          let other : Line = mirror n m stage.line in
          let other_is : IsLine world.net n other =
          mirror_line world.net n m stage.line some (omega (arith, two, less, left)) stage.line_is in
          let spread_too : Spread stage.configuration other m c =
          mirror_spread world held wakeups strategies n m stage.agent stage.configuration stage.line stage.line_is
          spread in
          let a : TwoWays stage.configuration stage.line m stage.agent p q =
          two_ways stage.configuration stage.line m stage.agent p q stage.line_is spread (omega (arith, two))
          (omega (arith, less)) (omega (arith, two, left)) in
          let b : TwoWays stage.configuration other m c p q =
          two_ways stage.configuration other m c p q other_is spread_too (omega (arith, two)) (omega (arith, less))
          (omega (arith, two, left)) in
          let small : a.deep.depth ≤ m = a.deep.is.small in
          let small_too : b.deep.depth ≤ m = b.deep.is.small in
          let paid = a.paid in
          let paid_too = b.paid in
          elim (cases_lt m (a.deep.depth + b.deep.depth)) [
            | inl far ↦ elim (cases_lt m (2 * a.deep.depth)) [
              | inl h ↦ inl (stage_at stage.configuration stage.line m stage.agent p a.first.count y
                  (moves + n + 1 - y) stage.line_is spread (omega (arith, two)) (omega (arith, two, less, left))
                  (omega (arith, two, left)) a.first.goes (omega (arith, h, paid, had, left, two)))
              | inr h ↦ inl (stage_at stage.configuration other m c p b.first.count y (moves + n + 1 - y) other_is
                  spread_too (omega (arith, two)) (omega (arith, two, less, left)) (omega (arith, two, left))
                  b.first.goes (omega (arith, h, far, paid_too, had, left, two)))
            ]
            | inr near ↦ elim (cases_lt a.deep.depth b.deep.depth) [
              | inr h ↦
                  let low : Below stage.configuration stage.line stage.agent (a.first.count + a.second.count)
                  b.deep.depth =
                  elim (one_goes_far stage.configuration stage.line m stage.agent q p
                  (a.first.count + a.second.count) b.first.count b.deep.depth stage.line_is spread
                  (omega (arith, two, less)) (omega (arith, two, left)) small_too (omega (arith, left, two)) a.whole
                  b.first.goes) [
                    | inl g ↦ g
                    | inr g ↦ absurd (not_below world held wakeups strategies n net stage.configuration other c
                        b.first.count (m - b.deep.depth)
                        (m - b.deep.depth) b.deep.is.above (omega arith) g)
                  ] in
                  let spent =
                  comes_back stage.configuration stage.line m stage.agent p q b.deep.depth stage.line_is
                  (omega (arith, two, left)) (omega (arith, less)) a (omega (arith, near, small)) low in
                  inr (stage_at stage.configuration stage.line m stage.agent q (a.first.count + a.second.count) x
                  (moves + 2 * n + 1 - y) stage.line_is spread (omega (arith, two, less)) (omega (arith, two, left))
                  (omega (arith, left, two, less)) a.whole (omega (arith, spent, h, had, left, two, less)))
              | inl h ↦
                  let back : m - (m - a.deep.depth) ≡ a.deep.depth = omega (arith, small) in
                  let low : Below stage.configuration other c (b.first.count + b.second.count) a.deep.depth =
                  elim (one_goes_far stage.configuration stage.line m stage.agent p q a.first.count
                  (b.first.count + b.second.count) (m - a.deep.depth) stage.line_is spread (omega (arith, two))
                  (omega (arith, two, less, left)) (omega arith) (omega (arith, left, two)) a.first.goes b.whole) [
                    | inl g ↦ absurd (not_below world held wakeups strategies n net stage.configuration stage.line
                        stage.agent a.first.count
                        (m - a.deep.depth) (m - a.deep.depth) a.deep.is.above (omega arith) g)
                    | inr g ↦ subst (Below stage.configuration other c (b.first.count + b.second.count)) back g
                  ] in
                  let spent =
                  comes_back stage.configuration other m c p q a.deep.depth other_is (omega (arith, two, left))
                  (omega (arith, less)) b (omega (arith, near, small_too)) low in
                  inr (stage_at stage.configuration other m c q (b.first.count + b.second.count) x
                  (moves + 2 * n + 1 - y) other_is spread_too (omega (arith, two, less)) (omega (arith, two, left))
                  (omega (arith, left, two, less)) b.whole (omega (arith, spent, h, had, left, two, less)))
            ]
          ]
