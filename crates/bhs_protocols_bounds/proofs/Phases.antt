-- One stage leads to the next: three moves for each node, and a phase that halves what is new.
use Rattle.std.proofs.Common.{ℕ, zero, suc, ◌+◌, ◌-◌, ◌*◌, ◌/◌, ◌<◌, ◌≤◌, ◌≡◌, ◌⊎◌, refl, sym, ap, ◌∙◌, subst, inl, inr}
use Rattle.std.proofs.Common.{arith}
use Rattle.std.specs.Prelude.{◌≢◌}
use Rattle.std.proofs.lemmas.Bool.{ne_eqb, cases_lt}
use Rattle.bhs_model.specs.Worlds.{World}
use Rattle.bhs_model.specs.Draws.{Held}
use Rattle.bhs_model.specs.Runs.{Position, Before, At, Bound, After}
use Rattle.bhs_schedules.specs.Strategies.{Strategies}
use Rattle.bhs_schedules.specs.Schedules.{Trial}
use Rattle.bhs_protocols.specs.Configurations.{Configuration, deed_in, turn_in}
use Rattle.bhs_protocols.proofs.LastWordLemmas.{other_untouched, own_in}
use Rattle.bhs_protocols_bounds.proofs.Holeless.{free, IsReachable}
use Rattle.bhs_protocols_bounds.proofs.Places.{IsOnLinkTo, runs, runs_more, reachable_runs}
use Rattle.bhs_protocols_bounds.proofs.Lines.{Line, IsLine, IsFront, IsShort, IsBeside, IsSpread, Goes, GoesBelow}
use Rattle.bhs_protocols_bounds.proofs.Mirror.{mirror, mirror_line, mirror_spread}
use Rattle.bhs_protocols_bounds.proofs.Placing.{IsNet}
use Rattle.bhs_protocols_bounds.proofs.Costs.{cost_below}
use Rattle.bhs_protocols_bounds.proofs.Stages.{IsStage, PhasesCost}

module _ (world : World) (held : Held) (wakeups : ℕ) (strategies : Strategies) (n : ℕ) (net : IsNet world) where
  abbrev empty : Trial
  empty = free world held wakeups strategies

  abbrev Spread : Configuration → Line → ℕ → ℕ → Type 0
  Spread configuration line front agent = IsSpread world held wakeups strategies n configuration line front agent

  abbrev GoesTo : Configuration → Line → ℕ → ℕ → ℕ → Type 0
  GoesTo configuration line agent last count = Goes world held wakeups strategies n configuration line agent last count

  abbrev Below : Configuration → Line → ℕ → ℕ → ℕ → Type 0
  Below configuration line agent count bound =
      GoesBelow world held wakeups strategies configuration line agent count bound

  abbrev after : Configuration → (agent count : ℕ) → Configuration
  after configuration agent count = runs world held wakeups strategies configuration agent count

  -- an agent goes on, in order, as far as the last node but one
  pub record Steps (configuration : Configuration) (line : Line) (agent last : ℕ) : Type 0 where
    pub count : ℕ
    pub goes : GoesTo configuration line agent last count

  abbrev pub InOrder : Type 0
  InOrder = (configuration : Configuration) (line : Line) (front agent last : ℕ) → IsLine world.net n line → 1 ≤ front
      → front ≤ last → last + 2 ≤ n → agent < 2 → IsReachable world held wakeups strategies configuration
      → IsFront world n configuration line front → IsOnLinkTo world configuration (1 - agent) (line.at (n - 1))
      → Steps configuration line agent last

  -- if each goes on to the same node from its side, one of them goes far back before
  abbrev pub OneGoesFar : Type 0
  OneGoesFar = (configuration : Configuration) (line : Line) (front agent last last_too count count_too bound : ℕ)
      → IsLine world.net n line → Spread configuration line front agent → front < last → last + 1 < n → bound ≤ front
      → last_too + last + 1 ≡ n + front → GoesTo configuration line agent last count
      → GoesTo configuration (mirror n front line) (1 - agent) last_too count_too
      → Below configuration line agent count bound
      ⊎ Below configuration (mirror n front line) (1 - agent) count_too (front - bound)

  -- another agent stays where it is
  pub untouched : (count : ℕ) (configuration : Configuration) (agent k : ℕ) → k ≢ agent
      → (after configuration agent count).position k ≡ configuration.position k
  untouched zero configuration agent k apart = refl
  untouched (suc count) configuration agent k apart =
      untouched count (turn_in empty configuration agent) agent k apart
      ∙ (other_untouched empty configuration agent k (deed_in empty configuration agent)
      (own_in empty configuration agent)
      (ne_eqb k agent apart)).position

  pub spread_on : (configuration : Configuration) (line : Line) (front agent last count : ℕ)
      → Spread configuration line front agent
      → front ≤ last → last + 2 ≤ n → GoesTo configuration line agent last count
      → Spread (after configuration agent count) line last agent
  spread_on configuration line front agent last count it further short_of goes =
      let some : 1 ≤ front = it.some in
      let there : IsOnLinkTo world configuration (1 - agent) (line.at (n - 1)) = it.there in
      let within : agent < 2 = it.within in
      record {
        some = omega (arith, some, further);
        two_new = short_of;
        within = it.within;
        reachable = reachable_runs world held wakeups strategies configuration agent count it.reachable;
        front_is = goes.front;
        here = record { start = goes.on.start; port = goes.on.port; on = goes.on.on; to = goes.on.to };
        there = record {
          start = there.start;
          port = there.port;
          on = untouched count configuration agent (1 - agent) (λ same. omega (arith, same, within)) ∙ there.on;
          to = there.to;
        };
      }

  short_more : (line : Line) (one last : ℕ) → one ≤ last → (position : Position) → IsShort world line one position
      → IsShort world line last position
  short_more line one last less Before it = tt
  short_more line one last less (At node came) it = let low : line.number node < one = it in omega (arith, low, less)
  short_more line one last less (Bound node port) it =
      let low : line.number node < one = it.0 in
      let high : line.number (world.net.far node port).0 ≤ one = it.1 in
      (omega (arith, low, less), omega (arith, high, less))
  short_more line one last less After it = it

  -- the composition of two runs, from one number to another and onward
  pub composed : (configuration : Configuration) (line : Line) (agent one last count count_too : ℕ) → one ≤ last
      → GoesTo configuration line agent one count → GoesTo (after configuration agent count) line agent last count_too
      → GoesTo configuration line agent last (count + count_too)
  composed configuration line agent one last count count_too less first second =
      let middle : Configuration = after configuration agent count in
      let same : after middle agent count_too ≡ after configuration agent (count + count_too) =
      sym (runs_more world held wakeups strategies configuration agent count count_too) in
      record {
        front = subst (λ (p : Configuration). IsFront world n p line last) same second.front;
        on = subst (λ (p : Configuration). IsBeside world p line agent last) same second.on;
        short = λ i least. elim (cases_lt count i) [
          | inl h ↦
              let j : ℕ = i - count in
              let sum : count + j ≡ i = omega (arith, h) in
              subst (λ (p : Configuration). IsShort world line last (p.position agent))
              (sym (runs_more world held wakeups strategies configuration agent count j)
              ∙ ap (after configuration agent) sum)
              (second.short j (omega (arith, least, sum)))
          | inr h ↦ short_more line one last less ((after configuration agent i).position agent) (first.short i h)
        ];
      }

  -- who comes far back in two parts, does in one of them
  pub in_part : (configuration : Configuration) (line : Line) (agent count count_too bound : ℕ)
      → Below configuration line agent (count + count_too) bound
      → Below configuration line agent count bound ⊎ Below (after configuration agent count) line agent count_too bound
  in_part configuration line agent count count_too bound it = elim (cases_lt count it.turn) [
    | inl h ↦
        let j : ℕ = it.turn - count in
        let sum : it.turn ≡ count + j = omega (arith, h) in
        let within : it.turn ≤ count + count_too = it.within in
        inr (record {
          turn = j;
          within = omega (arith, within, sum);
          node = it.node;
          came = it.came;
          stands = ap (λ (p : Configuration). p.position agent) (sym (ap (after configuration agent) sum
              ∙ runs_more world held wakeups strategies configuration agent count j)) ∙ it.stands;
          low = it.low;
        })
    | inr h ↦ inl (record {
      turn = it.turn;
      within = h;
      node = it.node;
      came = it.came;
      stands = it.stands;
      low = it.low;
    })
  ]

  -- a way on to a later number, with three moves for each node at least, and more if it comes far back
  pub record Walks (configuration : Configuration) (line : Line) (front agent more : ℕ) : Type 0 where
    pub count : ℕ
    pub goes : GoesTo configuration line agent (front + more) count
    pub moves : configuration.moves + 3 * more ≤ (after configuration agent count).moves
    pub far : (bound : ℕ) → bound ≤ front → Below configuration line agent count bound
        → configuration.moves + 3 * more + 2 * front ≤ (after configuration agent count).moves + 2 * bound

  module _ (in_order : InOrder) (one_goes_far : OneGoesFar) where
    walks_one : (configuration : Configuration) (line : Line) (front agent : ℕ) → IsLine world.net n line
        → Spread configuration line front agent → front + 3 ≤ n → Walks configuration line front agent 1
    walks_one configuration line front agent is it room =
        let some : 1 ≤ front = it.some in
        let within : agent < 2 = it.within in
        let first : Steps configuration line agent (front + 1) =
        in_order configuration line front agent (front + 1) is it.some (omega arith) (omega (arith, room)) it.within
        it.reachable it.front_is it.there in
        let other : Line = mirror n front line in
        let other_is : IsLine world.net n other = mirror_line world.net n front line some (omega (arith, room)) is in
        let it_too : Spread configuration other front (1 - agent) =
        mirror_spread world held wakeups strategies n front agent configuration line is it in
        let second : Steps configuration other (1 - agent) (n - 2) =
        in_order configuration other front (1 - agent) (n - 2) other_is it.some (omega (arith, room)) (omega
        (arith, room))
        it_too.within it.reachable it_too.front_is it_too.there in
        let far : Below configuration line agent first.count front =
        elim (one_goes_far configuration line front agent (front + 1) (n - 2) first.count second.count front is it
        (omega arith) (omega (arith, room)) (omega arith) (omega (arith, room)) first.goes second.goes) [
          | inl h ↦ h
          | inr h ↦ absurd (let low : other.number h.node < front - front = h.low in omega (arith, low))
        ] in
        let paid : (bound : ℕ) → Below configuration line agent first.count bound
        → configuration.moves + front + (front + 1) + 2 ≤ (after configuration agent first.count).moves + 2 * bound =
        λ bound low. cost_below world n line is (front + 1) (omega
        (arith, room)) held wakeups strategies net configuration agent
        front first.count bound it.reachable (omega (arith, room)) it.here first.goes low in
        let least : configuration.moves + front + (front + 1) + 2 ≤
        (after configuration agent first.count).moves + 2 * front =
        paid front far in
        record {
          count = first.count;
          goes = first.goes;
          moves = omega (arith, least);
          far = λ bound small low. let it = paid bound low in omega (arith, it);
        }

    pub walks : (more : ℕ) (configuration : Configuration) (line : Line) (front agent : ℕ) → IsLine world.net n line
        → Spread configuration line front agent → 1 ≤ more → front + more + 2 ≤ n
        → Walks configuration line front agent more
    walks zero configuration line front agent is it some room = absurd (omega (arith, some))
    walks (suc zero) configuration line front agent is it some room =
        walks_one configuration line front agent is it (omega (arith, room))
    walks (suc (suc more)) configuration line front agent is it some room =
        let first : Walks configuration line front agent 1 =
        walks_one configuration line front agent is it (omega (arith, room)) in
        let middle : Configuration = after configuration agent first.count in
        let spread : Spread middle line (front + 1) agent =
        spread_on configuration line front agent (front + 1) first.count it (omega arith) (omega
        (arith, room)) first.goes in
        let rest : Walks middle line (front + 1) agent (suc more) =
        walks (suc more) middle line (front + 1) agent is spread (omega arith) (omega (arith, room)) in
        let same : after middle agent rest.count ≡ after configuration agent (first.count + rest.count) =
        sym (runs_more world held wakeups strategies configuration agent first.count rest.count) in
        let moves : (after middle agent rest.count).moves
        ≡ (after configuration agent (first.count + rest.count)).moves =
        ap (λ (p : Configuration). p.moves) same in
        let last : front + 1 + suc more ≡ front + suc (suc more) = omega arith in
        let one : configuration.moves + 3 * 1 ≤ middle.moves = first.moves in
        let other : middle.moves + 3 * suc more ≤ (after middle agent rest.count).moves = rest.moves in
        record {
          count = first.count + rest.count;
          goes = composed configuration line agent (front + 1) (front + suc (suc more)) first.count rest.count
              (omega arith)
              first.goes (subst (λ (q : ℕ). GoesTo middle line agent q rest.count) last rest.goes);
          moves = omega (arith, one, other, moves);
          far = λ bound small low. elim (in_part configuration line agent first.count rest.count bound low) [
            | inl h ↦
                let paid : configuration.moves + 3 * 1 + 2 * front ≤ middle.moves + 2 * bound =
                first.far bound small h in
                omega (arith, paid, other, moves)
            | inr h ↦
                let paid : middle.moves + 3 * suc more + 2 * (front + 1)
                ≤ (after middle agent rest.count).moves + 2 * bound =
                rest.far bound (omega (arith, small)) h in
                omega (arith, paid, one, moves)
          ];
        }

    -- Each agent advances to the middle of the new nodes. By the lemma above one of them first walks back over half of
    -- the explored nodes; the adversary lets that agent continue.
    pub halves : PhasesCost world held wakeups strategies n
    halves half moves two stage =
        let spread = stage.spread in
        let left : stage.front + (2 * half - 1) ≡ n = stage.left in
        let m : ℕ = stage.front in
        let some : 1 ≤ m = spread.some in
        let more : ℕ = half - 1 in
        let last : ℕ = m + more in
        let first : Walks stage.configuration stage.line m stage.agent more =
        walks more stage.configuration stage.line m stage.agent stage.line_is spread (omega (arith, two))
        (omega (arith, two, left)) in
        let other : Line = mirror n m stage.line in
        let other_is : IsLine world.net n other =
        mirror_line world.net n m stage.line some (omega (arith, two, left)) stage.line_is in
        let spread_too : Spread stage.configuration other m (1 - stage.agent) =
        mirror_spread world held wakeups strategies n m stage.agent stage.configuration stage.line stage.line_is spread
        in
        let second : Walks stage.configuration other m (1 - stage.agent) more =
        walks more stage.configuration other m (1 - stage.agent) other_is spread_too (omega (arith, two))
        (omega (arith, two, left)) in
        let had : moves ≤ stage.configuration.moves = stage.moves in
        elim (one_goes_far stage.configuration stage.line m stage.agent last last first.count second.count (m / 2)
        stage.line_is spread (omega (arith, two)) (omega (arith, two, left)) (omega arith) (omega (arith, two, left))
        first.goes second.goes) [
          | inl h ↦
              let paid : stage.configuration.moves + 3 * more + 2 * m
              ≤ (after stage.configuration stage.agent first.count).moves + 2 * (m / 2) =
              first.far (m / 2) (omega arith) h in
              record {
                configuration = after stage.configuration stage.agent first.count;
                line = stage.line;
                front = last;
                agent = stage.agent;
                line_is = stage.line_is;
                spread = spread_on stage.configuration stage.line m stage.agent last first.count spread (omega arith)
                    (omega (arith, two, left)) first.goes;
                left = omega (arith, two, left);
                moves = omega (arith, paid, had, two, left);
              }
          | inr h ↦
              let paid : stage.configuration.moves + 3 * more + 2 * m
              ≤ (after stage.configuration (1 - stage.agent) second.count).moves + 2 * (m - m / 2) =
              second.far (m - m / 2) (omega arith) h in
              record {
                configuration = after stage.configuration (1 - stage.agent) second.count;
                line = other;
                front = last;
                agent = 1 - stage.agent;
                line_is = other_is;
                spread = spread_on stage.configuration other m (1 - stage.agent) last second.count spread_too
                    (omega arith)
                    (omega (arith, two, left)) second.goes;
                left = omega (arith, two, left);
                moves = omega (arith, paid, had, two, left);
              }
        ]

    pub explores : (new more moves : ℕ) → 1 ≤ more → 2 ≤ new
        → IsStage world held wakeups strategies n (new + more) moves
        → IsStage world held wakeups strategies n new (moves + 3 * more)
    explores new more moves some two stage =
        let left : stage.front + (new + more) ≡ n = stage.left in
        let it : Walks stage.configuration stage.line stage.front stage.agent more =
        walks more stage.configuration stage.line stage.front stage.agent stage.line_is stage.spread some
        (omega (arith, left, two)) in
        let had : moves ≤ stage.configuration.moves = stage.moves in
        let paid = it.moves in
        record {
          configuration = after stage.configuration stage.agent it.count;
          line = stage.line;
          front = stage.front + more;
          agent = stage.agent;
          line_is = stage.line_is;
          spread = spread_on stage.configuration stage.line stage.front stage.agent
              (stage.front + more) it.count stage.spread
              (omega arith) (omega (arith, left, two)) it.goes;
          left = omega (arith, left);
          moves = omega (arith, paid, had);
        }
