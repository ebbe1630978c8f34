-- Two agents that explore by ways: what holds of them at each time, and what a turn has to keep.
use Rattle.std.proofs.Common.{ℕ, zero, suc, ◌+◌, ◌-◌, ◌*◌, ◌<◌, ◌≤◌, ◌≡◌, ◌⊎◌, Bool, true, false, ◌==◌, Option, Some}
use Rattle.std.proofs.Common.{None, List, ◌∷◌, sym, ap, ◌∙◌, subst, inl, inr, arith}
use Rattle.std.proofs.Math.Path.{transport⁻¹}
use Rattle.std.proofs.lemmas.Bool.{ne_eqb}
use Rattle.std.proofs.lemmas.Bool.Decides.{eqb_tells}
use Rattle.bhs_model.specs.Worlds.{World}
use Rattle.bhs_model.specs.Runs.{Position, Before, At, Bound, After}
use Rattle.bhs_model.specs.Examples.{none_held}
use Rattle.bhs_schedules.specs.Strategies.{Observation, History, Strategies}
use Rattle.bhs_schedules.specs.Schedules.{Trial}
use Rattle.bhs_protocols.specs.Configurations.{Configuration}
use Rattle.bhs_protocols.specs.declared.shuttle.Memory.{Memory}
use Rattle.bhs_protocols.specs.declared.shuttle.Phase.{Phase}
use Rattle.bhs_protocols.specs.declared.shuttle.Phase.TheVariants.{Begins, GoesOut, Leaves, ComesBack, Returns, Writes}
use Rattle.bhs_protocols.specs.declared.shuttle.Phase.TheVariants.{Ends}
use Rattle.bhs_protocols.specs.Shuttle.{text_by}
use Rattle.bhs_protocols.proofs.SearchLemmas.{IsTwoSided, Pair, apart_from, both, distance, sum_is, text_other}
use Rattle.bhs_protocols.proofs.SearchLemmas.{within_n}
use Rattle.bhs_protocols.proofs.TurnLemmas.{Becomes}
use Rattle.bhs_protocols.proofs.ExplorerSteps.{Way, IsWay, AreExplorers, ended, paces, trip}

-- a match that the theorems speak of
pub record Game : Type 0 where
  pub world : World
  pub n : ℕ
  pub right : ℕ
  pub left : ℕ
  pub wakeups : ℕ
  pub strategies : Strategies
  pub holds : (agent : ℕ) → History → Memory
  pub node : (side place : ℕ) → ℕ
  pub way_to : (side k : ℕ) → Way
  -- how many moves it takes to go out to each of the first k nodes of a side, and come back each time
  pub round_trips : (side k : ℕ) → ℕ
  pub no_trips : (side : ℕ) → round_trips side 0 ≡ 0
  pub more_trips : (side k : ℕ) → round_trips side (k + 1) ≡ round_trips side k + 2 * (way_to side (k + 1)).steps
  pub three : 3 ≤ n
  pub search : IsTwoSided world n right left node
  pub ways : (side k : ℕ) → side < 2 → k < n → IsWay world.net (node side) k (way_to side k)
  pub explorers : AreExplorers n strategies holds way_to
  pub room : 4 ≤ world.board
  pub enough : round_trips 0 (right - 1) + (way_to 0 right).steps + n ≤ world.quota
  pub enough_too : round_trips 1 (left - 1) + (way_to 1 left).steps + n ≤ world.quota

module _ (game : Game) where
  open game use {
    world,
    n,
    right,
    left,
    wakeups,
    strategies,
    holds,
    node,
    way_to,
    round_trips,
    search,
    enough,
    enough_too,
  }

  abbrev pub trial : Trial
  trial = record { world = world; held = none_held; wakeups = wakeups; strategies = strategies }

  abbrev pub mem : Configuration → (s : ℕ) → Memory
  mem configuration s = holds s (configuration.history s)

  -- ---- what it may cost

  abbrev pub trips : (s k : ℕ) → ℕ
  trips = round_trips

  -- the most moves and commands of an agent
  abbrev pub most_moves : (s : ℕ) → ℕ
  most_moves s = trips s (distance search s - 1) + (way_to s (distance search s)).steps

  abbrev pub most_commands : (s : ℕ) → ℕ
  most_commands s = most_moves s + n

  pub quota_of : (s : ℕ) → s < 2 → most_commands s ≤ world.quota
  quota_of s below = both (λ (k : ℕ). most_commands k ≤ world.quota) enough enough_too s below

  -- ---- where agents are

  -- the way to the next node of a side
  abbrev pub way : (s : ℕ) → Memory → Way
  way s m = way_to s (m.mine + 1)

  abbrev pub all : (s : ℕ) → Memory → ℕ
  all s m = (way s m).steps

  -- the node at this step of the route
  abbrev pub along : (s : ℕ) → Memory → (step : ℕ) → ℕ
  along s m step = node s ((way s m).place step)

  pub way_is : (s : ℕ) (m : Memory) → s < 2 → m.mine < distance search s
      → IsWay world.net (node s) (m.mine + 1) (way s m)
  way_is s m below safe =
      let within : distance search s < n = within_n search s below in
      game.ways s (m.mine + 1) below (omega (arith, safe, within))

  -- at this node
  pub record IsAtNode (there : ℕ) (position : Position) : Type 0 where
    pub came : Option ℕ
    pub at : position ≡ At there came

  -- it has accused the link ahead of the last node of its way
  pub record HasAccused (s : ℕ) (m : Memory) (accused : Option (ℕ × ℕ)) : Type 0 where
    pub step : ℕ
    pub last : step + 1 ≡ all s m
    pub link : accused ≡ Some (along s m step, (way s m).ahead step)

  -- The agent's position and accusation, according to its phase.
  abbrev pub IsPlaced : (s : ℕ) → Memory → Phase → Position → Option (ℕ × ℕ) → Type 0
  IsPlaced s m Begins position accused = (position ≡ Before) × (accused ≡ None)
  IsPlaced s m (GoesOut step port) position accused =
      (step < all s m) × (port ≡ (way s m).ahead step) × IsAtNode (along s m step) position × (accused ≡ None)
  IsPlaced s m (Leaves step) position accused =
      (step < all s m) × (step + 1 ≡ all s m → m.mine + m.theirs + 3 ≤ n)
      × (position ≡ Bound (along s m step) ((way s m).ahead step)) × (accused ≡ None)
  IsPlaced s m (ComesBack step port) position accused =
      (0 < step) × (step ≤ all s m) × (m.mine + 1 < distance search s) × (port ≡ (way s m).behind step)
      × IsAtNode (along s m step) position × (accused ≡ None)
  IsPlaced s m (Returns step) position accused =
      (0 < step) × (step ≤ all s m) × (m.mine + 1 < distance search s)
      × (position ≡ Bound (along s m step) ((way s m).behind step)) × (accused ≡ None)
  IsPlaced s m Writes position accused =
      (m.mine + 1 < distance search s) × IsAtNode world.home position × (accused ≡ None)
  IsPlaced s m Ends position accused =
      (position ≡ After) × (m.mine + 1 ≡ distance search s) × HasAccused s m accused × (m.mine + m.theirs + 2 ≡ n)

  -- how many nodes of its side an agent has come to
  abbrev pub come : (mine : ℕ) → Phase → ℕ
  come mine (ComesBack step port) = mine + 1
  come mine (Returns step) = mine + 1
  come mine Writes = mine + 1
  come mine phase = mine

  -- ---- what it has spent

  abbrev pub spent : (s : ℕ) → Memory → ℕ
  spent s m = trips s m.mine + trip (all s m) m.phase

  abbrev pub cost : (s : ℕ) → Memory → ℕ
  cost s m = trips s m.mine + trip (all s m) m.phase + m.mine + m.theirs + ended m.phase

  abbrev pub progress : (s : ℕ) → Memory → ℕ
  progress s m = 2 * trips s m.mine + paces (all s m) m.phase + m.mine + m.theirs

  -- ---- the invariant

  -- what holds of one agent
  pub record IsFit (s : ℕ) (m : Memory) (position : Position) (accused : Option (ℕ × ℕ)) (spends : ℕ) (seen : ℕ
      → Bool) :
      Type 0 where
    pub side : m.side ≡ s
    pub placed : IsPlaced s m m.phase position accused
    pub safe : m.mine < distance search s
    pub used : spends ≤ cost s m
    pub reached : (k : ℕ) → 0 < k → k ≤ come m.mine m.phase → seen (node s k) ≡ true

  abbrev pub IsFitIn : Configuration → (s : ℕ) → Type 0
  IsFitIn configuration s =
      IsFit s (mem configuration s) (configuration.position s) (configuration.accused s)
      (configuration.used s) configuration.reached

  -- what holds of both
  pub record Inv (s o : ℕ) (configuration : Configuration) : Type 0 where
    pub own : IsFitIn configuration s
    pub other : IsFitIn configuration o
    pub known : (mem configuration s).theirs ≤ (mem configuration o).mine
    pub known_too : (mem configuration o).theirs ≤ (mem configuration s).mine
    pub fresh : ((mem configuration s).theirs ≡ (mem configuration o).mine) ⊎ ((mem configuration o).theirs
        ≡ (mem configuration s).mine)
    pub board : configuration.shown world.home ≡ text_by s (mem configuration s).mine (mem configuration o).mine
    pub moves : configuration.moves ≡ spent s (mem configuration s) + spent o (mem configuration o)
    pub none : (k : ℕ) → 2 ≤ k → configuration.used k ≡ 0

  pub swapped : (s o : ℕ) (configuration : Configuration) → Pair s o → Inv s o configuration → Inv o s configuration
  swapped s o configuration pair it =
      let moves : configuration.moves ≡ spent s (mem configuration s) + spent o (mem configuration o) = it.moves in
      record {
        own = it.other;
        other = it.own;
        known = it.known_too;
        known_too = it.known;
        fresh = elim it.fresh [ inl h ↦ inr h | inr h ↦ inl h ];
        board = it.board ∙ sym (text_other s o (mem configuration s).mine (mem configuration o).mine pair);
        moves = omega (arith, moves);
        none = it.none;
      }

  -- ---- one turn more

  pub record Onward (s o : ℕ) (old new : Configuration) : Type 0 where
    pub inv : Inv s o new
    pub more : progress s (mem old s) + 1 ≤ progress s (mem new s)
    pub same : mem new o ≡ mem old o

  -- the obligations of an agent's turn
  pub record Keeps (s o : ℕ) (old : Configuration) (after : Memory) (place : Position) (costs moved : ℕ)
      (accused : Option (ℕ × ℕ)) (shown : ℕ → List ℕ) (reached : ℕ → Bool) : Type 0 where
    pub fit : IsFit s after place accused (old.used s + costs) reached
    pub grows : (k : ℕ) → old.reached k ≡ true → reached k ≡ true
    pub known : after.theirs ≤ (mem old o).mine
    pub known_too : (mem old o).theirs ≤ after.mine
    pub fresh : (after.theirs ≡ (mem old o).mine) ⊎ ((mem old o).theirs ≡ after.mine)
    pub board : shown world.home ≡ text_by s after.mine (mem old o).mine
    pub spends : spent s after ≡ spent s (mem old s) + moved
    pub more : progress s (mem old s) + 1 ≤ progress s after

  pub assembled : (s o : ℕ) (old new : Configuration) (after : Memory) (place : Position) (news : Observation)
      (costs moved : ℕ)
      (accused : Option (ℕ × ℕ)) (shown : ℕ → List ℕ) (reached : ℕ → Bool) → Pair s o → Inv s o old
      → Becomes old new s place news costs moved accused shown reached
      → holds s (news ∷ old.history s) ≡ after
      → Keeps s o old after place costs moved accused shown reached → Onward s o old new
  assembled s o old new after place news costs moved accused shown reached pair inv becomes is keeps =
      let apart : (o == s) ≡ false = apart_from s o pair in
      let own_mem : mem new s ≡ after = ap (holds s) becomes.news ∙ is in
      let other_mem : mem new o ≡ mem old o = ap (holds o) (becomes.other_news o apart) in
      let total : new.moves ≡ old.moves + moved = becomes.moves in
      let spends : spent s after ≡ spent s (mem old s) + moved = keeps.spends in
      let before : old.moves ≡ spent s (mem old s) + spent o (mem old o) = inv.moves in
      record {
        inv = record {
          own = transport⁻¹ (λ i. IsFit s (own_mem i) (becomes.place i) (becomes.accused i) (becomes.used i)
              (becomes.reached i)) keeps.fit;
          other = transport⁻¹ (λ i. IsFit o (other_mem i) (becomes.other_place o apart i)
              (becomes.other_accused o apart i) (becomes.other_used o apart i) (becomes.reached i)) (record {
                side = inv.other.side;
                placed = inv.other.placed;
                safe = inv.other.safe;
                used = inv.other.used;
                reached = λ k some far. keeps.grows (node o k) (inv.other.reached k some far);
              });
          known = transport⁻¹ (λ i. (own_mem i).theirs ≤ (other_mem i).mine) keeps.known;
          known_too = transport⁻¹ (λ i. (other_mem i).theirs ≤ (own_mem i).mine) keeps.known_too;
          fresh = transport⁻¹ (λ i. ((own_mem i).theirs ≡ (other_mem i).mine)
              ⊎ ((other_mem i).theirs ≡ (own_mem i).mine)) keeps.fresh;
          board = ap (λ (f : ℕ → List ℕ). f world.home) becomes.shown ∙ keeps.board
              ∙ (λ i. text_by s (sym own_mem i).mine (sym other_mem i).mine);
          moves = omega (arith, total, before, spends, ap (spent s) own_mem, ap (spent o) other_mem);
          none = λ k beyond. becomes.other_used k (beyond_two k beyond) ∙ inv.none k beyond;
        };
        more = transport⁻¹ (λ i. progress s (mem old s) + 1 ≤ progress s (own_mem i)) keeps.more;
        same = other_mem;
      }
    where
      beyond_two : (k : ℕ) → 2 ≤ k → (k == s) ≡ false
      beyond_two k beyond = ne_eqb k s (λ h. omega (arith, h, beyond, pair.own))

  -- ---- the turns of an agent, by phase

  pub placed_as : (s : ℕ) (configuration : Configuration) (phase : Phase) → (mem configuration s).phase ≡ phase
      → IsFitIn configuration s
      → IsPlaced s (mem configuration s) phase (configuration.position s) (configuration.accused s)
  placed_as s configuration phase is fit =
      subst (λ (p : Phase). IsPlaced s (mem configuration s) p (configuration.position s)
      (configuration.accused s)) is fit.placed

  -- the two sides are not known to be safe as far as the black hole
  pub both_safe : (s o : ℕ) (configuration : Configuration) → Pair s o → Inv s o configuration
      → (mem configuration s).mine + (mem configuration s).theirs + 2 ≤ n
  both_safe s o configuration pair inv =
      let sum : distance search s + distance search o ≡ n = sum_is search s o pair in
      let safe : (mem configuration s).mine < distance search s = inv.own.safe in
      let safe_too : (mem configuration o).mine < distance search o = inv.other.safe in
      let known : (mem configuration s).theirs ≤ (mem configuration o).mine = inv.known in
      omega (arith, sum, safe, safe_too, known)

  -- ---- the costs of a side

  trips_mono : (s j k : ℕ) → trips s j ≤ trips s (j + k)
  trips_mono s j zero = let same : trips s (j + 0) ≡ trips s j = ap (trips s) (omega arith) in omega (arith, same)
  trips_mono s j (suc k) =
      let rest : trips s j ≤ trips s (j + k) = trips_mono s j k in
      let more : trips s (j + k + 1) ≡ trips s (j + k) + 2 * (way_to s (j + k + 1)).steps = game.more_trips s (j + k) in
      let index : j + suc k ≡ j + k + 1 = omega arith in
      let at : trips s (j + suc k) ≡ trips s (j + k + 1) = ap (trips s) index in
      omega (arith, rest, more, at)

  -- before the black hole is the next node
  pub below_next : (s mine : ℕ) → mine + 1 < distance search s
      → trips s mine + 2 * (way_to s (mine + 1)).steps ≤ trips s (distance search s - 1)
  below_next s mine safe =
      let more : trips s (mine + 1) ≡ trips s mine + 2 * (way_to s (mine + 1)).steps = game.more_trips s mine in
      let gap : ℕ = distance search s - 1 - (mine + 1) in
      let index : mine + 1 + gap ≡ distance search s - 1 = omega (arith, safe) in
      let at : trips s (mine + 1 + gap) ≡ trips s (distance search s - 1) = ap (trips s) index in
      let within : trips s (mine + 1) ≤ trips s (mine + 1 + gap) = trips_mono s (mine + 1) gap in
      omega (arith, more, within, at)

  -- once it is
  pub at_last : (s mine : ℕ) → mine + 1 ≡ distance search s
      → trips s mine + (way_to s (mine + 1)).steps ≡ most_moves s
  at_last s mine edge =
      let index : mine ≡ distance search s - 1 = omega (arith, edge) in
      let before : trips s mine ≡ trips s (distance search s - 1) = ap (trips s) index in
      let last : (way_to s (mine + 1)).steps ≡ (way_to s (distance search s)).steps =
      ap (λ (k : ℕ). (way_to s k).steps) edge in
      omega (arith, before, last)

  pub below_last : (s mine : ℕ) → mine < distance search s → trips s mine + (way_to s (mine + 1)).steps ≤ most_moves s
  below_last s mine safe = elim (eqb_tells (mine + 1) (distance search s)) [
    | inl h ↦ let same = at_last s mine h.1 in omega (arith, same)
    | inr h ↦ let next = below_next s mine (omega (arith, safe, h.1)) in omega (arith, next)
  ]

  -- who has not ended has a command left
  pub has_room : (s o : ℕ) (configuration : Configuration) (was : Phase) → Pair s o → Inv s o configuration
      → (mem configuration s).phase ≡ was
      → trip (all s (mem configuration s)) was + ended was + trips s (mem configuration s).mine ≤ most_moves s
      → configuration.used s < world.quota
  has_room s o configuration was pair inv is few =
      let used : configuration.used s ≤ cost s (mem configuration s) = inv.own.used in
      let safe : (mem configuration s).mine + (mem configuration s).theirs + 2 ≤ n =
      both_safe s o configuration pair inv in
      let quota : most_commands s ≤ world.quota = quota_of s pair.own in
      omega (arith, used, safe, quota, few, ap (trip (all s (mem configuration s))) is, ap ended is)

  -- a turn of agent s
  pub record Turn : Type 0 where
    pub s : ℕ
    pub o : ℕ
    pub configuration : Configuration
    pub pair : Pair s o
    pub inv : Inv s o configuration

  abbrev pub at_turn : (s o : ℕ) (configuration : Configuration) → Pair s o → Inv s o configuration → Turn
  at_turn s o configuration pair inv = record { s = s; o = o; configuration = configuration; pair = pair; inv = inv }
