-- The search by halves: its invariant, and the obligations of each turn.
use Rattle.std.proofs.Common.{ℕ, ◌+◌, ◌-◌, ◌*◌, ◌/◌, ◌<◌, ◌≤◌, ◌≡◌, ◌⊎◌, Bool, true, false, ◌==◌, Option, Some, None}
use Rattle.std.proofs.Common.{List, sym, ap, ◌∙◌, subst, if◌then◌else◌, nat_lt, inl, inr, arith}
use Rattle.std.specs.Prelude.{◌≢◌, bytes_eq}
use Rattle.std.proofs.lemmas.Bool.Decides.{eqb_tells}
use Rattle.bhs_model.specs.Worlds.{World, doomed}
use Rattle.bhs_model.specs.Runs.{Position, Before, At, Bound, After}
use Rattle.bhs_schedules.specs.Strategies.{Observation}
use Rattle.bhs_schedules.specs.Schedules.{Trial}
use Rattle.bhs_protocols.specs.Configurations.{Configuration}
use Rattle.bhs_protocols.specs.Programs.{held_after}
use Rattle.bhs_protocols.specs.Rings.{Ways, IsSearch}
use Rattle.bhs_protocols.specs.declared.halves.Memory.{Memory}
use Rattle.bhs_protocols.specs.declared.halves.Phase.{Phase}
use Rattle.bhs_protocols.specs.declared.halves.Phase.TheVariants.{Begins, GoesOut, Leaves, Tries, Turns, Returns}
use Rattle.bhs_protocols.specs.declared.halves.Phase.TheVariants.{Writes, GoesHome, NearsHome, Follows, Passes, Tells}
use Rattle.bhs_protocols.specs.declared.halves.Phase.TheVariants.{ComesHome, NearsBack, Ends}
use Rattle.bhs_protocols.specs.Shuttle.{text_by}
use Rattle.bhs_protocols.specs.Halving.{rounds, walks_at, most_moves, most_commands}
use Rattle.bhs_protocols.specs.Halves.{after_in, halves, halves_trial}
use Rattle.bhs_protocols.proofs.HalvesDues.{Seat, owing, paces, tasks, miss, mark_at, beside, come, last, part, told}
use Rattle.bhs_protocols.proofs.SearchLemmas as lemmas
use Rattle.bhs_protocols.proofs.SearchLemmas.{opposite, Pair, apart_from, sides}
use Rattle.bhs_protocols.proofs.TurnLemmas.{Becomes}

-- a match that the theorem speaks of
pub record Game : Type 0 where
  pub world : World
  pub n : ℕ
  pub right : ℕ
  pub left : ℕ
  pub wakeups : ℕ
  pub ways : Ways
  pub search : IsSearch world n right left ways
  pub room : 4 ≤ world.board
  pub enough : most_commands n ≤ world.quota

module _ (game : Game) where
  open game use {world, n, right, left, wakeups, ways, search}

  abbrev pub trial : Trial
  trial = halves_trial world wakeups n

  abbrev pub mem : Configuration → (s : ℕ) → Memory
  mem configuration s = held_after (halves n) s (configuration.history s)

  abbrev pub seat : Configuration → (s : ℕ) → Seat
  seat configuration s = record {
    memory = mem configuration s;
    position = configuration.position s;
    accused =
        configuration.accused s;
  }

  -- ---- the ring

  abbrev pub distance : ℕ → ℕ
  distance = lemmas.distance (sides search)

  pub sum_is : (s o : ℕ) → Pair s o → distance s + distance o ≡ n
  sum_is = lemmas.sum_is (sides search)

  pub positive : (s : ℕ) → s < 2 → 0 < distance s
  positive = lemmas.positive (sides search)

  pub within_n : (s : ℕ) → s < 2 → distance s < n
  within_n = lemmas.within_n (sides search)

  pub doomed_is : (node port target label : ℕ) → world.net.far node port ≡ (target, label)
      → doomed world node port ≡ (ways.node 0 right == target)
  doomed_is = lemmas.doomed_is (sides search)

  pub hole_at : (s : ℕ) → s < 2 → ways.node s (distance s) ≡ ways.node 0 right
  hole_at = lemmas.hole_at (sides search)

  pub safe_before : (s steps : ℕ) → s < 2 → steps < distance s → (ways.node 0 right == ways.node s steps) ≡ false
  safe_before = lemmas.safe_before (sides search)

  -- ---- where agents are

  -- The agent stands at this node of a side.
  pub record IsAtNode (side steps : ℕ) (position : Position) : Type 0 where
    pub came : Option ℕ
    pub at : position ≡ At (ways.node side steps) came

  -- its part is explored, and as far as it knows two nodes are left or more
  pub record IsDoneBy (mine theirs target mark : ℕ) : Type 0 where
    pub reached : mine ≡ target
    pub unmarked : mark ≡ 0
    pub two : mine + theirs + 3 ≤ n
    pub some : 0 < mine

  abbrev pub IsDone : Memory → (mark : ℕ) → Type 0
  IsDone m mark = IsDoneBy m.mine m.theirs m.target mark

  abbrev pub link : (node port : ℕ) → Option (ℕ × ℕ)
  link node port = Some (node, port)

  -- where an agent is, and whom it has accused, by what it is about; `far` nodes of the other side are safe, and `mark`
  -- is the mark at its own last safe node
  abbrev pub IsPlaced : (s : ℕ) → Memory → (far mark : ℕ) → Phase → Position → Option (ℕ × ℕ) → Type 0
  IsPlaced s m far mark Begins position accused =
      (position ≡ Before) × (m.mine ≡ 0) × (m.mine ≡ m.target → mark ≡ 0) × (accused ≡ None)
  IsPlaced s m far mark (GoesOut steps port) position accused =
      (steps ≤ m.mine) × (port ≡ ways.ahead s steps) × (m.mine ≡ m.target → mark ≡ 0) × IsAtNode s steps position
      × (accused ≡ None)
  IsPlaced s m far mark (Leaves steps) position accused =
      (steps < m.mine) × (m.mine ≡ m.target → mark ≡ 0)
      × (position ≡ Bound (ways.node s steps) (ways.ahead s steps)) × (accused ≡ None)
  IsPlaced s m far mark Tries position accused =
      (m.mine < m.target) × (position ≡ Bound (ways.node s m.mine) (ways.ahead s m.mine)) × (accused ≡ None)
  IsPlaced s m far mark (Turns port) position accused =
      (m.mine < m.target) × (m.mine + 1 < distance s) × (port ≡ 1 - ways.ahead s (m.mine + 1))
      × IsAtNode s (m.mine + 1) position × (accused ≡ None)
  IsPlaced s m far mark Returns position accused =
      (m.mine < m.target) × (m.mine + 1 < distance s)
      × (position ≡ Bound (ways.node s (m.mine + 1)) (1 - ways.ahead s (m.mine + 1))) × (accused ≡ None)
  IsPlaced s m far mark (Writes port) position accused =
      (m.mine < m.target) × (m.mine + 1 < distance s) × (port ≡ ways.ahead s m.mine) × IsAtNode s m.mine position
      × (part n m m.own ≡ m.target) × (told m m.own ≡ m.theirs) × (accused ≡ None)
  IsPlaced s m far mark (GoesHome steps port) position accused =
      IsDone m mark × (0 < steps) × (steps < m.mine) × (port ≡ 1 - ways.ahead s steps) × IsAtNode s steps position
      × (accused ≡ None)
  IsPlaced s m far mark (NearsHome steps) position accused =
      IsDone m mark × (0 < steps) × (steps ≤ m.mine)
      × (position ≡ Bound (ways.node s steps) (1 - ways.ahead s steps)) × (accused ≡ None)
  IsPlaced s m far mark (Follows steps port) position accused =
      IsDone m mark × (steps < far) × (port ≡ ways.ahead (opposite s) steps) × IsAtNode (opposite s) steps position
      × (accused ≡ None)
  IsPlaced s m far mark (Passes steps) position accused =
      IsDone m mark × (steps < far)
      × (position ≡ Bound (ways.node (opposite s) steps) (ways.ahead (opposite s) steps)) × (accused ≡ None)
  IsPlaced s m far mark (Tells steps port) position accused =
      IsDone m mark × (steps ≤ far) × (port ≡ ways.ahead (opposite s) steps) × IsAtNode (opposite s) steps position
      × (m.other ≢ 1) × (accused ≡ None)
  IsPlaced s m far mark (ComesHome steps port) position accused =
      (m.mine < m.target) × (0 < steps) × (steps ≤ far) × (port ≡ 1 - ways.ahead (opposite s) steps)
      × IsAtNode (opposite s) steps position × (accused ≡ None)
  IsPlaced s m far mark (NearsBack steps) position accused =
      (m.mine < m.target) × (0 < steps) × (steps ≤ far)
      × (position ≡ Bound (ways.node (opposite s) steps) (1 - ways.ahead (opposite s) steps)) × (accused ≡ None)
  IsPlaced s m far mark Ends position accused =
      (position ≡ After) × (m.mine + far + 2 ≡ n) × ((accused ≡ link (ways.node s m.mine) (ways.ahead s m.mine))
      ⊎ (accused ≡ link (ways.node (opposite s) far) (ways.ahead (opposite s) far)))

  -- ---- the invariant of one agent, two agents and the whiteboards

  pub record Fit (s : ℕ) (a : Seat) (far mark : ℕ) (seen : ℕ → Bool) : Type 0 where
    pub side : a.memory.side ≡ s
    pub placed : IsPlaced s a.memory far mark a.memory.phase a.position a.accused
    pub safe : a.memory.mine < distance s
    pub within : a.memory.mine ≤ part n a.memory mark
    pub reachable : a.memory.mine ≤ a.memory.target
    pub plain : mark ≢ 1
    pub known : a.memory.theirs ≤ far
    pub known_too : told a.memory mark ≤ far
    pub two : part n a.memory mark + told a.memory mark + 2 ≤ n
    pub half : n ≤ 2 * part n a.memory mark + 2 * told a.memory mark + 2
    pub reached : (k : ℕ) → 0 < k → k ≤ come a.memory.mine a.memory.phase → seen (ways.node s k) ≡ true

  -- what whiteboards of this side show
  abbrev pub AreMarked : (s mine far v w : ℕ) → (ℕ → List ℕ) → Type 0
  AreMarked s mine far v w shown = (k : ℕ) → k < distance s
      → shown (ways.node s k) ≡ text_by s (mark_at mine v k) (beside far w k)

  -- v and w are the marks at the last safe nodes of both sides
  pub record State (s o v w : ℕ) (a b : Seat) (shown : ℕ → List ℕ) (seen : ℕ → Bool) : Type 0 where
    pub own : Fit s a b.memory.mine v seen
    pub other : Fit o b a.memory.mine w seen
    pub sum : part n a.memory v + part n b.memory w + 1 ≡ n
    pub marked : AreMarked s a.memory.mine b.memory.mine v w shown
    pub marked_too : AreMarked o b.memory.mine a.memory.mine w v shown

  -- ---- what is owed

  abbrev pub nodes_due : (s : ℕ) → Memory → (mark : ℕ) → ℕ
  nodes_due s m mark = 3 * (distance s - 1 - m.mine) + last (part n m mark) (distance s)

  -- of nodes that are left once the agent has explored its part, if it can
  abbrev pub rest_of : (s : ℕ) → Memory → (mark : ℕ) → ℕ
  rest_of s m mark =
      if nat_lt (part n m mark) (distance s) then n - 1 - part n m mark - told m mark else 1

  abbrev pub due : (s : ℕ) → Memory → (mark : ℕ) → ℕ
  due s m mark = owing (nodes_due s m mark) (walks_at n (rest_of s m mark)) m.mine m.phase

  abbrev pub stale : (s : ℕ) → Memory → Phase → (ℕ → List ℕ) → ℕ
  stale s m (Writes port) shown = miss (bytes_eq (shown (ways.node s m.mine)) (text_by s m.own m.other))
  stale s m (Tells steps port) shown = miss (bytes_eq (shown (ways.node (opposite s) steps)) (text_by s m.own m.other))
  stale s m phase shown = 0

  abbrev pub turns_due : (s : ℕ) → Memory → (mark : ℕ) → (ℕ → List ℕ) → ℕ
  turns_due s m mark shown =
      2 * due s m mark + 2 * (distance s - 1 - m.mine) + 2 * rounds (rest_of s m mark) + paces m.phase
      + stale s m m.phase shown

  abbrev pub commands_due : (s : ℕ) → Memory → (mark : ℕ) → (ℕ → List ℕ) → ℕ
  commands_due s m mark shown =
      due s m mark + 2 * (distance s - 1 - m.mine) + 2 * rounds (rest_of s m mark) + tasks m.phase
      + stale s m m.phase shown

  pub record Inv (s o v w : ℕ) (configuration : Configuration) : Type 0 where
    pub state : State s o v w (seat configuration s) (seat configuration o) configuration.shown configuration.reached
    pub moves : configuration.moves + due s (mem configuration s) v + due o (mem configuration o) w ≤ most_moves n
    pub used : (k : ℕ) → configuration.used k + commands_due s (mem configuration s) v configuration.shown
        + commands_due o (mem configuration o) w configuration.shown ≤ most_commands n

  pub swapped : (s o v w : ℕ) (configuration : Configuration) → Inv s o v w configuration → Inv o s w v configuration
  swapped s o v w configuration it =
      let moves : configuration.moves + due s (mem configuration s) v + due o (mem configuration o) w ≤ most_moves n =
      it.moves in
      let sum : part n (mem configuration s) v + part n (mem configuration o) w + 1 ≡ n = it.state.sum in
      record {
        state = record {
          own = it.state.other;
          other = it.state.own;
          sum = omega (arith, sum);
          marked = it.state.marked_too;
          marked_too = it.state.marked;
        };
        moves = omega (arith, moves);
        used = λ k.
            let used : configuration.used k + commands_due s (mem configuration s) v configuration.shown
            + commands_due o (mem configuration o) w configuration.shown ≤ most_commands n = it.used k in
            omega (arith, used);
      }

  -- ---- one turn more

  -- What an agent held and the other one holds, and what the agent holds after its turn: the turn spends what was owed,
  -- to the last move, and both parts are as they were.
  pub record IsSpent (s o v w mark mark_too : ℕ) (was other now : Memory) (moved : ℕ) : Type 0 where
    pub exactly : moved + due s now mark + due o other mark_too ≡ due s was v + due o other w
    pub part_is : part n now mark ≡ part n was v
    pub told_is : told now mark ≡ told was v
    pub still : mark_too ≡ w

  -- Or it divides the nodes that are left. If the black hole is not in the agent's half, what was owed for ways pays
  -- for the way to here and back, and for all ways that are to come once half of the nodes are left.
  pub record IsDivided (s o v w mark mark_too : ℕ) (was other now : Memory) (moved : ℕ) : Type 0 where
    pub rest : ℕ
    pub all : was.mine + other.mine + rest + 1 ≡ n
    pub more : 2 ≤ rest
    pub explored : part n was v ≡ was.mine
    pub part_is : part n now mark ≡ was.mine + rest / 2
    pub told_is : told now mark ≡ other.mine
    pub exactly : part n now mark < distance s
        → moved + due s now mark + due o other mark_too + walks_at n (rest_of s was v)
        ≡ due s was v + due o other w + 2 * (n - 1 - rest) + walks_at n (rest - rest / 2)

  -- Or the agent has walked the whole way to the opposite side, and reads there that one node is left.
  pub record IsLate (s v : ℕ) (was other : Memory) : Type 0 where
    pub one : was.mine + other.mine + 2 ≡ n
    pub explored : part n was v ≡ was.mine
    pub unknown : was.mine + told was v + 3 ≤ n

  abbrev pub Progress : (s o v w mark mark_too : ℕ) (was other now : Memory) (moved : ℕ) → Type 0
  Progress s o v w mark mark_too was other now moved =
      IsSpent s o v w mark mark_too was other now moved
      ⊎ (IsDivided s o v w mark mark_too was other now moved ⊎ IsLate s v was other)

  pub record Onward (s o v w : ℕ) (old new : Configuration) : Type 0 where
    pub mark : ℕ
    pub mark_too : ℕ
    pub inv : Inv s o mark mark_too new
    pub moved : ℕ
    pub moves : new.moves ≡ old.moves + moved
    pub other : mem new o ≡ mem old o
    pub progress : Progress s o v w mark mark_too (mem old s) (mem old o) (mem new s) moved
    pub fewer : turns_due s (mem new s) mark new.shown + turns_due o (mem new o) mark_too new.shown
        < turns_due s (mem old s) v old.shown + turns_due o (mem old o) w old.shown

  -- the obligations of an agent's turn
  pub record Keeps (s o v w : ℕ) (old : Configuration) (a : Seat) (costs moved mark mark_too : ℕ) (shown : ℕ → List ℕ)
      (seen : ℕ → Bool) : Type 0 where
    pub state : State s o mark mark_too a (seat old o) shown seen
    pub spends : costs + commands_due s a.memory mark shown + commands_due o (mem old o) mark_too shown
        ≤ commands_due s (mem old s) v old.shown + commands_due o (mem old o) w old.shown
    pub dues : moved + due s a.memory mark + due o (mem old o) mark_too ≤ due s (mem old s) v + due o (mem old o) w
    pub progress : Progress s o v w mark mark_too (mem old s) (mem old o) a.memory moved
    pub fewer : turns_due s a.memory mark shown + turns_due o (mem old o) mark_too shown
        < turns_due s (mem old s) v old.shown + turns_due o (mem old o) w old.shown

  pub assembled : (s o v w : ℕ) (old new : Configuration) (after : Memory) (place : Position) (news : Observation)
      (costs moved : ℕ)
      (accused : Option (ℕ × ℕ)) (mark mark_too : ℕ) (shown : ℕ → List ℕ) (seen : ℕ → Bool) → Pair s o
      → Inv s o v w old → Becomes old new s place news costs moved accused shown seen
      → after_in n (mem old s) (mem old s).phase news ≡ after
      → Keeps s o v w old (record { memory = after; position = place; accused = accused }) costs moved mark mark_too
      shown seen → Onward s o v w old new
  assembled s o v w old new after place news costs moved accused mark mark_too shown seen pair inv becomes is keeps =
      let apart : (o == s) ≡ false = apart_from s o pair in
      let own_mem : mem new s ≡ after = ap (held_after (halves n) s) becomes.news ∙ is in
      let other_mem : mem new o ≡ mem old o = ap (held_after (halves n) o) (becomes.other_news o apart) in
      let a : Seat = record { memory = after; position = place; accused = accused } in
      let own_seat : seat new s ≡ a =
      λ i. record { memory = own_mem i; position = becomes.place i; accused = becomes.accused i } in
      let other_seat : seat new o ≡ seat old o =
      λ i. record {
        memory = other_mem i;
        position = becomes.other_place o apart i;
        accused = becomes.other_accused o apart i;
      } in
      let turns : turns_due s (mem new s) mark new.shown + turns_due o (mem new o) mark_too new.shown
      ≡ turns_due s after mark shown + turns_due o (mem old o) mark_too shown =
      λ i. turns_due s (own_mem i) mark (becomes.shown i) + turns_due o (other_mem i) mark_too (becomes.shown i) in
      let dues_are : due s (mem new s) mark + due o (mem new o) mark_too
      ≡ due s after mark + due o (mem old o) mark_too =
      λ i. due s (own_mem i) mark + due o (other_mem i) mark_too in
      let moves : new.moves ≡ old.moves + moved = becomes.moves in
      let was : old.moves + due s (mem old s) v + due o (mem old o) w ≤ most_moves n = inv.moves in
      let dues : moved + due s after mark + due o (mem old o) mark_too
      ≤ due s (mem old s) v + due o (mem old o) w = keeps.dues in
      let fewer : turns_due s after mark shown + turns_due o (mem old o) mark_too shown
      < turns_due s (mem old s) v old.shown + turns_due o (mem old o) w old.shown = keeps.fewer in
      let commands : commands_due s (mem new s) mark new.shown + commands_due o (mem new o) mark_too new.shown
      ≡ commands_due s after mark shown + commands_due o (mem old o) mark_too shown =
      λ i. commands_due s (own_mem i) mark (becomes.shown i) + commands_due o (other_mem i) mark_too (becomes.shown i)
      in
      let spends : costs + commands_due s after mark shown + commands_due o (mem old o) mark_too shown
      ≤ commands_due s (mem old s) v old.shown + commands_due o (mem old o) w old.shown = keeps.spends in
      record {
        mark = mark;
        mark_too = mark_too;
        inv = record {
          state = subst (λ (x : Seat). State s o mark mark_too x (seat new o) new.shown new.reached) (sym own_seat)
              (subst (λ (x : Seat). State s o mark mark_too a x new.shown new.reached) (sym other_seat)
              (subst (λ (f : ℕ → List ℕ). State s o mark mark_too a (seat old o) f new.reached) (sym becomes.shown)
              (subst (λ (f : ℕ → Bool). State s o mark mark_too a (seat old o) shown f) (sym becomes.reached)
              keeps.state)));
          moves = omega (arith, moves, was, dues, dues_are);
          used = λ k.
              let before : old.used k + commands_due s (mem old s) v old.shown + commands_due o (mem old o) w old.shown
              ≤ most_commands n = inv.used k in
              elim (eqb_tells k s) [
                | inl h ↦
                    let mine : new.used s ≡ old.used s + costs = becomes.used in
                    let here : new.used k ≡ old.used k + costs =
                    subst (λ (j : ℕ). new.used j ≡ old.used j + costs) (sym h.1) mine in
                    omega (arith, before, here, commands, spends)
                | inr h ↦
                    let here : new.used k ≡ old.used k = becomes.other_used k h.0 in
                    omega (arith, before, here, commands, spends)
              ];
        };
        moved = moved;
        moves = moves;
        other = other_mem;
        progress = subst (λ (m : Memory). Progress s o v w mark mark_too (mem old s) (mem old o) m moved) (sym own_mem)
            keeps.progress;
        fewer = omega (arith, turns, fewer);
      }

  -- a turn of agent s, with v and w the marks at the last safe nodes of both sides
  pub record Turn : Type 0 where
    pub s : ℕ
    pub o : ℕ
    pub v : ℕ
    pub w : ℕ
    pub configuration : Configuration
    pub pair : Pair s o
    pub inv : Inv s o v w configuration

  abbrev pub at_turn : (s o v w : ℕ) (configuration : Configuration) → Pair s o → Inv s o v w configuration → Turn
  at_turn s o v w configuration pair inv =
      record { s = s; o = o; v = v; w = w; configuration = configuration; pair = pair; inv = inv }
