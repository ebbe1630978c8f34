-- The invariant of the search.
use Rattle.std.proofs.Common.{ℕ, ◌+◌, ◌-◌, ◌*◌, ◌<◌, ◌≤◌, ◌≡◌, ◌⊎◌, Bool, true, false, ◌==◌, Option, Some}
use Rattle.std.proofs.Common.{None, List, length, sym, ap, ◌∙◌, subst, inl, inr, arith}
use Rattle.std.specs.Prelude.{◌≢◌, bytes_eq}
use Rattle.std.proofs.lemmas.Bool.Decides.{eqb_tells}
use Rattle.bhs_model.specs.Worlds.{World}
use Rattle.bhs_model.specs.Runs.{Position, Before, At, Bound, After}
use Rattle.bhs_schedules.specs.Strategies.{Observation}
use Rattle.bhs_schedules.specs.Schedules.{Trial}
use Rattle.bhs_protocols.specs.Configurations.{Configuration}
use Rattle.bhs_protocols.specs.Invariants.{GoesOn}
use Rattle.std.proofs.Math.Path.{transport⁻¹}
use Rattle.bhs_protocols.specs.Programs.{held_after}
use Rattle.bhs_protocols.specs.Halving.{rounds}
use Rattle.bhs_protocols.specs.Halves.{own_in}
use Rattle.bhs_protocols_divided.specs.Plans.{Divisions, Plan, Explores, IsStage, news, explored, count_at, left_at}
use Rattle.bhs_protocols_divided.specs.Dividing.{Memory, Phase, Begins, GoesOut, Leaves, Tries, Turns, Returns, Writes}
use Rattle.bhs_protocols_divided.specs.Dividing.{Follows}
use Rattle.bhs_protocols_divided.specs.Dividing.{Passes, Tells, Ends, own_of, others_of, told_in, after_in, dividers}
use Rattle.bhs_protocols_divided.specs.Dividing.{divided_trial}
use Rattle.bhs_protocols_divided.specs.DividingLaws.{IsSearchedBy, most_moves, most_commands}
use Rattle.bhs_protocols_divided.proofs.NewsLemmas.{walked}
use Rattle.bhs_protocols_divided.proofs.StageLemmas.{stacked, total}
use Rattle.bhs_protocols_divided.proofs.DividingDues.{Seat, Purse, done, spent, paces, tasks, miss, share, reach}
use Rattle.bhs_protocols.proofs.TurnLemmas.{Becomes}

-- a match that the theorem speaks of
pub record Game : Type 0 where
  pub world : World
  pub n : ℕ
  pub hole : ℕ
  pub wakeups : ℕ
  pub plan : Plan
  pub search : IsSearchedBy world n hole plan
  pub room : 5 ≤ world.board
  pub enough : most_commands n ≤ world.quota

module _ (game : Game) where
  open game use {world, n, hole, wakeups, plan}

  abbrev pub trial : Trial
  trial = divided_trial world wakeups plan

  abbrev pub mem : Configuration → (s : ℕ) → Memory
  mem configuration s = held_after (dividers plan) s (configuration.history s)

  abbrev pub seat : Configuration → (s : ℕ) → Seat
  seat configuration s = record {
    memory = mem configuration s;
    position = configuration.position s;
    accused = configuration.accused s;
  }

  -- the greatest number of walks in one tour
  abbrev pub around : ℕ
  around = 2 * (n - 2)

  -- where the black hole is among the nodes that are left
  pub record Spot (now : Divisions) : Type 0 where
    pub side : ℕ
    pub step : ℕ
    pub is : Explores plan now side step hole

  -- ---- where agents are

  -- what an agent does not hold: all divisions, how many nodes the other one has explored, on which side the black hole
  -- is, what whiteboards show, and which nodes were reached
  pub record Setting : Type 0 where
    pub now : Divisions
    pub others : ℕ
    pub lost : ℕ
    pub shown : ℕ → List ℕ
    pub seen : ℕ → Bool

  pub record IsAtNode (node : ℕ) (position : Position) : Type 0 where
    pub came : Option ℕ
    pub at : position ≡ At node came

  -- An agent that explores its part may not have read yet what was told.
  pub record IsOut (e : Setting) (p : Purse) (m : Memory) (accused : Option (ℕ × ℕ)) : Type 0 where
    pub within : m.step < (own_of plan m).steps
    pub behind : e.now ≡ stacked m.side p.count p.at m.divisions
    pub far : m.step ≤ p.at
    pub same : news (own_of plan m) p.at ≡ news (own_of plan m) m.step
    pub clear : (own_of plan m).node m.step ≢ hole
    pub heard : 0 < p.count → told_in (e.shown ((own_of plan m).node p.at)) ≡ length e.now
    pub none : accused ≡ None

  -- An agent that has explored its part goes after the other one, in whose part the black hole is, past what that has
  -- explored.
  pub record IsAfter (e : Setting) (m : Memory) (accused : Option (ℕ × ℕ)) : Type 0 where
    pub knows : e.now ≡ m.divisions
    pub within : m.step < (others_of plan m).steps
    pub few : explored plan m.divisions (1 - m.side) + news (others_of plan m) m.step ≤ e.others
    pub lost_is : e.lost ≡ 1 - m.side
    pub clear : (others_of plan m).node m.step ≢ hole
    pub none : accused ≡ None

  -- it has come to the new node of its step
  pub record IsTrying (e : Setting) (m : Memory) : Type 0 where
    pub is_new : (own_of plan m).is_new m.step ≡ true
    pub safe : (own_of plan m).target m.step ≢ hole
    pub come : e.seen ((own_of plan m).target m.step) ≡ true

  -- the position and the accusation of an agent in each phase
  abbrev pub IsPlaced : Setting → Purse → Memory → Phase → Position → Option (ℕ × ℕ) → Type 0
  IsPlaced e p m Begins position accused =
      IsOut e p m accused × (position ≡ Before) × (m.step ≡ 0) × ((own_of plan m).node 0 ≡ world.home)
  IsPlaced e p m GoesOut position accused =
      IsOut e p m accused × IsAtNode ((own_of plan m).node m.step) position
  IsPlaced e p m Leaves position accused =
      IsOut e p m accused × ((own_of plan m).is_new m.step ≡ false)
      × (position ≡ Bound ((own_of plan m).node m.step) ((own_of plan m).ahead m.step))
  IsPlaced e p m Tries position accused =
      IsOut e p m accused × ((own_of plan m).is_new m.step ≡ true)
      × (position ≡ Bound ((own_of plan m).node m.step) ((own_of plan m).ahead m.step))
  IsPlaced e p m Turns position accused =
      IsOut e p m accused × IsTrying e m × IsAtNode ((own_of plan m).target m.step) position
  IsPlaced e p m Returns position accused =
      IsOut e p m accused × IsTrying e m
      × (position ≡ Bound ((own_of plan m).target m.step) ((own_of plan m).behind m.step))
  IsPlaced e p m Writes position accused =
      IsOut e p m accused × IsTrying e m × IsAtNode ((own_of plan m).node m.step) position
      × (told_in m.seen ≤ length m.divisions)
  IsPlaced e p m Follows position accused =
      IsAfter e m accused × ((others_of plan m).is_new m.step ≡ false)
      × IsAtNode ((others_of plan m).node m.step) position
  IsPlaced e p m Passes position accused =
      IsAfter e m accused × ((others_of plan m).is_new m.step ≡ false)
      × (position ≡ Bound ((others_of plan m).node m.step) ((others_of plan m).ahead m.step))
  IsPlaced e p m Tells position accused =
      IsAfter e m accused × ((others_of plan m).is_new m.step ≡ true)
      × IsAtNode ((others_of plan m).node m.step) position
      × (own_in (1 - m.side) m.seen < count_at plan m.divisions (1 - m.side) m.step)
  IsPlaced e p m Ends position accused =
      (e.now ≡ m.divisions) × (e.lost ≡ 1 - m.side) × (position ≡ After)
      × (left_at plan m.divisions (1 - m.side) m.step ≡ 1) × (m.step < (others_of plan m).steps)
      × ((others_of plan m).target m.step ≡ hole)
      × (accused ≡ Some ((others_of plan m).node m.step, (others_of plan m).ahead m.step))
      × (explored plan m.divisions (1 - m.side) + news (others_of plan m) m.step ≤ e.others)
      × ((others_of plan m).is_new m.step ≡ true)

  -- what is owed on ways
  abbrev pub owed_out : (lost : ℕ) → Purse → Memory → ℕ
  owed_out lost p m = walked (own_of plan m) (reach p.count p.at) + share around m.side lost

  abbrev pub IsDue : (lost : ℕ) → Purse → Memory → Phase → Type 0
  IsDue lost p m Begins = owed_out lost p m ≤ p.ways + walked (own_of plan m) m.step
  IsDue lost p m GoesOut = owed_out lost p m ≤ p.ways + walked (own_of plan m) m.step
  IsDue lost p m Leaves = owed_out lost p m ≤ p.ways + walked (own_of plan m) m.step + 1
  IsDue lost p m Tries = owed_out lost p m ≤ p.ways + walked (own_of plan m) m.step
  IsDue lost p m Turns = owed_out lost p m ≤ p.ways + walked (own_of plan m) m.step
  IsDue lost p m Returns = owed_out lost p m ≤ p.ways + walked (own_of plan m) m.step
  IsDue lost p m Writes = owed_out lost p m ≤ p.ways + walked (own_of plan m) m.step
  IsDue lost p m Follows = around ≤ p.ways + walked (others_of plan m) m.step
  IsDue lost p m Passes = around ≤ p.ways + walked (others_of plan m) m.step + 1
  IsDue lost p m Tells = around ≤ p.ways + walked (others_of plan m) m.step
  IsDue lost p m Ends = Unit

  -- ---- the parts of the invariant: one agent, both agents, the whiteboards

  pub record Fit (e : Setting) (p : Purse) (a : Seat) : Type 0 where
    pub placed : IsPlaced e p a.memory a.memory.phase a.position a.accused
    pub ways : IsDue e.lost p a.memory a.memory.phase
    pub trips : 2 * (explored plan e.now a.memory.side + total plan e.now a.memory.side)
        ≤ p.trips + 2 * done plan a.memory + spent a.memory.phase
    pub marks : explored plan e.now a.memory.side + total plan e.now a.memory.side ≤ p.marks + done plan a.memory
    pub shows : (node : ℕ) → own_in a.memory.side (e.shown node) ≤ done plan a.memory
    pub known : (step : ℕ) → step < (plan.itinerary e.now a.memory.side).steps
        → (plan.itinerary e.now a.memory.side).is_new step ≡ true
        → count_at plan e.now a.memory.side step ≤ done plan a.memory
        → count_at plan e.now a.memory.side step
        ≤ own_in a.memory.side (e.shown ((plan.itinerary e.now a.memory.side).node step))

  -- a node that is left, and that nobody has explored
  pub record IsHidden (now : Divisions) (a b : Seat) (node : ℕ) : Type 0 where
    pub side : ℕ
    pub step : ℕ
    pub is : Explores plan now side step node
    pub own : side ≡ a.memory.side → done plan a.memory < count_at plan now side step
    pub other : side ≡ b.memory.side → done plan b.memory < count_at plan now side step

  abbrev pub setting : Divisions → (others lost : ℕ) → (ℕ → List ℕ) → (ℕ → Bool) → Setting
  setting now others lost shown seen =
      record { now = now; others = others; lost = lost; shown = shown; seen = seen }

  -- all stages to come are paid for
  pub record IsPaid (coming more rest : ℕ) : Type 0 where
    pub ways : 3 * around * rounds rest ≤ coming
    pub told : rounds rest ≤ more

  pub record State (now : Divisions) (p q : Purse) (coming more : ℕ) (a b : Seat) (shown : ℕ → List ℕ)
      (seen : ℕ → Bool) : Type 0 where
    pub stage : IsStage plan now
    pub below : a.memory.side < 2
    pub apart : b.memory.side ≡ 1 - a.memory.side
    pub apart_too : a.memory.side ≡ 1 - b.memory.side
    pub spot : IsHidden now a b hole
    pub own : Fit (setting now (done plan b.memory) spot.side shown seen) p a
    pub other : Fit (setting now (done plan a.memory) spot.side shown seen) q b
    pub told : (node : ℕ) → told_in (shown node) ≤ length now
    pub reached : (node : ℕ) → node < n → node ≢ world.home → (seen node ≡ true) ⊎ IsHidden now a b node
    pub paid : IsPaid coming more (total plan now spot.side)

  -- ---- what is owed

  abbrev pub moves_left : (p q : Purse) → (coming : ℕ) → ℕ
  moves_left p q coming = p.ways + p.trips + (q.ways + q.trips) + coming

  abbrev pub writes_left : (p q : Purse) → (more : ℕ) → ℕ
  writes_left p q more = 2 * (p.marks + q.marks + more)

  abbrev pub stale : Memory → Phase → (ℕ → List ℕ) → ℕ
  stale m Writes shown = miss (bytes_eq (shown ((own_of plan m).node m.step)) m.seen)
  stale m Tells shown = miss (bytes_eq (shown ((others_of plan m).node m.step)) m.seen)
  stale m phase shown = 0

  abbrev pub commands_due : (p q : Purse) → (coming more : ℕ) → (m other : Memory) → (ℕ → List ℕ) → ℕ
  commands_due p q coming more m other shown =
      moves_left p q coming + writes_left p q more + tasks m.phase + tasks other.phase + stale m m.phase shown
      + stale other other.phase shown

  abbrev pub turns_due : (p q : Purse) → (coming more : ℕ) → (m other : Memory) → (ℕ → List ℕ) → ℕ
  turns_due p q coming more m other shown =
      2 * moves_left p q coming + writes_left p q more + paces m.phase + paces other.phase + stale m m.phase shown
      + stale other other.phase shown

  pub record Inv (s o : ℕ) (configuration : Configuration) (left : ℕ) : Type 0 where
    pub now : Divisions
    pub p : Purse
    pub q : Purse
    pub coming : ℕ
    pub more : ℕ
    pub state : State now p q coming more (seat configuration s) (seat configuration o) configuration.shown
        configuration.reached
    pub moves : configuration.moves + moves_left p q coming ≤ most_moves n
    pub used : (k : ℕ) → configuration.used k
        + commands_due p q coming more (mem configuration s) (mem configuration o) configuration.shown
        ≤ most_commands n
    pub turns : turns_due p q coming more (mem configuration s) (mem configuration o) configuration.shown ≤ left

  abbrev pub hidden_swapped : (now : Divisions) (a b : Seat) (node : ℕ) → IsHidden now a b node → IsHidden now b a node
  hidden_swapped now a b node it =
      record { side = it.side; step = it.step; is = it.is; own = it.other; other = it.own }

  pub below_too : (a b : ℕ) → b ≡ 1 - a → b < 2
  below_too a b is = omega (arith, is)

  abbrev pub swapped : (s o : ℕ) (configuration : Configuration) (left : ℕ) → Inv s o configuration left
      → Inv o s configuration left
  swapped s o configuration left it =
      let state = it.state in
      let a : Seat = seat configuration s in
      let b : Seat = seat configuration o in
      let moves : configuration.moves + moves_left it.p it.q it.coming ≤ most_moves n = it.moves in
      let turns : turns_due it.p it.q it.coming it.more (mem configuration s) (mem configuration o) configuration.shown
      ≤ left = it.turns in
      record {
        now = it.now;
        p = it.q;
        q = it.p;
        coming = it.coming;
        more = it.more;
        state = record {
          stage = state.stage;
          below = below_too a.memory.side b.memory.side state.apart;
          apart = state.apart_too;
          apart_too = state.apart;
          spot = hidden_swapped it.now a b hole state.spot;
          own = state.other;
          other = state.own;
          told = state.told;
          reached = λ node within away. elim (state.reached node within away) [
            | inl h ↦ inl h
            | inr h ↦ inr (hidden_swapped it.now a b node h)
          ];
          paid = state.paid;
        };
        moves = omega (arith, moves);
        used = λ k.
            let used : configuration.used k
            + commands_due it.p it.q it.coming it.more (mem configuration s) (mem configuration o) configuration.shown
            ≤ most_commands n = it.used k in
            omega (arith, used);
        turns = omega (arith, turns);
      }

  -- ---- one turn more

  -- the proof obligations of a turn
  pub record Keeps (s o : ℕ) (old : Configuration) (left : ℕ) (inv : Inv s o old left) (a : Seat) (costs moved : ℕ)
      (shown : ℕ → List ℕ) (seen : ℕ → Bool) : Type 0 where
    pub now : Divisions
    pub p : Purse
    pub q : Purse
    pub coming : ℕ
    pub more : ℕ
    pub state : State now p q coming more a (seat old o) shown seen
    pub dues : moved + moves_left p q coming ≤ moves_left inv.p inv.q inv.coming
    pub spends : costs + commands_due p q coming more a.memory (mem old o) shown
        ≤ commands_due inv.p inv.q inv.coming inv.more (mem old s) (mem old o) old.shown
    pub fewer : turns_due p q coming more a.memory (mem old o) shown
        < turns_due inv.p inv.q inv.coming inv.more (mem old s) (mem old o) old.shown

  pub assembled : (s o : ℕ) (old new : Configuration) (left : ℕ) (inv : Inv s o old left) (after : Memory)
      (place : Position) (news : Observation) (costs moved : ℕ) (accused : Option (ℕ × ℕ)) (shown : ℕ → List ℕ)
      (seen : ℕ → Bool) → (o == s) ≡ false → Becomes old new s place news costs moved accused shown seen
      → after_in plan (mem old s) (mem old s).phase news ≡ after
      → Keeps s o old left inv (record { memory = after; position = place; accused = accused }) costs moved shown seen
      → GoesOn (Inv s o) left new
  assembled s o old new left inv after place news costs moved accused shown seen apart becomes is keeps =
      let own_mem : mem new s ≡ after = ap (held_after (dividers plan) s) becomes.news ∙ is in
      let other_mem : mem new o ≡ mem old o = ap (held_after (dividers plan) o) (becomes.other_news o apart) in
      let a : Seat = record { memory = after; position = place; accused = accused } in
      let own_seat : seat new s ≡ a =
      λ i. record { memory = own_mem i; position = becomes.place i; accused = becomes.accused i } in
      let other_seat : seat new o ≡ seat old o =
      λ i. record {
        memory = other_mem i;
        position = becomes.other_place o apart i;
        accused = becomes.other_accused o apart i;
      } in
      let moves : new.moves ≡ old.moves + moved = becomes.moves in
      let was : old.moves + moves_left inv.p inv.q inv.coming ≤ most_moves n = inv.moves in
      let dues : moved + moves_left keeps.p keeps.q keeps.coming ≤ moves_left inv.p inv.q inv.coming = keeps.dues in
      let turns : turns_due inv.p inv.q inv.coming inv.more (mem old s) (mem old o) old.shown ≤ left = inv.turns in
      let rest : ℕ = turns_due keeps.p keeps.q keeps.coming keeps.more after (mem old o) shown in
      let fewer : rest < turns_due inv.p inv.q inv.coming inv.more (mem old s) (mem old o) old.shown = keeps.fewer in
      let turns_are : turns_due keeps.p keeps.q keeps.coming keeps.more (mem new s) (mem new o) new.shown ≡ rest =
      λ i. turns_due keeps.p keeps.q keeps.coming keeps.more (own_mem i) (other_mem i) (becomes.shown i) in
      let commands : commands_due keeps.p keeps.q keeps.coming keeps.more (mem new s) (mem new o) new.shown
      ≡ commands_due keeps.p keeps.q keeps.coming keeps.more after (mem old o) shown =
      λ i. commands_due keeps.p keeps.q keeps.coming keeps.more (own_mem i) (other_mem i) (becomes.shown i) in
      let spends : costs + commands_due keeps.p keeps.q keeps.coming keeps.more after (mem old o) shown
      ≤ commands_due inv.p inv.q inv.coming inv.more (mem old s) (mem old o) old.shown = keeps.spends in
      record {
        rest = rest;
        fewer = omega (arith, fewer, turns);
        holds = record {
          now = keeps.now;
          p = keeps.p;
          q = keeps.q;
          coming = keeps.coming;
          more = keeps.more;
          state = transport⁻¹ (λ i. State keeps.now keeps.p keeps.q keeps.coming keeps.more (own_seat i) (other_seat i)
              (becomes.shown i) (becomes.reached i)) keeps.state;
          moves = omega (arith, moves, was, dues);
          used = λ k.
              let before : old.used k + commands_due inv.p inv.q inv.coming inv.more (mem old s) (mem old o) old.shown
              ≤ most_commands n = inv.used k in
              elim (eqb_tells k s) [
                | inl h ↦
                    let mine : new.used s ≡ old.used s + costs = becomes.used in
                    let here : new.used k ≡ old.used k + costs =
                    subst (λ (j : ℕ). new.used j ≡ old.used j + costs) (sym h.1) mine in
                    omega (arith, before, here, commands, spends)
                | inr h ↦
                    let here : new.used k ≡ old.used k = becomes.other_used k h.0 in
                    omega (arith, before, here, commands, spends)
              ];
          turns = omega (arith, turns_are);
        };
      }
