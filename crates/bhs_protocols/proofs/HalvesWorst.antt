-- The search by halves makes all the moves that its bound allows, under one schedule with one black hole: agent 0 takes
-- turns until it is lost, then agent 1 until it has accused.
use Rattle.std.proofs.Common.{ℕ, zero, suc, ◌+◌, ◌-◌, ◌*◌, ◌/◌, ◌<◌, ◌≤◌, ◌≡◌, ◌⊎◌, true, false, not, List, []}
use Rattle.std.proofs.Common.{◌∷◌, ◌++◌, refl, sym, ap, ◌∙◌, subst, if◌then◌else◌, nat_lt, inl, inr, arith}
use Rattle.std.proofs.lemmas.Bool.{lt-ltb, eq-eqb, cond-true, cond-false, le-ltb}
use Rattle.bhs_model.proofs.StepLemmas.{by_cases}
use Rattle.bhs_schedules.specs.Schedules.{Trial}
use Rattle.bhs_protocols.specs.Configurations.{Configuration, blank, can_move_in, turn_in, turns_in}
use Rattle.bhs_protocols.specs.declared.halves.Memory.{Memory}
use Rattle.bhs_protocols.specs.declared.halves.Phase.TheVariants.{Tries, Ends}
use Rattle.bhs_protocols.specs.StandardRings.{standard_ways}
use Rattle.bhs_protocols.specs.Halving.{doubled, rounds, walks, walks_at, most_moves, most_commands}
use Rattle.bhs_protocols.specs.Attained.{IsAttained, worst_in, worst_distance, worst_world, WorstIsWithin, HalvesAttain}
use Rattle.bhs_protocols.specs.Attained.{HalvesAttainOnStandardRings}
use Rattle.bhs_protocols.proofs.AttainedLemmas.{attained_by, two_rest}
use Rattle.bhs_protocols.proofs.LastWordLemmas.{turns_in_append}
use Rattle.bhs_protocols.proofs.StandardLemmas.{is_search}
use Rattle.bhs_protocols.proofs.HalvingLemmas.{doubled_some, doubled_within, rounds_reach, rounds_least, rounds_over}
use Rattle.bhs_protocols.proofs.SearchLemmas.{Pair, one_zero, zero_one}
use Rattle.bhs_protocols.proofs.HalvesDues.{owing, last, part, told}
use Rattle.bhs_protocols.proofs.HalvesState.{Game, Inv, Onward, at_turn, distance, doomed_is, due, mem, nodes_due}
use Rattle.bhs_protocols.proofs.HalvesState.{rest_of, swapped, trial as trial_of, turns_due, within_n}
use Rattle.bhs_protocols.proofs.HalvesTurns.{part_more, placed_as}
use Rattle.bhs_protocols.proofs.HalvesArrivals.{bound_moves}
use Rattle.bhs_protocols.proofs.HalvesRest.{IsLost, any_turn, resting}
use Rattle.bhs_protocols.proofs.HalvesLemmas.{first_inv}

-- ---- in numbers

-- one node more than a power of two
rounds_are : (k : ℕ) → rounds (doubled k + 1) ≡ suc k
rounds_are k =
    let some : 0 < doubled k = doubled_some k in
    let most : rounds (doubled k + 1) ≤ suc k = rounds_least (doubled k + 1) (suc k) (omega (arith, some)) in
    let reach : doubled k + 1 ≤ doubled (rounds (doubled k + 1)) = rounds_reach (doubled k + 1) in
    let more : (rounds (doubled k + 1) ≤ k) → ⊥ = λ h.
    let within : doubled (rounds (doubled k + 1)) ≤ doubled k = doubled_within (rounds (doubled k + 1)) k h in
    omega (arith, reach, within) in
    omega (arith, most, more)

-- what is left is one node, or one more than a power of two; so many rounds are owed for
abbrev IsWorst : (left rounds : ℕ) → Type 0
IsWorst left times = ((left ≡ 1) × (times ≡ 0)) ⊎ ((k : ℕ) × (left ≡ doubled k + 1) × (times ≡ suc k))

-- The half satisfies the same, and the round trip to the opposite side is paid exactly.
record IsHalved (n left ways : ℕ) : Type 0 where
  worst : IsWorst (left - left / 2) (rounds (left - left / 2))
  paid : ways ≡ 2 * (n - 1 - left) + walks_at n (left - left / 2)

halved_by : (n left times : ℕ) → 2 ≤ left → IsWorst left times → IsHalved n left (walks n times)
halved_by n left times two worst = elim worst [
  | inl h ↦ let one : left ≡ 1 = h.0 in absurd (omega (arith, one, two))
  | inr h ↦ by_power h.0 h.1 h.2
]
  where
    by_power : (k : ℕ) → left ≡ doubled k + 1 → times ≡ suc k → IsHalved n left (walks n times)
    by_power zero left_is times_is =
        let half : left - left / 2 ≡ 1 = omega (arith, left_is) in
        let none : rounds (left - left / 2) ≡ 0 = ap rounds half in
        let walks_are : walks n times ≡ walks n 1 = ap (walks n) times_is in
        let walks_half : walks_at n (left - left / 2) ≡ 0 = ap (walks_at n) half in
        record { worst = inl (half, none); paid = omega (arith, walks_are, walks_half, left_is) }
    by_power (suc k) left_is times_is =
        let half : left - left / 2 ≡ doubled k + 1 = omega (arith, left_is) in
        let times_half : rounds (left - left / 2) ≡ suc k = ap rounds half ∙ rounds_are k in
        let walks_are : walks n times ≡ walks n (suc (suc k)) = ap (walks n) times_is in
        let walks_half : walks_at n (left - left / 2) ≡ walks n (suc k) = ap (walks n) times_half in
        record { worst = inr (k, half, times_half); paid = omega (arith, walks_are, walks_half, left_is) }

-- ---- the black hole

abbrev IsPlacedWorst : (half rounds distance : ℕ) → Type 0
IsPlacedWorst half times distance =
    (0 < distance) × (distance ≤ half) × IsWorst (half + 1 - distance) times

worst_by : (half times : ℕ) → rounds half ≡ times → 1 ≤ half → IsPlacedWorst half times (worst_in half times)
worst_by half zero is some =
    let reach : half ≤ doubled (rounds half) = rounds_reach half in
    let power : doubled (rounds half) ≡ 1 = ap doubled is in
    let one : half ≡ 1 = omega (arith, reach, power, some) in
    (omega arith, some, inl (omega (arith, one), refl))
worst_by half (suc k) is some =
    let over : doubled k < half = rounds_over half k is in
    let power : 0 < doubled k = doubled_some k in
    (omega (arith, over), omega arith, inr (k, omega (arith, over), refl))

worst_is : (n : ℕ) → 3 ≤ n → IsPlacedWorst (n / 2) (rounds (n / 2)) (worst_distance n)
worst_is n three = worst_by (n / 2) (rounds (n / 2)) refl (omega (arith, three))

pub worst_is_within : WorstIsWithin
worst_is_within n three =
    let it = worst_is n three in
    let some : 0 < worst_distance n = it.0 in
    let within : worst_distance n ≤ n / 2 = it.1 in
    (some, omega (arith, within, three))

-- ---- turns of one agent

module _ (game : Game) where
  open game use {world, n, right, left, ways, search}

  abbrev trial : Trial
  trial = trial_of game

  -- where agent s cannot move any more
  record HasRun (s o : ℕ) (P : (v w : ℕ) → Configuration → Type 0) (configuration : Configuration) : Type 0 where
    schedule : List ℕ
    mark : ℕ
    mark_too : ℕ
    inv : Inv game s o mark mark_too (turns_in trial configuration schedule)
    holds : P mark mark_too (turns_in trial configuration schedule)
    still : can_move_in trial (turns_in trial configuration schedule) s ≡ false

  runs : (s o : ℕ) (P : (v w : ℕ) → Configuration → Type 0) → Pair s o
      → ((v w : ℕ) (configuration : Configuration) → Inv game s o v w configuration → P v w configuration
      → (on : Onward game s o v w configuration (turn_in trial configuration s))
      → P on.mark on.mark_too (turn_in trial configuration s))
      → (fuel v w : ℕ) (configuration : Configuration) → Inv game s o v w configuration → P v w configuration
      → turns_due game s (mem game configuration s) v configuration.shown + turns_due game o
      (mem game configuration o) w configuration.shown
      ≤ fuel → HasRun s o P configuration
  runs s o P pair keeps zero v w configuration inv holds few =
      by_cases (can_move_in trial configuration s) (HasRun s o P configuration)
      (λ moves.
      let on : Onward game s o v w configuration (turn_in trial configuration s) =
      any_turn (at_turn game s o v w configuration pair inv) moves in
      let fewer : turns_due game s (mem game (turn_in trial configuration s) s) on.mark
      (turn_in trial configuration s).shown
      + turns_due game o (mem game (turn_in trial configuration s) o) on.mark_too (turn_in trial configuration s).shown
      < turns_due game s (mem game configuration s) v configuration.shown
      + turns_due game o (mem game configuration o) w configuration.shown =
      on.fewer in
      absurd (omega (arith, fewer, few)))
      (λ rests. record { schedule = []; mark = v; mark_too = w; inv = inv; holds = holds; still = rests })
  runs s o P pair keeps (suc fuel) v w configuration inv holds few =
      by_cases (can_move_in trial configuration s) (HasRun s o P configuration)
      (λ moves.
      let on : Onward game s o v w configuration (turn_in trial configuration s) =
      any_turn (at_turn game s o v w configuration pair inv) moves in
      let fewer : turns_due game s (mem game (turn_in trial configuration s) s) on.mark
      (turn_in trial configuration s).shown
      + turns_due game o (mem game (turn_in trial configuration s) o) on.mark_too (turn_in trial configuration s).shown
      < turns_due game s (mem game configuration s) v configuration.shown
      + turns_due game o (mem game configuration o) w configuration.shown =
      on.fewer in
      let after : HasRun s o P (turn_in trial configuration s) =
      runs s o P pair keeps fuel on.mark on.mark_too (turn_in trial configuration s) on.inv
      (keeps v w configuration inv holds on) (omega (arith, fewer, few)) in
      record {
        schedule = s ∷ after.schedule;
        mark = after.mark;
        mark_too = after.mark_too;
        inv = after.inv;
        holds = after.holds;
        still = after.still;
      })
      (λ rests. record { schedule = []; mark = v; mark_too = w; inv = inv; holds = holds; still = rests })

  -- all moves are made or owed
  abbrev IsExact : (s o v w : ℕ) → Configuration → Type 0
  IsExact s o v w configuration =
      configuration.moves + due game s (mem game configuration s) v + due game o (mem game configuration o) w
      ≡ most_moves n

  -- ---- agent 0 runs into the black hole

  record IsFirst (v w : ℕ) (configuration : Configuration) : Type 0 where
    exact : IsExact 0 1 v w configuration
    part_is : part n (mem game configuration 0) v ≡ n / 2
    other : mem game configuration 1 ≡ mem game blank 1
    unmarked : w ≡ 0

  module _ (near : right ≤ n / 2) where
    first_keeps : (v w : ℕ) (configuration : Configuration) → Inv game 0 1 v w configuration → IsFirst v w configuration
        → (on : Onward game 0 1 v w configuration (turn_in trial configuration 0))
        → IsFirst on.mark on.mark_too (turn_in trial configuration 0)
    first_keeps v w configuration inv it on =
        let safe : (mem game configuration 0).mine < right = inv.state.own.safe in
        let part_is : part n (mem game configuration 0) v ≡ n / 2 = it.part_is in
        elim on.progress [
          | inl h ↦
              let exactly : on.moved + due game 0 (mem game (turn_in trial configuration 0) 0) on.mark
              + due game 1 (mem game configuration 1) on.mark_too
              ≡ due game 0 (mem game configuration 0) v + due game 1 (mem game configuration 1) w = h.exactly in
              let moves : (turn_in trial configuration 0).moves ≡ configuration.moves + on.moved = on.moves in
              let same : due game 1 (mem game (turn_in trial configuration 0) 1) on.mark_too
              ≡ due game 1 (mem game configuration 1) on.mark_too =
              ap (λ (m : Memory). due game 1 m on.mark_too) on.other in
              let was : IsExact 0 1 v w configuration = it.exact in
              record {
                exact = omega (arith, exactly, moves, same, was);
                part_is = h.part_is ∙ it.part_is;
                other = on.other ∙ it.other;
                unmarked = h.still ∙ it.unmarked;
              }
          | inr h ↦ elim h [
            | inl d ↦
                let explored : part n (mem game configuration 0) v ≡ (mem game configuration 0).mine = d.explored in
                absurd (omega (arith, explored, part_is, safe, near))
            | inr d ↦
                let explored : part n (mem game configuration 0) v ≡ (mem game configuration 0).mine = d.explored in
                absurd (omega (arith, explored, part_is, safe, near))
          ]
        ]

    first_is : IsFirst 0 0 blank
    first_is =
        let sum : right + left ≡ n = search.sum in
        let three : 3 ≤ n = search.ring.three in
        let first : 0 < right = search.not_home in
        let second : 0 < left = search.nor_around in
        let over : nat_lt (n / 2) right ≡ false = le-ltb (n / 2) right near in
        let yes : nat_lt ((n - 1) / 2) left ≡ true =
        lt-ltb ((n - 1) / 2) left (omega (arith, near, sum, three)) in
        let last_0 : last (n / 2) right ≡ 1 = cond-false _ _ _ over in
        let last_1 : last ((n - 1) / 2) left ≡ 0 = cond-true _ _ _ yes in
        let rest_0 : rest_of game 0 (mem game blank 0) 0 ≡ 1 = cond-false _ _ _ over in
        let rest_1 : rest_of game 1 (mem game blank 1) 0 ≡ n - 1 - (n - 1) / 2 - 0 = cond-true _ _ _ yes in
        let half : rest_of game 1 (mem game blank 1) 0 ≡ n / 2 = omega (arith, rest_1, three) in
        let walks_0 : walks_at n (rest_of game 0 (mem game blank 0) 0) ≡ 0 = ap (walks_at n) rest_0 in
        let walks_1 : walks_at n (rest_of game 1 (mem game blank 1) 0) ≡ walks_at n (n / 2) = ap (walks_at n) half in
        record {
          exact = omega (arith, last_0, last_1, walks_0, walks_1, sum, first, second);
          part_is = refl;
          other = refl;
          unmarked = refl;
        }

    -- ---- agent 1 explores and divides all that is left

    record IsSecond (v w : ℕ) (configuration : Configuration) : Type 0 where
      exact : IsExact 1 0 v w configuration
      before : part n (mem game configuration 1) v < left
      worst : IsWorst (left - part n (mem game configuration 1) v) (rounds (rest_of game 1
          (mem game configuration 1) v))
      lost : (mem game configuration 0).phase ≡ Tries
      edge : (mem game configuration 0).mine + 1 ≡ right

    second_keeps : (v w : ℕ) (configuration : Configuration) → Inv game 1 0 v w configuration
        → IsSecond v w configuration
        → (on : Onward game 1 0 v w configuration (turn_in trial configuration 1))
        → IsSecond on.mark on.mark_too (turn_in trial configuration 1)
    second_keeps v w configuration inv it on =
        let sum : right + left ≡ n = search.sum in
        let edge : (mem game configuration 0).mine + 1 ≡ right = it.edge in
        let before : part n (mem game configuration 1) v < left = it.before in
        let was : IsExact 1 0 v w configuration = it.exact in
        let moves : (turn_in trial configuration 1).moves ≡ configuration.moves + on.moved = on.moves in
        let same : due game 0 (mem game (turn_in trial configuration 1) 0) on.mark_too
        ≡ due game 0 (mem game configuration 0) on.mark_too =
        ap (λ (m : Memory). due game 0 m on.mark_too) on.other in
        let lost_too : (mem game (turn_in trial configuration 1) 0).phase ≡ Tries =
        ap (λ (m : Memory). m.phase) on.other ∙ it.lost in
        let edge_too : (mem game (turn_in trial configuration 1) 0).mine + 1 ≡ right =
        ap (λ (m : Memory). m.mine + 1) on.other ∙ it.edge in
        let rest_is : rest_of game 1 (mem game configuration 1) v
        ≡ n - 1 - part n (mem game configuration 1) v - told (mem game configuration 1) v =
        cond-true _ _ _ (lt-ltb (part n (mem game configuration 1) v) left before) in
        elim on.progress [
          | inl h ↦
              let exactly : on.moved + due game 1 (mem game (turn_in trial configuration 1) 1) on.mark
              + due game 0 (mem game configuration 0) on.mark_too
              ≡ due game 1 (mem game configuration 1) v + due game 0 (mem game configuration 0) w = h.exactly in
              let rest_same : rest_of game 1 (mem game configuration 1) v
              ≡ rest_of game 1 (mem game (turn_in trial configuration 1) 1) on.mark =
              λ i. if nat_lt (sym h.part_is i) left then n - 1 - sym h.part_is i - sym h.told_is i else 1 in
              record {
                exact = omega (arith, exactly, moves, same, was);
                before = subst (λ (k : ℕ). k < left) (sym h.part_is) before;
                worst = subst (λ (k : ℕ). IsWorst (left - k)
                    (rounds (rest_of game 1 (mem game (turn_in trial configuration 1) 1) on.mark))) (sym h.part_is)
                    (subst (λ (k : ℕ). IsWorst (left - part n (mem game configuration 1) v)
                    (rounds k)) rest_same it.worst);
                lost = lost_too;
                edge = edge_too;
              }
          | inr h ↦ elim h [
            | inl d ↦
                let now : Memory = mem game (turn_in trial configuration 1) 1 in
                let mine : ℕ = (mem game configuration 1).mine in
                let all : mine + (mem game configuration 0).mine + d.rest + 1 ≡ n = d.all in
                let more : 2 ≤ d.rest = d.more in
                let explored : part n (mem game configuration 1) v ≡ mine = d.explored in
                let part_is : part n now on.mark ≡ mine + d.rest / 2 = d.part_is in
                let told_is : told now on.mark ≡ (mem game configuration 0).mine = d.told_is in
                let left_is : left - part n (mem game configuration 1) v
                ≡ d.rest = omega (arith, all, edge, sum, explored) in
                let halved : IsHalved n d.rest (walks_at n (rest_of game 1 (mem game configuration 1) v)) =
                halved_by n d.rest (rounds (rest_of game 1 (mem game configuration 1) v)) more
                (subst (λ (k : ℕ). IsWorst k (rounds (rest_of game 1
                (mem game configuration 1) v))) left_is it.worst) in
                let paid : walks_at n (rest_of game 1 (mem game configuration 1) v)
                ≡ 2 * (n - 1 - d.rest) + walks_at n (d.rest - d.rest / 2) = halved.paid in
                let below : part n now on.mark < left = omega (arith, part_is, all, edge, sum, more) in
                let exactly : on.moved + due game 1 now on.mark + due game 0 (mem game configuration 0) on.mark_too
                + walks_at n (rest_of game 1 (mem game configuration 1) v)
                ≡ due game 1 (mem game configuration 1) v + due game 0 (mem game configuration 0) w + 2 *
                (n - 1 - d.rest)
                + walks_at n (d.rest - d.rest / 2) = d.exactly below in
                let rest_now : rest_of game 1 now on.mark ≡ n - 1 - part n now on.mark - told now on.mark =
                cond-true _ _ _ (lt-ltb (part n now on.mark) left below) in
                let left_half : d.rest - d.rest / 2 ≡ left - part n now on.mark =
                omega (arith, part_is, all, edge, sum) in
                let rest_half : d.rest - d.rest / 2 ≡ rest_of game 1 now on.mark =
                omega (arith, rest_now, part_is, told_is, all) in
                record {
                  exact = omega (arith, exactly, paid, moves, same, was);
                  before = below;
                  worst = subst (λ (k : ℕ). IsWorst k (rounds (rest_of game 1 now on.mark))) left_half
                      (subst (λ (k : ℕ). IsWorst (d.rest - d.rest / 2) (rounds k)) rest_half halved.worst);
                  lost = lost_too;
                  edge = edge_too;
                }
            | inr d ↦
                let mine : ℕ = (mem game configuration 1).mine in
                let one : mine + (mem game configuration 0).mine + 2 ≡ n = d.one in
                let explored : part n (mem game configuration 1) v ≡ mine = d.explored in
                let unknown : mine + told (mem game configuration 1) v + 3 ≤ n = d.unknown in
                absurd (not_late (left - part n (mem game configuration 1) v) (rest_of game 1
                (mem game configuration 1) v)
                (omega (arith, one, explored, edge, sum)) (omega (arith, rest_is, explored, unknown)) it.worst)
          ]
        ]
      where
        not_late : (last_nodes known : ℕ) → last_nodes ≡ 1 → 2 ≤ known → IsWorst last_nodes (rounds known) → ⊥
        not_late last_nodes known one more worst = elim worst [
          | inl h ↦
              let reach : known ≤ doubled (rounds known) = rounds_reach known in
              let power : doubled (rounds known) ≡ 1 = ap doubled h.1 in
              omega (arith, reach, power, more)
          | inr h ↦
              let power : 0 < doubled h.0 = doubled_some h.0 in
              let is : last_nodes ≡ doubled h.0 + 1 = h.1 in
              omega (arith, power, is, one)
        ]

    -- ---- both have run

    second_is : (v w : ℕ) (configuration : Configuration) (inv : Inv game 0 1 v w configuration)
        → IsFirst v w configuration
        → IsWorst (n / 2 + 1 - right) (rounds (n / 2)) → IsLost (at_turn game 0 1 v w configuration zero_one inv)
        → IsSecond w v configuration
    second_is v w configuration inv it worst gone =
        let sum : right + left ≡ n = search.sum in
        let three : 3 ≤ n = search.ring.three in
        let parts : part n (mem game configuration 0) v + part n (mem game configuration 1) w + 1 ≡ n = inv.state.sum in
        let part_is : part n (mem game configuration 0) v ≡ n / 2 = it.part_is in
        let below : part n (mem game configuration 1) w < left = omega (arith, parts, part_is, near, sum, three) in
        let told_is : told (mem game configuration 1) w ≡ 0 = λ i. told (it.other i) (it.unmarked i) in
        let rest_is : rest_of game 1 (mem game configuration 1) w
        ≡ n - 1 - part n (mem game configuration 1) w - told (mem game configuration 1) w =
        cond-true _ _ _ (lt-ltb (part n (mem game configuration 1) w) left below) in
        let half : n / 2 ≡ rest_of game 1 (mem game configuration 1) w =
        omega (arith, rest_is, told_is, parts, part_is, three) in
        let left_is : n / 2 + 1 - right ≡ left - part n (mem game configuration 1) w =
        omega (arith, parts, part_is, sum, near, three) in
        let was : IsExact 0 1 v w configuration = it.exact in
        record {
          exact = omega (arith, was);
          before = below;
          worst = subst (λ (k : ℕ). IsWorst k (rounds (rest_of game 1 (mem game configuration 1) w))) left_is
              (subst (λ (k : ℕ). IsWorst (n / 2 + 1 - right) (rounds k)) half worst);
          lost = gone.phase;
          edge = gone.edge;
        }

    -- agent 0 has not come round the ring
    not_round : (v w : ℕ) (configuration : Configuration) → Inv game 0 1 v w configuration → IsFirst v w configuration
        → (mem game configuration 0).phase ≡ Ends → ⊥
    not_round v w configuration inv it is =
        let placed = placed_as (at_turn game 0 1 v w configuration zero_one inv) Ends is in
        let all : (mem game configuration 0).mine + (mem game configuration 1).mine + 2 ≡ n = placed.1 in
        let none : (mem game configuration 1).mine ≡ 0 = ap (λ (m : Memory). m.mine) it.other in
        let safe : (mem game configuration 0).mine < right = inv.state.own.safe in
        let three : 3 ≤ n = search.ring.three in
        omega (arith, all, none, safe, near, three)

    -- who is lost stays so
    lost_still : (v w : ℕ) (configuration : Configuration) → Inv game 0 1 v w configuration
        → (mem game configuration 0).phase ≡ Tries
        → (mem game configuration 0).mine + 1 ≡ right → can_move_in trial configuration 0 ≡ false
    lost_still v w configuration inv is edge =
        let placed = placed_as (at_turn game 0 1 v w configuration zero_one inv) Tries is in
        let mine : ℕ = (mem game configuration 0).mine in
        let within : right < n = within_n game 0 (omega arith) in
        let target : ℕ = ways.node 0 (mine + 1) in
        let label : ℕ = 1 - ways.ahead 0 (mine + 1) in
        let far : world.net.far (ways.node 0 mine) (ways.ahead 0 mine) ≡ (target, label) =
        search.ring.out 0 mine (omega arith) (omega (arith, edge, within)) in
        let there : ways.node 0 right ≡ target = ap (ways.node 0) (sym edge) in
        bound_moves (at_turn game 0 1 v w configuration zero_one inv) (ways.node 0 mine) (ways.ahead 0 mine) placed.1
        ∙ ap not (doomed_is game (ways.node 0 mine) (ways.ahead 0 mine) target label far
        ∙ eq-eqb (ways.node 0 right) target there)

    -- once agent 1 cannot move, nothing is owed
    all_made : (v w : ℕ) (configuration : Configuration) (inv : Inv game 1 0 v w configuration)
        → IsSecond v w configuration
        → can_move_in trial configuration 1 ≡ false → configuration.moves ≡ most_moves n
    all_made v w configuration inv it still =
        let turn_of = at_turn game 1 0 v w configuration one_zero inv in
        let before : part n (mem game configuration 1) v < left = it.before in
        let sum : right + left ≡ n = search.sum in
        let edge : (mem game configuration 0).mine + 1 ≡ right = it.edge in
        elim (resting turn_of (mem game configuration 1).phase refl still) [
          | inl h ↦
              let placed = placed_as turn_of Ends h in
              let mine : ℕ = (mem game configuration 1).mine in
              let all : mine + (mem game configuration 0).mine + 2 ≡ n = placed.1 in
              let parts : part n (mem game configuration 1) v + part n (mem game configuration 0) w + 1
              ≡ n = inv.state.sum in
              let none_last : last (part n (mem game configuration 1) v) left ≡ 0 =
              cond-true _ _ _ (lt-ltb (part n (mem game configuration 1) v) left before) in
              let over : nat_lt (part n (mem game configuration 0) w) right ≡ false =
              le-ltb (part n (mem game configuration 0) w) right (omega (arith, before, parts, sum)) in
              let one_last : last (part n (mem game configuration 0) w) right ≡ 1 = cond-false _ _ _ over in
              let rest_0 : rest_of game 0 (mem game configuration 0) w ≡ 1 = cond-false _ _ _ over in
              let walks_0 : walks_at n (rest_of game 0 (mem game configuration 0) w) ≡ 0 = ap (walks_at n) rest_0 in
              let own : due game 1 (mem game configuration 1) v
              ≡ (nodes_due game 1 (mem game configuration 1) v - 0) + 0 + 0 =
              ap (owing (nodes_due game 1 (mem game configuration 1) v)
              (walks_at n (rest_of game 1 (mem game configuration 1) v)) mine) h in
              let other : due game 0 (mem game configuration 0) w
              ≡ (nodes_due game 0 (mem game configuration 0) w - 1) + 0
              + walks_at n (rest_of game 0 (mem game configuration 0) w) =
              ap (owing (nodes_due game 0 (mem game configuration 0) w)
              (walks_at n (rest_of game 0 (mem game configuration 0) w)) (mem game configuration 0).mine) it.lost in
              let exact : IsExact 1 0 v w configuration = it.exact in
              omega (arith, exact, own, other, none_last, one_last, walks_0, all, edge, sum)
          | inr h ↦
              let placed = placed_as turn_of Tries h.phase in
              let further : (mem game configuration 1).mine < part n (mem game configuration 1) v =
              part_more turn_of placed.0 v refl in
              let round : (mem game configuration 1).mine + 1 ≡ left = h.edge in
              absurd (omega (arith, further, round, before))
        ]

    first_run : HasRun 0 1 IsFirst blank
    first_run =
        runs 0 1 IsFirst zero_one first_keeps
        (turns_due game 0 (mem game blank 0) 0 blank.shown + turns_due game 1 (mem game blank 1) 0 blank.shown) 0 0
        blank (first_inv game) first_is (omega arith)

    first_lost : (one : HasRun 0 1 IsFirst blank) → IsLost (at_turn game 0 1 one.mark one.mark_too
        (turns_in trial blank one.schedule) zero_one one.inv)
    first_lost one =
        elim (resting (at_turn game 0 1 one.mark one.mark_too (turns_in trial blank one.schedule) zero_one
        one.inv) (mem game (turns_in trial blank one.schedule) 0).phase refl one.still) [
          | inl h ↦ absurd (not_round one.mark one.mark_too (turns_in trial blank one.schedule) one.inv one.holds h)
          | inr h ↦ h
        ]

    second_run : IsWorst (n / 2 + 1 - right) (rounds (n / 2)) → (one : HasRun 0 1 IsFirst blank)
        → HasRun 1 0 IsSecond (turns_in trial blank one.schedule)
    second_run worst one =
        let middle : Configuration = turns_in trial blank one.schedule in
        runs 1 0 IsSecond one_zero second_keeps
        (turns_due game 1 (mem game middle 1) one.mark_too middle.shown
        + turns_due game 0 (mem game middle 0) one.mark middle.shown)
        one.mark_too one.mark middle (swapped game 0 1 one.mark one.mark_too middle one.inv)
        (second_is one.mark one.mark_too middle one.inv one.holds worst (first_lost one)) (omega arith)

    attained : (one : HasRun 0 1 IsFirst blank) → HasRun 1 0 IsSecond (turns_in trial blank one.schedule)
        → IsAttained trial (most_moves n)
    attained one two =
        let end : Configuration = turns_in trial (turns_in trial blank one.schedule) two.schedule in
        let back : Inv game 0 1 two.mark_too two.mark end = swapped game 1 0 two.mark two.mark_too end two.inv in
        attained_by trial (one.schedule ++ two.schedule) (most_moves n) end
        (turns_in_append trial blank one.schedule two.schedule)
        (two_rest trial end search.agents
        (lost_still two.mark_too two.mark end back two.holds.lost two.holds.edge) two.still)
        (all_made two.mark two.mark_too end two.inv two.holds two.still)

    pub attains : IsWorst (n / 2 + 1 - right) (rounds (n / 2)) → IsAttained trial (most_moves n)
    attains worst = attained first_run (second_run worst first_run)

-- ---- on each ring

pub halves_attain : HalvesAttain
halves_attain world n other wakeups ways search room enough =
    let it = worst_is n search.ring.three in
    attains (record {
      world = world;
      n = n;
      right = worst_distance n;
      left = other;
      wakeups = wakeups;
      ways = ways;
      search = search;
      room = room;
      enough = enough;
    }) it.1 it.2

pub halves_attain_on_standard_rings : HalvesAttainOnStandardRings
halves_attain_on_standard_rings n wakeups three =
    let within = worst_is_within n three in
    halves_attain (worst_world n) n (n - worst_distance n) wakeups (standard_ways n)
    (is_search n (worst_distance n) (record {
      home = 0;
      holes = worst_distance n ∷ [];
      dark = [];
      agents = 2;
      quota = most_commands n;
      board = 4;
    }) (record {
      three = three;
      not_home = within.0;
      within = within.1;
      home = refl;
      holes = refl;
      dark = refl;
      agents = refl;
    })) (omega arith) (omega arith)
