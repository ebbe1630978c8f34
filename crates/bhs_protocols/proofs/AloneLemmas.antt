-- One agent alone fails: either it never arrives anywhere, or the first node at which it would arrive is the black
-- hole.
use Rattle.std.proofs.Common.{ℕ, zero, suc, ◌+◌, ◌<◌, ◌≤◌, ◌≡◌, ◌⊎◌, Bool, true, false, not, ◌&&◌, ◌||◌, Option, Some}
use Rattle.std.proofs.Common.{None, List, [], ◌∷◌, refl, sym, ap, ◌∙◌, subst, if◌then◌else◌, nat_lt, inl, inr, arith}
use Rattle.std.specs.Prelude.{◌≢◌, find}
use Rattle.std.specs.List.{range_with_len}
use Rattle.std.proofs.lemmas.Bool.{ltb-true, true≢false, eq-eqb, ne_eqb, cond-true, cond-false}
use Rattle.std.proofs.lemmas.Bool.Decides.{eqb_tells}
use Rattle.bhs_model.specs.declared.commands.Command.{Command}
use Rattle.bhs_model.specs.declared.commands.Command.TheVariants.{Enter, Look, Write, Depart, Accuse, Leave, Bad}
use Rattle.bhs_model.specs.declared.events.Event.TheVariants.{Tell}
use Rattle.bhs_model.specs.Worlds.{World}
use Rattle.bhs_model.specs.Runs.{Position, Before, At, Bound, After, position_after}
use Rattle.bhs_model.specs.Examples.{none_held}
use Rattle.bhs_model.proofs.StepLemmas.{by_cases}
use Rattle.bhs_referee.specs.declared.verdicts.Outcome.{Outcome}
use Rattle.bhs_referee.specs.declared.verdicts.Outcome.TheVariants.{Solved, Unfinished, Silent, Wrong}
use Rattle.bhs_referee.specs.declared.verdicts.Verdict.{Verdict}
use Rattle.bhs_referee.specs.Findings.{accused_by}
use Rattle.bhs_referee.specs.Verdicts.{passes, accuses, is_over_dark, is_right, is_silent, is_unfinished, is_unreached}
use Rattle.bhs_referee.specs.Verdicts.{first_unreached, guess_or_solved, is_hole_accused}
use Rattle.bhs_schedules.specs.declared.answers.Step.{Step}
use Rattle.bhs_schedules.specs.declared.answers.Step.TheVariants.{Says, Sleeps}
use Rattle.bhs_schedules.specs.Strategies.{Strategies}
use Rattle.bhs_schedules.specs.Schedules.{Trial, Makes, Wakes, Rests, action_at, is_move, under, verdict, IsAtRest}
use Rattle.bhs_schedules.proofs.Turns.{verdict_is}
use Rattle.bhs_protocols.specs.Configurations.{Configuration, configuration_of, blank, deed_in, can_move_in, answer_at}
use Rattle.bhs_protocols.specs.Configurations.{is_heard, told_at}
use Rattle.bhs_protocols.specs.Configurations.{refused_in, woken_in, done_in, turn_in, turns_in, found_in, outcome_in}
use Rattle.bhs_protocols.specs.Alone.{alone, HasThree, FailsSomewhere, OneAloneFails}
use Rattle.bhs_protocols.proofs.ConfigurationLemmas.{configurations_follow}
use Rattle.bhs_protocols.proofs.LastWordLemmas.{accused_write}

-- ---- what is not solved

unsolved_by : (a b c d : Bool) (first : Option ℕ) → (b ≡ false → d ≡ true) → (first ≡ None → ⊥) →
    (if a then Wrong else (if b then Silent else (if c then Unfinished
    else (if d then guess_or_solved first else Solved)))) ≡ Solved → ⊥
unsolved_by false false false true None accused some h = some refl
unsolved_by false false false false first accused some h = absurd (true≢false (sym (accused refl)))
unsolved_by a b c d first accused some h = cc

find_some : (test : ℕ → Bool) (start count node : ℕ) → start ≤ node → node < start + count → test node ≡ true
    → find test (range_with_len start count) ≡ None → ⊥
find_some test start zero node after before passes_it none = omega (arith, after, before)
find_some test start (suc count) node after before passes_it none = by_cases (test start) ⊥
    (λ here. let found : Some start ≡ None = sym (cond-true _ _ _ here) ∙ none in cc)
    (λ not_here.
    let apart : start ≢ node = λ same. true≢false (sym passes_it ∙ ap test (sym same) ∙ not_here) in
    find_some test (start + 1) count node (omega (arith, after, apart)) (omega (arith, before)) passes_it
    (sym (cond-false _ _ _ not_here) ∙ none))

-- a match with one black hole is not if another node was not reached
pub unreached_unsolved : (world : World) (hole node : ℕ) (configuration : Configuration) → node < world.net.nodes
    → node ≢ world.home → hole ≢ node → configuration.reached node ≡ false
    → outcome_in (record world { holes = hole ∷ []; dark = [] }) configuration ≢ Solved
unreached_unsolved world hole node configuration below not_home apart never =
    let w : World = record world { holes = hole ∷ []; dark = [] } in
    let lonely : is_unreached w (found_in configuration) node ≡ true =
    (λ i. not (ne_eqb node world.home not_home i) && (not (ne_eqb hole node apart i || false) && not (never i))) in
    unsolved_by (accuses w (found_in configuration) (λ link. not (is_right w link))) (is_silent w
    (found_in configuration))
    (is_unfinished w configuration.position) (accuses w (found_in configuration) (λ link. not (is_over_dark w link)))
    (first_unreached w (found_in configuration))
    (spoken (accuses w (found_in configuration) (λ link. true)) (not (is_hole_accused w (found_in configuration) hole)))
    (find_some (is_unreached w (found_in configuration)) 0 world.net.nodes node (omega arith) (omega
    (arith, below)) lonely)
  where
    spoken : (a b : Bool) → (not a || (b || false) || false) ≡ false → a ≡ true
    spoken true b h = refl
    spoken false b h = cc

-- nor is one that a rule calls silent
pub silent_unsolved : (wrong silent : Bool) (rest : Outcome) → silent ≡ true
    → (if wrong then Wrong else (if silent then Silent else rest)) ≡ Solved → ⊥
silent_unsolved true silent rest is h = cc
silent_unsolved false true rest is h = cc
silent_unsolved false false rest is h = cc

-- ---- one agent

-- The third number below 3, beside two given ones.
pub record IsThird (one two : ℕ) : Type 0 where
  pub it : ℕ
  pub small : it < 3
  pub first : it ≢ one
  pub second : it ≢ two

pub third : (one two : ℕ) → IsThird one two
third one two = elim (eqb_tells 0 one) [
  | inl a ↦ elim (eqb_tells 1 two) [
    | inl b ↦ record {
      it = 2;
      small = omega arith;
      first = λ h. omega (arith, h, a.1);
      second = λ h. omega (arith, h, b.1);
    }
    | inr b ↦ record { it = 1; small = omega arith; first = λ h. omega (arith, h, a.1); second = b.1 }
  ]
  | inr a ↦ elim (eqb_tells 0 two) [
    | inl b ↦ elim (eqb_tells 1 one) [
      | inl c ↦ record {
        it = 2;
        small = omega arith;
        first = λ h. omega (arith, h, c.1);
        second = λ h. omega (arith, h, b.1);
      }
      | inr c ↦ record { it = 1; small = omega arith; first = c.1; second = λ h. omega (arith, h, b.1) }
    ]
    | inr b ↦ record { it = 0; small = omega arith; first = a.1; second = b.1 }
  ]
]

module _ (world : World) (wakeups : ℕ) (strategies : Strategies) where
  abbrev trial : (hole : ℕ) → Trial
  trial hole = alone world wakeups strategies hole

  -- the agent has not entered, is at the home base, or has ended
  abbrev IsNear : Position → Type 0
  IsNear Before = Unit {0}
  IsNear (At node came) = node ≡ world.home
  IsNear (Bound node port) = ⊥
  IsNear After = Unit {0}

  -- or it is on a link that leaves the home base
  record IsLeaving (position : Position) : Type 0 where
    port : ℕ
    there : port < world.net.degree world.home
    on : position ≡ Bound world.home port

  -- it has accused nobody unless it has ended
  abbrev IsHonest : Position → Option (ℕ × ℕ) → Type 0
  IsHonest After accused = Unit {0}
  IsHonest position accused = accused ≡ None

  abbrev IsNext : Position → Option (ℕ × ℕ) → Type 0
  IsNext position accused = (IsNear position × IsHonest position accused) ⊎ (IsLeaving position × (accused ≡ None))

  record IsQuiet (configuration : Configuration) : Type 0 where
    near : IsNear (configuration.position 0)
    honest : IsHonest (configuration.position 0) (configuration.accused 0)
    unreached : (node : ℕ) → configuration.reached node ≡ false

  record IsGoing (configuration : Configuration) : Type 0 where
    leaves : IsLeaving (configuration.position 0)
    honest : configuration.accused 0 ≡ None

  -- the world without its black hole
  abbrev some_world : World
  some_world = (trial 0).world

  abbrev IsTalking : Position → Type 0
  IsTalking Before = Unit {0}
  IsTalking (At node came) = node ≡ world.home
  IsTalking position = ⊥

  -- The agent's position after a command, and the link that it has accused.
  next_place : (place : Position) (command : Command) (shown : ℕ → List ℕ) (accused : Option (ℕ × ℕ)) → IsTalking place
      → IsHonest place accused → IsNext (position_after some_world place command)
      (accused_by (Some (answer_at some_world shown place command)) command place accused)
  next_place Before Enter shown accused near honest = inl (refl, honest)
  next_place Before Leave shown accused near honest = inl (tt, tt)
  next_place (At node came) Enter shown accused near honest = inl (refl, honest)
  next_place (At node came) Look shown accused near honest = inl (near, honest)
  next_place (At node came) (Write expect put) shown accused near honest =
      inl (near, accused_write _ expect put (At node came) accused ∙ honest)
  next_place (At node came) (Depart port) shown accused near honest =
      by_cases (nat_lt port (some_world.net.degree node))
      (IsNext (position_after some_world (At node came) (Depart port))
      (accused_by (Some (answer_at some_world shown (At node came) (Depart port))) (Depart port) (At node came)
      accused))
      (λ (yes : nat_lt port (some_world.net.degree node) ≡ true). rw yes (inr (
        record {
          port = port;
          there = subst (λ (k : ℕ). port < world.net.degree k) near (ltb-true port (some_world.net.degree node) yes);
          on = ap (λ (k : ℕ). Bound k port) near;
        },
        honest,
      )))
      (λ (none : nat_lt port (some_world.net.degree node) ≡ false). rw none (inl (near, honest)))
  next_place (At node came) (Accuse port) shown accused near honest =
      by_cases (nat_lt port (some_world.net.degree node))
      (IsNext (position_after some_world (At node came) (Accuse port))
      (accused_by (Some (answer_at some_world shown (At node came) (Accuse port))) (Accuse port) (At node came)
      accused))
      (λ (yes : nat_lt port (some_world.net.degree node) ≡ true). rw yes (inl (tt, tt)))
      (λ (none : nat_lt port (some_world.net.degree node) ≡ false). rw none (inl (near, honest)))
  next_place (At node came) Leave shown accused near honest = inl (tt, tt)
  next_place (At node came) Bad shown accused near honest = inl (near, honest)
  next_place (Bound node port) command shown accused near honest = absurd near
  next_place After command shown accused near honest = absurd near
  next_place Before command shown accused near honest = inl (tt, honest)

  -- ---- a turn while nobody has arrived anywhere: it makes the same of all worlds

  record Next (configuration : Configuration) (agent : ℕ) : Type 0 where
    after : Configuration
    same : (hole : ℕ) → turn_in (trial hole) configuration agent ≡ after
    leads_to : IsQuiet after ⊎ IsGoing after

  module _ (configuration : Configuration) (quiet : IsQuiet configuration) where
    stays : (agent : ℕ) → ((hole : ℕ) → deed_in (trial hole) configuration agent ≡ Rests) → Next configuration agent
    stays agent rests = record {
      after = configuration;
      same = λ hole. ap (done_in (trial hole) configuration agent) (rests hole);
      leads_to = inl quiet;
    }

    beyond : (k : ℕ) → nat_lt (suc k) 1 ≡ false
    beyond k = by_cases (nat_lt (suc k) 1) (nat_lt (suc k) 1 ≡ false)
        (λ yes. let below : suc k < 1 = ltb-true (suc k) 1 yes in absurd (omega (arith, below))) (λ none. none)

    wakes : ((hole : ℕ) → deed_in (trial hole) configuration 0 ≡ Wakes) → Next configuration 0
    wakes it = record {
      after = woken_in configuration 0;
      same = λ hole. ap (done_in (trial hole) configuration 0) (it hole);
      leads_to = inl (record { near = quiet.near; honest = quiet.honest; unreached = quiet.unreached });
    }

    says : (place : Position) (command : Command) → configuration.position 0 ≡ place → IsTalking place
        → IsHonest place (configuration.accused 0)
        → ((hole : ℕ) → deed_in (trial hole) configuration 0 ≡ Makes (Tell 0 command)) → Next configuration 0
    says place command at talking honest it =
        by_cases (is_heard some_world configuration 0 command) (Next configuration 0)
        (λ yes. record {
          after = told_at some_world configuration 0 place command;
          same = λ hole. ap (done_in (trial hole) configuration 0) (it hole) ∙ cond-true _ _ _ yes
              ∙ ap (λ (p : Position). told_at some_world configuration 0 p command) at;
          leads_to = elim (next_place place command configuration.shown (configuration.accused 0) talking honest) [
            | inl h ↦ inl (record { near = h.0; honest = h.1; unreached = quiet.unreached })
            | inr h ↦ inr (record { leaves = h.0; honest = h.1 })
          ];
        })
        (λ none. record {
          after = refused_in configuration 0 command;
          same = λ hole. ap (done_in (trial hole) configuration 0) (it hole) ∙ cond-false _ _ _ none;
          leads_to = inl (record { near = quiet.near; honest = quiet.honest; unreached = quiet.unreached });
        })

    by_step : (place : Position) (step : Step) → configuration.position 0 ≡ place → IsTalking place
        → IsHonest place (configuration.accused 0)
        → ((hole : ℕ) → deed_in (trial hole) configuration 0
        ≡ action_at none_held wakeups place (configuration.woken 0) step 0)
        → Next configuration 0
    by_step Before (Says command) at talking honest it = says Before command at talking honest it
    by_step Before Sleeps at talking honest it =
        by_cases (nat_lt wakeups (configuration.woken 0)) (Next configuration 0)
        (λ yes. stays 0 (λ hole. it hole ∙ cond-true _ _ _ yes))
        (λ none. wakes (λ hole. it hole ∙ cond-false _ _ _ none))
    by_step (At node came) (Says command) at talking honest it = says (At node came) command at talking honest it
    by_step (At node came) Sleeps at talking honest it =
        by_cases (nat_lt wakeups (configuration.woken 0)) (Next configuration 0)
        (λ yes. stays 0 (λ hole. it hole ∙ cond-true _ _ _ yes))
        (λ none. wakes (λ hole. it hole ∙ cond-false _ _ _ none))
    by_step (Bound node port) step at talking honest it = absurd talking
    by_step After step at talking honest it = absurd talking
    by_step place step at talking honest it = stays 0 it

    by_place : (place : Position) → configuration.position 0 ≡ place → IsNear place
        → IsHonest place (configuration.accused 0)
        → Next configuration 0
    by_place Before at near honest = by_step Before (strategies 0 (configuration.history 0)) at near honest
        (λ hole i. action_at none_held wakeups (at i) (configuration.woken 0) (strategies 0
        (configuration.history 0)) 0)
    by_place (At node came) at near honest =
        by_step (At node came) (strategies 0 (configuration.history 0)) at near honest
        (λ hole i. action_at none_held wakeups (at i) (configuration.woken 0) (strategies 0
        (configuration.history 0)) 0)
    by_place (Bound node port) at near honest = absurd near
    by_place After at near honest = stays 0
        (λ hole i. action_at none_held wakeups (at i) (configuration.woken 0) (strategies 0
        (configuration.history 0)) 0)

    next : (agent : ℕ) → Next configuration agent
    next zero = by_place (configuration.position 0) refl quiet.near quiet.honest
    next (suc k) = stays (suc k) (λ hole. cond-false _ _ _ (beyond k))

  -- ---- a schedule: either all of it, or as far as the agent leaves the home base

  record Run (configuration : Configuration) (schedule : List ℕ) : Type 0 where
    first : List ℕ
    after : Configuration
    same : (hole : ℕ) → turns_in (trial hole) configuration first ≡ after
    leads_to : (IsQuiet after × (first ≡ schedule)) ⊎ IsGoing after

  run : (schedule : List ℕ) (configuration : Configuration) → IsQuiet configuration → Run configuration schedule
  run [] configuration quiet = record {
    first = [];
    after = configuration;
    same = λ hole. refl;
    leads_to =
        inl (quiet, refl);
  }
  run (agent ∷ schedule) configuration quiet =
      let it : Next configuration agent = next configuration quiet agent in
      elim it.leads_to [
        | inl h ↦
            let rest : Run it.after schedule = run schedule it.after h in
            record {
              first = agent ∷ rest.first;
              after = rest.after;
              same = λ hole. ap (λ (p : Configuration). turns_in (trial hole) p rest.first) (it.same hole)
                  ∙ rest.same hole;
              leads_to = elim rest.leads_to [
                | inl q ↦ inl (q.0, ap (λ (xs : List ℕ). agent ∷ xs) q.1)
                | inr g ↦ inr g
              ];
            }
        | inr h ↦ record { first = agent ∷ []; after = it.after; same = it.same; leads_to = inr h }
      ]

  -- ---- it has not solved

  quiet_unsolved : (hole : ℕ) (configuration : Configuration) → HasThree world → IsQuiet configuration
      → outcome_in (trial hole).world configuration ≢ Solved
  quiet_unsolved hole configuration has quiet =
      let it : IsThird world.home hole = third world.home hole in
      let three : 3 ≤ world.net.nodes = has.three in
      unreached_unsolved (trial hole).world hole it.it configuration (omega (arith, it.small, three)) it.first
      (λ h. it.second (sym h)) (quiet.unreached it.it)

  going_unsolved : (hole : ℕ) (configuration : Configuration) → IsGoing configuration
      → outcome_in (trial hole).world configuration ≢ Solved
  going_unsolved hole configuration going =
      let w : World = (trial hole).world in
      silent_unsolved (accuses w (found_in configuration) (λ link. not (is_right w link))) (is_silent w
      (found_in configuration)) _
      (ap (λ (a : Option (ℕ × ℕ)). not (passes (λ link. true) a || false)
      || (not (is_hole_accused w (found_in configuration) hole) || false) || false) going.honest)

  -- ---- hence the agent fails for some black hole

  outcome_is : (hole : ℕ) (schedule : List ℕ)
      → (verdict (trial hole) (under (trial hole) schedule)).outcome
      ≡ outcome_in (trial hole).world (configuration_of (trial hole) (under (trial hole) schedule))
  outcome_is hole schedule = ap (λ (v : Verdict). v.outcome) (verdict_is (trial hole) (under (trial hole) schedule))

  blank_quiet : IsQuiet blank
  blank_quiet = record { near = tt; honest = refl; unreached = λ node. refl }

  same_configuration : (hole : ℕ) (schedule : List ℕ) (after : Configuration)
      → turns_in (trial hole) blank schedule ≡ after
      → configuration_of (trial hole) (under (trial hole) schedule) ≡ after
  same_configuration hole schedule after same = configurations_follow (trial hole) schedule ∙ same

  stuck : (configuration : Configuration) (going : IsGoing configuration) (agent : ℕ)
      → can_move_in (trial (world.net.far world.home going.leaves.port).0) configuration agent ≡ false
  stuck configuration going zero =
      let port : ℕ = going.leaves.port in
      let hole : ℕ = (world.net.far world.home port).0 in
      (λ i. is_move (trial hole).world (going.leaves.on i)
      (action_at none_held wakeups (going.leaves.on i) (configuration.woken 0) (strategies 0
      (configuration.history 0)) 0))
      ∙ ap (λ (b : Bool). not ((b || false) || false)) (eq-eqb hole hole refl)
  stuck configuration going (suc k) =
      let hole : ℕ = (world.net.far world.home going.leaves.port).0 in
      ap (is_move (trial hole).world (configuration.position (suc k))) (cond-false _ _ _ (far_off k))
    where
      far_off : (k : ℕ) → nat_lt (suc k) 1 ≡ false
      far_off k = by_cases (nat_lt (suc k) 1) (nat_lt (suc k) 1 ≡ false)
          (λ yes. let below : suc k < 1 = ltb-true (suc k) 1 yes in absurd (omega (arith, below))) (λ none. none)

  fails_somewhere : (hole : ℕ) (schedule : List ℕ) → HasThree world → hole < world.net.nodes → hole ≢ world.home
      → IsAtRest (trial hole) (under (trial hole) schedule) → FailsSomewhere world wakeups strategies
  fails_somewhere hole schedule has within not_home rest =
      let it : Run blank schedule = run schedule blank blank_quiet in
      elim it.leads_to [
        | inl h ↦ record {
          hole = hole;
          within = within;
          not_home = not_home;
          schedule = schedule;
          fails = record {
            rest = rest;
            unsolved = λ solved. quiet_unsolved hole it.after has h.0
                (ap (outcome_in (trial hole).world) (sym (same_configuration hole schedule it.after
                (ap (turns_in (trial hole) blank) (sym h.1) ∙ it.same hole)))
                ∙ sym (outcome_is hole schedule) ∙ solved);
          };
        }
        | inr h ↦
            let port : ℕ = h.leaves.port in
            let other : ℕ = (world.net.far world.home port).0 in
            let configuration : configuration_of (trial other) (under (trial other) it.first) ≡ it.after =
            same_configuration other it.first it.after (it.same other) in
            record {
              hole = other;
              within = has.leads port h.leaves.there;
              not_home = has.away port h.leaves.there;
              schedule = it.first;
              fails = record {
                rest = λ agent. ap (λ (p : Configuration). can_move_in (trial other) p agent) configuration
                    ∙ stuck it.after h agent;
                unsolved = λ solved. going_unsolved other it.after h
                    (ap (outcome_in (trial other).world) (sym configuration) ∙ sym (outcome_is other it.first)
                    ∙ solved);
              };
            }
      ]

pub one_alone_fails : OneAloneFails
one_alone_fails world wakeups strategies hole schedule has within not_home rest =
    fails_somewhere world wakeups strategies hole schedule has within not_home rest
