-- Agents that draw a chart: the verdict on a match in which all agents have ended or are lost.
use Rattle.std.proofs.Common.{ℕ, zero, suc, ◌+◌, ◌<◌, ◌≤◌, ◌≡◌, ◌⊎◌, Bool, true, false, not, ◌&&◌, ◌||◌, ◌==◌, Option}
use Rattle.std.proofs.Common.{None, if◌then◌else◌, refl, sym, ap, ◌∙◌, inl, inr, arith}
use Rattle.std.specs.Prelude.{◌≢◌, find}
use Rattle.std.specs.List.{list_any, range_with_len}
use Rattle.std.proofs.lemmas.Bool.{cond-false, eq-eqb}
use Rattle.std.proofs.lemmas.Bool.Decides.{eqb_tells}
use Rattle.bhs_model.specs.Worlds.{World, is_hole}
use Rattle.bhs_referee.specs.declared.verdicts.Outcome.TheVariants.{Solved}
use Rattle.bhs_referee.specs.Verdicts.{passes, accuses, is_right, is_silent, is_unfinished, is_unreached}
use Rattle.bhs_referee.specs.Verdicts.{first_unreached}
use Rattle.bhs_referee.specs.Verdicts.{guess_or_solved, is_present, is_over_dark, is_hole_accused}
use Rattle.bhs_protocols.specs.Configurations.{Configuration, found_in, outcome_in}
use Rattle.bhs_protocols_charts.proofs.ChartState.{Game, HasAccused, trial as trial_of, n as size, far}
use Rattle.bhs_protocols_charts.proofs.ChartMoves.{doomed_is}

-- ---- numbers in a row

none_in : (test : ℕ → Bool) (start count : ℕ) → ((k : ℕ) → start ≤ k → k < start + count → test k ≡ false)
    → list_any test (range_with_len start count) ≡ false
none_in test start zero none = refl
none_in test start (suc count) none =
    ap (λ (b : Bool). b || list_any test (range_with_len (start + 1) count)) (none start (omega arith) (omega arith))
    ∙ none_in test (start + 1) count (λ k after early. none k (omega (arith, after)) (omega (arith, early)))

some_in : (test : ℕ → Bool) (start count k : ℕ) → start ≤ k → k < start + count → test k ≡ true
    → list_any test (range_with_len start count) ≡ true
some_in test start zero k after early is = absurd (omega (arith, after, early))
some_in test start (suc count) k after early is = elim (eqb_tells k start) [
  | inl h ↦ ap (λ (b : Bool). b || list_any test (range_with_len (start + 1) count)) (ap test (sym h.1) ∙ is)
  | inr h ↦ ap (λ (b : Bool). test start || b)
      (some_in test (start + 1) count k (omega (arith, after, h.1)) (omega (arith, early)) is)
      ∙ or_true (test start)
]
  where
    or_true : (b : Bool) → (b || true) ≡ true
    or_true true = refl
    or_true false = refl

none_found : (test : ℕ → Bool) (start count : ℕ) → ((k : ℕ) → start ≤ k → k < start + count → test k ≡ false)
    → find test (range_with_len start count) ≡ None
none_found test start zero none = refl
none_found test start (suc count) none =
    cond-false _ _ _ (none start (omega arith) (omega arith))
    ∙ none_found test (start + 1) count (λ k after early. none k (omega (arith, after)) (omega (arith, early)))

module _ (game : Game) where
  open game use {terms, home, hole}

  abbrev world : World
  world = (trial_of game).world

  -- All agents are at rest: no agent is at a node; each has accused nobody or the black hole, and some agent has
  -- accused; all other nodes are reached.
  pub record IsDone (configuration : Configuration) : Type 0 where
    pub accused : (k : ℕ) → k < terms.agents
        → (configuration.accused k ≡ None) ⊎ HasAccused game (configuration.accused k)
    pub away : (k : ℕ) → k < terms.agents → is_present (configuration.position k) ≡ false
    pub one : ℕ
    pub within : one < terms.agents
    pub accuses : HasAccused game (configuration.accused one)
    pub reached : (node : ℕ) → node < size game → node ≢ home → node ≢ hole → configuration.reached node ≡ true

  module _ (configuration : Configuration) (done : IsDone configuration) where
    leads_there : (link : Option (ℕ × ℕ)) (it : HasAccused game link) → (hole == (far game it.node it.port).0) ≡ true
    leads_there link it = eq-eqb hole (far game it.node it.port).0 (sym it.leads)

    never_wrong : (k : ℕ) → k < terms.agents
        → passes (λ link. not (is_right world link)) (configuration.accused k) ≡ false
    never_wrong k lt = elim (done.accused k lt) [
      | inl h ↦ ap (passes (λ link. not (is_right world link))) h
      | inr h ↦ ap (passes (λ link. not (is_right world link))) h.link
          ∙ ap not (doomed_is game h.node h.port ∙ leads_there (configuration.accused k) h)
    ]

    right_ones : accuses world (found_in configuration) (λ link. not (is_right world link)) ≡ false
    right_ones = none_in (λ k. passes (λ link. not (is_right world link)) (configuration.accused k)) 0 terms.agents
        (λ k after early. never_wrong k (omega (arith, early)))

    by_one : (test : ℕ × ℕ → Bool) → test (done.accuses.node, done.accuses.port) ≡ true
        → accuses world (found_in configuration) test ≡ true
    by_one test is =
        let within = done.within in
        some_in (λ k. passes test (configuration.accused k)) 0 terms.agents done.one (omega arith)
        (omega (arith, within))
        (ap (passes test) done.accuses.link ∙ is)

    spoken : is_silent world (found_in configuration) ≡ false
    spoken =
        let some = by_one (λ link. true) refl in
        let there : is_hole_accused world (found_in configuration) hole ≡ true =
        by_one (λ link. hole == (far game link.0 link.1).0)
        (leads_there (configuration.accused done.one) done.accuses) in
        λ i. not (some i) || (not (there i) || false) || false

    finished : is_unfinished world configuration.position ≡ false
    finished = none_in (λ k. is_present (configuration.position k)) 0 terms.agents
        (λ k after early. done.away k (omega (arith, early)))

    none_by_home : (a b c : Bool) → a ≡ true → (not a && (not b && not c)) ≡ false
    none_by_home a b c h = ap (λ (x : Bool). not x && (not b && not c)) h

    none_by_hole : (a b c : Bool) → b ≡ true → (not a && (not b && not c)) ≡ false
    none_by_hole true b c h = refl
    none_by_hole false b c h = ap (λ (x : Bool). not x && not c) h

    none_by_arrival : (a b c : Bool) → c ≡ true → (not a && (not b && not c)) ≡ false
    none_by_arrival true b c h = refl
    none_by_arrival false true c h = refl
    none_by_arrival false false c h = ap not h

    or_false : (b : Bool) → b ≡ true → (b || false) ≡ true
    or_false b h = ap (λ (x : Bool). x || false) h

    no_more : (node : ℕ) → node < size game → is_unreached world (found_in configuration) node ≡ false
    no_more node lt = elim (eqb_tells node home) [
      | inl h ↦ none_by_home (node == home) (is_hole world.holes node) (configuration.reached node) h.0
      | inr h ↦ elim (eqb_tells hole node) [
        | inl it ↦ none_by_hole (node == home) (is_hole world.holes node) (configuration.reached node)
            (or_false (hole == node) it.0)
        | inr it ↦ none_by_arrival (node == home) (is_hole world.holes node) (configuration.reached node)
            (done.reached node lt h.1 (λ same. it.1 (sym same)))
      ]
    ]

    all_reached : first_unreached world (found_in configuration) ≡ None
    all_reached = none_found (is_unreached world (found_in configuration)) 0 (size game)
        (λ node after early. no_more node (omega (arith, early)))

    pub solved : outcome_in world configuration ≡ Solved
    solved =
        cond-false _ _ _ right_ones ∙ cond-false _ _ _ spoken ∙ cond-false _ _ _ finished
        ∙ either_way (accuses world (found_in configuration) (λ link. not (is_over_dark world link)))
      where
        either_way : (b : Bool)
            → (if b then guess_or_solved (first_unreached world (found_in configuration)) else Solved) ≡ Solved
        either_way true = ap guess_or_solved all_reached
        either_way false = refl
