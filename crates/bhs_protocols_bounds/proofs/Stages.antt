-- The stages of the adversary. At the start of each stage agents are held at both borders of the explored part. A stage
-- accounts for the new nodes and for the moves.
use Rattle.std.proofs.Common.{ℕ, zero, suc, ◌+◌, ◌-◌, ◌*◌, ◌<◌, ◌≤◌, ◌≡◌, false, sym, ◌∙◌, subst, inl, inr, arith}
use Rattle.bhs_model.specs.Worlds.{World}
use Rattle.bhs_model.specs.Draws.{Held}
use Rattle.bhs_model.proofs.StepLemmas.{by_cases}
use Rattle.bhs_schedules.specs.Strategies.{Strategies}
use Rattle.bhs_schedules.specs.Schedules.{Trial, under}
use Rattle.bhs_protocols.specs.Configurations.{Configuration, configuration_of}
use Rattle.bhs_protocols.specs.Halving.{doubled}
use Rattle.bhs_protocols.proofs.ConfigurationLemmas.{configurations_follow}
use Rattle.bhs_protocols_bounds.specs.Bound.{MustMove}
use Rattle.bhs_protocols_bounds.proofs.Holeless.{hidden, leads_hidden}
use Rattle.bhs_protocols_bounds.proofs.Places.{IsNew, IsSafe}
use Rattle.bhs_protocols_bounds.proofs.Lines.{Line, IsLine, IsFront, IsSpread}

-- what phases cost until two nodes are new
abbrev pub phases : (n times : ℕ) → ℕ
phases n zero = 0
phases n (suc k) = n - 2 + doubled k + phases n k

module _ (world : World) (held : Held) (wakeups : ℕ) (strategies : Strategies) where
  pub record IsStage (n new least : ℕ) : Type 0 where
    pub configuration : Configuration
    pub line : Line
    pub front : ℕ
    pub agent : ℕ
    pub line_is : IsLine world.net n line
    pub spread : IsSpread world held wakeups strategies n configuration line front agent
    pub left : front + new ≡ n
    pub moves : least ≤ configuration.moves

  -- a phase halves what is new
  abbrev pub PhasesCost : ℕ → Type 0
  PhasesCost n = (half moves : ℕ) → 2 ≤ half → IsStage n (2 * half - 1) moves
      → IsStage n half (moves + n + half - 3)

  pub all_phases : (n times moves : ℕ) → 2 ≤ n → PhasesCost n → IsStage n (doubled times + 1) moves
      → IsStage n 2 (moves + phases n times)
  all_phases n zero moves two costs stage =
      let sum : moves ≡ moves + phases n 0 = omega arith in
      subst (IsStage n 2) sum stage
  all_phases n (suc k) moves two costs stage =
      let half : ℕ = doubled k + 1 in
      let positive : 1 ≤ doubled k = doubled_positive k in
      let new : doubled (suc k) + 1 ≡ 2 * half - 1 = omega (arith, positive) in
      let next : IsStage n half (moves + n + half - 3) =
      costs half moves (omega (arith, positive)) (subst (λ (u : ℕ). IsStage n u moves) new stage) in
      let sum : moves + n + half - 3 + phases n k ≡ moves + phases n (suc k) = omega (arith, positive, two) in
      subst (IsStage n 2) sum (all_phases n k (moves + n + half - 3) two costs next)
    where
      doubled_positive : (k : ℕ) → 1 ≤ doubled k
      doubled_positive zero = omega arith
      doubled_positive (suc k) = let it = doubled_positive k in omega (arith, it)

  -- A node not before the front is new.
  pub new_at : (n : ℕ) (configuration : Configuration) (line : Line) (front k : ℕ) → IsLine world.net n line
      → world.home < n → IsFront world n configuration line front → k < n → front ≤ k
      → IsNew world configuration (line.at k)
  new_at n configuration line front k is home front_is below after =
      let node : ℕ = line.at k in
      let inside : node < n = is.nodes k below in
      let not_safe : IsSafe world configuration node → ⊥ = λ safe.
      let low : line.number node < front = front_is.explored node inside safe in
      let number : line.number node ≡ k = is.there k below in
      omega (arith, low, number, after) in
      record {
        below = subst (λ (m : ℕ). node < m) (sym is.size) inside;
        not_home = λ same. not_safe (inl same);
        never = by_cases (configuration.reached node) (configuration.reached node
            ≡ false) (λ was. absurd (not_safe (inr was)))
            (λ none. none);
      }

  -- with some black hole some schedule leads to a stage
  pub moves_of : (n new least : ℕ) → world.home < n → IsStage n new least → MustMove world held wakeups strategies least
  moves_of n new least home stage =
      let spread = stage.spread in
      let two_new : stage.front + 2 ≤ n = spread.two_new in
      let hole : ℕ = stage.line.at stage.front in
      let it : IsNew world stage.configuration hole =
      new_at n stage.configuration stage.line stage.front stage.front stage.line_is home spread.front_is
      (omega (arith, two_new)) (omega arith) in
      let schedule = spread.reachable.schedule in
      let trial : Trial = hidden world held wakeups strategies hole in
      let leads : configuration_of trial (under trial schedule) ≡ stage.configuration =
      configurations_follow trial schedule
      ∙ leads_hidden world held wakeups strategies hole stage.configuration spread.reachable it.never
      in
      let enough : least ≤ stage.configuration.moves = stage.moves in
      let moved : least ≤ (configuration_of trial (under trial schedule)).moves =
      subst (λ (p : Configuration). least ≤ p.moves) (sym leads) enough in
      record {
        hole = hole;
        within = it.below;
        not_home = it.not_home;
        schedule = schedule;
        moves = moved;
      }
