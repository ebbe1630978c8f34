-- Who solves a match whichever node is the black hole, finds it. Who finds it has accused nobody where some node other
-- than the black hole was not reached.
use Rattle.std.proofs.Common.{ℕ, zero, suc, ◌+◌, ◌<◌, ◌≡◌, Bool, true, false, not, ◌||◌, Option, Some, None, List, ◌++◌}
use Rattle.std.proofs.Common.{refl, sym, ap, ◌∙◌, arith}
use Rattle.std.specs.Prelude.{◌≢◌}
use Rattle.std.specs.List.{list_any, range_with_len}
use Rattle.std.proofs.lemmas.Bool.{true≢false, eqb-true}
use Rattle.bhs_model.specs.Worlds.{World}
use Rattle.bhs_model.specs.Draws.{Held}
use Rattle.bhs_model.proofs.StepLemmas.{by_cases}
use Rattle.bhs_referee.specs.declared.verdicts.Outcome.TheVariants.{Solved}
use Rattle.bhs_referee.specs.declared.verdicts.Verdict.{Verdict}
use Rattle.bhs_referee.specs.Verdicts.{passes, accuses, is_right, is_silent}
use Rattle.bhs_schedules.specs.Strategies.{Strategies}
use Rattle.bhs_schedules.specs.Schedules.{Trial, under}
use Rattle.bhs_schedules.proofs.Turns.{verdict_is}
use Rattle.bhs_protocols.specs.Configurations.{Configuration, configuration_of, blank, turns_in, found_in, outcome_in}
use Rattle.bhs_protocols.specs.LastWord.{searched, SolvesFor, SomeoneHasAccused, FindsFor, SolversFind}
use Rattle.bhs_protocols.specs.LastWord.{AccusationsComeLast}
use Rattle.bhs_protocols.proofs.ConfigurationLemmas.{configurations_follow}
use Rattle.bhs_protocols.proofs.LastWordLemmas.{doomed_is, right_after, IsSameRun, same_run}
use Rattle.bhs_protocols.proofs.AloneLemmas.{silent_unsolved}

pub record IsSome (test : ℕ → Bool) (start count : ℕ) : Type 0 where
  pub place : ℕ
  pub before : place < start + count
  pub passed : test place ≡ true

pub any_some : (test : ℕ → Bool) (start count : ℕ) → list_any test (range_with_len start count) ≡ true
    → IsSome test start count
any_some test start zero any = absurd (true≢false (sym any))
any_some test start (suc count) any = by_cases (test start) (IsSome test start (suc count))
    (λ here. record { place = start; before = omega arith; passed = here })
    (λ not_here.
    let rest : IsSome test (start + 1) count = any_some test (start + 1) count
    (sym (ap (λ (b : Bool). b || list_any test (range_with_len (start + 1) count)) not_here) ∙ any) in
    let before : rest.place < start + 1 + count = rest.before in
    record { place = rest.place; before = omega (arith, before); passed = rest.passed })

-- who has solved has accused
pub spoken_at_rest : (world : World) (configuration : Configuration) → outcome_in world configuration ≡ Solved
    → accuses world (found_in configuration) (λ link. true) ≡ true
spoken_at_rest world configuration solved =
    by_cases (accuses world (found_in configuration) (λ link. true)) (accuses world (found_in configuration)
    (λ link. true) ≡ true)
    (λ yes. yes)
    (λ none. absurd (silent_unsolved (accuses world (found_in configuration) (λ link. not (is_right world link)))
    (is_silent world (found_in configuration)) _ (silent _ _ _ none) solved))
  where
    silent : (a b c : Bool) → a ≡ false → (not a || b || c) ≡ true
    silent true b c h = cc
    silent false b c h = refl

pub record HasLink (accused : Option (ℕ × ℕ)) : Type 0 where
  pub link : ℕ × ℕ
  pub is : accused ≡ Some link

pub has_link : (accused : Option (ℕ × ℕ)) → passes (λ link. true) accused ≡ true → HasLink accused
has_link None h = cc
has_link (Some link) h = record { link = link; is = refl }

-- ---- accusations in configurations

pub accused_in : (trial : Trial) (schedule : List ℕ) (it : SomeoneHasAccused trial schedule)
    → (turns_in trial blank schedule).accused it.agent ≡ Some it.link
accused_in trial schedule it =
    ap (λ (p : Configuration). p.accused it.agent) (sym (configurations_follow trial schedule)) ∙ it.accused

abbrev pub accused_if : (trial : Trial) (schedule : List ℕ) (agent : ℕ) (link : ℕ × ℕ) → agent < trial.world.agents
    → (turns_in trial blank schedule).accused agent ≡ Some link → SomeoneHasAccused trial schedule
accused_if trial schedule agent link within accused = record {
  agent = agent;
  within = within;
  link = link;
  accused = ap (λ (p : Configuration). p.accused agent) (configurations_follow trial schedule) ∙ accused;
}

-- ---- the law

rightly : (world : World) (held : Held) (wakeups : ℕ) (strategies : Strategies) (hole : ℕ)
    → SolvesFor (searched world held wakeups strategies hole) → (schedule : List ℕ)
    (it : SomeoneHasAccused (searched world held wakeups strategies hole) schedule)
    → (world.net.far it.link.0 it.link.1).0 ≡ hole
rightly world held wakeups strategies hole solves schedule it =
    let trial : Trial = searched world held wakeups strategies hole in
    let right : is_right trial.world it.link ≡ true =
    right_after trial schedule it.agent it.link solves it.within (accused_in trial schedule it) in
    sym (eqb-true hole (world.net.far it.link.0 it.link.1).0
    (sym (doomed_is world held wakeups strategies hole hole hole it.link.0 it.link.1) ∙ right))

solved_accused : (trial : Trial) (schedule : List ℕ) → outcome_in trial.world (turns_in trial blank schedule) ≡ Solved
    → SomeoneHasAccused trial schedule
solved_accused trial schedule solved =
    let some : IsSome (λ k. passes (λ link. true) ((turns_in trial blank schedule).accused k)) 0 trial.world.agents =
    any_some (λ k. passes (λ link. true) ((turns_in trial blank schedule).accused k)) 0 trial.world.agents
    (spoken_at_rest trial.world (turns_in trial blank schedule) solved) in
    let accuser : HasLink ((turns_in trial blank schedule).accused some.place) =
    has_link ((turns_in trial blank schedule).accused some.place) some.passed in
    let before : some.place < 0 + trial.world.agents = some.before in
    accused_if trial schedule some.place accuser.link (omega (arith, before)) accuser.is

pub solver_finds : (world : World) (held : Held) (wakeups : ℕ) (strategies : Strategies) (hole : ℕ)
    → SolvesFor (searched world held wakeups strategies hole)
    → FindsFor (searched world held wakeups strategies hole) hole
solver_finds world held wakeups strategies hole it =
    let trial : Trial = searched world held wakeups strategies hole in
    record {
      right = rightly world held wakeups strategies hole it;
      accuses = λ schedule.
          let more = it.rests schedule in
          let whole : List ℕ = schedule ++ more.0 in (
            more.0,
            solved_accused trial whole (ap (outcome_in trial.world) (sym (configurations_follow trial whole))
                ∙ sym (ap (λ (v : Verdict). v.outcome) (verdict_is trial (under trial whole)))
                ∙ (it.solves whole more.1).outcome),
          );
    }

pub solvers_find : SolversFind
solvers_find world held wakeups strategies solves hole below not_home =
    solver_finds world held wakeups strategies hole (solves hole below not_home)

-- ---- accusations come last

-- where a node was not reached that can be the black hole too, nobody has accused
pub never_accused : (world : World) (held : Held) (wakeups : ℕ) (strategies : Strategies) (hole node : ℕ)
    → FindsFor (searched world held wakeups strategies hole) hole
    → FindsFor (searched world held wakeups strategies node) node → node ≢ hole
    → (schedule : List ℕ) → SomeoneHasAccused (searched world held wakeups strategies hole) schedule
    → (turns_in (searched world held wakeups strategies hole) blank schedule).reached node ≡ false → ⊥
never_accused world held wakeups strategies hole node finds finds_too apart schedule it never =
    let one : Trial = searched world held wakeups strategies hole in
    let two : Trial = searched world held wakeups strategies node in
    let run : IsSameRun world held wakeups strategies hole node blank schedule =
    same_run world held wakeups strategies hole node schedule blank never in
    let there : SomeoneHasAccused two run.other =
    accused_if two run.other it.agent it.link it.within
    (ap (λ (p : Configuration). p.accused it.agent) run.same ∙ accused_in one schedule it) in
    apart (sym (finds_too.right run.other there) ∙ finds.right schedule it)

pub accusations_come_last : AccusationsComeLast
accusations_come_last world held wakeups strategies finds hole below not_home schedule it node below_too not_home_too
    apart =
    let trial : Trial = searched world held wakeups strategies hole in
    let follows : configuration_of trial (under trial schedule) ≡ turns_in trial blank schedule =
    configurations_follow trial schedule in
    by_cases ((turns_in trial blank schedule).reached node)
    ((configuration_of trial (under trial schedule)).reached node ≡ true)
    (λ was. ap (λ (p : Configuration). p.reached node) follows ∙ was)
    (λ never. absurd (never_accused world held wakeups strategies hole node (finds hole below not_home)
    (finds node below_too not_home_too) apart schedule it never))
