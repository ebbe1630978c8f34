-- Simulation: agents with a map copy on the whole network what strategies do on a part, and solve the match within the
-- same bounds.
use Rattle.std.proofs.Common.{ℕ, ◌+◌, ◌<◌, ◌≡◌, Bool, true, false, not, ◌||◌, ◌&&◌, ◌==◌, Option, Some, None, List}
use Rattle.std.proofs.Common.{[], ◌∷◌, ◌++◌, refl, sym, ap, ◌∙◌, subst, if◌then◌else◌, arith}
use Rattle.std.specs.Prelude.{◌≢◌, count_by, find}
use Rattle.std.specs.List.{list_any, range_with_len}
use Rattle.bhs_model.specs.declared.commands.Command.{Command}
use Rattle.bhs_model.specs.declared.events.Event.TheVariants.{Tell, Deliver, Close}
use Rattle.bhs_model.specs.declared.replies.Reply.TheVariants.{Over}
use Rattle.bhs_model.specs.Worlds.{Network, World, is_hole, is_dark}
use Rattle.bhs_model.specs.Kept.{lost}
use Rattle.bhs_model.specs.Runs.{Position, Before, At, Bound, After, changed, is_doomed}
use Rattle.bhs_referee.specs.declared.verdicts.Outcome.TheVariants.{Solved, Unfinished, Silent, Wrong}
use Rattle.bhs_referee.specs.declared.verdicts.Verdict.{Verdict}
use Rattle.bhs_referee.specs.Verdicts.{passes, accuses, is_over_dark, is_right, is_hole_accused, is_dark_accused}
use Rattle.bhs_referee.specs.Verdicts.{is_silent, is_present, is_unfinished, first_unreached}
use Rattle.bhs_referee.specs.Verdicts.{guess_or_solved}
use Rattle.bhs_schedules.specs.declared.answers.Step.{Step}
use Rattle.bhs_schedules.specs.declared.answers.Step.TheVariants.{Says, Sleeps, Stops, Fails}
use Rattle.bhs_schedules.specs.Strategies.{Heard, Strategies}
use Rattle.bhs_schedules.specs.Schedules.{Trial, Scene, Action, Makes, Wakes, Rests, opening, state_of, position_of}
use Rattle.bhs_schedules.specs.Schedules.{deed}
use Rattle.bhs_schedules.specs.Schedules.{done, turn, turns as scene_turns, under, can_move, verdict}
use Rattle.bhs_schedules.specs.Endings.{one_if}
use Rattle.bhs_schedules.specs.Endings.{moving}
use Rattle.bhs_schedules.specs.Everywhere.{IsSolvedWithin, OnlyEnters, step_after}
use Rattle.bhs_schedules.proofs.Turns.{IsOwn, own_deed, lost_more, verdict_is}
use Rattle.bhs_protocols.specs.Configurations.{Configuration, configuration_of, found_in, outcome_in, turn_in}
use Rattle.bhs_protocols.specs.Invariants.{CostBounds, IsSolved}
use Rattle.bhs_protocols.specs.Attained.{IsAttained}
use Rattle.bhs_protocols.proofs.ConfigurationLemmas.{turn_configuration, open_turn}
use Rattle.bhs_protocols_mapped.specs.Parts.{IsPart, Follower, command_of, heard_at, followed, step_of}
use Rattle.bhs_protocols_mapped.proofs.Following as following
use Rattle.bhs_protocols_mapped.proofs.FollowedTurns as turns

module _ (world : World) (part : Network) (port : (node port : ℕ) → ℕ) (wakeups : ℕ) (strategies : Strategies)
    (is : IsPart world part port) where
  abbrev inner : World
  inner = following.inner world part port wakeups strategies is

  abbrev pub played : Trial
  played = following.played world part port wakeups strategies is

  abbrev pub followed_by : Trial
  followed_by = following.followed_by world part port wakeups strategies is

  abbrev IsAlike : Configuration → Configuration → Type 0
  IsAlike = following.IsAlike world part port wakeups strategies is

  abbrev SamePlace : Position → Position → Type 0
  SamePlace = following.SamePlace world part port wakeups strategies is

  abbrev SameLink : Option (ℕ × ℕ) → Option (ℕ × ℕ) → Type 0
  SameLink = following.SameLink world part port wakeups strategies is

  -- ---- the verdict

  passes_same : (test test_too : ℕ × ℕ → Bool) (outer link : Option (ℕ × ℕ)) → SameLink outer link
      → ((node by : ℕ) → node < part.nodes → by < part.degree node → test (node, port node by) ≡ test_too (node, by))
      → passes test outer ≡ passes test_too link
  passes_same test test_too outer None same all = ap (passes test) same
  passes_same test test_too outer (Some end) same all =
      ap (passes test) same.2 ∙ all end.0 end.1 same.0 same.1

  module _ (outer it : Configuration) (same : IsAlike outer it) where
    accuses_same : (test test_too : ℕ × ℕ → Bool)
        → ((node by : ℕ) → node < part.nodes → by < part.degree node
        → test (node, port node by) ≡ test_too (node, by))
        → accuses world (found_in outer) test ≡ accuses inner (found_in it) test_too
    accuses_same test test_too all i = list_any (λ agent. passes_same test test_too (outer.accused agent)
        (it.accused agent) (same.accused agent) all i) (range_with_len 0 world.agents)

    right_same : (node by : ℕ) → node < part.nodes → by < part.degree node
        → is_right world (node, port node by) ≡ is_right inner (node, by)
    right_same node by below has = (λ i. is_hole world.holes (is.far node by below has i)
        || is_dark world.net.far (is.none_dark i) node (port node by))
        ∙ sym (λ i. is_hole world.holes (part.far node by).0 || is_dark part.far (is.none_dark i) node by)

    dark_same : (node by : ℕ) → is_over_dark world (node, port node by) ≡ is_over_dark inner (node, by)
    dark_same node by = (λ i. is_dark world.net.far (is.none_dark i) node (port node by))
        ∙ sym (λ i. is_dark part.far (is.none_dark i) node by)

    holes_same : (hole : ℕ) → is_hole_accused world (found_in outer) hole ≡ is_hole_accused inner (found_in it) hole
    holes_same hole = accuses_same (λ link. hole == (world.net.far link.0 link.1).0)
        (λ link. hole == (part.far link.0 link.1).0) (λ node by below has i. hole == is.far node by below has i)

    silent_same : is_silent world (found_in outer) ≡ is_silent inner (found_in it)
    silent_same =
        (λ i. not (accuses_same (λ link. true) (λ link. true) (λ node by below has. refl) i)
        || list_any (λ hole. not (holes_same hole i)) world.holes
        || list_any (λ end. not (is_dark_accused world (found_in outer) end)) (is.none_dark i))
        ∙ sym (λ i. not (accuses inner (found_in it) (λ link. true))
        || list_any (λ hole. not (is_hole_accused inner (found_in it) hole)) world.holes
        || list_any (λ end. not (is_dark_accused inner (found_in it) end)) (is.none_dark i))

    present_same : (there here : Position) → SamePlace there here → is_present there ≡ is_present here
    present_same there Before like = ap is_present like
    present_same there (At node came) like = ap is_present like.2
    present_same there (Bound node by) like = ap is_present like.2
    present_same there After like = ap is_present like

    unfinished_same : is_unfinished world outer.position ≡ is_unfinished inner it.position
    unfinished_same i = list_any (λ agent. present_same (outer.position agent) (it.position agent) (same.place agent) i)
        (range_with_len 0 world.agents)

    unreached_same : first_unreached world (found_in outer) ≡ first_unreached inner (found_in it)
    unreached_same i = find (λ node. not (node == world.home) && (not (is_hole world.holes node)
        && not (same.reached i node))) (range_with_len 0 (sym is.size i))

    outcome_same : outcome_in world outer ≡ outcome_in inner it
    outcome_same i =
        if accuses_same (λ link. not (is_right world link)) (λ link. not (is_right inner link))
        (λ node by below has j. not (right_same node by below has j)) i then Wrong
        else (if silent_same i then Silent
        else (if unfinished_same i then Unfinished
        else (if accuses_same (λ link. not (is_over_dark world link)) (λ link. not (is_over_dark inner link))
        (λ node by below has j. not (dark_same node by j)) i
        then guess_or_solved (unreached_same i)
        else Solved)))

  -- ---- what agents do

  never : (wrong : Step) → ((command : Command) → Says command ≢ wrong) → (place : Position) (step : Step)
      → step ≢ wrong → step_of port place step ≢ wrong
  never wrong apart place (Says command) fine = apart (command_of port place command)
  never wrong apart place Sleeps fine = fine
  never wrong apart place Stops fine = fine
  never wrong apart place Fails fine = fine

  -- An agent says Enter on the network when its strategy says Enter on the part.
  enters_same : (there here : Position) (step : Step) → SamePlace there here → OnlyEnters here step
      → OnlyEnters there (step_of port here step)
  enters_same there Before (Says command) like enters =
      subst (λ (p : Position). OnlyEnters p (Says (command_of port Before command))) (sym like)
      (ap (command_of port Before) enters)
  enters_same there Before Sleeps like enters = subst (λ (p : Position). OnlyEnters p Sleeps) (sym like) tt
  enters_same there Before Stops like enters = subst (λ (p : Position). OnlyEnters p Stops) (sym like) tt
  enters_same there Before Fails like enters = subst (λ (p : Position). OnlyEnters p Fails) (sym like) tt
  enters_same there (At node came) step like enters =
      subst (λ (p : Position). OnlyEnters p (step_of port (At node came) step)) (sym like.2) tt
  enters_same there (Bound node by) step like enters =
      subst (λ (p : Position). OnlyEnters p (step_of port (Bound node by) step)) (sym like.2) tt
  enters_same there After step like enters =
      subst (λ (p : Position). OnlyEnters p (step_of port After step)) (sym like) tt

  says_no : (command : Command) → Says command ≢ Fails
  says_no command h = cc

  says_never : (command : Command) → Says command ≢ Sleeps
  says_never command h = cc

  says_as : (outer it : Configuration) (k : ℕ) → IsAlike outer it
      → followed_by.strategies k (outer.history k) ≡ step_of port (it.position k) (strategies k (it.history k))
  says_as = following.says_same world part port wakeups strategies is

  -- Match over: the invariant holds for an agent on a link.
  over_as : (outer it : Configuration) (k : ℕ) (place : Position) → IsAlike outer it → it.position k ≡ place
      → ((node by : ℕ) → place ≡ Bound node by → strategies k (Heard Over ∷ it.history k) ≢ Fails)
      → (node by : ℕ) → SamePlace (outer.position k) place → outer.position k ≡ Bound node by
      → followed_by.strategies k (Heard Over ∷ outer.history k) ≢ Fails
  over_as outer it k (Bound start way) same at fine node by like on =
      subst (λ (step : Step). step ≢ Fails) (sym (
      (λ i. does (followed part world.home strategies (same.strategy k i) (Heard Over)))
      ∙ (λ i. does (heard_at part world.home (record { agent = k; past = it.history k; place = it.position k })
      (at i) (strategies k (it.history k)) Over))))
      (never Fails says_no (it.position k) (strategies k (Heard Over ∷ it.history k))
      (fine start way refl))
    where
      does : Follower → Step
      does m = step_of port m.place (strategies m.agent m.past)
  over_as outer it k Before same at fine node by like on =
      let no_way : Before ≡ Bound node by = sym like ∙ on in cc
  over_as outer it k (At start came) same at fine node by like on =
      let no_way : At start like.1 ≡ Bound node by = sym like.2 ∙ on in cc
  over_as outer it k After same at fine node by like on =
      let no_way : After ≡ Bound node by = sym like ∙ on in cc

  -- who has not entered the network has not entered the part
  outside : (there place : Position) → SamePlace there place → there ≡ Before → place ≡ Before
  outside there Before like out = refl
  outside there (At start came) like out = let no_way : At start like.1 ≡ Before = sym like.2 ∙ out in cc
  outside there (Bound start by) like out =
      let no_way : Bound start (port start by) ≡ Before = sym like.2 ∙ out in cc
  outside there After like out = let no_way : After ≡ Before = sym like ∙ out in cc

  -- ---- two scenes that are alike

  record AreAlike (outer it : Scene) : Type 0 where
    is_open : (state_of followed_by outer).closed ≡ false
    open_too : (state_of played it).closed ≡ false
    alike : IsAlike (configuration_of followed_by outer) (configuration_of played it)
    lost : (k : ℕ) → lost world outer.events k ≡ lost inner it.events k

  first : AreAlike opening opening
  first = record {
    is_open = refl;
    open_too = refl;
    alike = record {
      place = λ k. refl;
      strategy = λ k. refl;
      woken = λ k. refl;
      used = λ k. refl;
      shown = refl;
      accused = λ k. refl;
      reached = refl;
      moves = refl;
    };
    lost = λ k. refl;
  }

  -- The agents that an action delivers into the black hole are lost in both matches.
  abbrev delivers : Action → Bool
  delivers = turns.delivers world part port wakeups strategies is

  marks_by : (marks : ℕ → Bool) (k j : ℕ) (b : Bool)
      → (if b then changed marks k true else marks) j ≡ (if b then changed marks k true j else marks j)
  marks_by marks k j true = refl
  marks_by marks k j false = refl

  lost_done : (trial : Trial) (scene : Scene) (k j : ℕ) (deed : Action) → IsOwn k deed
      → (state_of trial scene).closed ≡ false → lost trial.world (done trial scene k deed).events j
      ≡ (if delivers deed && is_doomed trial.world (position_of trial scene k)
      then changed (lost trial.world scene.events) k true j else lost trial.world scene.events j)
  lost_done trial scene k j (Makes (Tell other command)) own is_open =
      ap (λ (m : ℕ → Bool). m j) (lost_more trial.world scene.events (Tell other command))
  lost_done trial scene k j (Makes (Deliver other)) own is_open =
      ap (λ (m : ℕ → Bool). m j) (lost_more trial.world scene.events (Deliver other))
      ∙ (λ i. (if not (is_open i) && is_doomed trial.world (position_of trial scene (own i))
      then changed (lost trial.world scene.events) (own i) true else lost trial.world scene.events) j)
      ∙ marks_by (lost trial.world scene.events) k j (is_doomed trial.world (position_of trial scene k))
  lost_done trial scene k j (Makes Close) own is_open = absurd own
  lost_done trial scene k j Wakes own is_open = refl
  lost_done trial scene k j Rests own is_open = refl

  turned : (outer it : Scene) (k : ℕ) → AreAlike outer it → AreAlike (turn followed_by outer k) (turn played it k)
  turned outer it k same = record {
    is_open = open_turn followed_by outer k same.is_open;
    open_too = open_turn played it k same.open_too;
    alike = subst (λ (p : Configuration). IsAlike p (configuration_of played (turn played it k)))
        (sym (turn_configuration followed_by outer k same.is_open))
        (subst (λ (p : Configuration). IsAlike (turn_in followed_by (configuration_of followed_by outer) k) p)
        (sym (turn_configuration played it k same.open_too))
        (turns.turn_alike world part port wakeups strategies is (configuration_of followed_by outer)
        (configuration_of played it) k
        same.alike));
    lost = λ j.
        let delivered : delivers (deed followed_by outer k) ≡ delivers (deed played it k) =
        turns.delivers_alike world part port wakeups strategies is (configuration_of followed_by outer)
        (configuration_of played it) k
        same.alike in
        let doom : is_doomed world (position_of followed_by outer k) ≡ is_doomed inner (position_of played it k) =
        turns.doomed_alike world part port wakeups strategies is (configuration_of followed_by outer)
        (configuration_of played it)
        same.alike k in
        lost_done followed_by outer k j (deed followed_by outer k) (own_deed followed_by outer k) same.is_open
        ∙ (λ i. if delivered i && doom i then changed (λ (a : ℕ). same.lost a i) k true j else same.lost j i)
        ∙ sym (lost_done played it k j (deed played it k) (own_deed played it k) same.open_too);
  }

  on_and_on : (outer it : Scene) (schedule : List ℕ) → AreAlike outer it
      → AreAlike (scene_turns followed_by outer schedule) (scene_turns played it schedule)
  on_and_on outer it [] same = same
  on_and_on outer it (k ∷ schedule) same =
      on_and_on (turn followed_by outer k) (turn played it k) schedule (turned outer it k same)

  after : (schedule : List ℕ) → AreAlike (under followed_by schedule) (under played schedule)
  after schedule = on_and_on opening opening schedule first

  moves_same : (outer it : Scene) → AreAlike outer it → (k : ℕ)
      → can_move followed_by outer k ≡ can_move played it k
  moves_same outer it same k =
      turns.moves_alike world part port wakeups strategies is (configuration_of followed_by outer)
      (configuration_of played it) k same.alike

  moving_same : (outer it : Scene) (schedule : List ℕ) → AreAlike outer it
      → moving followed_by outer schedule ≡ moving played it schedule
  moving_same outer it [] same = refl
  moving_same outer it (k ∷ schedule) same =
      (λ i. one_if (moves_same outer it same k i)
      + moving_same (turn followed_by outer k) (turn played it k) schedule (turned outer it k same) i)

  verdict_same : (outer it : Scene) → AreAlike outer it → verdict followed_by outer ≡ verdict played it
  verdict_same outer it same =
      verdict_is followed_by outer
      ∙ (λ i. record {
        outcome = outcome_same (configuration_of followed_by outer) (configuration_of played it) same.alike i;
        moves = same.alike.moves i;
        lost = count_by (λ k. same.lost k i) (range_with_len 0 world.agents);
      })
      ∙ sym (verdict_is played it)

  -- the configurations of what a schedule comes to
  abbrev outer_after : List ℕ → Configuration
  outer_after schedule = configuration_of followed_by (under followed_by schedule)

  abbrev inner_after : List ℕ → Configuration
  inner_after schedule = configuration_of played (under played schedule)

  pub follows : (bounds : CostBounds) → IsSolved played bounds → IsSolved followed_by bounds
  follows bounds solved = record {
    solves = λ schedule rest.
        let same : AreAlike (under followed_by schedule) (under played schedule) = after schedule in
        subst (λ (v : Verdict). IsSolvedWithin bounds.moves bounds.lost v)
        (sym (verdict_same (under followed_by schedule) (under played schedule) same))
        (solved.solves schedule
        (λ k. sym (moves_same (under followed_by schedule) (under played schedule) same k) ∙ rest k));
    keeps = λ schedule agent.
        let same = (after schedule).alike.used agent in
        let few = solved.keeps schedule agent in
        omega (arith, same, few);
    nobody_fails = record {
      runs = λ schedule agent within.
          let same = (after schedule).alike in
          subst (λ (step : Step). step ≢ Fails)
          (sym (says_as (outer_after schedule) (inner_after schedule)
          agent same))
          (never Fails says_no _ _ (solved.nobody_fails.runs schedule agent within));
      enters = λ schedule agent within.
          let same = (after schedule).alike in
          subst (λ (step : Step). OnlyEnters (position_of followed_by (under followed_by schedule) agent) step)
          (sym (says_as (outer_after schedule) (inner_after schedule) agent same))
          (enters_same (position_of followed_by (under followed_by schedule) agent)
          (position_of played (under played schedule) agent) (step_after played schedule agent) (same.place agent)
          (solved.nobody_fails.enters schedule agent within));
      over = λ schedule agent node by within rest on.
          let same : AreAlike (under followed_by schedule) (under played schedule) = after schedule in
          over_as (outer_after schedule) (inner_after schedule) agent
          (position_of played (under played schedule) agent) same.alike refl
          (λ start way at. solved.nobody_fails.over schedule agent start way within
          (λ k. sym (moves_same (under followed_by schedule) (under played schedule) same k) ∙ rest k) at)
          node by (same.alike.place agent) on;
      awake = λ schedule agent within rest out.
          let same : AreAlike (under followed_by schedule) (under played schedule) = after schedule in
          subst (λ (step : Step). step ≢ Sleeps)
          (sym (says_as (outer_after schedule) (inner_after schedule)
          agent same.alike))
          (never Sleeps says_never _ _ (solved.nobody_fails.awake schedule agent within
          (λ k. sym (moves_same (under followed_by schedule) (under played schedule) same k) ∙ rest k)
          (outside (position_of followed_by (under followed_by schedule) agent)
          (position_of played (under played schedule) agent) (same.alike.place agent) out)));
    };
    ends = λ schedule.
        let same : moving followed_by opening schedule ≡ moving played opening schedule =
        moving_same opening opening schedule first in
        let few = solved.ends schedule in
        omega (arith, same, few);
    rests = λ schedule.
        let it = solved.rests schedule in (
          it.0,
          (λ k. moves_same (under followed_by (schedule ++ it.0)) (under played (schedule ++ it.0))
              (after (schedule ++ it.0)) k ∙ it.1 k),
        );
  }

  pub attains : (most : ℕ) → IsAttained played most → IsAttained followed_by most
  attains most it =
      let same : AreAlike (under followed_by it.schedule) (under played it.schedule) = after it.schedule in
      record {
        schedule = it.schedule;
        rest = λ k. moves_same (under followed_by it.schedule) (under played it.schedule) same k ∙ it.rest k;
        moves = ap (λ (v : Verdict). v.moves)
            (verdict_same (under followed_by it.schedule) (under played it.schedule) same) ∙ it.moves;
      }
