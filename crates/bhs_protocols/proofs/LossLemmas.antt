-- Each black hole destroys an agent: where another node is the black hole this one is reached, and until then the same
-- happens in both matches.
use Rattle.std.proofs.Common.{ℕ, zero, suc, ◌+◌, ◌<◌, ◌≤◌, ◌≡◌, Bool, true, false, not, ◌&&◌, List, []}
use Rattle.std.proofs.Common.{◌∷◌, ◌++◌, refl, sym, ap, ◌∙◌, subst, if◌then◌else◌, nat_lt, inl, inr, arith}
use Rattle.std.specs.Prelude.{◌≢◌, cond, count_by}
use Rattle.std.specs.List.{range_with_len}
use Rattle.std.proofs.lemmas.Bool.{ltb-true, true≢false, eq-eqb, cond-true, cond-false}
use Rattle.std.proofs.lemmas.Bool.Decides.{eqb_tells}
use Rattle.std.proofs.lemmas.List.Recursion.{is_count_by}
use Rattle.bhs_model.specs.declared.events.Event.{Event}
use Rattle.bhs_model.specs.declared.events.Event.TheVariants.{Tell, Deliver, Close}
use Rattle.bhs_net.specs.Network.{nodes_of}
use Rattle.bhs_model.specs.declared.setups.Setup.{Setup}
use Rattle.bhs_model.specs.Setups.{world_of}
use Rattle.bhs_model.specs.Worlds.{World, doomed}
use Rattle.bhs_model.specs.Draws.{Held}
use Rattle.bhs_model.specs.Kept.{destroys, lost, lost_after}
use Rattle.bhs_model.specs.Runs.{Position, Before, At, Bound, After, changed, is_doomed}
use Rattle.bhs_model.proofs.StepLemmas.{by_cases, changed_same}
use Rattle.bhs_referee.specs.declared.verdicts.Outcome.TheVariants.{Solved}
use Rattle.bhs_referee.specs.declared.verdicts.Verdict.{Verdict}
use Rattle.bhs_schedules.specs.Strategies.{Strategies}
use Rattle.bhs_schedules.specs.Schedules.{Trial, Scene, opening, state_of, Action, Makes, Wakes, Rests, deed, done}
use Rattle.bhs_schedules.specs.Schedules.{turn, turns, under, verdict}
use Rattle.bhs_schedules.proofs.Closed.{IsKept, kept_by_turns, under_each}
use Rattle.bhs_schedules.proofs.Turns.{turns_append}
use Rattle.bhs_schedules.proofs.Turns.{IsOwn, lost_more, verdict_is}
use Rattle.bhs_protocols.specs.Configurations.{Configuration, configuration_of, blank, deed_in, is_heard, told_at}
use Rattle.bhs_protocols.specs.Configurations.{refused_in, arrived_in}
use Rattle.bhs_protocols.specs.Configurations.{said_in, delivered_in, done_in, turn_in, turns_in, outcome_in}
use Rattle.bhs_protocols.specs.LastWord.{searched, SolvesFor}
use Rattle.bhs_protocols.specs.Losses.{LosesOne, EachBlackHoleDestroys, ALossIsNeeded, ALossIsNeededOnNetworks}
use Rattle.bhs_protocols.specs.Losses.{TheHalvesSolveEverywhere}
use Rattle.bhs_protocols.specs.Invariants.{IsSolved}
use Rattle.bhs_protocols.specs.Halving.{most_moves}
use Rattle.bhs_protocols.specs.Halves.{halves_trial}
use Rattle.bhs_protocols.specs.HalvesLaws.{halves_bounds}
use Rattle.bhs_protocols.proofs.ConfigurationLemmas.{configurations_follow, open_turn}
use Rattle.bhs_protocols.proofs.AloneLemmas.{IsThird, third, unreached_unsolved}
use Rattle.bhs_protocols.proofs.HalvesRings.{halves_solve_all_rings}
use Rattle.bhs_protocols.proofs.LastWordLemmas.{IsSameRun, same_run, own_in, doomed_is}

-- ---- how many are lost

number_of : (ℕ → Bool) → List ℕ → ℕ
number_of p [] = 0
number_of p (x ∷ xs) = cond (p x) (1 + number_of p xs) (number_of p xs)

some_counted : (p : ℕ → Bool) (start count k : ℕ) → start ≤ k → k < start + count → p k ≡ true
    → 0 < number_of p (range_with_len start count)
unfolding number_of
some_counted p start zero k after before is = absurd (omega (arith, after, before))
some_counted p start (suc count) k after before is = elim (eqb_tells start k) [
  | inl h ↦
      let here : p start ≡ true = ap p h.1 ∙ is in
      rw here (omega arith)
  | inr h ↦
      let rest : 0 < number_of p (range_with_len (start + 1) count) =
      some_counted p (start + 1) count k (omega (arith, after, h.1)) (omega (arith, before)) is in
      by_cases (p start) (0 < number_of p (range_with_len start (suc count)))
      (λ yes. rw yes (omega arith))
      (λ none. rw none rest)
]

number_is : (p : ℕ → Bool) (xs : List ℕ) → number_of p xs ≡ count_by p xs
unfolding number_of
number_is p xs = is_count_by (number_of p) p refl (λ x others. refl) xs

module _ (world : World) (held : Held) (wakeups : ℕ) (strategies : Strategies) (hole node : ℕ) where
  abbrev one : Trial
  one = searched world held wakeups strategies hole

  abbrev two : Trial
  two = searched world held wakeups strategies node

  -- ---- where a node is reached, some turn is the first to reach it

  record IsFirstTurn (configuration : Configuration) : Type 0 where
    schedule : List ℕ
    agent : ℕ
    never : (turns_in one configuration schedule).reached node ≡ false
    comes : (turn_in one (turns_in one configuration schedule) agent).reached node ≡ true

  first_turn : (schedule : List ℕ) (configuration : Configuration) → configuration.reached node ≡ false
      → (turns_in one configuration schedule).reached node ≡ true → IsFirstTurn configuration
  first_turn [] configuration never was = absurd (true≢false (sym was ∙ never))
  first_turn (agent ∷ schedule) configuration never was =
      by_cases ((turn_in one configuration agent).reached node) (IsFirstTurn configuration)
      (λ yes. record { schedule = []; agent = agent; never = never; comes = yes })
      (λ none.
      let rest : IsFirstTurn (turn_in one configuration agent) =
      first_turn schedule (turn_in one configuration agent) none was in
      record { schedule = agent ∷ rest.schedule; agent = rest.agent; never = rest.never; comes = rest.comes })

  -- that is an arrival: an agent on a link that leads there is delivered
  record IsComing (configuration : Configuration) (agent : ℕ) : Type 0 where
    start : ℕ
    port : ℕ
    on : configuration.position agent ≡ Bound start port
    to : node ≡ (world.net.far start port).0
    delivers : deed_in one configuration agent ≡ Makes (Deliver agent)

  coming_by : (configuration : Configuration) (agent : ℕ) (it : Action) → IsOwn agent it
      → deed_in one configuration agent ≡ it
      → configuration.reached node ≡ false → (done_in one configuration agent it).reached node ≡ true
      → IsComing configuration agent
  coming_by configuration agent (Makes (Tell other command)) own is never comes =
      absurd (true≢false (sym comes ∙ by_cases (is_heard world configuration other command)
      ((said_in one.world configuration other command).reached node ≡ false)
      (λ yes. ap (λ (p : Configuration). p.reached node) (cond-true _ (told_at one.world configuration other
      (configuration.position other) command) (refused_in configuration other command) yes) ∙ never)
      (λ none. ap (λ (p : Configuration). p.reached node) (cond-false _ (told_at one.world configuration other
      (configuration.position other) command) (refused_in configuration other command) none) ∙ never)))
  coming_by configuration agent (Makes (Deliver other)) own is never comes =
      by_place (configuration.position other) refl comes
    where
      by_place : (position : Position) → configuration.position other ≡ position
          → (delivered_in one.world configuration other position).reached node ≡ true → IsComing configuration agent
      by_place (Bound start port) at comes = by_cases (doomed one.world start port) (IsComing configuration agent)
          (λ yes. absurd (true≢false (sym comes ∙ (ap (λ (p : Configuration). p.reached node) (cond-true _ configuration
          (arrived_in one.world configuration other (world.net.far start port).0 (world.net.far start port).1) yes)
          ∙ never))))
          (λ none.
          let target : ℕ = (world.net.far start port).0 in
          let now : changed configuration.reached target true node ≡ true =
          sym (ap (λ (p : Configuration). p.reached node) (cond-false _ configuration
          (arrived_in one.world configuration other target (world.net.far start port).1) none)) ∙ comes in
          elim (eqb_tells node target) [
            | inl h ↦ record {
              start = start;
              port = port;
              on = ap configuration.position (sym own) ∙ at;
              to = h.1;
              delivers = is ∙ ap (λ (k : ℕ). Makes (Deliver k)) own;
            }
            | inr h ↦ absurd (true≢false (sym (rw h.0 at now) ∙ never))
          ])
      by_place Before at comes = absurd (true≢false (sym comes ∙ never))
      by_place (At place came) at comes = absurd (true≢false (sym comes ∙ never))
      by_place After at comes = absurd (true≢false (sym comes ∙ never))
  coming_by configuration agent (Makes Close) own is never comes = absurd own
  coming_by configuration agent Wakes own is never comes = absurd (true≢false (sym comes ∙ never))
  coming_by configuration agent Rests own is never comes = absurd (true≢false (sym comes ∙ never))

  -- ---- where that node is the black hole, it destroys the agent

  abbrev IsLostIn : (agent : ℕ) → Scene → Type 0
  IsLostIn agent scene = lost two.world scene.events agent ≡ true

  destroyed : (scene : Scene) (agent : ℕ) → (state_of two scene).closed ≡ false
      → IsComing (configuration_of two scene) agent → IsLostIn agent (turn two scene agent)
  destroyed scene agent is_open it =
      let marks : ℕ → Bool = lost two.world scene.events in
      let doom : doomed two.world it.start it.port ≡ true =
      doomed_is world held wakeups strategies hole node node it.start it.port
      ∙ eq-eqb node (world.net.far it.start it.port).0 it.to in
      let is : destroys two.world (state_of two scene) agent ≡ true =
      (λ i. not (is_open i) && is_doomed two.world (it.on i)) ∙ doom in
      ap (λ (d : Action). lost two.world (done two scene agent d).events agent) it.delivers
      ∙ ap (λ (m : ℕ → Bool). m agent) (lost_more two.world scene.events (Deliver agent))
      ∙ ap (λ (b : Bool). (if b then changed marks agent true else marks) agent) is ∙ changed_same marks agent true

  -- who is lost stays so
  lost_after_event : (scene : Scene) (agent : ℕ) (event : Event) → IsLostIn agent scene
      → lost_after two.world (state_of two scene) (lost two.world scene.events) event agent ≡ true
  lost_after_event scene agent (Tell other command) was = was
  lost_after_event scene agent Close was = was
  lost_after_event scene agent (Deliver other) was = either_way (destroys two.world (state_of two scene) other)
    where
      marked : changed (lost two.world scene.events) other true agent ≡ true
      marked = elim (eqb_tells agent other) [
        | inl h ↦ rw h.0 refl
        | inr h ↦ rw h.0 was
      ]

      either_way : (b : Bool)
          → (if b then changed (lost two.world scene.events) other true else lost two.world scene.events) agent ≡ true
      either_way true = marked
      either_way false = was

  lost_later : (scene : Scene) (agent k : ℕ) (it : Action) → IsLostIn agent scene → IsLostIn agent (done two scene k it)
  lost_later scene agent k (Makes event) was =
      ap (λ (m : ℕ → Bool). m agent) (lost_more two.world scene.events event) ∙ lost_after_event scene agent event was
  lost_later scene agent k Wakes was = was
  lost_later scene agent k Rests was = was

  lost_stays : (agent : ℕ) → IsKept two (IsLostIn agent)
  lost_stays agent = record { turned = λ scene k was. lost_later scene agent k (deed two scene k) was }

  always_open : (schedule : List ℕ) → (state_of two (under two schedule)).closed ≡ false
  always_open schedule = under_each two (λ (scene : Scene). (state_of two scene).closed ≡ false) schedule
      (record { turned = open_turn two }) refl

  -- A delivered agent belongs to the match.
  is_agent : (configuration : Configuration) (agent : ℕ) → deed_in one configuration agent ≡ Makes (Deliver agent)
      → agent < world.agents
  is_agent configuration agent delivers = by_cases (nat_lt agent world.agents) (agent < world.agents)
      (ltb-true agent world.agents)
      (λ none. let rests : Rests ≡ Makes (Deliver agent) = sym (cond-false _ _ _ none) ∙ delivers in cc)

  loses_by : (configuration : Configuration) (agent : ℕ) (schedule : List ℕ)
      → turns_in two blank schedule ≡ configuration
      → IsComing configuration agent → SolvesFor two → LosesOne two
  loses_by configuration agent schedule same it solves =
      let scene : Scene = under two schedule in
      let is : configuration ≡ configuration_of two scene = sym same ∙ sym (configurations_follow two schedule) in
      let here : IsComing (configuration_of two scene) agent = subst (λ (p : Configuration). IsComing p agent) is it in
      let gone : IsLostIn agent (turn two scene agent) = destroyed scene agent (always_open schedule) here in
      let first : List ℕ = schedule ++ agent ∷ [] in
      let there : under two first ≡ turn two scene agent = turns_append two opening schedule (agent ∷ []) in
      let more = solves.rests first in
      let whole : List ℕ = first ++ more.0 in
      let to_end : under two whole ≡ turns two (under two first) more.0 = turns_append two opening first more.0 in
      let at_end : IsLostIn agent (under two whole) =
      subst (IsLostIn agent) (sym to_end)
      (kept_by_turns two (IsLostIn agent) (under two first) more.0 (lost_stays agent)
      (subst (IsLostIn agent) (sym there) gone)) in
      let marks : ℕ → Bool = lost two.world (under two whole).events in
      let some : 0 < number_of marks (range_with_len 0 world.agents) =
      some_counted marks 0 world.agents agent (omega arith) (omega (arith, is_agent configuration agent it.delivers))
      at_end in
      let number : number_of marks (range_with_len 0 world.agents) ≡ count_by marks (range_with_len 0 world.agents) =
      number_is marks (range_with_len 0 world.agents) in
      let counted : (verdict two (under two whole)).lost ≡ count_by marks (range_with_len 0 world.agents) =
      ap (λ (v : Verdict). v.lost) (verdict_is two (under two whole)) in
      record { schedule = whole; rest = more.1; lost = omega (arith, some, number, counted) }

  -- ---- where another node is the black hole, it is reached

  loses : node < world.net.nodes → node ≢ world.home → hole ≢ node → SolvesFor one → SolvesFor two → LosesOne two
  loses below not_home apart solves solves_too =
      let more = solves.rests [] in
      let schedule : List ℕ = more.0 in
      let follows : configuration_of one (under one schedule)
      ≡ turns_in one blank schedule = configurations_follow one schedule in
      let solved : outcome_in one.world (turns_in one blank schedule) ≡ Solved =
      ap (outcome_in one.world) (sym follows)
      ∙ sym (ap (λ (v : Verdict). v.outcome) (verdict_is one (under one schedule)))
      ∙ (solves.solves schedule more.1).outcome in
      by_cases ((turns_in one blank schedule).reached node) (LosesOne two)
      (λ yes.
      let turn_is : IsFirstTurn blank = first_turn schedule blank refl yes in
      let configuration : Configuration = turns_in one blank turn_is.schedule in
      let coming : IsComing configuration turn_is.agent =
      coming_by configuration turn_is.agent (deed_in one configuration turn_is.agent)
      (own_in one configuration turn_is.agent) refl
      turn_is.never turn_is.comes in
      let run : IsSameRun world held wakeups strategies hole node blank turn_is.schedule =
      same_run world held wakeups strategies hole node turn_is.schedule blank turn_is.never in
      loses_by configuration turn_is.agent run.other run.same coming solves_too)
      (λ never.
      absurd (unreached_unsolved world hole node (turns_in one blank schedule) below not_home apart never solved))

pub each_black_hole_destroys : EachBlackHoleDestroys
each_black_hole_destroys world held wakeups strategies three solves hole below not_home =
    let other : IsThird world.home hole = third world.home hole in
    loses world held wakeups strategies other.it hole below not_home other.second
    (solves other.it (omega (arith, other.small, three)) other.first) (solves hole below not_home)

pub a_loss_is_needed : ALossIsNeeded
a_loss_is_needed world held wakeups strategies three solves hole moves below not_home spared =
    let one : LosesOne (searched world held wakeups strategies hole) =
    each_black_hole_destroys world held wakeups strategies three solves hole below not_home in
    let few = (spared one.schedule one.rest).lost in
    omega (arith, one.lost, few)

pub a_loss_is_needed_on_networks : ALossIsNeededOnNetworks
a_loss_is_needed_on_networks net setup held wakeups strategies is solves hole below not_home =
    each_black_hole_destroys (world_of net setup) held wakeups strategies is.labelled.few solves hole below not_home

-- ---- the search by halves is such a team

pub the_halves_solve_everywhere : TheHalvesSolveEverywhere
the_halves_solve_everywhere net setup first wakeups is room enough hole below not_home =
    let n : ℕ = nodes_of net in
    let here : Setup = record setup { holes = hole ∷ []; dark = [] } in
    let solved : IsSolved (halves_trial (world_of net here) wakeups n) (halves_bounds n) =
    halves_solve_all_rings net here hole wakeups (record {
      network = is.network;
      two = is.two;
      home = is.home;
      within = below;
      not_home = not_home;
      holes = refl;
      dark = refl;
      agents = is.agents;
    }) room enough in
    record { moves = most_moves n; lost = 1; solves = solved.solves; rests = solved.rests }
