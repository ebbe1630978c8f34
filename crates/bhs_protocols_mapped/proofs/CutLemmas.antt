-- No agent passes a black hole that cuts a network in two, and so none finds it.
use Rattle.std.proofs.Common.{ℕ, ◌<◌, ◌≡◌, ◌⊎◌, true, false, List, [], ◌∷◌, refl, sym, ap, ◌∙◌, subst, nat_lt, inl, inr}
use Rattle.std.specs.Prelude.{◌≢◌}
use Rattle.std.proofs.lemmas.Bool.{ltb-true, true≢false, eq-eqb, cond-true, cond-false}
use Rattle.std.proofs.lemmas.Bool.Decides.{eqb_tells}
use Rattle.bhs_net.specs.Paths.{IsPath, Without}
use Rattle.bhs_net.specs.Network.{Network, IsPortLabelled, Leads, nodes_of, degree_of, far_of}
use Rattle.bhs_net.specs.Search.{IsCutIn}
use Rattle.bhs_net.proofs.Walks as walks
use Rattle.bhs_model.specs.declared.commands.Command.{Command}
use Rattle.bhs_model.specs.declared.commands.Command.TheVariants.{Enter, Depart, Accuse, Leave}
use Rattle.bhs_model.specs.declared.events.Event.TheVariants.{Tell, Deliver, Close}
use Rattle.bhs_model.specs.declared.setups.Setup.{Setup}
use Rattle.bhs_model.specs.Setups.{world_of}
use Rattle.bhs_model.specs.Worlds.{doomed}
use Rattle.bhs_model.specs.Draws.{Held}
use Rattle.bhs_model.specs.Runs.{Position, Before, At, Bound, After, changed, position_after}
use Rattle.bhs_model.proofs.StepLemmas.{by_cases}
use Rattle.bhs_referee.specs.declared.verdicts.Outcome.TheVariants.{Solved}
use Rattle.bhs_referee.specs.declared.verdicts.Verdict.{Verdict}
use Rattle.bhs_schedules.specs.Strategies.{Strategies}
use Rattle.bhs_schedules.specs.Schedules.{Trial, under, Action, Makes, Wakes, Rests}
use Rattle.bhs_schedules.proofs.Turns.{verdict_is}
use Rattle.bhs_protocols.specs.Configurations.{Configuration, blank, deed_in, is_heard, told_at, refused_in, arrived_in}
use Rattle.bhs_protocols.specs.Configurations.{said_in, delivered_in, done_in, turn_in, turns_in, outcome_in}
use Rattle.bhs_protocols.specs.LastWord.{searched, FindsFor, Finds}
use Rattle.bhs_protocols.proofs.ConfigurationLemmas.{configurations_follow}
use Rattle.bhs_protocols.proofs.LastWordLemmas as last_word
use Rattle.bhs_protocols.proofs.FindsLemmas.{never_accused}
use Rattle.bhs_protocols.proofs.AloneLemmas.{unreached_unsolved}
use Rattle.bhs_protocols_mapped.specs.Cuts.{NoTeamPassesACut, NoTeamLooksBehindACut}

module _ (net : Network) (setup : Setup) (held : Held) (wakeups : ℕ) (strategies : Strategies) (cut : ℕ)
    (labelled : IsPortLabelled net) (apart : setup.home ≢ cut) where
  abbrev trial : Trial
  trial = searched (world_of net setup) held wakeups strategies cut

  abbrev Step : ℕ → ℕ → Type 0
  Step = Without cut (Leads net)

  -- a path leads from the home base to this node that keeps off the black hole
  abbrev IsNear : ℕ → Type 0
  IsNear node = (node ≢ cut) × IsPath Step setup.home node

  near_home : IsNear setup.home
  near_home = (apart, walks.IsPath-none Step setup.home)

  -- ---- agents stay on such nodes and their links

  abbrev IsInsideAt : Position → Type 0
  IsInsideAt Before = Unit
  IsInsideAt (At node came) = IsNear node
  IsInsideAt (Bound node port) = IsNear node × (port < degree_of net node)
  IsInsideAt After = Unit

  record IsInside (configuration : Configuration) : Type 0 where
    places : (agent : ℕ) → IsInsideAt (configuration.position agent)
    reached : (node : ℕ) → configuration.reached node ≡ true → IsNear node

  moved : (position : Position) (command : Command) → IsInsideAt position
      → IsInsideAt (position_after trial.world position command)
  moved position Enter inside = near_home
  moved position Leave inside = tt
  moved (At node came) (Depart port) inside =
      by_cases (nat_lt port (degree_of net node)) (IsInsideAt (position_after trial.world (At node came) (Depart port)))
      (λ yes. subst IsInsideAt (sym (cond-true _ (Bound node port) (At node came) yes))
      (inside, ltb-true port (degree_of net node) yes))
      (λ none. subst IsInsideAt (sym (cond-false _ (Bound node port) (At node came) none)) inside)
  moved (At node came) (Accuse port) inside =
      by_cases (nat_lt port (degree_of net node)) (IsInsideAt (position_after trial.world (At node came) (Accuse port)))
      (λ yes. subst IsInsideAt (sym (cond-true _ After (At node came) yes)) tt)
      (λ none. subst IsInsideAt (sym (cond-false _ After (At node came) none)) inside)
  moved position command inside = inside

  changed_inside : (position : ℕ → Position) (agent : ℕ) (place : Position)
      → ((k : ℕ) → IsInsideAt (position k)) → IsInsideAt place → (k : ℕ) → IsInsideAt (changed position agent place k)
  changed_inside position agent place all inside k = elim (eqb_tells k agent) [
    | inl h ↦ rw h.0 inside
    | inr h ↦ rw h.0 (all k)
  ]

  told_inside : (configuration : Configuration) (agent : ℕ) (command : Command) → IsInside configuration
      → IsInside (said_in trial.world configuration agent command)
  told_inside configuration agent command is = by_cases (is_heard trial.world configuration agent command)
      (IsInside (said_in trial.world configuration agent command))
      (λ yes. subst IsInside (sym (cond-true _ (told_at trial.world configuration agent
      (configuration.position agent) command)
      (refused_in configuration agent command) yes)) (record {
        places = changed_inside configuration.position agent _ is.places
            (moved (configuration.position agent) command (is.places agent));
        reached = is.reached;
      }))
      (λ none. subst IsInside (sym (cond-false _ (told_at trial.world configuration agent
      (configuration.position agent) command)
      (refused_in configuration agent command) none)) (record { places = is.places; reached = is.reached }))

  -- who arrives has gone a link that leads to another node than the black hole
  arrival : (node port : ℕ) → IsNear node → port < degree_of net node → doomed trial.world node port ≡ false
      → IsNear (far_of net node port).0
  arrival node port near has safe =
      let target : ℕ = (far_of net node port).0 in
      let off : target ≢ cut = λ same. true≢false (sym (eq-eqb cut target (sym same))
      ∙ sym (last_word.doomed_is (world_of net setup) held wakeups strategies cut target cut node port) ∙ safe) in
      (off, walks.IsPath-more Step setup.home node target near.1 ((port, has, refl), near.0, off))

  delivered_inside : (configuration : Configuration) (agent : ℕ) (position : Position) → IsInsideAt position
      → IsInside configuration
      → IsInside (delivered_in trial.world configuration agent position)
  delivered_inside configuration agent (Bound node port) inside is =
      let target : ℕ = (far_of net node port).0 in
      let new : Configuration = arrived_in trial.world configuration agent target (far_of net node port).1 in
      by_cases (doomed trial.world node port) (IsInside (delivered_in trial.world configuration agent
      (Bound node port)))
      (λ yes. subst IsInside (sym (cond-true _ configuration new yes)) is)
      (λ none.
      let near : IsNear target = arrival node port inside.0 inside.1 none in
      subst IsInside (sym (cond-false _ configuration new none)) (record {
        places = changed_inside configuration.position agent _ is.places near;
        reached = λ k was. elim (eqb_tells k target) [
          | inl h ↦ subst IsNear (sym h.1) near
          | inr h ↦ is.reached k (rw h.0 at was)
        ];
      }))
  delivered_inside configuration agent Before inside is = is
  delivered_inside configuration agent (At node came) inside is = is
  delivered_inside configuration agent After inside is = is

  done_inside : (configuration : Configuration) (agent : ℕ) (deed : Action) → IsInside configuration
      → IsInside (done_in trial configuration agent deed)
  done_inside configuration agent (Makes (Tell other command)) is = told_inside configuration other command is
  done_inside configuration agent (Makes (Deliver other)) is =
      delivered_inside configuration other (configuration.position other) (is.places other) is
  done_inside configuration agent (Makes Close) is = is
  done_inside configuration agent Wakes is = record { places = is.places; reached = is.reached }
  done_inside configuration agent Rests is = is

  always_inside : (configuration : Configuration) (schedule : List ℕ) → IsInside configuration
      → IsInside (turns_in trial configuration schedule)
  always_inside configuration [] is = is
  always_inside configuration (agent ∷ schedule) is = always_inside (turn_in trial configuration agent) schedule
      (done_inside configuration agent (deed_in trial configuration agent) is)

  inside : (schedule : List ℕ) → IsInside (turns_in trial blank schedule)
  inside schedule = always_inside blank schedule (record {
    places = λ agent. tt;
    reached = λ node was. absurd (true≢false (sym was));
  })

  -- ---- the agents leave some node unreached

  -- a node that is neither the home base nor the black hole, and was not reached
  record IsHidden (configuration : Configuration) : Type 0 where
    node : ℕ
    below : node < nodes_of net
    off : node ≢ cut
    not_home : node ≢ setup.home
    never : configuration.reached node ≡ false

  near_or : (configuration : Configuration) → IsInside configuration → (node : ℕ) → node < nodes_of net → node ≢ cut
      → IsPath Step setup.home node ⊎ IsHidden configuration
  near_or configuration is node below off = elim (eqb_tells node setup.home) [
    | inl h ↦ inl (subst (λ (k : ℕ). IsPath Step setup.home k) (sym h.1) near_home.1)
    | inr h ↦ by_cases (configuration.reached node) (IsPath Step setup.home node ⊎ IsHidden configuration)
        (λ yes. inl (is.reached node yes).1)
        (λ none. inr (record { node = node; below = below; off = off; not_home = h.1; never = none }))
  ]

  hidden : IsCutIn net cut → (configuration : Configuration) → IsInside configuration → IsHidden configuration
  hidden is configuration all =
      let two = is.1 in
      elim (near_or configuration all two.0 two.2 two.4) [
        | inr h ↦ h
        | inl one ↦ elim (near_or configuration all two.1 two.3 two.5) [
          | inr h ↦ h
          | inl other ↦ absurd (two.6 (walks.joined net labelled cut setup.home two.0 two.1 one other))
        ]
      ]

  -- A match whose agents stay on one side of a cut node is not solved.
  never_solved : IsCutIn net cut → (configuration : Configuration) → IsInside configuration
      → outcome_in trial.world configuration ≢ Solved
  never_solved is configuration all =
      let it : IsHidden configuration = hidden is configuration all in
      unreached_unsolved (world_of net setup) cut it.node configuration it.below it.not_home
      (λ same. it.off (sym same)) it.never

  -- and an accusation would be right with another black hole too
  never_found : IsCutIn net cut → Finds (world_of net setup) held wakeups strategies → ⊥
  never_found is finds =
      let here : FindsFor trial cut = finds cut is.0 (λ same. apart (sym same)) in
      let said = here.accuses [] in
      let it : IsHidden (turns_in trial blank said.0) = hidden is (turns_in trial blank said.0) (inside said.0) in
      never_accused (world_of net setup) held wakeups strategies cut it.node here
      (finds it.node it.below it.not_home) it.off said.0 said.1 it.never

pub no_team_passes_a_cut : NoTeamPassesACut
no_team_passes_a_cut net setup held wakeups strategies cut labelled here apart is schedule solved =
    let it : Trial = searched (world_of net setup) held wakeups strategies cut in
    never_solved net setup held wakeups strategies cut labelled apart is (turns_in it blank schedule)
    (inside net setup held wakeups strategies cut labelled apart schedule)
    (ap (outcome_in it.world) (sym (configurations_follow it schedule))
    ∙ sym (ap (λ (v : Verdict). v.outcome) (verdict_is it (under it schedule))) ∙ solved)

pub no_team_looks_behind_a_cut : NoTeamLooksBehindACut
no_team_looks_behind_a_cut net setup held wakeups strategies cut labelled here apart is finds =
    never_found net setup held wakeups strategies cut labelled apart is finds
