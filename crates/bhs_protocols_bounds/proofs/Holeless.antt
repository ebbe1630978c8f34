-- The match without a black hole, an auxiliary construction. While a node is unreached in that match, the match with
-- the black hole at this node behaves the same; conversely every run with a black hole is a run without one.
use Rattle.std.proofs.Common.{ℕ, ◌≡◌, ◌⊎◌, true, false, List, [], ◌∷◌, ◌++◌, refl, sym, ap, ◌∙◌, inl, inr}
use Rattle.std.proofs.lemmas.Bool.{true≢false, cond-true, cond-false}
use Rattle.std.proofs.lemmas.Bool.Decides.{eqb_tells}
use Rattle.bhs_model.specs.declared.commands.Command.{Command}
use Rattle.bhs_model.specs.declared.events.Event.TheVariants.{Tell, Deliver, Close}
use Rattle.bhs_model.specs.Worlds.{World}
use Rattle.bhs_model.specs.Draws.{Held}
use Rattle.bhs_model.specs.Runs.{Position, Before, At, Bound, After, changed}
use Rattle.bhs_model.proofs.StepLemmas.{by_cases, changed_same, changed_other}
use Rattle.bhs_schedules.specs.Strategies.{Strategies}
use Rattle.bhs_schedules.specs.Schedules.{Trial, Action, Makes, Wakes, Rests}
use Rattle.bhs_protocols.specs.Configurations.{Configuration, blank, deed_in, is_heard, told_at, refused_in, said_in}
use Rattle.bhs_protocols.specs.Configurations.{arrived_in, delivered_in, done_in, turn_in, turns_in}
use Rattle.bhs_protocols.specs.LastWord.{searched}
use Rattle.bhs_protocols.proofs.LastWordLemmas.{doomed_is, reached_later, turns_in_append}

-- an order changes no node that was reached
pub reached_said : (world : World) (configuration : Configuration) (agent : ℕ) (command : Command) (node : ℕ)
    → (said_in world configuration agent command).reached node ≡ configuration.reached node
reached_said world configuration agent command node =
    by_cases (is_heard world configuration agent command)
    ((said_in world configuration agent command).reached node ≡ configuration.reached node)
    (λ yes. ap (λ (p : Configuration). p.reached node) (cond-true _ (told_at world configuration agent
    (configuration.position agent)
    command) (refused_in configuration agent command) yes))
    (λ none. ap (λ (p : Configuration). p.reached node) (cond-false _ (told_at world configuration agent
    (configuration.position agent)
    command) (refused_in configuration agent command) none))

module _ (world : World) (held : Held) (wakeups : ℕ) (strategies : Strategies) where
  -- the match without a black hole
  abbrev pub free : Trial
  free = record {
    world = record world { holes = []; dark = [] };
    held = held;
    wakeups = wakeups;
    strategies = strategies;
  }

  -- the match in which this node is the only black hole
  abbrev pub hidden : (hole : ℕ) → Trial
  hidden hole = searched world held wakeups strategies hole

  -- An action has the same result in both matches and does not reach the node; or it reaches the node in one match and
  -- changes nothing in the other.
  pub record IsAlike (hole : ℕ) (configuration : Configuration) (agent : ℕ) (it : Action) : Type 0 where
    pub either :
        ((done_in (hidden hole) configuration agent it ≡ done_in free configuration agent it)
        × ((done_in free configuration agent it).reached hole ≡ configuration.reached hole))
        ⊎ ((done_in (hidden hole) configuration agent it ≡ configuration)
        × ((done_in free configuration agent it).reached hole ≡ true))

  pub alike_by : (hole : ℕ) (configuration : Configuration) (agent : ℕ) (it : Action)
      → IsAlike hole configuration agent it
  alike_by hole configuration agent (Makes (Tell other command)) = record {
    either = inl (refl, reached_said free.world configuration other command hole);
  }
  alike_by hole configuration agent (Makes (Deliver other)) = record {
    either =
        by_place (configuration.position other);
  }
    where
      by_place : (position : Position) →
          ((delivered_in (hidden hole).world configuration other position
          ≡ delivered_in free.world configuration other position)
          × ((delivered_in free.world configuration other position).reached hole ≡ configuration.reached hole))
          ⊎ ((delivered_in (hidden hole).world configuration other position ≡ configuration)
          × ((delivered_in free.world configuration other position).reached hole ≡ true))
      by_place (Bound start port) =
          let target : ℕ = (world.net.far start port).0 in
          elim (eqb_tells hole target) [
            | inl h ↦ inr (
              cond-true _ configuration (arrived_in world configuration other target (world.net.far start port).1)
                  (doomed_is world held wakeups strategies hole hole hole start port ∙ h.0),
              ap (changed configuration.reached target true) h.1 ∙ changed_same configuration.reached target true,
            )
            | inr h ↦ inl (
              cond-false _ configuration (arrived_in world configuration other target (world.net.far start port).1)
                  (doomed_is world held wakeups strategies hole hole hole start port ∙ h.0),
              changed_other configuration.reached target hole true h.0,
            )
          ]
      by_place Before = inl (refl, refl)
      by_place (At place came) = inl (refl, refl)
      by_place After = inl (refl, refl)
  alike_by hole configuration agent (Makes Close) = record { either = inl (refl, refl) }
  alike_by hole configuration agent Wakes = record { either = inl (refl, refl) }
  alike_by hole configuration agent Rests = record { either = inl (refl, refl) }

  pub turn_alike : (hole : ℕ) (configuration : Configuration) (agent : ℕ) →
      ((turn_in (hidden hole) configuration agent ≡ turn_in free configuration agent)
      × ((turn_in free configuration agent).reached hole ≡ configuration.reached hole))
      ⊎ ((turn_in (hidden hole) configuration agent ≡ configuration)
      × ((turn_in free configuration agent).reached hole ≡ true))
  turn_alike hole configuration agent = (alike_by hole configuration agent (deed_in free configuration agent)).either

  -- ---- what was reached stays reached

  pub never_before : (configuration : Configuration) (schedule : List ℕ) (node : ℕ)
      → (turns_in free configuration schedule).reached node ≡ false → configuration.reached node ≡ false
  never_before configuration schedule node never =
      by_cases (configuration.reached node) (configuration.reached node ≡ false)
      (λ was. absurd (true≢false (sym (reached_later free configuration schedule node was) ∙ never)))
      (λ none. none)

  -- ---- where the node is not reached, the same happens where it is the black hole

  pub turn_left_out : (hole : ℕ) (configuration : Configuration) (agent : ℕ)
      → (turn_in free configuration agent).reached hole ≡ false
      → turn_in (hidden hole) configuration agent ≡ turn_in free configuration agent
  turn_left_out hole configuration agent never =
      let it : IsAlike hole configuration agent (deed_in free configuration agent) =
      alike_by hole configuration agent (deed_in free configuration agent) in
      elim it.either [
        | inl h ↦ h.0
        | inr h ↦ absurd (true≢false (sym h.1 ∙ never))
      ]

  pub left_out : (hole : ℕ) (schedule : List ℕ) (configuration : Configuration)
      → (turns_in free configuration schedule).reached hole ≡ false
      → turns_in (hidden hole) configuration schedule ≡ turns_in free configuration schedule
  left_out hole [] configuration never = refl
  left_out hole (agent ∷ schedule) configuration never =
      ap (λ (p : Configuration). turns_in (hidden hole) p schedule)
      (turn_left_out hole configuration agent (never_before (turn_in free configuration agent) schedule hole never))
      ∙ left_out hole schedule (turn_in free configuration agent) never

  -- ---- simulation: each run with the black hole is a run without one, once its empty turns are removed

  pub record IsPlayed (hole : ℕ) (configuration : Configuration) (schedule : List ℕ) : Type 0 where
    pub other : List ℕ
    pub same : turns_in free configuration other ≡ turns_in (hidden hole) configuration schedule
    pub never : (turns_in (hidden hole) configuration schedule).reached hole ≡ false

  pub played : (hole : ℕ) (schedule : List ℕ) (configuration : Configuration) → configuration.reached hole ≡ false
      → IsPlayed hole configuration schedule
  played hole [] configuration never = record { other = []; same = refl; never = never }
  played hole (agent ∷ schedule) configuration never =
      let it : IsAlike hole configuration agent (deed_in free configuration agent) =
      alike_by hole configuration agent (deed_in free configuration agent) in
      let next : Configuration = turn_in (hidden hole) configuration agent in
      elim it.either [
        | inl h ↦
            let rest : IsPlayed hole next schedule =
            played hole schedule next (ap (λ (p : Configuration). p.reached hole) h.0 ∙ h.1 ∙ never) in
            record {
              other = agent ∷ rest.other;
              same = ap (λ (p : Configuration). turns_in free p rest.other) (sym h.0) ∙ rest.same;
              never = rest.never;
            }
        | inr h ↦
            let rest : IsPlayed hole next schedule =
            played hole schedule next (ap (λ (p : Configuration). p.reached hole) h.0 ∙ never) in
            record {
              other = rest.other;
              same = ap (λ (p : Configuration). turns_in free p rest.other) (sym h.0) ∙ rest.same;
              never = rest.never;
            }
      ]

  -- ---- what schedules lead to

  pub record IsReachable (configuration : Configuration) : Type 0 where
    pub schedule : List ℕ
    pub leads : turns_in free blank schedule ≡ configuration

  pub goes_on : (configuration : Configuration) (schedule : List ℕ) → IsReachable configuration
      → IsReachable (turns_in free configuration schedule)
  goes_on configuration schedule it = record {
    schedule = it.schedule ++ schedule;
    leads = turns_in_append free blank it.schedule schedule
        ∙ ap (λ (p : Configuration). turns_in free p schedule) it.leads;
  }

  -- the same schedule leads there where a node is the black hole that was not reached
  pub leads_hidden : (hole : ℕ) (configuration : Configuration) (it : IsReachable configuration)
      → configuration.reached hole ≡ false
      → turns_in (hidden hole) blank it.schedule ≡ configuration
  leads_hidden hole configuration it never =
      left_out hole it.schedule blank (ap (λ (p : Configuration). p.reached hole) it.leads ∙ never) ∙ it.leads
