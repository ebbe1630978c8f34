-- Invariant of positions: each agent stands at a safe node of the network, or travels on a link from a safe node.
use Rattle.std.proofs.Common.{ℕ, ◌<◌, ◌≡◌, ◌⊎◌, Bool, true, false, List, [], ◌∷◌, refl, sym, ap, ◌∙◌, subst, inl, inr}
use Rattle.std.proofs.Common.{nat_lt, Some}
use Rattle.std.proofs.lemmas.Bool.{cond-true, cond-false, ltb-true}
use Rattle.std.proofs.lemmas.Bool.Decides.{eqb_tells}
use Rattle.bhs_model.specs.declared.commands.Command.{Command}
use Rattle.bhs_model.specs.declared.commands.Command.TheVariants.{Enter, Depart, Accuse, Leave}
use Rattle.bhs_model.specs.declared.events.Event.TheVariants.{Tell, Deliver, Close}
use Rattle.bhs_model.specs.Worlds.{World}
use Rattle.bhs_model.specs.Draws.{Held}
use Rattle.bhs_model.specs.Runs.{Position, Before, At, Bound, After, changed, position_after}
use Rattle.bhs_model.proofs.StepLemmas.{by_cases, changed_same, changed_other}
use Rattle.bhs_schedules.specs.Strategies.{Strategies}
use Rattle.bhs_schedules.specs.Schedules.{Trial, Action, Makes, Wakes, Rests}
use Rattle.bhs_protocols.specs.Configurations.{Configuration, blank, deed_in, is_heard, told_at, refused_in, said_in}
use Rattle.bhs_protocols.specs.Configurations.{done_in, turn_in, delivered_in, turns_in}
use Rattle.bhs_protocols_bounds.proofs.Holeless.{free, IsReachable}

-- no link leads out of the network
pub record IsNet (world : World) : Type 0 where
  pub home : world.home < world.net.nodes
  pub within : (node port : ℕ) → node < world.net.nodes → port < world.net.degree node
      → (world.net.far node port).0 < world.net.nodes

abbrev pub IsPlacedAt : World → (reached : ℕ → Bool) → Position → Type 0
IsPlacedAt world reached Before = Unit {0}
IsPlacedAt world reached (At node came) =
    (node < world.net.nodes) × ((node ≡ world.home) ⊎ (reached node ≡ true))
IsPlacedAt world reached (Bound node port) =
    (node < world.net.nodes) × ((node ≡ world.home) ⊎ (reached node ≡ true)) × (port < world.net.degree node)
IsPlacedAt world reached After = Unit {0}

pub record ArePlaced (world : World) (configuration : Configuration) : Type 0 where
  pub each : (agent : ℕ) → IsPlacedAt world configuration.reached (configuration.position agent)

placed_later : (world : World) (old new : ℕ → Bool) → ((node : ℕ) → old node ≡ true → new node ≡ true)
    → (position : Position) → IsPlacedAt world old position → IsPlacedAt world new position
placed_later world old new more Before it = tt
placed_later world old new more (At node came) it = (it.0, safe_later it.1)
  where
    safe_later : (node ≡ world.home) ⊎ (old node ≡ true) → (node ≡ world.home) ⊎ (new node ≡ true)
    safe_later safe = elim safe [
      | inl h ↦ inl h
      | inr h ↦ inr (more node h)
    ]
placed_later world old new more (Bound node port) it = (it.0, safe_later it.1, it.2)
  where
    safe_later : (node ≡ world.home) ⊎ (old node ≡ true) → (node ≡ world.home) ⊎ (new node ≡ true)
    safe_later safe = elim safe [
      | inl h ↦ inl h
      | inr h ↦ inr (more node h)
    ]
placed_later world old new more After it = tt

told_placed : (world : World) → IsNet world → (reached : ℕ → Bool) (place : Position) (command : Command)
    → IsPlacedAt world reached place → IsPlacedAt world reached (position_after world place command)
told_placed world net reached place Enter it = (net.home, inl refl)
told_placed world net reached place Leave it = tt
told_placed world net reached (At node came) (Depart port) it =
    by_cases (nat_lt port (world.net.degree node))
    (IsPlacedAt world reached (position_after world (At node came) (Depart port)))
    (λ (yes : nat_lt port (world.net.degree node) ≡ true).
    rw yes (it.0, it.1, ltb-true port (world.net.degree node) yes))
    (λ (none : nat_lt port (world.net.degree node) ≡ false). rw none it)
told_placed world net reached (At node came) (Accuse port) it =
    by_cases (nat_lt port (world.net.degree node))
    (IsPlacedAt world reached (position_after world (At node came) (Accuse port)))
    (λ (yes : nat_lt port (world.net.degree node) ≡ true). rw yes tt)
    (λ (none : nat_lt port (world.net.degree node) ≡ false). rw none it)
told_placed world net reached place command it = it

module _ (world : World) (held : Held) (wakeups : ℕ) (strategies : Strategies) (net : IsNet world) where
  abbrev empty : Trial
  empty = free world held wakeups strategies

  -- An agent that stays where it was keeps the invariant while the reached nodes stay reached.
  moved : (reached : ℕ → Bool) (position : ℕ → Position) (agent : ℕ) (now : Position)
      → ((k : ℕ) → IsPlacedAt world reached (position k)) → IsPlacedAt world reached now → (k : ℕ)
      → IsPlacedAt world reached (changed position agent now k)
  moved reached position agent now each it k = elim (eqb_tells k agent) [
    | inl h ↦ subst (IsPlacedAt world reached)
        (sym (ap (changed position agent now) h.1 ∙ changed_same position agent now)) it
    | inr h ↦ subst (IsPlacedAt world reached) (sym (changed_other position agent k now h.0)) (each k)
  ]

  done_placed : (configuration : Configuration) (agent : ℕ) (it : Action) → ArePlaced world configuration
      → ArePlaced world (done_in empty configuration agent it)
  done_placed configuration agent (Makes (Tell other command)) placed =
      by_cases (is_heard world configuration other command)
      (ArePlaced world (said_in empty.world configuration other command))
      (λ yes. subst (ArePlaced world) (sym (cond-true _ (told_at empty.world configuration other
      (configuration.position other)
      command) (refused_in configuration other command) yes)) (record {
        each = moved configuration.reached configuration.position other
            (position_after world (configuration.position other) command) placed.each
            (told_placed world net configuration.reached (configuration.position other) command (placed.each other));
      }))
      (λ deaf. subst (ArePlaced world) (sym (cond-false _ (told_at empty.world configuration other
      (configuration.position other) command) (refused_in configuration other command) deaf))
      (record { each = placed.each }))
  done_placed configuration agent (Makes (Deliver other)) placed =
      by_place (configuration.position other) (placed.each other)
    where
      by_place : (position : Position) → IsPlacedAt world configuration.reached position
          → ArePlaced world (delivered_in empty.world configuration other position)
      by_place (Bound start port) it =
          let target : ℕ = (world.net.far start port).0 in
          let now : ℕ → Bool = changed configuration.reached target true in
          record {
            each = moved now configuration.position other (At target (Some (world.net.far start port).1))
                (λ k. placed_later world configuration.reached now (kept target) (configuration.position k)
                (placed.each k))
                (net.within start port it.0 it.2, inr (changed_same configuration.reached target true));
          }
        where
          kept : (target node : ℕ) → configuration.reached node ≡ true
              → changed configuration.reached target true node ≡ true
          kept target node was = elim (eqb_tells node target) [
            | inl h ↦ ap (changed configuration.reached target true) h.1
                ∙ changed_same configuration.reached target true
            | inr h ↦ changed_other configuration.reached target node true h.0 ∙ was
          ]
      by_place Before it = record { each = placed.each }
      by_place (At place came) it = record { each = placed.each }
      by_place After it = record { each = placed.each }
  done_placed configuration agent (Makes Close) placed = placed
  done_placed configuration agent Wakes placed = record { each = placed.each }
  done_placed configuration agent Rests placed = placed

  pub turn_placed : (configuration : Configuration) (agent : ℕ) → ArePlaced world configuration
      → ArePlaced world (turn_in empty configuration agent)
  turn_placed configuration agent placed = done_placed configuration agent (deed_in empty configuration agent) placed

  pub turns_placed : (schedule : List ℕ) (configuration : Configuration) → ArePlaced world configuration
      → ArePlaced world (turns_in empty configuration schedule)
  turns_placed [] configuration placed = placed
  turns_placed (agent ∷ schedule) configuration placed =
      turns_placed schedule (turn_in empty configuration agent) (turn_placed configuration agent placed)

  pub reachable_placed : (configuration : Configuration) → IsReachable world held wakeups strategies configuration
      → ArePlaced world configuration
  reachable_placed configuration it =
      subst (ArePlaced world) it.leads (turns_placed it.schedule blank (record { each = λ agent. tt }))
