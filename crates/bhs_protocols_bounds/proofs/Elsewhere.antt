-- Non-interference: an agent elsewhere changes nothing that an agent on a link can observe, neither its position nor
-- its history, nor the zone's whiteboards, while the former stands at no node of the zone.
use Rattle.std.proofs.Common.{ℕ, zero, suc, ◌≤◌, ◌≡◌, Bool, true, false, Option, Some, List, refl, sym, ap, ◌∙◌, ◌==◌}
use Rattle.std.proofs.Common.{subst, if◌then◌else◌, nat_lt, inl, inr, arith}
use Rattle.std.proofs.lemmas.Bool.{true≢false, cond-true, cond-false}
use Rattle.std.proofs.lemmas.Bool.Decides.{eqb_tells}
use Rattle.bhs_model.specs.declared.commands.Command.{Command}
use Rattle.bhs_model.specs.declared.commands.Command.TheVariants.{Enter, Write, Depart, Accuse, Leave}
use Rattle.bhs_model.specs.declared.events.Event.TheVariants.{Tell, Deliver, Close}
use Rattle.bhs_model.specs.Replying.{swapped}
use Rattle.bhs_model.specs.Worlds.{World}
use Rattle.bhs_model.specs.Draws.{Held}
use Rattle.bhs_model.specs.Runs.{Position, Before, At, Bound, After, changed, position_after}
use Rattle.bhs_model.proofs.StepLemmas.{by_cases, changed_same, changed_other}
use Rattle.bhs_model.proofs.LegalLemmas.{either}
use Rattle.bhs_schedules.specs.Strategies.{Strategies}
use Rattle.bhs_schedules.specs.Schedules.{Trial, Action, Makes, Wakes, Rests}
use Rattle.bhs_schedules.proofs.Turns.{IsOwn}
use Rattle.bhs_protocols.specs.Configurations.{Configuration, deed_in, done_in, turn_in, is_heard, told_at, refused_in}
use Rattle.bhs_protocols.specs.Configurations.{said_in, delivered_in, shown_after, faces_alike}
use Rattle.bhs_protocols.proofs.LastWordLemmas.{own_in}
use Rattle.bhs_protocols_bounds.proofs.Holeless.{free}
use Rattle.bhs_protocols_bounds.proofs.Places.{runs}

-- The agent's position and history and the whiteboards of the zone are unchanged.
pub record LooksAlike (zone : ℕ → Bool) (agent : ℕ) (old new : Configuration) : Type 0 where
  pub position : new.position agent ≡ old.position agent
  pub history : new.history agent ≡ old.history agent
  pub woken : new.woken agent ≡ old.woken agent
  pub used : new.used agent ≡ old.used agent
  pub shown : (node : ℕ) → zone node ≡ true → new.shown node ≡ old.shown node

pub looks_alike : (zone : ℕ → Bool) (agent : ℕ) (configuration : Configuration)
    → LooksAlike zone agent configuration configuration
looks_alike zone agent configuration = record {
  position = refl;
  history = refl;
  woken = refl;
  used = refl;
  shown = λ node there. refl;
}

looks_on : (zone : ℕ → Bool) (agent : ℕ) (one two three : Configuration) → LooksAlike zone agent one two
    → LooksAlike zone agent two three → LooksAlike zone agent one three
looks_on zone agent one two three first second = record {
  position = second.position ∙ first.position;
  history = second.history ∙ first.history;
  woken = second.woken ∙ first.woken;
  used = second.used ∙ first.used;
  shown = λ node there. second.shown node there ∙ first.shown node there;
}

-- texts that are the same in a zone
abbrev pub ShowAlike : (zone : ℕ → Bool) → (old new : ℕ → List ℕ) → Type 0
ShowAlike zone old new = (node : ℕ) → zone node ≡ true → new node ≡ old node

-- The agent has entered; if it stands at a node, that node belongs to the zone.
abbrev pub IsIn : (zone : ℕ → Bool) → Position → Type 0
IsIn zone Before = ⊥
IsIn zone (At node came) = zone node ≡ true
IsIn zone (Bound node port) = Unit {0}
IsIn zone After = Unit {0}

-- it stands at no node of the zone
abbrev pub IsOut : (zone : ℕ → Bool) → Position → Type 0
IsOut zone (At node came) = zone node ≡ false
IsOut zone position = Unit {0}

abbrev pub HasEntered : Position → Type 0
HasEntered Before = ⊥
HasEntered position = Unit {0}

abbrev pub StandsIn : (zone : ℕ → Bool) → (there : Bool) → Position → Type 0
StandsIn zone there position = (node : ℕ) (came : Option ℕ) → position ≡ At node came → zone node ≡ there

pub is_in : (zone : ℕ → Bool) (position : Position) → HasEntered position → StandsIn zone true position
    → IsIn zone position
is_in zone Before entered stands = absurd entered
is_in zone (At node came) entered stands = stands node came refl
is_in zone (Bound node port) entered stands = tt
is_in zone After entered stands = tt

pub is_out : (zone : ℕ → Bool) (position : Position) → StandsIn zone false position → IsOut zone position
is_out zone Before stands = tt
is_out zone (At node came) stands = stands node came refl
is_out zone (Bound node port) stands = tt
is_out zone After stands = tt

pub changed_alike : {A : Type 0} (f g : ℕ → A) (k : ℕ) (x y : A) → x ≡ y → changed f k x k ≡ changed g k y k
changed_alike f g k x y same = changed_same f k x ∙ same ∙ sym (changed_same g k y)

pub after_entered : (world : World) (place : Position) (command : Command) → HasEntered place
    → HasEntered (position_after world place command)
after_entered world place Enter entered = tt
after_entered world place Leave entered = tt
after_entered world (At node came) (Depart port) entered =
    either HasEntered (nat_lt port (world.net.degree node)) (Bound node port) (At node came) tt tt
after_entered world (At node came) (Accuse port) entered =
    either HasEntered (nat_lt port (world.net.degree node)) After (At node came) tt tt
after_entered world place command entered = entered

-- ---- the agent that stands elsewhere

shown_outside : (zone : ℕ → Bool) (limit : ℕ) (shown : ℕ → List ℕ) (place : Position) (command : Command)
    → IsOut zone place → ShowAlike zone shown (shown_after limit shown place command)
shown_outside zone limit shown (At node came) (Write expect put) out v there = elim (eqb_tells v node) [
  | inl h ↦ absurd (true≢false (sym there ∙ ap zone h.1 ∙ out))
  | inr h ↦ changed_other shown node v (swapped limit (shown node) expect put) h.0
]
shown_outside zone limit shown place command out v there = refl

module _ (world : World) (held : Held) (wakeups : ℕ) (strategies : Strategies) (zone : ℕ → Bool) where
  abbrev empty : Trial
  empty = free world held wakeups strategies

  abbrev after : Configuration → (agent count : ℕ) → Configuration
  after configuration agent count = runs world held wakeups strategies configuration agent count

  -- who is on a link faces nothing, so nothing wakes it
  still_asleep : (configuration : Configuration) (other start port : ℕ) (now : Position) (showing : ℕ → List ℕ)
      → configuration.position other ≡ Bound start port → now ≡ configuration.position other →
      (if faces_alike world (configuration.position other) configuration.shown now showing
      then configuration.woken other else 0) ≡ configuration.woken other
  still_asleep configuration other start port now showing on same i =
      if faces_alike world (on i) configuration.shown ((same ∙ on) i) showing then configuration.woken other else 0

  module _ (one other : ℕ) (apart : (other == one) ≡ false) where
    said_elsewhere : (configuration : Configuration) (command : Command) (start port : ℕ)
        → configuration.position other ≡ Bound start port → IsOut zone (configuration.position one)
        → LooksAlike zone other configuration (said_in world configuration one command)
    said_elsewhere configuration command start port on out =
        let place : Position = configuration.position one in
        let now : Position = position_after world place command in
        let told : Configuration = told_at world configuration one place command in
        let refused : Configuration = refused_in configuration one command in
        by_cases (is_heard world configuration one command)
        (LooksAlike zone other configuration (said_in world configuration one command))
        (λ yes. subst (LooksAlike zone other configuration) (sym (cond-true _ told refused yes)) (record {
          position = changed_other configuration.position one other now apart;
          history = changed_other configuration.history one other _ apart;
          woken = still_asleep configuration other start port (changed configuration.position one now other)
              (shown_after world.board configuration.shown place command) on
              (changed_other configuration.position one other now apart);
          used = changed_other configuration.used one other _ apart;
          shown = shown_outside zone world.board configuration.shown place command out;
        }))
        (λ deaf. subst (LooksAlike zone other configuration) (sym (cond-false _ told refused deaf)) (record {
          position = refl;
          history = changed_other configuration.history one other _ apart;
          woken = refl;
          used = refl;
          shown = λ node there. refl;
        }))

    done_elsewhere : (configuration : Configuration) (it : Action) (start port : ℕ) → IsOwn one it
        → configuration.position other ≡ Bound start port → IsOut zone (configuration.position one)
        → LooksAlike zone other configuration (done_in empty configuration one it)
    done_elsewhere configuration (Makes (Tell k command)) start port own on out =
        subst (λ (j : ℕ). LooksAlike zone other configuration (said_in world configuration j command)) (sym own)
        (said_elsewhere configuration command start port on out)
    done_elsewhere configuration (Makes (Deliver k)) start port own on out =
        subst (λ (j : ℕ). LooksAlike zone other configuration
        (delivered_in empty.world configuration j (configuration.position j))) (sym own)
        (by_place (configuration.position one))
      where
        by_place : (position : Position)
            → LooksAlike zone other configuration (delivered_in empty.world configuration one position)
        by_place (Bound from by) =
            let target : ℕ = (world.net.far from by).0 in
            let now : Position = At target (Some (world.net.far from by).1) in
            record {
              position = changed_other configuration.position one other now apart;
              history = changed_other configuration.history one other _ apart;
              woken = still_asleep configuration other start port (changed configuration.position one now other)
                  configuration.shown on (changed_other configuration.position one other now apart);
              used = refl;
              shown = λ node there. refl;
            }
        by_place Before = looks_alike zone other configuration
        by_place (At place came) = looks_alike zone other configuration
        by_place After = looks_alike zone other configuration
    done_elsewhere configuration (Makes Close) start port own on out = looks_alike zone other configuration
    done_elsewhere configuration Wakes start port own on out = record {
      position = refl;
      history = changed_other configuration.history one other _ apart;
      woken = changed_other configuration.woken one other _ apart;
      used = refl;
      shown = λ node there. refl;
    }
    done_elsewhere configuration Rests start port own on out = looks_alike zone other configuration

    -- after any number of its turns the agent on the link can tell no difference
    pub run_elsewhere : (count : ℕ) (configuration : Configuration) (start port : ℕ)
        → configuration.position other ≡ Bound start port
        → ((i : ℕ) → i ≤ count → IsOut zone ((after configuration one i).position one))
        → LooksAlike zone other configuration (after configuration one count)
    run_elsewhere zero configuration start port on out = looks_alike zone other configuration
    run_elsewhere (suc count) configuration start port on out =
        let next : Configuration = turn_in empty configuration one in
        let first : LooksAlike zone other configuration next =
        done_elsewhere configuration (deed_in empty configuration one) start port (own_in empty configuration one) on
        (out 0 (omega arith)) in
        let rest : LooksAlike zone other next (after next one count) =
        run_elsewhere count next start port (first.position ∙ on) (λ i least. out (suc i) (omega (arith, least))) in
        looks_on zone other configuration next (after next one count) first rest
