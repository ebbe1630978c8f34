-- Two networks differ only in the links of one network's black hole. A turn changes a configuration equally on both,
-- unless its agent is on a link into the black hole; such turns change nothing. A schedule for one network, with these
-- turns struck out, therefore leads to the same result on the other.
use Rattle.std.proofs.Common.{ℕ, ◌<◌, ◌≡◌, Bool, false, ◌||◌, ◌==◌, Option, Some, None, List, [], ◌∷◌}
use Rattle.std.proofs.Common.{refl, sym, ap, ◌∙◌, subst, if◌then◌else◌, nat_lt, inl, inr}
use Rattle.std.specs.Prelude.{◌≢◌}
use Rattle.std.proofs.lemmas.Bool.{cond-true, eq-eqb}
use Rattle.std.proofs.lemmas.Bool.Decides.{eqb_tells}
use Rattle.bhs_model.specs.declared.commands.Command.{Command}
use Rattle.bhs_model.specs.declared.commands.Command.TheVariants.{Enter, Look, Write, Depart, Accuse, Leave, Bad}
use Rattle.bhs_model.specs.Worlds.{World}
use Rattle.bhs_model.specs.Runs.{Position, Before, At, Bound, After}
use Rattle.bhs_model.specs.Examples.{none_held}
use Rattle.bhs_model.proofs.LegalLemmas.{either}
use Rattle.bhs_schedules.specs.declared.answers.Step.{Step}
use Rattle.bhs_schedules.specs.declared.answers.Step.TheVariants.{Says, Sleeps, Stops, Fails}
use Rattle.bhs_schedules.specs.Strategies.{Strategies}
use Rattle.bhs_schedules.specs.Schedules.{Trial, Action, Wakes, Rests, action_at}
use Rattle.bhs_protocols.specs.Configurations.{Configuration, blank, told_at, refused_in, said_in, is_heard}
use Rattle.bhs_protocols.specs.Configurations.{arrived_in, delivered_in, done_in, turn_in, turns_in}
use Rattle.bhs_protocols.specs.LastWord.{SomeoneHasAccused, FindsFor}
use Rattle.bhs_protocols.specs.Sizes.{Limits}
use Rattle.bhs_protocols.proofs.FindsLemmas.{accused_in, accused_if}
use Rattle.bhs_protocols_unmapped.proofs.Alike.{Far, over, Kind, Stays, Enters, Ends, Departs, Arrives, turn_kind}
use Rattle.bhs_protocols_unmapped.proofs.Alike.{IsTurn}

-- not at the black hole, nor on a link from it
abbrev pub IsAway : (hole : ℕ) (degree : ℕ → ℕ) → Position → Type 0
IsAway hole degree Before = Unit {0}
IsAway hole degree (At node came) = node ≢ hole
IsAway hole degree (Bound node port) = (node ≢ hole) × (port < degree node)
IsAway hole degree After = Unit {0}

abbrev node_on : Position → ℕ
node_on Before = 0
node_on After = 0
node_on (At node came) = node
node_on (Bound node port) = node

abbrev port_on : Position → ℕ
port_on Before = 0
port_on After = 0
port_on (At node came) = 0
port_on (Bound node port) = port

-- The two networks agree on all links but those of the black hole.
pub record IsLike (hole : ℕ) (ones twos : ℕ → ℕ) (one two : Far) : Type 0 where
  pub same : (node : ℕ) → node ≢ hole → ones node ≡ twos node
  pub ends : (node port : ℕ) → node ≢ hole → port < ones node → (one node port).0 ≢ hole
      → one node port ≡ two node port

module _ (nodes hole : ℕ) (not_home : 0 ≢ hole) (terms : Limits) (strategies : Strategies) (ones twos : ℕ → ℕ)
    (one two : Far) (like : IsLike hole ones twos one two) where
  abbrev first : Trial
  first = over nodes ones hole terms strategies one

  abbrev second : Trial
  second = over nodes twos hole terms strategies two

  -- a world in which each node has this many links
  abbrev flat : ℕ → World
  flat n = (over nodes (λ node. n) hole terms strategies one).world

  same : (node : ℕ) → node ≢ hole → ones node ≡ twos node
  same = like.same

  told_alike : (configuration : Configuration) (agent : ℕ) (place : Position) (command : Command)
      → ((node : ℕ) (came : Option ℕ) → place ≡ At node came → node ≢ hole)
      → told_at first.world configuration agent place command ≡ told_at second.world configuration agent place command
  told_alike configuration agent Before Enter away =
      ap (λ (n : ℕ). told_at (flat n) configuration agent Before Enter) (same 0 not_home)
  told_alike configuration agent Before Look away =
      ap (λ (n : ℕ). told_at (flat n) configuration agent Before Look) (same 0 not_home)
  told_alike configuration agent Before (Write expect put) away =
      ap (λ (n : ℕ). told_at (flat n) configuration agent Before (Write expect put)) (same 0 not_home)
  told_alike configuration agent Before (Depart port) away =
      ap (λ (n : ℕ). told_at (flat n) configuration agent Before (Depart port)) (same 0 not_home)
  told_alike configuration agent Before (Accuse port) away =
      ap (λ (n : ℕ). told_at (flat n) configuration agent Before (Accuse port)) (same 0 not_home)
  told_alike configuration agent Before Leave away = refl
  told_alike configuration agent Before Bad away =
      ap (λ (n : ℕ). told_at (flat n) configuration agent Before Bad) (same 0 not_home)
  told_alike configuration agent (At node came) Enter away =
      ap (λ (n : ℕ). told_at (flat n) configuration agent (At node came) Enter) (same 0 not_home)
  told_alike configuration agent (At node came) Look away =
      ap (λ (n : ℕ). told_at (flat n) configuration agent (At node came) Look) (same node (away node came refl))
  told_alike configuration agent (At node came) (Write expect put) away = refl
  told_alike configuration agent (At node came) (Depart port) away =
      ap (λ (n : ℕ). told_at (flat n) configuration agent (At node came) (Depart port))
      (same node (away node came refl))
  told_alike configuration agent (At node came) (Accuse port) away =
      ap (λ (n : ℕ). told_at (flat n) configuration agent (At node came) (Accuse port))
      (same node (away node came refl))
  told_alike configuration agent (At node came) Leave away = refl
  told_alike configuration agent (At node came) Bad away = refl
  told_alike configuration agent (Bound from way) Enter away =
      ap (λ (n : ℕ). told_at (flat n) configuration agent (Bound from way) Enter) (same 0 not_home)
  told_alike configuration agent (Bound from way) Look away = refl
  told_alike configuration agent (Bound from way) (Write expect put) away = refl
  told_alike configuration agent (Bound from way) (Depart port) away = refl
  told_alike configuration agent (Bound from way) (Accuse port) away = refl
  told_alike configuration agent (Bound from way) Leave away = refl
  told_alike configuration agent (Bound from way) Bad away = refl
  told_alike configuration agent After Enter away =
      ap (λ (n : ℕ). told_at (flat n) configuration agent After Enter) (same 0 not_home)
  told_alike configuration agent After Look away =
      ap (λ (n : ℕ). told_at (flat n) configuration agent After Look) (same 0 not_home)
  told_alike configuration agent After (Write expect put) away =
      ap (λ (n : ℕ). told_at (flat n) configuration agent After (Write expect put)) (same 0 not_home)
  told_alike configuration agent After (Depart port) away =
      ap (λ (n : ℕ). told_at (flat n) configuration agent After (Depart port)) (same 0 not_home)
  told_alike configuration agent After (Accuse port) away =
      ap (λ (n : ℕ). told_at (flat n) configuration agent After (Accuse port)) (same 0 not_home)
  told_alike configuration agent After Leave away = refl
  told_alike configuration agent After Bad away =
      ap (λ (n : ℕ). told_at (flat n) configuration agent After Bad) (same 0 not_home)

  module _ (configuration : Configuration) (agent : ℕ) (away : IsAway hole ones (configuration.position agent))
      (free : (node port : ℕ) → configuration.position agent ≡ Bound node port → (one node port).0 ≢ hole) where
    said_alike : (command : Command)
        → said_in first.world configuration agent command ≡ said_in second.world configuration agent command
    said_alike command =
        ap (λ (it : Configuration). if is_heard first.world configuration agent command then it
        else refused_in configuration agent command)
        (told_alike configuration agent (configuration.position agent) command
        (λ node came at. subst (IsAway hole ones) at away))

    delivered_alike : (node port : ℕ) → configuration.position agent ≡ Bound node port
        → delivered_in first.world configuration agent (Bound node port)
        ≡ delivered_in second.world configuration agent (Bound node port)
    delivered_alike node port at =
        let real : IsAway hole ones (Bound node port) = subst (IsAway hole ones) at away in
        let end : one node port ≡ two node port = like.ends node port real.0 real.1 (free node port at) in
        ap (λ (e : ℕ × ℕ). if ((hole == e.0) || false) || false then configuration
        else arrived_in first.world configuration agent e.0 e.1) end
        ∙ ap (λ (n : ℕ). if ((hole == (two node port).0) || false) || false then configuration
        else arrived_in (flat n) configuration agent (two node port).0 (two node port).1)
        (same (two node port).0 (subst (λ (e : ℕ × ℕ). e.0 ≢ hole) end (free node port at)))

    deed_alike : (place : Position) (woken : ℕ) (step : Step) → configuration.position agent ≡ place
        → done_in first configuration agent (action_at none_held terms.wakeups place woken step agent)
        ≡ done_in second configuration agent (action_at none_held terms.wakeups place woken step agent)
    deed_alike (Bound node port) woken step at =
        subst (λ (p : Position). delivered_in first.world configuration agent p
        ≡ delivered_in second.world configuration agent p) (sym at) (delivered_alike node port at)
    deed_alike After woken step at = refl
    deed_alike Before woken (Says command) at = said_alike command
    deed_alike Before woken Sleeps at =
        either (λ (d : Action). done_in first configuration agent d ≡ done_in second configuration agent d)
        (nat_lt terms.wakeups woken) Rests Wakes refl refl
    deed_alike Before woken Stops at = refl
    deed_alike Before woken Fails at = refl
    deed_alike (At node came) woken (Says command) at = said_alike command
    deed_alike (At node came) woken Sleeps at =
        either (λ (d : Action). done_in first configuration agent d ≡ done_in second configuration agent d)
        (nat_lt terms.wakeups woken) Rests Wakes refl refl
    deed_alike (At node came) woken Stops at = refl
    deed_alike (At node came) woken Fails at = refl

    pub turn_alike : turn_in first configuration agent ≡ turn_in second configuration agent
    turn_alike = either (λ (d : Action). done_in first configuration agent d ≡ done_in second configuration agent d)
        (nat_lt agent terms.agents)
        (action_at none_held terms.wakeups (configuration.position agent) (configuration.woken agent)
        (strategies agent (configuration.history agent)) agent) Rests
        (deed_alike (configuration.position agent) (configuration.woken agent)
        (strategies agent (configuration.history agent)) refl) refl

  -- who is on a link into the black hole stays there
  module _ (configuration : Configuration) (agent node port : ℕ)
      (at : configuration.position agent ≡ Bound node port) (into : (one node port).0 ≡ hole) where
    lost_deed : (place : Position) (woken : ℕ) (step : Step) → place ≡ Bound node port
        → configuration.position agent ≡ place
        → done_in first configuration agent (action_at none_held terms.wakeups place woken step agent) ≡ configuration
    lost_deed (Bound from way) woken step is here =
        subst (λ (p : Position). delivered_in first.world configuration agent p ≡ configuration) (sym at)
        (cond-true _ configuration (arrived_in first.world configuration agent (one node port).0 (one node port).1)
        (ap (λ (b : Bool). (b || false) || false) (eq-eqb hole (one node port).0 (sym into))))
    lost_deed Before woken step is here = cc
    lost_deed (At from came) woken step is here = cc
    lost_deed After woken step is here = cc

    pub lost_turn : turn_in first configuration agent ≡ configuration
    lost_turn = either (λ (d : Action). done_in first configuration agent d ≡ configuration)
        (nat_lt agent terms.agents)
        (action_at none_held terms.wakeups (configuration.position agent) (configuration.woken agent)
        (strategies agent (configuration.history agent)) agent) Rests
        (lost_deed (configuration.position agent) (configuration.woken agent)
        (strategies agent (configuration.history agent)) at refl) refl

  -- all agents are away from the black hole after a turn, if they were
  abbrev AreAway : Configuration → Type 0
  AreAway configuration = (k : ℕ) → IsAway hole ones (configuration.position k)

  placed : (configuration new : Configuration) (agent : ℕ) (place : Position) → AreAway configuration
      → IsTurn nodes ones hole terms strategies one 0 configuration agent new place → IsAway hole ones place
      → AreAway new
  placed configuration new agent place away turn is k = elim (eqb_tells k agent) [
    | inl h ↦ subst (λ (j : ℕ). IsAway hole ones (new.position j)) (sym h.1)
        (subst (IsAway hole ones) (sym turn.here) is)
    | inr h ↦ subst (IsAway hole ones) (sym (turn.others k h.1)) (away k)
  ]

  kind_away : (configuration new : Configuration) (agent : ℕ) → AreAway configuration
      → Kind nodes ones hole terms strategies one 0 configuration agent new → AreAway new
  kind_away configuration new agent away (Stays turn reached) =
      placed configuration new agent (configuration.position agent) away turn (away agent)
  kind_away configuration new agent away (Enters turn reached off) =
      placed configuration new agent (At 0 None) away turn not_home
  kind_away configuration new agent away (Ends turn reached off) =
      placed configuration new agent After away turn tt
  kind_away configuration new agent away (Departs node port came at has turn reached) =
      placed configuration new agent (Bound node port) away turn (subst (IsAway hole ones) at (away agent), has)
  kind_away configuration new agent away (Arrives node port at not_hole turn comes) =
      placed configuration new agent (At (one node port).0 (Some (one node port).1)) away turn
      (λ same. not_hole (sym same))

  pub turn_away : (configuration : Configuration) (agent : ℕ) → AreAway configuration
      → AreAway (turn_in first configuration agent)
  turn_away configuration agent away =
      kind_away configuration (turn_in first configuration agent) agent away
      (turn_kind nodes ones hole terms strategies one 0 configuration agent)

  -- ---- the struck schedule

  pub record IsStruck (configuration : Configuration) (schedule : List ℕ) : Type 0 where
    pub other : List ℕ
    pub same : turns_in second configuration other ≡ turns_in first configuration schedule

  -- the two cases: the turn is struck out, or is the same on both networks
  pub data Fate (configuration : Configuration) (agent : ℕ) : Type 0 where
    Lost : turn_in first configuration agent ≡ configuration → Fate configuration agent
    Same : turn_in first configuration agent ≡ turn_in second configuration agent → Fate configuration agent

  fate : (configuration : Configuration) (agent : ℕ) → IsAway hole ones (configuration.position agent)
      → Fate configuration agent
  fate configuration agent away = by_place (configuration.position agent) refl
    where
      off_link : (place : Position) → configuration.position agent ≡ place
          → ((node port : ℕ) → place ≢ Bound node port) → Fate configuration agent
      off_link place here off = Same (turn_alike configuration agent away
          (λ node port at. absurd (off node port (sym here ∙ at))))

      by_place : (place : Position) → configuration.position agent ≡ place → Fate configuration agent
      by_place (Bound node port) here = elim (eqb_tells (one node port).0 hole) [
        | inl h ↦ Lost (lost_turn configuration agent node port here h.1)
        | inr h ↦ Same (turn_alike configuration agent away (λ v p at. λ into.
            h.1 (ap (λ (place : Position). (one (node_on place) (port_on place)).0) (sym here ∙ at) ∙ into)))
      ]
      by_place Before here = off_link Before here (λ node port at. cc)
      by_place (At node came) here = off_link (At node came) here (λ v p at. cc)
      by_place After here = off_link After here (λ node port at. cc)

  pub struck : (schedule : List ℕ) (configuration : Configuration) → AreAway configuration
      → IsStruck configuration schedule
  struck [] configuration away = record { other = []; same = refl }
  struck (agent ∷ schedule) configuration away =
      let rest : IsStruck (turn_in first configuration agent) schedule =
      struck schedule (turn_in first configuration agent) (turn_away configuration agent away) in
      by_fate rest (fate configuration agent (away agent))
    where
      by_fate : IsStruck (turn_in first configuration agent) schedule → Fate configuration agent
          → IsStruck configuration (agent ∷ schedule)
      by_fate rest (Lost nothing) = record {
        other = rest.other;
        same = ap (λ (it : Configuration). turns_in second it rest.other) (sym nothing) ∙ rest.same;
      }
      by_fate rest (Same alike) = record {
        other = agent ∷ rest.other;
        same = ap (λ (it : Configuration). turns_in second it rest.other) (sym alike) ∙ rest.same;
      }

  -- A link that is accused in the first network leads to the black hole in the second network.
  pub right_there : FindsFor second hole → (schedule : List ℕ) (it : SomeoneHasAccused first schedule)
      → (two it.link.0 it.link.1).0 ≡ hole
  right_there finds schedule it =
      let other : IsStruck blank schedule = struck schedule blank (λ k. tt) in
      finds.right other.other (accused_if second other.other it.agent it.link it.within
      (ap (λ (p : Configuration). p.accused it.agent) other.same ∙ accused_in first schedule it))

-- Let two networks be like a third one, and let no port lead into the black hole in all three. Then no team finds it on
-- all three.
pub not_on_three : (nodes hole : ℕ) → 0 ≢ hole → (terms : Limits) (strategies : Strategies)
    (stars lefts rights : ℕ → ℕ) (star left right : Far) → IsLike hole stars lefts star left
    → IsLike hole stars rights star right
    → ((node port : ℕ) → (star node port).0 ≡ hole → (left node port).0 ≡ hole → (right node port).0 ≡ hole → ⊥)
    → FindsFor (over nodes stars hole terms strategies star) hole
    → FindsFor (over nodes lefts hole terms strategies left) hole
    → FindsFor (over nodes rights hole terms strategies right) hole → ⊥
not_on_three nodes hole not_home terms strategies stars lefts rights star left right like like_too none on_star on_left
    on_right =
    let said = on_star.accuses [] in
    none said.1.link.0 said.1.link.1 (on_star.right said.0 said.1)
    (right_there nodes hole not_home terms strategies stars lefts star left like on_left said.0 said.1)
    (right_there nodes hole not_home terms strategies stars rights star right like_too on_right said.0 said.1)
