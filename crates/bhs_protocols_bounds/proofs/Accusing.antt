-- What a team that finds the black hole must do with unreached nodes: while two nodes are unreached, nobody has
-- accused; the agents are not all on links to one node; and if all others are on such links, the last agent accuses.
use Rattle.std.proofs.Common.{ℕ, zero, suc, ◌<◌, ◌≤◌, ◌≡◌, Bool, true, false, Option, Some, None, List, [], ◌∷◌, ◌++◌}
use Rattle.std.proofs.Common.{refl, sym, ap, ◌∙◌, subst, if◌then◌else◌, nat_lt, inl, inr, arith}
use Rattle.std.specs.Prelude.{◌≢◌}
use Rattle.std.proofs.lemmas.Bool.{cond-true, cond-false, eq-eqb, ne_eqb, ltb-true}
use Rattle.std.proofs.lemmas.Bool.Decides.{eqb_tells}
use Rattle.bhs_model.specs.declared.events.Event.TheVariants.{Deliver}
use Rattle.bhs_model.specs.Worlds.{World, doomed}
use Rattle.bhs_model.specs.Draws.{Held}
use Rattle.bhs_model.specs.Runs.{Bound, After}
use Rattle.bhs_model.proofs.StepLemmas.{by_cases}
use Rattle.bhs_schedules.specs.Strategies.{Strategies}
use Rattle.bhs_schedules.specs.Schedules.{Trial, Makes, Rests, action_at}
use Rattle.bhs_protocols.specs.Configurations.{Configuration, blank, deed_in, done_in, arrived_in, turn_in, turns_in}
use Rattle.bhs_protocols.specs.Configurations.{delivered_in}
use Rattle.bhs_protocols.specs.LastWord.{SomeoneHasAccused, Finds}
use Rattle.bhs_protocols.proofs.FindsLemmas.{accused_in, accused_if}
use Rattle.bhs_protocols.proofs.LastWordLemmas.{IsHonestIn, doomed_is, honest_later, other_untouched, own_in}
use Rattle.bhs_protocols.proofs.LastWordLemmas.{turn_honest, turns_in_append}
use Rattle.bhs_protocols_bounds.proofs.Holeless.{free, hidden, IsReachable, leads_hidden, turn_alike}
use Rattle.bhs_protocols_bounds.proofs.Places.{IsNew, IsOnLinkTo, OthersWait, runs}

-- ---- three facts

module _ (world : World) (held : Held) (wakeups : ℕ) (strategies : Strategies)
    (finds : Finds world held wakeups strategies) where
  abbrev empty : Trial
  empty = free world held wakeups strategies

  abbrev with_hole : (hole : ℕ) → Trial
  with_hole hole = hidden world held wakeups strategies hole

  -- where two nodes are new, nobody has accused
  none_but : (accused : Option (ℕ × ℕ)) → ((link : ℕ × ℕ) → accused ≡ Some link → ⊥) → accused ≡ None
  none_but None h = refl
  none_but (Some link) h = absurd (h link refl)

  leads_to : (configuration : Configuration) (node agent : ℕ) (link : ℕ × ℕ)
      → IsReachable world held wakeups strategies configuration
      → IsNew world configuration node → agent < world.agents → configuration.accused agent ≡ Some link
      → (world.net.far link.0 link.1).0 ≡ node
  leads_to configuration node agent link it new within accused =
      let same : turns_in (with_hole node) blank it.schedule ≡ configuration =
      leads_hidden world held wakeups strategies node configuration it new.never in
      (finds node new.below new.not_home).right it.schedule
      (accused_if (with_hole node) it.schedule agent link within
      (ap (λ (p : Configuration). p.accused agent) same ∙ accused))

  pub nobody_accused : (configuration : Configuration) (one other agent : ℕ)
      → IsReachable world held wakeups strategies configuration
      → IsNew world configuration one → IsNew world configuration other → one ≢ other → agent < world.agents
      → configuration.accused agent ≡ None
  nobody_accused configuration one other agent it new new_too apart within =
      none_but (configuration.accused agent) (λ link accused. apart
      (sym (leads_to configuration one agent link it new within accused)
      ∙ leads_to configuration other agent link it new_too within accused))

  -- an agent on a link to the black hole stays there
  stays : (configuration : Configuration) (agent node : ℕ) → IsOnLinkTo world configuration agent node
      → turn_in (with_hole node) configuration agent ≡ configuration
  stays configuration agent node it =
      ap (done_in (with_hole node) configuration agent)
      (λ i. if nat_lt agent world.agents then action_at held wakeups (it.on i) (configuration.woken agent)
      (strategies agent (configuration.history agent)) agent else Rests)
      ∙ by_number (nat_lt agent world.agents) (held it.start it.port)
    where
      doom : doomed (with_hole node).world it.start it.port ≡ true
      doom = doomed_is world held wakeups strategies node node node it.start it.port
          ∙ eq-eqb node (world.net.far it.start it.port).0 (sym it.to)

      arrives : Configuration
      arrives = arrived_in world configuration agent (world.net.far it.start it.port).0
          (world.net.far it.start it.port).1

      by_number : (a b : Bool) → done_in (with_hole node) configuration agent
          (if a then (if b then Rests else Makes (Deliver agent)) else Rests) ≡ configuration
      by_number false b = refl
      by_number true true = refl
      by_number true false = ap (delivered_in (with_hole node).world configuration agent) it.on
          ∙ cond-true (doomed (with_hole node).world it.start it.port) configuration _ doom

  -- a number without an agent does nothing
  pub no_agent : (trial : Trial) (configuration : Configuration) (agent : ℕ) → nat_lt agent trial.world.agents ≡ false
      → turn_in trial configuration agent ≡ configuration
  no_agent trial configuration agent none =
      ap (done_in trial configuration agent) (cond-false (nat_lt agent trial.world.agents) _ Rests none)

  -- who is on a link has accused nobody
  not_after : (start port : ℕ) → Bound start port ≡ After → ⊥
  not_after start port h = cc

  silent_on_link : (configuration : Configuration) (agent node : ℕ) → IsHonestIn agent configuration
      → IsOnLinkTo world configuration agent node → configuration.accused agent ≡ None
  silent_on_link configuration agent node honest it = elim honest [
    | inl none ↦ none
    | inr after ↦ absurd (not_after it.start it.port (sym it.on ∙ after))
  ]

  none_some : (accused : Option (ℕ × ℕ)) (link : ℕ × ℕ) → accused ≡ None → accused ≡ Some link → ⊥
  none_some accused link none some = let both : None ≡ Some link = sym none ∙ some in cc

  honest_in : (configuration : Configuration) (node agent : ℕ)
      (it : IsReachable world held wakeups strategies configuration)
      → IsNew world configuration node → IsHonestIn agent configuration
  honest_in configuration node agent it new =
      subst (IsHonestIn agent) (leads_hidden world held wakeups strategies node configuration it new.never)
      (honest_later (with_hole node) blank it.schedule agent (inl refl))

  -- what the black hole's match says after this configuration
  record WillAccuse (configuration : Configuration) (node : ℕ) : Type 0 where
    more : List ℕ
    agent : ℕ
    within : agent < world.agents
    link : ℕ × ℕ
    accused : (turns_in (with_hole node) configuration more).accused agent ≡ Some link

  will_accuse : (configuration : Configuration) (node : ℕ) → IsReachable world held wakeups strategies configuration
      → IsNew world configuration node
      → WillAccuse configuration node
  will_accuse configuration node it new =
      let found = (finds node new.below new.not_home).accuses it.schedule in
      let said : SomeoneHasAccused (with_hole node) (it.schedule ++ found.0) = found.1 in
      record {
        more = found.0;
        agent = said.agent;
        within = said.within;
        link = said.link;
        accused = ap (λ (p : Configuration). p.accused said.agent)
            (ap (λ (p : Configuration). turns_in (with_hole node) p found.0)
            (sym (leads_hidden world held wakeups strategies node configuration it new.never))
            ∙ sym (turns_in_append (with_hole node) blank it.schedule found.0))
            ∙ accused_in (with_hole node) (it.schedule ++ found.0) said;
      }

  -- not all agents are on links to one new node
  all_stay : (configuration : Configuration) (node : ℕ)
      → ((k : ℕ) → k < world.agents → IsOnLinkTo world configuration k node) → (schedule : List ℕ)
      → turns_in (with_hole node) configuration schedule ≡ configuration
  all_stay configuration node wait [] = refl
  all_stay configuration node wait (agent ∷ schedule) =
      ap (λ (p : Configuration). turns_in (with_hole node) p schedule)
      (by_cases (nat_lt agent world.agents) (turn_in (with_hole node) configuration agent ≡ configuration)
      (λ yes. stays configuration agent node (wait agent (ltb-true agent world.agents yes)))
      (λ none. no_agent (with_hole node) configuration agent none))
      ∙ all_stay configuration node wait schedule

  pub not_all : (configuration : Configuration) (node : ℕ) → IsReachable world held wakeups strategies configuration
      → IsNew world configuration node
      → ((k : ℕ) → k < world.agents → IsOnLinkTo world configuration k node) → ⊥
  not_all configuration node it new wait =
      let said : WillAccuse configuration node = will_accuse configuration node it new in
      none_some (configuration.accused said.agent) said.link
      (silent_on_link configuration said.agent node (honest_in configuration node said.agent it new)
      (wait said.agent said.within))
      (ap (λ (p : Configuration). p.accused said.agent) (sym (all_stay configuration node wait said.more))
      ∙ said.accused)

  -- While all other agents are on links to a new node, this agent accuses, and is never on a link to that node before.
  pub record AccusesAlone (configuration : Configuration) (agent node : ℕ) : Type 0 where
    pub turns : ℕ
    pub link : ℕ × ℕ
    pub accused : (runs world held wakeups strategies configuration agent turns).accused agent ≡ Some link
    pub never : (i : ℕ) → i ≤ turns → (runs world held wakeups strategies configuration agent i).reached node ≡ false
    pub off : (i : ℕ) → i ≤ turns
        → IsOnLinkTo world (runs world held wakeups strategies configuration agent i) agent node → ⊥

  is_zero : (i : ℕ) → i ≤ 0 → 0 ≡ i
  is_zero i least = omega (arith, least)

  -- the same said of turns where the node is the black hole
  accuses_after : (agent node : ℕ) (schedule : List ℕ) (configuration : Configuration)
      → OthersWait world configuration agent node
      → ((k : ℕ) → IsHonestIn k configuration) → configuration.reached node ≡ false → (k : ℕ) (link : ℕ × ℕ)
      → k < world.agents
      → (turns_in (with_hole node) configuration schedule).accused k ≡ Some link → AccusesAlone configuration agent node
  accuses_after agent node [] configuration wait honest never k link within accused = elim (eqb_tells k agent) [
    | inl h ↦ record {
      turns = 0;
      link = link;
      accused = subst (λ (j : ℕ). configuration.accused j ≡ Some link) h.1 accused;
      never = λ i least.
          subst (λ (j : ℕ). (runs world held wakeups strategies configuration agent j).reached node ≡ false)
          (is_zero i least) never;
      off = λ i least.
          subst (λ (j : ℕ). IsOnLinkTo world (runs world held wakeups strategies configuration agent j) agent node → ⊥)
          (is_zero i least)
          (λ on. none_some (configuration.accused agent) link (silent_on_link configuration agent node
          (honest agent) on)
          (subst (λ (j : ℕ). configuration.accused j ≡ Some link) h.1 accused));
    }
    | inr h ↦ absurd (none_some (configuration.accused k) link
        (silent_on_link configuration k node (honest k) (wait k within h.1)) accused)
  ]
  accuses_after agent node (other ∷ schedule) configuration wait honest never k link within accused =
      elim (eqb_tells other agent) [
        | inl h ↦ elim (turn_alike world held wakeups strategies node configuration agent) [
          | inl same ↦
              let next : Configuration = turn_in empty configuration agent in
              let rest : AccusesAlone next agent node =
              accuses_after agent node schedule next (others_wait configuration wait)
              (λ j. turn_honest empty configuration agent j (honest j))
              (same.1 ∙ never) k link within
              (ap (λ (p : Configuration). (turns_in (with_hole node) p schedule).accused k)
              (sym (ap (turn_in (with_hole node) configuration) h.1 ∙ same.0)) ∙ accused) in
              record {
                turns = suc rest.turns;
                link = rest.link;
                accused = rest.accused;
                never = never_in configuration never rest;
                off = off_in configuration same.0 rest;
              }
          | inr left ↦ accuses_after agent node schedule configuration wait honest never k link within
              (ap (λ (p : Configuration). (turns_in (with_hole node) p schedule).accused k)
              (sym (ap (turn_in (with_hole node) configuration) h.1 ∙ left.0)) ∙ accused)
        ]
        | inr h ↦ accuses_after agent node schedule configuration wait honest never k link within
            (ap (λ (p : Configuration). (turns_in (with_hole node) p schedule).accused k)
            (sym (by_cases (nat_lt other world.agents) (turn_in (with_hole node) configuration other ≡ configuration)
            (λ yes. stays configuration other node (wait other (ltb-true other world.agents yes) h.1))
            (λ none. no_agent (with_hole node) configuration other none))) ∙ accused)
      ]
    where
      others_wait : (configuration : Configuration) → OthersWait world configuration agent node
          → OthersWait world (turn_in empty configuration agent) agent node
      others_wait configuration wait j within apart =
          let it : IsOnLinkTo world configuration j node = wait j within apart in
          record {
            start = it.start;
            port = it.port;
            on = (other_untouched empty configuration agent j (deed_in empty configuration agent)
                (own_in empty configuration agent)
                (ne_eqb j agent apart)).position ∙ it.on;
            to = it.to;
          }

      never_in : (configuration : Configuration) → configuration.reached node ≡ false
          → (rest : AccusesAlone (turn_in empty configuration agent) agent node) (i : ℕ) → i ≤ suc rest.turns
          → (runs world held wakeups strategies configuration agent i).reached node ≡ false
      never_in configuration never rest zero least = never
      never_in configuration never rest (suc i) least = rest.never i (omega (arith, least))

      off_in : (configuration : Configuration)
          → turn_in (with_hole node) configuration agent ≡ turn_in empty configuration agent
          → (rest : AccusesAlone (turn_in empty configuration agent) agent node) (i : ℕ) → i ≤ suc rest.turns
          → IsOnLinkTo world (runs world held wakeups strategies configuration agent i) agent node → ⊥
      off_in configuration same rest zero least on =
          rest.off 0 (omega arith) (subst (λ (p : Configuration). IsOnLinkTo world p agent node)
          (sym (stays configuration agent node on) ∙ same) on)
      off_in configuration same rest (suc i) least on = rest.off i (omega (arith, least)) on

  pub accuses_alone : (configuration : Configuration) (agent node : ℕ)
      → IsReachable world held wakeups strategies configuration
      → IsNew world configuration node → OthersWait world configuration agent node
      → AccusesAlone configuration agent node
  accuses_alone configuration agent node it new wait =
      let said : WillAccuse configuration node = will_accuse configuration node it new in
      accuses_after agent node said.more configuration wait
      (λ k. honest_in configuration node k it new) new.never said.agent
      said.link said.within said.accused
