-- Agents that draw a chart: once nothing more can happen, all have ended or are lost, and the match is solved.
use Rattle.std.proofs.Common.{ℕ, zero, suc, ◌+◌, ◌<◌, ◌≤◌, ◌≡◌, ◌⊎◌, Bool, true, false, not, Option, Some, None, List}
use Rattle.std.proofs.Common.{[], ◌∷◌, length}
use Rattle.std.proofs.Common.{refl, sym, ap, ◌∙◌, subst, inl, inr, arith}
use Rattle.std.specs.Prelude.{◌≢◌}
use Rattle.std.proofs.Math.Path.{transport⁻¹}
use Rattle.std.proofs.lemmas.Bool.{true≢false, eqb-false, eq-eqb}
use Rattle.std.proofs.lemmas.Bool.Decides.{eqb_tells}
use Rattle.bhs_net.specs.Network.{Leads, degree_of}
use Rattle.bhs_net.specs.Paths.{Path, Without}
use Rattle.bhs_model.specs.declared.replies.Reply.TheVariants.{Over}
use Rattle.bhs_model.proofs.LegalLemmas.{either}
use Rattle.bhs_model.specs.Runs.{Position, Before, Bound, is_doomed}
use Rattle.bhs_referee.specs.Verdicts.{is_present}
use Rattle.bhs_schedules.specs.declared.answers.Step.{Step}
use Rattle.bhs_schedules.specs.declared.answers.Step.TheVariants.{Stops, Fails}
use Rattle.bhs_schedules.specs.Strategies.{Heard}
use Rattle.bhs_protocols.specs.Configurations.{Configuration, IsResting}
use Rattle.bhs_protocols.specs.Invariants.{IsSettled}
use Rattle.bhs_protocols.specs.Programs.{held_after}
use Rattle.bhs_protocols_charts.specs.Charts.{Chart, claimed, done, chart_of, is_free, is_open, is_sure, state_at}
use Rattle.bhs_protocols_charts.specs.Charts.{first_end}
use Rattle.bhs_protocols_charts.specs.Charting.{Charting, Begins, Waits, Looks, Claims, GoesOut, Names, GoesBack}
use Rattle.bhs_protocols_charts.specs.Charting.{Reports}
use Rattle.bhs_protocols_charts.specs.Charting.{GoesToAccuse, Ends, Memory, does_in, does_now, charters}
use Rattle.bhs_protocols_charts.proofs.Totals.{total, one_if, count_is_total, few_labels, some_fails}
use Rattle.bhs_protocols_charts.proofs.HoleEnds as nodes
use Rattle.bhs_protocols_charts.proofs.ChartLists.{none_passes}
use Rattle.bhs_protocols_charts.proofs.ChartState.{Game, Inv, IsDrawn, LeadsToRow, Accuses, Holder, HasAccused, Holds}
use Rattle.bhs_protocols_charts.proofs.ChartState.{held}
use Rattle.bhs_protocols_charts.proofs.ChartState.{mem}
use Rattle.bhs_protocols_charts.proofs.ChartState.{trial as trial_of, n as size, degree, far}
use Rattle.bhs_protocols_charts.proofs.ChartCounts.{all_lead}
use Rattle.bhs_protocols_charts.proofs.ChartDecisions.{reads}
use Rattle.bhs_protocols_charts.proofs.ChartMoves.{doomed_is}
use Rattle.bhs_protocols_charts.proofs.ChartTurns.{placed_as, accuses_as}
use Rattle.bhs_protocols_charts.proofs.ChartRest.{IsLost, IsStuck, Rests, resting}
use Rattle.bhs_protocols_charts.proofs.ChartVerdict.{IsDone, solved}

-- ---- no agent fails

abbrev is_failing : Step → Bool
is_failing Fails = true
is_failing step = false

steady : (it : Charting) → is_failing (does_in it) ≡ false
steady Begins = refl
steady (Waits count text) = refl
steady Looks = refl
steady (Claims count text row port) = refl
steady (GoesOut row port [] behind) = refl
steady (GoesOut row port (next ∷ ahead) behind) = refl
steady (Names row port count behind) = refl
steady (GoesBack row port found []) = refl
steady (GoesBack row port found (next ∷ behind)) = refl
steady (Reports row port found count text) = refl
steady (GoesToAccuse port []) = refl
steady (GoesToAccuse port (next ∷ ahead)) = refl
steady Ends = refl

pub fails_never : (memory : Memory) → does_now memory ≢ Fails
fails_never memory fails = true≢false (sym (ap is_failing fails)
    ∙ either (λ (step : Step). is_failing step ≡ false) memory.has_departed Stops (does_in memory.duty) refl
    (steady memory.duty))

-- ---- ends that agents hold, and the ports of links where they are

abbrev row_of : Option (ℕ × ℕ) → ℕ
row_of None = 0
row_of (Some end) = end.0

abbrev port_of : Option (ℕ × ℕ) → ℕ
port_of None = 0
port_of (Some end) = end.1

abbrev IsSameEnd : (one other : ℕ × ℕ) → Type 0
IsSameEnd one other = Some one ≡ Some other

abbrev is_here : Option (ℕ × ℕ) → Bool
is_here None = false
is_here (Some end) = true

-- who holds nothing holds no port
pub none_some : (holds : Option (ℕ × ℕ)) (end : ℕ × ℕ) → holds ≡ None → holds ≡ Some end → ⊥
none_some holds end none some = true≢false (sym (ap is_here some) ∙ ap is_here none)

abbrev is_before : Position → Bool
is_before Before = true
is_before position = false

module _ (game : Game) {configuration : Configuration} {left : ℕ} (inv : Inv game configuration left)
    (still : IsResting (trial_of game) configuration) where
  open game use {net, terms, tells, home, hole, can}

  abbrev chart : Chart
  chart = inv.chart

  abbrev place : ℕ → ℕ
  place = inv.place

  abbrev drawn : IsDrawn game inv.chart inv.place configuration.shown configuration.reached
  drawn = inv.charted.drawn

  abbrev mine : (k : ℕ) → Charting
  mine k = mem game configuration k

  rests : (k : ℕ) (lt : k < terms.agents) → Rests game inv k lt
  rests k lt = resting game inv k lt (mine k) refl (still k)

  -- ---- nobody waits for ever

  module _ (stuck : ℕ) (below : stuck < terms.agents) (it : IsStuck game inv stuck below) where
    reading : chart_of it.count it.text ≡ chart
    reading =
        let waits = (placed_as game inv stuck below (Waits it.count it.text) it.is).1 in
        (λ i. chart_of (waits.count i) (waits.fresh it.woken i)) ∙ reads game inv.charted

    none_free : (i p : ℕ) → i < length chart → p < degree game (place i) → state_at chart i p ≢ 0
    none_free i p lt has =
        let waits = (placed_as game inv stuck below (Waits it.count it.text) it.is).1 in
        let none : first_end is_free chart 0 ≡ None =
        ap (λ (c : Chart). first_end is_free c 0) (sym reading) ∙ waits.none in
        eqb-false (state_at chart i p) 0
        (none_passes is_free chart none i p lt (subst (λ (k : ℕ). p < k) (sym (drawn.ports_are i lt)) has))

    -- who holds a port cannot move, so it is lost there
    held_leads : (i p : ℕ) (holder : Holder game (λ k. held (mem game configuration k)) (i, p))
        → (far game (place i) p).0 ≡ hole
    held_leads i p holder = elim (rests holder.agent holder.within) [
      | inl h ↦ absurd (none_some (held (mine holder.agent)) (i, p) (ap held h) holder.is)
      | inr h ↦ elim h [
        | inl lost ↦
            let same : IsSameEnd (lost.row, lost.port) (i, p) = sym lost.holds ∙ holder.is in
            transport⁻¹ (λ j. (far game (place (row_of (sym same j))) (port_of (sym same j))).0 ≡ hole) lost.leads
        | inr waits ↦ absurd (none_some (held (mine holder.agent)) (i, p) (ap held waits.is) holder.is)
      ]
    ]

    open_leads : (i p : ℕ) → i < length chart → p < degree game (place i) → is_open (state_at chart i p) ≡ true
        → (far game (place i) p).0 ≡ hole
    open_leads i p lt has open_now =
        let some = none_free i p lt has in
        let few = drawn.states i p lt has in
        let not_done : state_at chart i p ≢ done = λ same. true≢false (sym open_now ∙ ap is_open same) in
        let is : state_at chart i p ≡ claimed = omega (arith, some, few, not_done) in
        held_leads i p (inv.claims.some i p lt has is)

    -- from places one comes to places alone, except to the black hole
    reached_place : (steps node : ℕ) → Path (Without hole (Leads net)) home node steps
        → (i : ℕ) × (i < length chart) × (place i ≡ node)
    reached_place zero node same = (0, drawn.some, drawn.places.start ∙ same)
    reached_place (suc steps) node way =
        let from = reached_place steps way.0 way.1 in
        let step = way.2.0 in
        let has : step.0 < degree game (place from.0) =
        subst (λ (k : ℕ). step.0 < degree game k) (sym from.2) step.1 in
        let there : (far game (place from.0) step.0).0 ≡ node =
        ap (λ (k : ℕ). (far game k step.0).0) from.2 ∙ step.2 in
        elim (eqb_tells (state_at chart from.0 step.0) done) [
          | inl h ↦
              let to : LeadsToRow game chart place (far game (place from.0) step.0).0 =
              drawn.back from.0 step.0 from.1 has h.1 in
              (to.row, to.within, sym to.is ∙ there)
          | inr h ↦ absurd (way.2.2 (sym there ∙ open_leads from.0 step.0 from.1 has (ap not h.0)))
        ]

    all_known : length chart + 1 ≡ size game
    all_known = nodes.are_all (size game) hole can.within place (length chart) drawn.apart
        (λ node lt other.
        let path =
        can.network.biconnected hole can.within home node can.start lt (λ same. can.apart (sym same)) other in
        reached_place path.0 node path.1)

    pub not_stuck : ⊥
    not_stuck =
        let waits = (placed_as game inv stuck below (Waits it.count it.text) it.is).1 in
        true≢false (sym (all_lead game drawn all_known open_leads)
        ∙ ap (is_sure (size game) tells) (sym reading) ∙ waits.unsure)

  -- so each agent has ended or is lost
  ended_or_lost : (k : ℕ) (lt : k < terms.agents) → (mine k ≡ Ends) ⊎ IsLost game inv k lt
  ended_or_lost k lt = elim (rests k lt) [
    | inl h ↦ inl h
    | inr h ↦ elim h [
      | inl lost ↦ inr lost
      | inr it ↦ absurd (not_stuck k lt it)
    ]
  ]

  -- ---- few are lost

  abbrev is_lost : (k : ℕ) → Bool
  is_lost k = is_doomed (trial_of game).world (configuration.position k)

  abbrev label_at : Position → ℕ
  label_at (Bound node port) = (far game node port).1
  label_at position = 0

  lost_if : (k : ℕ) (lt : k < terms.agents) → is_lost k ≡ true → IsLost game inv k lt
  lost_if k lt is = elim (ended_or_lost k lt) [
    | inl h ↦ absurd (true≢false (sym is
        ∙ ap (is_doomed (trial_of game).world) (placed_as game inv k lt Ends h).0))
    | inr h ↦ h
  ]

  -- the port that a lost agent has claimed is the other end of a port of the black hole
  lost_end : (k : ℕ) (lt : k < terms.agents) (lost : IsLost game inv k lt)
      → (label_at (configuration.position k) < degree_of net hole)
      × (far game hole (label_at (configuration.position k)) ≡ (place lost.row, lost.port))
  lost_end k lt lost =
      let holds : Holds game chart place (lost.row, lost.port) =
      inv.claims.holds k lt (lost.row, lost.port) lost.holds in
      let label : label_at (configuration.position k) ≡ (far game (place lost.row) lost.port).1 = ap label_at lost.at in
      let has : (far game (place lost.row) lost.port).1 < degree_of net (far game (place lost.row) lost.port).0 =
      can.network.labelled.within (place lost.row) lost.port holds.has in
      let back : far game (far game (place lost.row) lost.port).0 (far game (place lost.row) lost.port).1
      ≡ (place lost.row, lost.port) = can.network.labelled.back (place lost.row) lost.port holds.has in (
        transport⁻¹ (λ i. label i < degree_of net (sym lost.leads i)) has,
        (λ i. far game (sym lost.leads i) (label i)) ∙ back,
      )

  lost_apart : (k j : ℕ) → k < terms.agents → j < terms.agents → is_lost k ≡ true → is_lost j ≡ true
      → label_at (configuration.position k) ≡ label_at (configuration.position j) → k ≡ j
  lost_apart k j lt lt_too is is_too same =
      let one = lost_if k lt is in
      let other = lost_if j lt_too is_too in
      let holds : Holds game chart place (one.row, one.port) = inv.claims.holds k lt (one.row, one.port) one.holds in
      let holds_too : Holds game chart place (other.row, other.port) =
      inv.claims.holds j lt_too (other.row, other.port) other.holds in
      let ends : (place one.row, one.port) ≡ (place other.row, other.port) =
      sym (lost_end k lt one).1 ∙ ap (far game hole) same ∙ (lost_end j lt_too other).1 in
      let rows : one.row ≡ other.row = drawn.apart.apart one.row other.row holds.within holds_too.within
      (ap (λ (end : ℕ × ℕ). end.0) ends) in
      let ports_same : one.port ≡ other.port = ap (λ (end : ℕ × ℕ). end.1) ends in
      inv.claims.one k j lt lt_too (one.row, one.port) one.holds
      (other.holds ∙ (λ i. Some (sym rows i, sym ports_same i)))

  few_lost : total (λ k. one_if (is_lost k)) terms.agents ≤ degree_of net hole
  few_lost = few_labels is_lost (λ k. label_at (configuration.position k)) terms.agents (degree_of net hole)
      (λ k lt is. (lost_end k lt (lost_if k lt is)).0) lost_apart

  -- ---- the verdict

  accused_or : (it : Charting) (link : Option (ℕ × ℕ)) → Accuses game it link → (link ≡ None) ⊎ HasAccused game link
  accused_or Ends link it = inr it
  accused_or other link it = inl it

  away : (k : ℕ) → k < terms.agents → is_present (configuration.position k) ≡ false
  away k lt = elim (ended_or_lost k lt) [
    | inl h ↦ ap is_present (placed_as game inv k lt Ends h).0
    | inr h ↦ ap is_present h.at
  ]

  lost_is : (k : ℕ) (lt : k < terms.agents) → IsLost game inv k lt → is_lost k ≡ true
  lost_is k lt lost = ap (is_doomed (trial_of game).world) lost.at ∙ doomed_is game (place lost.row) lost.port
      ∙ eq-eqb hole (far game (place lost.row) lost.port).0 (sym lost.leads)

  -- A surviving agent exists; it has ended.
  pub record HasEnded : Type 0 where
    pub agent : ℕ
    pub within : agent < terms.agents
    pub is : mine agent ≡ Ends

  one_ended : HasEnded
  one_ended =
      let few = few_lost in
      let more = can.agents in
      let one = some_fails is_lost terms.agents (omega (arith, few, more)) in
      elim (ended_or_lost one.0 one.1) [
        | inl h ↦ record { agent = one.0; within = one.1; is = h }
        | inr h ↦ absurd (true≢false (sym (lost_is one.0 one.1 h) ∙ one.2))
      ]

  -- Rows describe named nodes, hence reached nodes.
  place_reached : (i : ℕ) → i < length chart → place i ≢ home → configuration.reached (place i) ≡ true
  place_reached zero lt other = absurd (other drawn.places.start)
  place_reached (suc i) lt other = elim (drawn.names (place (suc i)) other) [
    | inl h ↦
        let named : length (configuration.shown (place (suc i))) ≡ 4 =
        ap (λ (t : List ℕ). length t) (drawn.named (suc i) (omega arith) lt) in
        let none : length (configuration.shown (place (suc i))) ≡ 0 = ap (λ (t : List ℕ). length t) h in
        absurd (omega (arith, named, none))
    | inr h ↦ h.seen
  ]

  all_reached : (node : ℕ) → node < size game → node ≢ home → node ≢ hole → configuration.reached node ≡ true
  all_reached node lt other safe =
      let ended = one_ended in
      let all : length chart + 1 ≡ size game = (placed_as game inv ended.agent ended.within Ends ended.is).1 in
      let it = nodes.all_places (size game) hole can.within place (length chart) drawn.apart all node lt safe in
      subst (λ (k : ℕ). configuration.reached k ≡ true) it.2
      (place_reached it.0 it.1 (λ same. other (sym it.2 ∙ same)))

  is_done : IsDone game configuration
  is_done = record {
    accused = λ k lt. accused_or (mine k) (configuration.accused k) (inv.fit k lt).accuses;
    away = away;
    one = one_ended.agent;
    within = one_ended.within;
    accuses = accuses_as game inv one_ended.agent one_ended.within Ends one_ended.is;
    reached = all_reached;
  }

  -- an agent at rest is not before the home base
  began : (k : ℕ) → k < terms.agents → configuration.position k ≡ Before → ⊥
  began k lt at = elim (ended_or_lost k lt) [
    | inl h ↦ true≢false (sym (ap is_before at) ∙ ap is_before (placed_as game inv k lt Ends h).0)
    | inr h ↦ true≢false (sym (ap is_before at) ∙ ap is_before h.at)
  ]

  pub settled : IsSettled (trial_of game) (degree_of net hole) configuration
  settled = record {
    outcome = solved game configuration is_done;
    few = let few = few_lost in let count = count_is_total is_lost terms.agents in omega (arith, few, count);
    over = λ k node port lt at.
        fails_never (held_after (charters (size game) tells) k (Heard Over ∷ configuration.history k));
    awake = λ k lt at. absurd (began k lt at);
  }
