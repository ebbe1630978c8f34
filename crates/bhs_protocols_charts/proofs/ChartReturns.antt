-- Agents that draw a chart: turns of an agent on its way back, and on its way to accuse.
use Rattle.std.proofs.Common.{ℕ, ◌<◌, ◌≡◌, true, false, Option, Some, List, [], ◌∷◌, length, if◌then◌else◌, refl, sym}
use Rattle.std.proofs.Common.{ap, ◌∙◌, subst, inl, inr, arith}
use Rattle.std.specs.Prelude.{◌≢◌, bytes_eq}
use Rattle.std.proofs.lemmas.Bool.{lt-ltb, cond-true}
use Rattle.std.proofs.lemmas.Slice.Eq.{bytes_eq-Decides}
use Rattle.bhs_model.specs.declared.commands.Command.TheVariants.{Accuse}
use Rattle.bhs_model.specs.Runs.{Position, At, Bound, is_bound}
use Rattle.bhs_schedules.specs.declared.answers.Step.TheVariants.{Says}
use Rattle.bhs_protocols.specs.Configurations.{Configuration, can_move_in}
use Rattle.bhs_protocols.specs.Invariants.{GoesOn}
use Rattle.bhs_protocols.proofs.MovingLemmas.{end_stays}
use Rattle.bhs_protocols.proofs.TurnLemmas.{accuses as accuses_link}
use Rattle.bhs_protocols_charts.specs.Charts.{Chart, ChartRow, chart_of}
use Rattle.bhs_protocols_charts.specs.Charting.{Charting, GoesBack, Reports, GoesToAccuse, Ends}
use Rattle.bhs_protocols_charts.proofs.ChartState.{Game, Inv, IsPast, Holds, Found, IsAt, IsBack, IsAccusing, mem}
use Rattle.bhs_protocols_charts.proofs.ChartState.{trial as trial_of, degree, far, behind_port}
use Rattle.bhs_protocols_charts.proofs.ChartPast.{past_itself}
use Rattle.bhs_protocols_charts.proofs.ChartDecisions.{reads}
use Rattle.bhs_protocols_charts.proofs.ChartTurns.{new_of, quietly, told_rewakes, placed_as, accuses_as, says_as}
use Rattle.bhs_protocols_charts.proofs.ChartMoves.{claim_of, arrived, departed, has_room, at_moves, way_moves}

module _ (game : Game) {configuration : Configuration} {left : ℕ} (inv : Inv game configuration left) (agent : ℕ)
    (within : agent < game.terms.agents) where
  open game use {tells, home, hole}
  open configuration use {shown}

  abbrev M : Charting
  M = mem game configuration agent

  abbrev here : Position
  here = configuration.position agent

  abbrev Onward : Type 0
  Onward = GoesOn (Inv game) left (new_of game inv agent within)

  -- ---- on the way back

  -- what the agent has found behind its claimed port
  abbrev Finds : (row port : ℕ) → (found : Option ChartRow) → Type 0
  Finds row port found =
      Found game shown (behind_port game inv.place row port) found × (behind_port game inv.place row port ≢ hole)

  back_arrives : (row port next : ℕ) (found : Option ChartRow) (behind : List ℕ)
      → M ≡ GoesBack row port found (next ∷ behind) → Finds row port found → (way : IsBack game (next ∷ behind) here)
      → here ≡ Bound way.node next → Onward
  back_arrives row port next found [] is finds way at =
      let it : Charting = GoesBack row port found (next ∷ []) in
      let target : ℕ = (far game way.node next).0 in
      let label : ℕ = (far game way.node next).1 in
      let same : target ≡ home = way.back.2 in
      let claim : Holds game inv.chart inv.place (row, port) =
      claim_of game inv agent within it (row, port) is refl in
      let read : chart_of (degree game target) (shown target) ≡ inv.chart =
      ap (λ (k : ℕ). chart_of (degree game k) (shown k)) same ∙ reads game inv.charted in
      let fresh : ◌≡◌ {A = ℕ} (if bytes_eq (shown home) (shown target) then 0 else 1) 0 =
      cond-true _ _ _ ((bytes_eq-Decides (shown home) (shown target)).1 (ap shown (sym same))) in
      arrived game inv agent within it (Reports row port found (degree game target) (shown target)) way.node next is at
      way.back.1 refl refl (
        finds.0,
        finds.1,
        record { came = Some label; at = λ i. At (same i) (Some label) },
        ap (degree game) same,
        subst (λ (chart : Chart). IsPast game chart inv.chart) (sym read) (past_itself game inv.chart),
        subst (λ (chart : Chart). row < length chart) (sym read) claim.within,
      )
      (accuses_as game inv agent within it is)
      (record { way = omega arith; commands = omega (arith, fresh); turns = omega (arith, fresh) })
  back_arrives row port next found (more ∷ behind) is finds way at =
      let it : Charting = GoesBack row port found (next ∷ more ∷ behind) in
      let target : ℕ = (far game way.node next).0 in
      let label : ℕ = (far game way.node next).1 in
      let few = way.few in
      let on : IsBack game (more ∷ behind) (At target (Some label)) = record {
        node = target;
        on = inl (record { came = Some label; at = refl });
        back = way.back.2;
        some = omega arith;
        few = omega (arith, few);
      } in
      arrived game inv agent within it (GoesBack row port found (more ∷ behind)) way.node next is at way.back.1 refl
      refl (finds.0, finds.1, on)
      (accuses_as game inv agent within it is)
      (search arith)

  pub back_turn : (row port : ℕ) (found : Option ChartRow) (behind : List ℕ) → M ≡ GoesBack row port found behind
      → Onward
  back_turn row port found [] is =
      let some = (placed_as game inv agent within (GoesBack row port found []) is).2.some in
      absurd (omega (arith, some))
  back_turn row port found (next ∷ behind) is =
      let it : Charting = GoesBack row port found (next ∷ behind) in
      let placed = placed_as game inv agent within it is in
      let way : IsBack game (next ∷ behind) here = placed.2 in
      elim way.on [
        | inl at ↦
            let on : IsBack game (next ∷ behind) (Bound way.node next) =
            record { node = way.node; on = inr refl; back = way.back; some = way.some; few = way.few } in
            departed game inv agent within it way.node next at is refl way.back.0 refl (placed.0, placed.1, on)
            (search arith)
        | inr at ↦ back_arrives row port next found behind is (placed.0, placed.1) way at
      ]

  pub back_moves : (row port : ℕ) (found : Option ChartRow) (behind : List ℕ) → M ≡ GoesBack row port found behind
      → can_move_in (trial_of game) configuration agent ≡ true
  back_moves row port found [] is =
      let some = (placed_as game inv agent within (GoesBack row port found []) is).2.some in
      absurd (omega (arith, some))
  back_moves row port found (next ∷ behind) is =
      let it : Charting = GoesBack row port found (next ∷ behind) in
      let way : IsBack game (next ∷ behind) here = (placed_as game inv agent within it is).2 in
      way_moves game inv agent within it way.node next behind is refl way.on way.back.1

  -- ---- to accuse

  accuses_here : (port : ℕ) → M ≡ GoesToAccuse port [] → (way : IsAccusing game inv.chart port [] here)
      → (at : IsAt game way.node here) → Onward
  accuses_here port is way at =
      let it : Charting = GoesToAccuse port [] in
      let says : (trial_of game).strategies agent (configuration.history agent) ≡ Says (Accuse port) =
      says_as game inv agent within it is (ap is_bound at.at) in
      let enough : configuration.used agent < game.terms.quota =
      has_room game inv agent within it (At way.node at.came) is at.at (omega arith) in
      quietly game inv agent within
      (accuses_link (trial_of game) configuration agent within way.node port at.came at.at says enough
      (subst (λ (k : ℕ). port < degree game k) (sym way.way) way.has)) refl
      (λ k apart. told_rewakes game configuration agent within (At way.node at.came) (Accuse port) at.at refl says
      (lt-ltb (configuration.used agent) game.terms.quota enough) k)
      is at.at refl (record {
        charted = inv.charted;
        same_text = refl;
        names = λ other elsewhere father label shows. shows;
        seen_more = λ other was. was;
        holds = refl;
        placed = (refl, way.all);
        accuses = record {
          node = way.node;
          port = port;
          link = refl;
          leads = ap (λ (k : ℕ). (far game k port).0) way.way ∙ way.leads;
        };
        way = omega arith;
        commands = omega arith;
        turns = omega arith;
      })

  pub accuse_turn : (port : ℕ) (ahead : List ℕ) → M ≡ GoesToAccuse port ahead → Onward
  accuse_turn port [] is =
      let way : IsAccusing game inv.chart port [] here = placed_as game inv agent within (GoesToAccuse port []) is in
      elim way.on [ inl at ↦ accuses_here port is way at | inr none ↦ absurd none ]
  accuse_turn port (next ∷ ahead) is =
      let it : Charting = GoesToAccuse port (next ∷ ahead) in
      let way : IsAccusing game inv.chart port (next ∷ ahead) here = placed_as game inv agent within it is in
      let few = way.few in
      elim way.on [
        | inl at ↦ departed game inv agent within it way.node next at is refl way.way.0 refl
            (record {
              all = way.all;
              node = way.node;
              target = way.target;
              on = inr refl;
              way = way.way;
              has = way.has;
              leads = way.leads;
              few = way.few;
            })
            (search arith)
        | inr at ↦ arrived game inv agent within it (GoesToAccuse port ahead) way.node next is at way.way.1 refl refl
            (record {
              all = way.all;
              node = (far game way.node next).0;
              target = way.target;
              on = inl (record { came = Some (far game way.node next).1; at = refl });
              way = way.way.2;
              has = way.has;
              leads = way.leads;
              few = omega (arith, few);
            })
            (accuses_as game inv agent within it is)
            (search arith)
      ]

  pub accuse_moves : (port : ℕ) (ahead : List ℕ) → M ≡ GoesToAccuse port ahead
      → can_move_in (trial_of game) configuration agent ≡ true
  accuse_moves port [] is =
      let way : IsAccusing game inv.chart port [] here = placed_as game inv agent within (GoesToAccuse port []) is in
      elim way.on [
        | inl at ↦ at_moves game inv agent within (GoesToAccuse port []) way.node (Accuse port) is refl at
        | inr none ↦ absurd none
      ]
  accuse_moves port (next ∷ ahead) is =
      let it : Charting = GoesToAccuse port (next ∷ ahead) in
      let way : IsAccusing game inv.chart port (next ∷ ahead) here = placed_as game inv agent within it is in
      way_moves game inv agent within it way.node next ahead is refl way.on way.way.1

  -- ---- at the end

  -- who has accused cannot move
  pub end_still : M ≡ Ends → can_move_in (trial_of game) configuration agent ≡ false
  end_still is =
      end_stays (trial_of game) configuration agent within (placed_as game inv agent within Ends is).0
