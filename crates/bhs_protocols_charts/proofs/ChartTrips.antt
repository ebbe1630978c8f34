-- Agents that draw a chart: turns of an agent on its way out, and while it names a node.
use Rattle.std.proofs.Common.{ℕ, ◌+◌, ◌<◌, ◌≤◌, ◌≡◌, true, false, ◌==◌, Option, Some, List, [], ◌∷◌, length, refl, sym}
use Rattle.std.proofs.Common.{ap, ◌∙◌, subst, inl, inr, arith}
use Rattle.std.proofs.Math.Path.{transport, transport⁻¹}
use Rattle.std.specs.Prelude.{◌≢◌, bytes_eq}
use Rattle.std.proofs.lemmas.Bool.{true≢false, ne_eqb, lt-ltb, false_from_ne_true}
use Rattle.std.proofs.lemmas.Bool.Decides.{eqb_tells}
use Rattle.std.proofs.lemmas.Slice.Eq.{bytes_eq-Decides}
use Rattle.bhs_model.specs.declared.commands.Command.TheVariants.{Write, Depart}
use Rattle.bhs_model.specs.declared.replies.Reply.TheVariants.{Written, Changed}
use Rattle.bhs_model.specs.Worlds.{Network}
use Rattle.bhs_model.specs.Runs.{Position, At, Bound, changed, is_bound}
use Rattle.bhs_model.proofs.StepLemmas.{changed_same, changed_other}
use Rattle.bhs_schedules.specs.declared.answers.Step.TheVariants.{Says}
use Rattle.bhs_schedules.specs.Strategies.{Observation, Heard}
use Rattle.bhs_protocols.specs.Configurations.{Configuration, can_move_in}
use Rattle.bhs_protocols.specs.Invariants.{GoesOn}
use Rattle.bhs_protocols.proofs.TurnLemmas.{Becomes, writes, writes_not}
use Rattle.bhs_protocols_charts.specs.Charts.{ChartRow, new_row, name_of, row_named}
use Rattle.bhs_protocols_charts.specs.Charting.{Charting, GoesOut, Names, GoesBack, after_in, crossed, is_gone}
use Rattle.bhs_protocols_charts.proofs.ChartPaths.{IsWay, IsWayOut}
use Rattle.bhs_protocols_charts.proofs.ChartState.{Game, Inv, IsDrawn, IsShown, Holds, IsAt, IsOut, IsNaming, IsBack}
use Rattle.bhs_protocols_charts.proofs.ChartState.{Found, mem, trial as trial_of, graph, n as size, degree, far}
use Rattle.bhs_protocols_charts.proofs.ChartState.{behind_port}
use Rattle.bhs_protocols_charts.proofs.ChartNames.{name_fits, reading, names_stay, drawn_named}
use Rattle.bhs_protocols_charts.proofs.ChartTurns.{new_of, quietly, told_rewakes, placed_as, accuses_as, says_as}
use Rattle.bhs_protocols_charts.proofs.ChartMoves.{claim_of, has_room, departed, arrived, at_moves, link_moves}
use Rattle.bhs_protocols_charts.proofs.ChartMoves.{moves_safe}

-- whoever has crossed a port to a node with a text on its whiteboard goes back
crossed_back : (row port ports : ℕ) (board behind : List ℕ) → 0 < length board
    → crossed row port ports board behind ≡ GoesBack row port (row_named ports board) behind
crossed_back row port ports [] behind some = absurd (omega arith)
crossed_back row port ports (code ∷ board) behind some = refl

-- a way out begins by a port of the node
way_out_has : (net : Network) (hole node next : ℕ) (ahead : List ℕ) (place port : ℕ)
    → IsWayOut net hole node (next ∷ ahead) place port → port < net.degree place → next < net.degree node
way_out_has net hole node next [] place port out has = transport⁻¹ (λ i. out.1 i < net.degree (out.0 i)) has
way_out_has net hole node next (more ∷ ahead) place port out has = out.0

module _ (game : Game) where
  open game use {home, hole, can}

  -- from where a link leads one goes back by it
  way_back : (node port : ℕ) (behind : List ℕ) → port < degree game node → node ≢ hole
      → IsWay (graph game) hole node behind home
      → IsWay (graph game) hole (far game node port).0 ((far game node port).1 ∷ behind) home
  way_back node port behind has safe back =
      let again : far game (far game node port).0 (far game node port).1 ≡ (node, port) =
      can.network.labelled.back node port has in
      let same : node ≡ (far game (far game node port).0 (far game node port).1).0 =
      ap (λ (end : ℕ × ℕ). end.0) (sym again) in (
        can.network.labelled.within node port has,
        (λ hit. safe (same ∙ hit)),
        subst (λ (k : ℕ). IsWay (graph game) hole k behind home) same back,
      )

  way_some : (node : ℕ) (behind : List ℕ) → node ≢ home → IsWay (graph game) hole node behind home → 0 < length behind
  way_some node [] elsewhere back = absurd (elsewhere back)
  way_some node (next ∷ behind) elsewhere back = omega arith

module _ (game : Game) {configuration : Configuration} {left : ℕ} (inv : Inv game configuration left) (agent : ℕ)
    (within : agent < game.terms.agents) where
  open game use {tells, home, hole}
  open configuration use {shown, reached}

  abbrev M : Charting
  M = mem game configuration agent

  abbrev new : Configuration
  new = new_of game inv agent within

  abbrev here : Position
  here = configuration.position agent

  abbrev Onward : Type 0
  Onward = GoesOn (Inv game) left new

  -- ---- on the way out

  -- across the port that it has claimed: it finds a node to name, or goes back
  cross_turn : (row port next : ℕ) (behind : List ℕ) → M ≡ GoesOut row port (next ∷ []) behind
      → here ≡ Bound (inv.place row) port → behind_port game inv.place row port ≢ hole
      → IsWay (graph game) hole (inv.place row) behind home → length behind + 2 ≤ size game → Onward
  cross_turn row port next behind is at safe way few =
      let it : Charting = GoesOut row port (next ∷ []) behind in
      let target : ℕ = behind_port game inv.place row port in
      let label : ℕ = (far game (inv.place row) port).1 in
      let claim : Holds game inv.chart inv.place (row, port) = claim_of game inv agent within it (row, port) is refl in
      let there : IsAt game target (At target (Some label)) = record { came = Some label; at = refl } in
      let back : IsWay (graph game) hole target (label ∷ behind) home =
      way_back game (inv.place row) port behind claim.has (inv.charted.drawn.places.safe row claim.within) way in
      let accuses = accuses_as game inv agent within it is in
      elim (reading game inv.charted (row, port) claim target) [
        | inl h ↦ arrived game inv agent within it (Names row port (degree game target) (label ∷ behind))
            (inv.place row) port is at safe
            (ap (λ (board : List ℕ). crossed row port (degree game target) board (label ∷ behind)) h.1) refl
            (record {
              at = there;
              elsewhere = h.0;
              safe = safe;
              seen = changed_same reached target true;
              count = refl;
              back = back;
              few = omega (arith, few);
            })
            accuses (search arith)
        | inr h ↦
            let found : Option ChartRow = row_named (degree game target) (shown target) in
            let returning : IsBack game (label ∷ behind) (At target (Some label)) =
            record { node = target; on = inl there; back = back; some = omega arith; few = omega (arith, few) } in
            arrived game inv agent within it (GoesBack row port found (label ∷ behind)) (inv.place row) port is at safe
            (crossed_back row port (degree game target) (shown target) (label ∷ behind) h.0) refl
            (h.1, safe, returning) accuses (search arith)
      ]

  out_arrives : (row port next : ℕ) (ahead behind : List ℕ) → M ≡ GoesOut row port (next ∷ ahead) behind
      → (out : IsOut game (inv.place row) port (next ∷ ahead) behind here) → here ≡ Bound out.node next
      → (far game out.node next).0 ≢ hole → Onward
  out_arrives row port next [] behind is out at safe =
      cross_turn row port next behind is (at ∙ (λ i. Bound (out.out.0 i) (out.out.1 i)))
      (transport (λ i. (far game (out.out.0 i) (out.out.1 i)).0 ≢ hole) safe)
      (subst (λ (k : ℕ). IsWay (graph game) hole k behind home) out.out.0 out.back)
      (let few = out.few in omega (arith, few))
  out_arrives row port next (more ∷ ahead) behind is out at safe =
      let it : Charting = GoesOut row port (next ∷ more ∷ ahead) behind in
      let target : ℕ = (far game out.node next).0 in
      let label : ℕ = (far game out.node next).1 in
      let few = out.few in
      arrived game inv agent within it (GoesOut row port (more ∷ ahead) (label ∷ behind)) out.node next is at safe refl
      refl
      (record {
        node = target;
        safe = safe;
        on = inl (record { came = Some label; at = refl });
        out = out.out.2;
        back = way_back game out.node next behind out.out.0 out.safe out.back;
        few = omega (arith, few);
      })
      (accuses_as game inv agent within it is)
      (search arith)

  pub out_turn : (row port : ℕ) (ahead behind : List ℕ) → M ≡ GoesOut row port ahead behind
      → can_move_in (trial_of game) configuration agent ≡ true → Onward
  out_turn row port [] behind is moves = absurd (placed_as game inv agent within (GoesOut row port [] behind) is).out
  out_turn row port (next ∷ ahead) behind is moves =
      let it : Charting = GoesOut row port (next ∷ ahead) behind in
      let out : IsOut game (inv.place row) port (next ∷ ahead) behind here = placed_as game inv agent within it is in
      elim out.on [
        | inl at ↦ departed game inv agent within it out.node next at is refl
            (way_out_has (graph game) hole out.node next ahead (inv.place row) port out.out
            (claim_of game inv agent within it (row, port) is refl).has)
            refl
            (record {
              node = out.node;
              safe = out.safe;
              on = inr refl;
              out = out.out;
              back = out.back;
              few = out.few;
            })
            (search arith)
        | inr at ↦ out_arrives row port next ahead behind is out at
            (moves_safe game inv agent within out.node next at moves)
      ]

  -- who cannot move on its way out is lost: it is on the link by the port that it has claimed, to the black hole
  abbrev IsLost : (row port : ℕ) → Type 0
  IsLost row port = (here ≡ Bound (inv.place row) port) × (behind_port game inv.place row port ≡ hole)

  lost_at : (row port next : ℕ) (ahead behind : List ℕ)
      → (out : IsOut game (inv.place row) port (next ∷ ahead) behind here)
      → here ≡ Bound out.node next → (far game out.node next).0 ≡ hole → IsLost row port
  lost_at row port next [] behind out at hit = (
    at ∙ (λ i. Bound (out.out.0 i) (out.out.1 i)),
    (λ i. (far game (sym out.out.0 i) (sym out.out.1 i)).0) ∙ hit,
  )
  lost_at row port next (more ∷ ahead) behind out at hit = absurd (out.out.1 hit)

  pub out_rests : (row port : ℕ) (ahead behind : List ℕ) → M ≡ GoesOut row port ahead behind
      → can_move_in (trial_of game) configuration agent ≡ false → IsLost row port
  out_rests row port [] behind is rests = absurd (placed_as game inv agent within (GoesOut row port [] behind) is).out
  out_rests row port (next ∷ ahead) behind is rests =
      let it : Charting = GoesOut row port (next ∷ ahead) behind in
      let out : IsOut game (inv.place row) port (next ∷ ahead) behind here = placed_as game inv agent within it is in
      elim out.on [
        | inl at ↦
            absurd (true≢false (sym (at_moves game inv agent within it out.node (Depart next) is refl at) ∙ rests))
        | inr at ↦ elim (eqb_tells (far game out.node next).0 hole) [
          | inl h ↦ lost_at row port next ahead behind out at h.1
          | inr h ↦ absurd (true≢false (sym (link_moves game inv agent within out.node next at h.1) ∙ rests))
        ]
      ]

  -- ---- to name a node

  module _ (row port count : ℕ) (behind : List ℕ) (is : M ≡ Names row port count behind) where
    abbrev node : ℕ
    node = behind_port game inv.place row port

    abbrev naming : IsNaming game reached node count behind here
    naming = placed_as game inv agent within (Names row port count behind) is

    claim : Holds game inv.chart inv.place (row, port)
    claim = claim_of game inv agent within (Names row port count behind) (row, port) is refl

    says : (trial_of game).strategies agent (configuration.history agent) ≡ Says (Write [] (name_of row port))
    says = says_as game inv agent within (Names row port count behind) is (ap is_bound naming.at.at)

    enough : configuration.used agent < game.terms.quota
    enough = has_room game inv agent within (Names row port count behind) (At node naming.at.came) is naming.at.at
        (omega arith)

    returning : IsBack game behind (At node naming.at.came)
    returning = record {
      node = node;
      on = inl (record { came = naming.at.came; at = refl });
      back = naming.back;
      some = way_some game node behind naming.elsewhere naming.back;
      few = naming.few;
    }

    -- it goes back with what it has found
    found_turn : (found : Option ChartRow) (item : Observation) (showing : ℕ → List ℕ) → is_gone item ≡ false
        → Becomes configuration new agent (At node naming.at.came) item 1 0 (configuration.accused agent) showing
        reached
        → after_in (size game) tells (Names row port count behind) item ≡ GoesBack row port found behind
        → IsDrawn game inv.chart inv.place showing reached → showing home ≡ shown home
        → ((other father way : ℕ) → shown other ≡ name_of father way → showing other ≡ name_of father way)
        → Found game showing node found → Onward
    found_turn found item showing stays becomes after drawn same names it =
        quietly game inv agent within becomes stays
        (λ k apart. told_rewakes game configuration agent within (At node naming.at.came) (Write [] (name_of row port))
        naming.at.at refl says (lt-ltb (configuration.used agent) game.terms.quota enough) k)
        is naming.at.at after (record {
          charted = record {
            drawn = drawn;
            text = subst (λ (text : List ℕ). IsShown game inv.chart text) (sym same) inv.charted.text;
          };
          same_text = same;
          names = λ other elsewhere. names other;
          seen_more = λ other was. was;
          holds = refl;
          placed = (it, naming.safe, returning);
          accuses = accuses_as game inv agent within (Names row port count behind) is;
          way = omega arith;
          commands = omega arith;
          turns = omega arith;
        })

    pub name_turn : Onward
    name_turn = elim (reading game inv.charted (row, port) claim node) [
      | inl h ↦
          let put : List ℕ = name_of row port in
          let apart : (home == node) ≡ false = ne_eqb home node (λ same. h.0 (sym same)) in
          let shows : changed shown node put node ≡ put = changed_same shown node put in
          found_turn (Some (new_row row port count)) (Heard Written) (changed shown node put) refl
          (writes (trial_of game) configuration agent within node naming.at.came [] put naming.at.at says enough
          (name_fits game) ((bytes_eq-Decides (shown node) []).1 h.1))
          refl
          (drawn_named game node put inv.charted.drawn h.1 (record {
            father = row;
            port = port;
            within = claim.within;
            has = claim.has;
            leads = refl;
            shows = shows;
            seen = naming.seen;
            safe = naming.safe;
          }))
          (changed_other shown node home put apart) (names_stay game shown node put h.1)
          (inr (record {
            father = row;
            port = port;
            elsewhere = h.0;
            is = ap (λ (k : ℕ). Some (new_row row port k)) naming.count;
            shows = shows;
          }))
      | inr h ↦
          let some = h.0 in
          found_turn (row_named count (shown node)) (Heard (Changed (shown node))) shown refl
          (writes_not (trial_of game) configuration agent within node naming.at.came [] (name_of row port) naming.at.at
          says enough (name_fits game) (false_from_ne_true (bytes_eq (shown node) [])
          (λ yes. let none : length (shown node) ≡ 0 =
          ap (λ (text : List ℕ). length text) ((bytes_eq-Decides (shown node) []).0 yes) in omega (arith, none, some))))
          refl inv.charted.drawn refl (λ other father way has. has)
          (subst (λ (k : ℕ). Found game shown node (row_named k (shown node))) (sym naming.count) h.1)
    ]

  pub name_moves : (row port count : ℕ) (behind : List ℕ) → M ≡ Names row port count behind
      → can_move_in (trial_of game) configuration agent ≡ true
  name_moves row port count behind is =
      at_moves game inv agent within (Names row port count behind) (behind_port game inv.place row port)
      (Write [] (name_of row port)) is refl
      (placed_as game inv agent within (Names row port count behind) is).at
