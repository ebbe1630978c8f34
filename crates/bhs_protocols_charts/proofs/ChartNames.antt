-- Agents that draw a chart: names on whiteboards. What an agent reads behind a port, and that a chart stays right where
-- a node gets its name.
use Rattle.std.proofs.Common.{ℕ, ◌<◌, ◌≤◌, ◌≡◌, ◌⊎◌, Bool, true, List, [], length, sym, ap, ◌∙◌, subst, inl, inr, arith}
use Rattle.std.specs.Prelude.{◌≢◌}
use Rattle.std.proofs.lemmas.Bool.Decides.{eqb_tells}
use Rattle.bhs_model.specs.Runs.{changed}
use Rattle.bhs_model.proofs.StepLemmas.{changed_other}
use Rattle.bhs_protocols_charts.specs.Charts.{Chart, free, row_at, state_at, name_of, row_named, text_of}
use Rattle.bhs_protocols_charts.proofs.ChartTexts.{text_length, name_again, no_name}
use Rattle.bhs_protocols_charts.proofs.ChartLists.{new_states}
use Rattle.bhs_protocols_charts.proofs.ChartState.{Game, IsDrawn, IsCharted, Holds, HasName, Found, n as size, degree}

module _ (game : Game) where
  open game use {terms, home, can}

  -- a name fits on a whiteboard
  pub name_fits : 4 ≤ terms.board
  name_fits =
      let few : 3 ≤ size game = can.network.labelled.few in
      let board = can.enough.board in
      omega (arith, few, board)

  module _ {chart : Chart} {place : ℕ → ℕ} {shown : ℕ → List ℕ} {reached : ℕ → Bool}
      (charted : IsCharted game chart place shown reached) where
    -- while a port is claimed, the text on the home base's is longer than a name
    home_long : (end : ℕ × ℕ) → Holds game chart place end → 4 < length (shown home)
    home_long end holds = elim charted.text [
      | inl h ↦
          let within = holds.within in
          let one : length chart ≡ 1 = ap (λ (it : Chart). length it) h.1 in
          let first : end.0 ≡ 0 = omega (arith, within, one) in
          let none : state_at chart end.0 end.1 ≡ free =
          (λ i. state_at (h.1 i) (first i) end.1) ∙ new_states 0 0 (degree game home) end.1 in
          let is = holds.is in
          absurd (omega (arith, none, is))
      | inr h ↦
          let some = charted.drawn.some in
          let is = text_length chart in
          let same : length (shown home) ≡ length (text_of chart) = ap (λ (text : List ℕ). length text) h in
          omega (arith, some, is, same)
    ]

    -- What an agent with a claimed port reads behind it: nothing yet, or the node that it finds.
    abbrev pub Reading : (node : ℕ) → Type 0
    Reading node = ((node ≢ home) × (shown node ≡ []))
        ⊎ ((0 < length (shown node)) × Found game shown node (row_named (degree game node) (shown node)))

    pub reading : (end : ℕ × ℕ) → Holds game chart place end → (node : ℕ) → Reading node
    reading end holds node = elim (eqb_tells node home) [
      | inl h ↦
          let long : 4 < length (shown node) =
          subst (λ (k : ℕ). 4 < length (shown k)) (sym h.1) (home_long end holds) in
          inr (omega (arith, long), inl (h.1, no_name (degree game node) (shown node) long))
      | inr h ↦ elim (charted.drawn.names node h.1) [
        | inl none ↦ inl (h.1, none)
        | inr name ↦
            let long : length (shown node) ≡ 4 = ap (λ (text : List ℕ). length text) name.shows in
            inr (
              omega (arith, long),
              inr (record {
                father = name.father;
                port = name.port;
                elsewhere = h.1;
                is = ap (row_named (degree game node)) name.shows ∙ name_again (degree game node) name.father name.port;
                shows = name.shows;
              }),
            )
      ]
    ]

  -- ---- a chart stays right

  -- where names stay, more nodes may be reached, and a node without a name may have got one
  drawn_still : {chart : Chart} {place : ℕ → ℕ} {shown showing : ℕ → List ℕ} {reached seen : ℕ → Bool}
      → ((node : ℕ) → reached node ≡ true → seen node ≡ true)
      → ((node father port : ℕ) → shown node ≡ name_of father port → showing node ≡ name_of father port)
      → ((node : ℕ) → shown node ≡ [] → (showing node ≡ []) ⊎ HasName game chart place showing seen node)
      → IsDrawn game chart place shown reached → IsDrawn game chart place showing seen
  drawn_still {chart} {place} {shown} {showing} {reached} {seen} more names blank drawn = record {
    some = drawn.some;
    places = drawn.places;
    apart = drawn.apart;
    ports_are = drawn.ports_are;
    named = λ i later lt. names (place i) (row_at chart i).father (row_at chart i).port (drawn.named i later lt);
    names = λ node elsewhere. elim (drawn.names node elsewhere) [
      | inl h ↦ blank node h
      | inr h ↦ inr (record {
        father = h.father;
        port = h.port;
        within = h.within;
        has = h.has;
        leads = h.leads;
        shows = names node h.father h.port h.shows;
        seen = more node h.seen;
        safe = h.safe;
      })
    ];
    back = drawn.back;
    states = drawn.states;
  }

  -- where more nodes were reached
  pub charted_seen : {chart : Chart} {place : ℕ → ℕ} {shown : ℕ → List ℕ} {reached : ℕ → Bool} (seen : ℕ → Bool)
      → ((node : ℕ) → reached node ≡ true → seen node ≡ true) → IsCharted game chart place shown reached
      → IsCharted game chart place shown seen
  charted_seen seen more charted = record {
    drawn = drawn_still more (λ node father port shows. shows) (λ node none. inl none) charted.drawn;
    text = charted.text;
  }

  -- names stay where a node without one gets a text
  pub names_stay : (shown : ℕ → List ℕ) (node : ℕ) (put : List ℕ) → shown node ≡ [] → (other father port : ℕ)
      → shown other ≡ name_of father port → changed shown node put other ≡ name_of father port
  names_stay shown node put none other father port shows = elim (eqb_tells other node) [
    | inl h ↦
        let clash : [] ≡ name_of father port = sym none ∙ ap shown (sym h.1) ∙ shows in
        absurd (cc)
    | inr h ↦ changed_other shown node other put h.0 ∙ shows
  ]

  -- where a node gets its name
  pub drawn_named : {chart : Chart} {place : ℕ → ℕ} {shown : ℕ → List ℕ} {reached : ℕ → Bool} (node : ℕ) (put : List ℕ)
      → IsDrawn game chart place shown reached → shown node ≡ []
      → HasName game chart place (changed shown node put) reached node
      → IsDrawn game chart place (changed shown node put) reached
  drawn_named {chart} {place} {shown} {reached} node put drawn none name =
      drawn_still (λ other was. was) (names_stay shown node put none) (λ other blank. elim (eqb_tells other node) [
        | inl h ↦ inr (subst (λ (k : ℕ). HasName game chart place (changed shown node put) reached k) (sym h.1) name)
        | inr h ↦ inl (changed_other shown node other put h.0 ∙ blank)
      ]) drawn
