-- Agents that draw a chart: what an agent is about after it has decided at the home base.
use Rattle.std.proofs.Common.{ℕ, zero, suc, ◌+◌, ◌-◌, ◌<◌, ◌≤◌, ◌≡◌, Bool, true, false, Option, Some, None, List}
use Rattle.std.proofs.Common.{length, if◌then◌else◌, refl, sym, ap, ◌∙◌, subst, inl, inr, arith}
use Rattle.std.specs.Prelude.{bytes_eq}
use Rattle.std.proofs.lemmas.Bool.{cond-true, cond-false}
use Rattle.std.proofs.lemmas.Slice.Eq.{bytes_eq-Decides}
use Rattle.bhs_net.specs.Paths.{Path}
use Rattle.bhs_net.specs.Network.{Leads, degree_of, far_of}
use Rattle.bhs_model.specs.Runs.{Position, At}
use Rattle.bhs_model.proofs.StepLemmas.{by_cases}
use Rattle.bhs_protocols_charts.specs.Charts.{Chart, chart_of, is_sure, is_open, is_free, first_end, path}
use Rattle.bhs_protocols_charts.specs.Charting.{Charting, accusing, claiming, decided, GoesToAccuse}
use Rattle.bhs_protocols_charts.proofs.ChartTexts.{read_again}
use Rattle.bhs_protocols_charts.proofs.ChartLists.{first_is, none_passes}
use Rattle.bhs_protocols_charts.proofs.ChartPaths.{path_leads, path_short}
use Rattle.bhs_protocols_charts.proofs.ChartState.{Game, IsCharted, IsPast, IsPlaced, Accuses, held, way_left}
use Rattle.bhs_protocols_charts.proofs.ChartState.{commands_left, other_turns, looks_left, graph, n as size, degree}
use Rattle.bhs_protocols_charts.proofs.ChartPast.{past_itself}
use Rattle.bhs_protocols_charts.proofs.ChartCounts.{sure_parts, sure_some, open_leads, none_open}

module _ (game : Game) where
  open game use {net, terms, tells, home, hole, can}

  -- the black hole has a link
  pub hole_linked : 0 < degree_of net hole
  hole_linked = last (can.network.connected home hole can.start can.within).0
      (can.network.connected home hole can.start can.within).1
    where
      last : (steps : ℕ) → Path (Leads net) home hole steps → 0 < degree_of net hole
      last zero same = absurd (can.apart (sym same))
      last (suc steps) way =
          let step : Leads net way.0 hole = way.2 in
          let has : (far_of net way.0 step.0).1 < degree_of net (far_of net way.0 step.0).0 =
          can.network.labelled.within way.0 step.0 step.1 in
          let there : (far_of net way.0 step.0).1 < degree_of net hole =
          subst (λ (k : ℕ). (far_of net way.0 step.0).1 < degree_of net k) step.2 has in
          omega (arith, there)

  -- the whiteboard of the home base is read as the chart
  pub reads : {chart : Chart} {place : ℕ → ℕ} {shown : ℕ → List ℕ} {reached : ℕ → Bool}
      → IsCharted game chart place shown reached → chart_of (degree game home) (shown home) ≡ chart
  reads {chart} {place} {shown} {reached} charted = elim charted.text [
    | inl h ↦ ap (chart_of (degree game home)) h.0 ∙ sym h.1
    | inr h ↦ ap (chart_of (degree game home)) h ∙ read_again (degree game home) chart charted.drawn.some
  ]

  -- what holds of an agent at the home base that has decided
  pub record Decides (chart : Chart) (place : ℕ → ℕ) (shown : ℕ → List ℕ) (reached : ℕ → Bool) (woken : ℕ)
      (it : Charting) (position : Position) : Type 0 where
    pub placed : IsPlaced game chart place shown reached woken it position
    pub accuses : Accuses game it None
    pub holds : held it ≡ None
    pub way : way_left game it position ≤ size game - 2
    pub commands : commands_left game woken (shown home) it position ≤ looks_left game woken + (size game - 1)
    pub turns : other_turns game it position ≤ 1

  module _ {chart : Chart} {place : ℕ → ℕ} {shown : ℕ → List ℕ} {reached : ℕ → Bool}
      (charted : IsCharted game chart place shown reached) (woken count : ℕ) (text : List ℕ) (came : Option ℕ)
      (counts : count ≡ degree game home) (is : chart_of count text ≡ chart) (shows : text ≡ shown home) where
    abbrev Fits : Charting → Type 0
    Fits it = Decides chart place shown reached woken it (At home came)

    goes : (end : ℕ × ℕ) → is_sure (size game) tells chart ≡ true → first_end is_open chart 0 ≡ Some end
        → Fits (GoesToAccuse end.1 (path chart end.0))
    goes end sure first =
        let it = first_is is_open chart end first in
        let parts = sure_parts game charted.drawn sure in
        let row : end.0 < length chart = it.within in
        let has : end.1 < degree game (place end.0) =
        subst (λ (k : ℕ). end.1 < k) (charted.drawn.ports_are end.0 row) it.has in
        let short = path_short (graph game) home hole chart place charted.drawn.places end.0 row in
        let all = parts.0 in
        record {
          placed = record {
            all = parts.0;
            node = home;
            target = place end.0;
            on = inl (record { came = came; at = refl });
            way = path_leads (graph game) home hole chart place charted.drawn.places end.0 row;
            has = has;
            leads = open_leads game charted.drawn parts.0 parts.1 end.0 end.1 row has it.passes;
            few = omega (arith, short, row, all);
          };
          accuses = refl;
          holds = refl;
          way = omega (arith, short, row, all);
          commands = omega (arith, short, row, all);
          turns = omega arith;
        }

    accusing_fits : (first : Option (ℕ × ℕ)) → is_sure (size game) tells chart ≡ true
        → first_end is_open chart 0 ≡ first → Fits (accusing chart first)
    accusing_fits (Some end) sure is_first = goes end sure is_first
    accusing_fits None sure is_first =
        let some = sure_some game charted.drawn sure hole_linked in
        let none = none_open game charted.drawn (λ i p lt has. none_passes is_open chart is_first i p lt
        (subst (λ (k : ℕ). p < k) (sym (charted.drawn.ports_are i lt)) has)) in
        absurd (omega (arith, some, none))

    same_text : bytes_eq (shown home) text ≡ true
    same_text = (bytes_eq-Decides (shown home) text).1 (sym shows)

    claiming_fits : (first : Option (ℕ × ℕ)) → is_sure (size game) tells (chart_of count text) ≡ false
        → first_end is_free (chart_of count text) 0 ≡ first → Fits (claiming count text first)
    claiming_fits (Some end) unsure is_first =
        let none : (if bytes_eq (shown home) text then 0 else terms.wakeups + 2) ≡ 0 = cond-true _ _ _ same_text in
        record {
          placed = (
            record { came = came; at = refl },
            counts,
            is_first,
            subst (λ (c : Chart). IsPast game c chart) (sym is) (past_itself game chart),
          );
          accuses = refl;
          holds = refl;
          way = omega arith;
          commands = omega (arith, none);
          turns = omega arith;
        }
    claiming_fits None unsure is_first = record {
      placed = (
        record { came = came; at = refl },
        record { count = counts; none = is_first; unsure = unsure; fresh = λ some. shows },
      );
      accuses = refl;
      holds = refl;
      way = omega arith;
      commands = omega arith;
      turns = omega arith;
    }

    pub decided_fits : Fits (decided (size game) tells count text)
    decided_fits = by_cases (is_sure (size game) tells (chart_of count text))
        (Fits (decided (size game) tells count text))
        (λ sure. subst Fits (sym (cond-true _ _ _ sure))
        (subst (λ (c : Chart). Fits (accusing c (first_end is_open c 0))) (sym is)
        (accusing_fits (first_end is_open chart 0) (ap (is_sure (size game) tells) (sym is) ∙ sure) refl)))
        (λ none. subst Fits (sym (cond-false _ _ _ none))
        (claiming_fits (first_end is_free (chart_of count text) 0) none refl))
