-- Agents that draw a chart: a port is claimed, and its holder reports that it has come back from there.
use Rattle.std.proofs.Common.{ℕ, ◌+◌, ◌-◌, ◌*◌, ◌<◌, ◌≤◌, ◌≡◌, Bool, true, false, ◌==◌, Option}
use Rattle.std.proofs.Common.{List, [], ◌∷◌, ◌++◌, length, if◌then◌else◌, refl, sym, ap, ◌∙◌, subst, inl, inr, arith}
use Rattle.std.specs.Prelude.{◌≢◌, bytes_eq}
use Rattle.std.proofs.lemmas.Bool.{cond-true, cond-false, lt-ltb, ne_eqb, eqb-true}
use Rattle.std.proofs.lemmas.List.{length_push}
use Rattle.std.proofs.lemmas.Slice.Eq.{bytes_eq-Decides}
use Rattle.bhs_model.specs.declared.commands.Command.TheVariants.{Write}
use Rattle.bhs_model.specs.declared.replies.Reply.TheVariants.{Written}
use Rattle.bhs_model.specs.Runs.{At, changed, is_bound}
use Rattle.bhs_model.proofs.StepLemmas.{by_cases, changed_same, changed_other}
use Rattle.bhs_schedules.specs.Strategies.{Heard}
use Rattle.bhs_protocols.specs.Configurations.{Configuration}
use Rattle.bhs_protocols.specs.Invariants.{GoesOn}
use Rattle.bhs_protocols.proofs.SearchLemmas.{bytes_same}
use Rattle.bhs_protocols.proofs.TurnLemmas as turns
use Rattle.bhs_protocols_charts.specs.Charts.{Chart, ChartRow, claimed, done, free, chart_of, text_of, with_state}
use Rattle.bhs_protocols_charts.specs.Charts.{is_free}
use Rattle.bhs_protocols_charts.specs.Charts.{reported, path, state_at}
use Rattle.bhs_protocols_charts.specs.Charting.{Charting, Claims, GoesOut, Reports, decided}
use Rattle.bhs_protocols_charts.proofs.ChartLists.{IsEnd, ports_at, state_length}
use Rattle.bhs_protocols_charts.proofs.ChartTexts.{read_again}
use Rattle.bhs_protocols_charts.proofs.ChartPaths.{path_leads, path_short, way_out}
use Rattle.bhs_protocols_charts.proofs.ChartState.{Game, Inv, IsCharted, IsDrawn, IsPast, AreHeld, Holds, Found}
use Rattle.bhs_protocols_charts.proofs.ChartState.{Accuses, held, mem, trial as trial_of, n as size, degree, far, graph}
use Rattle.bhs_protocols_charts.proofs.ChartState.{refill}
use Rattle.bhs_protocols_charts.proofs.ChartState.{shared, taken, changes}
use Rattle.bhs_protocols_charts.proofs.ChartCounts.{rows_few}
use Rattle.bhs_protocols_charts.proofs.ChartPast.{past_itself, past_on}
use Rattle.bhs_protocols_charts.proofs.ChartDecisions.{Decides, decided_fits, reads}
use Rattle.bhs_protocols_charts.proofs.ChartStates.{text_drawn, state_drawn, state_past, claim_held, claim_taken}
use Rattle.bhs_protocols_charts.proofs.ChartStates.{report_held, report_taken}
use Rattle.bhs_protocols_charts.proofs.ChartDrawing.{report_fits, HasGrown, grown}
use Rattle.bhs_protocols_charts.proofs.ChartTurns.{M, new_of, quietly, kept, room, placed_as, accuses_as, says_as}
use Rattle.bhs_protocols_charts.proofs.ChartTurns.{Rewakes, after_as, told_rewakes, commands_as, turns_as, way_as}
use Rattle.bhs_protocols_charts.proofs.ChartHome.{three, claim_end, claim_small, late_claim}

-- k, unless the test passes
abbrev unless : Bool → (k : ℕ) → ℕ
unless test k = if test then 0 else k

module _ (game : Game) where
  open game use {terms, tells, home, hole, can}

  -- the whiteboard of the home base shows the text of the chart
  pub charted_by : {chart : Chart} {place : ℕ → ℕ} {shown : ℕ → List ℕ} {reached : ℕ → Bool} (text : List ℕ)
      → IsDrawn game chart place shown reached → text ≡ text_of chart
      → IsCharted game chart place (changed shown home text) reached
  charted_by {chart} {place} {shown} {reached} text drawn is = record {
    drawn = text_drawn game drawn text;
    text = inr (changed_same shown home text ∙ is);
  }

  -- ---- what changes pay

  one_more : (factor k more : ℕ) → more ≡ k + 1 → factor * more ≡ factor * k + factor
  one_more factor k more is = ap (λ (j : ℕ). factor * j) is ∙ times_more factor k
    where
      times_more : (factor k : ℕ) → factor * (k + 1) ≡ factor * k + factor
      times_more factor k = omega arith

  -- A changed state of a port pays for the repeated trips of the other agents.
  shared_more : (chart new_chart : Chart) → changes new_chart ≡ changes chart + 1
      → shared game new_chart ≡ shared game chart + terms.agents * (2 * refill game)
  shared_more chart new_chart is =
      ap (λ (j : ℕ). terms.agents * j) (one_more (2 * refill game) (changes chart) (changes new_chart) is)
      ∙ times_sum terms.agents (2 * refill game * changes chart) (2 * refill game)
    where
      times_sum : (factor k j : ℕ) → factor * (k + j) ≡ factor * k + factor * j
      times_sum factor k j = omega arith

  module _ {configuration : Configuration} {left : ℕ} (inv : Inv game configuration left) (agent : ℕ)
      (within : agent < terms.agents) where
    abbrev new : Configuration
    new = new_of game inv agent within

    abbrev mine : Charting
    mine = M game inv agent within

    abbrev shown : ℕ → List ℕ
    shown = configuration.shown

    abbrev holder : ℕ → Option (ℕ × ℕ)
    holder k = held (mem game configuration k)

    -- ---- a claim

    pub written_claim : (count : ℕ) (text : List ℕ) (row port : ℕ) → mine ≡ Claims count text row port
        → bytes_eq (shown home) text ≡ true → GoesOn (Inv game) left new
    written_claim count text row port is same =
        let it : Charting = Claims count text row port in
        let placed = placed_as game inv agent within it is in
        let came = placed.0.came in
        let at = placed.0.at in
        let says = says_as game inv agent within it is (ap is_bound at) in
        let shows : shown home ≡ text = (bytes_eq-Decides (shown home) text).0 same in
        let reading : chart_of count text ≡ inv.chart =
        (λ i. chart_of (placed.1 i) (sym shows i)) ∙ reads game inv.charted in
        let end : IsEnd inv.chart is_free row port = subst (λ (c : Chart). IsEnd c is_free row port) reading
        (claim_end game inv agent within count text row port is) in
        let drawn = inv.charted.drawn in
        let has : port < degree game (inv.place row) =
        subst (λ (k : ℕ). port < k) (drawn.ports_are row end.within) end.has in
        let state : state_at inv.chart row port ≡ free = eqb-true (state_at inv.chart row port) free end.passes in
        let new_chart : Chart = with_state inv.chart row port claimed in
        let put : List ℕ = text_of (with_state (chart_of count text) row port claimed) in
        let put_is : put ≡ text_of new_chart = ap (λ (c : Chart). text_of (with_state c row port claimed)) reading in
        let owes = commands_as game inv agent within it (At home came) is at in
        let some = three game in
        let space : configuration.used agent < terms.quota = room game inv agent within (omega (arith, owes, some)) in
        let becomes = turns.writes (trial_of game) configuration agent within home came text put at says space
        (claim_small game inv agent within count text row port is) same in
        let after : Charting = GoesOut row port (path inv.chart row ++ port ∷ []) [] in
        let new_drawn : IsDrawn game new_chart inv.place shown configuration.reached =
        state_drawn game drawn row port claimed end.within has (omega arith) (λ bad. absurd (omega (arith, bad))) in
        let size_is : length new_chart ≡ length inv.chart =
        state_length inv.chart row port claimed end.within end.has in
        let few = rows_few game drawn in
        let short = path_short (graph game) home hole inv.chart inv.place drawn.places row end.within in
        let push = length_push (path inv.chart row) port in
        let before = end.within in
        let more = claim_taken game drawn row port end.within has state in
        let fares_more = one_more (2 * (size game - 1)) (taken inv.chart) (taken new_chart) more.0 in
        let taken_more = one_more (2 * size game - 1) (taken inv.chart) (taken new_chart) more.0 in
        let changes_more = one_more (refill game) (changes inv.chart) (changes new_chart) more.1 in
        let way_is = way_as game inv agent within it (At home came) is at in
        let turns_is = turns_as game inv agent within it (At home came) is at in
        kept game inv agent within becomes refl
        (λ k apart. told_rewakes game configuration agent within (At home came) (Write text put) at refl says
        (lt-ltb (configuration.used agent) terms.quota space) k)
        (after_as game inv agent within it (Heard Written) is becomes.news
        ∙ ap (λ (c : Chart). GoesOut row port (path c row ++ port ∷ []) []) reading)
        (record {
          chart = new_chart;
          place = inv.place;
          fare = 2 * (size game - 1);
          pays = 2 * size game - 1 + refill game;
          rise = refill game;
          charted = charted_by put new_drawn put_is;
          grows = record {
            longer = omega (arith, size_is);
            few = omega (arith, size_is, few);
            same_place = λ i lt. refl;
            names = λ node elsewhere father q named.
                changed_other shown home node put (ne_eqb node home elsewhere) ∙ named;
            seen = λ node seen. seen;
            past = state_past game drawn row port claimed end.within has;
          };
          claims = claim_held game drawn row port agent holder end.within has within state (ap held is) inv.claims;
          placed = record {
            node = home;
            safe = λ bad. can.apart (sym bad);
            on = inl (record { came = came; at = refl });
            out = way_out (graph game) hole home (path inv.chart row) (inv.place row) port
                (path_leads (graph game) home hole inv.chart inv.place drawn.places row end.within);
            back = refl;
            few = omega (arith, push, short, before, few);
          };
          accuses = accuses_as game inv agent within it is;
          quiet = inr refl;
          rise_paid = omega arith;
          fares_are = fares_more;
          paid_is = omega (arith, taken_more, changes_more);
          shared_is = shared_more inv.chart new_chart more.1;
          way = omega (arith, way_is, push, short, before, few);
          commands = omega (arith, owes, push, short, before, few);
          turns = omega (arith, turns_is, push, short, before, few);
        })

    pub claim_turn : (count : ℕ) (text : List ℕ) (row port : ℕ) → mine ≡ Claims count text row port
        → GoesOn (Inv game) left new
    claim_turn count text row port is = by_cases (bytes_eq (shown home) text) (GoesOn (Inv game) left new)
        (written_claim count text row port is) (late_claim game inv agent within count text row port is)

    -- ---- a report

    module _ (row port : ℕ) (found : Option ChartRow) (count : ℕ) (text : List ℕ)
        (is : mine ≡ Reports row port found count text) where
      -- The agent's position, and the port that it has claimed with the node that it has found.
      pub record IsReporting : Type 0 where
        pub holds : Holds game inv.chart inv.place (row, port)
        pub finds : Found game shown (far game (inv.place row) port).0 found
        pub safe : (far game (inv.place row) port).0 ≢ hole
        pub came : Option ℕ
        pub at : configuration.position agent ≡ At home came
        pub counts : count ≡ degree game home
        pub past : IsPast game (chart_of count text) inv.chart
        pub known : row < length (chart_of count text)

      reporting : IsReporting
      reporting =
          let placed = placed_as game inv agent within (Reports row port found count text) is in
          record {
            holds = inv.claims.holds agent within (row, port) (ap held is);
            finds = placed.0;
            safe = placed.1;
            came = placed.2.came;
            at = placed.2.at;
            counts = placed.3;
            past = placed.4;
            known = placed.5;
          }

      small : length (text_of (reported (chart_of count text) row port found)) ≤ terms.board
      small =
          let r : IsReporting = reporting in
          let ports_are = r.past.ports_are row r.known ∙ inv.charted.drawn.ports_are row r.holds.within in
          let has : port < ports_at (chart_of count text) row =
          subst (λ (k : ℕ). port < k) (sym ports_are) r.holds.has in
          let few = report_fits game inv.charted.drawn (chart_of count text) row port found r.past r.known has r.safe
          r.finds in
          let board = can.enough.board in
          omega (arith, few, board)

      space : configuration.used agent < terms.quota
      space =
          let owes = commands_as game inv agent within (Reports row port found count text) (At home reporting.came) is
          reporting.at in
          let some = three game in
          room game inv agent within (omega (arith, owes, some))

      again : (k : ℕ) → Rewakes game configuration new k
      again = told_rewakes game configuration agent within (At home reporting.came)
          (Write text (text_of (reported (chart_of count text) row port found))) reporting.at refl
          (says_as game inv agent within (Reports row port found count text) is (ap is_bound reporting.at))
          (lt-ltb (configuration.used agent) terms.quota space)

      -- the whiteboard has changed since it was read
      late_report : bytes_eq (shown home) text ≡ false → GoesOn (Inv game) left new
      late_report unlike =
          let r : IsReporting = reporting in
          let owed : unless (bytes_eq (shown home) text) 1 ≡ 1 = cond-false _ _ _ unlike in
          let none : unless (bytes_eq (shown home) (shown home)) 1 ≡ 0 =
          cond-true _ _ _ (bytes_same (shown home)) in
          let reading : chart_of count (shown home) ≡ inv.chart =
          ap (λ (k : ℕ). chart_of k (shown home)) r.counts ∙ reads game inv.charted in
          quietly game inv agent within
          (turns.writes_not (trial_of game) configuration agent within home r.came text
          (text_of (reported (chart_of count text) row port found)) r.at
          (says_as game inv agent within (Reports row port found count text) is (ap is_bound reporting.at))
          space small unlike) refl
          (λ k apart. again k) is r.at refl (record {
            charted = inv.charted;
            same_text = refl;
            names = λ node elsewhere father q named. named;
            seen_more = λ node seen. seen;
            holds = refl;
            placed = (
              r.finds,
              r.safe,
              record { came = r.came; at = refl },
              r.counts,
              subst (λ (c : Chart). IsPast game c inv.chart) (sym reading) (past_itself game inv.chart),
              subst (λ (c : Chart). row < length c) (sym reading) r.holds.within,
            );
            accuses = accuses_as game inv agent within (Reports row port found count text) is;
            way = omega arith;
            commands = omega (arith, owed, none);
            turns = omega (arith, owed, none);
          })

      -- it has not
      written_report : bytes_eq (shown home) text ≡ true → GoesOn (Inv game) left new
      written_report same =
          let r : IsReporting = reporting in
          let it : Charting = Reports row port found count text in
          let shows : shown home ≡ text = (bytes_eq-Decides (shown home) text).0 same in
          let reading : chart_of count text ≡ inv.chart =
          (λ i. chart_of (r.counts i) (sym shows i)) ∙ reads game inv.charted in
          let g : HasGrown game inv.charted.drawn row port found holder =
          grown game inv.charted.drawn row port found holder r.holds.within r.holds.has r.safe r.finds inv.claims in
          let longer = g.past.shorter in
          let early = r.holds.within in
          let still_within : row < length g.chart_then = omega (arith, longer, early) in
          let still_has : port < degree game (g.place_then row) =
          subst (λ (k : ℕ). port < degree game k) (sym (g.same_place row early)) r.holds.has in
          let still_claimed : state_at g.chart_then row port ≡ claimed = g.same_states row port early ∙ r.holds.is in
          let still_port : port < ports_at g.chart_then row =
          subst (λ (k : ℕ). port < k) (sym (g.drawn_then.ports_are row still_within)) still_has in
          let new_chart : Chart = with_state g.chart_then row port done in
          let sent : List ℕ = text_of (reported (chart_of count text) row port found) in
          let sent_is : sent ≡ text_of new_chart =
          ap (λ (c : Chart). text_of (reported c row port found)) reading ∙ ap text_of g.is in
          let new_drawn : IsDrawn game new_chart g.place_then shown configuration.reached =
          state_drawn game g.drawn_then row port done still_within still_has (omega arith) (λ same. g.leads) in
          let new_charted = charted_by sent new_drawn sent_is in
          let new_reading : chart_of count sent ≡ new_chart =
          ap (chart_of count) sent_is ∙ read_again count new_chart new_drawn.some in
          let fits : Decides game new_chart g.place_then (changed shown home sent) configuration.reached
          (new.woken agent) (decided (size game) tells count sent) (At home r.came) =
          decided_fits game new_charted (new.woken agent) count sent r.came r.counts new_reading
          (sym (changed_same shown home sent)) in
          let size_is : length new_chart ≡ length g.chart_then =
          state_length g.chart_then row port done still_within still_port in
          let few = rows_few game g.drawn_then in
          let more = report_taken game g.drawn_then row port still_within still_has still_claimed in
          let taken_same : taken new_chart ≡ taken inv.chart = more.0 ∙ g.same_taken in
          let changes_more : changes new_chart ≡ changes inv.chart + 1 =
          more.1 ∙ ap (λ (k : ℕ). k + 1) g.same_changes in
          let fares_same = ap (λ (k : ℕ). 2 * (size game - 1) * k) taken_same in
          let taken_paid = ap (λ (k : ℕ). (2 * size game - 1) * k) taken_same in
          let changes_paid = one_more (refill game) (changes inv.chart) (changes new_chart) changes_more in
          let becomes = turns.writes (trial_of game) configuration agent within home r.came text sent r.at
          (says_as game inv agent within it is (ap is_bound r.at)) space small same in
          let none : unless (bytes_eq (shown home) text) 1 ≡ 0 = cond-true _ _ _ same in
          let way_is = way_as game inv agent within it (At home r.came) is r.at in
          let owes = commands_as game inv agent within it (At home r.came) is r.at in
          let turns_is = turns_as game inv agent within it (At home r.came) is r.at in
          let few_moves = fits.way in
          let few_commands = fits.commands in
          let few_turns = fits.turns in
          kept game inv agent within becomes refl (λ k apart. again k)
          (after_as game inv agent within it (Heard Written) is becomes.news)
          (record {
            chart = new_chart;
            place = g.place_then;
            fare = 0;
            pays = refill game;
            rise = refill game;
            charted = new_charted;
            grows = record {
              longer = omega (arith, longer, size_is);
              few = omega (arith, few, size_is);
              same_place = g.same_place;
              names = λ node elsewhere father q named.
                  changed_other shown home node sent (ne_eqb node home elsewhere) ∙ named;
              seen = λ node seen. seen;
              past = past_on game inv.chart g.chart_then new_chart g.past
                  (state_past game g.drawn_then row port done still_within still_has);
            };
            claims = subst (λ (h : Option (ℕ × ℕ)). AreHeld game new_chart g.place_then
                (λ k. if k == agent then h else holder k)) (sym fits.holds)
                (report_held game g.drawn_then row port agent holder still_within still_has within (ap held is) g.held);
            placed = fits.placed;
            accuses = subst (λ (link : Option (ℕ × ℕ)). Accuses game (decided (size game) tells count sent) link)
                (sym (accuses_as game inv agent within it is)) fits.accuses;
            quiet = inr refl;
            rise_paid = omega arith;
            fares_are = omega (arith, fares_same);
            paid_is = omega (arith, taken_paid, changes_paid);
            shared_is = shared_more inv.chart new_chart changes_more;
            way = omega (arith, few_moves, way_is);
            commands = omega (arith, few_commands, owes, none);
            turns = omega (arith, few_commands, few_turns, turns_is, none);
          })

      pub report_turn : GoesOn (Inv game) left new
      report_turn = by_cases (bytes_eq (shown home) text) (GoesOn (Inv game) left new) written_report late_report
