-- Agents that draw a chart: what a turn of one agent has to keep so that the invariant holds after it.
use Rattle.std.proofs.Common.{ℕ, ◌+◌, ◌-◌, ◌*◌, ◌<◌, ◌≤◌, ◌≡◌, ◌⊎◌, Bool, true, false, ◌==◌, Option, Some}
use Rattle.std.proofs.Common.{List, ◌∷◌, length, if◌then◌else◌, refl, sym, ap, ◌∙◌, subst, inl, inr, arith}
use Rattle.std.proofs.Math.Path.{transport⁻¹}
use Rattle.std.specs.Prelude.{◌≢◌, bytes_eq}
use Rattle.std.proofs.lemmas.Bool.{cond-true, cond-false, ne_eqb}
use Rattle.std.proofs.lemmas.Bool.Decides.{eqb_tells}
use Rattle.std.proofs.lemmas.Slice.Eq.{bytes_eq-Decides}
use Rattle.bhs_model.specs.Runs.{Position, is_bound}
use Rattle.bhs_model.proofs.StepLemmas.{by_cases}
use Rattle.bhs_schedules.specs.Strategies.{Observation, History}
use Rattle.bhs_protocols.specs.Configurations.{Configuration}
use Rattle.bhs_protocols.specs.Invariants.{GoesOn}
use Rattle.bhs_protocols.specs.Programs.{held_after}
use Rattle.bhs_protocols_charts.specs.Charts.{Chart, ChartRow, name_of, chart_of}
use Rattle.bhs_protocols_charts.specs.Charting.{Charting, Begins, Waits, Looks, Claims, GoesOut, Names, GoesBack}
use Rattle.bhs_protocols_charts.specs.Charting.{Reports}
use Rattle.bhs_protocols_charts.specs.Charting.{GoesToAccuse, Ends, is_gone, charters}
use Rattle.bhs_protocols_charts.proofs.Totals.{total, total_changed, total_raised}
use Rattle.bhs_protocols_charts.proofs.ChartState.{Game, Inv, has_left, IsFit, IsPlaced, IsCharted, AreHeld}
use Rattle.bhs_protocols_charts.proofs.ChartState.{Accuses, IsAt}
use Rattle.bhs_protocols_charts.proofs.ChartState.{IsOut, IsNaming, Found, IsBack, IsWaiting, IsPast, held}
use Rattle.bhs_protocols_charts.proofs.ChartState.{mem, n as nodes, degree, far, commands_left, turns_left, way_left}
use Rattle.bhs_protocols_charts.proofs.ChartState.{commands_of, turns_of, refill, fares, paid, shared}
use Rattle.bhs_protocols_charts.proofs.ChartState.{other_turns, ways_left}
use Rattle.bhs_protocols_charts.proofs.ChartPast.{past_on}
use Rattle.bhs_protocols_charts.proofs.ChartCounts.{paid_few, shared_few}

module _ (game : Game) where
  open game use {terms, home}

  -- What a turn may change of the chart and of whiteboards: rows stay where they are, names stay, nodes that were
  -- reached stay so.
  pub record Grows (chart : Chart) (place : ℕ → ℕ) (shown : ℕ → List ℕ) (reached : ℕ → Bool) (grown_chart : Chart)
      (grown_place : ℕ → ℕ) (showing : ℕ → List ℕ) (seen_now : ℕ → Bool) : Type 0 where
    pub longer : length chart ≤ length grown_chart
    pub few : length grown_chart + 1 ≤ nodes game
    pub same_place : (i : ℕ) → i < length chart → grown_place i ≡ place i
    pub names : (node : ℕ) → node ≢ home → (father port : ℕ) → shown node ≡ name_of father port
        → showing node ≡ name_of father port
    pub seen : (node : ℕ) → reached node ≡ true → seen_now node ≡ true
    pub past : IsPast game chart grown_chart

  -- an agent at the home base that has woken stands before the same text, and has woken as often before
  abbrev pub WakesAlike : (woken woken_now : ℕ) → (text text_now : List ℕ) → Position → Type 0
  WakesAlike woken woken_now text text_now position =
      IsAt game home position → 0 < woken_now → (text_now ≡ text) × (woken_now ≡ woken)

  module _ {chart grown_chart : Chart} {place grown_place : ℕ → ℕ} {shown showing : ℕ → List ℕ}
      {reached seen_now : ℕ → Bool}
      (grows : Grows chart place shown reached grown_chart grown_place showing seen_now) where
    found_kept : (node : ℕ) → (found : Option ChartRow) → Found game shown node found → Found game showing node found
    found_kept node found it = elim it [
      | inl h ↦ inl h
      | inr h ↦ inr (record {
        father = h.father;
        port = h.port;
        elsewhere = h.elsewhere;
        is = h.is;
        shows = grows.names node h.elsewhere h.father h.port h.shows;
      })
    ]

    naming_kept : (node count : ℕ) (behind : List ℕ) (position : Position)
        → IsNaming game reached node count behind position
        → IsNaming game seen_now node count behind position
    naming_kept node count behind position it = record {
      at = it.at;
      elsewhere = it.elsewhere;
      safe = it.safe;
      seen = grows.seen node it.seen;
      count = it.count;
      back = it.back;
      few = it.few;
    }

    past_kept : (old : Chart) → IsPast game old chart → IsPast game old grown_chart
    past_kept old it = past_on game old chart grown_chart it grows.past

    all_kept : length chart + 1 ≡ nodes game → length grown_chart + 1 ≡ nodes game
    all_kept all = let longer = grows.longer in let few = grows.few in omega (arith, all, longer, few)

    waiting_kept : (woken woken_now count : ℕ) (text : List ℕ)
        → (0 < woken_now → (showing home ≡ shown home) × (woken_now ≡ woken))
        → IsWaiting game woken (shown home) count text → IsWaiting game woken_now (showing home) count text
    waiting_kept woken woken_now count text wakes it = record {
      count = it.count;
      none = it.none;
      unsure = it.unsure;
      fresh = λ some. it.fresh (subst (λ (k : ℕ). 0 < k) (wakes some).1 some) ∙ sym (wakes some).0;
    }

    -- where another agent is
    pub placed_kept : (woken woken_now : ℕ) (it : Charting) (position : Position)
        → ((end : ℕ × ℕ) → held it ≡ Some end → end.0 < length chart)
        → WakesAlike woken woken_now (shown home) (showing home) position
        → IsPlaced game chart place shown reached woken it position
        → IsPlaced game grown_chart grown_place showing seen_now woken_now it position
    placed_kept woken woken_now Begins position holds wakes is = is
    placed_kept woken woken_now (Waits count text) position holds wakes is =
        (is.0, waiting_kept woken woken_now count text (wakes is.0) is.1)
    placed_kept woken woken_now Looks position holds wakes is = is
    placed_kept woken woken_now (Claims count text row port) position holds wakes is =
        (is.0, is.1, is.2, past_kept (chart_of count text) is.3)
    placed_kept woken woken_now (GoesOut row port ahead behind) position holds wakes is =
        subst (λ (k : ℕ). IsOut game k port ahead behind position)
        (sym (grows.same_place row (holds (row, port) refl))) is
    placed_kept woken woken_now (Names row port count behind) position holds wakes is =
        subst (λ (k : ℕ). IsNaming game seen_now (far game k port).0 count behind position)
        (sym (grows.same_place row (holds (row, port) refl)))
        (naming_kept (far game (place row) port).0 count behind position is)
    placed_kept woken woken_now (GoesBack row port found behind) position holds wakes is =
        subst (λ (k : ℕ). Found game showing (far game k port).0 found × ((far game k port).0 ≢ game.hole)
        × IsBack game behind position) (sym (grows.same_place row (holds (row, port) refl)))
        (found_kept (far game (place row) port).0 found is.0, is.1, is.2)
    placed_kept woken woken_now (Reports row port found count text) position holds wakes is =
        subst (λ (k : ℕ). Found game showing (far game k port).0 found × ((far game k port).0 ≢ game.hole)
        × IsAt game home position × (count ≡ degree game home) × IsPast game (chart_of count text) grown_chart
        × (row < length (chart_of count text))) (sym (grows.same_place row (holds (row, port) refl))) (
          found_kept (far game (place row) port).0 found is.0,
          is.1,
          is.2,
          is.3,
          past_kept (chart_of count text) is.4,
          is.5,
        )
    placed_kept woken woken_now (GoesToAccuse port ahead) position holds wakes is = record {
      all = all_kept is.all;
      node = is.node;
      target = is.target;
      on = is.on;
      way = is.way;
      has = is.has;
      leads = is.leads;
      few = is.few;
    }
    placed_kept woken woken_now Ends position holds wakes is = (is.0, all_kept is.1)

  -- ---- the debts of other agents after a turn

  -- The home base's whiteboard is unchanged, and an agent that stands there has the same number of wake-ups; or the
  -- turn pays for the repeated trips of the other agents.
  abbrev pub IsQuietFor : (rise woken woken_now : ℕ) → (text text_now : List ℕ) → Position → Type 0
  IsQuietFor rise woken woken_now text text_now position =
      ((text_now ≡ text) × (IsAt game home position → woken_now ≡ woken)) ⊎ (rise ≡ refill game)

  -- k, unless the whiteboard shows this text
  abbrev choice : (k : ℕ) → (text shown : List ℕ) → ℕ
  choice k text shown = if bytes_eq shown text then 0 else k

  choice_small : (test : Bool) (k : ℕ) → (if test then 0 else k) ≤ k
  choice_small true k = omega arith
  choice_small false k = omega arith

  pub others_owe : (chart : Chart) (place : ℕ → ℕ) (shown : ℕ → List ℕ) (reached : ℕ → Bool)
      (rise woken woken_now : ℕ) (text_now : List ℕ) (it : Charting) (position : Position)
      → IsPlaced game chart place shown reached woken it position
      → IsQuietFor rise woken woken_now (shown home) text_now position
      → commands_left game woken_now text_now it position ≤ commands_left game woken (shown home) it position + rise
  others_owe chart place shown reached rise woken woken_now text_now Begins position is quiet = omega arith
  others_owe chart place shown reached rise woken woken_now text_now (Waits count text) position is quiet = elim quiet [
    | inl h ↦ let same = h.1 is.0 in omega (arith, same)
    | inr h ↦ omega (arith, h)
  ]
  others_owe chart place shown reached rise woken woken_now text_now Looks position is quiet = elim quiet [
    | inl h ↦ let same = h.1 is in omega (arith, same)
    | inr h ↦ omega (arith, h)
  ]
  others_owe chart place shown reached rise woken woken_now text_now (Claims count text row port) position is quiet =
      elim quiet [
        | inl h ↦
            let same = ap (choice (terms.wakeups + 2) text) h.0 in
            omega (arith, same)
        | inr h ↦
            let small = choice_small (bytes_eq text_now text) (terms.wakeups + 2) in
            omega (arith, small, h)
      ]
  others_owe chart place shown reached rise woken woken_now text_now (GoesOut row port ahead behind) position is quiet =
      omega arith
  others_owe chart place shown reached rise woken woken_now text_now (Names row port count behind) position is quiet =
      omega arith
  others_owe chart place shown reached rise woken woken_now text_now (GoesBack row port found behind) position is
      quiet = omega arith
  others_owe chart place shown reached rise woken woken_now text_now (Reports row port found count text) position is
      quiet = elim quiet [
        | inl h ↦
            let same = ap (choice 1 text) h.0 in
            omega (arith, same)
        | inr h ↦
            let small = choice_small (bytes_eq text_now text) 1 in
            omega (arith, small, h)
      ]
  others_owe chart place shown reached rise woken woken_now text_now (GoesToAccuse port ahead) position is quiet =
      omega arith
  others_owe chart place shown reached rise woken woken_now text_now Ends position is quiet = omega arith

  -- ---- a turn

  -- what a turn of an agent makes of a configuration
  pub record Turned (old new : Configuration) (agent : ℕ) (there : Position) (item : Observation) (cost moved : ℕ)
      (accusation : Option (ℕ × ℕ)) : Type 0 where
    pub place : new.position agent ≡ there
    pub news : new.history agent ≡ item ∷ old.history agent
    pub used : new.used agent ≡ old.used agent + cost
    pub accused : new.accused agent ≡ accusation
    pub moves : new.moves ≡ old.moves + moved
    pub other_place : (k : ℕ) → (k == agent) ≡ false → new.position k ≡ old.position k
    pub other_news : (k : ℕ) → (k == agent) ≡ false → new.history k ≡ old.history k
    pub other_used : (k : ℕ) → (k == agent) ≡ false → new.used k ≡ old.used k
    pub other_accused : (k : ℕ) → (k == agent) ≡ false → new.accused k ≡ old.accused k
    pub other_woken : (k : ℕ) → (k == agent) ≡ false → IsAt game home (old.position k)
        → new.woken k ≡ (if bytes_eq (old.shown home) (new.shown home) then old.woken k else 0)

  -- If an agent at home has woken since the last change, the text is the same, and it has woken as often as before.
  wakes_alike : (old new : List ℕ) (woken woken_now : ℕ) → woken_now ≡ (if bytes_eq old new then woken else 0)
      → 0 < woken_now → (new ≡ old) × (woken_now ≡ woken)
  wakes_alike old new woken woken_now is some = by_cases (bytes_eq old new) ((new ≡ old) × (woken_now ≡ woken))
      (λ yes. (sym ((bytes_eq-Decides old new).0 yes), is ∙ cond-true _ _ _ yes))
      (λ none. let never : woken_now ≡ 0 = is ∙ cond-false _ _ _ none in absurd (omega (arith, some, never)))

  pub woken_same : (old new : List ℕ) (woken woken_now : ℕ) → woken_now ≡ (if bytes_eq old new then woken else 0)
      → new ≡ old
      → woken_now ≡ woken
  woken_same old new woken woken_now is same = is ∙ cond-true _ _ _ ((bytes_eq-Decides old new).1 (sym same))

  -- The obligations of an agent's turn. The turn may pay for moves, for commands, and for repeated trips of other
  -- agents.
  pub record Keeps {old : Configuration} {left : ℕ} (inv : Inv game old left) (agent : ℕ) (showing : ℕ → List ℕ)
      (seen : ℕ → Bool) (woken : ℕ) (after : Charting) (there : Position) (accusation : Option (ℕ × ℕ))
      (cost moved : ℕ) : Type 0 where
    pub chart : Chart
    pub place : ℕ → ℕ
    pub fare : ℕ
    pub pays : ℕ
    pub rise : ℕ
    pub charted : IsCharted game chart place showing seen
    pub grows : Grows inv.chart inv.place old.shown old.reached chart place showing seen
    pub claims : AreHeld game chart place (λ k. if k == agent then held after else held (mem game old k))
    pub placed : IsPlaced game chart place showing seen woken after there
    pub accuses : Accuses game after accusation
    pub quiet : (showing home ≡ old.shown home) ⊎ (rise ≡ refill game)
    pub rise_paid : rise ≤ pays
    pub fares_are : fares game chart ≡ fares game inv.chart + fare
    pub paid_is : paid game chart ≡ paid game inv.chart + pays
    pub shared_is : shared game chart ≡ shared game inv.chart + terms.agents * (2 * rise)
    pub way : way_left game after there + moved ≤ way_left game (mem game old agent) (old.position agent) + fare
    pub commands : commands_left game woken (showing home) after there + cost
        ≤ commands_of game old agent + pays
    pub turns : turns_left game woken (showing home) after there + 1
        ≤ turns_of game old agent + 2 * pays

  module _ {old new : Configuration} {left agent : ℕ} {there : Position} {item : Observation} {cost moved : ℕ}
      {accusation : Option (ℕ × ℕ)} (inv : Inv game old left) (within : agent < terms.agents)
      (turned : Turned old new agent there item cost moved accusation) {after : Charting}
      (is : mem game new agent ≡ after) (follows : is_gone item ≡ is_bound there)
      (keeps : Keeps inv agent new.shown new.reached (new.woken agent) after there
      accusation cost moved) where
    other_mem : (k : ℕ) → (k == agent) ≡ false → mem game new k ≡ mem game old k
    other_mem k apart = ap (λ (history : History). (held_after (charters (nodes game) game.tells) k history).duty)
        (turned.other_news k apart)

    other_waits : (k : ℕ) → k < terms.agents → (k == agent) ≡ false
        → has_left game new k ≡ is_bound (new.position k)
    other_waits k lt apart =
        ap (λ (history : History). (held_after (charters (nodes game) game.tells) k history).has_departed)
        (turned.other_news k apart)
        ∙ (inv.fit k lt).waits ∙ sym (ap is_bound (turned.other_place k apart))

    -- ---- the others

    other_wakes : (k : ℕ) → (k == agent) ≡ false
        → WakesAlike (old.woken k) (new.woken k) (old.shown home) (new.shown home) (old.position k)
    other_wakes k apart at =
        wakes_alike (old.shown home) (new.shown home) (old.woken k) (new.woken k) (turned.other_woken k apart at)

    other_quiet : (k : ℕ) → (k == agent) ≡ false
        → IsQuietFor keeps.rise (old.woken k) (new.woken k) (old.shown home) (new.shown home) (old.position k)
    other_quiet k apart = elim keeps.quiet [
      | inl h ↦ inl (
        h,
        λ at. woken_same (old.shown home) (new.shown home) (old.woken k) (new.woken k)
            (turned.other_woken k apart at) h,
      )
      | inr h ↦ inr h
    ]

    other_commands : (k : ℕ) → k < terms.agents → (k == agent) ≡ false
        → commands_of game new k ≤ commands_of game old k + keeps.rise
    other_commands k lt apart = transport⁻¹ (λ i. commands_left game (new.woken k) (new.shown home)
        (other_mem k apart i) (turned.other_place k apart i) ≤ commands_of game old k + keeps.rise)
        (others_owe inv.chart inv.place old.shown old.reached keeps.rise (old.woken k) (new.woken k) (new.shown home)
        (mem game old k) (old.position k) (inv.fit k lt).placed (other_quiet k apart))

    other_fit : (k : ℕ) → k < terms.agents → (k == agent) ≡ false → IsFit game keeps.chart keeps.place new k
    other_fit k lt apart =
        let fit : IsFit game inv.chart inv.place old k = inv.fit k lt in
        let same : new.used k ≡ old.used k = turned.other_used k apart in
        let owe : commands_of game new k ≤ commands_of game old k + keeps.rise = other_commands k lt apart in
        let before = fit.used in
        let pays = keeps.paid_is in
        let rise = keeps.rise_paid in
        record {
          placed = transport⁻¹ (λ i. IsPlaced game keeps.chart keeps.place new.shown new.reached (new.woken k)
              (other_mem k apart i) (turned.other_place k apart i))
              (placed_kept keeps.grows (old.woken k) (new.woken k) (mem game old k) (old.position k)
              (λ end holds. (inv.claims.holds k lt end holds).within) (other_wakes k apart) fit.placed);
          waits = other_waits k lt apart;
          accuses = transport⁻¹ (λ i. Accuses game (other_mem k apart i) (turned.other_accused k apart i)) fit.accuses;
          used = omega (arith, same, owe, before, pays, rise);
        }

    -- ---- the agent

    own_commands : commands_of game new agent
        ≡ commands_left game (new.woken agent) (new.shown home) after there
    own_commands i = commands_left game (new.woken agent) (new.shown home) (is i) (turned.place i)

    own_fit : IsFit game keeps.chart keeps.place new agent
    own_fit =
        let before = (inv.fit agent within).used in
        let used = turned.used in
        let now = own_commands in
        let owes = keeps.commands in
        let pays = keeps.paid_is in
        record {
          placed = transport⁻¹ (λ i. IsPlaced game keeps.chart keeps.place new.shown new.reached (new.woken agent)
              (is i) (turned.place i)) keeps.placed;
          waits = ap (λ (history : History).
              (held_after (charters (nodes game) game.tells) agent history).has_departed) turned.news
              ∙ follows ∙ sym (ap is_bound turned.place);
          accuses = transport⁻¹ (λ i. Accuses game (is i) (turned.accused i)) keeps.accuses;
          used = omega (arith, before, used, now, owes, pays);
        }

    fits : (k : ℕ) → k < terms.agents → IsFit game keeps.chart keeps.place new k
    fits k lt = elim (eqb_tells k agent) [
      | inl h ↦ subst (λ (j : ℕ). IsFit game keeps.chart keeps.place new j) (sym h.1) own_fit
      | inr h ↦ other_fit k lt h.0
    ]

    holder_is : (k : ℕ) → (if k == agent then held after else held (mem game old k)) ≡ held (mem game new k)
    holder_is k = elim (eqb_tells k agent) [
      | inl h ↦ cond-true _ _ _ h.0 ∙ sym (ap held is) ∙ ap (λ (j : ℕ). held (mem game new j)) (sym h.1)
      | inr h ↦ cond-false _ _ _ h.0 ∙ sym (ap held (other_mem k h.0))
    ]

    -- ---- what they owe together

    moves_kept : new.moves + ways_left game new ≤ fares game keeps.chart + terms.agents * (nodes game - 2)
    moves_kept =
        let sum = total_changed (λ k. way_left game (mem game old k) (old.position k))
        (λ k. way_left game (mem game new k) (new.position k)) terms.agents agent within
        (λ k lt apart i. way_left game (other_mem k apart i) (turned.other_place k apart i)) in
        let own : way_left game (mem game new agent) (new.position agent) ≡ way_left game after there =
        λ i. way_left game (is i) (turned.place i) in
        let owes = keeps.way in
        let before = inv.moves in
        let moves = turned.moves in
        let fares = keeps.fares_are in
        omega (arith, sum, own, owes, before, moves, fares)

    turns_kept : total (turns_of game new) terms.agents + 1 ≤ total (turns_of game old) terms.agents + 2 * keeps.pays
        + terms.agents * (2 * keeps.rise)
    turns_kept =
        let sum = total_raised (turns_of game old) (turns_of game new) terms.agents agent (2 * keeps.rise) within
        (λ k lt apart.
        let owe = other_commands k lt apart in
        let rest : other_turns game (mem game new k) (new.position k)
        ≡ other_turns game (mem game old k) (old.position k) =
        λ i. other_turns game (other_mem k apart i) (turned.other_place k apart i) in
        omega (arith, owe, rest)) in
        let own : turns_of game new agent
        ≡ turns_left game (new.woken agent) (new.shown home) after there =
        λ i. turns_left game (new.woken agent) (new.shown home) (is i) (turned.place i) in
        let owes = keeps.turns in
        omega (arith, sum, own, owes)

    pub assembled : GoesOn (Inv game) left new
    assembled =
        let turns = turns_kept in
        let before = inv.turns in
        let pays = keeps.paid_is in
        let shares = keeps.shared_is in
        let few = paid_few game keeps.charted.drawn in
        let few_too = shared_few game keeps.charted.drawn in
        record {
          rest = left - 1;
          fewer = omega (arith, turns, before, pays, shares, few, few_too);
          holds = record {
            chart = keeps.chart;
            place = keeps.place;
            charted = keeps.charted;
            claims = subst (λ (holder : ℕ → Option (ℕ × ℕ)). AreHeld game keeps.chart keeps.place holder)
                (λ i k. holder_is k i) keeps.claims;
            fit = fits;
            nobody = λ k beyond. turned.other_used k (ne_eqb k agent (λ h. omega (arith, h, beyond, within)))
                ∙ inv.nobody k beyond;
            moves = moves_kept;
            turns = omega (arith, turns, before, pays, shares, few, few_too);
          };
        }
