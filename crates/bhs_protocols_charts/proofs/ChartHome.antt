-- Agents that draw a chart: turns at the home base that leave the chart as it was.
use Rattle.std.proofs.Common.{ℕ, ◌+◌, ◌-◌, ◌*◌, ◌<◌, ◌≤◌, ◌≡◌, Bool, true, false, not, ◌==◌, Option, None}
use Rattle.std.proofs.Common.{List, ◌∷◌, length, if◌then◌else◌, refl, sym, ap, ◌∙◌, subst, arith}
use Rattle.std.specs.Prelude.{bytes_eq, nat_lt}
use Rattle.std.proofs.lemmas.Bool.{cond-true, cond-false, lt-ltb, true≢false, ltb-false}
use Rattle.std.proofs.lemmas.Slice.Eq.{bytes_eq-Decides}
use Rattle.bhs_model.specs.declared.commands.Command.TheVariants.{Enter, Look, Write}
use Rattle.bhs_model.specs.Runs.{Position, Before, At, is_bound}
use Rattle.bhs_model.proofs.StepLemmas.{by_cases, changed_same, changed_other}
use Rattle.bhs_schedules.specs.Strategies.{Woke}
use Rattle.bhs_schedules.specs.Schedules.{action_at, Rests, Wakes, is_move}
use Rattle.bhs_protocols.specs.Configurations.{Configuration, can_move_in, woken_in}
use Rattle.bhs_protocols.specs.Invariants.{GoesOn}
use Rattle.bhs_protocols.proofs.TurnLemmas as turns
use Rattle.bhs_protocols.proofs.TurnLemmas.{Becomes}
use Rattle.bhs_protocols_charts.specs.Charts.{chart_of, text_of, with_state, claimed, is_free}
use Rattle.bhs_protocols_charts.specs.Charting.{Charting, Begins, Waits, Looks, Claims, decided}
use Rattle.bhs_protocols_charts.proofs.ChartLists.{IsEnd, first_is}
use Rattle.bhs_protocols_charts.proofs.ChartState.{Game, Inv, IsAt, Accuses, held, trial as trial_of, n as size, degree}
use Rattle.bhs_protocols_charts.proofs.ChartState.{commands_left, turns_left, way_left, looks_left}
use Rattle.bhs_protocols_charts.proofs.ChartKeeps.{woken_same}
use Rattle.bhs_protocols_charts.proofs.ChartDecisions.{Decides, decided_fits, reads}
use Rattle.bhs_protocols_charts.proofs.ChartDrawing.{claim_fits}
use Rattle.bhs_protocols_charts.proofs.ChartTurns.{M, new_of, Quiet, quietly, room, placed_as, accuses_as, says_as}
use Rattle.bhs_protocols_charts.proofs.ChartTurns.{Rewakes, told_rewakes, commands_as}

module _ (game : Game) where
  open game use {terms, tells, home, can}

  pub three : 3 ≤ size game
  three = can.network.labelled.few

  module _ {configuration : Configuration} {left : ℕ} (inv : Inv game configuration left) (agent : ℕ)
      (within : agent < terms.agents) where
    abbrev new : Configuration
    new = new_of game inv agent within

    abbrev mine : Charting
    mine = M game inv agent within

    -- an agent has decided by what the whiteboard of the home base shows
    decided_quiet : (it : Charting) (here : Position) (count : ℕ) (came : Option ℕ) (cost : ℕ)
        → count ≡ degree game home
        → held it ≡ None → configuration.accused agent ≡ None → size game - 2 ≤ way_left game it here
        → looks_left game (new.woken agent) + (size game - 1) + cost
        ≤ commands_left game (configuration.woken agent) (configuration.shown home) it here
        → 2 * (looks_left game (new.woken agent) + (size game - 1)) + 2
        ≤ turns_left game (configuration.woken agent) (configuration.shown home) it here
        → Quiet game inv agent within it here configuration.shown configuration.reached (new.woken agent)
        (decided (size game) tells count (configuration.shown home)) (At home came) (configuration.accused agent) cost 0
    decided_quiet it here count came cost counts holds accused way commands turns =
        let reading : chart_of count (configuration.shown home) ≡ inv.chart =
        ap (λ (k : ℕ). chart_of k (configuration.shown home)) counts ∙ reads game inv.charted in
        let fits : Decides game inv.chart inv.place configuration.shown configuration.reached (new.woken agent)
        (decided (size game) tells count (configuration.shown home)) (At home came) =
        decided_fits game inv.charted (new.woken agent) count (configuration.shown home) came counts reading refl in
        let few = fits.way in
        let owes = fits.commands in
        let others = fits.turns in
        record {
          charted = inv.charted;
          same_text = refl;
          names = λ node elsewhere father port is. is;
          seen_more = λ node is. is;
          holds = fits.holds ∙ sym holds;
          placed = fits.placed;
          accuses = subst (λ (link : Option (ℕ × ℕ)). Accuses game
              (decided (size game) tells count (configuration.shown home)) link) (sym accused) fits.accuses;
          way = omega (arith, few, way);
          commands = omega (arith, owes, commands);
          turns = omega (arith, owes, others, turns);
        }

    looks_few : (woken : ℕ) → looks_left game woken ≤ terms.wakeups + 1
    looks_few woken = omega arith

    pub begin_turn : mine ≡ Begins → GoesOn (Inv game) left new
    begin_turn is =
        let at : configuration.position agent ≡ Before = placed_as game inv agent within Begins is in
        let says = says_as game inv agent within Begins is (ap is_bound at) in
        let few = looks_few (new.woken agent) in
        let some = three in
        quietly game inv agent within (turns.enters (trial_of game) configuration agent within at says) refl
        (λ k apart. told_rewakes game configuration agent within Before Enter at refl says refl k)
        is at refl
        (decided_quiet Begins Before (degree game home) None 0 refl refl
        (accuses_as game inv agent within Begins is) (omega arith) (omega (arith, few, some))
        (omega (arith, few, some)))

    pub look_turn : mine ≡ Looks → GoesOn (Inv game) left new
    look_turn is =
        let placed : IsAt game home (configuration.position agent) = placed_as game inv agent within Looks is in
        let says = says_as game inv agent within Looks is (ap is_bound placed.at) in
        let owes = commands_as game inv agent within Looks (At home placed.came) is placed.at in
        let space : configuration.used agent < terms.quota = room game inv agent within (omega (arith, owes)) in
        let becomes = turns.looks (trial_of game) configuration agent within home placed.came placed.at says space in
        let again = told_rewakes game configuration agent within (At home placed.came) Look placed.at refl says
        (lt-ltb (configuration.used agent) terms.quota space) in
        let woken : new.woken agent ≡ configuration.woken agent =
        woken_same game (configuration.shown home) (new.shown home) (configuration.woken agent) (new.woken agent)
        (again agent placed (record { came = placed.came; at = becomes.place }))
        (ap (λ (f : ℕ → List ℕ). f home) becomes.shown) in
        quietly game inv agent within becomes refl (λ k apart. again k) is placed.at refl
        (decided_quiet Looks (At home placed.came) (degree game home) placed.came 1 refl refl
        (accuses_as game inv agent within Looks is) (omega arith) (omega (arith, woken)) (omega (arith, woken)))

    -- ---- an agent that waits

    pub wait_moves : (test : Bool) (count : ℕ) (text : List ℕ) → mine ≡ Waits count text
        → nat_lt terms.wakeups (configuration.woken agent) ≡ test
        → can_move_in (trial_of game) configuration agent ≡ not test
    wait_moves test count text is woken =
        let placed = placed_as game inv agent within (Waits count text) is in
        let at = placed.0.at in
        let says = says_as game inv agent within (Waits count text) is (ap is_bound at) in
        (λ i. is_move (trial_of game).world (at i) (if lt-ltb agent terms.agents within i
        then action_at (trial_of game).held terms.wakeups (at i) (configuration.woken agent) (says i) agent
        else Rests))
        ∙ (λ i. is_move (trial_of game).world (At home placed.0.came) (if woken i then Rests else Wakes))
        ∙ rests_or_wakes test placed.0.came
      where
        rests_or_wakes : (b : Bool) (came : Option ℕ)
            → is_move (trial_of game).world (At home came) (if b then Rests else Wakes) ≡ not b
        rests_or_wakes true came = refl
        rests_or_wakes false came = refl

    pub wake_turn : (count : ℕ) (text : List ℕ) → mine ≡ Waits count text
        → can_move_in (trial_of game) configuration agent ≡ true → GoesOn (Inv game) left new
    wake_turn count text is moves = by_cases (nat_lt terms.wakeups (configuration.woken agent))
        (GoesOn (Inv game) left new)
        (λ many. absurd (true≢false (sym moves ∙ wait_moves true count text is many)))
        (λ few. wakes (ltb-false terms.wakeups (configuration.woken agent) few))
      where
        wakes : (configuration.woken agent ≤ terms.wakeups) → GoesOn (Inv game) left new
        wakes few =
            let placed = placed_as game inv agent within (Waits count text) is in
            let at = placed.0.at in
            let says = says_as game inv agent within (Waits count text) is (ap is_bound at) in
            let turn : new ≡ woken_in configuration agent =
            turns.wakes (trial_of game) configuration agent within home placed.0.came at says few in
            let woken : new.woken agent ≡ configuration.woken agent + 1 =
            ap (λ (it : Configuration). it.woken agent) turn
            ∙ changed_same configuration.woken agent (configuration.woken agent + 1) in
            let becomes : Becomes configuration new agent (At home placed.0.came) Woke 0 0 (configuration.accused agent)
            configuration.shown configuration.reached =
            subst (λ (it : Configuration). Becomes configuration it agent (At home placed.0.came) Woke 0 0
            (configuration.accused agent) configuration.shown configuration.reached) (sym turn) (record {
              place = at;
              news = changed_same configuration.history agent (Woke ∷ configuration.history agent);
              used = omega arith;
              accused = refl;
              moves = omega arith;
              shown = refl;
              reached = refl;
              other_place = λ k apart. refl;
              other_news = λ k apart. changed_other configuration.history agent k _ apart;
              other_used = λ k apart. refl;
              other_accused = λ k apart. refl;
            }) in
            let again : (k : ℕ) → (k == agent) ≡ false → Rewakes game configuration new k =
            λ k apart here now. ap (λ (it : Configuration). it.woken k) turn
            ∙ changed_other configuration.woken agent k (configuration.woken agent + 1) apart
            ∙ sym (cond-true _ _ _ ((bytes_eq-Decides (configuration.shown home) (new.shown home)).1
            (ap (λ (it : Configuration). it.shown home) (sym turn)))) in
            quietly game inv agent within becomes refl again is at refl (record {
              charted = inv.charted;
              same_text = refl;
              names = λ node elsewhere father port named. named;
              seen_more = λ node seen. seen;
              holds = refl;
              placed = record { came = placed.0.came; at = refl };
              accuses = accuses_as game inv agent within (Waits count text) is;
              way = omega arith;
              commands = omega (arith, woken, few);
              turns = omega (arith, woken, few);
            })

    -- ---- a claim that comes too late

    pub claim_end : (count : ℕ) (text : List ℕ) (row port : ℕ) → mine ≡ Claims count text row port
        → IsEnd (chart_of count text) is_free row port
    claim_end count text row port is =
        first_is is_free (chart_of count text) (row, port)
        (placed_as game inv agent within (Claims count text row port) is).2

    pub claim_small : (count : ℕ) (text : List ℕ) (row port : ℕ) → mine ≡ Claims count text row port
        → length (text_of (with_state (chart_of count text) row port claimed)) ≤ terms.board
    claim_small count text row port is =
        let placed = placed_as game inv agent within (Claims count text row port) is in
        let end = claim_end count text row port is in
        let few =
        claim_fits game inv.charted.drawn (chart_of count text) row port claimed placed.3 end.within end.has in
        let board = can.enough.board in
        omega (arith, few, board)

    pub late_claim : (count : ℕ) (text : List ℕ) (row port : ℕ) → mine ≡ Claims count text row port
        → bytes_eq (configuration.shown home) text ≡ false → GoesOn (Inv game) left new
    late_claim count text row port is unlike =
        let it : Charting = Claims count text row port in
        let placed = placed_as game inv agent within it is in
        let at = placed.0.at in
        let came = placed.0.came in
        let says = says_as game inv agent within it is (ap is_bound at) in
        let put = text_of (with_state (chart_of count text) row port claimed) in
        let owes = commands_as game inv agent within it (At home came) is at in
        let some = three in
        let space : configuration.used agent < terms.quota = room game inv agent within (omega (arith, owes, some)) in
        let waits : (if bytes_eq (configuration.shown home) text then 0 else terms.wakeups + 2) ≡ terms.wakeups + 2 =
        cond-false _ _ _ unlike in
        let few = looks_few (new.woken agent) in
        quietly game inv agent within
        (turns.writes_not (trial_of game) configuration agent within home came text put at says space
        (claim_small count text row port is) unlike) refl
        (λ k apart. told_rewakes game configuration agent within (At home came) (Write text put) at refl says
        (lt-ltb (configuration.used agent) terms.quota space) k)
        is at refl
        (decided_quiet it (At home came) count came 1 placed.1 refl (accuses_as game inv agent within it is)
        (omega arith) (omega (arith, waits, few)) (omega (arith, waits, few)))
