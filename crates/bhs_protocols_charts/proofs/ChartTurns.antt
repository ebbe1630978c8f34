-- Agents that draw a chart: what a turn of an agent makes of the configuration, and turns after which the chart is as
-- it was.
use Rattle.std.proofs.Common.{ℕ, ◌+◌, ◌*◌, ◌<◌, ◌≤◌, ◌≡◌, Bool, true, false, ◌==◌, ◌&&◌, Option}
use Rattle.std.proofs.Common.{List, ◌∷◌, if◌then◌else◌, refl, sym, ap, ◌∙◌, subst, inl, inr, arith}
use Rattle.std.proofs.Math.Path.{transport⁻¹}
use Rattle.std.specs.Prelude.{◌≢◌, bytes_eq, nat_lt}
use Rattle.std.proofs.lemmas.Bool.{cond-true, cond-false, eq-eqb, lt-ltb}
use Rattle.std.proofs.lemmas.Bool.Decides.{eqb_tells}
use Rattle.bhs_model.specs.declared.commands.Command.{Command}
use Rattle.bhs_model.specs.declared.events.Event.TheVariants.{Tell, Deliver}
use Rattle.bhs_model.specs.Replying.{accepts}
use Rattle.bhs_model.specs.Standings.{standing_at}
use Rattle.bhs_model.specs.Worlds.{World, doomed}
use Rattle.bhs_model.specs.Runs.{Position, Bound, is_bound}
use Rattle.bhs_schedules.specs.declared.answers.Step.TheVariants.{Says}
use Rattle.bhs_schedules.specs.Strategies.{Observation, History}
use Rattle.bhs_schedules.specs.Schedules.{Makes, Rests, action_at}
use Rattle.bhs_protocols.specs.Configurations.{Configuration, faces_alike, told_at, arrived_in, delivered_in, deed_in}
use Rattle.bhs_protocols.specs.Configurations.{done_in, turn_in}
use Rattle.bhs_protocols.specs.Invariants.{GoesOn}
use Rattle.bhs_protocols.specs.Programs.{held_after}
use Rattle.bhs_protocols.proofs.TurnLemmas.{Becomes, said}
use Rattle.bhs_protocols_charts.specs.Charts.{name_of}
use Rattle.bhs_protocols_charts.specs.Charting.{Charting, after_in, does_in, is_gone, charters}
use Rattle.bhs_protocols_charts.proofs.ChartState.{Game, Inv, IsFit, IsPlaced, IsCharted, AreHeld, Accuses}
use Rattle.bhs_protocols_charts.proofs.ChartState.{IsAt}
use Rattle.bhs_protocols_charts.proofs.ChartState.{held, mem, trial as trial_of, n as size, commands_left, turns_left}
use Rattle.bhs_protocols_charts.proofs.ChartState.{way_left, commands_of, turns_of, paid, most_paid}
use Rattle.bhs_protocols_charts.proofs.ChartCounts.{paid_few, rows_few}
use Rattle.bhs_protocols_charts.proofs.ChartKeeps.{Turned, Keeps, assembled}
use Rattle.bhs_protocols_charts.proofs.ChartPast.{past_itself}

module _ (game : Game) where
  open game use {net, terms, tells, home, hole, can}

  -- An agent that stands at the home base before and after a turn has the same number of wake-ups if the text there is
  -- unchanged.
  abbrev pub Rewakes : (old new : Configuration) → (k : ℕ) → Type 0
  Rewakes old new k = IsAt game home (old.position k) → IsAt game home (new.position k)
      → new.woken k ≡ (if bytes_eq (old.shown home) (new.shown home) then old.woken k else 0)

  pub turned : {old new : Configuration} {agent : ℕ} {there : Position} {item : Observation} {cost moved : ℕ}
      {accusation : Option (ℕ × ℕ)} {showing : ℕ → List ℕ} {seen : ℕ → Bool}
      → Becomes old new agent there item cost moved accusation showing seen
      → ((k : ℕ) → (k == agent) ≡ false → Rewakes old new k)
      → Turned game old new agent there item cost moved accusation
  turned becomes rewakes = record {
    place = becomes.place;
    news = becomes.news;
    used = becomes.used;
    accused = becomes.accused;
    moves = becomes.moves;
    other_place = becomes.other_place;
    other_news = becomes.other_news;
    other_used = becomes.other_used;
    other_accused = becomes.other_accused;
    other_woken = λ k apart at. rewakes k apart at
        (record { came = at.came; at = becomes.other_place k apart ∙ at.at });
  }

  -- The number of wake-ups of an agent after an event, by its old and its new position.
  rewoken : (world : World) → world.home ≡ home → (old new : Position) (shown showing : ℕ → List ℕ) (woken : ℕ)
      → IsAt game home old → IsAt game home new
      → (if faces_alike world old shown new showing then woken else 0)
      ≡ (if bytes_eq (shown home) (showing home) then woken else 0)
  rewoken world is old new shown showing woken at now =
      (λ i. if faces_alike world (at.at i) shown (now.at i) showing then woken else 0)
      ∙ (λ i. if eq-eqb home home refl i && bytes_eq (shown home) (showing home) then woken else 0)

  module _ (configuration : Configuration) (agent : ℕ) (within : agent < terms.agents) where
    abbrev new : Configuration
    new = turn_in (trial_of game) configuration agent

    -- the number of wake-ups after a command that is heard
    pub told_rewakes : (place : Position) (command : Command) → configuration.position agent ≡ place
        → action_at (trial_of game).held (trial_of game).wakeups place (configuration.woken agent) (Says command) agent
        ≡ Makes (Tell agent command)
        → (trial_of game).strategies agent (configuration.history agent) ≡ Says command
        → accepts (standing_at place) (nat_lt (configuration.used agent) terms.quota) command ≡ true
        → (k : ℕ) → Rewakes configuration new k
    told_rewakes place command at makes says hears k =
        subst (λ (it : Configuration). Rewakes configuration it k)
        (sym (said (trial_of game) configuration agent within place command at makes says hears))
        (λ here now. rewoken (trial_of game).world refl (configuration.position k)
        ((told_at (trial_of game).world configuration agent place command).position k) configuration.shown
        (told_at (trial_of game).world configuration agent place command).shown (configuration.woken k) here now)

    -- after an arrival
    pub arrived_rewakes : (node port : ℕ) → configuration.position agent ≡ Bound node port
        → doomed (trial_of game).world node port ≡ false → (k : ℕ) → Rewakes configuration new k
    arrived_rewakes node port at safe k =
        let there : ℕ = ((trial_of game).world.net.far node port).0 in
        let label : ℕ = ((trial_of game).world.net.far node port).1 in
        let it : deed_in (trial_of game) configuration agent ≡ Makes (Deliver agent) =
        λ i. if lt-ltb agent terms.agents within i
        then action_at (trial_of game).held (trial_of game).wakeups (at i) (configuration.woken agent)
        ((trial_of game).strategies agent (configuration.history agent)) agent else Rests in
        let is : new ≡ arrived_in (trial_of game).world configuration agent there label =
        ap (done_in (trial_of game) configuration agent) it
        ∙ ap (delivered_in (trial_of game).world configuration agent) at
        ∙ cond-false _ _ _ safe in
        subst (λ (it : Configuration). Rewakes configuration it k) (sym is)
        (λ here now. rewoken (trial_of game).world refl (configuration.position k)
        ((arrived_in (trial_of game).world configuration agent there label).position k) configuration.shown
        configuration.shown (configuration.woken k) here now)

  module _ {configuration : Configuration} {left : ℕ} (inv : Inv game configuration left) (agent : ℕ)
      (within : agent < terms.agents) where
    abbrev pub M : Charting
    M = mem game configuration agent

    abbrev pub new_of : Configuration
    new_of = turn_in (trial_of game) configuration agent

    fit : IsFit game inv.chart inv.place configuration agent
    fit = inv.fit agent within

    -- it has a command left
    pub room : 1 ≤ commands_of game configuration agent → configuration.used agent < terms.quota
    room some =
        let used = fit.used in
        let few : paid game inv.chart ≤ most_paid game = paid_few game inv.charted.drawn in
        let quota : most_paid game + (size game + terms.wakeups) ≤ terms.quota = can.enough.quota in
        omega (arith, used, few, quota, some)

    pub placed_as : (it : Charting) → M ≡ it
        → IsPlaced game inv.chart inv.place configuration.shown configuration.reached (configuration.woken agent) it
        (configuration.position agent)
    placed_as it is = subst (λ (m : Charting). IsPlaced game inv.chart inv.place configuration.shown
        configuration.reached (configuration.woken agent) m (configuration.position agent)) is fit.placed

    pub accuses_as : (it : Charting) → M ≡ it → Accuses game it (configuration.accused agent)
    accuses_as it is = subst (λ (m : Charting). Accuses game m (configuration.accused agent)) is fit.accuses

    pub says_as : (it : Charting) → M ≡ it → is_bound (configuration.position agent) ≡ false
        → (trial_of game).strategies agent (configuration.history agent) ≡ does_in it
    says_as it is here = cond-false _ _ _ (fit.waits ∙ here) ∙ ap does_in is

    -- the commands and turns that the agent still owes, by its duty and its position
    pub commands_as : (it : Charting) (place : Position) → M ≡ it → configuration.position agent ≡ place
        → commands_of game configuration agent
        ≡ commands_left game (configuration.woken agent) (configuration.shown home) it place
    commands_as it place is at i =
        commands_left game (configuration.woken agent) (configuration.shown home) (is i) (at i)

    pub turns_as : (it : Charting) (place : Position) → M ≡ it → configuration.position agent ≡ place
        → turns_of game configuration agent
        ≡ turns_left game (configuration.woken agent) (configuration.shown home) it place
    turns_as it place is at i = turns_left game (configuration.woken agent) (configuration.shown home) (is i) (at i)

    pub way_as : (it : Charting) (place : Position) → M ≡ it → configuration.position agent ≡ place
        → way_left game M (configuration.position agent) ≡ way_left game it place
    way_as it place is at i = way_left game (is i) (at i)

    -- what it holds after something has happened
    pub after_as : (it : Charting) (item : Observation) → M ≡ it
        → new_of.history agent ≡ item ∷ configuration.history agent
        → mem game new_of agent ≡ after_in (size game) tells it item
    after_as it item is news =
        ap (λ (history : History). (held_after (charters (size game) tells) agent history).duty) news
        ∙ ap (λ (m : Charting). after_in (size game) tells m item) is

    -- ---- turns that leave the chart unchanged

    -- The obligations of such a turn, by the agent's phase and position.
    pub record Quiet (it : Charting) (here : Position) (showing : ℕ → List ℕ) (seen : ℕ → Bool) (woken : ℕ)
        (after : Charting) (there : Position) (accusation : Option (ℕ × ℕ)) (cost moved : ℕ) : Type 0 where
      pub charted : IsCharted game inv.chart inv.place showing seen
      pub same_text : showing home ≡ configuration.shown home
      pub names : (node : ℕ) → node ≢ home → (father port : ℕ) → configuration.shown node ≡ name_of father port
          → showing node ≡ name_of father port
      pub seen_more : (node : ℕ) → configuration.reached node ≡ true → seen node ≡ true
      pub holds : held after ≡ held it
      pub placed : IsPlaced game inv.chart inv.place showing seen woken after there
      pub accuses : Accuses game after accusation
      pub way : way_left game after there + moved ≤ way_left game it here
      pub commands : commands_left game woken (configuration.shown home) after there + cost
          ≤ commands_left game (configuration.woken agent) (configuration.shown home) it here
      pub turns : turns_left game woken (configuration.shown home) after there + 1
          ≤ turns_left game (configuration.woken agent) (configuration.shown home) it here

    holder_same : (it after : Charting) → M ≡ it → held after ≡ held it → (k : ℕ)
        → held (mem game configuration k) ≡ (if k == agent then held after else held (mem game configuration k))
    holder_same it after is same k = elim (eqb_tells k agent) [
      | inl h ↦ ap (λ (j : ℕ). held (mem game configuration j)) h.1 ∙ ap held is ∙ sym same ∙ sym (cond-true _ _ _ h.0)
      | inr h ↦ sym (cond-false _ _ _ h.0)
    ]

    no_times : (k : ℕ) → k * (2 * 0) ≡ 0
    no_times k = omega arith

    quiet_keeps : {it after : Charting} {here there : Position} {showing : ℕ → List ℕ} {seen : ℕ → Bool} {woken : ℕ}
        {accusation : Option (ℕ × ℕ)} {cost moved : ℕ} → M ≡ it → configuration.position agent ≡ here
        → Quiet it here showing seen woken after there accusation cost moved
        → Keeps game inv agent showing seen woken after there accusation cost moved
    quiet_keeps {it} {after} {here} {there} {showing} {seen} {woken} {accusation} {cost} {moved} is at quiet =
        let none = no_times terms.agents in
        let way = quiet.way in
        let way_is = way_as it here is at in
        let commands : commands_left game woken (showing home) after there + cost
        ≤ commands_left game (configuration.woken agent) (configuration.shown home) it here =
        subst (λ (t : List ℕ). commands_left game woken t after there + cost
        ≤ commands_left game (configuration.woken agent) (configuration.shown home) it here) (sym quiet.same_text)
        quiet.commands in
        let commands_is = commands_as it here is at in
        let turns : turns_left game woken (showing home) after there + 1
        ≤ turns_left game (configuration.woken agent) (configuration.shown home) it here =
        subst (λ (t : List ℕ). turns_left game woken t after there + 1
        ≤ turns_left game (configuration.woken agent) (configuration.shown home) it here) (sym quiet.same_text)
        quiet.turns in
        let turns_is = turns_as it here is at in
        record {
          chart = inv.chart;
          place = inv.place;
          fare = 0;
          pays = 0;
          rise = 0;
          charted = quiet.charted;
          grows = record {
            longer = omega arith;
            few = rows_few game inv.charted.drawn;
            same_place = λ i lt. refl;
            names = quiet.names;
            seen = quiet.seen_more;
            past = past_itself game inv.chart;
          };
          claims = subst (λ (holder : ℕ → Option (ℕ × ℕ)). AreHeld game inv.chart inv.place holder)
              (λ i k. holder_same it after is quiet.holds k i) inv.claims;
          placed = quiet.placed;
          accuses = quiet.accuses;
          quiet = inl quiet.same_text;
          rise_paid = omega arith;
          fares_are = omega arith;
          paid_is = omega arith;
          shared_is = omega (arith, none);
          way = omega (arith, way, way_is);
          commands = omega (arith, commands, commands_is);
          turns = omega (arith, turns, turns_is);
        }

    -- a turn keeps the invariant, by what it makes of the configuration
    pub kept : {after : Charting} {there : Position} {item : Observation} {showing : ℕ → List ℕ} {seen : ℕ → Bool}
        {accusation : Option (ℕ × ℕ)} {cost moved : ℕ}
        → Becomes configuration new_of agent there item cost moved accusation showing seen
        → is_gone item ≡ is_bound there
        → ((k : ℕ) → (k == agent) ≡ false → Rewakes configuration new_of k) → mem game new_of agent ≡ after
        → Keeps game inv agent showing seen (new_of.woken agent) after there accusation cost moved
        → GoesOn (Inv game) left new_of
    kept {after} {there} {item} {showing} {seen} {accusation} {cost} {moved} becomes follows rewakes is keeps =
        assembled game inv within (turned becomes rewakes) is follows
        (transport⁻¹ (λ i. Keeps game inv agent (becomes.shown i) (becomes.reached i) (new_of.woken agent) after there
        accusation cost moved) keeps)

    pub quietly : {it after : Charting} {here there : Position} {item : Observation} {showing : ℕ → List ℕ}
        {seen : ℕ → Bool} {accusation : Option (ℕ × ℕ)} {cost moved : ℕ}
        → Becomes configuration new_of agent there item cost moved accusation showing seen
        → is_gone item ≡ is_bound there
        → ((k : ℕ) → (k == agent) ≡ false → Rewakes configuration new_of k) → M ≡ it
        → configuration.position agent ≡ here
        → after_in (size game) tells it item ≡ after
        → Quiet it here showing seen (new_of.woken agent) after there accusation cost moved
        → GoesOn (Inv game) left new_of
    quietly {it} {after} {here} {there} {item} becomes follows rewakes is at holds quiet =
        kept becomes follows rewakes (after_as it item is becomes.news ∙ holds) (quiet_keeps is at quiet)
