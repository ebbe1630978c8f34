-- Simulation between a stage and one with a slowed match, for each instruction.
use Rattle.std.proofs.Common.{◌≡◌, ◌∙◌, ℕ, ◌<◌, false, Option, Some, None, List, [], ◌∷◌, length, map, get_or, refl}
use Rattle.std.proofs.Common.{sym, ap, ap₂, subst}
use Rattle.std.specs.List.{position}
use Rattle.std.proofs.lemmas.List.{ext_get_or, set-get_or, length-map}
use Rattle.bhs_model.specs.declared.events.Event.{Event}
use Rattle.bhs_model.specs.declared.events.Event.TheVariants.{Tell, Deliver, Close}
use Rattle.bhs_model.specs.declared.replies.Reply.{Reply}
use Rattle.bhs_model.specs.Runs.{State}
use Rattle.bhs_model.specs.Twins.{is_struck}
use Rattle.bhs_model.proofs.SlowLemmas.{MadeAlike}
use Rattle.bhs_setups.specs.declared.lineups.Lineup.{Lineup}
use Rattle.bhs_rehearsal.specs.Games.{Game, world_in, state_of, played, drawn, delivered}
use Rattle.bhs_rehearsal.specs.Connections.{Connection, unfed}
use Rattle.bhs_rehearsal.specs.Stages.{Stage, game_at, with_game, has_seat, Instruction, Feeds, EndsInput}
use Rattle.bhs_rehearsal.specs.Stages.{Draws, Delivers, Closes, nothing, tells_arrival, delivers, step}
use Rattle.bhs_rehearsal.specs.Rehearsing.{game_of, first_stage}
use Rattle.bhs_theorems_isolation.specs.ScriptLaws.{IsSlowFor, IsSlowStageFor, HoleSoundsSlow, IsSlowLineupFor}
use Rattle.bhs_theorems_isolation.specs.ScriptLaws.{SlowLineupsSoundAlike, first_game}
use Rattle.bhs_theorems_isolation.proofs.TurnLemmas.{grown, ending, seat_of}
use Rattle.bhs_theorems_isolation.proofs.StepCases.{event_step}
use Rattle.bhs_theorems_isolation.proofs.AlikeLemmas.{Difference, StagesAlike, StepsAlike, games_here, count_by_seats}
use Rattle.bhs_theorems_isolation.proofs.AlikeLemmas.{nothing_alike, put_alike, client_alike, delivers_alike}
use Rattle.bhs_theorems_isolation.proofs.AlikeLemmas.{events_alike}
use Rattle.bhs_theorems_isolation.proofs.AlikeLemmas.{closes_alike, closed_alike}
use Rattle.bhs_theorems_isolation.proofs.SlowGameLemmas.{begin_lemma, played_slow, reply_slow, away_slow}
use Rattle.bhs_theorems_isolation.proofs.SlowGameLemmas.{destroyed_slow}
use Rattle.bhs_theorems_isolation.proofs.SlowGameLemmas.{destroyed_unanswered, drawn_slow, delivered_slow, taken_slow}

-- ---- stages that agree except for a slowed match, with all connections compared

abbrev slow_in : (game count : ℕ) → Difference
slow_in game count = record {
  total = count;
  game = game;
  Match = IsSlowFor;
  Heard = λ (own : Option (ℕ × ℕ)). Unit {0};
  outside = tt;
  elsewhere = λ seat apart. tt;
  takes = λ agent one two items slow.
      let done = taken_slow one two agent items slow in
      record { game = done.game; same = λ heard. (done.is_done, done.left, done.text) };
}

module _ (game : ℕ) (one two : Stage) (is : IsSlowStageFor game one two) where
  abbrev by : Difference
  by = slow_in game (length one.games)

  are : StagesAlike by one two
  are = record {
    keys = is.keys;
    count = refl;
    other_count = sym is.count;
    games = λ number. record {
      other = is.games number;
      itself = λ here. subst (λ (place : ℕ). IsSlowFor (game_at one place) (game_at two place)) (sym here) is.slow;
    };
    seats = ap (map seat_of) is.connections;
    connections = λ conn heard. ap (λ (connections : List Connection). get_or connections conn unfed) is.connections;
  }

  -- an event that destroys in the first alone changes nothing that shows
  destroyed_alike : (agent : ℕ) → MadeAlike (world_in (game_at one game)) (world_in (game_at two game))
      (state_of (game_at one game)) (Some (Deliver agent)) None
      → StepsAlike by (delivers one game (Some (Deliver agent))) (nothing two)
  destroyed_alike agent made =
      let old = game_at one game in
      let new = played old (Deliver agent) in
      let still : StagesAlike by (with_game one game new) two =
      subst (λ (games : List Game). StagesAlike by (with_game one game new) (record two { games = games }))
      (set-get_or two.games game _)
      (put_alike by one two are game new (game_at two game) (games_here by game _ _ refl
      (destroyed_slow old (game_at two game) is.slow agent made))) in
      subst (λ (reply : Option Reply). StepsAlike by (tells_arrival (with_game one game new) reply
      (position (has_seat (game, agent)) one.connections)) (nothing two))
      (sym (destroyed_unanswered old (game_at two game) is.slow agent made))
      (nothing_alike by (with_game one game new) two still)

  made_alike : (event other : Option Event) → MadeAlike (world_in (game_at one game)) (world_in (game_at two game))
      (state_of (game_at one game)) event other → StepsAlike by (delivers one game event) (delivers two game other)
  made_alike None None made = nothing_alike by one two are
  made_alike None (Some event) made = absurd made
  made_alike (Some (Tell agent command)) None made = absurd made
  made_alike (Some Close) None made = absurd made
  made_alike (Some (Deliver agent)) None made = destroyed_alike agent made
  made_alike (Some event) (Some other) made =
      subst (λ (it : Event). StepsAlike by (delivers one game (Some event)) (delivers two game (Some it))) made.0
      (delivers_alike by one two are game (Some event) (λ agent. tt) (λ agent deliver.
      let it : event ≡ Deliver agent = cc in
      let unstruck = subst (λ (some : Event). is_struck (world_in (game_at one game)) (world_in (game_at two game))
      (state_of (game_at one game)) some ≡ false) it made.1 in (
        games_here by game _ _ refl
            (played_slow (game_at one game) (game_at two game) is.slow (Deliver agent) unstruck),
        reply_slow (game_at one game) (game_at two game) is.slow (Deliver agent) unstruck,
      )))

  chosen_alike : (chosen : Game → Option Event) → MadeAlike (world_in (game_at one game)) (world_in (game_at two game))
      (state_of (game_at one game)) (chosen (game_at one game)) (chosen (game_at two game)) → (number : ℕ) →
      StepsAlike by (event_step one number (chosen (game_at one number)))
      (event_step two number (chosen (game_at two number)))
  chosen_alike chosen made number =
      events_alike by one two are chosen number (λ here.
      subst (λ (place : ℕ). StepsAlike by (delivers one place (chosen (game_at one place)))
      (delivers two place (chosen (game_at two place)))) (sym here)
      (made_alike (chosen (game_at one game)) (chosen (game_at two game)) made))

  steps_alike : (instruction : Instruction) → StepsAlike by (step one instruction) (step two instruction)
  steps_alike (Feeds conn bytes) =
      client_alike by one two are conn (λ (connection : Connection). grown connection bytes) tt
  steps_alike (EndsInput conn) = client_alike by one two are conn ending tt
  steps_alike (Draws number word) = chosen_alike (λ (it : Game). drawn it word)
      (drawn_slow (game_at one game) (game_at two game) is.slow word) number
  steps_alike (Delivers number agent) = chosen_alike (λ (it : Game). delivered it agent)
      (delivered_slow (game_at one game) (game_at two game) is.slow agent) number
  steps_alike (Closes number) = closes_alike by one two are number (λ here.
      let slow = (are.games number).itself here in
      closed_alike by one two are number (ap (λ (state : State). state.closed) slow.stands)
      (away_slow (game_at one number) (game_at two number) slow)
      (games_here by number _ _ here (played_slow (game_at one number) (game_at two number) slow Close refl)))

  step_slow : (instruction : Instruction) → ((step one instruction).outs ≡ (step two instruction).outs)
      × IsSlowStageFor game (step one instruction).stage (step two instruction).stage
  step_slow instruction =
      let new = (step one instruction).stage in
      let other = (step two instruction).stage in
      let steps = steps_alike instruction in (
        steps.all (λ seat. tt),
        record {
          keys = steps.stage.keys;
          count = steps.stage.count ∙ sym steps.stage.other_count;
          there = subst (λ (count : ℕ). game < count) (sym steps.stage.count) is.there;
          games = λ number. (steps.stage.games number).other;
          slow = (steps.stage.games game).itself refl;
          connections = ext_get_or unfed new.connections other.connections
              (count_by_seats new.connections other.connections steps.stage.seats)
              (λ conn below. steps.stage.connections conn tt);
        },
      )

pub slow_lemma : HoleSoundsSlow
slow_lemma game one two [] is = (refl, is)
slow_lemma game one two (instruction ∷ script) is =
    let done = step_slow game one two is instruction in
    let rest = slow_lemma game (step one instruction).stage (step two instruction).stage script done.1 in
    (ap₂ (λ (outs : List (ℕ × List ℕ)) (others : List (List (ℕ × List ℕ))). outs ∷ others) done.0 rest.0, rest.1)

-- ---- lineups

lineups_begin : (game : ℕ) (one two : Lineup) (conns : ℕ) → IsSlowLineupFor game one two
    → IsSlowStageFor game (first_stage one conns) (first_stage two conns)
lineups_begin game one two conns is = record {
  keys = is.keys;
  count = length-map one.ready.items game_of ∙ is.count ∙ sym (length-map two.ready.items game_of);
  there = subst (λ (count : ℕ). game < count) (sym (length-map one.ready.items game_of)) is.there;
  games = is.games;
  slow = subst (λ (slow : Game). IsSlowFor (first_game one game) slow) (sym is.slow)
      (begin_lemma (first_game one game) (first_game two game).held is.begins is.held_too);
  connections = refl;
}

pub lineups_lemma : SlowLineupsSoundAlike
lineups_lemma game one two conns script is = slow_lemma game (first_stage one conns) (first_stage two conns) script
    (lineups_begin game one two conns is)
