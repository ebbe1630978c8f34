-- A rehearsal of which one match or one connection is changed.
use Rattle.std.proofs.Common.{◌≡◌, ℕ, ◌<◌, ◌^◌, Bool, true, false, Option, Some, None, Result, Ok, Err, IfOk}
use Rattle.std.proofs.Common.{OnOk, List}
use Rattle.std.proofs.Common.{length, map, get_or, slice_set, refl, sym, ap, ◌∙◌, subst, if◌then◌else◌, arith, ◌++◌}
use Rattle.std.proofs.Common.{Vec, Global, [], ◌==◌, ◌≢◌}
use Rattle.std.specs.List.{All}
use Rattle.std.specs.Vec.{with_items}
use Rattle.std.specs.declared.alloc.AllocError.{AllocError}
use Rattle.std.specs.Prelude.{option_map}
use Rattle.std.proofs.lemmas.List.{get_or-map, get_or_read, map-set, length-map, length-set, set-get_or, with_items_is}
use Rattle.std.proofs.lemmas.List.{get_or-set_other}
use Rattle.std.proofs.lemmas.Grind.{get_or-set_at}
use Rattle.std.proofs.lemmas.Bool.Decides.{nat_tests}
use Rattle.std.proofs.Math.Seq.{map-set_same}
use Rattle.bhs_model.specs.declared.events.Event.{Event}
use Rattle.bhs_model.specs.declared.events.Event.TheVariants.{Tell, Deliver, Close}
use Rattle.bhs_model.specs.declared.replies.Reply.{Reply}
use Rattle.bhs_setups.specs.KeyTable.{Seat}
use Rattle.bhs_setups.specs.declared.lineups.Ready.{Ready}
use Rattle.bhs_rehearsal.specs.declared.choices.Choice.{Choice}
use Rattle.bhs_rehearsal.specs.Choices.{chosen}
use Rattle.bhs_rehearsal.specs.Games.{Game}
use Rattle.bhs_rehearsal.specs.Connections.{Connection, unfed, shut, TakenItems, taken, after}
use Rattle.bhs_rehearsal.specs.Stages.{Stage, Stepped, game_at, connection_at, with_game, plays, waits_in, shut_in}
use Rattle.bhs_rehearsal.specs.Stages.{delivers, has_seat, nothing, tells_arrival}
use Rattle.bhs_rehearsal.specs.declared.outs.Out.{Out}
use Rattle.bhs_session.specs.Texts.{text_of}
use Rattle.std.specs.List.{position}
use Rattle.bhs_rehearsal.specs.Rehearsing.{Rehearsing, stage_of, game_of, team_of, on_stage, sent_once, IsSeated}
use Rattle.bhs_rehearsal.specs.Takings.{IsMoved, IsDrawn, IsStepped, DrawResult, after_draw, told_to}

-- what the fields of a rehearsal show
abbrev pub rehearsing : List Ready → List Seat → List Connection → Bool → Rehearsing
rehearsing ready keys connections failed = record
    { stage = stage_of ready keys connections; teams = map team_of ready; has_failed = failed }

same_parts : (keys : List Seat) (failed : Bool) (games games' : List Game) (connections connections' : List Connection)
    (teams teams' : List (List ℕ)) →
    games ≡ games' → connections ≡ connections' → teams ≡ teams' →
    ◌≡◌ {A = Rehearsing} (record {
      stage = record { games = games; keys = keys; connections = connections };
      teams = teams;
      has_failed = failed;
    })
    (record {
      stage = record { games = games'; keys = keys; connections = connections' };
      teams = teams';
      has_failed = failed;
    })
same_parts keys failed games games' connections connections' teams teams' one two three =
    ap (λ (all : List Game). record {
      stage = record { games = all; keys = keys; connections = connections };
      teams = teams;
      has_failed = failed;
    }) one
    ∙ ap (λ (all : List Connection). record {
      stage = record { games = games'; keys = keys; connections = all };
      teams = teams;
      has_failed = failed;
    }) two
    ∙ ap (λ (all : List (List ℕ)). record {
      stage = record { games = games'; keys = keys; connections = connections' };
      teams = all;
      has_failed = failed;
    }) three

-- The match, or the connection, with this number exists.
pub game_within : (ready : List Ready) (keys : List Seat) (connections : List Connection) (failed : Bool)
    (old : Rehearsing) (place : ℕ) →
    rehearsing ready keys connections failed ≡ old → place < length old.stage.games → place < length ready
game_within ready keys connections failed old place is within =
    subst (λ (count : ℕ). place < count) (ap (λ (one : Rehearsing). length one.stage.games) (sym is)
    ∙ length-map ready game_of) within

pub connection_within : (ready : List Ready) (keys : List Seat) (connections : List Connection) (failed : Bool)
    (old : Rehearsing) (conn : ℕ) →
    rehearsing ready keys connections failed ≡ old → conn < length old.stage.connections → conn < length connections
connection_within ready keys connections failed old conn is within =
    subst (λ (one : Rehearsing). conn < length one.stage.connections) (sym is) within

-- the match that is read
pub game_read : (ready : List Ready) (keys : List Seat) (connections : List Connection) (place : ℕ) (one : Ready)
    → place < length ready → one ≡ get_or ready place one →
    game_at (stage_of ready keys connections) place ≡ game_of one
game_read ready keys connections place one within read = get_or-map game_of ready place one _ within
    ∙ ap game_of (sym read)

teams_same : (ready : List Ready) (place : ℕ) (one new : Ready) → one ≡ get_or ready place one
    → team_of new ≡ team_of one → map team_of (slice_set ready place new) ≡ map team_of ready
teams_same ready place one new read team = map-set_same team_of ready place new one (team ∙ ap team_of read)

-- one match is changed
pub with_ready : (ready : List Ready) (keys : List Seat) (connections : List Connection) (failed : Bool) (place : ℕ)
    (one new : Ready) (game : Game) →
    one ≡ get_or ready place one → game_of new ≡ game → team_of new ≡ team_of one →
    rehearsing (slice_set ready place new) keys connections failed ≡ on_stage (rehearsing ready keys connections failed)
    (with_game (stage_of ready keys connections) place game)
with_ready ready keys connections failed place one new game read is team =
    same_parts keys failed _ _ connections connections _ _
    (map-set game_of ready place new ∙ ap (λ (one : Game). slice_set (map game_of ready) place one) is)
    refl
    (teams_same ready place one new read team)

pub draws_lemma : (ready : List Ready) (keys : List Seat) (connections : List Connection) (failed : Bool)
    (place : ℕ) (choice : Choice) (one new : Ready) (before text : List ℕ) (result : Result (Option ℕ) AllocError) →
    place < length ready → one ≡ get_or ready place one →
    IfOk result (λ agent. (game_of new ≡ (after_draw (game_of one) (chosen (game_of one) choice)).game)
    × ((agent, text) ≡ told_to before (after_draw (game_of one) (chosen (game_of one) choice)).arrival))
    → team_of new ≡ team_of one →
    IsDrawn (rehearsing ready keys connections failed) place
    (after_draw (game_at (stage_of ready keys connections) place)
    (chosen (game_at (stage_of ready keys connections) place) choice)) before result text
    (rehearsing (slice_set ready place new) keys connections failed)
draws_lemma ready keys connections failed place choice one new before text (Ok agent) within read is team =
    let same : after_draw (game_of one) (chosen (game_of one) choice)
    ≡ after_draw (game_at (stage_of ready keys connections) place)
    (chosen (game_at (stage_of ready keys connections) place) choice) =
    ap (λ (game : Game). after_draw game (chosen game choice))
    (sym (game_read ready keys connections place one within read)) in (
      is.1 ∙ ap (λ (drawn : DrawResult). told_to before drawn.arrival) same,
      with_ready ready keys connections failed place one new _ read
          (is.0 ∙ ap (λ (drawn : DrawResult). drawn.game) same) team,
    )
draws_lemma ready keys connections failed place choice one new before text (Err memory) within read is team = tt

-- Replacing a match by itself changes nothing.
same_game : (stage : Stage) (game : ℕ) → with_game stage game (game_at stage game) ≡ stage
same_game stage game = ap (λ (games : List Game). record stage { games = games }) (set-get_or stage.games game _)

-- what a draw sends that tells nobody, and the stage that it leaves
told_nobody : (stage : Stage) (game agent : ℕ) (holder : Option ℕ) (reply : Option Reply) (before text : List ℕ)
    → ◌≡◌ {A = Option ℕ × List ℕ} (None, text) (told_to before (option_map (λ (one : Reply). (agent, one)) reply))
    → tells_arrival stage reply holder ≡ nothing stage
told_nobody stage game agent holder None before text is = refl
told_nobody stage game agent holder (Some reply) before text is =
    absurd (not_some agent (ap (λ (one : Option ℕ × List ℕ). one.0) is)) where
      not_some : (agent : ℕ) → ◌≡◌ {A = Option ℕ} None (Some agent) → ⊥
      not_some agent is = cc

silent_step : (stage : Stage) (game : ℕ) (event : Option Event) (before text : List ℕ)
    → (None, text) ≡ told_to before (after_draw (game_at stage game) event).arrival
    → delivers stage game event ≡ nothing (with_game stage game (after_draw (game_at stage game) event).game)
silent_step stage game (Some (Deliver agent)) before text is = told_nobody _ game agent _ _ before text is
silent_step stage game (Some (Tell agent command)) before text is = ap nothing (sym (same_game stage game))
silent_step stage game (Some Close) before text is = ap nothing (sym (same_game stage game))
silent_step stage game None before text is = ap nothing (sym (same_game stage game))

pub silent_lemma : (old new : Rehearsing) (game : ℕ) (event : Option Event) (before text : List ℕ)
    → (None, text) ≡ told_to before (after_draw (game_at old.stage game) event).arrival
    → new ≡ on_stage old (with_game old.stage game (after_draw (game_at old.stage game) event).game)
    → ([] ≡ (delivers old.stage game event).outs) × (new ≡ on_stage old (delivers old.stage game event).stage)
silent_lemma old new game event before text is stands =
    let same = silent_step old.stage game event before text is in (
      ap (λ (stepped : Stepped). stepped.outs) (sym same),
      stands ∙ ap (λ (stepped : Stepped). on_stage old stepped.stage) (sym same),
    )

-- the seat of the connection that is read
pub seat_read : (ready : List Ready) (keys : List Seat) (connections : List Connection) (failed : Bool)
    (old : Rehearsing) (conn : ℕ) (one : Connection) (seat : Option (ℕ × ℕ)) →
    rehearsing ready keys connections failed ≡ old → conn < length connections → one ≡ get_or connections conn one
    → (connection_at old.stage conn).seat ≡ seat → one.seat ≡ seat
seat_read ready keys connections failed old conn one seat is within read at =
    ap (λ (connection : Connection). connection.seat) (get_or_read connections conn one within read unfed)
    ∙ subst (λ (now : Rehearsing). (connection_at now.stage conn).seat ≡ seat) (sym is) at

-- ---- a draw that tells an agent

tells_none : (agent : ℕ) (text : List ℕ) → ◌≡◌ {A = Option ℕ × List ℕ} (Some agent, text) (None, []) → ⊥
tells_none agent text is = not_none agent (ap (λ (one : Option ℕ × List ℕ). one.0) is) where
  not_none : (agent : ℕ) → ◌≡◌ {A = Option ℕ} (Some agent) None → ⊥
  not_none agent is = cc

on_old : (old new : Rehearsing) (stage : Stage) (stepped : Stepped) (result : Result (Option Out) AllocError)
    → IsStepped sent_once (on_stage old stage) stepped result new → IsStepped sent_once old stepped result new
on_old old new stage stepped (Ok out) is = is
on_old old new stage stepped (Err memory) is = is

told_some : (old between new : Rehearsing) (stage : Stage) (game agent arrives conn : ℕ) (reply : Option Reply)
    (text : List ℕ) (result : Result (Option Out) AllocError)
    → between ≡ on_stage old stage
    → ◌≡◌ {A = Option ℕ × List ℕ} (Some agent, text) (told_to [] (option_map (λ (one : Reply). (arrives, one)) reply))
    → Some conn ≡ position (has_seat (game, agent)) between.stage.connections
    → ((one : Reply) → text ≡ text_of one
    → IsStepped sent_once between (tells_arrival between.stage (Some one) (Some conn)) result new)
    → IsStepped sent_once old (tells_arrival stage reply (position (has_seat (game, arrives)) stage.connections)) result
    new
told_some old between new stage game agent arrives conn None text result is told holder steps =
    absurd (tells_none agent text told)
told_some old between new stage game agent arrives conn (Some reply) text result is told holder steps =
    let same : agent ≡ arrives = one_agent agent arrives (ap (λ (one : Option ℕ × List ℕ). one.0) told) in
    let step : IsStepped sent_once (on_stage old stage) (tells_arrival stage (Some reply) (Some conn)) result new =
    subst (λ (now : Rehearsing). IsStepped sent_once now (tells_arrival now.stage (Some reply) (Some conn)) result new)
    is (steps reply (ap (λ (one : Option ℕ × List ℕ). one.1) told)) in
    let held : Some conn ≡ position (has_seat (game, arrives)) stage.connections =
    holder ∙ ap (λ (now : Rehearsing). position (has_seat (game, agent)) now.stage.connections) is
    ∙ ap (λ (one : ℕ). position (has_seat (game, one)) stage.connections) same in
    subst (λ (found : Option ℕ). IsStepped sent_once old (tells_arrival stage (Some reply) found) result new) held
    (on_old old new stage _ result step) where
      one_agent : (agent arrives : ℕ) → ◌≡◌ {A = Option ℕ} (Some agent) (Some arrives) → agent ≡ arrives
      one_agent agent arrives is = cc

pub told_lemma : (old between new : Rehearsing) (game agent conn : ℕ) (event : Option Event) (text : List ℕ)
    (result : Result (Option Out) AllocError)
    → ◌≡◌ {A = Option ℕ × List ℕ} (Some agent, text) (told_to [] (after_draw (game_at old.stage game) event).arrival)
    → between ≡ on_stage old (with_game old.stage game (after_draw (game_at old.stage game) event).game)
    → Some conn ≡ position (has_seat (game, agent)) between.stage.connections
    → ((one : Reply) → text ≡ text_of one
    → IsStepped sent_once between (tells_arrival between.stage (Some one) (Some conn)) result new)
    → IsStepped sent_once old (delivers old.stage game event) result new
told_lemma old between new game agent conn (Some (Deliver arrives)) text result told is holder steps =
    told_some old between new _ game agent arrives conn _ text result is told holder steps
told_lemma old between new game agent conn (Some (Tell teller command)) text result told is holder steps =
    absurd (tells_none agent text told)
told_lemma old between new game agent conn (Some Close) text result told is holder steps =
    absurd (tells_none agent text told)
told_lemma old between new game agent conn None text result told is holder steps = absurd (tells_none agent text told)

pub plays_lemma : (ready : List Ready) (keys : List Seat) (connections : List Connection) (failed : Bool) (conn : ℕ)
    (seat : ℕ × ℕ) (one new : Ready) (before changed : Connection) (told text : List ℕ)
    (result : Result (Unit {0}) AllocError) →
    seat.0 < length ready → one ≡ get_or ready seat.0 one → conn < length connections
    → before ≡ get_or connections conn before →
    OnOk result (game_of new ≡ (taken (game_of one) seat.1 before.queue).game) →
    OnOk result (text ≡ told ++ (taken (game_of one) seat.1 before.queue).text) →
    OnOk result (changed ≡ after (record before { seat = Some seat }) (taken (game_of one) seat.1 before.queue)) →
    team_of new ≡ team_of one →
    IsMoved (rehearsing ready keys connections failed) (plays (stage_of ready keys connections) conn seat) told result
    text (rehearsing (slice_set ready seat.0 new) keys (slice_set connections conn changed) failed)
plays_lemma ready keys connections failed conn seat one new before changed told text (Ok done) game_within game_is
    conn_within conn_is game more connection team =
    let at : connection_at (stage_of ready keys connections) conn ≡ before =
    sym (get_or_read connections conn before conn_within conn_is unfed) in
    let same : taken (game_of one) seat.1 before.queue ≡ taken (game_at (stage_of ready keys connections) seat.0) seat.1
    (connection_at (stage_of ready keys connections) conn).queue =
    ap (λ (game : Game). taken game seat.1 before.queue)
    (sym (game_read ready keys connections seat.0 one game_within game_is))
    ∙ ap (λ (one : Connection). taken (game_at (stage_of ready keys connections) seat.0) seat.1 one.queue) (sym at) in (
      more ∙ ap (λ (taken : TakenItems). told ++ taken.text) same,
      same_parts keys failed _ _ _ _ _ _
          (map-set game_of ready seat.0 new ∙ ap (λ (one : Game). slice_set (map game_of ready) seat.0 one)
          (game ∙ ap (λ (taken : TakenItems). taken.game) same))
          (ap (λ (one : Connection). slice_set connections conn one)
          (connection ∙ ap (λ (one : TakenItems). after (record before { seat = Some seat }) one) same
          ∙ ap (λ (one : Connection). after (record one { seat = Some seat })
          (taken (game_at (stage_of ready keys connections) seat.0) seat.1
          (connection_at (stage_of ready keys connections) conn).queue)) (sym at)))
          (teams_same ready seat.0 one new game_is team),
    )
plays_lemma ready keys connections failed conn seat one new before changed told text (Err memory) game_within game_is
    conn_within conn_is game more connection team = tt

-- one connection has another seat
pub set_seated : (games games' : ℕ) (connections : List Connection) (conn : ℕ) (new : Connection) (seat : ℕ × ℕ)
    → games ≡ games' → seat.0 < games → new.seat ≡ Some seat
    → All (λ connection. IsSeated games connection.seat) connections
    → All (λ connection. IsSeated games' connection.seat) (slice_set connections conn new)
set_seated games games' connections conn new seat same within sits all k d below =
    subst (λ (count : ℕ). IsSeated count (get_or (slice_set connections conn new) k d).seat) same
    (by_place (conn == k) refl) where
      inside : k < length connections
      inside = omega (arith, length-set connections conn new, below)

      by_place : (here : Bool) → (conn == k) ≡ here
          → IsSeated games (get_or (slice_set connections conn new) k d).seat
      by_place true is =
          let place : k ≡ conn = grind (arith, nat_tests) in
          let at : get_or (slice_set connections conn new) k d ≡ new =
          get_or-set_at connections conn k new d place (omega (arith, inside, place)) in
          subst (λ (one : Option (ℕ × ℕ)). IsSeated games one)
          (sym (ap (λ (connection : Connection). connection.seat) at ∙ sits)) within
      by_place false is =
          let place : k ≢ conn = grind (arith, nat_tests) in
          subst (λ (connection : Connection). IsSeated games connection.seat)
          (sym (get_or-set_other connections conn k new d place)) (all k d inside)

-- ---- connections that are shut

seat_kept : (games : ℕ) (waits : Bool) (connection : Connection) → IsSeated games connection.seat
    → IsSeated games (if waits then shut connection else connection).seat
seat_kept games true connection is = is
seat_kept games false connection is = is

pub shut_seated : (games number : ℕ) (game : Game) (connections : List Connection)
    → All (λ connection. IsSeated games connection.seat) connections →
    All (λ connection. IsSeated games connection.seat) (shut_in number game connections)
shut_seated games number game connections all k d within =
    let few : k < length connections = omega (
      arith,
      length-map connections
          (λ connection. if waits_in number game connection then shut connection else connection),
    ) in
    let at = get_or-map (λ connection. if waits_in number game connection then shut connection else connection)
    connections k d d few in
    subst (λ (connection : Connection). IsSeated games connection.seat) (sym at)
    (seat_kept games (waits_in number game (get_or connections k d)) (get_or connections k d) (all k d few))

pub shut_length : (number : ℕ) (game : Game) (connections : List Connection)
    → length (shut_in number game connections) ≡ length connections
shut_length number game connections = length-map connections
    (λ connection. if waits_in number game connection then shut connection else connection)

-- the connections after the waiting ones are closed
pub all_shut : (connections : Vec Connection Global) (new : List Connection) (number : ℕ) (game : Game)
    → new ≡ shut_in number game connections.items → length connections.items ≡ connections.len →
    (with_items connections new).items ≡ shut_in number game connections.items
all_shut connections new number game is len =
    with_items_is connections new (ap (λ (all : List Connection). length all) is
    ∙ shut_length number game connections.items ∙ len) ∙ is

pub still_seated : (games number : ℕ) (game : Game) (connections new : List Connection)
    → new ≡ shut_in number game connections →
    (length connections < 2 ^ 16) × All (λ connection. IsSeated games connection.seat) connections →
    (length new < 2 ^ 16) × All (λ connection. IsSeated games connection.seat) new
still_seated games number game connections new is kept =
    subst (λ (all : List Connection). (length all < 2 ^ 16) × All (λ connection. IsSeated games connection.seat) all)
    (sym is) (
      subst (λ (count : ℕ). count < 2 ^ 16) (sym (shut_length number game connections)) kept.0,
      shut_seated games number
          game connections kept.1,
    )
