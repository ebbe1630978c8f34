-- The invariant of a connection: what its agent met, which lines were taken, and what it got; and its preservation by a
-- move.
use Rattle.std.proofs.Common.{◌≡◌, ◌≢◌, ◌∙◌, ℕ, suc, ◌<◌, ◌⊎◌, inl, inr, Bool, true, false, cond, Option, Some, None}
use Rattle.std.proofs.Common.{List, [], ◌∷◌, ◌++◌, map, refl, sym, ap, ap₂, subst, append_assoc, append-nil, arith}
use Rattle.std.proofs.Common.{subst₂}
use Rattle.std.proofs.lemmas.Bool.{cond-true, cond_both}
use Rattle.std.proofs.lemmas.List.{map-append, get_or-set_other}
use Rattle.bhs_model.specs.declared.commands.Command.{Command}
use Rattle.bhs_model.specs.declared.setups.Setup.{Setup}
use Rattle.bhs_model.specs.Views.{View, Start, Ended, standing}
use Rattle.bhs_wire.specs.Lines.{Line, lines, held_of, found_in, left_by}
use Rattle.bhs_wire.proofs.StreamLaws.{lines-append, held_of-append}
use Rattle.bhs_session.specs.Texts.{command_of}
use Rattle.bhs_rehearsal.specs.Games.{Game, state_of, is_away}
use Rattle.bhs_rehearsal.specs.Connections.{Item, Says, Ends, Connection, shut, TakenItems, taken, after}
use Rattle.bhs_rehearsal.specs.Stages.{Stage, game_at, connection_at, with_game, with_connection, EntryResult, Waits}
use Rattle.bhs_rehearsal.specs.Stages.{Sits}
use Rattle.bhs_rehearsal.specs.Stages.{IsDenied, Goes, entry}
use Rattle.bhs_theorems_isolation.proofs.MeetingLemmas.{view_from-append, bytes_from-append, commands-append}
use Rattle.bhs_theorems_isolation.proofs.MeetingLemmas.{due-append}
use Rattle.bhs_theorems_isolation.proofs.CuttingLemmas.{by_same}
use Rattle.bhs_theorems_isolation.proofs.TurnLemmas.{Turn, by_turn, placed, plays_turn, enters_turn, turn_in, played_at}
use Rattle.bhs_theorems_isolation.proofs.TurnLemmas.{grown}
use Rattle.bhs_theorems_isolation.proofs.TurnLemmas.{ending, seat_after}
use Rattle.bhs_theorems_isolation.specs.Met.{Meeting, view_from, view_of, commands, bytes_from, bytes, takes_commands}
use Rattle.bhs_theorems_isolation.specs.Met.{AreDue}
use Rattle.bhs_theorems_isolation.specs.Clients.{Fed, fed_more, at_end}
use Rattle.bhs_theorems_isolation.specs.SentAsMet.{IsDenial, IsPastOf, over_text}
use Rattle.bhs_theorems_isolation.proofs.OverLemmas.{EndsLast, has_end, last_says, last_end, over_same, nothing_first}
use Rattle.bhs_theorems_isolation.proofs.AwayLemmas.{Alike, alike_itself, taken_alike}
use Rattle.bhs_theorems_isolation.proofs.TookLemmas.{lines_of, lines_of-append, lines_of-says, has_end-says}
use Rattle.bhs_theorems_isolation.proofs.TookLemmas.{has_end-end, IsQuiet, IsOpen, Took, took}

-- ---- what is known of a connection that plays

-- The input of the connection consists of these taken lines and the waiting ones.
pub record Reads (connection : Connection) (input : Fed) (taken : List Line) : Type 0 where
  pub split : lines input.bytes ≡ taken ++ lines_of connection.queue
  pub still : connection.ended ≡ false → connection.unfinished ≡ held_of input.bytes
  pub ends : connection.ended ≡ input.has_ended
  pub end_waits : has_end connection.queue ≡ input.has_ended
  pub last : EndsLast connection.queue

-- it goes on
pub record Going (setup : Setup) (past : View) (connection : Connection) (input : Fed) (sent : List ℕ) : Type 0 where
  pub met : List Meeting
  pub taken : List Line
  pub reads : Reads connection input taken
  pub said : commands met ≡ map command_of taken
  pub due : AreDue setup.quota Start met
  pub lived : past ≡ view_of met
  pub heard : sent ≡ bytes setup.board met
  pub lives : standing past ≢ Ended

-- it is done
pub record Done (setup : Setup) (past : View) (closed away : Bool) (connection : Connection) (input : Fed)
    (sent : List ℕ) : Type 0 where
  pub met : List Meeting
  pub taken : List Line
  pub over : List Line
  pub split : lines input.bytes ≡ taken ++ over
  pub said : commands met ≡ map command_of taken
  pub due : AreDue setup.quota Start met
  pub lived : IsPastOf input.has_ended (view_of met) past
  pub heard : sent ≡ bytes setup.board met ++ over_text closed (standing (view_of met)) over
  pub mute : closed ≡ false → over_text true (standing (view_of met)) over ≡ []
  pub by_end : over ≡ [] → takes_commands (standing (view_of met)) ≡ true → input.has_ended ≡ true
  pub quiet : IsQuiet closed away
  pub ended : connection.ended ≡ true
  pub done_by : closed ≡ false → input.has_ended ≡ false → takes_commands (standing (view_of met)) ≡ false

-- it goes on, and is told if its agent arrives
abbrev pub GoesOn : Setup → View → (closed away : Bool) → Connection → (input : Fed) (sent : List ℕ) → Type 0
GoesOn setup past closed away connection input sent = Going setup past connection input sent × IsOpen closed away

abbrev pub MetBy : Setup → View → (closed away : Bool) → Connection → (input : Fed) (sent : List ℕ) → Type 0
MetBy setup past closed away connection input sent = GoesOn setup past closed away connection input sent
    ⊎ Done setup past closed away connection input sent

-- the invariant for the agent of a match
abbrev pub MetIn : Game → (agent : ℕ) → Connection → (input : Fed) (sent : List ℕ) → Type 0
MetIn game agent connection input sent = MetBy game.setup ((state_of game).past agent) (state_of game).closed
    (is_away game agent) connection input sent

-- the invariant for an agent with this past and position
pub met_from : {setup : Setup} {past : View} {closed away : Bool} (game : Game) (agent : ℕ) (connection : Connection)
    (input : Fed) (sent : List ℕ) → game.setup ≡ setup → (state_of game).past agent ≡ past
    → (state_of game).closed ≡ closed → is_away game agent ≡ away →
    MetBy setup past closed away connection input sent → MetIn game agent connection input sent
met_from {closed = closed} {away = away} game agent connection input sent setup_is past_is closed_is away_is met =
    subst₂ (λ (one other : Bool). MetBy game.setup ((state_of game).past agent) one other connection input sent)
    (sym closed_is) (sym away_is)
    (subst₂ (λ (setup : Setup) (past : View). MetBy setup past closed away connection input sent) (sym setup_is)
    (sym past_is) met)

pub met_alike : (game new : Game) (agent : ℕ) (connection : Connection) (input : Fed) (sent : List ℕ)
    → Alike agent game new → MetIn game agent connection input sent → MetIn new agent connection input sent
met_alike game new agent connection input sent same met =
    met_from new agent connection input sent same.setup_is same.past same.closed same.away met

-- ---- it plays

module _ (setup : Setup) (past : View) (connection : Connection) (input : Fed) (sent : List ℕ)
    (going : Going setup past connection input sent) (closed was_away : Bool) (open_yet : IsOpen closed was_away)
    (agent : ℕ) (seat : ℕ × ℕ) where
  bytes_joined : (more : List Meeting) → sent ++ bytes_from setup.board past more ≡ bytes setup.board
      (going.met ++ more)
  bytes_joined more =
      ap₂ (λ (one : List ℕ) (view : View). one ++ bytes_from setup.board view more) going.heard going.lived
      ∙ sym (bytes_from-append setup.board Start going.met more)

  view_joined : (more : List Meeting) → view_from past more ≡ view_of (going.met ++ more)
  view_joined more = ap (λ (view : View). view_from view more) going.lived ∙ sym (view_from-append Start going.met more)

  said_joined : (more : List Meeting) (found : List Line) → commands more ≡ map command_of found
      → commands (going.met ++ more) ≡ map command_of (going.taken ++ found)
  said_joined more found said =
      commands-append going.met more ∙ ap₂ (λ (one two : List Command). one ++ two) going.said said
      ∙ sym (map-append command_of going.taken found)

  due_joined : (more : List Meeting) → AreDue setup.quota past more → AreDue setup.quota Start (going.met ++ more)
  due_joined more due = due-append setup.quota Start going.met more going.due
      (subst (λ (view : View). AreDue setup.quota view more) going.lived due)

  split_joined : (found over : List Line) → lines_of connection.queue ≡ found ++ over
      → lines input.bytes ≡ (going.taken ++ found) ++ over
  split_joined found over is =
      going.reads.split ∙ ap (λ (queued : List Line). going.taken ++ queued) is
      ∙ sym (append_assoc going.taken found over)

  met_more : (game : Game) (is_done : Bool) (left : List Item) (text : List ℕ) →
      let done : TakenItems = record { game = game; is_done = is_done; left = left; text = text } in
      Took setup closed was_away past connection.queue done agent →
      MetBy setup ((state_of game).past agent) closed (is_away game agent)
      (after (record connection { seat = Some seat }) done) input (sent ++ text)
  met_more game false left text t = inl (
    (record {
      met = going.met ++ t.met;
      taken = going.taken ++ t.lines;
      reads = record {
        split = split_joined t.lines t.over t.split
            ∙ ap (λ (over : List Line). (going.taken ++ t.lines) ++ over) (t.left refl);
        still = going.reads.still;
        ends = going.reads.ends;
        end_waits = sym (t.end_left refl) ∙ going.reads.end_waits;
        last = t.last_left refl going.reads.last;
      };
      said = said_joined t.met t.lines t.said;
      due = due_joined t.met t.due;
      lived = t.lived refl ∙ view_joined t.met;
      heard = ap (λ (more : List ℕ). sent ++ more) (t.heard refl) ∙ bytes_joined t.met;
      lives = t.lives refl;
    }),
    t.open_left refl open_yet,
  )
  met_more game true left text t = inr (record {
    met = going.met ++ t.met;
    taken = going.taken ++ t.lines;
    over = t.over;
    split = split_joined t.lines t.over t.split;
    said = said_joined t.met t.lines t.said;
    due = due_joined t.met t.due;
    lived = subst (λ (view : View). IsPastOf input.has_ended view ((state_of game).past agent)) (view_joined t.met)
        (subst (λ (at : Bool). IsPastOf at (view_from past t.met) ((state_of game).past agent))
        going.reads.end_waits (t.died refl));
    heard = ap (λ (more : List ℕ). sent ++ more) (t.last refl)
        ∙ sym (append_assoc sent (bytes_from setup.board past t.met)
        (over_text closed (standing (view_from past t.met)) t.over))
        ∙ ap₂ (λ (own rest : List ℕ). own ++ rest) (bytes_joined t.met)
        (ap (λ (view : View). over_text closed (standing view) t.over) (view_joined t.met));
    mute = λ still. ap (λ (view : View). over_text true (standing view) t.over) (sym (view_joined t.met))
        ∙ t.mute refl still;
    by_end = λ none takes. sym going.reads.end_waits ∙ t.by_end refl none
        (ap (λ (view : View). takes_commands (standing view)) (view_joined t.met) ∙ takes);
    quiet = t.quiet refl;
    ended = refl;
    done_by = λ still unended. ap (λ (view : View). takes_commands (standing view)) (sym (view_joined t.met))
        ∙ t.done_by refl still (going.reads.end_waits ∙ unended);
  })

-- its items are taken
pub met_taken : (game : Game) (agent : ℕ) (seat : ℕ × ℕ) (connection : Connection) (input : Fed) (sent : List ℕ)
    → agent < game.setup.agents →
    GoesOn game.setup ((state_of game).past agent) (state_of game).closed (is_away game agent) connection input sent →
    let done = taken game agent connection.queue in
    MetIn done.game agent (after (record connection { seat = Some seat }) done) input (sent ++ done.text)
met_taken game agent seat connection input sent within (going, open_yet) =
    let done = taken game agent connection.queue in
    let t : Took game.setup (state_of game).closed (is_away game agent) ((state_of game).past agent) connection.queue
    done agent =
    took game.setup (state_of game).closed game agent connection.queue (record { setup_is = refl; within = within })
    going.lives refl going.reads.last in
    met_from done.game agent (after (record connection { seat = Some seat }) done) input (sent ++ done.text)
    t.is_in.setup_is refl t.closed_is refl
    (met_more game.setup ((state_of game).past agent) connection input sent going (state_of game).closed
    (is_away game agent) open_yet agent seat
    done.game done.is_done done.left done.text t)

-- ---- it is fed

-- the lines that are found, where the unfinished line is that of the input
found_more : (connection : Connection) (input : Fed) (fed : List ℕ) (taken : List Line) → lines input.bytes ≡ taken
    ++ lines_of connection.queue → connection.unfinished ≡ held_of input.bytes →
    lines (input.bytes ++ fed) ≡ taken ++ lines_of (grown connection fed).queue
found_more connection input fed taken split still =
    let found = found_in connection.unfinished fed in
    lines-append input.bytes fed
    ∙ ap₂ (λ (first : List Line) (held : Option (List ℕ)). first ++ found_in held fed) split (sym still)
    ∙ append_assoc taken (lines_of connection.queue) found
    ∙ ap (λ (rest : List Line). taken ++ rest)
    (ap (λ (last : List Line). lines_of connection.queue ++ last) (sym (lines_of-says found))
    ∙ sym (lines_of-append connection.queue (map Says found)))

reads_fed : (connection : Connection) (input : Fed) (fed : List ℕ) (taken : List Line) → connection.ended ≡ false
    → Reads connection input taken → Reads (grown connection fed) (fed_more input fed) taken
reads_fed connection input fed taken open_yet is = record {
  split = found_more connection input fed taken is.split (is.still open_yet);
  still = λ again. ap (λ (held : Option (List ℕ)). left_by held fed) (is.still open_yet)
      ∙ sym (held_of-append input.bytes fed);
  ends = is.ends;
  end_waits = has_end-says connection.queue (found_in connection.unfinished fed) ∙ is.end_waits;
  last = last_says connection.queue (found_in connection.unfinished fed) (is.end_waits ∙ sym is.ends ∙ open_yet);
}

lines_of-end : (items : List Item) → lines_of (items ++ Ends ∷ []) ≡ lines_of items
lines_of-end items = lines_of-append items (Ends ∷ []) ∙ append-nil (lines_of items)

reads_ends : (connection : Connection) (input : Fed) (taken : List Line) → connection.ended ≡ false
    → Reads connection input taken → Reads (ending connection) (at_end input) taken
reads_ends connection input taken open_yet is = record {
  split = is.split ∙ ap (λ (queued : List Line). taken ++ queued) (sym (lines_of-end connection.queue));
  still = λ again. absurd (cc);
  ends = refl;
  end_waits = has_end-end connection.queue;
  last = last_end connection.queue (is.end_waits ∙ sym is.ends ∙ open_yet);
}

-- of another connection and input, of which as much was taken
going_reads : (setup : Setup) (past : View) (connection new : Connection) (input more : Fed) (sent : List ℕ)
    (going : Going setup past connection input sent) → Reads new more going.taken → Going setup past new more sent
going_reads setup past connection new input more sent going reads = record {
  met = going.met;
  taken = going.taken;
  reads = reads;
  said = going.said;
  due = going.due;
  lived = going.lived;
  heard = going.heard;
  lives = going.lives;
}

pub going_fed : (setup : Setup) (past : View) (connection : Connection) (input : Fed) (sent fed : List ℕ)
    → connection.ended ≡ false →
    Going setup past connection input sent → Going setup past (grown connection fed) (fed_more input fed) sent
going_fed setup past connection input sent fed open_yet going =
    going_reads setup past connection (grown connection fed) input (fed_more input fed) sent going
    (reads_fed connection input fed going.taken open_yet going.reads)

pub going_ends : (setup : Setup) (past : View) (connection : Connection) (input : Fed) (sent : List ℕ)
    → connection.ended ≡ false →
    Going setup past connection input sent → Going setup past (ending connection) (at_end input) sent
going_ends setup past connection input sent open_yet going =
    going_reads setup past connection (ending connection) input (at_end input) sent going
    (reads_ends connection input going.taken open_yet going.reads)

-- Input after the end is ignored.
abbrev pub fed_if : Fed → List ℕ → Fed
fed_if input fed = cond input.has_ended input (fed_more input fed)

pub met_unread : (setup : Setup) (past : View) (closed away : Bool) (connection : Connection) (input : Fed)
    (sent fed : List ℕ) → connection.ended ≡ true →
    MetBy setup past closed away connection input sent → MetBy setup past closed away connection (fed_if input fed) sent
met_unread setup past closed away connection input sent fed ended (inl going) =
    subst (λ (new : Fed). MetBy setup past closed away connection new sent)
    (sym (cond-true _ _ _ (sym going.0.reads.ends ∙ ended))) (inl going)
met_unread setup past closed away connection input sent fed ended (inr done) =
    cond_both input.has_ended _ _ (λ (new : Fed). MetBy setup past closed away connection new sent)
    (λ has. inr done)
    (λ not_yet.
    let awaited : done.over ≡ [] → takes_commands (standing (view_of done.met)) ≡ true → ⊥ =
    λ none takes. absurd (let both = sym (done.by_end none takes) ∙ not_yet in cc) in
    let found = found_in (held_of input.bytes) fed in
    inr (record {
      met = done.met;
      taken = done.taken;
      over = done.over ++ found_in (held_of input.bytes) fed;
      split = lines-append input.bytes fed ∙ ap (λ (first : List Line). first ++ found_in (held_of input.bytes) fed)
          done.split
          ∙ append_assoc done.taken done.over (found_in (held_of input.bytes) fed);
      said = done.said;
      due = done.due;
      lived = done.lived;
      heard = done.heard ∙ ap (λ (last : List ℕ). bytes setup.board done.met ++ last)
          (sym (over_same closed (standing (view_of done.met)) done.over found awaited));
      mute = λ still. over_same true (standing (view_of done.met)) done.over found awaited ∙ done.mute still;
      by_end = λ none takes. absurd (awaited (nothing_first done.over found none) takes);
      quiet = done.quiet;
      ended = done.ended;
      done_by = done.done_by;
    }))

pub met_unended : (setup : Setup) (past : View) (closed away : Bool) (connection : Connection) (input : Fed)
    (sent : List ℕ) → connection.ended ≡ true →
    MetBy setup past closed away connection input sent → MetBy setup past closed away connection (at_end input) sent
met_unended setup past closed away connection input sent ended (inl going) =
    subst (λ (has : Bool). MetBy setup past closed away connection (record input { has_ended = has }) sent)
    (sym going.0.reads.ends ∙ ended) (inl going)
met_unended setup past closed away connection input sent ended (inr done) = inr (record {
  met = done.met;
  taken = done.taken;
  over = done.over;
  split = done.split;
  said = done.said;
  due = done.due;
  lived = elim done.lived [ inl e ↦ inl e | inr p ↦ inr (p.0, refl) ];
  heard = done.heard;
  mute = done.mute;
  by_end = λ none takes. refl;
  quiet = done.quiet;
  ended = done.ended;
  done_by = λ still unended. absurd (cc);
})

-- ---- the invariant of an arbitrary connection

pub record Unseated (connection : Connection) (input : Fed) (sent : List ℕ) : Type 0 where
  pub heard : sent ≡ []
  pub reads : Reads connection input []

abbrev pub IsKnown : Stage → Connection → (input : Fed) (sent : List ℕ) → Option (ℕ × ℕ) → Type 0
IsKnown stage connection input sent None = Unseated connection input sent ⊎ ((connection.ended ≡ true) × IsDenial sent)
IsKnown stage connection input sent (Some seat) =
    seat.1 < (game_at stage seat.0).setup.agents → MetIn (game_at stage seat.0) seat.1 connection input sent

-- before it moves
abbrev pub IsReady : Stage → Connection → (input : Fed) (sent : List ℕ) → Option (ℕ × ℕ) → Type 0
IsReady stage connection input sent None = Unseated connection input sent
IsReady stage connection input sent (Some seat) =
    seat.1 < (game_at stage seat.0).setup.agents
    → GoesOn (game_at stage seat.0).setup ((state_of (game_at stage seat.0)).past seat.1)
    (state_of (game_at stage seat.0)).closed (is_away (game_at stage seat.0) seat.1) connection input sent

pub unseated_fed : (connection : Connection) (input : Fed) (sent fed : List ℕ) → connection.ended ≡ false
    → Unseated connection input sent →
    Unseated (grown connection fed) (fed_more input fed) sent
unseated_fed connection input sent fed open_yet is =
    record { heard = is.heard; reads = reads_fed connection input fed [] open_yet is.reads }

pub unseated_ends : (connection : Connection) (input : Fed) (sent : List ℕ) → connection.ended ≡ false
    → Unseated connection input sent → Unseated (ending connection) (at_end input) sent
unseated_ends connection input sent open_yet is =
    record { heard = is.heard; reads = reads_ends connection input [] open_yet is.reads }

-- who is not played has met nothing
pub record Untouched (game : Game) (agent : ℕ) : Type 0 where
  pub past : (state_of game).past agent ≡ Start
  pub at : is_away game agent ≡ false

pub untouched_alike : (game new : Game) (agent : ℕ) → Alike agent game new → Untouched game agent → Untouched new agent
untouched_alike game new agent same is = record { past = same.past ∙ is.past; at = same.away ∙ is.at }

-- nobody plays this agent
abbrev pub IsFree : Stage → (game agent : ℕ) → Type 0
IsFree stage game agent = (other : ℕ) → (connection_at stage other).seat ≡ Some (game, agent) → ⊥

abbrev pub FreeAreUntouched : Stage → Type 0
FreeAreUntouched stage = (game agent : ℕ) → IsFree stage game agent → Untouched (game_at stage game) agent

pub known_alike : (stage new : Stage) (connection : Connection) (input : Fed) (sent : List ℕ) (own : Option (ℕ × ℕ)) →
    ((game agent : ℕ) → own ≡ Some (game, agent) → Alike agent (game_at stage game) (game_at new game)) →
    IsKnown stage connection input sent own → IsKnown new connection input sent own
known_alike stage new connection input sent None same known = known
known_alike stage new connection input sent (Some seat) same known =
    let alike = same seat.0 seat.1 refl in
    λ within. met_alike (game_at stage seat.0) (game_at new seat.0) seat.1 connection input sent alike
    (known (subst (λ (setup : Setup). seat.1 < setup.agents) alike.setup_is within))

-- ---- a move

setup_taken : (game : Game) (agent : ℕ) (items : List Item) → (taken game agent items).game.setup ≡ game.setup
setup_taken game agent items = (taken_alike game agent items (suc agent)
    (λ same. absurd (omega (arith, same)))).setup_is

module _ (stage : Stage) (conn : ℕ) (connection : Connection) where
  others_play : (seat : ℕ × ℕ) (game agent : ℕ) → (◌≡◌ {A = Option (ℕ × ℕ)} (Some seat) (Some (game, agent)) → ⊥) →
      Alike agent (game_at stage game) (game_at (placed stage conn (plays_turn stage seat connection)).stage game)
  others_play seat game agent apart =
      let done = taken (game_at stage seat.0) seat.1 connection.queue in
      by_same seat.0 game
      (λ is.
      subst (λ (number : ℕ). Alike agent (game_at stage number) (game_at (with_game stage seat.0 done.game) number)) is
      (subst (λ (one : Game). Alike agent (game_at stage seat.0) one) (sym (played_at stage seat connection.queue))
      (taken_alike (game_at stage seat.0) seat.1 connection.queue agent
      (λ same. apart (ap₂ (λ (a b : ℕ). Some (a, b)) is (sym same))))))
      (λ elsewhere.
      subst (λ (one : Game). Alike agent (game_at stage game) one)
      (sym (get_or-set_other stage.games seat.0 game done.game _ (λ same. elsewhere (sym same))))
      (alike_itself agent (game_at stage game)))

  -- a move changes nothing for who is not played by it
  pub others_turn : (own : Option (ℕ × ℕ)) (game agent : ℕ)
      → ((turn_in stage conn connection own).connection.seat ≡ Some (game, agent) → ⊥) →
      Alike agent (game_at stage game) (game_at (placed stage conn (turn_in stage conn connection own)).stage game)
  others_turn own game agent =
      by_turn (λ (turn : Turn). (turn.connection.seat ≡ Some (game, agent) → ⊥)
      → Alike agent (game_at stage game) (game_at (placed stage conn turn).stage game)) stage conn connection
      (λ new text apart. alike_itself agent (game_at stage game))
      (λ seat apart. others_play seat game agent (λ same. apart
      (seat_after connection seat (taken (game_at stage seat.0) seat.1 connection.queue) ∙ same))) own

  module _ (input : Fed) (sent : List ℕ) where
    own_play : (seat : ℕ × ℕ) → IsReady stage connection input sent (Some seat) →
        let turn = plays_turn stage seat connection in
        IsKnown (placed stage conn turn).stage turn.connection input (sent ++ turn.text) turn.connection.seat
    own_play seat ready =
        let game = game_at stage seat.0 in
        let done = taken game seat.1 connection.queue in
        let turn = plays_turn stage seat connection in
        subst (λ (own : Option (ℕ × ℕ)). IsKnown (placed stage conn turn).stage turn.connection input
        (sent ++ turn.text) own) (sym (seat_after connection seat done))
        (subst (λ (one : Game). seat.1 < one.setup.agents → MetIn one seat.1 turn.connection input (sent ++ turn.text))
        (sym (played_at stage seat connection.queue))
        (λ within.
        let inside : seat.1 < game.setup.agents =
        subst (λ (setup : Setup). seat.1 < setup.agents) (setup_taken game seat.1 connection.queue) within in
        met_taken game seat.1 seat connection input sent inside (ready inside)))

    -- who is let in has met nothing
    begins : (seat : ℕ × ℕ) → Untouched (game_at stage seat.0) seat.1 → IsReady stage connection input sent None
        → IsReady stage connection input sent (Some seat)
    begins seat untouched ready = λ within. (
      record {
        met = [];
        taken = [];
        reads = ready.reads;
        said = refl;
        due = tt;
        lived = untouched.past;
        heard = ready.heard;
        lives = λ ended. let is = ap standing untouched.past in cc;
      },
      inr untouched.at,
    )

    own_enter : (how : EntryResult) → connection.seat ≡ None →
        ((seat : ℕ × ℕ) → (enters_turn stage connection how).connection.seat ≡ Some seat
        → Untouched (game_at stage seat.0) seat.1) →
        IsReady stage connection input sent None →
        let turn = enters_turn stage connection how in
        IsKnown (placed stage conn turn).stage turn.connection input (sent ++ turn.text) turn.connection.seat
    own_enter Waits outside untouched ready =
        subst (λ (own : Option (ℕ × ℕ)). IsKnown stage connection input (sent ++ []) own) (sym outside)
        (inl (subst (Unseated connection input) (sym (append-nil sent)) ready))
    own_enter (Sits seat) outside untouched ready =
        own_play seat (begins seat (untouched seat
        (seat_after connection seat (taken (game_at stage seat.0) seat.1 connection.queue))) ready)
    own_enter (IsDenied denial) outside untouched ready =
        let turn = enters_turn stage connection (IsDenied denial) in
        subst (λ (own : Option (ℕ × ℕ)). IsKnown (placed stage conn turn).stage (shut connection) input
        (sent ++ turn.text) own) (sym outside)
        (inr (refl, inr (denial, ap (λ (before : List ℕ). before ++ turn.text) ready.heard)))
    own_enter Goes outside untouched ready =
        let turn = enters_turn stage connection Goes in
        subst (λ (own : Option (ℕ × ℕ)). IsKnown (placed stage conn turn).stage (shut connection) input
        (sent ++ turn.text) own) (sym outside) (inr (refl, inl (append-nil sent ∙ ready.heard)))

    pub own_turn : (own : Option (ℕ × ℕ)) → connection.seat ≡ own →
        ((seat : ℕ × ℕ) → own ≡ None → (turn_in stage conn connection own).connection.seat ≡ Some seat
        → Untouched (game_at stage seat.0) seat.1) →
        IsReady stage connection input sent own →
        let turn = turn_in stage conn connection own in
        IsKnown (placed stage conn turn).stage turn.connection input (sent ++ turn.text) turn.connection.seat
    own_turn None outside untouched ready =
        own_enter (entry (with_connection stage conn connection) connection.queue) outside
        (λ seat is. untouched seat refl is) ready
    own_turn (Some seat) seated untouched ready = own_play seat ready
