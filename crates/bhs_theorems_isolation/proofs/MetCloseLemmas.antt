-- The invariant of a connection is preserved by a close.
use Rattle.std.proofs.Common.{◌≡◌, ◌≢◌, ◌∙◌, ℕ, ◌+◌, ◌<◌, inl, inr, Bool, true, false, cond, ◌&&◌, ◌==◌, Option, Some}
use Rattle.std.proofs.Common.{None, List, [], ◌++◌, length, refl, sym, ap, ap₂, subst, append-nil, arith}
use Rattle.std.proofs.lemmas.Bool.{eq-eqb, ne_eqb}
use Rattle.std.proofs.lemmas.List.{get_or-set_same, get_or-set_other, length-map}
use Rattle.bhs_model.specs.declared.events.Event.TheVariants.{Close}
use Rattle.bhs_model.specs.declared.setups.Setup.{Setup}
use Rattle.bhs_model.specs.declared.replies.Reply.TheVariants as replies
use Rattle.bhs_model.specs.Replying.{here}
use Rattle.bhs_model.specs.Views.{Away, standing}
use Rattle.bhs_model.specs.Runs.{State, is_bound}
use Rattle.bhs_session.specs.Texts.{text_of}
use Rattle.bhs_rehearsal.specs.Games.{Game, state_of, played, is_away, world_in}
use Rattle.bhs_rehearsal.specs.Connections.{Item, Connection, shut}
use Rattle.bhs_rehearsal.specs.Stages.{Stage, game_at, connection_at, with_game, waits_in, shut_in, told_over}
use Rattle.bhs_theorems_isolation.specs.ScriptLaws.{IsSettled}
use Rattle.bhs_theorems_isolation.specs.Clients.{bytes_among, Fed}
use Rattle.bhs_theorems_isolation.proofs.CuttingLemmas.{by_same}
use Rattle.bhs_theorems_isolation.proofs.ApartLemmas.{shut_if, seat-shut_if, shut_at, told_at}
use Rattle.bhs_theorems_isolation.proofs.AwayLemmas.{state_of-played, setup-played}
use Rattle.bhs_theorems_isolation.specs.Met.{view_of, bytes, takes_commands}
use Rattle.bhs_theorems_isolation.specs.SentAsMet.{IsDenial, over_text}
use Rattle.bhs_theorems_isolation.proofs.FitLemmas.{fits_here, away_stands}
use Rattle.bhs_theorems_isolation.proofs.OverLemmas.{over_away}
use Rattle.bhs_theorems_isolation.proofs.TookLemmas.{lines_of}
use Rattle.bhs_theorems_isolation.proofs.KnownLemmas.{MetBy, MetIn, IsKnown, Untouched, FreeAreUntouched, Going}
use Rattle.bhs_theorems_isolation.proofs.KnownLemmas.{Unseated}
use Rattle.bhs_theorems_isolation.proofs.KnownLemmas.{met_from}
use Rattle.bhs_theorems_isolation.proofs.MetMoveLemmas.{Knows, same_bytes}

-- ---- a close

-- a match that is closed
record ClosedOf (game new : Game) (agent : ℕ) : Type 0 where
  pub setup_is : new.setup ≡ game.setup
  pub past : (state_of new).past agent ≡ (state_of game).past agent
  pub away : is_away new agent ≡ is_away game agent
  pub closed : (state_of new).closed ≡ true

closed_of : (game : Game) (agent : ℕ) → ClosedOf game (played game Close) agent
closed_of game agent =
    let stands = state_of-played game Close in
    record {
      setup_is = setup-played game Close;
      past = ap (λ (state : State). state.past agent) stands;
      away = ap (λ (state : State). is_bound (state.position agent)) stands;
      closed = ap (λ (state : State). state.closed) stands;
    }

untouched_closed : (game : Game) (agent : ℕ) → Untouched game agent → Untouched (played game Close) agent
untouched_closed game agent is = record {
  past = (closed_of game agent).past
      ∙ is.past;
  at = (closed_of game agent).away ∙ is.at;
}

-- what was met stays, in a match that is closed now
met_closed : (game : Game) (agent : ℕ) (connection : Connection) (input : Fed) (sent : List ℕ) (waits : Bool)
    → (state_of game).closed ≡ false → waits ≡ is_away game agent →
    MetIn game agent connection input sent →
    MetIn (played game Close) agent (cond waits (shut connection) connection) input
    (sent ++ cond waits (text_of replies.Over) [])
met_closed game agent connection input sent waits was_open is met =
    let c = closed_of game agent in
    met_from (played game Close) agent (cond waits (shut connection) connection) input
    (sent ++ cond waits (text_of replies.Over) []) c.setup_is c.past c.closed c.away
    (by_waits (is_away game agent) waits is (away_stands (world_in game) ((state_of game).past agent)
    ((state_of game).position agent) (fits_here game agent)) met) where
      by_waits : (away waits : Bool) → waits ≡ away → (away ≡ true → standing ((state_of game).past agent) ≡ Away)
          → MetBy game.setup ((state_of game).past agent)
          (state_of game).closed away connection input sent →
          MetBy game.setup ((state_of game).past agent) true away (cond waits (shut connection) connection) input
          (sent ++ cond waits (text_of replies.Over) [])
      by_waits away true is stands (inl (g, open_yet)) =
          let on_link : standing (view_of g.met) ≡ Away = ap standing (sym g.lived) ∙ stands (sym is) in
          inr (record {
            met = g.met;
            taken = g.taken;
            over = lines_of connection.queue;
            split = g.reads.split;
            said = g.said;
            due = g.due;
            lived = inl g.lived;
            heard = ap₂ (λ (own last : List ℕ). own ++ last) g.heard
                (sym (over_away (standing (view_of g.met)) (lines_of connection.queue) on_link));
            mute = λ still. absurd (cc);
            by_end = λ none takes. absurd (let both = sym takes ∙ ap takes_commands on_link in cc);
            quiet = inl refl;
            ended = refl;
            done_by = λ still unended. absurd (cc);
          })
      by_waits away true is stands (inr d) = absurd (elim d.quiet [ inl closed ↦ cc | inr here ↦ cc ])
      by_waits away false is stands (inl (g, open_yet)) =
          inl (
            subst (Going game.setup ((state_of game).past agent) connection input) (sym (append-nil sent)) g,
            inr (sym is),
          )
      by_waits away false is stands (inr d) = inr (record {
        met = d.met;
        taken = d.taken;
        over = d.over;
        split = d.split;
        said = d.said;
        due = d.due;
        lived = d.lived;
        heard = append-nil sent ∙ d.heard
            ∙ ap (λ (closed : Bool). bytes game.setup.board d.met
            ++ over_text closed (standing (view_of d.met)) d.over) was_open
            ∙ ap (λ (last : List ℕ). bytes game.setup.board d.met ++ last) (sym (d.mute was_open));
        mute = λ still. absurd (cc);
        by_end = d.by_end;
        quiet = inl refl;
        ended = d.ended;
        done_by = λ still unended. absurd (cc);
      })

module _ (stage : Stage) (game conn : ℕ) (input : Fed) (sent : List ℕ) (within : game < length stage.games)
    (knows : Knows stage conn input sent)
    (open_match : (state_of (game_at stage game)).closed ≡ false) where
  abbrev closing : Game
  closing = game_at stage game

  abbrev after_close : Stage
  after_close = record (with_game stage game (played closing Close))
      { connections = shut_in game closing stage.connections }

  closed_here : game_at after_close game ≡ played closing Close
  closed_here = get_or-set_same stage.games game (played closing Close) _ within

  same_elsewhere : (number : ℕ) → number ≢ game → game_at after_close number ≡ game_at stage number
  same_elsewhere number apart = get_or-set_other stage.games game number (played closing Close) _ apart

  close_free : FreeAreUntouched after_close
  close_free number agent free =
      let before = knows.free number agent (λ other theirs. free other
      (ap (λ (one : Connection). one.seat) (shut_at game closing stage.connections other)
      ∙ seat-shut_if game closing (connection_at stage other) ∙ theirs)) in
      by_same number game
      (λ is.
      subst (λ (one : Game). Untouched one agent) (sym (ap (λ (place : ℕ). game_at after_close place) is ∙ closed_here))
      (untouched_closed closing agent (subst (λ (place : ℕ). Untouched (game_at stage place) agent) is before)))
      (λ apart. subst (λ (one : Game). Untouched one agent) (sym (same_elsewhere number apart)) before)

  abbrev over_if : (waits : Bool) → List ℕ
  over_if waits = cond waits (text_of replies.Over) []

  close_seated : (seat : ℕ × ℕ) (connection : Connection) (waits : Bool)
      → waits ≡ ((seat.0 == game) && is_away closing seat.1) →
      IsKnown stage connection input sent (Some seat) → IsKnown after_close (cond waits (shut connection) connection)
      input (sent ++ over_if waits) (Some seat)
  close_seated seat connection waits is_wait known =
      by_same seat.0 game
      (λ is.
      let here : waits ≡ is_away closing seat.1 =
      is_wait ∙ ap (λ (it : Bool). it && is_away closing seat.1) (eq-eqb seat.0 game is) in
      let before : seat.1 < closing.setup.agents → MetIn closing seat.1 connection input sent =
      subst (λ (place : ℕ). seat.1 < (game_at stage place).setup.agents → MetIn (game_at stage place) seat.1 connection
      input sent) is known in
      subst (λ (one : Game). seat.1 < one.setup.agents → MetIn one seat.1 (cond waits (shut connection) connection)
      input (sent ++ over_if waits))
      (sym (ap (λ (place : ℕ). game_at after_close place) is ∙ closed_here))
      (λ inside. met_closed closing seat.1 connection input sent waits open_match here
      (before (subst (λ (setup : Setup). seat.1 < setup.agents) (setup-played closing Close) inside))))
      (λ apart.
      let stays : waits ≡ false =
      is_wait ∙ ap (λ (it : Bool). it && is_away closing seat.1) (ne_eqb seat.0 game apart) in
      subst (λ (it : Bool). IsKnown after_close (cond it (shut connection) connection) input (sent ++ over_if it)
      (Some seat)) (sym stays)
      (subst (λ (one : Game). seat.1 < one.setup.agents → MetIn one seat.1 connection input (sent ++ []))
      (sym (same_elsewhere seat.0 apart))
      (subst (λ (out : List ℕ). seat.1 < (game_at stage seat.0).setup.agents
      → MetIn (game_at stage seat.0) seat.1 connection input out) (sym (append-nil sent)) known)))

  close_by : (own : Option (ℕ × ℕ)) (unfinished : Option (List ℕ)) (queue : List Item) (ended : Bool) →
      let connection : Connection = record { seat = own; unfinished = unfinished; queue = queue; ended = ended } in
      IsKnown stage connection input sent own → IsKnown after_close (shut_if game closing connection) input
      (sent ++ over_if (waits_in game closing connection)) own
  close_by None unfinished queue ended (inl k) =
      inl (subst (Unseated (record { seat = None; unfinished = unfinished; queue = queue; ended = ended }) input)
      (sym (append-nil sent)) k)
  close_by None unfinished queue ended (inr k) = inr (k.0, subst IsDenial (sym (append-nil sent)) k.1)
  close_by (Some seat) unfinished queue ended known =
      close_seated seat (record { seat = Some seat; unfinished = unfinished; queue = queue; ended = ended })
      ((seat.0 == game) && is_away closing seat.1) refl known

  pub close_known : IsSettled after_close → Knows after_close conn input
      (sent ++ bytes_among conn (told_over game closing 0 stage.connections))
  close_known settled =
      let old = connection_at stage conn in
      let at : connection_at after_close conn ≡ shut_if game closing old =
      shut_at game closing stage.connections conn in
      let zero_first : 0 + conn ≡ conn = omega arith in
      let told : bytes_among conn (told_over game closing 0 stage.connections) ≡ over_if (waits_in game closing old) =
      ap (λ (other : ℕ). bytes_among other (told_over game closing 0 stage.connections)) (sym zero_first)
      ∙ told_at game closing stage.connections 0 conn in
      let now : IsKnown after_close (shut_if game closing old) input
      (sent ++ over_if (waits_in game closing old)) old.seat =
      close_by old.seat old.unfinished old.queue old.ended knows.known in
      same_bytes after_close conn input input (sent ++ over_if (waits_in game closing old))
      (sent ++ bytes_among conn (told_over game closing 0 stage.connections)) refl
      (ap (λ (more : List ℕ). sent ++ more) (sym told))
      (record {
        known = subst (λ (one : Connection). IsKnown after_close one input (sent ++ over_if (waits_in game closing old))
            one.seat) (sym at)
            (subst (λ (own : Option (ℕ × ℕ)). IsKnown after_close (shut_if game closing old) input
            (sent ++ over_if (waits_in game closing old)) own) (sym (seat-shut_if game closing old)) now);
        free = close_free;
        settled = settled;
        there = subst (λ (count : ℕ). conn < count)
            (sym (length-map stage.connections
            (λ (connection : Connection). cond (waits_in game closing connection) (shut connection) connection)))
            knows.there;
      })
