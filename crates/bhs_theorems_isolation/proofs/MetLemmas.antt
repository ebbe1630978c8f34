-- The invariant of a connection is preserved by each instruction.
use Rattle.std.proofs.Common.{◌≡◌, ◌≢◌, ◌∙◌, ℕ, zero, suc, ◌<◌, inl, inr, Bool, true, false, cond}
use Rattle.std.proofs.Common.{Option, Some, None, List, [], ◌∷◌, ◌++◌, length, replicate, refl}
use Rattle.std.proofs.Common.{sym, ap, subst, append_assoc, append-nil, arith}
use Rattle.std.proofs.lemmas.List.{length-set, length-map}
use Rattle.bhs_model.specs.declared.events.Event.{Event}
use Rattle.bhs_model.specs.declared.setups.Setup.{Setup}
use Rattle.bhs_model.specs.Views.{View, Away, standing}
use Rattle.bhs_model.specs.Runs.{initial, is_bound, run_from}
use Rattle.bhs_setups.specs.KeyTable.{Seat}
use Rattle.bhs_rehearsal.specs.Games.{Game, world_in, state_of, is_away, drawn, delivered}
use Rattle.bhs_rehearsal.specs.Connections.{Connection, Item, unfed, shut}
use Rattle.bhs_rehearsal.specs.Stages.{Stage, game_at, connection_at, Instruction, Feeds, EndsInput, Draws, Delivers}
use Rattle.bhs_rehearsal.specs.Stages.{Closes, Stepped, waits_in, step, begun, stands_after, sends}
use Rattle.bhs_theorems_isolation.specs.ScriptLaws.{awaits_arrival, IsSettled}
use Rattle.bhs_theorems_isolation.specs.Clients.{bytes_among, bytes_to, Fed, nothing_fed, at_end, fed_by, fed_to}
use Rattle.bhs_theorems_isolation.proofs.CuttingLemmas.{by_bool}
use Rattle.bhs_theorems_isolation.proofs.TurnLemmas.{grown, ending, bare}
use Rattle.bhs_theorems_isolation.proofs.SettlingLemmas.{settle_lemma, scripts_lemma, fresh_at}
use Rattle.bhs_theorems_isolation.specs.Met.{view_of, bytes, takes_commands}
use Rattle.bhs_theorems_isolation.specs.ScriptHeadline.{beginning, outcome, sent_in, match_of, past_of}
use Rattle.bhs_theorems_isolation.specs.SentAsMet.{IsDenial, OthersAreDenied, over_text, IsSentAsMet, SentAsMet}
use Rattle.bhs_theorems_isolation.proofs.OverLemmas.{over_none}
use Rattle.bhs_theorems_isolation.proofs.FitLemmas.{fits_here, away_stands, here_stands}
use Rattle.bhs_theorems_isolation.proofs.TookLemmas.{lines_of}
use Rattle.bhs_theorems_isolation.proofs.KnownLemmas.{MetBy, fed_if, IsKnown}
use Rattle.bhs_theorems_isolation.proofs.MetMoveLemmas.{Knows, same_bytes}
use Rattle.bhs_theorems_isolation.proofs.MetClientLemmas.{client, end_ready, fed_ready, nothing_more, unended_known}
use Rattle.bhs_theorems_isolation.proofs.MetClientLemmas.{unread_known}
use Rattle.bhs_theorems_isolation.proofs.MetDrawLemmas.{draw_untold, draw_told}
use Rattle.bhs_theorems_isolation.proofs.MetCloseLemmas.{close_known}
use Rattle.bhs_theorems_isolation.proofs.StepCases.{by_client, event_step, by_event, by_close}
use Rattle.bhs_theorems_isolation.proofs.SettledLemmas.{seat_within}

-- ---- every instruction

-- what is known after a step that settles
abbrev KnowsBy : (conn : ℕ) → Fed → (sent : List ℕ) → Stepped → Type 0
KnowsBy conn input sent done =
    IsSettled done.stage → Knows done.stage conn input (sent ++ bytes_among conn done.outs)

event_known : (stage : Stage) (conn : ℕ) (input : Fed) (sent : List ℕ) (game : ℕ) (event : Option Event) →
    Knows stage conn input sent → IsSettled (event_step stage game event).stage →
    Knows (event_step stage game event).stage conn input (sent ++ bytes_among conn (event_step stage game event).outs)
event_known stage conn input sent game event knows = by_event (KnowsBy conn input sent) stage game event
    (λ settled. nothing_more stage conn input sent knows)
    (λ agent below. draw_untold stage game agent conn input sent below knows)
    (λ agent holder reply below. draw_told stage game agent conn input sent below knows holder reply)

step_known : (stage : Stage) (conn : ℕ) (input : Fed) (sent : List ℕ) (instruction : Instruction)
    → Knows stage conn input sent →
    Knows (step stage instruction).stage conn (fed_by conn input instruction)
    (sent ++ bytes_among conn (step stage instruction).outs)
step_known stage conn input sent (Feeds mover fed) knows =
    let old = connection_at stage mover in
    client stage mover conn (grown old fed) (fed_if input fed) input sent refl knows
    (unread_known stage old input sent fed old.seat) (fed_ready stage old input sent fed old.seat)
    (settle_lemma stage (Feeds mover fed) knows.settled)
step_known stage conn input sent (EndsInput mover) knows =
    let old = connection_at stage mover in
    client stage mover conn (ending old) (at_end input) input sent refl knows
    (unended_known stage old input sent old.seat) (end_ready stage old input sent old.seat)
    (settle_lemma stage (EndsInput mover) knows.settled)
step_known stage conn input sent (Draws game word) knows =
    event_known stage conn input sent game (drawn (game_at stage game) word) knows
    (settle_lemma stage (Draws game word) knows.settled)
step_known stage conn input sent (Delivers game agent) knows =
    event_known stage conn input sent game (delivered (game_at stage game) agent) knows
    (settle_lemma stage (Delivers game agent) knows.settled)
step_known stage conn input sent (Closes game) knows =
    by_close (KnowsBy conn input sent) stage game (λ settled. nothing_more stage conn input sent knows)
    (λ below still settled. close_known stage game conn input sent below knows still settled)
    (settle_lemma stage (Closes game) knows.settled)

-- ---- scripts

script_known : (stage : Stage) (conn : ℕ) (input : Fed) (sent : List ℕ) (script : List Instruction)
    → Knows stage conn input sent →
    Knows (stands_after stage script) conn (fed_to conn input script) (sent ++ bytes_to conn (sends stage script))
script_known stage conn input sent [] knows = nothing_more stage conn input sent knows
script_known stage conn input sent (instruction ∷ script) knows =
    let next_stage = (step stage instruction).stage in
    let outs = (step stage instruction).outs in
    let fed = fed_by conn input instruction in
    same_bytes (stands_after next_stage script) conn (fed_to conn fed script) (fed_to conn fed script)
    ((sent ++ bytes_among conn outs) ++ bytes_to conn (sends next_stage script))
    (sent ++ (bytes_among conn outs ++ bytes_to conn (sends next_stage script)))
    refl (append_assoc sent (bytes_among conn outs) (bytes_to conn (sends next_stage script)))
    (script_known next_stage conn fed (sent ++ bytes_among conn outs) script
    (step_known stage conn input sent instruction knows))

-- ---- the number of connections is unchanged

abbrev HasAsMany : Stage → Stepped → Type 0
HasAsMany stage done = length done.stage.connections ≡ length stage.connections

length_event : (stage : Stage) (game : ℕ) (event : Option Event) → HasAsMany stage (event_step stage game event)
length_event stage game event = by_event (HasAsMany stage) stage game event refl (λ agent below untold. refl)
    (λ agent conn reply below answered within seated. length-set stage.connections conn _)

length_step : (stage : Stage) (instruction : Instruction) → length (step stage instruction).stage.connections ≡ length
    stage.connections
length_step stage (Feeds conn bytes) =
    by_client (HasAsMany stage) stage conn (grown (connection_at stage conn) bytes) (connection_at stage conn).ended
    (λ idle. refl) (λ within goes_on. length-set stage.connections conn _)
length_step stage (EndsInput conn) =
    by_client (HasAsMany stage) stage conn (ending (connection_at stage conn)) (connection_at stage conn).ended
    (λ idle. refl) (λ within goes_on. length-set stage.connections conn _)
length_step stage (Draws game word) = length_event stage game (drawn (game_at stage game) word)
length_step stage (Delivers game agent) = length_event stage game (delivered (game_at stage game) agent)
length_step stage (Closes game) = by_close (HasAsMany stage) stage game refl
    (λ below still. length-map stage.connections
    (λ (connection : Connection). cond (waits_in game (game_at stage game) connection) (shut connection) connection))

length_script : (stage : Stage) (script : List Instruction) → length (stands_after stage script).connections ≡ length
    stage.connections
length_script stage [] = refl
length_script stage (instruction ∷ script) = length_script (step stage instruction).stage script
    ∙ length_step stage instruction

-- ---- from the start

length_fresh : (count : ℕ) → length (replicate count unfed) ≡ count
length_fresh zero = refl
length_fresh (suc count) = ap suc (length_fresh count)

begun_known : (games : List Game) (keys : List Seat) (connections conn : ℕ) → conn < connections
    → ((game : ℕ) → (game_at (begun games keys connections) game).log ≡ []) →
    Knows (begun games keys connections) conn nothing_fed []
begun_known games keys connections conn there fresh_logs =
    let start = begun games keys connections in
    record {
      known = subst (λ (one : Connection). IsKnown start one nothing_fed [] one.seat) (sym (fresh_at connections conn))
          (inl (record {
            heard = refl;
            reads = record { split = refl; still = λ again. refl; ends = refl; end_waits = refl; last = tt };
          }));
      free = λ game agent free. record {
        past = ap (λ (log : List Event). (run_from (world_in (game_at start game)) initial log).past agent)
            (fresh_logs game);
        at = ap (λ (log : List Event). is_bound ((run_from (world_in (game_at start game)) initial log).position agent))
            (fresh_logs game);
      };
      settled = scripts_lemma games keys connections [];
      there = subst (λ (count : ℕ). conn < count) (sym (length_fresh connections)) there;
    }

sent_of : (setup : Setup) (past : View) (closed away : Bool) (connection : Connection) (input : Fed) (sent : List ℕ)
    (waits : Bool) → waits ≡ away → (away ≡ false → standing past ≢ Away) →
    (waits ≡ false → connection.queue ≡ []) → (waits ≡ true → standing past ≡ Away) →
    MetBy setup past closed away connection input sent → IsSentAsMet setup past closed input sent
sent_of setup past closed away connection input sent waits is here settled on_link (inl (g, open_yet)) = record {
  met = g.met;
  taken = g.taken;
  untaken = lines_of connection.queue;
  split = g.reads.split;
  said = g.said;
  due = g.due;
  lived = inl g.lived;
  sends = g.heard ∙ sym (append-nil (bytes setup.board g.met))
      ∙ ap (λ (last : List ℕ). bytes setup.board g.met ++ last) (sym (elim open_yet [
        | inl open_match ↦ ap (λ (closed : Bool). over_text closed (standing (view_of g.met))
            (lines_of connection.queue)) open_match
        | inr stays ↦ ap (λ (items : List Item). over_text closed (standing (view_of g.met)) (lines_of items))
            (settled (is ∙ stays))
            ∙ over_none closed (standing (view_of g.met))
            (λ on. here stays (ap standing g.lived ∙ on))
      ]));
  all_taken = λ still unended takes. by_bool waits (λ (is : Bool). lines_of connection.queue ≡ [])
      (λ on. absurd (let at = ap (λ (view : View). takes_commands (standing view)) g.lived in
      let away_now = ap takes_commands (on_link on) in cc))
      (λ off. ap lines_of (settled off));
}
sent_of setup past closed away connection input sent waits is here settled on_link (inr d) = record {
  met = d.met;
  taken = d.taken;
  untaken = d.over;
  split = d.split;
  said = d.said;
  due = d.due;
  lived = d.lived;
  sends = d.heard;
  all_taken = λ still unended takes. absurd (let never = d.done_by still unended in cc);
}

pub sent_as_met_lemma : SentAsMet
sent_as_met_lemma one conn seat fresh_logs seated inside =
    let start = beginning one in
    let final = outcome one in
    let game = match_of one seat in
    let fed = fed_to conn nothing_fed one.script in
    let sent = sent_in one conn in
    let below : conn < one.connections =
    let within = seat_within final.connections conn seat seated in
    let same = length_script start one.script in
    let count = length_fresh one.connections in
    omega (arith, within, same, count) in
    let knows = script_known start conn nothing_fed [] one.script
    (begun_known one.games one.keys one.connections conn below fresh_logs) in
    let known : IsKnown final (connection_at final conn) fed sent (Some seat) =
    subst (λ (own : Option (ℕ × ℕ)). IsKnown final (connection_at final conn) fed sent own) seated knows.known in
    let waits : awaits_arrival final (connection_at final conn) ≡ is_away game seat.1 =
    ap (λ (own : Option (ℕ × ℕ)). awaits_arrival final (bare own)) seated in
    sent_of game.setup (past_of one seat) (state_of game).closed (is_away game seat.1)
    (connection_at final conn) fed sent
    (awaits_arrival final (connection_at final conn)) waits
    (here_stands (world_in game) (past_of one seat) ((state_of game).position seat.1) (fits_here game seat.1))
    (knows.settled.all_taken conn)
    (λ on. away_stands (world_in game) (past_of one seat) ((state_of game).position seat.1) (fits_here game seat.1)
    (sym waits ∙ on)) (known inside)

denied_of : (stage : Stage) (connection : Connection) (input : Fed) (sent : List ℕ)
    → IsKnown stage connection input sent None → IsDenial sent
denied_of stage connection input sent (inl known) = inl known.heard
denied_of stage connection input sent (inr known) = known.1

pub others_lemma : OthersAreDenied
others_lemma one conn fresh_logs there outside =
    let final = outcome one in
    let fed = fed_to conn nothing_fed one.script in
    let sent = sent_in one conn in
    let knows = script_known (beginning one) conn nothing_fed [] one.script
    (begun_known one.games one.keys one.connections conn there fresh_logs) in
    denied_of final (connection_at final conn) fed sent
    (subst (λ (own : Option (ℕ × ℕ)). IsKnown final (connection_at final conn) fed sent own) outside knows.known)
