-- A phase awaits news exactly if the agent is on a link, and so the machine of a session takes what a rehearsal
-- takes.
use Rattle.std.proofs.Common.{◌≡◌, ◌∙◌, ℕ, ◌⊎◌, inl, inr, Bool, true, false, cond, not, ◌&&◌, nat_lt, Option, Some}
use Rattle.std.proofs.Common.{None, List, [], ◌∷◌, ◌++◌, refl, sym, ap, subst, append-nil, ◌≢◌, arith}
use Rattle.std.proofs.lemmas.Bool.{and_parts}
use Rattle.bhs_model.specs.declared.commands.Command.{Command}
use Rattle.bhs_model.specs.declared.events.Event.TheVariants.{Tell}
use Rattle.bhs_model.specs.declared.replies.Reply.{Reply}
use Rattle.bhs_model.specs.declared.replies.Reply.TheVariants as replies
use Rattle.bhs_model.specs.declared.replies.Why.{Why}
use Rattle.bhs_model.specs.declared.replies.Why.TheVariants as whys
use Rattle.bhs_model.specs.Views.{View, Sight, Seen, Standing, Ended, standing, ports, used}
use Rattle.bhs_model.specs.Replying.{accepts, answer, here, rep, text, refusal, hears}
use Rattle.bhs_model.specs.Worlds.{World}
use Rattle.bhs_model.specs.Runs.{Position, State, arrives, glance, position_after, heard, is_bound, next}
use Rattle.bhs_model.proofs.StepLemmas.{by_cases, changed_same, next_heard, next_unheard, answered_by_past}
use Rattle.bhs_model.proofs.StepLemmas.{no_arrival_no_reply}
use Rattle.bhs_wire.specs.Lines.{Line, said_by}
use Rattle.bhs_session.specs.declared.endings.Ended.{Ended as Ending}
use Rattle.bhs_session.specs.Phase.{Phase, Ready, Awaits, ended_by, waiting, finished_or, answered_by}
use Rattle.bhs_session.specs.Texts.{text_of, command_by}
use Rattle.bhs_session.specs.Machine.{awaits, is_finished, hear, owed_text, behind_text}
use Rattle.bhs_rehearsal.specs.Games.{Game, world_in, state_of, played, reply_to, is_away}
use Rattle.bhs_rehearsal.specs.Connections.{Item, Says, Ends, TakenItems, taken, leaves, answers}
use Rattle.bhs_rehearsal.specs.Stages.{news}
use Rattle.bhs_theorems_isolation.specs.OneMachine.{Ran, heard_of, rests, runs, phase_in, Agree}
use Rattle.bhs_theorems_isolation.specs.OneMachine.{ItemsAreTakenByTheMachine}
use Rattle.bhs_theorems_isolation.specs.OneMachine.{IsNews, ArrivalsAreNews, HeardFirst}
use Rattle.bhs_theorems_isolation.proofs.CuttingLemmas.{behind}
use Rattle.bhs_rehearsal.proofs.TakeLemmas.{takes_line, takes_end, takes_none}
use Rattle.bhs_theorems_isolation.proofs.AwayLemmas.{state_of-played}
use Rattle.bhs_theorems_isolation.proofs.FitLemmas.{FitsHere, fits_here, here_stands}
use Rattle.bhs_theorems_isolation.proofs.MetDrawLemmas.{arrival, away_arrives, arrived_here}
use Rattle.bhs_theorems_isolation.proofs.AnsweredLemmas.{Fits, heard_fits}
use Rattle.bhs_theorems_isolation.proofs.EventLemmas.{takes_here, stays_here}

-- with a text before what the machine sends
abbrev then_ran : List ℕ → Ran → Ran
then_ran text ran = record ran { text = text ++ ran.text }

-- ---- the reply tells whether the agent is on a link

abbrev pub waits_after : Reply → Bool
waits_after reply = awaits (answered_by true reply)

-- A phase that agrees with the standing, if an ended agent is on no link.
phase_ties : (phase : Phase) (world : World) (view : View) (position : Position) → Fits phase (standing view)
    → (is_finished phase ≡ true → is_bound position ≡ false) → FitsHere world view position →
    awaits phase ≡ is_bound position
phase_ties phase world view position fits last fits_there = grind arith

-- A command of an agent at a node is answered, and the agent is on a link afterwards exactly if the phase awaits an
-- arrival.
pub record Ties (game : Game) (agent : ℕ) (command : Command) : Type 0 where
  pub reply : Reply
  pub replied_is : reply_to game (Tell agent command) ≡ Some reply
  pub waits : waits_after reply ≡ is_away (played game (Tell agent command)) agent

unheard_reply : (within closed may_it : Bool) (replied : Option Reply) (why : Why)
    → (within && (not closed && may_it)) ≡ false →
    (reply : Reply) × (cond within (cond closed (Some replies.Over) (cond may_it replied (Some (replies.No why))))
    (Some (replies.No whys.Agent)) ≡ Some reply) × (waits_after reply ≡ false)
unheard_reply false closed may_it replied why is = (replies.No whys.Agent, refl, refl)
unheard_reply true true may_it replied why is = (replies.Over, refl, refl)
unheard_reply true false false replied why is = (replies.No why, refl, refl)
unheard_reply true false true replied why is = absurd (cc)

pub ties : (game : Game) (agent : ℕ) (command : Command) → is_away game agent ≡ false → Ties game agent command
ties game agent command at =
    let world = world_in game in
    let state = state_of game in
    let view = state.past agent in
    let next_game = played game (Tell agent command) in
    let stands = state_of-played game (Tell agent command) in
    by_cases (heard world state agent command) (Ties game agent command)
    (λ is_heard.
    let allowed = (and_parts (not state.closed) _ (and_parts (nat_lt agent world.agents) _ is_heard).1).1 in
    let seen = glance world state (state.position agent) command in
    let reply = answer world.board (standing view) (ports view) command seen in
    let heard_state = stands ∙ next_heard world state agent command is_heard in
    let lives : standing view ≢ Ended = λ ended.
    let deaf = ap (λ (stands : Standing). accepts stands (nat_lt (used view) world.quota) command) ended in cc in
    let takes = takes_here (standing view) (here_stands world view (state.position agent) (fits_here game agent) at)
    lives in
    record {
      reply = reply;
      replied_is = answered_by_past world state agent command is_heard ∙ ap (λ (past : View). rep world.board past)
          (changed_same state.past agent _);
      waits = phase_ties (answered_by true reply) (world_in next_game) ((state_of next_game).past agent)
          ((state_of next_game).position agent)
          (subst (λ (past : View). Fits (answered_by true reply) (standing past))
          (sym (ap (λ (after : State). after.past agent) heard_state ∙ changed_same state.past agent _))
          (heard_fits world.board (standing view) (nat_lt (used view) world.quota) (ports view) command seen takes
          allowed))
          (λ is_last. ap (λ (after : State). is_bound (after.position agent)) heard_state
          ∙ ap is_bound (changed_same state.position agent (position_after world (state.position agent) command))
          ∙ stays_here world world.board (standing view) (ports view) seen (state.position agent) command is_last at)
          (fits_here next_game agent);
    })
    (λ not_heard.
    let none = unheard_reply (nat_lt agent world.agents) state.closed (hears world.quota view command)
    (rep world.board ((next world state (Tell agent command)).past agent))
    (refusal (standing view) command) not_heard in
    record {
      reply = none.0;
      replied_is = none.1;
      waits = none.2 ∙ sym (ap (λ (after : State). is_bound (after.position agent))
          (stands ∙ next_unheard world state agent command not_heard) ∙ at);
    })

-- ---- both take the same

-- The agent has entered and its session goes on.
abbrev Plays : Phase → Type 0
Plays phase = (phase ≡ Ready) ⊎ (phase ≡ Awaits)

waiting_plays : (reply : Reply) → Plays (waiting true reply)
waiting_plays reply = grind arith

-- Such a phase is determined by whether it awaits an arrival.
phase_is : (away : Bool) (phase : Phase) → Plays phase → awaits phase ≡ away → phase ≡ (cond away Awaits Ready)
phase_is away phase plays waits = grind arith

abbrev TakesAlike : Game → (agent : ℕ) → List Item → Phase → Type 0
TakesAlike game agent items phase = Plays phase → awaits phase ≡ is_away game agent
    → Agree agent (taken game agent items) (runs phase game agent items)

-- what follows an answer
answer_agrees : (game : Game) (agent : ℕ) (items : List Item) (reply : Reply) (ended : Option Ending) →
    awaits (finished_or ended (waiting true reply)) ≡ is_away game agent →
    ((phase : Phase) → TakesAlike game agent items phase) →
    Agree agent (cond (is_finished (finished_or ended (waiting true reply)))
    (record { game = game; is_done = true; left = []; text = text_of reply })
    (behind (text_of reply) (taken game agent items)))
    (then_ran (text_of reply) (runs (finished_or ended (waiting true reply)) game agent items))
answer_agrees game agent items reply (Some ending) waits later = record {
  game = refl;
  text = append-nil (text_of reply);
  left = refl;
  done = refl;
  phase = λ goes_on. absurd (cc);
}
answer_agrees game agent items reply None waits later =
    let rest = later (waiting true reply) (waiting_plays reply) waits in
    subst (λ (last : Bool). Agree agent (cond last
    (record { game = game; is_done = true; left = []; text = text_of reply })
    (behind (text_of reply) (taken game agent items)))
    (then_ran (text_of reply) (runs (waiting true reply) game agent items)))
    (sym (not_finished (waiting true reply) (waiting_plays reply)))
    (record {
      game = rest.game;
      text = ap (λ (more : List ℕ). text_of reply ++ more) rest.text;
      left = rest.left;
      done = rest.done;
      phase = rest.phase;
    })
  where
    not_finished : (phase : Phase) → Plays phase → is_finished phase ≡ false
    not_finished phase (inl is) = ap is_finished is
    not_finished phase (inr is) = ap is_finished is

leaves_agrees : (game : Game) (agent : ℕ) (items : List Item) (phase : Phase) → Plays phase
    → awaits phase ≡ is_away game agent → is_finished phase ≡ false →
    Agree agent (leaves game items) (rests phase game items)
leaves_agrees game agent items phase plays waits goes_on = record {
  game = refl;
  text = refl;
  left = refl;
  done = goes_on;
  phase = λ still. phase_is (is_away game agent) phase plays waits;
}

line_agrees : (game : Game) (agent : ℕ) (line : Line) (items : List Item) → is_away game agent ≡ false →
    ((phase : Phase) → TakesAlike (played game (Tell agent (command_by (said_by line)))) agent items phase) →
    Agree agent (taken game agent (Says line ∷ items)) (runs Ready game agent (Says line ∷ items))
line_agrees game agent line items here later =
    let command = command_by (said_by line) in
    let event = Tell agent command in
    let next_game = played game event in
    let t = ties game agent command here in
    subst (λ (old : TakenItems). Agree agent old (runs Ready game agent (Says line ∷ items)))
    (sym (takes_line game agent line items here))
    (subst (λ (replied : Option Reply). Agree agent (answers replied next_game (taken next_game agent items))
    (then_ran (owed_text (hear Ready (heard_of replied)))
    (runs (behind_text (hear Ready (heard_of replied))) next_game agent items)))
    (sym t.replied_is)
    (answer_agrees next_game agent items t.reply (ended_by t.reply) t.waits later))

end_agrees : (game : Game) (agent : ℕ) (items : List Item) → is_away game agent ≡ false
    → Agree agent (taken game agent (Ends ∷ items)) (runs Ready game agent (Ends ∷ items))
end_agrees game agent items here =
    subst (λ (old : TakenItems). Agree agent old (runs Ready game agent (Ends ∷ items)))
    (sym (takes_end game agent items here))
    (record { game = refl; text = refl; left = refl; done = refl; phase = λ still. absurd (cc) })

away_agrees : (game : Game) (agent : ℕ) (items : List Item) → is_away game agent ≡ true
    → Agree agent (taken game agent items) (runs Awaits game agent items)
away_agrees game agent items away =
    subst (λ (old : TakenItems). Agree agent old (runs Awaits game agent items)) (sym
    (takes_none game agent items away))
    (leaves_agrees game agent items Awaits (inr refl) (sym away) refl)

taken_agree : (game : Game) (agent : ℕ) (items : List Item) (phase : Phase) → TakesAlike game agent items phase
taken_agree game agent items phase (inr is) waits =
    subst (λ (now : Phase). Agree agent (taken game agent items) (runs now game agent items)) (sym is)
    (away_agrees game agent items (sym waits ∙ ap awaits is))
taken_agree game agent [] phase (inl is) waits =
    subst (λ (now : Phase). Agree agent (taken game agent []) (runs now game agent [])) (sym is)
    (leaves_agrees game agent [] Ready (inl refl) (sym (ap awaits is) ∙ waits) refl)
taken_agree game agent (Says line ∷ items) phase (inl is) waits =
    subst (λ (now : Phase). Agree agent (taken game agent (Says line ∷ items))
    (runs now game agent (Says line ∷ items))) (sym is)
    (line_agrees game agent line items (sym waits ∙ ap awaits is)
    (λ next_phase. taken_agree (played game (Tell agent (command_by (said_by line)))) agent items next_phase))
taken_agree game agent (Ends ∷ items) phase (inl is) waits =
    subst (λ (now : Phase). Agree agent (taken game agent (Ends ∷ items)) (runs now game agent (Ends ∷ items))) (sym is)
    (end_agrees game agent items (sym waits ∙ ap awaits is))

phase_plays : (away : Bool) → Plays (cond away Awaits Ready)
phase_plays true = inr refl
phase_plays false = inl refl

phase_awaits : (away : Bool) → awaits (cond away Awaits Ready) ≡ away
phase_awaits true = refl
phase_awaits false = refl

pub items_lemma : ItemsAreTakenByTheMachine
items_lemma game agent items = taken_agree game agent items (phase_in game agent) (phase_plays (is_away game agent))
    (phase_awaits (is_away game agent))

-- ---- news

here_is_ready : (limit : ℕ) (sight : Sight) → behind_text (news (here limit sight)) ≡ Ready
here_is_ready limit (Seen ports came last_write) = refl

pub news_lemma : ArrivalsAreNews
news_lemma game agent reply replied =
    let world = world_in game in
    let state = state_of game in
    by_cases (arrives world state agent) (IsNews game agent reply)
    (λ comes.
    let a = arrival game agent comes in
    let away = away_arrives world state agent comes in
    let same : here game.setup.board a.sight ≡ reply = let some = a.replied_is in cc in
    record {
      awaited = ap (λ (is : Bool). cond is Awaits Ready) away.0;
      then_ready = ap (λ (told : Reply). behind_text (news told)) (sym same) ∙ here_is_ready game.setup.board a.sight;
      arrived = ap (λ (is : Bool). cond is Awaits Ready) (arrived_here game agent comes);
    })
    (λ stays. absurd (let none = no_arrival_no_reply world state agent stays in cc))

pub first_lemma : HeardFirst
first_lemma = record { enter = λ reply. refl; key = refl; taken = refl }
