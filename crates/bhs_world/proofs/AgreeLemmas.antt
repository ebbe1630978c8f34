-- A table that stands for the events of a log stands, after a step, for the log with the event.
use Rattle.std.proofs.Common.{◌≡◌, ℕ, Bool, true, false, not, ◌&&◌, ◌||◌, Option, None, List}
use Rattle.std.proofs.Common.{refl, sym, ap, ◌∙◌, subst, if◌then◌else◌}
use Rattle.bhs_model.specs.declared.events.Event.{Event}
use Rattle.bhs_model.specs.declared.events.Event.TheVariants.{Tell, Deliver, Close}
use Rattle.bhs_model.specs.declared.marks.Mark.{Mark}
use Rattle.bhs_model.specs.declared.marks.Kept.{Kept}
use Rattle.bhs_model.specs.Worlds.{World, doomed}
use Rattle.bhs_model.specs.Runs.{Position, Before, At, Bound, After, State}
use Rattle.bhs_model.specs.Runs.{is_doomed, is_let_through}
use Rattle.bhs_model.specs.Runs.{run}
use Rattle.bhs_model.specs.Kept.{destroys, keeps, lost}
use Rattle.bhs_model.specs.Marks.{events_of}
use Rattle.bhs_state.specs.Agents.{AgentState}
use Rattle.bhs_world.specs.Tables.{Table, agent_at, world_in, Agrees, StandsFor}
use Rattle.bhs_world.specs.Tables.{keeps_next}
use Rattle.bhs_world.specs.Steps.{IsSound, heard_in, table_heard}
use Rattle.bhs_world.specs.Steps.{table_delivered, table_after, mark_after}
use Rattle.bhs_world.specs.Steps.{keeps_delivered, keeps_in}
use Rattle.bhs_model.proofs.StepLemmas.{by_cases}
use Rattle.bhs_model.proofs.LegalLemmas.{either, all_run}
use Rattle.bhs_world.proofs.GrowthLemmas.{shows_more}
use Rattle.bhs_world.proofs.PlayedLemmas.{HasPlayed, kept_played, unkept_played}
use Rattle.bhs_world.proofs.TellLemmas.{heard_same, tell_played}
use Rattle.bhs_world.proofs.DeliverLemmas.{closed_idle, deliver_played, keeps_bound, still_unkept}

-- a Close

pub close_played : (table : Table) (log : List Kept) → StandsFor table log
    → HasPlayed table (record table { closed = true }) log Close None
close_played table log stood =
    let world : World = world_in table in
    let state : State = run world (events_of log) in
    let lost : ℕ → Bool = lost world (events_of log) in
    let agrees : Agrees table log state lost = stood.state in
    let kept : Kept = record { event = Close; mark = None } in
    by_cases table.closed _
    (λ is_closed. unkept_played table (record table { closed = true }) log Close None
    (record {
      state = record { agents = agrees.agents; boards = agrees.boards; closed = agrees.closed ∙ is_closed };
      replies = stood.replies;
      named = stood.named;
      last = stood.last;
      shown = stood.shown;
    })
    (ap not (agrees.closed ∙ is_closed)) refl refl)
    (λ is_open. kept_played table table.agents table.boards true log Close None stood (ap not (agrees.closed ∙ is_open))
    (record {
      agents = λ k. record {
        position = (agrees.agents k).position;
        used = (agrees.agents k).used;
        lost = (agrees.agents k).lost;
      };
      boards = λ k. shows_more log kept _ _ (agrees.boards k);
      closed = refl;
    })
    refl tt stood.last refl)

-- each event
pub event_played : (table : Table) (log : List Kept) (event : Event) → IsSound table → StandsFor table log
    → HasPlayed table (table_after table log event) log event (mark_after table log event)
event_played table log (Tell agent command) sound stood = tell_played table log agent command sound stood
event_played table log (Deliver agent) sound stood = deliver_played table log agent stood
event_played table log Close sound stood = close_played table log stood

-- which events are kept
keeps_position : (table : Table) (state : State) (lost : ℕ
    → Bool) (agent : ℕ) (position : Position) (course : AgentState)
    → state.closed ≡ false → state.position agent ≡ position → lost agent ≡ course.lost →
    keeps (world_in table) state lost (Deliver agent) ≡ keeps_delivered (world_in table) course position
keeps_position table state lost agent (Bound node port) course is_open at is_lost =
    keeps_bound (world_in table) state lost agent node port is_open at
    ∙ ap (λ (is_lost : Bool). not (doomed (world_in table) node port) ||
    (doomed (world_in table) node port && not is_lost)) is_lost
    ∙ by_doom (doomed (world_in table) node port) course.lost
  where
    by_doom : (doom is_lost : Bool) → (not doom || (doom && not is_lost)) ≡ (if doom then not is_lost else true)
    by_doom true is_lost = refl
    by_doom false is_lost = refl
keeps_position table state lost agent Before course is_open at is_lost =
    still_unkept table state lost agent Before is_open at (refl, refl)
keeps_position table state lost agent (At node came) course is_open at is_lost =
    still_unkept table state lost agent (At node came) is_open at (refl, refl)
keeps_position table state lost agent After course is_open at is_lost =
    still_unkept table state lost agent After is_open at (refl, refl)

pub keeps_same : (table : Table) (log : List Kept) (event : Event) → StandsFor table log
    → keeps_in table event ≡ keeps_next (world_in table) log event
keeps_same table log (Tell agent command) stood =
    sym (heard_same table log (run (world_in table) (events_of log)) (lost (world_in table) (events_of log)) agent
    command stood.state (all_run (world_in table) (events_of log)))
keeps_same table log Close stood = sym (ap not stood.state.closed)
keeps_same table log (Deliver agent) stood =
    let world : World = world_in table in
    let state : State = run world (events_of log) in
    let lost : ℕ → Bool = lost world (events_of log) in
    let course : AgentState = agent_at table.agents agent in
    let is_of = stood.state.agents agent in
    by_cases table.closed _
    (λ is_closed.
    let now_closed : state.closed ≡ true = stood.state.closed ∙ is_closed in
    closed_idle table.closed (keeps_delivered world course course.position) is_closed
    ∙ sym (ap (λ (arrival : Bool). arrival || (destroys world state agent && not (lost agent)))
    (closed_idle state.closed (is_let_through world (state.position agent)) now_closed)
    ∙ ap (λ (destruction : Bool). destruction && not (lost agent))
    (closed_idle state.closed (is_doomed world (state.position agent)) now_closed)))
    (λ is_open.
    ap (λ (closed : Bool). not closed && keeps_delivered world course course.position) is_open
    ∙ sym (keeps_position table state lost agent course.position course (stood.state.closed ∙ is_open)
    is_of.position is_of.lost))

-- no event changes the network or the setup
abbrev HasSame : Table → Table → Type 0
HasSame table new = (new.net ≡ table.net) × (new.setup ≡ table.setup)

same_delivered : (table : Table) (agent : ℕ) (position : Position)
    → HasSame table (table_delivered table agent position)
same_delivered table agent (Bound node port) = (refl, refl)
same_delivered table agent Before = (refl, refl)
same_delivered table agent (At node came) = (refl, refl)
same_delivered table agent After = (refl, refl)

pub same_after : (table : Table) (log : List Kept) (event : Event) → HasSame table (table_after table log event)
same_after table log (Tell agent command) = either (HasSame table) (heard_in table agent command)
    (table_heard table log agent command) table (refl, refl) (refl, refl)
same_after table log (Deliver agent) = either (HasSame table) table.closed table
    (table_delivered table agent (agent_at table.agents agent).position) (refl, refl)
    (same_delivered table agent (agent_at table.agents agent).position)
same_after table log Close = (refl, refl)

-- Congruence: the step of an equal table with an equal mark.
pub step_played : (table new : Table) (log : List Kept) (event : Event) (mark : Option Mark)
    → mark ≡ mark_after table log event → new ≡ table_after table log event → IsSound table → StandsFor table log
    → HasPlayed table new log event mark
step_played table new log event mark is_mark is_new sound stood =
    subst (λ (new : Table). HasPlayed table new log event mark) (sym is_new)
    (subst (λ (mark : Option Mark). HasPlayed table (table_after table log event) log event mark) (sym is_mark)
    (event_played table log event sound stood))

pub step_same : (table new : Table) (log : List Kept) (event : Event) → new ≡ table_after table log event
    → HasSame table new
step_same table new log event is_new = subst (HasSame table) (sym is_new) (same_after table log event)
