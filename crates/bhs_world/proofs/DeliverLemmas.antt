-- A Deliver brings about what a step is to bring about.
use Rattle.std.proofs.Common.{◌≡◌, ℕ, ◌<◌, Bool, true, false, not, ◌&&◌, ◌||◌, Option, Some, None, List}
use Rattle.std.proofs.Common.{length, refl, sym, ap, ◌∙◌, subst, inl, inr, ◌==◌, if◌then◌else◌}
use Rattle.std.specs.Prelude.{slice_set}
use Rattle.std.proofs.lemmas.List.{get_or_past}
use Rattle.bhs_net.specs.Network.{far_of}
use Rattle.bhs_model.specs.declared.events.Event.TheVariants.{Deliver}
use Rattle.bhs_model.specs.declared.marks.Mark.{Mark}
use Rattle.bhs_model.specs.declared.marks.Kept.{Kept}
use Rattle.bhs_model.specs.declared.replies.Reply.{Reply}
use Rattle.bhs_model.specs.Views.{used}
use Rattle.bhs_model.specs.Replying.{rep}
use Rattle.bhs_model.specs.Worlds.{World, doomed}
use Rattle.bhs_model.specs.Runs.{Position, Before, At, Bound, After, State, changed}
use Rattle.bhs_model.specs.Runs.{is_doomed, is_let_through, arrives, arrived, delivered}
use Rattle.bhs_model.specs.Runs.{next, run, reply}
use Rattle.bhs_model.specs.Kept.{destroys, lost_after, keeps, lost}
use Rattle.bhs_model.specs.Marks.{events_of, read_if}
use Rattle.bhs_model.specs.Places.{written, place_shown}
use Rattle.bhs_state.specs.Agents.{AgentState, newcomer}
use Rattle.bhs_world.specs.Tables.{Table, agent_at, world_in, IsCourseOf, Agrees, IsNamed, StandsFor}
use Rattle.bhs_world.specs.Steps.{mark_here}
use Rattle.bhs_world.specs.Steps.{table_delivered, mark_delivered, table_after, mark_after}
use Rattle.bhs_world.proofs.ListLemmas.{each_set, changed_same, lt_tells}
use Rattle.bhs_model.proofs.StepLemmas.{by_cases}
use Rattle.bhs_world.proofs.GrowthLemmas.{shows_more, read_same}
use Rattle.bhs_world.proofs.GrowthLemmas.{named_more}
use Rattle.bhs_world.proofs.MarkLemmas.{here_reads}
use Rattle.bhs_world.proofs.MarkLemmas.{here_named}
use Rattle.bhs_world.proofs.PlayedLemmas.{HasPlayed, chosen_false, chosen_true, grown, kept_played, unkept_played}
use Rattle.bhs_world.proofs.TellLemmas.{none_shown}

-- a Deliver

-- The agent travels on this link in an open match.
arrives_bound : (world : World) (state : State) (agent node port : ℕ) → state.closed ≡ false
    → state.position agent ≡ Bound node port → arrives world state agent ≡ not (doomed world node port)
arrives_bound world state agent node port is_open at =
    ap (λ (closed : Bool). not closed && is_let_through world (state.position agent)) is_open
    ∙ ap (is_let_through world) at

destroys_bound : (world : World) (state : State) (agent node port : ℕ) → state.closed ≡ false
    → state.position agent ≡ Bound node port → destroys world state agent ≡ doomed world node port
destroys_bound world state agent node port is_open at =
    ap (λ (closed : Bool). not closed && is_doomed world (state.position agent)) is_open ∙ ap (is_doomed world) at

pub keeps_bound : (world : World) (state : State) (lost : ℕ → Bool) (agent node port : ℕ) → state.closed ≡ false
    → state.position agent ≡ Bound node port →
    keeps world state lost (Deliver agent) ≡ (not (doomed world node port) ||
    (doomed world node port && not (lost agent)))
keeps_bound world state lost agent node port is_open at =
    ap (λ (arrival : Bool). arrival || (destroys world state agent && not (lost agent)))
    (arrives_bound world state agent node port is_open at)
    ∙ ap (λ (destruction : Bool). not (doomed world node port) || (destruction && not (lost agent)))
    (destroys_bound world state agent node port is_open at)

-- an agent that is on no link is neither let through nor destroyed
abbrev IsStill : World → Position → Type 0
IsStill world position = (is_let_through world position ≡ false) × (is_doomed world position ≡ false)

and_false : (b c : Bool) → c ≡ false → (b && c) ≡ false
and_false true c h = h
and_false false c h = refl

-- where nothing comes of a Deliver
idle_played : (table : Table) (log : List Kept) (agent : ℕ) → StandsFor table log →
    arrives (world_in table) (run (world_in table) (events_of log)) agent ≡ false
    → destroys (world_in table) (run (world_in table) (events_of log)) agent ≡ false →
    HasPlayed table table log (Deliver agent) None
idle_played table log agent stood no_arrival no_destruction =
    let world : World = world_in table in
    let state : State = run world (events_of log) in
    let lost : ℕ → Bool = lost world (events_of log) in
    unkept_played table table log (Deliver agent) None stood
    (ap (λ (arrival : Bool). arrival || (destroys world state agent && not (lost agent))) no_arrival
    ∙ ap (λ (destruction : Bool). destruction && not (lost agent)) no_destruction)
    (sym (chosen_false (arrives world state agent) (rep world.board ((next world state (Deliver agent)).past agent))
    None no_arrival))
    (none_shown world state (written world (events_of log)) (Deliver agent)
    (sym (chosen_false (arrives world state agent) (rep world.board ((next world state (Deliver agent)).past agent))
    None no_arrival)))

pub closed_idle : (closed b : Bool) → closed ≡ true → (not closed && b) ≡ false
closed_idle closed b h = rw h refl

-- The agent's position is no link.
still_arrives : (world : World) (state : State) (agent : ℕ) (position : Position) → state.position agent ≡ position
    → IsStill world position → (arrives world state agent ≡ false) × (destroys world state agent ≡ false)
still_arrives world state agent position at still = (
  and_false (not state.closed) _ (ap (is_let_through world) at ∙ still.0),
  and_false (not state.closed) _
      (ap (is_doomed world) at ∙ still.1),
)

still_played : (table : Table) (log : List Kept) (agent : ℕ) (position : Position) → StandsFor table log
    → (agent_at table.agents agent).position ≡ position → IsStill (world_in table) position
    → HasPlayed table table log (Deliver agent) None
still_played table log agent position stood on still =
    let state : State = run (world_in table) (events_of log) in
    let idle = still_arrives (world_in table) state agent position ((stood.state.agents agent).position ∙ on) still in
    idle_played table log agent stood idle.0 idle.1

pub still_unkept : (table : Table) (state : State) (lost : ℕ → Bool) (agent : ℕ) (position : Position)
    → state.closed ≡ false → state.position agent ≡ position → IsStill (world_in table) position
    → keeps (world_in table) state lost (Deliver agent) ≡ false
still_unkept table state lost agent position is_open at still =
    let idle = still_arrives (world_in table) state agent position at still in
    ap (λ (arrival : Bool). arrival || (destroys (world_in table) state agent && not (lost agent))) idle.0
    ∙ ap (λ (destruction : Bool). destruction && not (lost agent)) idle.1

-- an agent that is destroyed
lost_agents : (table : Table) (log : List Kept) (state : State) (lost after : ℕ → Bool) (agent : ℕ)
    → Agrees table log state lost → agent < length table.agents → after agent ≡ true
    → ((k : ℕ) → (k == agent) ≡ false → after k ≡ lost k) →
    (k : ℕ) → IsCourseOf (agent_at (slice_set table.agents agent
    (record {
      position = (agent_at table.agents agent).position;
      used = (agent_at table.agents agent).used;
      lost = true;
    })) k) state (after k) k
lost_agents table log state lost after agent agrees within now_lost others =
    each_set (λ k course. IsCourseOf course state (after k) k) table.agents agent _ newcomer within
    (record { position = (agrees.agents agent).position; used = (agrees.agents agent).used; lost = now_lost })
    (λ k other. record {
      position = (agrees.agents k).position;
      used = (agrees.agents k).used;
      lost = others k other
          ∙ (agrees.agents k).lost;
    })

destroyed_played : (table : Table) (log : List Kept) (agent node port : ℕ) → StandsFor table log
    → agent < length table.agents → table.closed ≡ false →
    (agent_at table.agents agent).position ≡ Bound node port → doomed (world_in table) node port ≡ true →
    HasPlayed table (record table {
      agents = slice_set table.agents agent
          (record {
            position = (agent_at table.agents agent).position;
            used = (agent_at table.agents agent).used;
            lost = true;
          });
    }) log (Deliver agent) None
destroyed_played table log agent node port stood within is_open on is_doomed_link =
    let world : World = world_in table in
    let state : State = run world (events_of log) in
    let lost : ℕ → Bool = lost world (events_of log) in
    let agrees : Agrees table log state lost = stood.state in
    let open_state : state.closed ≡ false = agrees.closed ∙ is_open in
    let at : state.position agent ≡ Bound node port = (agrees.agents agent).position ∙ on in
    let no_arrival : arrives world state agent ≡ false = arrives_bound world state agent node port open_state at
    ∙ ap not is_doomed_link in
    let destruction : destroys world state agent ≡ true = destroys_bound world state agent node port open_state at
    ∙ is_doomed_link in
    let agents : List AgentState = slice_set table.agents agent
    (record {
      position = (agent_at table.agents agent).position;
      used = (agent_at table.agents agent).used;
      lost = true;
    }) in
    let new : Table = record table { agents = agents } in
    let replied : None ≡ reply world state (Deliver agent) =
    sym (chosen_false (arrives world state agent) (rep world.board ((next world state (Deliver agent)).past agent))
    None no_arrival) in
    let same_next : next world state (Deliver agent) ≡ state =
    chosen_false (arrives world state agent) (delivered world state agent (state.position agent))
    state no_arrival in
    let same_keeps : keeps world state lost (Deliver agent) ≡ not (lost agent) =
    ap (λ (arrival : Bool). arrival || (destroys world state agent && not (lost agent))) no_arrival
    ∙ ap (λ (destruction : Bool). destruction && not (lost agent)) destruction in
    by_cases (lost agent) _
    (λ was_lost. unkept_played table new log (Deliver agent) None
    (record {
      state = record {
        agents = lost_agents table log state lost lost agent agrees within was_lost (λ k other. refl);
        boards = agrees.boards;
        closed = agrees.closed;
      };
      replies = stood.replies;
      named = stood.named;
      last = stood.last;
      shown = stood.shown;
    })
    (same_keeps ∙ ap not was_lost) replied (none_shown world state (written world (events_of log))
    (Deliver agent) replied))
    (λ not_lost.
    let after : ℕ → Bool = changed lost agent true in
    let same_lost : lost_after world state lost (Deliver agent) ≡ after =
    chosen_true (destroys world state agent) after lost destruction in
    let now : Agrees new (grown log (Deliver agent) None) state after = record {
      agents = lost_agents table log state lost after agent agrees within (changed_same lost agent true)
          (λ k other. rw other refl);
      boards = λ k. shows_more log (record { event = Deliver agent; mark = None }) _ _ (agrees.boards k);
      closed = agrees.closed;
    } in
    kept_played table agents table.boards table.closed log (Deliver agent) None stood (same_keeps ∙ ap not not_lost)
    (subst (λ (state' : State). Agrees new (grown log (Deliver agent) None) state'
    (lost_after world state lost (Deliver agent))) (sym same_next)
    (subst (λ (lost' : ℕ → Bool). Agrees new (grown log (Deliver agent) None) state lost') (sym same_lost) now))
    replied tt stood.last (none_shown world state (written world (events_of log)) (Deliver agent) replied))

-- an agent that arrives
arrived_agents : (table : Table) (log : List Kept) (state : State) (lost : ℕ → Bool) (agent node label : ℕ)
    → Agrees table log state lost → agent < length table.agents →
    (k : ℕ) → IsCourseOf (agent_at (slice_set table.agents agent
    (record {
      position = At node (Some label);
      used = (agent_at table.agents agent).used;
      lost = (agent_at table.agents agent).lost;
    })) k) (arrived (world_in table) state agent node label) (lost k) k
arrived_agents table log state lost agent node label agrees within =
    let world : World = world_in table in
    each_set (λ k course. IsCourseOf course (arrived world state agent node label) (lost k) k) table.agents agent
    _ newcomer within
    (record {
      position = changed_same state.position agent (At node (Some label));
      used = ap used (changed_same state.past agent _) ∙ (agrees.agents agent).used;
      lost = (agrees.agents agent).lost;
    })
    (λ k other. record {
      position = rw other (agrees.agents k).position;
      used = rw other (agrees.agents k).used;
      lost = (agrees.agents k).lost;
    })

arrived_played : (table : Table) (log : List Kept) (agent node port : ℕ) → StandsFor table log
    → agent < length table.agents → table.closed ≡ false →
    (agent_at table.agents agent).position ≡ Bound node port → doomed (world_in table) node port ≡ false →
    HasPlayed table (record table {
      agents = slice_set table.agents agent
          (record {
            position = At (far_of table.net node port).0 (Some (far_of table.net node port).1);
            used = (agent_at table.agents agent).used;
            lost = (agent_at table.agents agent).lost;
          });
    }) log (Deliver agent)
    (Some (mark_here (world_in table) table.boards (far_of table.net node port).0
    (Some (far_of table.net node port).1)))
arrived_played table log agent node port stood within is_open on is_safe =
    let world : World = world_in table in
    let state : State = run world (events_of log) in
    let lost : ℕ → Bool = lost world (events_of log) in
    let agrees : Agrees table log state lost = stood.state in
    let open_state : state.closed ≡ false = agrees.closed ∙ is_open in
    let at : state.position agent ≡ Bound node port = (agrees.agents agent).position ∙ on in
    let arrival : arrives world state agent ≡ true = arrives_bound world state agent node port open_state at
    ∙ ap not is_safe in
    let no_destruction : destroys world state agent ≡ false =
    destroys_bound world state agent node port open_state at ∙ is_safe in
    let there : ℕ = (far_of table.net node port).0 in
    let label : ℕ = (far_of table.net node port).1 in
    let agents : List AgentState = slice_set table.agents agent
    (record {
      position = At there (Some label);
      used = (agent_at table.agents agent).used;
      lost = (agent_at table.agents agent).lost;
    }) in
    let new : Table = record table { agents = agents } in
    let mark : Option Mark = Some (mark_here world table.boards there (Some label)) in
    let kept : Kept = record { event = Deliver agent; mark = mark } in
    let same_next : next world state (Deliver agent) ≡ arrived world state agent there label =
    chosen_true (arrives world state agent) (delivered world state agent (state.position agent)) state arrival
    ∙ ap (delivered world state agent) at in
    let same_lost : lost_after world state lost (Deliver agent) ≡ lost =
    chosen_false (destroys world state agent) (changed lost agent true) lost no_destruction in
    let at_place : ℕ → Option ℕ = written world (events_of log) in
    let is_kept : keeps world state lost (Deliver agent) ≡ true =
    ap (λ (arrival : Bool). arrival || (destroys world state agent && not (lost agent))) arrival in
    let is_named : IsNamed log mark = here_named table.setup.board world state.last_write log table.boards there
    (Some label) agrees.boards in
    let reads : read_if log mark ≡ rep world.board ((arrived world state agent there label).past agent) =
    ap Some (here_reads world state log table.boards there (Some label) agrees.boards)
    ∙ ap (rep world.board) (sym (changed_same state.past agent _)) in
    let replied : read_if log mark ≡ reply world state (Deliver agent) =
    reads ∙ ap (λ (after : State). rep world.board (after.past agent)) (sym same_next)
    ∙ sym (chosen_true (arrives world state agent) (rep world.board ((next world state (Deliver agent)).past agent))
    None arrival) in
    let now : Agrees new (grown log (Deliver agent) mark) (arrived world state agent there label) lost = record {
      agents = arrived_agents table log state lost agent there label agrees within;
      boards = λ k. shows_more log kept _ _ (agrees.boards k);
      closed = agrees.closed;
    } in
    kept_played table agents table.boards table.closed log (Deliver agent) mark stood is_kept
    (subst (λ (state' : State). Agrees new (grown log (Deliver agent) mark) state'
    (lost_after world state lost (Deliver agent))) (sym same_next)
    (subst (λ (lost' : ℕ → Bool). Agrees new (grown log (Deliver agent) mark) (arrived world state agent there label)
    lost') (sym same_lost) now))
    (read_same log kept mark is_named ∙ replied)
    (named_more log kept mark is_named)
    stood.last
    (stood.last there
    ∙ ap (place_shown at_place (read_if log mark))
    (sym (ap (λ (after : State). after.position agent) same_next
    ∙ changed_same state.position agent (At there (Some label))))
    ∙ ap (λ (reply : Option Reply). place_shown at_place reply ((next world state (Deliver agent)).position agent))
    replied)

-- Only an agent of the match travels on a link.
bound_within : (table : Table) (agent node port : ℕ) → (agent_at table.agents agent).position ≡ Bound node port
    → agent < length table.agents
bound_within table agent node port on = elim (lt_tells agent (length table.agents)) [
  | inl h ↦ h.1
  | inr h ↦ absurd (no_newcomer (ap (λ (course : AgentState). course.position)
      (sym (get_or_past table.agents agent newcomer h.1)) ∙ on))
]
  where
    no_newcomer : Before ≡ Bound node port → ⊥
    no_newcomer h = cc

-- by where the agent is
delivered_played : (table : Table) (log : List Kept) (agent : ℕ) (position : Position) → StandsFor table log
    → table.closed ≡ false → (agent_at table.agents agent).position ≡ position →
    HasPlayed table (table_delivered table agent position) log (Deliver agent)
    (mark_delivered (world_in table) table.boards position)
delivered_played table log agent (Bound node port) stood is_open on =
    let world : World = world_in table in
    let within : agent < length table.agents = bound_within table agent node port on in
    let course : AgentState = agent_at table.agents agent in
    let there : ℕ = (far_of table.net node port).0 in
    let label : ℕ = (far_of table.net node port).1 in
    let destroyed : AgentState = record { position = course.position; used = course.used; lost = true } in
    let arrived : AgentState = record { position = At there (Some label); used = course.used; lost = course.lost } in
    let here : Option Mark = Some (mark_here world table.boards there (Some label)) in
    let with : AgentState → Table = λ course. record table { agents = slice_set table.agents agent course } in
    let played : Bool → Type 0 = λ b. HasPlayed table (with (if b then destroyed else arrived)) log (Deliver agent)
    (if b then None else here) in
    by_cases (doomed world node port) _
    (λ is_doomed_link. subst played (sym is_doomed_link)
    (destroyed_played table log agent node port stood within is_open on is_doomed_link))
    (λ is_safe. subst played (sym is_safe) (arrived_played table log agent node port stood within is_open on is_safe))
delivered_played table log agent Before stood is_open on = still_played table log agent Before stood on (refl, refl)
delivered_played table log agent (At node came) stood is_open on =
    still_played table log agent (At node came) stood on (refl, refl)
delivered_played table log agent After stood is_open on = still_played table log agent After stood on (refl, refl)

pub deliver_played : (table : Table) (log : List Kept) (agent : ℕ) → StandsFor table log →
    HasPlayed table (table_after table log (Deliver agent)) log (Deliver agent) (mark_after table log (Deliver agent))
deliver_played table log agent stood =
    let world : World = world_in table in
    let state : State = run world (events_of log) in
    let position : Position = (agent_at table.agents agent).position in
    let played : Bool → Type 0 = λ b. HasPlayed table (if b then table else table_delivered table agent position) log
    (Deliver agent) (if b then None else mark_delivered world table.boards position) in
    by_cases table.closed _
    (λ is_closed. subst played (sym is_closed) (idle_played table log agent stood
    (closed_idle state.closed (is_let_through world (state.position agent)) (stood.state.closed ∙ is_closed))
    (closed_idle state.closed (is_doomed world (state.position agent)) (stood.state.closed ∙ is_closed))))
    (λ is_open. subst played (sym is_open) (delivered_played table log agent position stood is_open refl))
