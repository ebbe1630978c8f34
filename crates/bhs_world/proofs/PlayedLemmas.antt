-- The postcondition of a step, with cases for kept and for dropped events.
use Rattle.std.proofs.Common.{◌≡◌, ℕ, ◌+◌, Bool, true, false, Option, List, [], ◌∷◌}
use Rattle.std.proofs.Common.{◌++◌, length, refl, sym, ap, ◌∙◌, subst, arith, if◌then◌else◌}
use Rattle.std.specs.Prelude.{option_and_then}
use Rattle.bhs_model.specs.declared.events.Event.{Event}
use Rattle.bhs_model.specs.declared.marks.Mark.{Mark}
use Rattle.bhs_model.specs.declared.marks.Kept.{Kept}
use Rattle.bhs_model.specs.declared.replies.Reply.{Reply}
use Rattle.bhs_model.specs.Worlds.{World}
use Rattle.bhs_model.specs.Runs.{State, initial}
use Rattle.bhs_model.specs.Runs.{next, run, reply}
use Rattle.bhs_model.specs.InOrder.{replies}
use Rattle.bhs_model.specs.Kept.{lost_after, lost, nobody}
use Rattle.bhs_model.specs.Marks.{events_of, read_if, board_of}
use Rattle.bhs_model.specs.Places.{written_after, unwritten, written}
use Rattle.bhs_model.specs.Places.{named, names}
use Rattle.bhs_state.specs.Agents.{AgentState}
use Rattle.bhs_state.specs.Boards.{Whiteboard}
use Rattle.bhs_world.specs.Tables.{Table, board_at, world_in, Agrees, IsNamed, StandsFor}
use Rattle.bhs_world.specs.Tables.{keeps_next, log_after}
use Rattle.bhs_world.proofs.GrowthLemmas.{run_from_more, lost_from_more, written_from_more, names_from_more}
use Rattle.bhs_world.proofs.GrowthLemmas.{events_count, replies_from_more, events_more}
use Rattle.bhs_world.proofs.GrowthLemmas.{reads_same, all_named_more, all_append, map_more}

pub chosen_true : {A : Type 0} (b : Bool) (x y : A) → b ≡ true → (if b then x else y) ≡ x
chosen_true b x y h = rw h refl

pub chosen_false : {A : Type 0} (b : Bool) (x y : A) → b ≡ false → (if b then x else y) ≡ y
chosen_false b x y h = rw h refl

-- the postcondition of a step
pub record HasPlayed (table new : Table) (log : List Kept) (event : Event) (mark : Option Mark) : Type 0 where
  pub reply : read_if (log_after (world_in table) log event mark) mark ≡ reply (world_in table)
      (run (world_in table) (events_of log)) event
  pub stands : StandsFor new (log_after (world_in table) log event mark)
  pub shown : option_and_then board_of mark ≡ named (world_in table) (run (world_in table) (events_of log))
      (written (world_in table) (events_of log)) event

-- the log that the event joins
abbrev pub grown : List Kept → Event → Option Mark → List Kept
grown log event mark = log ++ record { event = event; mark = mark } ∷ []

-- an event that is kept
pub kept_played : (table : Table) (agents : List AgentState) (boards : List Whiteboard) (closed : Bool)
    (log : List Kept)
    (event : Event) (mark : Option Mark) → StandsFor table log →
    keeps_next (world_in table) log event ≡ true →
    Agrees (record table { agents = agents; boards = boards; closed = closed }) (grown log event mark)
    (next (world_in table) (run (world_in table) (events_of log)) event)
    (lost_after (world_in table) (run (world_in table) (events_of log))
    (lost (world_in table) (events_of log)) event) →
    read_if (grown log event mark) mark ≡ reply (world_in table) (run (world_in table) (events_of log)) event →
    IsNamed (grown log event mark) mark →
    ((node : ℕ) → (board_at boards node).last ≡ written_after (world_in table) (run (world_in table) (events_of log))
    (length log) (written (world_in table) (events_of log)) event node) →
    option_and_then board_of mark ≡ named (world_in table) (run (world_in table) (events_of log))
    (written (world_in table) (events_of log)) event →
    HasPlayed table (record table { agents = agents; boards = boards; closed = closed }) log event mark
kept_played table agents boards closed log event mark stood is_kept agrees replied is_named last shown =
    let world : World = world_in table in
    let state : State = run world (events_of log) in
    let kept : Kept = record { event = event; mark = mark } in
    let new : Table = record table { agents = agents; boards = boards; closed = closed } in
    let events : events_of (grown log event mark) ≡ events_of log ++ event ∷ [] = events_more log kept in
    let same_state : run world (events_of (grown log event mark)) ≡ next world state event = ap (run world) events
    ∙ run_from_more world initial (events_of log) event in
    let same_lost : lost world (events_of (grown log event mark)) ≡ lost_after world state (lost world (events_of log))
    event = ap (lost world) events ∙ lost_from_more world initial nobody (events_of log) event in
    let same_log : log_after world log event mark ≡ grown log event mark =
    chosen_true (keeps_next world log event) (grown log event mark) log is_kept in
    let counted : length log ≡ 0 + length (events_of log) = omega (arith, events_count log) in
    let stands : StandsFor new (grown log event mark) = record {
      state = subst (λ (state : State). Agrees new (grown log event mark) state
          (lost world (events_of (grown log event mark)))) (sym same_state)
          (subst (λ (lost : ℕ → Bool). Agrees new (grown log event mark) (next world state event) lost)
          (sym same_lost) agrees);
      replies = map_more (λ (one : Kept). read_if (grown log event mark) one.mark) log kept
          ∙ ap (λ (before : List (Option Reply)). before ++ read_if (grown log event mark) mark ∷ [])
          (reads_same log kept log stood.named ∙ stood.replies)
          ∙ ap (λ (last : Option Reply). replies world (events_of log) ++ last ∷ []) replied
          ∙ sym (ap (replies world) events ∙ replies_from_more world initial (events_of log) event);
      named = all_append (λ (one : Kept). IsNamed (grown log event mark) one.mark) log kept
          (all_named_more log kept log stood.named) is_named;
      last = λ node. last node ∙ sym (ap (λ (at : ℕ → Option ℕ). at node)
          (ap (written world) events ∙ written_from_more world initial 0 (length log) unwritten (events_of log)
          event counted));
      shown = map_more (λ (one : Kept). option_and_then board_of one.mark) log kept
          ∙ ap (λ (before : List (Option ℕ)). before ++ option_and_then board_of mark ∷ []) stood.shown
          ∙ ap (λ (at : Option ℕ). names world (events_of log) ++ at ∷ []) shown
          ∙ sym (ap (names world) events ∙ names_from_more world initial 0 unwritten (events_of log) event);
    } in
    record {
      reply = subst (λ (log' : List Kept). read_if log' mark ≡ reply world state event) (sym same_log) replied;
      stands = subst (StandsFor new) (sym same_log) stands;
      shown = shown;
    }

-- An event that is not kept leaves the log unchanged.
pub unkept_played : (table new : Table) (log : List Kept) (event : Event) (mark : Option Mark) → StandsFor new log →
    keeps_next (world_in table) log event ≡ false →
    read_if log mark ≡ reply (world_in table) (run (world_in table) (events_of log)) event →
    option_and_then board_of mark ≡ named (world_in table) (run (world_in table) (events_of log))
    (written (world_in table) (events_of log)) event →
    HasPlayed table new log event mark
unkept_played table new log event mark stands is_unkept replied shown =
    let world : World = world_in table in
    let same_log : log_after world log event mark ≡ log =
    chosen_false (keeps_next world log event) (grown log event mark) log is_unkept in
    record {
      reply = subst (λ (log' : List Kept). read_if log' mark ≡ reply world (run world (events_of log)) event)
          (sym same_log) replied;
      stands = subst (StandsFor new) (sym same_log) stands;
      shown = shown;
    }
